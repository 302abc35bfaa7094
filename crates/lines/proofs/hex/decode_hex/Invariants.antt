use Rattle.std.proofs.Common.{◌≡◌, vec_items}
use Rattle.std.specs.Slice.Iter.{chunks_rest, chunks_size}
use Rattle.lines.specs.Hex.{onto, unhex}
use Rattle.lines.proofs.hex.decode_hex.Given as goal

abbrev pub invariant-loop-pair : goal.invariant-loop-pair
invariant-loop-pair l = record {
  pairs : chunks_size l.pair-iterator ≡ 2;
  told : onto (vec_items l.bytes) (unhex (chunks_rest l.pair-iterator)) ≡ unhex l.text;
}
