use Rattle.std.proofs.Common.{◌≡◌, ◌++◌, string_bytes}
use Rattle.std.specs.List.{flat_map}
use Rattle.codec.specs.Walking.{to_come}
use Rattle.listing.specs.Listing.{line_text, listing}
use Rattle.listing.proofs.listing.list_records.Given as goal

abbrev pub invariant-loop-placed : goal.invariant-loop-placed
invariant-loop-placed l = string_bytes l.out ++ flat_map line_text (to_come l.placed-iterator) ≡ string_bytes l.initial.out ++ listing l.bytes
