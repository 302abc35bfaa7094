use Rattle.codec.specs.Walking.{to_come}
use Rattle.modules.proofs.Decoding.{Decoding}
use Rattle.modules.proofs.rows.Rows.decode.Given as goal

abbrev pub invariant-loop-placed : goal.invariant-loop-placed
invariant-loop-placed l = Decoding l.bytes l.self (to_come l.placed-iterator)
