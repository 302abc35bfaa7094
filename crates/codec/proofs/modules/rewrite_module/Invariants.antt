use Rattle.codec.specs.Walking.{to_come}
use Rattle.codec.proofs.Rewriting.{Rewriting}
use Rattle.codec.proofs.modules.rewrite_module.Given as goal

abbrev pub invariant-loop-placed : goal.invariant-loop-placed
invariant-loop-placed l = Rewriting l.bytes l.initial.buffer l.buffer l.used (to_come l.placed-iterator)
