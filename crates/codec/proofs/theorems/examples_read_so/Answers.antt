-- The definition computes each answer.
use Rattle.std.proofs.Common.{refl}
use Rattle.bytecode.specs.Kinds.{body_length}
use Rattle.codec.specs.Reading.{cutting, judging}
use Rattle.codec.proofs.theorems.examples_read_so.Goals as goal

pub returns : goal.returns
unfolding body_length cutting judging
returns c = (refl, (refl, (refl, (refl, (refl, tt)))))
