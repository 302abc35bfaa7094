use Rattle.types.proofs.Examples.{judged, measured}
use Rattle.types.proofs.theorems.examples_stand_so.Goals as goal

pub returns : goal.returns
returns c = record { judged = judged; measured = measured }
