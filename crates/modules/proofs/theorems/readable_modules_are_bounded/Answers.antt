use Rattle.modules.proofs.ModuleBounds.{readable_bounded}
use Rattle.modules.proofs.NumberLaws.{numbers_fit}
use Rattle.modules.proofs.theorems.readable_modules_are_bounded.Goals as goal

pub returns : goal.returns
returns c = record { bounded = readable_bounded; numbers = numbers_fit }
