use Rattle.std.proofs.Common.{refl}
use Rattle.bytecode.specs.Kinds.{body_length}
use Rattle.codec.specs.Reading.{cutting}
use Rattle.codec.specs.Walking.{placed_from}
use Rattle.modules.specs.Modules.{up_to, sections, number_from}
use Rattle.modules.proofs.theorems.seven_says_so.Goals as goal

pub returns : goal.returns
unfolding body_length cutting placed_from up_to sections number_from
returns c = refl
