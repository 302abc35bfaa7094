use Rattle.types.proofs.Rules.{bytes_tell, abilities_tell}
use Rattle.types.proofs.theorems.bytes_and_abilities_tell_each_other.Goals as goal

pub returns : goal.returns
returns c = record { bytes = bytes_tell; abilities = abilities_tell }
