use Rattle.types.proofs.Growth.{grows_new, lawful_old, lawful_new}
use Rattle.types.proofs.theorems.older_types_stay.Goals as goal

pub returns : goal.returns
returns c = record { stay = grows_new; lawful = λ ds tab l. (lawful_old ds tab l, lawful_new ds tab l) }
