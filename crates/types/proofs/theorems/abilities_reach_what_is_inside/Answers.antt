use Rattle.types.proofs.Inside.{copy_holds, drop-holds, store_holds, key_holds}
use Rattle.types.proofs.theorems.abilities_reach_what_is_inside.Goals as goal

pub returns : goal.returns
returns c = record { copy = copy_holds; drop = drop-holds; store = store_holds; key = key_holds }
