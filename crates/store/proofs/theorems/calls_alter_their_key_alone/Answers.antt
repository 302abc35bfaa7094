use Rattle.store.proofs.KeyByKey.{put_is_found, put_alone, removed_is_gone, remove_alone}
use Rattle.store.proofs.theorems.calls_alter_their_key_alone.Goals as goal

pub returns : goal.returns
returns c = record { found = put_is_found; put = put_alone; gone = removed_is_gone; remove = remove_alone }
