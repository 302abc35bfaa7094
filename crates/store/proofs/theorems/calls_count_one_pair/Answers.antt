use Rattle.store.proofs.KeyByKey.{put_counts, remove_counts}
use Rattle.store.proofs.theorems.calls_count_one_pair.Goals as goal

pub returns : goal.returns
returns c = record { put = put_counts; remove = remove_counts }
