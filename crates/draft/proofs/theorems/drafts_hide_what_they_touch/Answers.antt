use Rattle.draft.proofs.Laws.{changes_hide_what_is_below, emptied_key_takes_words}
use Rattle.draft.proofs.theorems.drafts_hide_what_they_touch.Goals as goal

pub returns : goal.returns
returns c = record { hidden = changes_hide_what_is_below; emptied = emptied_key_takes_words }
