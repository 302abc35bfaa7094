-- The laws that callers of drafts rely on.
use Rattle.std.specs.Prelude.{◌≡◌, ℕ, ◌≤◌, true, false, List, [], length, Some, Ok}
use Rattle.store.specs.declared.keys.Key.{Key}
use Rattle.store.specs.Model.{Model, Sound, cap, fits, put_answer, put_after}
use Rattle.store.specs.Pairs.{Entry, ordered, entry, holds}
use Rattle.draft.specs.Layer.{layer}
use Rattle.draft.specs.Overlay.{overlay, shadow}

-- a draft answers for the keys that it touched, and the store below for the others
abbrev pub ChangesHideWhatIsBelow : Type 0
ChangesHideWhatIsBelow = (k : Key) (ts ps : List Entry) → ordered ts ≡ true → ordered ps ≡ true → entry k (overlay ts ps) ≡ shadow (entry k ts) (entry k ps)

-- a key that the draft emptied is absent and takes words again, whatever the store below has there
abbrev pub EmptiedKeyTakesWords : Type 0
EmptiedKeyTakesWords =
    (m : Model) (ts : List Entry) (k : Key) (ws : List ℕ) → Sound m → ordered ts ≡ true → length ts ≤ cap → entry k ts ≡ Some (k, []) → fits ws ≡ true
    → (holds k (layer m ts).pairs ≡ false) × ((put_answer (layer m ts) k ws ≡ Ok tt) × (entry k (put_after (layer m ts) k ws (Ok tt)).pairs ≡ Some (k, ws)))
