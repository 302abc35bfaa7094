-- What put and remove do to the map, key by key and in number: the laws that callers of stores rely on.
use Rattle.std.specs.Prelude.{◌≡◌, ℕ, ◌+◌, Bool, true, cond, List, length, Some, None, Ok, Result}
use Rattle.store.specs.declared.keys.Key.{Key}
use Rattle.store.specs.declared.refusals.Refusal.{Refusal}
use Rattle.store.specs.Model.{Model, Sound, is_touched, put_after, remove_after}
use Rattle.store.specs.Pairs.{entry, holds}

-- the key j has the same words, if any, and is touched or not as before
abbrev pub SameAt : Key → Model → Model → Type 0
SameAt j old new = (entry j new.pairs ≡ entry j old.pairs) × (is_touched new.touched j ≡ is_touched old.touched j)

abbrev pub PutIsFound : Type 0
PutIsFound = (m : Model) (k : Key) (ws : List ℕ) → entry k (put_after m k ws (Ok tt)).pairs ≡ Some (k, ws)

abbrev pub PutAltersItsKeyAlone : Type 0
PutAltersItsKeyAlone = (m : Model) → Sound m → (k : Key) (ws : List ℕ) (r : Result (Unit {0}) Refusal) (j : Key) → ¬ (j ≡ k) → SameAt j m (put_after m k ws r)

abbrev pub RemovedIsGone : Type 0
RemovedIsGone = (m : Model) → Sound m → (k : Key) → entry k (remove_after m k (Ok true)).pairs ≡ None

abbrev pub RemoveAltersItsKeyAlone : Type 0
RemoveAltersItsKeyAlone = (m : Model) → Sound m → (k : Key) (r : Result Bool Refusal) (j : Key) → ¬ (j ≡ k) → SameAt j m (remove_after m k r)

abbrev pub PutCounts : Type 0
PutCounts = (m : Model) (k : Key) (ws : List ℕ) → length (put_after m k ws (Ok tt)).pairs ≡ cond (holds k m.pairs) (length m.pairs) (length m.pairs + 1)

abbrev pub RemoveCounts : Type 0
RemoveCounts = (m : Model) (k : Key) → length (remove_after m k (Ok true)).pairs + cond (holds k m.pairs) 1 0 ≡ length m.pairs
