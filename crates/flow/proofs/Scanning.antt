-- The lowest instruction of a table, looked for slot by slot.
use Rattle.std.proofs.Common.{◌≡◌, ℕ, ◌+◌, ◌<◌, ◌≤◌, List, map, length, get_or, drop, Some, None, refl, ap, ◌∙◌, arith}
use Rattle.std.proofs.lemmas.List.{drop_more, drop_all, get_or-map, length-map}
use Rattle.flow.specs.Search.{Slot, blank, found, taken, slot_at, lowest_from, blank_from}

module _ {F : Type 0} (t : List (Slot F)) (k : ℕ) where
  pub lowest_here : (f : F) → k < length t → slot_at t k ≡ found f → lowest_from k (drop k t) ≡ Some (k, f)
  lowest_here f l e = let h = drop_more t k blank l in grind arith

  pub lowest_past : k < length t → ((f : F) → slot_at t k ≡ found f → ⊥) → lowest_from (k + 1) (drop (k + 1) t) ≡ lowest_from k (drop k t)
  lowest_past l e = go (slot_at t k) refl
    where
      go : (s : Slot F) → slot_at t k ≡ s → lowest_from (k + 1) (drop (k + 1) t) ≡ lowest_from k (drop k t)
      go blank p = let h = drop_more t k blank l in grind arith
      go (found f) p = absurd (e f p)
      go (taken f) p = let h = drop_more t k blank l in grind arith

  pub lowest_nowhere : length t ≤ k → lowest_from k (drop k t) ≡ None
  lowest_nowhere l = ap (lowest_from k) (drop_all k t l)

  pub blank_here : k < length t → slot_at t k ≡ blank → blank_from k (drop k t) ≡ Some k
  blank_here l e = let h = drop_more t k blank l in grind arith

  pub blank_past : k < length t → (slot_at t k ≡ blank → ⊥) → blank_from (k + 1) (drop (k + 1) t) ≡ blank_from k (drop k t)
  blank_past l e = go (slot_at t k) refl
    where
      go : (s : Slot F) → slot_at t k ≡ s → blank_from (k + 1) (drop (k + 1) t) ≡ blank_from k (drop k t)
      go blank p = absurd (e p)
      go (found f) p = let h = drop_more t k blank l in grind arith
      go (taken f) p = let h = drop_more t k blank l in grind arith

  pub blank_nowhere : length t ≤ k → blank_from k (drop k t) ≡ None
  blank_nowhere l = ap (blank_from k) (drop_all k t l)

-- a table that stands for a row of code: what stands at k is what the code's slot stands for
module _ {A F : Type 0} (shows : A → Slot F) (xs : List A) (k : ℕ) where
  pub shown_slot : (d x : A) → k < length xs → get_or xs k d ≡ x → slot_at (map shows xs) k ≡ shows x
  shown_slot d x l e = get_or-map shows xs k d blank l ∙ ap shows e

  pub shown-inside : k < length xs → k < length (map shows xs)
  shown-inside l = let h = length-map xs shows in omega arith
