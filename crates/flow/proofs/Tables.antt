-- What a table holds, slot by slot: what the lowest instruction is, and what a write changes.
use Rattle.std.proofs.Common.{◌≡◌, ℕ, zero, suc, ◌+◌, ◌<◌, ◌⊎◌, ◌↔◌, List, [], ◌∷◌, length, set, replicate, Some, None, refl, ap, ◌∙◌, inl, inr, arith, length-set, get_or-set_other, get_or-set_same}
use lib.ListN.{length-replicate}
use Rattle.std.proofs.lemmas.Bool.{cases_eq}
use Rattle.flow.specs.Search.{Slot, blank, found, taken, frame_of, slot_at, lowest_from, lowest, blank_from, start}
use Rattle.flow.specs.Order.{LowestFound}

module _ {F : Type 0} where
  -- instruction k has the frame f
  abbrev pub Has : List (Slot F) → ℕ → F → Type 0
  Has t k f = frame_of (slot_at t k) ≡ Some f

  pub has_inside : (t : List (Slot F)) (k : ℕ) (f : F) → Has t k f → k < length t
  has_inside [] k f h = grind arith
  has_inside (s ∷ t) zero f h = omega arith
  has_inside (s ∷ t) (suc k) f h = let i = has_inside t k f h in omega arith

  pub has_one : (t : List (Slot F)) (k : ℕ) (f g : F) → Has t k f → Has t k g → f ≡ g
  has_one t k f g a b = cc

  -- the lowest, counted from a
  lowest_is_found : (a : ℕ) (t : List (Slot F)) (k : ℕ) (f : F) → lowest_from a t ≡ Some (k, f) → (i : ℕ) × (k ≡ a + i) × (slot_at t i ≡ found f) × (i < length t)
  lowest_is_found a [] k f e = grind arith
  lowest_is_found a (blank ∷ t) k f e = let ih = lowest_is_found (a + 1) t k f e in (suc ih.0, omega arith, ih.2, omega arith)
  lowest_is_found a (found g ∷ t) k f e = (0, grind arith, grind arith, omega arith)
  lowest_is_found a (taken g ∷ t) k f e = let ih = lowest_is_found (a + 1) t k f e in (suc ih.0, omega arith, ih.2, omega arith)

  pub lowest-found : (t : List (Slot F)) (k : ℕ) (f : F) → lowest t ≡ Some (k, f) → (slot_at t k ≡ found f) × (k < length t)
  lowest-found t k f e =
      let p = lowest_is_found 0 t k f e in
      let q : k ≡ p.0 = omega arith in
      (ap (slot_at t) q ∙ p.2, omega arith)

  lowest_none_lower : (a : ℕ) (t : List (Slot F)) (i : ℕ) (f : F) → lowest_from a t ≡ Some (a + i, f) → (j : ℕ) (g : F) → j < i → slot_at t j ≡ found g → ⊥
  lowest_none_lower a [] i f e j g l x = let z : ◌≡◌ {A = ℕ} 0 1 = cc in omega arith
  lowest_none_lower a (blank ∷ t) zero f e j g l x = omega arith
  lowest_none_lower a (blank ∷ t) (suc i) f e zero g l x = let z : ◌≡◌ {A = ℕ} 0 1 = cc in omega arith
  lowest_none_lower a (blank ∷ t) (suc i) f e (suc j) g l x = lowest_none_lower (a + 1) t i f (e ∙ ap (λ n. Some (n, f)) (omega arith)) j g (omega arith) x
  lowest_none_lower a (found h ∷ t) i f e j g l x = let n : a ≡ a + i = grind arith in omega arith
  lowest_none_lower a (taken h ∷ t) zero f e j g l x = omega arith
  lowest_none_lower a (taken h ∷ t) (suc i) f e zero g l x = let z : ◌≡◌ {A = ℕ} 0 1 = cc in omega arith
  lowest_none_lower a (taken h ∷ t) (suc i) f e (suc j) g l x = lowest_none_lower (a + 1) t i f (e ∙ ap (λ n. Some (n, f)) (omega arith)) j g (omega arith) x

  found_is_lowest : (a : ℕ) (t : List (Slot F)) (i : ℕ) (f : F) → slot_at t i ≡ found f → ((j : ℕ) (g : F) → j < i → slot_at t j ≡ found g → ⊥) → lowest_from a t ≡ Some (a + i, f)
  found_is_lowest a [] i f e h = let z : ◌≡◌ {A = ℕ} 0 1 = cc in absurd (omega arith)
  found_is_lowest a (s ∷ t) zero f e h = ap (λ x. lowest_from a (x ∷ t)) e ∙ ap (λ n. Some (n, f)) (omega arith)
  found_is_lowest a (blank ∷ t) (suc i) f e h = found_is_lowest (a + 1) t i f e (λ j g l. h (suc j) g (omega arith)) ∙ ap (λ n. Some (n, f)) (omega arith)
  found_is_lowest a (found g ∷ t) (suc i) f e h = absurd (h 0 g (omega arith) refl)
  found_is_lowest a (taken g ∷ t) (suc i) f e h = found_is_lowest (a + 1) t i f e (λ j g l. h (suc j) g (omega arith)) ∙ ap (λ n. Some (n, f)) (omega arith)

  -- it is what it is called
  pub lowest_is_lowest : (t : List (Slot F)) (k : ℕ) (f : F) → (lowest t ≡ Some (k, f)) ↔ LowestFound t k f
  lowest_is_lowest t k f = (
    λ e. record { here = (lowest-found t k f e).0; none_lower = lowest_none_lower 0 t k f (e ∙ ap (λ n. Some (n, f)) (omega arith)) },
    λ l. found_is_lowest 0 t k f l.here l.none_lower ∙ ap (λ n. Some (n, f)) (omega arith),
  )

  none-untaken : (a : ℕ) (t : List (Slot F)) (k : ℕ) (f : F) → lowest_from a t ≡ None → Has t k f → slot_at t k ≡ taken f
  none-untaken a [] k f e h = grind arith
  none-untaken a (blank ∷ t) zero f e h = grind arith
  none-untaken a (blank ∷ t) (suc k) f e h = none-untaken (a + 1) t k f e h
  none-untaken a (found g ∷ t) k f e h = grind arith
  none-untaken a (taken g ∷ t) zero f e h = grind arith
  none-untaken a (taken g ∷ t) (suc k) f e h = none-untaken (a + 1) t k f e h

  -- where no instruction is found and untaken, one that has a frame was taken with it
  pub lowest-none : (t : List (Slot F)) (k : ℕ) (f : F) → lowest t ≡ None → Has t k f → slot_at t k ≡ taken f
  lowest-none t k f e h = none-untaken 0 t k f e h

  none-blank : (a : ℕ) (t : List (Slot F)) (k : ℕ) → blank_from a t ≡ None → k < length t → (f : F) × Has t k f
  none-blank a [] k e h = absurd (omega arith)
  none-blank a (blank ∷ t) k e h = grind arith
  none-blank a (found g ∷ t) zero e h = (g, refl)
  none-blank a (found g ∷ t) (suc k) e h = none-blank (a + 1) t k e (omega arith)
  none-blank a (taken g ∷ t) zero e h = (g, refl)
  none-blank a (taken g ∷ t) (suc k) e h = none-blank (a + 1) t k e (omega arith)

  -- where no instruction is blank, each has a frame, and the other way round
  pub full_has : (t : List (Slot F)) (k : ℕ) → blank_from 0 t ≡ None → k < length t → (f : F) × Has t k f
  full_has t k e h = none-blank 0 t k e h

  past : (g : F) (s : Slot F) (t : List (Slot F)) → frame_of s ≡ Some g → (i : ℕ) → ((j : ℕ) → j < i → (f : F) × Has t j f) → (j : ℕ) → j < suc i → (f : F) × Has (s ∷ t) j f
  past g s t e i h zero l = (g, e)
  past g s t e i h (suc j) l = h j (omega arith)

  blank-lowest : (a : ℕ) (t : List (Slot F)) (k : ℕ) → blank_from a t ≡ Some k → (i : ℕ) × (k ≡ a + i) × (slot_at t i ≡ blank) × (i < length t) × ((j : ℕ) → j < i → (f : F) × Has t j f)
  blank-lowest a [] k e = let z : ◌≡◌ {A = ℕ} 0 1 = cc in absurd (omega arith)
  blank-lowest a (blank ∷ t) k e = let n : a ≡ k = cc in (0, omega arith, refl, omega arith, λ j l. absurd (omega arith))
  blank-lowest a (found g ∷ t) k e = let ih = blank-lowest (a + 1) t k e in (suc ih.0, omega arith, ih.2, omega arith, past g (found g) t refl ih.0 ih.4)
  blank-lowest a (taken g ∷ t) k e = let ih = blank-lowest (a + 1) t k e in (suc ih.0, omega arith, ih.2, omega arith, past g (taken g) t refl ih.0 ih.4)

  -- the lowest blank: every lower instruction has a frame
  pub blank_is_lowest : (t : List (Slot F)) (k : ℕ) → blank_from 0 t ≡ Some k → (slot_at t k ≡ blank) × (k < length t) × ((j : ℕ) → j < k → (f : F) × Has t j f)
  blank_is_lowest t k e =
      let p = blank-lowest 0 t k e in
      let q : k ≡ p.0 = omega arith in
      (ap (slot_at t) q ∙ p.2, omega arith, λ j l. p.4 j (omega arith))

  pub has_full : (a : ℕ) (t : List (Slot F)) → ((k : ℕ) → k < length t → (f : F) × Has t k f) → blank_from a t ≡ None
  has_full a [] h = refl
  has_full a (blank ∷ t) h = let p = h 0 (omega arith) in let q = p.1 in grind arith
  has_full a (found g ∷ t) h = has_full (a + 1) t (λ k l. h (suc k) (omega arith))
  has_full a (taken g ∷ t) h = has_full (a + 1) t (λ k l. h (suc k) (omega arith))

  -- at the start the first instruction alone has a frame
  blanks : (n k : ℕ) → slot_at {F = F} (replicate n blank) k ≡ blank
  blanks zero k = refl
  blanks (suc n) zero = refl
  blanks (suc n) (suc k) = blanks n k

  pub start_slots : (n : ℕ) (f : F) (k : ℕ) → (slot_at (start n f) k ≡ blank) ⊎ ((k ≡ 0) × (slot_at (start n f) k ≡ found f))
  start_slots zero f k = inl refl
  start_slots (suc n) f zero = inr (refl, refl)
  start_slots (suc n) f (suc k) = inl (blanks n k)

  pub start_first : (n : ℕ) (f : F) → 0 < n → slot_at (start n f) 0 ≡ found f
  start_first zero f h = absurd (omega arith)
  start_first (suc n) f h = refl

  pub start_long : (n : ℕ) (f : F) → length (start n f) ≡ n
  start_long n f = length-set (replicate n blank) 0 (found f) ∙ length-replicate n blank

  -- a write to slot k: what stands at j then
  pub written : (t : List (Slot F)) (k : ℕ) (s : Slot F) (j : ℕ) → k < length t → ((j ≡ k) × (slot_at (set t k s) j ≡ s)) ⊎ ((j ≡ k → ⊥) × (slot_at (set t k s) j ≡ slot_at t j))
  written t k s j l = elim (cases_eq j k) [
    | inl e ↦ inl (e, ap (slot_at (set t k s)) e ∙ get_or-set_same t k s blank l)
    | inr n ↦ inr (n, get_or-set_other t k j s blank n)
  ]
