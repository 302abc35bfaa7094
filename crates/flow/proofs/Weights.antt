-- How often instructions of a table can be taken still, at most.
use Rattle.std.proofs.Common.{◌≡◌, ℕ, zero, suc, ◌+◌, ◌*◌, ◌<◌, ◌≤◌, List, [], ◌∷◌, length, set, replicate, Some, None, refl, arith}
use Rattle.flow.specs.Search.{Slot, blank, found, taken, frame_of, slot_at, lowest_from, lowest, start}

module _ {F : Type 0} (depth : ℕ) (size : F → ℕ) where
  abbrev pub weigh : Slot F → ℕ
  weigh blank = depth + 1
  weigh (found f) = size f + 1
  weigh (taken f) = size f

  abbrev pub weight : List (Slot F) → ℕ
  weight [] = 0
  weight (s ∷ t) = weigh s + weight t

  pub weight-set : (t : List (Slot F)) (k : ℕ) (s : Slot F) → k < length t → weight (set t k s) + weigh (slot_at t k) ≡ weight t + weigh s
  weight-set [] k s h = absurd (omega arith)
  weight-set (x ∷ t) zero s h = omega arith
  weight-set (x ∷ t) (suc k) s h = let ih = weight-set t k s (omega arith) in omega arith

  pub weigh_frame : (s : Slot F) (f : F) → frame_of s ≡ Some f → size f ≤ weigh s
  weigh_frame s f e = grind arith

  none_left : (a : ℕ) (t : List (Slot F)) → weight t ≡ 0 → lowest_from a t ≡ None
  none_left a [] e = refl
  none_left a (blank ∷ t) e = absurd (omega arith)
  none_left a (found f ∷ t) e = absurd (omega arith)
  none_left a (taken f ∷ t) e = none_left (a + 1) t (omega arith)

  pub weight-none : (t : List (Slot F)) → weight t ≡ 0 → lowest t ≡ None
  weight-none t e = none_left 0 t e

  pub weight-start : (n : ℕ) (f : F) → size f ≤ depth → weight (start n f) ≤ n * suc depth
  weight-start zero f h = omega arith
  weight-start (suc n) f h = let w = blanks n in omega arith
    where
      blanks : (n : ℕ) → weight (replicate n blank) ≡ n * suc depth
      blanks zero = omega arith
      blanks (suc n) = let ih = blanks n in omega arith
