-- `put` and `without` by the place of the key.
use Rattle.std.proofs.Common.{◌≡◌, ◌+◌, Bool, true, false, cond, List, [], ◌∷◌, length, set, is_some, refl, arith}
use Rattle.std.specs.List.{insert, remove}
use Rattle.std.proofs.lemmas.Bool.{both_ways}
use Rattle.table.specs.Rows.{look, put, without, place}

module _ {R K : Type 0} (key : R → K) (before : K → K → Bool) where
  pub put-over : (x : R) (rs : List R) → is_some (look key before (key x) rs) ≡ true → put key before x rs ≡ set rs (place key before (key x) rs) x
  put-over x [] h = absurd (both_ways false refl h)
  put-over x (r ∷ rs) h = grind (arith, put-over x rs)

  pub put_new : (x : R) (rs : List R) → is_some (look key before (key x) rs) ≡ false → put key before x rs ≡ insert rs (place key before (key x) rs) x
  put_new x [] h = refl
  put_new x (r ∷ rs) h = grind (arith, put_new x rs)

  pub without_one : (k : K) (rs : List R) → is_some (look key before k rs) ≡ true → without key before k rs ≡ remove rs (place key before k rs)
  without_one k [] h = refl
  without_one k (r ∷ rs) h = grind (arith, without_one k rs)

  pub without-none : (k : K) (rs : List R) → is_some (look key before k rs) ≡ false → without key before k rs ≡ rs
  without-none k [] h = refl
  without-none k (r ∷ rs) h = grind (arith, without-none k rs)

  pub length-put : (x : R) (rs : List R) → length (put key before x rs) ≡ cond (is_some (look key before (key x) rs)) (length rs) (length rs + 1)
  length-put x [] = refl
  length-put x (r ∷ rs) = grind (arith, length-put x rs)

  pub length_without : (k : K) (rs : List R) → length (without key before k rs) + cond (is_some (look key before k rs)) 1 0 ≡ length rs
  length_without k [] = refl
  length_without k (r ∷ rs) = grind (arith, length_without k rs)
