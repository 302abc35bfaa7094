-- `put` and `without` leave sorted rows sorted, and so do parts of sorted rows.
use Rattle.std.proofs.Common.{◌≡◌, ℕ, zero, suc, Bool, true, List, [], ◌∷◌, take, drop, refl, arith}
use Rattle.std.proofs.lemmas.Bool.{and_parts, and_from}
use Rattle.table.specs.Order.{Order}
use Rattle.table.specs.Rows.{above, sorted, put, without}

module _ {R K : Type 0} (key : R → K) (before : K → K → Bool) where
  pub head : (r : R) (rs : List R) → sorted key before (r ∷ rs) ≡ true → above key before (key r) rs ≡ true
  head r rs s = (and_parts (above key before (key r) rs) (sorted key before rs) s).0

  pub rest : (r : R) (rs : List R) → sorted key before (r ∷ rs) ≡ true → sorted key before rs ≡ true
  rest r rs s = (and_parts (above key before (key r) rs) (sorted key before rs) s).1

  pub above-without : (k q : K) (rs : List R) → above key before k rs ≡ true → above key before k (without key before q rs) ≡ true
  above-without k q [] h = refl
  above-without k q (r ∷ rs) h = grind (arith, above-without k q rs)

  pub sorted-without : (q : K) (rs : List R) → sorted key before rs ≡ true → sorted key before (without key before q rs) ≡ true
  sorted-without q [] s = refl
  sorted-without q (r ∷ rs) s = grind (arith, above-without, sorted-without q rs)

  pub above-put : (k : K) (x : R) (rs : List R) → before k (key x) ≡ true → above key before k rs ≡ true → above key before k (put key before x rs) ≡ true
  above-put k x [] b h = and_from _ _ b refl
  above-put k x (r ∷ rs) b h = grind (arith, above-put k x rs)

  pub above-take : (k : K) (n : ℕ) (rs : List R) → above key before k rs ≡ true → above key before k (take n rs) ≡ true
  above-take k zero rs h = refl
  above-take k (suc n) [] h = refl
  above-take k (suc n) (r ∷ rs) h = grind (arith, above-take k n rs)

  pub sorted-take : (n : ℕ) (rs : List R) → sorted key before rs ≡ true → sorted key before (take n rs) ≡ true
  sorted-take zero rs s = refl
  sorted-take (suc n) [] s = refl
  sorted-take (suc n) (r ∷ rs) s = grind (arith, above-take, sorted-take n rs)

  pub sorted-drop : (n : ℕ) (rs : List R) → sorted key before rs ≡ true → sorted key before (drop n rs) ≡ true
  sorted-drop zero rs s = s
  sorted-drop (suc n) [] s = refl
  sorted-drop (suc n) (r ∷ rs) s = sorted-drop n rs (rest r rs s)

  module _ (laws : Order before) where
    pub above_chain : (j k : K) (rs : List R) → before j k ≡ true → above key before k rs ≡ true → above key before j rs ≡ true
    above_chain j k [] b h = refl
    above_chain j k (r ∷ rs) b h = let c = laws.chain j k (key r) b in grind (arith, above_chain j k rs)

    pub sorted-put : (x : R) (rs : List R) → sorted key before rs ≡ true → sorted key before (put key before x rs) ≡ true
    sorted-put x [] s = refl
    sorted-put x (r ∷ rs) s = grind (arith, above-put, above_chain, laws.total, sorted-put x rs)
