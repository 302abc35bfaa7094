-- What an answer of the search says of sorted rows.
use Rattle.std.proofs.Common.{◌≡◌, ℕ, Bool, true, false, List, [], ◌∷◌, get_or, is_some, Some, None, Ok, Err, refl, ap, ◌∙◌, arith}
use Rattle.std.proofs.lemmas.Bool.{both_ways}
use Rattle.table.specs.Rows.{look, place}
use Rattle.table.specs.Searching.{found_sorted, at_found}

module _ {R K : Type 0} (key : R → K) (before : K → K → Bool) where
  look_there : (k : K) (rs : List R) (d : R) → is_some (look key before k rs) ≡ true → look key before k rs ≡ Some (get_or rs (place key before k rs) d)
  look_there k [] d h = absurd (both_ways false refl h)
  look_there k (r ∷ rs) d h = grind (arith, look_there k rs d)

  pub found_there : (k : K) (rs : List R) (at : ℕ) (d : R) → Ok at ≡ found_sorted key before k rs → look key before k rs ≡ Some (get_or rs at d)
  found_there k rs at d e =
      let there : is_some (look key before k rs) ≡ true = grind arith in
      let same : place key before k rs ≡ at = grind arith in
      look_there k rs d there ∙ ap (λ n. Some (get_or rs n d)) same

  pub found_none : (k : K) (rs : List R) (at : ℕ) → Err at ≡ found_sorted key before k rs → look key before k rs ≡ None
  found_none k rs at e = grind arith

  pub at_found_sorted : (k : K) (rs : List R) → at_found key before rs (found_sorted key before k rs) ≡ look key before k rs
  at_found_sorted k [] = refl
  at_found_sorted k (r ∷ rs) =
      let rest = at_found_sorted k rs in
      grind arith
