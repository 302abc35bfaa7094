-- What the search answers for any rows, sorted or not, and what that is for sorted ones.
use Rattle.std.specs.Prelude.{ℕ, zero, suc, ◌+◌, ◌/◌, Bool, cond, List, [], ◌∷◌, length, take, drop, is_some, None, Ok, Err, Option, Result}
use Rattle.table.specs.Rows.{look, place, first}

module _ {R K : Type 0} (key : R → K) (before : K → K → Bool) where
  -- by the record in the middle: on with the rows behind it, or with those before it
  abbrev pub by_middle : K → List R → (ℕ → ℕ) → (List R → ℕ) → ℕ → ℕ
  by_middle k [] behind back m = 0
  by_middle k (r ∷ rest) behind back m = cond (before (key r) k) (behind (back rest)) m

  unfoldable pub halving : ℕ → K → List R → ℕ
  halving zero k rs = 0
  halving (suc turns) k rs =
      by_middle k (drop (length rs / 2) rs) (λ n. length rs / 2 + suc n) (halving turns k) (halving turns k (take (length rs / 2) rs))

  -- where halving ends; the rows are halved, so as many turns as there are rows are enough
  abbrev pub spot : K → List R → ℕ
  spot k rs = halving (length rs) k rs

  -- the record there is the one, unless its key comes after k
  abbrev pub hit : K → ℕ → List R → Result ℕ ℕ
  hit k at [] = Err at
  hit k at (r ∷ rest) = cond (before k (key r)) (Err at) (Ok at)

  abbrev pub found : K → List R → Result ℕ ℕ
  found k rs = hit k (spot k rs) (drop (spot k rs) rs)

  -- among sorted rows: the place of the record, or where it would be put
  abbrev pub found_sorted : K → List R → Result ℕ ℕ
  found_sorted k rs = cond (is_some (look key before k rs)) (Ok (place key before k rs)) (Err (place key before k rs))

  -- the record that is found, if there is one
  abbrev pub at_found : List R → Result ℕ ℕ → Option R
  at_found rs (Ok at) = first (drop at rs)
  at_found rs (Err at) = None

  abbrev pub look_found : K → List R → Option R
  look_found k rs = at_found rs (found k rs)

  -- the record behind the one that is found, or where it would be put
  abbrev pub behind_found : List R → Result ℕ ℕ → Option R
  behind_found rs (Ok at) = first (drop (at + 1) rs)
  behind_found rs (Err at) = first (drop at rs)

  abbrev pub next_found : K → List R → Option R
  next_found k rs = behind_found rs (found k rs)
