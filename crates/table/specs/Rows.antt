-- Rows of records sorted by their keys, and what it means to look one up, put one in and take one out.
use Rattle.std.specs.Prelude.{ℕ, suc, Bool, true, cond, ◌&&◌, List, [], ◌∷◌, Some, None, Option}

abbrev pub first : {R : Type 0} → List R → Option R
first [] = None
first (r ∷ rs) = Some r

module _ {R K : Type 0} (key : R → K) (before : K → K → Bool) where
  -- every key of the rows comes after k
  abbrev pub above : K → List R → Bool
  above k [] = true
  above k (r ∷ rs) = before k (key r) && above k rs

  -- the keys rise strictly
  abbrev pub sorted : List R → Bool
  sorted [] = true
  sorted (r ∷ rs) = above (key r) rs && sorted rs

  -- the record with the key k
  abbrev pub look : K → List R → Option R
  look k [] = None
  look k (r ∷ rs) = cond (before (key r) k) (look k rs) (cond (before k (key r)) None (Some r))

  -- the rows with x in the place of the record of its key, or added
  abbrev pub put : R → List R → List R
  put x [] = x ∷ []
  put x (r ∷ rs) = cond (before (key r) (key x)) (r ∷ put x rs) (cond (before (key x) (key r)) (x ∷ (r ∷ rs)) (x ∷ rs))

  -- the rows without the record of the key k
  abbrev pub without : K → List R → List R
  without k [] = []
  without k (r ∷ rs) = cond (before (key r) k) (r ∷ without k rs) (cond (before k (key r)) (r ∷ rs) rs)

  -- how many rows at the front come before k
  abbrev pub place : K → List R → ℕ
  place k [] = 0
  place k (r ∷ rs) = cond (before (key r) k) (suc (place k rs)) 0

  -- the first record whose key comes after k
  abbrev pub next : K → List R → Option R
  next k [] = None
  next k (r ∷ rs) = cond (before k (key r)) (Some r) (next k rs)
