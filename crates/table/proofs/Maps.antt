-- Rows of records and the rows of what they stand for.
use Rattle.std.proofs.Common.{◌≡◌, Bool, ◌&&◌, List, [], ◌∷◌, map, refl, ap, arith}
use Rattle.std.specs.Option.{option_map}
use Rattle.table.specs.Rows.{above, sorted, look, next, first, put, without}

module _ {R E K : Type 0} (f : R → E) (key : E → K) (before : K → K → Bool) where
  abbrev own : R → K
  own r = key (f r)

  pub map-look : (k : K) (rs : List R) → look key before k (map f rs) ≡ option_map f (look own before k rs)
  map-look k [] = refl
  map-look k (r ∷ rs) = grind (arith, map-look k rs)

  pub map-put : (x : R) (rs : List R) → map f (put own before x rs) ≡ put key before (f x) (map f rs)
  map-put x [] = refl
  map-put x (r ∷ rs) = grind (arith, map-put x rs)

  pub map-without : (k : K) (rs : List R) → map f (without own before k rs) ≡ without key before k (map f rs)
  map-without k [] = refl
  map-without k (r ∷ rs) = grind (arith, map-without k rs)

  pub map-above : (k : K) (rs : List R) → above key before k (map f rs) ≡ above own before k rs
  map-above k [] = refl
  map-above k (r ∷ rs) = ap (λ z. before k (own r) && z) (map-above k rs)

  pub map-sorted : (rs : List R) → sorted key before (map f rs) ≡ sorted own before rs
  map-sorted [] = refl
  map-sorted (r ∷ rs) = rw (map-above (own r) rs, map-sorted rs)

  pub map_next : (k : K) (rs : List R) → next key before k (map f rs) ≡ option_map f (next own before k rs)
  map_next k [] = refl
  map_next k (r ∷ rs) = grind (arith, map_next k rs)

  pub map_first : (rs : List R) → first (map f rs) ≡ option_map f (first rs)
  map_first [] = refl
  map_first (r ∷ rs) = refl
