-- Where the parts of a row start: each ends where the next one starts, and the last one where the row ends.
use Rattle.std.specs.Prelude.{◌≡◌, ℕ, ◌≤◌, List, [], ◌∷◌, length, slice_range, slice_index_or}

abbrev pub parts : {X : Type 0} → List X → List ℕ → List (List X)
parts xs [] = []
parts xs (s ∷ ss) = slice_range xs s (slice_index_or ss 0 (length xs)) ∷ parts xs ss

-- no part ends before it starts
abbrev pub Rises : ℕ → List ℕ → Type 0
Rises n [] = Unit {0}
Rises n (s ∷ ss) = (s ≤ slice_index_or ss 0 n) × Rises n ss

-- in a row of n items the first part starts at 0, and without a part there is no item
pub record Tiled (n : ℕ) (ss : List ℕ) : Type 0 where
  pub whole : slice_index_or ss 0 n ≡ 0
  pub rises : Rises n ss
