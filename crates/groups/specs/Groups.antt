-- Lists of lists: how many items they have, and what one more in the last does to them.
use Rattle.std.specs.Prelude.{ℕ, ◌+◌, List, [], ◌∷◌, length}

-- how many items all lists have together
abbrev pub size : {X : Type 0} → List (List X) → ℕ
size [] = 0
size (g ∷ gs) = length g + size gs

-- a list with its last one changed
abbrev pub last_of : {X : Type 0} → (X → X) → X → List X → List X
last_of f x [] = f x ∷ []
last_of f x (y ∷ ys) = x ∷ last_of f y ys

abbrev pub lastly : {X : Type 0} → (X → X) → List X → List X
lastly f [] = []
lastly f (x ∷ xs) = last_of f x xs
