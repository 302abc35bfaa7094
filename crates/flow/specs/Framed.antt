-- What it is for code to have frames.
use Rattle.std.specs.Prelude.{◌≡◌, ℕ, ◌<◌, ◌⊎◌, List, [], ◌∷◌, length, Ok}
use Rattle.flow.specs.Search.{Flow, Slot, taken, slot_at}

abbrev pub OneOf : ℕ → List ℕ → Type 0
OneOf k [] = ⊥
OneOf k (j ∷ js) = (k ≡ j) ⊎ OneOf k js

-- the instructions that some way from the first reaches
pub data Walk (succs : ℕ → List ℕ) : ℕ → Type 0 where
  first : Walk succs 0
  next : {k j : ℕ} → Walk succs k → OneOf j (succs k) → Walk succs j

module _ {F E : Type 0} where
  -- instruction k of n with its frame: its rule holds, and each way out stays inside and comes in above the frame there
  pub record Passes (below : F → F → Type 0) (c : Flow F E) (n : ℕ) (frame : ℕ → F) (k : ℕ) : Type 0 where
    pub leaves : F
    pub ruled : c.rule k (frame k) ≡ Ok leaves
    pub inside : (j : ℕ) → OneOf j (c.succs k) → j < n
    pub meets : (j : ℕ) → OneOf j (c.succs k) → below (frame j) leaves

  -- n instructions, of which the first begins with f, have frames: each passes with its own, and each is reached
  pub record Framed (below : F → F → Type 0) (c : Flow F E) (n : ℕ) (f : F) : Type 0 where
    pub frame : ℕ → F
    pub begins : below (frame 0) f
    pub passes : (k : ℕ) → k < n → Passes below c n frame k
    pub reached : (k : ℕ) → k < n → Walk c.succs k

-- a table in which each of n instructions was taken with its frame
pub record Holds {F : Type 0} (t : List (Slot F)) (frame : ℕ → F) (n : ℕ) : Type 0 where
  pub long : length t ≡ n
  pub each : (k : ℕ) → k < n → slot_at t k ≡ taken (frame k)
