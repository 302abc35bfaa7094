-- Which instruction is taken next, and which is refused as unreached.
use Rattle.std.specs.Prelude.{◌≡◌, ℕ, suc, ◌*◌, ◌<◌, List, Some, Ok, ◌≢◌}
use Rattle.flow.specs.Search.{Flow, Meeting, Slot, found, slot_at, blank_from, turns, start}
use Rattle.flow.specs.Framed.{Walk}

-- instruction k has the frame f and is untaken, and no lower one is such
pub record LowestFound {F : Type 0} (t : List (Slot F)) (k : ℕ) (f : F) : Type 0 where
  pub here : slot_at t k ≡ found f
  pub none_lower : (j : ℕ) (g : F) → j < k → slot_at t j ≢ found g

-- no way reaches instruction k, and every lower one is reached
pub record LowestUnreached (succs : ℕ → List ℕ) (k : ℕ) : Type 0 where
  pub never : Walk succs k → ⊥
  pub lower : (j : ℕ) → j < k → Walk succs j

-- where the turns end with an instruction left blank, the lowest such is the lowest that no way reaches
abbrev pub BlankIsUnreached : {F E : Type 0} → Meeting F E → Flow F E → ℕ → F → Type 0
BlankIsUnreached {F} m c n f = (t : List (Slot F)) (k : ℕ) → turns m c (n * suc m.depth) (start n f) ≡ Ok t → blank_from 0 t ≡ Some k → LowestUnreached c.succs k
