-- The ways through code: whether they agree, and where they fail.
use Rattle.std.specs.Prelude.{◌≡◌, ℕ, ◌<◌, ◌≤◌, Ok, Err, ◌≢◌}
use Rattle.flow.specs.Search.{Flow, Reasons}
use Rattle.flow.specs.Framed.{OneOf}
use Rattle.flow.specs.Order.{LowestUnreached}

module _ {F E : Type 0} where
  -- a way from the first instruction, which begins with f₀, to an instruction, and the frame that it brings there
  pub data Way (c : Flow F E) (f₀ : F) : ℕ → F → Type 0 where
    first : Way c f₀ 0 f₀
    next : {k j : ℕ} {f g : F} → Way c f₀ k f → c.rule k f ≡ Ok g → OneOf j (c.succs k) → Way c f₀ j g

  -- one frame for all ways into an instruction: ways stay inside and meet every rule, two to one instruction bring one frame, and each instruction has a way
  pub record OneFrameForAllWays (c : Flow F E) (n : ℕ) (f₀ : F) : Type 0 where
    pub inside : (k : ℕ) (f : F) → Way c f₀ k f → k < n
    pub ruled : (k : ℕ) (f : F) → Way c f₀ k f → (g : F) × (c.rule k f ≡ Ok g)
    pub agree : (k : ℕ) (f g : F) → Way c f₀ k f → Way c f₀ k g → f ≡ g
    pub reached : (k : ℕ) → k < n → (f : F) × Way c f₀ k f

  -- why code is refused, and at which instruction
  pub data Refused (r : Reasons E) (c : Flow F E) (n : ℕ) (f₀ : F) : E × ℕ → Type 0 where
    -- a way brings a frame to instruction k with which the rule fails
    rule_fails : {k : ℕ} {f : F} {w : E} → Way c f₀ k f → c.rule k f ≡ Err w → Refused r c n f₀ (w, k)
    -- a way goes on from instruction k to outside the function
    goes_outside : {k j : ℕ} {f g : F} → Way c f₀ k f → c.rule k f ≡ Ok g → OneOf j (c.succs k) → n ≤ j → Refused r c n f₀ (r.outside, k)
    -- a way goes on from instruction k to one where another way brings another frame
    disagrees : {k j : ℕ} {f g h : F} → Way c f₀ k f → c.rule k f ≡ Ok g → OneOf j (c.succs k) → Way c f₀ j h → (h ≢ g) → Refused r c n f₀ (r.differ, k)
    -- no way reaches instruction k, which is the lowest such
    never_reached : {k : ℕ} → k < n → LowestUnreached c.succs k → Refused r c n f₀ (r.unreached, k)
