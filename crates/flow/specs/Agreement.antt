-- The base rule: one frame for all ways into an instruction.
use Rattle.std.specs.Prelude.{◌≡◌, ℕ, Bool, true, cond, ◌↔◌, List, Some, None, Ok, Err}
use Rattle.flow.specs.Search.{Flow, Reasons, Meeting, Slot, find_frames}
use Rattle.flow.specs.Framed.{Framed, Holds}
use Rattle.flow.specs.Ways.{OneFrameForAllWays, Refused}
use Rattle.flow.specs.Merging.{Accepted}

-- a test that tells equal frames
pub record Decides {F : Type 0} (same : F → F → Bool) : Type 0 where
  pub only_equal : (f g : F) → same f g ≡ true → f ≡ g
  pub itself : (f : F) → same f f ≡ true

module _ {F E : Type 0} where
  -- frames that meet have to be the same
  abbrev pub agreement : (F → F → Bool) → Reasons E → Meeting F E
  agreement same reasons = record { merge = λ f g. cond (same f g) (Some f) None; same = same; depth = 0; reasons = reasons }

  -- frames such that every way into an instruction brings the instruction's own
  abbrev pub OneFrame : Flow F E → ℕ → F → Type 0
  OneFrame c n f = Framed ◌≡◌ c n f

  -- the search accepts code exactly if there is one frame for all ways into each instruction
  abbrev pub AcceptsExactlyOneFrame : (F → F → Bool) → Reasons E → Flow F E → ℕ → F → Type 0
  AcceptsExactlyOneFrame same r c n f = Accepted (agreement same r) c n f ↔ OneFrameForAllWays c n f

  -- whatever frames the code has, the table that the search leaves holds those
  abbrev pub FindsTheFrames : (F → F → Bool) → Reasons E → Flow F E → ℕ → F → Type 0
  FindsTheFrames same r c n f = (o : OneFrame c n f) → (t : List (Slot F)) × (find_frames (agreement same r) c n f ≡ Ok t) × Holds t o.frame n

  -- where the search refuses, the reason and the instruction that it names are so
  abbrev pub RefusesForItsReason : (F → F → Bool) → Reasons E → Flow F E → ℕ → F → Type 0
  RefusesForItsReason same r c n f = (p : E × ℕ) → find_frames (agreement same r) c n f ≡ Err p → Refused r c n f p
