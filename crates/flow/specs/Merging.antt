-- The laws of merging under which the search finds the frames that code has.
use Rattle.std.specs.Prelude.{◌≡◌, ℕ, ◌<◌, ◌≤◌, true, false, ◌↔◌, List, Some, Ok}
use Rattle.flow.specs.Search.{Flow, Meeting, Slot, find_frames}
use Rattle.flow.specs.Framed.{Framed, Holds}

-- below h f: the frame h allows no more than f. fits f: the frame f can come up in this code.
pub record Merging {F E : Type 0} (below : F → F → Type 0) (fits : F → Type 0) (m : Meeting F E) (c : Flow F E) : Type 0 where
  pub below_itself : (f : F) → below f f
  pub below_through : (f g h : F) → below f g → below g h → below f h
  pub same_is_equal : (f g : F) → m.same f g ≡ true → f ≡ g
  pub merged_below_left : (f g h : F) → m.merge f g ≡ Some h → below h f
  pub merged_below_right : (f g h : F) → m.merge f g ≡ Some h → below h g
  pub merged_above_all_below_both : (f g h : F) → below h f → below h g → (x : F) × (m.merge f g ≡ Some x) × below h x
  pub rule_holds_above : (k : ℕ) (h f g : F) → below h f → c.rule k h ≡ Ok g → (x : F) × (c.rule k f ≡ Ok x) × below g x
  pub rule_keeps_fit : (k : ℕ) (f g : F) → fits f → c.rule k f ≡ Ok g → fits g
  pub merge_keeps_fit : (f g h : F) → fits f → fits g → m.merge f g ≡ Some h → fits h
  pub size : F → ℕ
  pub fit_is_small : (f : F) → fits f → size f ≤ m.depth
  pub below_and_other_is_smaller : (f h : F) → below h f → m.same f h ≡ false → size h < size f

module _ {F E : Type 0} where
  abbrev pub Accepted : Meeting F E → Flow F E → ℕ → F → Type 0
  Accepted m c n f = (t : List (Slot F)) × (find_frames m c n f ≡ Ok t)

  -- the search accepts code exactly if it has frames
  abbrev pub AcceptsExactlyFramed : (F → F → Type 0) → Meeting F E → Flow F E → ℕ → F → Type 0
  AcceptsExactlyFramed below m c n f = Accepted m c n f ↔ Framed below c n f

  -- the table that the search leaves holds frames of the code
  abbrev pub LeavesFrames : (F → F → Type 0) → Meeting F E → Flow F E → ℕ → F → Type 0
  LeavesFrames below m c n f = (t : List (Slot F)) → find_frames m c n f ≡ Ok t → (o : Framed below c n f) × Holds t o.frame n
