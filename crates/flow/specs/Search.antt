-- The search for frames: the lowest instruction that has a frame and is untaken is taken, and the frame after it goes to each successor.
use Rattle.std.specs.Prelude.{ℕ, zero, suc, ◌+◌, ◌*◌, Bool, cond, List, [], ◌∷◌, length, replicate, Some, None, Ok, Err, Option, Result, nat_lt, slice_index_or, slice_set}

-- the code under check, with frames F and reasons E of a refusal
pub record Flow (F E : Type 0) : Type 0 where
  -- the frame after an instruction that begins with a frame, or why its rule fails
  pub rule : ℕ → F → Result F E
  -- the instructions that may come next, in order
  pub succs : ℕ → List ℕ

-- why code is refused beside its rules
pub record Reasons (E : Type 0) : Type 0 where
  -- a successor lies outside the function
  pub outside : E
  -- frames that meet differ
  pub differ : E
  -- no way reaches an instruction
  pub unreached : E

-- what becomes of frames that meet at an instruction
pub record Meeting (F E : Type 0) : Type 0 where
  -- the frame in place of two, if they may meet
  pub merge : F → F → Option F
  pub same : F → F → Bool
  -- how often the frame of an instruction can be altered at most
  pub depth : ℕ
  pub reasons : Reasons E

-- what an instruction has: no frame yet; a frame; a frame, and it was taken with it
pub data Slot (F : Type 0) : Type 0 where
  blank : Slot F
  found : F → Slot F
  taken : F → Slot F

abbrev pub on_ok : {A B E : Type 0} → Result A E → (A → Result B E) → Result B E
on_ok (Ok a) go = go a
on_ok (Err e) go = Err e

-- what follows a step at instruction k; a refusal of the step is at k
abbrev pub after : {A B E : Type 0} → ℕ → Result A E → (A → Result B (E × ℕ)) → Result B (E × ℕ)
after k (Ok a) go = go a
after k (Err e) go = Err (e, k)

module _ {F : Type 0} where
  abbrev pub frame_of : Slot F → Option F
  frame_of blank = None
  frame_of (found f) = Some f
  frame_of (taken f) = Some f

  abbrev pub slot_at : List (Slot F) → ℕ → Slot F
  slot_at t k = slice_index_or t k blank

  -- the lowest instruction that has a frame and is untaken, where the table begins with instruction k
  abbrev pub lowest_from : ℕ → List (Slot F) → Option (ℕ × F)
  lowest_from k [] = None
  lowest_from k (blank ∷ t) = lowest_from (k + 1) t
  lowest_from k (found f ∷ t) = Some (k, f)
  lowest_from k (taken f ∷ t) = lowest_from (k + 1) t

  abbrev pub lowest : List (Slot F) → Option (ℕ × F)
  lowest t = lowest_from 0 t

  -- the lowest instruction that has no frame, where the table begins with instruction k
  abbrev pub blank_from : ℕ → List (Slot F) → Option ℕ
  blank_from k [] = None
  blank_from k (blank ∷ t) = Some k
  blank_from k (found f ∷ t) = blank_from (k + 1) t
  blank_from k (taken f ∷ t) = blank_from (k + 1) t

  -- n instructions, of which the first begins with f
  abbrev pub start : ℕ → F → List (Slot F)
  start n f = slice_set (replicate n blank) 0 (found f)

module _ {F E : Type 0} (m : Meeting F E) where
  -- instruction k, with the frame f, gets the merged frame; it is to be taken again if that is another
  abbrev pub merged : List (Slot F) → ℕ → F → Option F → Result (List (Slot F)) E
  merged t k f None = Err m.reasons.differ
  merged t k f (Some h) = Ok (cond (m.same f h) t (slice_set t k (found h)))

  -- the frame g meets the frame that instruction k has, if any
  abbrev pub meet : List (Slot F) → ℕ → Option F → F → Result (List (Slot F)) E
  meet t k None g = Ok (slice_set t k (found g))
  meet t k (Some f) g = merged t k f (m.merge f g)

  -- one way into instruction k, with the frame g
  abbrev pub enter : List (Slot F) → ℕ → F → Result (List (Slot F)) E
  enter t k g = cond (nat_lt k (length t)) (meet t k (frame_of (slot_at t k)) g) (Err m.reasons.outside)

  abbrev pub enters : List (Slot F) → List ℕ → F → Result (List (Slot F)) E
  enters t [] g = Ok t
  enters t (j ∷ js) g = on_ok (enter t j g) (λ u. enters u js g)

  module _ (c : Flow F E) where
    -- instruction k is taken with its frame f
    abbrev pub turn : List (Slot F) → ℕ → F → Result (List (Slot F)) E
    turn t k f = on_ok (c.rule k f) (λ g. enters (slice_set t k (taken f)) (c.succs k) g)

    -- the lowest that is found and untaken is taken, if there is one
    abbrev pub take_lowest : List (Slot F) → Option (ℕ × F) → (List (Slot F) → Result (List (Slot F)) (E × ℕ)) → Result (List (Slot F)) (E × ℕ)
    take_lowest t None go = Ok t
    take_lowest t (Some p) go = after p.0 (turn t p.0 p.1) go

    -- turns, until no instruction is found and untaken; their number is bounded
    abbrev pub turns : ℕ → List (Slot F) → Result (List (Slot F)) (E × ℕ)
    turns zero t = Ok t
    turns (suc n) t = take_lowest t (lowest t) (λ u. turns n u)

  -- no instruction may be left blank
  abbrev pub all_reached : List (Slot F) → Option ℕ → Result (List (Slot F)) (E × ℕ)
  all_reached t None = Ok t
  all_reached t (Some k) = Err (m.reasons.unreached, k)

  abbrev pub verdict : List (Slot F) → Result (List (Slot F)) (E × ℕ)
  verdict t = all_reached t (blank_from 0 t)

  -- the table of the frames of n instructions, of which the first begins with f; or the reason of a refusal and its instruction
  abbrev pub find_frames : Flow F E → ℕ → F → Result (List (Slot F)) (E × ℕ)
  find_frames c n f = on_ok (turns c (n * suc m.depth) (start n f)) verdict
