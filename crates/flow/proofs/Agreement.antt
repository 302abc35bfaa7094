-- The base rule: the search for one frame for all ways into an instruction, and the laws of its turns.
use Rattle.std.proofs.Common.{◌≡◌, ℕ, ◌<◌, ◌≤◌, Bool, true, false, ◌⊎◌, List, length, set, Some, None, Ok, Err, Result, sym, refl, ap, ◌∙◌, inl, inr, zero-le, arith}
use Rattle.std.proofs.lemmas.Bool.Decides.{nat_tests}
use Rattle.flow.specs.Search.{Flow, Reasons, Slot, blank, found, taken, slot_at, lowest, on_ok, enter, turn, turns, verdict, start, find_frames}
use Rattle.flow.specs.Framed.{Walk}
use Rattle.flow.specs.Framed as framed
use Rattle.flow.specs.Merging.{Merging, AcceptsExactlyFramed, LeavesFrames}
use Rattle.flow.specs.Order.{BlankIsUnreached}
use Rattle.flow.specs.Agreement.{Decides, agreement, OneFrame, AcceptsExactlyOneFrame, FindsTheFrames}
use Rattle.flow.proofs.Tables.{Has}
use Rattle.flow.proofs.Weights.{weight}
use Rattle.flow.proofs.Turning as turning
use Rattle.flow.proofs.Searching as searching
use Rattle.flow.proofs.Ways.{one_frame_for_all_ways}

-- how many instructions are untaken
abbrev pub untaken : {F : Type 0} → List (Slot F) → ℕ
untaken {F} t = weight 0 (λ (f : F). 0) t

-- code has its frames in one way only
pub one_frame_only : {F E : Type 0} (c : Flow F E) (n : ℕ) (f : F) (a b : OneFrame c n f) (k : ℕ) → k < n → a.frame k ≡ b.frame k
one_frame_only c n f a b k l = (go (a.reached k l)).1
  where
    go : {k : ℕ} → Walk c.succs k → (k < n) × (a.frame k ≡ b.frame k)
    go framed.first = (omega arith, a.begins ∙ sym b.begins)
    go (framed.next {k = i} {j = j} w x) =
        let r = go w in
        let p = a.passes i r.0 in let q = b.passes i r.0 in
        let e = r.1 in let y = p.ruled in let z = q.ruled in
        let same : p.leaves ≡ q.leaves = cc in
        (p.inside j x, p.meets j x ∙ same ∙ sym (q.meets j x))

module _ {F E : Type 0} {same : F → F → Bool} (d : Decides same) (r : Reasons E) where
  -- one way into instruction k
  pub enter_outside : (t : List (Slot F)) (k : ℕ) (g : F) → length t ≤ k → enter (agreement same r) t k g ≡ Err r.outside
  enter_outside t k g h = grind (arith, nat_tests)

  pub enter-blank : (t : List (Slot F)) (k : ℕ) (g : F) → k < length t → slot_at t k ≡ blank → enter (agreement same r) t k g ≡ Ok (set t k (found g))
  enter-blank t k g h e = grind (arith, nat_tests)

  pub enter-same : (t : List (Slot F)) (k : ℕ) (f g : F) → k < length t → Has t k f → same f g ≡ true → enter (agreement same r) t k g ≡ Ok t
  enter-same t k f g h e s = let i = d.itself f in grind (arith, nat_tests)

  pub enter_differ : (t : List (Slot F)) (k : ℕ) (f g : F) → k < length t → Has t k f → same f g ≡ false → enter (agreement same r) t k g ≡ Err r.differ
  enter_differ t k f g h e s = grind (arith, nat_tests)

  pub enter_leaves_or_fills : (t : List (Slot F)) (k : ℕ) (g : F) (u : List (Slot F)) → enter (agreement same r) t k g ≡ Ok u → (u ≡ t) ⊎ ((slot_at t k ≡ blank) × (u ≡ set t k (found g)))
  enter_leaves_or_fills t k g u e = go (slot_at t k) refl
    where
      go : (s : Slot F) → slot_at t k ≡ s → (u ≡ t) ⊎ ((slot_at t k ≡ blank) × (u ≡ set t k (found g)))
      go blank p = inr (p, grind (arith, nat_tests))
      go (found f) p = inl (let i = d.itself f in grind (arith, nat_tests))
      go (taken f) p = inl (let i = d.itself f in grind (arith, nat_tests))

  pub agree_left : (f g h : F) → (agreement same r).merge f g ≡ Some h → h ≡ f
  agree_left f g h e = grind arith

  pub agree_right : (f g h : F) → (agreement same r).merge f g ≡ Some h → h ≡ g
  agree_right f g h e = let i = d.only_equal f g in grind arith

  pub agree_both : (f g h : F) → h ≡ f → h ≡ g → (x : F) × ((agreement same r).merge f g ≡ Some x) × (h ≡ x)
  agree_both f g h a b = let i = d.itself h in (f, cc, a)

  pub never_other : (f h : F) → h ≡ f → same f h ≡ false → 0 < 0
  never_other f h e s = let i = d.itself h in let z : ◌≡◌ {A = ℕ} 0 1 = cc in absurd (omega arith)

  module _ (c : Flow F E) where
    -- agreement keeps the laws of merging
    abbrev pub agreement_merges : Merging ◌≡◌ (λ f. Unit {0}) (agreement same r) c
    agreement_merges = record {
      below_itself = λ f. refl;
      below_through = λ f g h a b. a ∙ b;
      same_is_equal = d.only_equal;
      merged_below_left = agree_left;
      merged_below_right = agree_right;
      merged_above_all_below_both = agree_both;
      rule_holds_above = λ k h f g e x. (g, ap (c.rule k) (sym e) ∙ x, refl);
      rule_keeps_fit = λ k f g a x. tt;
      merge_keeps_fit = λ f g h a b e. tt;
      size = λ f. 0;
      fit_is_small = λ f a. zero-le;
      below_and_other_is_smaller = never_other;
    }

    pub accepts_exactly_framed : (n : ℕ) (f : F) → AcceptsExactlyFramed ◌≡◌ (agreement same r) c n f
    accepts_exactly_framed n f = searching.accepts_exactly_framed agreement_merges n f tt

    pub leaves_frames : (n : ℕ) (f : F) → LeavesFrames ◌≡◌ (agreement same r) c n f
    leaves_frames n f = searching.leaves_frames agreement_merges n f tt

    pub finds_the_frames : (n : ℕ) (f : F) → FindsTheFrames same r c n f
    finds_the_frames n f o =
        let a = (accepts_exactly_framed n f).1 o in
        let p = leaves_frames n f a.0 a.1 in
        (a.0, a.1, record { long = p.1.long; each = λ k l. p.1.each k l ∙ ap taken (one_frame_only c n f p.0 o k l) })

    pub accepts_exactly_one_frame : (n : ℕ) (f : F) → 0 < n → AcceptsExactlyOneFrame same r c n f
    accepts_exactly_one_frame n f pos =
        let a = accepts_exactly_framed n f in
        let w = one_frame_for_all_ways c n f pos in
        (λ x. w.0 (a.0 x), λ x. a.1 (w.1 x))

    pub blank_is_unreached : (n : ℕ) (f : F) → BlankIsUnreached (agreement same r) c n f
    blank_is_unreached n f = searching.blank_is_unreached agreement_merges n f tt

    -- what the search answers from a table on
    abbrev pub onward : List (Slot F) → Result (List (Slot F)) (E × ℕ)
    onward t = on_ok (turns (agreement same r) c (untaken t) t) (verdict (agreement same r))

    pub turns_enough : (a b : ℕ) (t : List (Slot F)) → untaken t ≤ a → untaken t ≤ b → turns (agreement same r) c a t ≡ turns (agreement same r) c b t
    turns_enough a b t h i = turning.turns_enough agreement_merges a b t (λ j g x. tt) h i

    pub begins : (n : ℕ) (f : F) → find_frames (agreement same r) c n f ≡ onward (start n f)
    begins n f = turning.begins agreement_merges n f tt

    pub turn_falls : (t : List (Slot F)) (k : ℕ) (f : F) (u : List (Slot F)) → lowest t ≡ Some (k, f) → turn (agreement same r) c t k f ≡ Ok u → (length u ≡ length t) × (untaken u < untaken t)
    turn_falls t k f u e x = let n = turning.turned agreement_merges t k f u (λ j g h. tt) e x in (n.long, n.falls)

    pub goes_on : (t : List (Slot F)) (k : ℕ) (f : F) (u : List (Slot F)) → lowest t ≡ Some (k, f) → turn (agreement same r) c t k f ≡ Ok u → onward t ≡ onward u
    goes_on t k f u e x = turning.goes_on agreement_merges t k f u (λ j g h. tt) e x

    pub refuses : (t : List (Slot F)) (k : ℕ) (f : F) (w : E) → lowest t ≡ Some (k, f) → turn (agreement same r) c t k f ≡ Err w → onward t ≡ Err (w, k)
    refuses t k f w e x = turning.refuses agreement_merges t k f w (λ j g h. tt) e x

    pub ends : (t : List (Slot F)) → lowest t ≡ None → onward t ≡ verdict (agreement same r) t
    ends t e = turning.ends agreement_merges t e
