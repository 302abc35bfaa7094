-- The search accepts exactly the code that has frames, and leaves them in its table.
use Rattle.std.proofs.Common.{◌≡◌, ℕ, zero, suc, ◌*◌, ◌<◌, ◌≤◌, cond, ◌⊎◌, List, [], ◌∷◌, length, set, Some, None, Ok, Err, Option, Result, sym, refl, ap, ◌∙◌, subst, inl, inr, arith, length-set}
use Rattle.std.proofs.lemmas.Bool.{lt-ltb}
use Rattle.flow.specs.Search.{Flow, Meeting, Slot, found, taken, frame_of, slot_at, lowest, blank_from, on_ok, merged, meet, enter, enters, turn, after, take_lowest, turns, all_reached, verdict, start}
use Rattle.flow.specs.Framed as framed
use Rattle.flow.specs.Framed.{OneOf, Walk, first, Passes, Framed, Holds}
use Rattle.flow.specs.Order.{BlankIsUnreached}
use Rattle.flow.specs.Merging.{Merging, Accepted, AcceptsExactlyFramed, LeavesFrames}
use Rattle.flow.proofs.Tables.{Has, has_inside, has_one, lowest-found, lowest-none, full_has, has_full, blank_is_lowest, start_slots, start_first, start_long}
use Rattle.flow.proofs.Weights.{weight-none, weight-start}
use Rattle.flow.proofs.Entering.{Fit, load, Entry, entered, all_entered}
use Rattle.flow.proofs.Turning.{taken_frame, taken_one_lem, turn_ok, turned, start_fit}

module _ {F E : Type 0} {below : F → F → Type 0} {fits : F → Type 0} {m : Meeting F E} {c : Flow F E} (L : Merging below fits m c) where
  -- what every turn keeps holds at the end, and then nothing is untaken
  turns_keep : (P : List (Slot F) → Type 0) → ((t : List (Slot F)) (k : ℕ) (f : F) (u : List (Slot F)) → P t → lowest t ≡ Some (k, f) → turn m c t k f ≡ Ok u → P u)
      → (n : ℕ) (t u : List (Slot F)) → Fit L t → load L t ≤ n → P t → turns m c n t ≡ Ok u → P u × (lowest u ≡ None)
  turns_keep P step zero t u fit h p x = let e : t ≡ u = cc in subst (λ v. P v × (lowest v ≡ None)) e (p, weight-none m.depth L.size t (omega arith))
  turns_keep P step (suc n) t u fit h p x = go (λ v. turns_keep P step n v u) (lowest t) refl x
    where
      then : ((v : List (Slot F)) → Fit L v → load L v ≤ n → P v → turns m c n v ≡ Ok u → P u × (lowest u ≡ None)) → (k : ℕ) (f : F) → lowest t ≡ Some (k, f)
          → (r : Result (List (Slot F)) E) → turn m c t k f ≡ r → after k r (λ v. turns m c n v) ≡ Ok u → P u × (lowest u ≡ None)
      then ih k f e (Ok v) y z = let d = turned L t k f v fit e y in let l = d.falls in ih v d.fit (omega arith) (step t k f v p e y) z
      then ih k f e (Err w) y z = let q : ◌≡◌ {A = ℕ} 0 1 = cc in absurd (omega arith)

      go : ((v : List (Slot F)) → Fit L v → load L v ≤ n → P v → turns m c n v ≡ Ok u → P u × (lowest u ≡ None)) → (o : Option (ℕ × F)) → lowest t ≡ o
          → take_lowest m c t o (λ v. turns m c n v) ≡ Ok u → P u × (lowest u ≡ None)
      go ih None e y = let q : t ≡ u = cc in subst (λ v. P v × (lowest v ≡ None)) q (p, e)
      go ih (Some q) e y = then ih q.0 q.1 e (turn m c t q.0 q.1) refl y

  -- where what every turn keeps lets the next one pass, no turn is refused
  turns_pass : (P : List (Slot F) → Type 0) → ((t : List (Slot F)) (k : ℕ) (f : F) → P t → lowest t ≡ Some (k, f) → (u : List (Slot F)) × (turn m c t k f ≡ Ok u) × P u)
      → (n : ℕ) (t : List (Slot F)) → P t → (u : List (Slot F)) × (turns m c n t ≡ Ok u)
  turns_pass P step zero t p = (t, refl)
  turns_pass P step (suc n) t p = go (λ v. turns_pass P step n v) (lowest t) refl
    where
      go : ((v : List (Slot F)) → P v → (u : List (Slot F)) × (turns m c n v ≡ Ok u)) → (o : Option (ℕ × F)) → lowest t ≡ o → (u : List (Slot F)) × (take_lowest m c t o (λ v. turns m c n v) ≡ Ok u)
      go ih None e = (t, refl)
      go ih (Some q) e =
          let s = step t q.0 q.1 p e in
          let r = ih s.0 s.2 in
          (r.0, ap (λ y. after q.0 y (λ v. turns m c n v)) s.1 ∙ r.1)

  -- frames below all that the table has
  abbrev Over : (ℕ → F) → List (Slot F) → Type 0
  Over sol t = (k : ℕ) (f : F) → Has t k f → below (sol k) f

  meets : (sol : ℕ → F) (t : List (Slot F)) (k : ℕ) (g : F) (o : Option F) → frame_of (slot_at t k) ≡ o → Over sol t → below (sol k) g → (u : List (Slot F)) × (meet m t k o g ≡ Ok u)
  meets sol t k g None e v b = (set t k (found g), refl)
  meets sol t k g (Some f) e v b = let q = L.merged_above_all_below_both f g (sol k) (v k f e) b in (cond (m.same f q.0) t (set t k (found q.0)), ap (merged m t k f) q.1)

  enters_pass : (sol : ℕ → F) (js : List ℕ) (g : F) (t : List (Slot F)) → Over sol t → ((j : ℕ) → OneOf j js → below (sol j) g × (j < length t)) → (u : List (Slot F)) × (enters m t js g ≡ Ok u) × Over sol u
  enters_pass sol [] g t v h = (t, refl, v)
  enters_pass sol (j ∷ js) g t v h =
      let p = h j (inl refl) in
      let q = meets sol t j g (frame_of (slot_at t j)) refl v p.0 in
      let e : enter m t j g ≡ Ok q.0 = ap (λ b. cond b (meet m t j (frame_of (slot_at t j)) g) (Err m.reasons.outside)) (lt-ltb j (length t) p.1) ∙ q.1 in
      let n = entered L t j g q.0 e in
      let r = enters_pass sol js g q.0
      (λ k f x. n.low k (sol k) (v k) (λ y. elim y [ inl i ↦ subst (λ i. below (sol i) g) (sym i) p.0 | inr z ↦ absurd z ]) f x)
      (λ k x. ((h k (inr x)).0, subst (λ l. k < l) (sym n.long) (h k (inr x)).1)) in
      (r.0, ap (λ y. on_ok y (λ u. enters m u js g)) e ∙ r.1, r.2)

  module _ (n : ℕ) (f₀ : F) where
    -- what holds between turns
    record Sound (t : List (Slot F)) : Type 0 where
      long : length t ≡ n
      done : (k : ℕ) (f : F) → slot_at t k ≡ taken f → (g : F) × (c.rule k f ≡ Ok g) × ((j : ℕ) → OneOf j (c.succs k) → (h : F) × Has t j h × below h g)
      came : (k : ℕ) (f : F) → Has t k f → Walk c.succs k
      begin : 0 < n → (f : F) × Has t 0 f × below f f₀

    sound_turn : (t : List (Slot F)) (k : ℕ) (f : F) (u : List (Slot F)) → Sound t → lowest t ≡ Some (k, f) → turn m c t k f ≡ Ok u → Sound u
    sound_turn t k f u s e x = record {
      long = N.long ∙ length-set t k (taken f) ∙ s.long;
      done = λ j h y. done j h (taken_one_lem t k f at.0 at.1 j h (N.took j h y));
      came = λ j h y. elim (N.came j h y) [ inl p ↦ s.came j p.0 (sym (same j) ∙ p.1) | inr p ↦ framed.next (s.came k f (ap frame_of at.0)) p ];
      begin = λ pos. let b = s.begin pos in let q = kept 0 b.0 b.1 in (q.0, q.1, L.below_through q.0 b.0 f₀ q.2 b.2);
    }
      where
        at : (slot_at t k ≡ found f) × (k < length t)
        at = lowest-found t k f e

        same : (j : ℕ) → frame_of (slot_at (set t k (taken f)) j) ≡ frame_of (slot_at t j)
        same = taken_frame t k f at.0 at.1

        ok : (g : F) × (c.rule k f ≡ Ok g) × (enters m (set t k (taken f)) (c.succs k) g ≡ Ok u)
        ok = turn_ok m c t k f u x

        N : Entry L (c.succs k) ok.0 (set t k (taken f)) u
        N = all_entered L (c.succs k) ok.0 (set t k (taken f)) u ok.2

        kept : (j : ℕ) (h : F) → Has t j h → (i : F) × Has u j i × below i h
        kept j h y = N.keeps j h (same j ∙ y)

        done : (j : ℕ) (h : F) → (slot_at t j ≡ taken h) ⊎ ((j ≡ k) × (h ≡ f)) → (g : F) × (c.rule j h ≡ Ok g) × ((i : ℕ) → OneOf i (c.succs j) → (x : F) × Has u i x × below x g)
        done j h (inl y) =
            let d = s.done j h y in
            (d.0, d.1, λ i z. let p = d.2 i z in let q = kept i p.0 p.1 in (q.0, q.1, L.below_through q.0 p.0 d.0 q.2 p.2))
        done j h (inr y) = (ok.0, (λ a. c.rule (y.0 a) (y.1 a)) ∙ ok.1, λ i z. N.there i (subst (λ a. OneOf i (c.succs a)) y.0 z))

    sound_start : Sound (start n f₀)
    sound_start = record {
      long = start_long n f₀;
      done = λ k f x. elim (start_slots n f₀ k) [ inl e ↦ (let z : ◌≡◌ {A = ℕ} 0 1 = cc in absurd (omega arith)) | inr p ↦ (let q = p.1 in let z : ◌≡◌ {A = ℕ} 0 1 = cc in absurd (omega arith)) ];
      came = λ k f x. elim (start_slots n f₀ k) [ inl e ↦ (let z : ◌≡◌ {A = ℕ} 0 1 = cc in absurd (omega arith)) | inr p ↦ subst (Walk c.succs) (sym p.0) first ];
      begin = λ pos. (f₀, ap frame_of (start_first n f₀ pos), L.below_itself f₀);
    }

    -- at the end
    module _ (t : List (Slot F)) (s : Sound t) (none : lowest t ≡ None) where
      -- every instruction that a way reaches has a frame
      reached_has : 0 < n → {k : ℕ} → Walk c.succs k → (f : F) × Has t k f
      reached_has pos first = let b = s.begin pos in (b.0, b.1)
      reached_has pos (framed.next {k} {j} w x) =
          let r = reached_has pos w in
          let d = s.done k r.0 (lowest-none t k r.0 none r.1) in
          let q = d.2 j x in (q.0, q.1)

      module _ (full : blank_from 0 t ≡ None) where
        or_first : Option F → F
        or_first None = f₀
        or_first (Some f) = f

        frame : ℕ → F
        frame k = or_first (frame_of (slot_at t k))

        has_frame : (k : ℕ) (f : F) → Has t k f → f ≡ frame k
        unfolding frame or_first
        has_frame k f h = sym (ap or_first h)

        frame_has : (k : ℕ) → k < n → Has t k (frame k)
        frame_has k l = let p = full_has t k full (subst (λ i. k < i) (sym s.long) l) in p.1 ∙ ap Some (has_frame k p.0 p.1)

        was_taken : (k : ℕ) → k < n → slot_at t k ≡ taken (frame k)
        was_taken k l = lowest-none t k (frame k) none (frame_has k l)

        frame_begins : (o : Option F) → frame_of (slot_at t 0) ≡ o → below (or_first o) f₀
        unfolding or_first
        frame_begins None e = L.below_itself f₀
        frame_begins (Some f) e =
            let i = has_inside t 0 f e in let l = s.long in
            let b = s.begin (omega arith) in
            subst (λ x. below x f₀) (has_one t 0 b.0 f b.1 e) b.2

        frame_passes : (k : ℕ) → k < n → Passes below c n frame k
        frame_passes k l =
            let d = s.done k (frame k) (was_taken k l) in
            record {
              leaves = d.0;
              ruled = d.1;
              inside = λ j y. let q = d.2 j y in subst (λ i. j < i) s.long (has_inside t j q.0 q.1);
              meets = λ j y. let q = d.2 j y in subst (λ x. below x d.0) (has_frame j q.0 q.1) q.2;
            }

        table_framed : (o : Framed below c n f₀) × Holds t o.frame n
        unfolding frame
        table_framed = (
          record { frame = frame; begins = frame_begins (frame_of (slot_at t 0)) refl; passes = frame_passes; reached = λ k l. s.came k (frame k) (frame_has k l) },
          record { long = s.long; each = was_taken },
        )

    module _ (fit : fits f₀) where
      abbrev most : ℕ
      most = n * suc m.depth

      ended : (t : List (Slot F)) → turns m c most (start n f₀) ≡ Ok t → Sound t × (lowest t ≡ None)
      ended t x = turns_keep Sound sound_turn most (start n f₀) t (start_fit L n f₀ fit) (weight-start m.depth L.size n f₀ (L.fit_is_small f₀ fit)) sound_start x

      pub blank_is_unreached : BlankIsUnreached m c n f₀
      blank_is_unreached t k x e =
          let s = ended t x in
          let b = blank_is_lowest t k e in
          let l = s.0.long in
          record {
            never = λ w. let h = reached_has t s.0 s.1 (omega arith) w in let y = h.1 in let z = b.0 in let q : ◌≡◌ {A = ℕ} 0 1 = cc in omega arith;
            lower = λ j l. let h = b.2 j l in s.0.came j h.0 h.1;
          }

      pub leaves_frames : LeavesFrames below m c n f₀
      leaves_frames t x = go (turns m c most (start n f₀)) refl x
        where
          full : (u : List (Slot F)) (o : Option ℕ) → blank_from 0 u ≡ o → all_reached m u o ≡ Ok t → (blank_from 0 u ≡ None) × (u ≡ t)
          full u None e y = (e, cc)
          full u (Some k) e y = let z : ◌≡◌ {A = ℕ} 0 1 = cc in absurd (omega arith)

          go : (r : Result (List (Slot F)) (E × ℕ)) → turns m c most (start n f₀) ≡ r → on_ok r (verdict m) ≡ Ok t → (o : Framed below c n f₀) × Holds t o.frame n
          go (Ok u) e y =
              let q = full u (blank_from 0 u) refl y in
              let s = ended u e in
              subst (λ v. (o : Framed below c n f₀) × Holds v o.frame n) q.1 (table_framed u s.0 s.1 q.0)
          go (Err w) e y = let z : ◌≡◌ {A = ℕ} 0 1 = cc in absurd (omega arith)

      module _ (o : Framed below c n f₀) where
        abbrev Kept : List (Slot F) → Type 0
        Kept t = (length t ≡ n) × Over o.frame t

        turn_passes : (t : List (Slot F)) (k : ℕ) (f : F) → Kept t → lowest t ≡ Some (k, f) → (u : List (Slot F)) × (turn m c t k f ≡ Ok u) × Kept u
        turn_passes t k f v e =
            let at = lowest-found t k f e in
            let p = o.passes k (subst (λ l. k < l) v.0 at.1) in
            let r = L.rule_holds_above k (o.frame k) f p.leaves (v.1 k f (ap frame_of at.0)) p.ruled in
            let q = enters_pass o.frame (c.succs k) r.0 (set t k (taken f))
            (λ j h x. v.1 j h (sym (taken_frame t k f at.0 at.1 j) ∙ x))
            (λ j h. (L.below_through (o.frame j) p.leaves r.0 (p.meets j h) r.2, subst (λ l. j < l) (sym (length-set t k (taken f) ∙ v.0)) (p.inside j h))) in (
              q.0,
              ap (λ y. on_ok y (λ g. enters m (set t k (taken f)) (c.succs k) g)) r.1 ∙ q.1,
              ((all_entered L (c.succs k) r.0 (set t k (taken f)) q.0 q.1).long ∙ length-set t k (taken f) ∙ v.0, q.2),
            )

        start-over : Over o.frame (start n f₀)
        start-over k f x = elim (start_slots n f₀ k) [
          | inl e ↦ (let z : ◌≡◌ {A = ℕ} 0 1 = cc in absurd (omega arith))
          | inr p ↦ (let q = p.1 in let r : f₀ ≡ f = cc in subst (λ i. below (o.frame i) f) (sym p.0) (subst (below (o.frame 0)) r o.begins))
        ]

        framed_accepted : Accepted m c n f₀
        framed_accepted =
            let g = turns_pass Kept turn_passes most (start n f₀) (start_long n f₀, start-over) in
            let s = ended g.0 g.1 in
            let full = has_full 0 g.0 (λ k l. let h = s.0.long in reached_has g.0 s.0 s.1 (omega arith) (o.reached k (subst (λ i. k < i) h l))) in
            (g.0, ap (λ r. on_ok r (verdict m)) g.1 ∙ ap (all_reached m g.0) full)

      pub accepts_exactly_framed : AcceptsExactlyFramed below m c n f₀
      accepts_exactly_framed = (λ a. (leaves_frames a.0 a.1).0, λ o. framed_accepted o)
