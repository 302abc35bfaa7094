-- The turns of the search: each has less to do than the one before, and what is left decides the answer.
use Rattle.std.proofs.Common.{◌≡◌, ℕ, zero, suc, ◌+◌, ◌*◌, ◌<◌, ◌≤◌, ◌⊎◌, List, length, set, Some, None, Ok, Err, Option, Result, sym, refl, ap, ◌∙◌, subst, inl, inr, arith, length-set}
use Rattle.flow.specs.Search.{Flow, Meeting, Slot, found, taken, frame_of, slot_at, lowest, on_ok, enters, turn, after, take_lowest, turns, verdict, start, find_frames}
use Rattle.flow.specs.Merging.{Merging}
use Rattle.flow.proofs.Tables.{written, lowest-found, start_slots}
use Rattle.flow.proofs.Weights.{weigh, weight-set, weight-none, weight-start}
use Rattle.flow.proofs.Entering.{Fit, load, Entry, all_entered}

-- taking an instruction leaves every frame as it is
module _ {F : Type 0} (t : List (Slot F)) (k : ℕ) (f : F) (e : slot_at t k ≡ found f) (l : k < length t) where
  pub taken_frame : (j : ℕ) → frame_of (slot_at (set t k (taken f)) j) ≡ frame_of (slot_at t j)
  taken_frame j = elim (written t k (taken f) j l) [
    | inl p ↦ ap frame_of p.1 ∙ sym (ap frame_of e) ∙ ap (λ i. frame_of (slot_at t i)) (sym p.0)
    | inr p ↦ ap frame_of p.1
  ]

  pub taken_one_lem : (j : ℕ) (g : F) → slot_at (set t k (taken f)) j ≡ taken g → (slot_at t j ≡ taken g) ⊎ ((j ≡ k) × (g ≡ f))
  taken_one_lem j g x = elim (written t k (taken f) j l) [ inl p ↦ inr (p.0, (let q = p.1 in cc)) | inr p ↦ inl (sym p.1 ∙ x) ]

module _ {F E : Type 0} (m : Meeting F E) (c : Flow F E) where
  pub turn_ok : (t : List (Slot F)) (k : ℕ) (f : F) (u : List (Slot F)) → turn m c t k f ≡ Ok u → (g : F) × (c.rule k f ≡ Ok g) × (enters m (set t k (taken f)) (c.succs k) g ≡ Ok u)
  turn_ok t k f u x = go (c.rule k f) refl x
    where
      go : (r : Result F E) → c.rule k f ≡ r → on_ok r (λ g. enters m (set t k (taken f)) (c.succs k) g) ≡ Ok u → (g : F) × (c.rule k f ≡ Ok g) × (enters m (set t k (taken f)) (c.succs k) g ≡ Ok u)
      go (Ok g) e y = (g, e, y)
      go (Err w) e y = let z : ◌≡◌ {A = ℕ} 0 1 = cc in absurd (omega arith)

  pub turns-none : (n : ℕ) (t : List (Slot F)) → lowest t ≡ None → turns m c n t ≡ Ok t
  turns-none zero t e = refl
  turns-none (suc n) t e = ap (λ o. take_lowest m c t o (λ u. turns m c n u)) e

  pub turns_some : (n : ℕ) (t : List (Slot F)) (k : ℕ) (f : F) → lowest t ≡ Some (k, f) → turns m c (suc n) t ≡ after k (turn m c t k f) (λ u. turns m c n u)
  turns_some n t k f e = ap (λ o. take_lowest m c t o (λ u. turns m c n u)) e

module _ {F E : Type 0} {below : F → F → Type 0} {fits : F → Type 0} {m : Meeting F E} {c : Flow F E} (L : Merging below fits m c) where
  -- what a turn does to a table whose frames can come up
  pub record Turned (t u : List (Slot F)) : Type 0 where
    pub long : length u ≡ length t
    pub fit : Fit L u
    pub falls : load L u < load L t

  pub turned : (t : List (Slot F)) (k : ℕ) (f : F) (u : List (Slot F)) → Fit L t → lowest t ≡ Some (k, f) → turn m c t k f ≡ Ok u → Turned t u
  turned t k f u fit e x = record {
    long = n.long ∙ length-set t k (taken f);
    fit = n.fit (λ j h y. fit j h (sym (taken_frame t k f at.0 at.1 j) ∙ y)) gf;
    falls =
        let w = weight-set m.depth L.size t k (taken f) at.1 in
        let v : weigh m.depth L.size (slot_at t k) ≡ L.size f + 1 = ap (weigh m.depth L.size) at.0 in
        let i = n.light gf in omega arith;
  }
    where
      at : (slot_at t k ≡ found f) × (k < length t)
      at = lowest-found t k f e

      ok : (g : F) × (c.rule k f ≡ Ok g) × (enters m (set t k (taken f)) (c.succs k) g ≡ Ok u)
      ok = turn_ok m c t k f u x

      gf : fits ok.0
      gf = L.rule_keeps_fit k f ok.0 (fit k f (ap frame_of at.0)) ok.1

      n : Entry L (c.succs k) ok.0 (set t k (taken f)) u
      n = all_entered L (c.succs k) ok.0 (set t k (taken f)) u ok.2

  -- once what there is to do is covered, more turns change nothing
  pub turns_enough : (a b : ℕ) (t : List (Slot F)) → Fit L t → load L t ≤ a → load L t ≤ b → turns m c a t ≡ turns m c b t
  turns_enough zero b t fit h i = sym (turns-none m c b t (weight-none m.depth L.size t (omega arith)))
  turns_enough (suc a) zero t fit h i = turns-none m c (suc a) t (weight-none m.depth L.size t (omega arith))
  turns_enough (suc a) (suc b) t fit h i = go (λ u. turns_enough a b u) (lowest t) refl
    where
      then : ((u : List (Slot F)) → Fit L u → load L u ≤ a → load L u ≤ b → turns m c a u ≡ turns m c b u) → (k : ℕ) (f : F) → lowest t ≡ Some (k, f)
          → (r : Result (List (Slot F)) E) → turn m c t k f ≡ r → after k r (λ u. turns m c a u) ≡ after k r (λ u. turns m c b u)
      then ih k f e (Ok u) x = let d = turned t k f u fit e x in let l = d.falls in ih u d.fit (omega arith) (omega arith)
      then ih k f e (Err w) x = refl

      go : ((u : List (Slot F)) → Fit L u → load L u ≤ a → load L u ≤ b → turns m c a u ≡ turns m c b u) → (o : Option (ℕ × F)) → lowest t ≡ o
          → take_lowest m c t o (λ u. turns m c a u) ≡ take_lowest m c t o (λ u. turns m c b u)
      go ih None e = refl
      go ih (Some p) e = then ih p.0 p.1 e (turn m c t p.0 p.1) refl

  -- what the search answers from a table on
  abbrev pub onward : List (Slot F) → Result (List (Slot F)) (E × ℕ)
  onward t = on_ok (turns m c (load L t) t) (verdict m)

  onward_enough : (a : ℕ) (t : List (Slot F)) → Fit L t → load L t ≤ a → on_ok (turns m c a t) (verdict m) ≡ onward t
  onward_enough a t fit h = ap (λ r. on_ok r (verdict m)) (turns_enough a (load L t) t fit h (omega arith))

  onward_some : (t : List (Slot F)) (k : ℕ) (f : F) → Fit L t → lowest t ≡ Some (k, f) → (w : ℕ) → load L t ≤ w → onward t ≡ on_ok (after k (turn m c t k f) (λ u. turns m c w u)) (verdict m)
  onward_some t k f fit e w h = sym (onward_enough (suc w) t fit (omega arith)) ∙ ap (λ r. on_ok r (verdict m)) (turns_some m c w t k f e)

  pub goes_on : (t : List (Slot F)) (k : ℕ) (f : F) (u : List (Slot F)) → Fit L t → lowest t ≡ Some (k, f) → turn m c t k f ≡ Ok u → onward t ≡ onward u
  goes_on t k f u fit e x =
      let d = turned t k f u fit e x in let l = d.falls in
      onward_some t k f fit e (load L t) (omega arith)
      ∙ ap (λ r. on_ok (after k r (λ v. turns m c (load L t) v)) (verdict m)) x
      ∙ onward_enough (load L t) u d.fit (omega arith)

  pub refuses : (t : List (Slot F)) (k : ℕ) (f : F) (w : E) → Fit L t → lowest t ≡ Some (k, f) → turn m c t k f ≡ Err w → onward t ≡ Err (w, k)
  refuses t k f w fit e x = onward_some t k f fit e (load L t) (omega arith) ∙ ap (λ r. on_ok (after k r (λ v. turns m c (load L t) v)) (verdict m)) x

  pub ends : (t : List (Slot F)) → lowest t ≡ None → onward t ≡ verdict m t
  ends t e = ap (λ r. on_ok r (verdict m)) (turns-none m c (load L t) t e)

  pub start_fit : (n : ℕ) (f : F) → fits f → Fit L (start n f)
  start_fit n f fit k g h = elim (start_slots n f k) [ inl e ↦ (let z : ◌≡◌ {A = ℕ} 0 1 = cc in absurd (omega arith)) | inr p ↦ (let q = p.1 in let r : g ≡ f = cc in subst fits (sym r) fit) ]

  pub begins : (n : ℕ) (f : F) → fits f → find_frames m c n f ≡ onward (start n f)
  begins n f fit = onward_enough (n * suc m.depth) (start n f) (start_fit n f fit) (weight-start m.depth L.size n f (L.fit_is_small f fit))
