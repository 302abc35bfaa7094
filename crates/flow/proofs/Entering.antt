-- What the ways into instructions make of a table.
use Rattle.std.proofs.Common.{◌≡◌, ℕ, ◌+◌, ◌<◌, ◌≤◌, Bool, true, false, cond, ltb, ◌⊎◌, List, [], ◌∷◌, length, set, Some, None, Ok, Err, Option, Result, sym, refl, ap, ◌∙◌, subst, inl, inr, arith, length-set}
use Rattle.std.proofs.lemmas.Bool.{ltb-true}
use Rattle.flow.specs.Search.{Flow, Meeting, Slot, blank, found, taken, frame_of, slot_at, on_ok, merged, meet, enter, enters}
use Rattle.flow.specs.Framed.{OneOf}
use Rattle.flow.specs.Merging.{Merging}
use Rattle.flow.proofs.Tables.{Has, has_one, written}
use Rattle.flow.proofs.Weights.{weigh, weight, weight-set, weigh_frame}

module _ {F E : Type 0} {below : F → F → Type 0} {fits : F → Type 0} {m : Meeting F E} {c : Flow F E} (L : Merging below fits m c) where
  -- every frame of the table can come up
  abbrev pub Fit : List (Slot F) → Type 0
  Fit t = (k : ℕ) (f : F) → Has t k f → fits f

  abbrev pub load : List (Slot F) → ℕ
  load t = weight m.depth L.size t

  -- ways with the frame g into the instructions js have made u of t
  pub record Entry (js : List ℕ) (g : F) (t u : List (Slot F)) : Type 0 where
    pub long : length u ≡ length t
    pub keeps : (k : ℕ) (f : F) → Has t k f → (h : F) × Has u k h × below h f
    pub took : (k : ℕ) (f : F) → slot_at u k ≡ taken f → slot_at t k ≡ taken f
    pub came : (k : ℕ) (f : F) → Has u k f → ((h : F) × Has t k h) ⊎ OneOf k js
    pub there : (k : ℕ) → OneOf k js → (h : F) × Has u k h × below h g
    -- what is below all that was there and came in is below what is there
    pub low : (k : ℕ) (h : F) → ((f : F) → Has t k f → below h f) → (OneOf k js → below h g) → (f : F) → Has u k f → below h f
    pub fit : Fit t → fits g → Fit u
    pub light : fits g → load u ≤ load t

  entry-none : (js : List ℕ) (g : F) (t : List (Slot F)) → ((k : ℕ) → OneOf k js → (h : F) × Has t k h × below h g) → Entry js g t t
  entry-none js g t x = record {
    long = refl;
    keeps = λ k f h. (f, h, L.below_itself f);
    took = λ k f e. e;
    came = λ k f h. inl (f, h);
    there = x;
    low = λ k h a b f e. a f e;
    fit = λ a b. a;
    light = λ b. omega arith;
  }

  -- slot k gets the frame h, which is below what was there and what came in
  module _ (t : List (Slot F)) (k : ℕ) (g h : F) (l : k < length t) where
    entry_set : below h g → ((f : F) → Has t k f → below h f) → ((x : F) → ((f : F) → Has t k f → below x f) → below x g → below x h) → (Fit t → fits g → fits h)
        → (fits g → L.size h + 1 ≤ weigh m.depth L.size (slot_at t k)) → Entry (k ∷ []) g t (set t k (found h))
    entry_set hg hf most fit w = record {
      long = length-set t k (found h);
      keeps = λ j f x. elim (written t k (found h) j l) [
        | inl p ↦ (h, ap frame_of p.1, hf f (ap (λ i. frame_of (slot_at t i)) (sym p.0) ∙ x))
        | inr p ↦ (f, ap frame_of p.1 ∙ x, L.below_itself f)
      ];
      took = λ j f x. elim (written t k (found h) j l) [ inl p ↦ (let q = p.1 in grind arith) | inr p ↦ sym p.1 ∙ x ];
      came = λ j f x. elim (written t k (found h) j l) [ inl p ↦ inr (inl p.0) | inr p ↦ inl (f, sym (ap frame_of p.1) ∙ x) ];
      there = λ j x. elim (written t k (found h) j l) [ inl p ↦ (h, ap frame_of p.1, hg) | inr p ↦ absurd (elim x [ inl e ↦ p.0 e | inr n ↦ n ]) ];
      low = λ j x a b f y. elim (written t k (found h) j l) [
        | inl p ↦ (let q : h ≡ f = (let r = p.1 in cc) in subst (below x) q (most x (λ i z. a i (ap (λ i. frame_of (slot_at t i)) p.0 ∙ z)) (b (inl p.0))))
        | inr p ↦ a f (sym (ap frame_of p.1) ∙ y)
      ];
      fit = λ a b j f x. elim (written t k (found h) j l) [
        | inl p ↦ (let q : h ≡ f = (let r = p.1 in cc) in subst fits q (fit a b))
        | inr p ↦ a j f (sym (ap frame_of p.1) ∙ x)
      ];
      light = λ b. let v = weight-set m.depth L.size t k (found h) l in let i = w b in omega arith;
    }

  entry_then : (j : ℕ) (js : List ℕ) (g : F) (t u v : List (Slot F)) → Entry (j ∷ []) g t u → Entry js g u v → Entry (j ∷ js) g t v
  entry_then j js g t u v a b = record {
    long = b.long ∙ a.long;
    keeps = keeps;
    took = λ k f x. a.took k f (b.took k f x);
    came = λ k f x. elim (b.came k f x) [ inl p ↦ elim (a.came k p.0 p.1) [ inl q ↦ inl q | inr q ↦ inr (one k q) ] | inr p ↦ inr (inr p) ];
    there = λ k x. elim x [
      | inl e ↦ (let p = a.there k (inl e) in let q = b.keeps k p.0 p.1 in (q.0, q.1, L.below_through q.0 p.0 g q.2 p.2))
      | inr n ↦ b.there k n
    ];
    low = λ k h x y f z. b.low k h (λ i w. a.low k h x (λ r. y (one k r)) i w) (λ r. y (inr r)) f z;
    fit = λ x y. b.fit (a.fit x y) y;
    light = λ x. let p = a.light x in let q = b.light x in omega arith;
  }
    where
      one : (k : ℕ) → OneOf k (j ∷ []) → OneOf k (j ∷ js)
      one k (inl e) = inl e
      one k (inr n) = absurd n

      keeps : (k : ℕ) (f : F) → Has t k f → (h : F) × Has v k h × below h f
      keeps k f x = let p = a.keeps k f x in let q = b.keeps k p.0 p.1 in (q.0, q.1, L.below_through q.0 p.0 f q.2 p.2)

  -- where the merge alters the frame, or leaves it
  module _ (t : List (Slot F)) (k : ℕ) (f g h : F) (l : k < length t) (e : Has t k f) (x : m.merge f g ≡ Some h) where
    altered : m.same f h ≡ false → Entry (k ∷ []) g t (set t k (found h))
    altered s = entry_set t k g h l
        (L.merged_below_right f g h x)
        (λ i y. subst (below h) (has_one t k f i e y) (L.merged_below_left f g h x))
        (λ i a b. let q = L.merged_above_all_below_both f g i (a f e) b in let r : q.0 ≡ h = (let z = q.1 in cc) in subst (below i) r q.2)
        (λ a b. L.merge_keeps_fit f g h (a k f e) b x)
        (λ b. let w = weigh_frame m.depth L.size (slot_at t k) f e in let z = L.below_and_other_is_smaller f h (L.merged_below_left f g h x) s in omega arith)

    left : m.same f h ≡ true → Entry (k ∷ []) g t t
    left s = entry-none (k ∷ []) g t (λ j y. elim y [
      | inl p ↦ (f, ap (λ i. frame_of (slot_at t i)) p ∙ e, subst (λ i. below i g) (sym (L.same_is_equal f h s)) (L.merged_below_right f g h x))
      | inr n ↦ absurd n
    ])

    met_frame : (b : Bool) (u : List (Slot F)) → m.same f h ≡ b → cond b t (set t k (found h)) ≡ u → Entry (k ∷ []) g t u
    met_frame true u s y = subst (Entry (k ∷ []) g t) y (left s)
    met_frame false u s y = subst (Entry (k ∷ []) g t) y (altered s)

  met_blank : (t : List (Slot F)) (k : ℕ) (g : F) → k < length t → slot_at t k ≡ blank → Entry (k ∷ []) g t (set t k (found g))
  met_blank t k g l e = entry_set t k g g l
      (L.below_itself g)
      (λ f x. let z : ◌≡◌ {A = ℕ} 0 1 = cc in absurd (omega arith))
      (λ h a b. b)
      (λ a b. b)
      (λ b. let s = L.fit_is_small g b in let w : weigh m.depth L.size (slot_at t k) ≡ m.depth + 1 = ap (weigh m.depth L.size) e in omega arith)

  met_merged : (t : List (Slot F)) (k : ℕ) (f g : F) (o : Option F) (u : List (Slot F)) → k < length t → Has t k f → m.merge f g ≡ o → merged m t k f o ≡ Ok u → Entry (k ∷ []) g t u
  met_merged t k f g None u l e x y = let z : ◌≡◌ {A = ℕ} 0 1 = cc in absurd (omega arith)
  met_merged t k f g (Some h) u l e x y = met_frame t k f g h l e x (m.same f h) u refl (cc)

  met : (t : List (Slot F)) (k : ℕ) (s : Slot F) (g : F) (u : List (Slot F)) → k < length t → slot_at t k ≡ s → meet m t k (frame_of s) g ≡ Ok u → Entry (k ∷ []) g t u
  met t k blank g u l e x = let y : set t k (found g) ≡ u = cc in subst (Entry (k ∷ []) g t) y (met_blank t k g l e)
  met t k (found f) g u l e x = met_merged t k f g (m.merge f g) u l (ap frame_of e) refl x
  met t k (taken f) g u l e x = met_merged t k f g (m.merge f g) u l (ap frame_of e) refl x

  pub entered : (t : List (Slot F)) (k : ℕ) (g : F) (u : List (Slot F)) → enter m t k g ≡ Ok u → Entry (k ∷ []) g t u
  entered t k g u x = go (ltb k (length t)) refl x
    where
      go : (b : Bool) → ltb k (length t) ≡ b → cond b (meet m t k (frame_of (slot_at t k)) g) (Err m.reasons.outside) ≡ Ok u → Entry (k ∷ []) g t u
      go true e y = met t k (slot_at t k) g u (ltb-true k (length t) e) refl y
      go false e y = let z : ◌≡◌ {A = ℕ} 0 1 = cc in absurd (omega arith)

  pub all_entered : (js : List ℕ) (g : F) (t u : List (Slot F)) → enters m t js g ≡ Ok u → Entry js g t u
  all_entered [] g t u x = let y : t ≡ u = cc in subst (Entry [] g t) y (entry-none [] g t (λ k n. absurd n))
  all_entered (j ∷ js) g t u x = go (λ v y. all_entered js g v u y) (enter m t j g) refl x
    where
      go : ((v : List (Slot F)) → enters m v js g ≡ Ok u → Entry js g v u) → (r : Result (List (Slot F)) E) → enter m t j g ≡ r → on_ok r (λ v. enters m v js g) ≡ Ok u → Entry (j ∷ js) g t u
      go ih (Ok v) e y = entry_then j js g t v u (entered t j g v e) (ih v y)
      go ih (Err w) e y = let z : ◌≡◌ {A = ℕ} 0 1 = cc in absurd (omega arith)
