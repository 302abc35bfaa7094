-- Where the search for one frame refuses code, the reason and the instruction that it names are so.
use Rattle.std.proofs.Common.{◌≡◌, ℕ, zero, suc, ◌*◌, ◌<◌, ◌≤◌, Bool, true, false, ◌⊎◌, List, [], ◌∷◌, length, set, Some, None, Ok, Err, Option, Result, sym, refl, ap, ◌∙◌, subst, inl, inr, arith, length-set}
use Rattle.std.proofs.lemmas.Bool.{cases_lt, cases_Bool}
use Rattle.flow.specs.Search.{Flow, Reasons, Slot, blank, found, taken, frame_of, slot_at, lowest, blank_from, on_ok, enter, enters, turn, after, take_lowest, turns, all_reached, verdict, start}
use Rattle.flow.specs.Framed.{OneOf}
use Rattle.flow.specs.Ways.{Way, first, next, Refused, rule_fails, goes_outside, disagrees, never_reached}
use Rattle.flow.specs.Agreement.{Decides, agreement, RefusesForItsReason}
use Rattle.flow.proofs.Tables.{Has, written, lowest-found, blank_is_lowest, start_slots, start_long}
use Rattle.flow.proofs.Agreement.{enter_outside, enter-blank, enter-same, enter_differ, blank_is_unreached}

module _ {F E : Type 0} {same : F → F → Bool} (d : Decides same) (r : Reasons E) where
  -- one way into instruction k, and what the search answers to it
  data Entering (t : List (Slot F)) (k : ℕ) (g : F) : Result (List (Slot F)) E → Type 0 where
    beyond : length t ≤ k → Entering t k g (Err r.outside)
    fills : k < length t → Entering t k g (Ok (set t k (found g)))
    agrees : Entering t k g (Ok t)
    clashes : (f : F) → Has t k f → (f ≡ g → ⊥) → Entering t k g (Err r.differ)

  entering : (t : List (Slot F)) (k : ℕ) (g : F) → Entering t k g (enter (agreement same r) t k g)
  entering t k g = go (cases_lt k (length t))
    where
      other : (f : F) → same f g ≡ false → f ≡ g → ⊥
      other f s e = let i = d.itself f in let j : same f f ≡ same f g = ap (same f) e in let z : ◌≡◌ {A = ℕ} 0 1 = cc in omega arith

      met : k < length t → (f : F) → Has t k f → (same f g ≡ true) ⊎ (same f g ≡ false) → Entering t k g (enter (agreement same r) t k g)
      met l f h (inl s) = subst (Entering t k g) (sym (enter-same d r t k f g l h s)) agrees
      met l f h (inr s) = subst (Entering t k g) (sym (enter_differ d r t k f g l h s)) (clashes f h (other f s))

      at : k < length t → (s : Slot F) → slot_at t k ≡ s → Entering t k g (enter (agreement same r) t k g)
      at l blank e = subst (Entering t k g) (sym (enter-blank d r t k g l e)) (fills l)
      at l (found f) e = met l f (ap frame_of e) (cases_Bool (same f g))
      at l (taken f) e = met l f (ap frame_of e) (cases_Bool (same f g))

      go : (k < length t) ⊎ (length t ≤ k) → Entering t k g (enter (agreement same r) t k g)
      go (inl l) = at l (slot_at t k) refl
      go (inr l) = subst (Entering t k g) (sym (enter_outside d r t k g l)) (beyond l)

  module _ (c : Flow F E) (n : ℕ) (f₀ : F) where
    -- a table of n instructions whose frames all came by a way
    record Came (t : List (Slot F)) : Type 0 where
      long : length t ≡ n
      ways : (k : ℕ) (f : F) → Has t k f → Way c f₀ k f

    came_set : (t : List (Slot F)) (k : ℕ) (s : Slot F) → k < length t → ((f : F) → frame_of s ≡ Some f → Way c f₀ k f) → Came t → Came (set t k s)
    came_set t k s l w a = record {
      long = length-set t k s ∙ a.long;
      ways = λ j f x. elim (written t k s j l) [
        | inl p ↦ subst (λ i. Way c f₀ i f) (sym p.0) (w f (sym (ap frame_of p.1) ∙ x))
        | inr p ↦ a.ways j f (sym (ap frame_of p.1) ∙ x)
      ];
    }

    -- what a table becomes by some step, or why that is refused at instruction k
    abbrev Right : ℕ → Result (List (Slot F)) E → Type 0
    Right k (Ok u) = Came u
    Right k (Err w) = Refused r c n f₀ (w, k)

    module _ (k : ℕ) (f g : F) (w : Way c f₀ k f) (e : c.rule k f ≡ Ok g) where
      enter_right : (t : List (Slot F)) (j : ℕ) → Came t → OneOf j (c.succs k) → (o : Result (List (Slot F)) E) → Entering t j g o → Right k o
      enter_right t j a x o (beyond l) = let i = a.long in goes_outside w e x (omega arith)
      enter_right t j a x o (fills l) = came_set t j (found g) l (λ h y. let q : g ≡ h = cc in subst (Way c f₀ j) q (next w e x)) a
      enter_right t j a x o agrees = a
      enter_right t j a x o (clashes h y z) = disagrees w e x (a.ways j h y) z

      enters_right : (js : List ℕ) → ((j : ℕ) → OneOf j js → OneOf j (c.succs k)) → (t : List (Slot F)) → Came t → Right k (enters (agreement same r) t js g)
      enters_right [] h t a = a
      enters_right (j ∷ js) h t a = go (λ u b. enters_right js (λ i x. h i (inr x)) u b) (enter (agreement same r) t j g) (enter_right t j a (h j (inl refl)) _ (entering t j g))
        where
          go : ((u : List (Slot F)) → Came u → Right k (enters (agreement same r) u js g)) → (o : Result (List (Slot F)) E) → Right k o → Right k (on_ok o (λ u. enters (agreement same r) u js g))
          go ih (Ok u) b = ih u b
          go ih (Err v) b = b

    turn_right : (t : List (Slot F)) (k : ℕ) (f : F) → Came t → lowest t ≡ Some (k, f) → Right k (turn (agreement same r) c t k f)
    turn_right t k f a e = go (c.rule k f) refl
      where
        at : (slot_at t k ≡ found f) × (k < length t)
        at = lowest-found t k f e

        w : Way c f₀ k f
        w = a.ways k f (ap frame_of at.0)

        go : (o : Result F E) → c.rule k f ≡ o → Right k (on_ok o (λ g. enters (agreement same r) (set t k (taken f)) (c.succs k) g))
        go (Ok g) x = enters_right k f g w x (c.succs k) (λ j y. y) (set t k (taken f)) (came_set t k (taken f) at.1 (λ h y. let q : f ≡ h = cc in subst (Way c f₀ k) q w) a)
        go (Err v) x = rule_fails w x

    -- the same of several steps
    abbrev Told : Result (List (Slot F)) (E × ℕ) → Type 0
    Told (Ok u) = Came u
    Told (Err p) = Refused r c n f₀ p

    turns_told : (m : ℕ) (t : List (Slot F)) → Came t → Told (turns (agreement same r) c m t)
    turns_told zero t a = a
    turns_told (suc m) t a = go (λ u. turns_told m u) (lowest t) refl
      where
        then : ((u : List (Slot F)) → Came u → Told (turns (agreement same r) c m u)) → (k : ℕ) (o : Result (List (Slot F)) E) → Right k o → Told (after k o (λ u. turns (agreement same r) c m u))
        then ih k (Ok u) b = ih u b
        then ih k (Err v) b = b

        go : ((u : List (Slot F)) → Came u → Told (turns (agreement same r) c m u)) → (o : Option (ℕ × F)) → lowest t ≡ o → Told (take_lowest (agreement same r) c t o (λ u. turns (agreement same r) c m u))
        go ih None e = a
        go ih (Some q) e = then ih q.0 (turn (agreement same r) c t q.0 q.1) (turn_right t q.0 q.1 a e)

    came_start : Came (start n f₀)
    came_start = record {
      long = start_long n f₀;
      ways = λ k f x. elim (start_slots n f₀ k) [
        | inl e ↦ (let z : ◌≡◌ {A = ℕ} 0 1 = cc in absurd (omega arith))
        | inr p ↦ (let q = p.1 in let i : f₀ ≡ f = cc in subst (λ j. Way c f₀ j f) (sym p.0) (subst (Way c f₀ 0) i first))
      ];
    }

    pub refuses_for_its_reason : RefusesForItsReason same r c n f₀
    refuses_for_its_reason p x = go (turns (agreement same r) c (n * 1) (start n f₀)) refl (turns_told (n * 1) (start n f₀) came_start) x
      where
        last : (u : List (Slot F)) → turns (agreement same r) c (n * 1) (start n f₀) ≡ Ok u → Came u → (o : Option ℕ) → blank_from 0 u ≡ o → all_reached (agreement same r) u o ≡ Err p → Refused r c n f₀ p
        last u e a None b y = let z : ◌≡◌ {A = ℕ} 0 1 = cc in absurd (omega arith)
        last u e a (Some k) b y =
            let l = (blank_is_lowest u k b).1 in let i = a.long in
            let q : ◌≡◌ {A = E × ℕ} (r.unreached, k) p = cc in
            subst (Refused r c n f₀) q (never_reached (omega arith) (blank_is_unreached d r c n f₀ u k e b))

        go : (o : Result (List (Slot F)) (E × ℕ)) → turns (agreement same r) c (n * 1) (start n f₀) ≡ o → Told o → on_ok o (verdict (agreement same r)) ≡ Err p → Refused r c n f₀ p
        go (Ok u) e a y = last u e a (blank_from 0 u) refl y
        go (Err q) e a y = let z : q ≡ p = cc in subst (Refused r c n f₀) z a
