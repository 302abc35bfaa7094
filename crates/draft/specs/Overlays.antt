-- What a map holds with changes over it.
use Rattle.std.specs.Prelude.{◌≡◌, ℕ, ◌+◌, ◌≤◌, Bool, true, false, cond, not, ◌&&◌, List, [], ◌∷◌, length, is_some, None, nat_lt, refl}
use Rattle.std.specs.List.{count_by}
use Rattle.std.proofs.Common.{sym, ap, ◌∙◌, inl, inr, arith}
use Rattle.std.proofs.lemmas.List.Sums.{sum_by-cons}
use Rattle.std.proofs.lemmas.Bool.Decides.{nat_tests}
use Rattle.std.proofs.lemmas.Bool.{and_parts}
use Rattle.store.specs.declared.keys.Key.{Key}
use Rattle.store.specs.Keys.{key_before}
use Rattle.store.specs.Pairs.{Entry, key_of, entry, holds, ordered, put_in}
use Rattle.store.specs.Orders.{key_order}
use Rattle.table.specs.Rows as rows
use Rattle.table.proofs.Sorting.{sorted-put, sorted-without, above_chain}
use Rattle.table.proofs.Lookups.{Apart, three, look-above, look-put-same, look_put_other, look-without-same, look_without_other, same_rows}
use Rattle.table.proofs.Placing.{length-put, length_without}
use Rattle.draft.specs.Overlay.{apply, overlay, left, shadow, adds, takes}

pub ordered-apply : (k : Key) (ws : List ℕ) (ps : List Entry) → ordered ps ≡ true → ordered (apply k ws ps) ≡ true
ordered-apply k [] ps s = sorted-without key_of key_before k ps s
ordered-apply k (w ∷ ws) ps s = sorted-put key_of key_before key_order (k, w ∷ ws) ps s

pub ordered-overlay : (es ps : List Entry) → ordered ps ≡ true → ordered (overlay es ps) ≡ true
ordered-overlay [] ps s = s
ordered-overlay (e ∷ es) ps s = ordered-apply e.0 e.1 (overlay es ps) (ordered-overlay es ps s)

pub entry-apply-same : (k : Key) (ws : List ℕ) (ps : List Entry) → ordered ps ≡ true → entry k (apply k ws ps) ≡ left k ws
entry-apply-same k [] ps s = look-without-same key_of key_before key_order k ps s
entry-apply-same k (w ∷ ws) ps s = look-put-same key_of key_before key_order (k, w ∷ ws) ps

pub entry_apply_other : (j k : Key) (ws : List ℕ) (ps : List Entry) → ordered ps ≡ true → Apart key_of key_before key_order j k → entry j (apply k ws ps) ≡ entry j ps
entry_apply_other j k [] ps s a = look_without_other key_of key_before key_order j k ps s a
entry_apply_other j k (w ∷ ws) ps s a = look_put_other key_of key_before key_order j (k, w ∷ ws) ps a

pub entry-overlay : (k : Key) (es ps : List Entry) → ordered es ≡ true → ordered ps ≡ true → entry k (overlay es ps) ≡ shadow (entry k es) (entry k ps)
entry-overlay k [] ps s u = refl
entry-overlay k (e ∷ es) ps s u =
    let p = and_parts (rows.above key_of key_before e.0 es) (ordered es) s in
    let o = ordered-overlay es ps u in
    three key_of key_before key_order e.0 k
    (λ t v. rw t (entry_apply_other k e.0 e.1 (overlay es ps) o (inr t) ∙ entry-overlay k es ps p.1 u))
    (λ t v.
    let none : entry k es ≡ None = look-above key_of key_before key_order k es (above_chain key_of key_before key_order k e.0 es v p.0) in
    rw (t, v) (entry_apply_other k e.0 e.1 (overlay es ps) o (inl v) ∙ entry-overlay k es ps p.1 u ∙ ap (λ z. shadow z (entry k ps)) none))
    (λ q t v. rw (t, v, ← q) (entry-apply-same e.0 e.1 (overlay es ps) o))

-- a change of k made last is a change of what the others leave
pub overlay-put : (k : Key) (ws : List ℕ) (es ps : List Entry) → ordered es ≡ true → ordered ps ≡ true → overlay (put_in k ws es) ps ≡ apply k ws (overlay es ps)
overlay-put k ws es ps s u =
    let o = ordered-overlay es ps u in
    let n = sorted-put key_of key_before key_order (k, ws) es s in
    same_rows key_of key_before key_order (overlay (put_in k ws es) ps) (apply k ws (overlay es ps)) (ordered-overlay (put_in k ws es) ps u) (ordered-apply k ws (overlay es ps) o)
    (λ j.
    entry-overlay j (put_in k ws es) ps n u ∙
    three key_of key_before key_order j k
    (λ t v. ap (λ z. shadow z (entry j ps)) (look_put_other key_of key_before key_order j (k, ws) es (inl t)) ∙ sym (entry_apply_other j k ws (overlay es ps) o (inl t) ∙ entry-overlay j es ps s u))
    (λ t v. ap (λ z. shadow z (entry j ps)) (look_put_other key_of key_before key_order j (k, ws) es (inr v)) ∙ sym (entry_apply_other j k ws (overlay es ps) o (inr v) ∙ entry-overlay j es ps s u))
    (λ q t v. rw q (ap (λ z. shadow z (entry k ps)) (look-put-same key_of key_before key_order (k, ws) es) ∙ sym (entry-apply-same k ws (overlay es ps) o))))

pub length-apply : (k : Key) (ws : List ℕ) (ps : List Entry) → length (apply k ws ps) ≤ length ps + 1
length-apply k [] ps = omega (arith, length_without key_of key_before k ps)
length-apply k (w ∷ ws) ps =
    let h = length-put key_of key_before (k, w ∷ ws) ps in
    grind (arith, nat_tests)

pub length-overlay : (es ps : List Entry) → length (overlay es ps) ≤ length ps + length es
length-overlay [] ps = omega arith
length-overlay (e ∷ es) ps = omega (arith, length-apply e.0 e.1 (overlay es ps), length-overlay es ps)

-- a change makes one pair more or less
pub count_apply : (k : Key) (ws : List ℕ) (ps : List Entry) → length (apply k ws ps) + cond (holds k ps) 1 0 ≡ length ps + cond (nat_lt 0 (length ws)) 1 0
count_apply k [] ps = omega (arith, length_without key_of key_before k ps)
count_apply k (w ∷ ws) ps =
    let h = length-put key_of key_before (k, w ∷ ws) ps in
    grind (arith, nat_tests)

-- where the others' keys come after that of e, they leave its pair as it was
pub held_under : (e : Entry) (es ps : List Entry) → ordered (e ∷ es) ≡ true → ordered ps ≡ true → holds e.0 (overlay es ps) ≡ holds e.0 ps
held_under e es ps s u =
    let p = and_parts (rows.above key_of key_before e.0 es) (ordered es) s in
    ap is_some (entry-overlay e.0 es ps p.1 u ∙ ap (λ z. shadow z (entry e.0 ps)) (look-above key_of key_before key_order e.0 es p.0))

one_count : (w h : Bool) → cond h 1 0 + cond (w && not h) 1 0 ≡ cond w 1 0 + cond (not w && h) 1 0
one_count true true = refl
one_count true false = refl
one_count false true = refl
one_count false false = refl

-- how many pairs there are under changes: those below, and what is added, without what is taken
pub count_overlay : (es ps : List Entry) → ordered es ≡ true → ordered ps ≡ true → length (overlay es ps) + count_by (takes ps) es ≡ length ps + count_by (adds ps) es
count_overlay [] ps s u = refl
count_overlay (e ∷ es) ps s u =
    let p = and_parts (rows.above key_of key_before e.0 es) (ordered es) s in
    let one = one_count (nat_lt 0 (length e.1)) (holds e.0 ps) in
    let c = rw (held_under e es ps s u) at (count_apply e.0 e.1 (overlay es ps)) in
    omega (arith, one, c, count_overlay es ps p.1 u, sum_by-cons (λ x. cond (takes ps x) 1 0) e es, sum_by-cons (λ x. cond (adds ps x) 1 0) e es)
