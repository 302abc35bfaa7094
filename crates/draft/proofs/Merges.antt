-- A merge that fits is refused nowhere, and leaves below exactly the map that the draft meant.
use Rattle.std.proofs.Common.{◌≡◌, ℕ, ◌+◌, ◌<◌, ◌≤◌, Bool, true, false, cond, not, ◌&&◌, ◌||◌, eqb, ltb, leb, List, [], ◌∷◌, map, length, get_or, drop, is_some, Some, None, Ok, Option, Result, sym, refl, ap, ◌∙◌, subst, inl, inr, arith}
use Rattle.std.specs.List.{count_by}
use Rattle.std.proofs.lemmas.List.{drop_more}
use Rattle.std.proofs.lemmas.List.Sums.{sum_by-cons}
use Rattle.std.proofs.lemmas.Bool.{both_ways, and_parts, and_from, leb-true, lt-ltb}
use Rattle.std.proofs.lemmas.Bool.Decides.{nat_tests}
use Rattle.table.specs.Rows as rows
use Rattle.table.proofs.Lookups.{Apart, three, look-above, look-put-same, look_put_other, same_rows}
use Rattle.table.proofs.Placing.{length-put, without-none}
use Rattle.table.proofs.Sorting.{above_chain, sorted-put, sorted-without}
use Rattle.store.specs.declared.keys.Key.{Key}
use Rattle.store.specs.declared.refusals.Refusal.{Refusal}
use Rattle.store.specs.Keys.{key_before}
use Rattle.store.specs.Model.{Model, fits, own, is_touched, may_touch, touch, put_answer, put_after, remove_answer, remove_after}
use Rattle.store.specs.Pairs.{Entry, key_of, entry, holds, ordered, put_in, take_out}
use Rattle.store.specs.Orders.{key_order}
use Rattle.draft.specs.declared.change.Change.{Change}
use Rattle.store.specs.declared.words.Words.{Words}
use Rattle.store.specs.WordLists.{words_in}
use Rattle.store.specs.WordLaws.{fits-in}
use Rattle.draft.specs.Changes.{changed, words_left}
use Rattle.draft.specs.Merging.{each, remove_one, put_one, removing, putting, taken_one, given_one, taking_all, giving_all, merged, touches_anew, touched_anew, cap_holds, merge_fits}
use Rattle.draft.specs.Overlay.{overlay, left, shadow}
use Rattle.draft.specs.Overlays.{ordered-overlay, entry-overlay, entry-apply-same, entry_apply_other}
use Rattle.draft.specs.Soundness.{few}

touches : Option (List Key) → ℕ
touches None = 0
touches (Some ks) = length ks

-- touching and putting only add
touch_grows : (t : Option (List Key)) (k : Key) → touches t ≤ touches (touch t k)
unfolding touches
touch_grows None k = omega arith
touch_grows (Some ks) k = let h = length-put own key_before k ks in grind (arith, nat_tests)

put_grows : (k : Key) (ws : List ℕ) (ps : List Entry) → length ps ≤ length (put_in k ws ps)
put_grows k ws ps = let h = length-put key_of key_before (k, ws) ps in grind (arith, nat_tests)

-- a key that is touched in the end may be touched now
may_touch_now : (t : Option (List Key)) (k : Key) → touches (touch t k) ≤ 64 → may_touch t k ≡ true
unfolding touches
may_touch_now None k h = refl
may_touch_now (Some ks) k h = let l = length-put own key_before k ks in grind (arith, nat_tests)

given_grows : (k : Key) (ws : List ℕ) (m : Model) → (length m.pairs ≤ length (given_one k ws m).pairs) × (touches m.touched ≤ touches (given_one k ws m).touched) × ((given_one k ws m).limit ≡ m.limit)
given_grows k [] m = (omega arith, omega arith, refl)
given_grows k (w ∷ ws) m = (put_grows k (w ∷ ws) m.pairs, touch_grows m.touched k, refl)

giving_grows : (es : List Entry) (m : Model) → (length m.pairs ≤ length (giving_all es m).pairs) × (touches m.touched ≤ touches (giving_all es m).touched) × ((giving_all es m).limit ≡ m.limit)
giving_grows [] m = (omega arith, omega arith, refl)
giving_grows (e ∷ es) m =
    let a = given_grows e.0 e.1 m in
    let b = giving_grows es (given_one e.0 e.1 m) in
    (omega arith, omega arith, b.2 ∙ a.2)

taken_grows : (k : Key) (ws : List ℕ) (m : Model) → (touches m.touched ≤ touches (taken_one k ws m).touched) × ((taken_one k ws m).limit ≡ m.limit)
taken_grows k [] m = let h = touch_grows m.touched k in grind (arith, nat_tests)
taken_grows k (w ∷ ws) m = (omega arith, refl)

taking_grows : (es : List Entry) (m : Model) → (touches m.touched ≤ touches (taking_all es m).touched) × ((taking_all es m).limit ≡ m.limit)
taking_grows [] m = (omega arith, refl)
taking_grows (e ∷ es) m =
    let a = taken_grows e.0 e.1 m in
    let b = taking_grows es (taken_one e.0 e.1 m) in
    (omega arith, b.1 ∙ a.1)

-- puts that fit in the end are refused nowhere
put-fits : (k : Key) (ws : List ℕ) (m : Model) → leb (length ws) 16 ≡ true → length (given_one k ws m).pairs ≤ m.limit → touches (given_one k ws m).touched ≤ 64 → put_one k ws m ≡ given_one k ws m
put-fits k [] m f room few_keys = refl
put-fits k (w ∷ ws) m f room few_keys =
    let t = may_touch_now m.touched k few_keys in
    let a : fits (w ∷ ws) ≡ true = and_from _ _ (lt-ltb 0 (length (w ∷ ws)) (omega arith)) f in
    let l = length-put key_of key_before (k, w ∷ ws) m.pairs in
    let h : (holds k m.pairs || ltb (length m.pairs) m.limit) ≡ true = grind (arith, nat_tests) in
    let ok : put_answer m k (w ∷ ws) ≡ Ok tt = rw (a, t, h) in
    ap (put_after m k (w ∷ ws)) ok

puts_fit : (es : List Entry) (m : Model) → few es ≡ true → length (giving_all es m).pairs ≤ m.limit → touches (giving_all es m).touched ≤ 64 → putting es m ≡ giving_all es m
puts_fit [] m f room few_keys = refl
puts_fit (e ∷ es) m f room few_keys =
    let p = and_parts (leb (length e.1) 16) (few es) f in
    let g = giving_grows es (given_one e.0 e.1 m) in
    let one = given_grows e.0 e.1 m in
    let same = put-fits e.0 e.1 m p.0 (omega arith) (omega arith) in
    ap (putting es) same ∙ puts_fit es (given_one e.0 e.1 m) p.1 (omega (arith, one.2)) few_keys

remove-fits : (k : Key) (ws : List ℕ) (m : Model) → touches (taken_one k ws m).touched ≤ 64 → remove_one k ws m ≡ taken_one k ws m
remove-fits k [] m few_keys = let t = may_touch_now m.touched k in grind (arith, nat_tests)
remove-fits k (w ∷ ws) m few_keys = refl

removes_fit : (es : List Entry) (m : Model) → touches (taking_all es m).touched ≤ 64 → removing es m ≡ taking_all es m
removes_fit [] m few_keys = refl
removes_fit (e ∷ es) m few_keys =
    let g = taking_grows es (taken_one e.0 e.1 m) in
    let same = remove-fits e.0 e.1 m (omega arith) in
    ap (removing es) same ∙ removes_fit es (taken_one e.0 e.1 m) few_keys

-- what removes and puts leave at a key
abbrev emptied_to : List ℕ → Option Entry → Option Entry
emptied_to [] o = None
emptied_to (w ∷ ws) o = o

abbrev filled_to : Key → List ℕ → Option Entry → Option Entry
filled_to k [] o = o
filled_to k (w ∷ ws) o = Some (k, w ∷ ws)

abbrev taken_at : Option Entry → Option Entry → Option Entry
taken_at None o = o
taken_at (Some e) o = emptied_to e.1 o

abbrev given_at : Option Entry → Option Entry → Option Entry
given_at None o = o
given_at (Some e) o = filled_to e.0 e.1 o

-- removes, then puts, are what the change hides
words_hide : (k : Key) (ws : List ℕ) (o : Option Entry) → filled_to k ws (emptied_to ws o) ≡ left k ws
words_hide k [] o = refl
words_hide k (w ∷ ws) o = refl

both_hide : (x o : Option Entry) → given_at x (taken_at x o) ≡ shadow x o
both_hide None o = refl
both_hide (Some e) o = words_hide e.0 e.1 o

-- one remove
taken_pairs : (k : Key) (m : Model) → (taken_one k [] m).pairs ≡ take_out k m.pairs
taken_pairs k m = let same = without-none key_of key_before k m.pairs in grind (arith, nat_tests)

module _ (k : Key) (m : Model) (s : ordered m.pairs ≡ true) where
  taken_ordered : (ws : List ℕ) → ordered (taken_one k ws m).pairs ≡ true
  taken_ordered [] = subst (λ ps. ordered ps ≡ true) (sym (taken_pairs k m)) (sorted-without key_of key_before k m.pairs s)
  taken_ordered (w ∷ ws) = s

  taken_same : (ws : List ℕ) → entry k (taken_one k ws m).pairs ≡ emptied_to ws (entry k m.pairs)
  taken_same [] = ap (entry k) (taken_pairs k m) ∙ entry-apply-same k [] m.pairs s
  taken_same (w ∷ ws) = refl

  taken_other : (j : Key) (ws : List ℕ) → Apart key_of key_before key_order j k → entry j (taken_one k ws m).pairs ≡ entry j m.pairs
  taken_other j [] a = ap (entry j) (taken_pairs k m) ∙ entry_apply_other j k [] m.pairs s a
  taken_other j (w ∷ ws) a = refl

  given-ordered : (ws : List ℕ) → ordered (given_one k ws m).pairs ≡ true
  given-ordered [] = s
  given-ordered (w ∷ ws) = sorted-put key_of key_before key_order (k, w ∷ ws) m.pairs s

  given-same : (ws : List ℕ) → entry k (given_one k ws m).pairs ≡ filled_to k ws (entry k m.pairs)
  given-same [] = refl
  given-same (w ∷ ws) = entry-apply-same k (w ∷ ws) m.pairs s

  given_other : (j : Key) (ws : List ℕ) → Apart key_of key_before key_order j k → entry j (given_one k ws m).pairs ≡ entry j m.pairs
  given_other j [] a = refl
  given_other j (w ∷ ws) a = entry_apply_other j k (w ∷ ws) m.pairs s a

-- all removes
taking_ordered : (es : List Entry) (m : Model) → ordered m.pairs ≡ true → ordered (taking_all es m).pairs ≡ true
taking_ordered [] m s = s
taking_ordered (e ∷ es) m s = taking_ordered es (taken_one e.0 e.1 m) (taken_ordered e.0 m s e.1)

giving_ordered : (es : List Entry) (m : Model) → ordered m.pairs ≡ true → ordered (giving_all es m).pairs ≡ true
giving_ordered [] m s = s
giving_ordered (e ∷ es) m s = giving_ordered es (given_one e.0 e.1 m) (given-ordered e.0 m s e.1)

none_above : (j : Key) (e : Entry) (es : List Entry) → rows.above key_of key_before e.0 es ≡ true → key_before j e.0 ≡ true → entry j es ≡ None
none_above j e es a b = look-above key_of key_before key_order j es (above_chain key_of key_before key_order j e.0 es b a)

entry_taking : (j : Key) (es : List Entry) (m : Model) → ordered es ≡ true → ordered m.pairs ≡ true → entry j (taking_all es m).pairs ≡ taken_at (entry j es) (entry j m.pairs)
entry_taking j [] m o s = refl
entry_taking j (e ∷ es) m o s =
    let p = and_parts (rows.above key_of key_before e.0 es) (ordered es) o in
    let ih = entry_taking j es (taken_one e.0 e.1 m) p.1 (taken_ordered e.0 m s e.1) in
    ih ∙ three key_of key_before key_order e.0 j
    (λ t v. rw t (ap (taken_at (entry j es)) (taken_other e.0 m s j e.1 (inr t))))
    (λ t v.
    let none : entry j es ≡ None = none_above j e es p.0 v in
    rw (t, v) (ap (λ z. taken_at z (entry j (taken_one e.0 e.1 m).pairs)) none ∙ taken_other e.0 m s j e.1 (inl v)))
    (λ q t v.
    let none : entry e.0 es ≡ None = look-above key_of key_before key_order e.0 es p.0 in
    rw (t, v, ← q) (ap (λ z. taken_at z (entry e.0 (taken_one e.0 e.1 m).pairs)) none ∙ taken_same e.0 m s e.1))

entry_giving : (j : Key) (es : List Entry) (m : Model) → ordered es ≡ true → ordered m.pairs ≡ true → entry j (giving_all es m).pairs ≡ given_at (entry j es) (entry j m.pairs)
entry_giving j [] m o s = refl
entry_giving j (e ∷ es) m o s =
    let p = and_parts (rows.above key_of key_before e.0 es) (ordered es) o in
    let ih = entry_giving j es (given_one e.0 e.1 m) p.1 (given-ordered e.0 m s e.1) in
    ih ∙ three key_of key_before key_order e.0 j
    (λ t v. rw t (ap (given_at (entry j es)) (given_other e.0 m s j e.1 (inr t))))
    (λ t v.
    let none : entry j es ≡ None = none_above j e es p.0 v in
    rw (t, v) (ap (λ z. given_at z (entry j (given_one e.0 e.1 m).pairs)) none ∙ given_other e.0 m s j e.1 (inl v)))
    (λ q t v.
    let none : entry e.0 es ≡ None = look-above key_of key_before key_order e.0 es p.0 in
    rw (t, v, ← q) (ap (λ z. given_at z (entry e.0 (given_one e.0 e.1 m).pairs)) none ∙ given-same e.0 m s e.1))

-- after a merge the store below holds exactly the map that the draft meant
pub merged_pairs : (ts : List Entry) (m : Model) → ordered ts ≡ true → ordered m.pairs ≡ true → (merged ts m).pairs ≡ overlay ts m.pairs
merged_pairs ts m o s =
    let t = taking_ordered ts m s in
    same_rows key_of key_before key_order (merged ts m).pairs (overlay ts m.pairs) (giving_ordered ts (taking_all ts m) t) (ordered-overlay ts m.pairs s)
    (λ j.
    entry_giving j ts (taking_all ts m) o t
    ∙ ap (given_at (entry j ts)) (entry_taking j ts m o s)
    ∙ both_hide (entry j ts) (entry j m.pairs)
    ∙ sym (entry-overlay j ts m.pairs o s))

-- touching counts at most one, and none for a key that is touched
touch-count : (t : Option (List Key)) (k : Key) → touches (touch t k) ≤ touches t + cond (not (is_touched t k)) 1 0
unfolding touches
touch-count None k = omega arith
touch-count (Some ks) k = let h = length-put own key_before k ks in grind (arith, nat_tests)

-- a touched key stays so
touched_stays : (t : Option (List Key)) (j k : Key) → is_touched t j ≡ true → is_touched (touch t k) j ≡ true
touched_stays None j k h = h
touched_stays (Some ks) j k h =
    three own key_before key_order j k
    (λ y z. ap is_some (look_put_other own key_before key_order j k ks (inl y)) ∙ h)
    (λ y z. ap is_some (look_put_other own key_before key_order j k ks (inr z)) ∙ h)
    (λ e y z. rw e (ap is_some (look-put-same own key_before key_order k ks)))

-- one store has touched what another has
abbrev TouchedMore : Model → Model → Type 0
TouchedMore m n = (j : Key) → is_touched m.touched j ≡ true → is_touched n.touched j ≡ true

-- and holds no more
record Beyond (m n : Model) : Type 0 where
  pub touched_more : TouchedMore m n
  pub holds_less : (j : Key) → holds j n.pairs ≡ true → holds j m.pairs ≡ true

-- new touches by removes, and by puts
abbrev takes_anew : Model → Entry → Bool
takes_anew m e = eqb (length e.1) 0 && (holds e.0 m.pairs && not (is_touched m.touched e.0))

abbrev gives_anew : Model → Entry → Bool
gives_anew m e = ltb 0 (length e.1) && not (is_touched m.touched e.0)

abbrev taken_anew : Model → List Entry → ℕ
taken_anew m [] = 0
taken_anew m (e ∷ es) = cond (takes_anew m e) 1 0 + taken_anew m es

abbrev given_anew : Model → List Entry → ℕ
given_anew m [] = 0
given_anew m (e ∷ es) = cond (gives_anew m e) 1 0 + given_anew m es

anew_parts : (m : Model) (es : List Entry) → taken_anew m es + given_anew m es ≡ touched_anew m es
anew_parts m [] = refl
anew_parts m (e ∷ es) =
    let ih = anew_parts m es in
    let one : cond (takes_anew m e) 1 0 + cond (gives_anew m e) 1 0 ≡ cond (touches_anew m e) 1 0 = grind (arith, nat_tests) in
    omega arith

takes_less : (m n : Model) → Beyond m n → (e : Entry) → ◌≤◌ (cond (takes_anew n e) 1 0) (cond (takes_anew m e) 1 0)
takes_less m n b e =
    let t = b.touched_more e.0 in
    let h = b.holds_less e.0 in
    less (eqb (length e.1) 0) (holds e.0 n.pairs) (is_touched n.touched e.0) (holds e.0 m.pairs) (is_touched m.touched e.0) h t
  where
    less : (z a b c d : Bool) → (a ≡ true → c ≡ true) → (d ≡ true → b ≡ true) → ◌≤◌ (cond (z && (a && not b)) 1 0) (cond (z && (c && not d)) 1 0)
    less z a b c d f g = grind (arith, nat_tests)

gives_less : (m n : Model) → TouchedMore m n → (e : Entry) → ◌≤◌ (cond (gives_anew n e) 1 0) (cond (gives_anew m e) 1 0)
gives_less m n more e = less (ltb 0 (length e.1)) (is_touched n.touched e.0) (is_touched m.touched e.0) (more e.0)
  where
    less : (z b d : Bool) → (d ≡ true → b ≡ true) → ◌≤◌ (cond (z && not b) 1 0) (cond (z && not d) 1 0)
    less z b d g = grind (arith, nat_tests)

taken_less : (m n : Model) → Beyond m n → (es : List Entry) → taken_anew n es ≤ taken_anew m es
taken_less m n b [] = omega arith
taken_less m n b (e ∷ es) = omega (arith, takes_less m n b e, taken_less m n b es)

given_less : (m n : Model) → TouchedMore m n → (es : List Entry) → given_anew n es ≤ given_anew m es
given_less m n more [] = omega arith
given_less m n more (e ∷ es) = omega (arith, gives_less m n more e, given_less m n more es)

-- a remove leads beyond
taken_beyond : (k : Key) (ws : List ℕ) (m : Model) → ordered m.pairs ≡ true → Beyond m (taken_one k ws m)
taken_beyond k [] m s =
    record {
      touched_more = λ j h. let t = touched_stays m.touched j k h in grind (arith, nat_tests);
      holds_less = λ j h.
          three key_of key_before key_order j k
          (λ y z. ap is_some (sym (taken_other k m s j [] (inl y))) ∙ h)
          (λ y z. ap is_some (sym (taken_other k m s j [] (inr z))) ∙ h)
          (λ e y z. absurd (both_ways true (sym h ∙ ap (λ i. holds i (taken_one k [] m).pairs) e ∙ ap is_some (taken_same k m s [])) refl));
    }
taken_beyond k (w ∷ ws) m s = record { touched_more = λ j h. h; holds_less = λ j h. h }

taking_beyond : (es : List Entry) (m : Model) → ordered m.pairs ≡ true → Beyond m (taking_all es m)
taking_beyond [] m s = record { touched_more = λ j h. h; holds_less = λ j h. h }
taking_beyond (e ∷ es) m s =
    let a = taken_beyond e.0 e.1 m s in
    let b = taking_beyond es (taken_one e.0 e.1 m) (taken_ordered e.0 m s e.1) in
    record { touched_more = λ j h. b.touched_more j (a.touched_more j h); holds_less = λ j h. a.holds_less j (b.holds_less j h) }

-- how many keys are touched then
taken_count : (k : Key) (ws : List ℕ) (m : Model) → touches (taken_one k ws m).touched ≤ touches m.touched + cond (takes_anew m (k, ws)) 1 0
taken_count k [] m = let h = touch-count m.touched k in grind (arith, nat_tests)
taken_count k (w ∷ ws) m = omega arith

taking_count : (es : List Entry) (m : Model) → ordered m.pairs ≡ true → touches (taking_all es m).touched ≤ touches m.touched + taken_anew m es
taking_count [] m s = omega arith
taking_count (e ∷ es) m s =
    let one = taken_count e.0 e.1 m in
    let ih = taking_count es (taken_one e.0 e.1 m) (taken_ordered e.0 m s e.1) in
    let less = taken_less m (taken_one e.0 e.1 m) (taken_beyond e.0 e.1 m s) es in
    omega arith

given_more : (k : Key) (ws : List ℕ) (m : Model) → TouchedMore m (given_one k ws m)
given_more k [] m j h = h
given_more k (w ∷ ws) m j h = touched_stays m.touched j k h

given-count : (k : Key) (ws : List ℕ) (m : Model) → touches (given_one k ws m).touched ≤ touches m.touched + cond (gives_anew m (k, ws)) 1 0
given-count k [] m = omega arith
given-count k (w ∷ ws) m =
    let b : ltb 0 (length (w ∷ ws)) ≡ true = lt-ltb 0 (length (w ∷ ws)) (omega arith) in
    rw b (touch-count m.touched k)

giving_count : (es : List Entry) (m : Model) → touches (giving_all es m).touched ≤ touches m.touched + given_anew m es
giving_count [] m = omega arith
giving_count (e ∷ es) m =
    let one = given-count e.0 e.1 m in
    let ih = giving_count es (given_one e.0 e.1 m) in
    let less = given_less m (given_one e.0 e.1 m) (given_more e.0 e.1 m) es in
    omega arith

merged-count : (ts : List Entry) (m : Model) → ordered m.pairs ≡ true → touches (merged ts m).touched ≤ touches m.touched + touched_anew m ts
merged-count ts m s =
    let a = taking_count ts m s in
    let b = giving_count ts (taking_all ts m) in
    let c = given_less m (taking_all ts m) (taking_beyond ts m s).touched_more ts in
    let d = anew_parts m ts in
    omega arith

-- a store without a cap counts no touched key
uncapped_taken : (k : Key) (ws : List ℕ) (m : Model) → m.touched ≡ None → (taken_one k ws m).touched ≡ None
uncapped_taken k [] m u = grind (arith, nat_tests)
uncapped_taken k (w ∷ ws) m u = u

uncapped_taking : (es : List Entry) (m : Model) → m.touched ≡ None → (taking_all es m).touched ≡ None
uncapped_taking [] m u = u
uncapped_taking (e ∷ es) m u = uncapped_taking es (taken_one e.0 e.1 m) (uncapped_taken e.0 e.1 m u)

uncapped_given : (k : Key) (ws : List ℕ) (m : Model) → m.touched ≡ None → (given_one k ws m).touched ≡ None
uncapped_given k [] m u = u
uncapped_given k (w ∷ ws) m u = rw u

uncapped_giving : (es : List Entry) (m : Model) → m.touched ≡ None → (giving_all es m).touched ≡ None
uncapped_giving [] m u = u
uncapped_giving (e ∷ es) m u = uncapped_giving es (given_one e.0 e.1 m) (uncapped_given e.0 e.1 m u)

few_keys : (ts : List Entry) (m : Model) → ordered m.pairs ≡ true → (t : Option (List Key)) → m.touched ≡ t → cap_holds t (touched_anew m ts) ≡ true → touches (merged ts m).touched ≤ 64
unfolding touches
few_keys ts m s None u h = let n = uncapped_giving ts (taking_all ts m) (uncapped_taking ts m u) in rw n (omega arith)
few_keys ts m s (Some ks) u h =
    let c = merged-count ts m s in
    let n : touches m.touched ≡ length ks = ap touches u in
    omega (arith, leb-true (length ks + touched_anew m ts) 64 h)

-- a merge that fits is done as it stands
pub merge_done : (ts : List Entry) (m : Model) → ordered ts ≡ true → ordered m.pairs ≡ true → few ts ≡ true → merge_fits ts m ≡ true → putting ts (removing ts m) ≡ merged ts m
merge_done ts m o s f h =
    let p = and_parts (leb (length (overlay ts m.pairs)) m.limit) (cap_holds m.touched (touched_anew m ts)) h in
    let room = leb-true (length (overlay ts m.pairs)) m.limit p.0 in
    let same = ap length (merged_pairs ts m o s) in
    let keys = few_keys ts m s m.touched refl p.1 in
    let t = taking_grows ts m in
    let g = giving_grows ts (taking_all ts m) in
    ap (putting ts) (removes_fit ts m (omega arith)) ∙ puts_fit ts (taking_all ts m) f (omega (arith, t.1)) keys

-- the loops of a merge, one change more

keeps_putting : (k : Key) (ws : List ℕ) (m : Model) → ltb 0 (length ws) ≡ true → m ≡ remove_one k ws m
keeps_putting k [] m h = absurd (both_ways false refl h)
keeps_putting k (w ∷ ws) m h = refl

-- a change that takes a pair out is removed, and any other left
pub removed_step : (c : Change) (m n : Model) (r : Result Bool Refusal) → is_some c.words ≡ false → r ≡ remove_answer m c.key → n ≡ remove_after m c.key r → n ≡ remove_one c.key (words_left c.words) m
removed_step c m n r h e a = go c.words h
  where
    go : (o : Option Words) → is_some o ≡ false → n ≡ remove_one c.key (words_left o) m
    go None h = a ∙ ap (remove_after m c.key) e
    go (Some w) h = absurd (both_ways true h refl)

pub passed_step : (c : Change) (m : Model) → is_some c.words ≡ true → m ≡ remove_one c.key (words_left c.words) m
passed_step c m h = go c.words h
  where
    go : (o : Option Words) → is_some o ≡ true → m ≡ remove_one c.key (words_left o) m
    go None h = absurd (both_ways false refl h)
    go (Some w) h = keeps_putting c.key (words_in w) m (and_parts _ _ (fits-in w)).0

put_words : (k : Key) (ws : List ℕ) (m : Model) → ltb 0 (length ws) ≡ true → put_after m k ws (put_answer m k ws) ≡ put_one k ws m
put_words k [] m h = absurd (both_ways false refl h)
put_words k (w ∷ ws) m h = refl

-- a change that puts words is put
pub given_step : (c : Change) (w : Words) (m n : Model) (ws : List ℕ) (r : Result (Unit {0}) Refusal) → c.words ≡ Some w → ws ≡ words_in w → r ≡ put_answer m c.key ws → n ≡ put_after m c.key ws r
    → n ≡ put_one c.key (words_left c.words) m
given_step c w m n ws r is same e a =
    a ∙ ap (put_after m c.key ws) e ∙ ap (λ z. put_after m c.key z (put_answer m c.key z)) same ∙ put_words c.key (words_in w) m (and_parts _ _ (fits-in w)).0
    ∙ ap (λ z. put_one c.key (words_left z) m) (sym is)

pub skipped_step : (c : Change) (m : Model) → ((w : Words) → c.words ≡ Some w → ⊥) → m ≡ put_one c.key (words_left c.words) m
skipped_step c m h = go c.words h
  where
    go : (o : Option Words) → ((w : Words) → o ≡ Some w → ⊥) → m ≡ put_one c.key (words_left o) m
    go None h = refl
    go (Some w) h = absurd (h w refl)

-- the changes from i on, and that at i
pub each_next : (cs : List Change) (i : ℕ) (c : Change) → i < length cs → c ≡ get_or cs i c → (step : Key → List ℕ → Model → Model) (m : Model)
    → each step (map changed (drop i cs)) m ≡ each step (map changed (drop (i + 1) cs)) (step c.key (words_left c.words) m)
each_next cs i c h at step m = ap (λ z. each step (map changed z) m) (drop_more cs i c h ∙ ap (λ (z : Change). z ∷ drop (i + 1) cs) (sym at))

pub anew_counted : (m : Model) (cs : List Change) → count_by (λ c. touches_anew m (changed c)) cs ≡ touched_anew m (map changed cs)
anew_counted m [] = refl
anew_counted m (c ∷ cs) = sum_by-cons (λ x. cond (touches_anew m (changed x)) 1 0) c cs ∙ ap (λ n. cond (touches_anew m (changed c)) 1 0 + n) (anew_counted m cs)

pub anew_few : (m : Model) (es : List Entry) → touched_anew m es ≤ length es
anew_few m [] = omega arith
anew_few m (e ∷ es) = let ih = anew_few m es in grind (arith, nat_tests)
