-- A draft's changes, and the layer that they make.
use Rattle.std.proofs.Common.{◌≡◌, ℕ, ◌+◌, ◌-◌, ◌<◌, ◌≤◌, min, Bool, true, false, cond, ◌||◌, ltb, List, [], ◌∷◌, map, length, set, take, is_some, Some, None, Ok, Err, Option, Result, is_ok, sym, refl, ap, ◌∙◌, subst, ⊎_elim, arith}
use Rattle.std.specs.Option.{option_map}
use Rattle.std.specs.List.{insert, count_by}
use Rattle.std.proofs.lemmas.List.{length-map}
use Rattle.std.proofs.lemmas.List.Sums.{sum_by-cons, count_by-le-length}
use Rattle.std.proofs.lemmas.Bool.Decides.{nat_tests}
use Rattle.std.proofs.lemmas.Bool.{lt-ltb, le-ltb, ltb-true, cases_Bool, both_ways, and_parts}
use Rattle.table.specs.Rows as rows
use Rattle.table.specs.Searching.{found_sorted}
use Rattle.table.proofs.Found.{found_there, found_none}
use Rattle.table.proofs.Maps.{map-look, map-put}
use Rattle.table.proofs.Placing.{length_without, put-over, put_new}
use Rattle.table.proofs.Sorting.{sorted-put}
use Rattle.store.specs.declared.keys.Key.{Key}
use Rattle.store.specs.declared.refusals.Refusal.{Refusal}
use Rattle.store.specs.declared.refusals.Refusal.TheVariants.{TooManyTouched}
use Rattle.store.specs.Keys.{key_before}
use Rattle.store.specs.Model.{Model, Sound, cap, largest_word, fits, own, may_touch, put_answer, put_after, remove_answer, remove_after}
use Rattle.store.specs.Pairs.{Entry, key_of, entry, holds, ordered, words_of, padded, shown, put_in}
use Rattle.store.specs.Orders.{key_order}
use Rattle.store.specs.TableLaws.{is_some_mapped}
use Rattle.draft.specs.declared.change.Change.{Change}
use Rattle.draft.specs.declared.changes.Changes.{Changes}
use Rattle.store.specs.declared.words.Words.{Words}
use Rattle.store.specs.WordLists.{words_in}
use Rattle.store.specs.WordLaws.{fits-in}
use Rattle.draft.specs.Changes.{change_key, changed, rising, words_left}
use Rattle.draft.specs.Layer.{entries, layer}
use Rattle.draft.specs.Overlay.{apply, overlay, left, shadow, adds, takes}
use Rattle.draft.specs.Overlays.{entry-overlay, overlay-put, length-overlay, length-apply, count_overlay}
use Rattle.draft.specs.Soundness.{ordered-entries, length-entries, few_entries}

pub entry_changes : (c : Changes) (k : Key) → entry k (entries c) ≡ option_map changed (rows.look change_key key_before k (take c.used c.rows))
entry_changes c k = map-look changed key_of key_before k (take c.used c.rows)

-- what a draft has at a key: its change, or what lies below
pub entry-layer : (m : Model) (c : Changes) (k : Key) (o : Option Change) → Sound m → o ≡ rows.look change_key key_before k (take c.used c.rows)
    → entry k (overlay (entries c) m.pairs) ≡ shadow (option_map changed o) (entry k m.pairs)
entry-layer m c k o s e =
    entry-overlay k (entries c) m.pairs (ordered-entries c) s.rises
    ∙ ap (λ z. shadow z (entry k m.pairs)) (entry_changes c k ∙ ap (option_map changed) (sym e))

-- a change has words where it puts them
pub has_words : (o : Option Words) → is_some o ≡ ltb 0 (length (words_left o))
has_words None = refl
has_words (Some w) = sym (and_parts _ _ (fits-in w)).0

some_left : (k : Key) (ws : List ℕ) → ltb 0 (length ws) ≡ is_some (left k ws)
some_left k [] = refl
some_left k (w ∷ ws) = lt-ltb 0 (length (w ∷ ws)) (omega arith)

shown_left : (k : Key) (ws place : List ℕ) → ltb 0 (length ws) ≡ true
    → (length ws ≡ length (words_of (left k ws))) × (padded ws ≡ shown (left k ws) place)
shown_left k [] place h = absurd (both_ways false refl h)
shown_left k (w ∷ ws) place h = (refl, refl)

-- a change that was found
module _ (m : Model) (d : Changes) (k : Key) (c : Change) (s : Sound m) (e : Some c ≡ rows.look change_key key_before k (take d.used d.rows)) where
  changed-entry : entry k (overlay (entries d) m.pairs) ≡ left c.key (words_left c.words)
  changed-entry = entry-layer m d k (Some c) s e

  pub has_changed : is_some c.words ≡ holds k (overlay (entries d) m.pairs)
  has_changed = has_words c.words ∙ some_left c.key (words_left c.words) ∙ sym (ap is_some changed-entry)

  pub read_words : (w : Words) (place : List ℕ) → c.words ≡ Some w
      → (length (words_in w) ≡ length (words_of (entry k (overlay (entries d) m.pairs)))) × (padded (words_in w) ≡ shown (entry k (overlay (entries d) m.pairs)) place)
  read_words w place is =
      let there : entry k (overlay (entries d) m.pairs) ≡ left c.key (words_in w) = changed-entry ∙ ap (λ z. left c.key (words_left z)) is in
      rw there (shown_left c.key (words_in w) place (and_parts _ _ (fits-in w)).0)

  pub read_emptied : (place : List ℕ) → c.words ≡ None
      → (0 ≡ length (words_of (entry k (overlay (entries d) m.pairs)))) × (place ≡ shown (entry k (overlay (entries d) m.pairs)) place)
  read_emptied place is =
      let there : entry k (overlay (entries d) m.pairs) ≡ None = changed-entry ∙ ap (λ z. left c.key (words_left z)) is in
      rw there (refl, refl)

-- no change of a key
pub unchanged_entry : (m : Model) (d : Changes) (k : Key) → Sound m → None ≡ rows.look change_key key_before k (take d.used d.rows) → entry k m.pairs ≡ entry k (overlay (entries d) m.pairs)
unchanged_entry m d k s e = sym (entry-layer m d k None s e)

-- the touched keys, by the changes
pub touched_entries : (c : Changes) (k : Key) → is_some (rows.look own key_before k (map key_of (entries c))) ≡ is_some (rows.look change_key key_before k (take c.used c.rows))
touched_entries c k =
    ap is_some (map-look key_of own key_before k (entries c) ∙ ap (option_map key_of) (entry_changes c k))
    ∙ is_some_mapped key_of (option_map changed (rows.look change_key key_before k (take c.used c.rows)))
    ∙ is_some_mapped changed (rows.look change_key key_before k (take c.used c.rows))

pub free_entries : (c : Changes) → 64 - c.used ≡ cap - length (map key_of (entries c))
free_entries c = ap (λ n. 64 - n) (sym (length-map _ _ ∙ length-entries c))

-- noting a change, by where the search ends

module _ (c : Changes) (x : Change) (at : ℕ) where
  abbrev old : List Change
  old = take c.used c.rows

  put_noted : (new : List Change) → new ≡ rows.put change_key key_before x old → (rising new ≡ true) × (map changed new ≡ rows.put key_of key_before (changed x) (entries c))
  put_noted new e =
      (subst (λ z. rising z ≡ true) (sym e) (sorted-put change_key key_before key_order x old c.sorted), ap (map changed) e ∙ map-put changed key_of key_before x old)

  -- in the place of that of its key
  pub noted_over : Ok at ≡ found_sorted change_key key_before x.key old
      → (rising (set old at x) ≡ true) × (map changed (set old at x) ≡ rows.put key_of key_before (changed x) (entries c)) × (may_touch (Some (map key_of (entries c))) x.key ≡ true)
  noted_over e =
      let t : is_some (rows.look change_key key_before x.key old) ≡ true = ap is_some (found_there change_key key_before x.key old at x e) in
      let f : Ok at ≡ Ok (rows.place change_key key_before x.key old) = rw t at e in
      let same : at ≡ rows.place change_key key_before x.key old = cc in
      let p = put_noted (set old at x) (ap (λ n. set old n x) same ∙ sym (put-over change_key key_before x old t)) in
      let there : is_some (rows.look own key_before x.key (map key_of (entries c))) ≡ true = touched_entries c x.key ∙ t in
      (p.0, p.1, rw there)

  absent : Err at ≡ found_sorted change_key key_before x.key old → is_some (rows.look own key_before x.key (map key_of (entries c))) ≡ false
  absent e = touched_entries c x.key ∙ ap is_some (found_none change_key key_before x.key old at e)

  keys : length (map key_of (entries c)) ≡ length old
  keys = length-map _ _ ∙ length-map _ _

  -- or added
  pub noted_new : Err at ≡ found_sorted change_key key_before x.key old → length old < 64
      → (rising (insert old at x) ≡ true) × (map changed (insert old at x) ≡ rows.put key_of key_before (changed x) (entries c)) × (may_touch (Some (map key_of (entries c))) x.key ≡ true)
  noted_new e room =
      let t : is_some (rows.look change_key key_before x.key old) ≡ false = ap is_some (found_none change_key key_before x.key old at e) in
      let f : Err at ≡ Err (rows.place change_key key_before x.key old) = rw t at e in
      let same : at ≡ rows.place change_key key_before x.key old = cc in
      let p = put_noted (insert old at x) (ap (λ n. insert old n x) same ∙ sym (put_new change_key key_before x old t)) in
      let gone = absent e in
      (p.0, p.1, rw gone (lt-ltb _ 64 (omega (arith, keys))))

  pub no_room : Err at ≡ found_sorted change_key key_before x.key old → length old ≡ 64 → may_touch (Some (map key_of (entries c))) x.key ≡ false
  no_room e full = let gone = absent e in rw gone (le-ltb _ 64 (omega (arith, keys)))

-- the layer with one change more
model_is : (ps qs : List Entry) (ks js : List Key) (l : ℕ) → ps ≡ qs → ks ≡ js → ◌≡◌ {A = Model} (record { pairs = ps; limit = l; touched = Some ks }) (record { pairs = qs; limit = l; touched = Some js })
model_is ps qs ks js l p q = rw (p, q)

pub layer-put : (m : Model) (ts us : List Entry) (k : Key) (ws : List ℕ) → Sound m → ordered ts ≡ true → 0 < length ws → us ≡ put_in k ws ts → layer m us ≡ put_after (layer m ts) k ws (Ok tt)
layer-put m ts us k [] s o f e = absurd (omega arith)
layer-put m ts us k (w ∷ ws) s o f e = rw e (model_is _ _ _ _ _ (overlay-put k (w ∷ ws) ts m.pairs o s.rises) (map-put key_of own key_before (k, w ∷ ws) ts))

pub layer_gone : (m : Model) (ts us : List Entry) (k : Key) → Sound m → ordered ts ≡ true → us ≡ put_in k [] ts → layer m us ≡ remove_after (layer m ts) k (Ok true)
layer_gone m ts us k s o e = rw e (model_is _ _ _ _ _ (overlay-put k [] ts m.pairs o s.rises) (map-put key_of own key_before (k, []) ts))

-- An absent key that may be touched finds room: where it is not touched yet, fewer than 64 keys are,
-- and where it is, its change took a pair out.
apply-none : (k : Key) (ws : List ℕ) (ps : List Entry) → length ws ≡ 0 → length (apply k ws ps) ≤ length ps
apply-none k [] ps h = omega (arith, length_without key_of key_before k ps)
apply-none k (w ∷ ws) ps h = absurd (omega arith)

slack : (k : Key) (es ps : List Entry) (e : Entry) → entry k es ≡ Some e → length e.1 ≡ 0 → length (overlay es ps) + 1 ≤ length ps + length es
slack k [] ps e there h = absurd (both_ways false refl (ap is_some there))
slack k (f ∷ es) ps e there h =
    ⊎_elim
    (λ (t : key_before f.0 k ≡ true). omega (arith, slack k es ps e (rw t at there) h, length-apply f.0 f.1 (overlay es ps)))
    (λ (t : key_before f.0 k ≡ false).
    ⊎_elim
    (λ (u : key_before k f.0 ≡ true). absurd (both_ways false refl (ap is_some (rw (t, u) at there))))
    (λ (u : key_before k f.0 ≡ false).
    let same : Some f ≡ Some e = rw (t, u) at there in
    let is : f ≡ e = cc in
    let none_now : length f.1 ≡ 0 = ap (λ (z : Entry). length z.1) is ∙ h in
    omega (arith, apply-none f.0 f.1 (overlay es ps) none_now, length-overlay es ps))
    (cases_Bool (key_before k f.0)))
    (cases_Bool (key_before f.0 k))

-- where a change has words, the key is there
absent_emptied : (o : Option Entry) (below : Option Entry) (e : Entry) → o ≡ Some e → is_some (shadow o below) ≡ false → length e.1 ≡ 0
absent_emptied None below e there h = absurd (both_ways false refl (ap is_some there))
absent_emptied (Some f) below e there h = let is : f ≡ e = cc in ap (λ (z : Entry). length z.1) (sym is) ∙ no_words f.0 f.1 h
  where
    no_words : (k : Key) (ws : List ℕ) → is_some (left k ws) ≡ false → length ws ≡ 0
    no_words k [] h = refl
    no_words k (w ∷ ws) h = absurd (both_ways true h refl)

found_or : (o : Option Entry) (P : Type 0) → ((e : Entry) → o ≡ Some e → P) → (is_some o ≡ false → P) → P
found_or None P some none = none refl
found_or (Some e) P some none = some e refl

may_parts : (ks : List Key) (k : Key) → may_touch (Some ks) k ≡ true → is_some (rows.look own key_before k ks) ≡ false → length ks < 64
may_parts ks k h t = ltb-true (length ks) 64 (rw t at h)

pub room_in_layer : (m : Model) (ts : List Entry) (k : Key) → Sound m → ordered ts ≡ true → length ts ≤ 64 → may_touch (Some (map key_of ts)) k ≡ true
    → (holds k (overlay ts m.pairs) || ltb (length (overlay ts m.pairs)) (m.limit + cap)) ≡ true
room_in_layer m ts k s o few may =
    let w = s.within in
    let less : holds k (overlay ts m.pairs) ≡ false → length (overlay ts m.pairs) < m.limit + cap = λ h.
    found_or (entry k ts) _
    (λ e there.
    let absent : is_some (shadow (entry k ts) (entry k m.pairs)) ≡ false = sym (ap is_some (entry-overlay k ts m.pairs o s.rises)) ∙ h in
    omega (arith, slack k ts m.pairs e there (absent_emptied (entry k ts) (entry k m.pairs) e there absent)))
    (λ none.
    let untouched : is_some (rows.look own key_before k (map key_of ts)) ≡ false = ap is_some (map-look key_of own key_before k ts) ∙ is_some_mapped key_of (entry k ts) ∙ none in
    let n : length (map key_of ts) ≡ length ts = length-map _ _ in
    omega (arith, may_parts (map key_of ts) k may untouched, length-overlay ts m.pairs)) in
    grind (arith, nat_tests)

pub put_taken : (m : Model) (k : Key) (ws : List ℕ) → fits ws ≡ true → may_touch m.touched k ≡ true → (holds k m.pairs || ltb (length m.pairs) m.limit) ≡ true → Ok tt ≡ put_answer m k ws
put_taken m k ws f t h = rw (f, t, h)

pub put_capped : (m : Model) (k : Key) (ws : List ℕ) → fits ws ≡ true → may_touch m.touched k ≡ false → Err TooManyTouched ≡ put_answer m k ws
put_capped m k ws f t = rw (f, t)

pub remove_taken : (m : Model) (k : Key) → holds k m.pairs ≡ true → may_touch m.touched k ≡ true → Ok true ≡ remove_answer m k
remove_taken m k h t = rw (h, t)

pub remove_capped : (m : Model) (k : Key) → holds k m.pairs ≡ true → may_touch m.touched k ≡ false → Err TooManyTouched ≡ remove_answer m k
remove_capped m k h t = rw (h, t)

-- a put and a remove in a layer, by what noting the change answers
pub put_answered : (m : Model) (ts : List Entry) (k : Key) (ws : List ℕ) → Sound m → ordered ts ≡ true → length ts ≤ 64 → fits ws ≡ true
    → cond (may_touch (Some (map key_of ts)) k) (Ok tt) (Err TooManyTouched) ≡ put_answer (layer m ts) k ws
put_answered m ts k ws s o few f = let room = room_in_layer m ts k s o few in grind (arith, nat_tests)

pub put_left : (m : Model) (ts us : List Entry) (k : Key) (ws : List ℕ) (r : Result (Unit {0}) Refusal) → Sound m → ordered ts ≡ true → fits ws ≡ true
    → us ≡ cond (is_ok r) (put_in k ws ts) ts → layer m us ≡ put_after (layer m ts) k ws r
put_left m ts us k ws (Ok x) s o f e = layer-put m ts us k ws s o (ltb-true 0 (length ws) (and_parts _ _ f).0) e
put_left m ts us k ws (Err x) s o f e = ap (layer m) e

count_map : {X Y : Type 0} (f : X → Y) (p : Y → Bool) (xs : List X) → count_by p (map f xs) ≡ count_by (λ x. p (f x)) xs
count_map f p [] = refl
count_map f p (x ∷ xs) =
    sum_by-cons (λ y. cond (p y) 1 0) (f x) (map f xs) ∙ ap (λ n. cond (p (f x)) 1 0 + n) (count_map f p xs) ∙ sym (sum_by-cons (λ y. cond (p (f y)) 1 0) x xs)

-- the pairs of a layer, counted
pub size_of_layer : (m : Model) (d : Changes) → Sound m → m.limit + cap ≤ largest_word → (more fewer : ℕ)
    → more ≡ count_by (λ c. adds m.pairs (changed c)) (take d.used d.rows) → fewer ≡ count_by (λ c. takes m.pairs (changed c)) (take d.used d.rows)
    → min (length m.pairs + more) largest_word - fewer ≡ length (overlay (entries d) m.pairs)
size_of_layer m d s room more fewer a b =
    let c = count_map changed (adds m.pairs) (take d.used d.rows) in
    let e = count_map changed (takes m.pairs) (take d.used d.rows) in
    let few = count_by-le-length (λ c. adds m.pairs (changed c)) (take d.used d.rows) in
    let most = few_entries d in
    let long = length-map (take d.used d.rows) changed in
    let within = s.within in
    omega (arith, a, b, c, e, few, count_overlay (entries d) m.pairs (ordered-entries d) s.rises)
