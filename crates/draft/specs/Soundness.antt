-- A layer over a sound store is sound.
use Rattle.std.specs.Prelude.{◌≡◌, ℕ, ◌≤◌, Bool, true, ◌&&◌, List, [], ◌∷◌, map, length, take, is_some, Some, None, Option, nat_le, refl}
use Rattle.std.proofs.Common.{ap, ◌∙◌, arith}
use Rattle.std.proofs.lemmas.List.{length-map, length-take-le}
use Rattle.std.proofs.lemmas.Bool.Decides.{nat_tests}
use Rattle.std.proofs.lemmas.Bool.{and_from, and_parts, both_ways, le-leb, lt-ltb}
use Rattle.table.proofs.Maps.{map-sorted}
use Rattle.store.specs.declared.keys.Key.{Key}
use Rattle.store.specs.Keys.{key_before}
use Rattle.store.specs.Model.{Model, Sound, fits, filled, own}
use Rattle.store.specs.declared.words.Words.{Words}
use Rattle.store.specs.Pairs.{Entry, key_of, ordered, put_in, take_out}
use Rattle.store.specs.WordLaws.{fits-in}
use Rattle.draft.specs.declared.change.Change.{Change}
use Rattle.draft.specs.declared.changes.Changes.{Changes}
use Rattle.draft.specs.Changes.{changed, words_left}
use Rattle.draft.specs.Layer.{entries, layer}
use Rattle.draft.specs.Overlay.{apply, overlay}
use Rattle.draft.specs.Overlays.{ordered-overlay, length-overlay}

-- each change has at most 16 words
abbrev pub few : List Entry → Bool
few [] = true
few (e ∷ es) = nat_le (length e.1) 16 && few es

pub filled-without : (k : Key) (ps : List Entry) → filled ps ≡ true → filled (take_out k ps) ≡ true
filled-without k [] h = refl
filled-without k (r ∷ rs) h = let p = and_parts (fits r.1) (filled rs) h in let rest = filled-without k rs p.1 in grind (arith, nat_tests)

pub filled_put : (k : Key) (ws : List ℕ) (ps : List Entry) → fits ws ≡ true → filled ps ≡ true → filled (put_in k ws ps) ≡ true
filled_put k ws [] f h = and_from _ _ f refl
filled_put k ws (r ∷ rs) f h = let p = and_parts (fits r.1) (filled rs) h in let rest = filled_put k ws rs f p.1 in grind (arith, nat_tests)

filled-apply : (k : Key) (ws : List ℕ) (ps : List Entry) → nat_le (length ws) 16 ≡ true → filled ps ≡ true → filled (apply k ws ps) ≡ true
filled-apply k [] ps f h = filled-without k ps h
filled-apply k (w ∷ ws) ps f h = filled_put k (w ∷ ws) ps (and_from _ _ (lt-ltb 0 (length (w ∷ ws)) (omega arith)) f) h

filled-overlay : (es ps : List Entry) → few es ≡ true → filled ps ≡ true → filled (overlay es ps) ≡ true
filled-overlay [] ps f h = h
filled-overlay (e ∷ es) ps f h =
    let p = and_parts (nat_le (length e.1) 16) (few es) f in
    filled-apply e.0 e.1 (overlay es ps) p.0 (filled-overlay es ps p.1 h)

few_left : (o : Option Words) → nat_le (length (words_left o)) 16 ≡ true
few_left None = refl
few_left (Some w) = (and_parts _ _ (fits-in w)).1

pub few-changed : (cs : List Change) → few (map changed cs) ≡ true
few-changed [] = refl
few-changed (c ∷ cs) = and_from _ _ (few_left c.words) (few-changed cs)

pub ordered-entries : (c : Changes) → ordered (entries c) ≡ true
ordered-entries c = map-sorted changed key_of key_before (take c.used c.rows) ∙ c.sorted

pub length-entries : (c : Changes) → length (entries c) ≡ c.used
length-entries c = length-map _ _ ∙ length-take-le c.used c.rows (omega (arith, c.long, c.within))

pub few_entries : (c : Changes) → length (entries c) ≤ 64
few_entries c = omega (arith, length-entries c, c.within)

pub layer_sound : (m : Model) (c : Changes) → Sound m → Sound (layer m (entries c))
layer_sound m c s =
    let ts = entries c in
    let l = few_entries c in
    let k = length-map ts key_of in
    record {
      rises = ordered-overlay ts m.pairs s.rises;
      full = filled-overlay ts m.pairs (few-changed (take c.used c.rows)) s.full;
      within = omega (arith, length-overlay ts m.pairs, s.within);
      few = and_from _ _ (map-sorted key_of own key_before ts ∙ ordered-entries c) (le-leb (length (map key_of ts)) 64 (omega arith));
      small = λ e. absurd (both_ways true (ap is_some e) refl);
    }
