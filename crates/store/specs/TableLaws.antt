-- The rows of a table store, and what they mean.
use Rattle.std.specs.Prelude.{◌≡◌, ℕ, ◌≤◌, Bool, true, false, ◌||◌, List, [], ◌∷◌, ◌++◌, map, length, take, drop, is_some, Some, None, Ok, Err, Option, Result, nat_lt, refl}
use Rattle.std.proofs.Common.{sym, ap, ◌∙◌, arith, length-take}
use Rattle.std.specs.Option.{option_map, unwrap_or}
use Rattle.std.specs.Result.{is_ok}
use Rattle.std.proofs.lemmas.List.{length-map, length-take-le, take_at}
use Rattle.std.proofs.lemmas.Bool.{and_from, both_ways}
use Rattle.table.proofs.Room.{room_was, no_room_was}
use Rattle.table.specs.declared.edits.Full.{Full}
use Rattle.table.specs.Editing.{fits as room_for, put_answer as rows_answer, put_after as rows_after, take_answer, take_after}
use Rattle.table.specs.Rows as rows
use Rattle.table.proofs.Maps.{map-look, map-put, map-without, map-sorted, map_next, map_first}
use Rattle.table.proofs.Sorting.{sorted-put, sorted-without}
use Rattle.store.specs.declared.keys.Key.{Key}
use Rattle.store.specs.declared.pair.Pair.{Pair}
use Rattle.store.specs.declared.refusals.Refusal.TheVariants.{AtLimit}
use Rattle.store.specs.Keys.{key_before}
use Rattle.store.specs.Model.{Model, Sound, filled, put_answer, put_after, remove_answer, remove_after}
use Rattle.store.specs.Pairs.{Entry, key_of, entry, holds, next_key}
use Rattle.store.specs.Tables.{pair_key, meant, rising, table_model}
use Rattle.store.specs.Orders.{key_order}
use Rattle.store.specs.WordLaws.{fits-in}
use Rattle.store.specs.WordLists.{words_in}

filled-meant : (rs : List Pair) → filled (map meant rs) ≡ true
filled-meant [] = refl
filled-meant (p ∷ rs) = and_from _ _ (fits-in p.words) (filled-meant rs)

pub size-meant : (rs : List Pair) (n : ℕ) → n ≤ length rs → length (map meant (take n rs)) ≡ n
size-meant rs n h = length-map _ _ ∙ length-take-le n rs h

pub table_sound : (rs : List Pair) (n : ℕ) → n ≤ length rs → length rs ≤ 4096 → rising (take n rs) ≡ true → Sound (table_model rs n)
table_sound rs n l f s =
    let m = size-meant rs n l in
    record {
      rises = map-sorted meant key_of key_before (take n rs) ∙ s;
      full = filled-meant (take n rs);
      within = omega arith;
      few = refl;
      small = λ _. omega arith;
    }

pub entry-meant : (k : Key) (rs : List Pair) → entry k (map meant rs) ≡ option_map meant (rows.look pair_key key_before k rs)
entry-meant k rs = map-look meant key_of key_before k rs

pub is_some_mapped : {A B : Type 0} (f : A → B) (o : Option A) → is_some (option_map f o) ≡ is_some o
is_some_mapped f None = refl
is_some_mapped f (Some x) = refl

pub has_meant : (k : Key) (rs : List Pair) → holds k (map meant rs) ≡ is_some (rows.look pair_key key_before k rs)
has_meant k rs = ap is_some (entry-meant k rs) ∙ is_some_mapped meant (rows.look pair_key key_before k rs)

pub ruleset meanings = (entry-meant, has_meant)

mapped_mapped : {A B C : Type 0} (f : A → B) (g : B → C) (o : Option A) → option_map g (option_map f o) ≡ option_map (λ x. g (f x)) o
mapped_mapped f g None = refl
mapped_mapped f g (Some x) = refl

pub first-meant : (rs : List Pair) → next_key None (map meant rs) ≡ option_map pair_key (rows.first rs)
first-meant rs = ap (option_map key_of) (map_first meant key_of key_before rs) ∙ mapped_mapped meant key_of (rows.first rs)

pub next-meant : (k : Key) (rs : List Pair) → next_key (Some k) (map meant rs) ≡ option_map pair_key (rows.next pair_key key_before k rs)
next-meant k rs = ap (option_map key_of) (map_next meant key_of key_before k rs) ∙ mapped_mapped meant key_of (rows.next pair_key key_before k rs)

model_is : (ps qs : List Entry) (l m : ℕ) → ps ≡ qs → l ≡ m → ◌≡◌ {A = Model} (record { pairs = ps; limit = l; touched = None }) (record { pairs = qs; limit = m; touched = None })
model_is ps qs l m p q = rw (p, q)

-- what the table's insert and remove leave of the rows `old`, of which the first n are in use: `new`, of which the first m are
module _ (old new : List Pair) (n : ℕ) (within : n ≤ length old) (rises : rising (take n old) ≡ true) (same : length new ≡ length old) where
  abbrev was : Model
  was = table_model old n

  pub record Lawful (m : ℕ) : Type 0 where
    pub inside : m ≤ length new
    pub rise : rising (take m new) ≡ true

  module _ (p : Pair) where
    abbrev room : Bool
    room = room_for pair_key key_before old (take n old) p

    abbrev ws : List ℕ
    ws = words_in p.words

    room_is : room ≡ (holds p.key was.pairs || nat_lt (length was.pairs) was.limit)
    room_is = rw (has_meant, size-meant old n within, length-take-le n old within)

    pub inserted_by : (m : ℕ) → Ok m ≡ rows_answer pair_key key_before old (take n old) p → new ≡ rows_after pair_key key_before old (take n old) p
        → Lawful m × (Ok tt ≡ put_answer was p.key ws) × (table_model new m ≡ put_after was p.key ws (Ok tt))
    inserted_by m e a =
        let now = rows.put pair_key key_before p (take n old) in
        let c = room_was room m (length now) e in
        let whole : new ≡ now ++ drop (length now) old = a ∙ rw c.0 in
        let front : take m new ≡ now = ap (take m) whole ∙ take_at now _ m (sym c.1) in
        let f = fits-in p.words in
        let b = sym room_is ∙ c.0 in (
          record { inside = omega (arith, ap length front, length-take m new, c.1); rise = rw front (sorted-put pair_key key_before key_order p (take n old) rises) },
          rw (f, b),
          model_is _ _ _ _ (ap (map meant) front ∙ map-put meant key_of key_before p (take n old)) same,
        )

    pub not_inserted_by : (r : Result ℕ Full) → is_ok r ≡ false → r ≡ rows_answer pair_key key_before old (take n old) p → Err AtLimit ≡ put_answer was p.key ws
    not_inserted_by (Ok m) f e = absurd (both_ways true f refl)
    not_inserted_by (Err f) _ e =
        let b = sym room_is ∙ no_room_was room f _ e in
        let t = fits-in p.words in
        rw (t, b)

  pub removed_by : (k : Key) (left : Option ℕ) → left ≡ take_answer pair_key key_before (take n old) k → new ≡ take_after pair_key key_before old (take n old) k
      → Lawful (unwrap_or left n) × (Ok (is_some left) ≡ remove_answer was k) × (table_model new (unwrap_or left n) ≡ remove_after was k (Ok (is_some left)))
  removed_by k (Some m) e a =
      let now = rows.without pair_key key_before k (take n old) in
      let there : is_some (rows.look pair_key key_before k (take n old)) ≡ true = grind arith in
      let size : m ≡ length now = grind arith in
      let whole : new ≡ now ++ drop (length now) old = a ∙ rw there in
      let front : take m new ≡ now = ap (take m) whole ∙ take_at now _ m (sym size) in
      let b = has_meant k (take n old) ∙ there in (
        record { inside = omega (arith, ap length front, length-take m new, size); rise = rw front (sorted-without pair_key key_before k (take n old) rises) },
        rw b,
        model_is _ _ _ _ (ap (map meant) front ∙ map-without meant key_of key_before k (take n old)) same,
      )
  removed_by k None e a =
      let none : is_some (rows.look pair_key key_before k (take n old)) ≡ false = grind arith in
      let now : new ≡ old = a ∙ rw none in
      let b = has_meant k (take n old) ∙ none in
      (record { inside = omega (arith, same, within); rise = rw now rises }, rw b, ap (λ l. table_model l n) now)
