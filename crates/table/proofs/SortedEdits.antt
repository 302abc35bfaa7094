-- Putting into sorted rows and taking out of them, by where the search ends.
use Rattle.std.proofs.Common.{◌≡◌, ℕ, ◌+◌, ◌-◌, ◌<◌, ◌≤◌, Bool, true, false, cond, ltb, List, [], ◌∷◌, ◌++◌, length, take, drop, set, is_some, Some, Ok, Err, sym, refl, ap, ◌∙◌, ⊎_elim, arith, take-append-drop}
use Rattle.std.specs.List.{insert}
use Rattle.std.proofs.lemmas.List.{length-set, set-append_left, length-take-le, take_all, drop_all}
use Rattle.std.proofs.lemmas.Bool.{cases_Bool, cases_lt, both_ways}
use Rattle.table.specs.Editing.{insert_answer, insert_after, remove_answer, remove_after, put_answer, put_after, take_answer, take_after}
use Rattle.std.specs.Cmp.{IsStrictWeakOrder}
use Rattle.table.specs.Rows.{sorted, look, put, without, place}
use Rattle.table.specs.Searching.{found}
use Rattle.table.proofs.Halves.{found_sorted_lem}
use Rattle.table.proofs.Placing.{put-over, put_new, without_one, length-put, length_without}

-- the rows in use, and those behind them
pub split_rows : {X : Type 0} (used : ℕ) (old : List X) → take used old ++ drop (length (take used old)) old ≡ old
split_rows used old =
    ⊎_elim
    (λ (h : used < length old). ap (λ n. take used old ++ drop n old) (length-take-le used old (omega arith)) ∙ take-append-drop used old)
    (λ (h : length old ≤ used).
    let e = take_all used old h in
    ap (λ l. l ++ drop (length (take used old)) old) e ∙ ap (λ l. old ++ l) (ap (λ l. drop (length l) old) e ∙ drop_all (length old) old (omega arith)) ∙ append-none old)
    (cases_lt used (length old))
  where
    append-none : {X : Type 0} (xs : List X) → xs ++ [] ≡ xs
    append-none [] = refl
    append-none (x ∷ xs) = ap (λ l. x ∷ l) (append-none xs)

module _ {R K : Type 0} (key : R → K) (before : K → K → Bool) (laws : IsStrictWeakOrder before) where
  place_inside : (k : K) (rs : List R) → is_some (look key before k rs) ≡ true → place key before k rs < length rs
  place_inside k [] h = absurd (both_ways false refl h)
  place_inside k (r ∷ rs) h = grind (arith, place_inside k rs)

  module _ (old : List R) (used : ℕ) (x : R) where
    abbrev rs : List R
    rs = take used old

    insert_present : is_some (look key before (key x) rs) ≡ true
        → (insert_answer old rs (Ok (place key before (key x) rs)) ≡ put_answer key before old rs x) × (insert_after old rs x (Ok (place key before (key x) rs)) ≡ put_after key before old rs x)
    insert_present h =
        let i = place_inside (key x) rs h in
        let p = put-over key before x rs h in
        let n : length (put key before x rs) ≡ length rs = ap length p ∙ length-set rs _ x in (
          rw h (ap Ok (sym n)),
          rw h
              (ap (λ l. set l (place key before (key x) rs) x) (sym (split_rows used old))
              ∙ set-append_left rs (drop (length rs) old) (place key before (key x) rs) x i
              ∙ ap (λ l. l ++ drop (length rs) old) (sym p) ∙ ap (λ m. put key before x rs ++ drop m old) (sym n)),
        )

    insert_absent : is_some (look key before (key x) rs) ≡ false
        → (insert_answer old rs (Err (place key before (key x) rs)) ≡ put_answer key before old rs x) × (insert_after old rs x (Err (place key before (key x) rs)) ≡ put_after key before old rs x)
    insert_absent h =
        let p = put_new key before x rs h in
        let l : length (put key before x rs) ≡ length rs + 1 = rw h at (length-put key before x rs) in (
          rw h (ap (λ m. cond (ltb (length rs) (length old)) (Ok m) (Err (record {}))) (sym l)),
          rw h
              (ap (λ m. cond (ltb (length rs) (length old)) (insert rs (place key before (key x) rs) x ++ drop m old) old) (sym l)
              ∙ ap (λ m. cond (ltb (length rs) (length old)) (m ++ drop (length (put key before x rs)) old) old) (sym p)),
        )

    pub insert-sorted : sorted key before rs ≡ true
        → (insert_answer old rs (found key before (key x) rs) ≡ put_answer key before old rs x) × (insert_after old rs x (found key before (key x) rs) ≡ put_after key before old rs x)
    insert-sorted s =
        let f = found_sorted_lem key before laws (key x) rs s in
        ⊎_elim
        (λ (h : is_some (look key before (key x) rs) ≡ true). let t = insert_present h in let g : found key before (key x) rs ≡ Ok (place key before (key x) rs) = f ∙ rw h in (ap (insert_answer old rs) g ∙ t.0, ap (insert_after old rs x) g ∙ t.1))
        (λ (h : is_some (look key before (key x) rs) ≡ false). let t = insert_absent h in let g : found key before (key x) rs ≡ Err (place key before (key x) rs) = f ∙ rw h in (ap (insert_answer old rs) g ∙ t.0, ap (insert_after old rs x) g ∙ t.1))
        (cases_Bool (is_some (look key before (key x) rs)))

  pub remove-sorted : (old : List R) (used : ℕ) (k : K) → sorted key before (take used old) ≡ true
      → (remove_answer (take used old) (found key before k (take used old)) ≡ take_answer key before (take used old) k)
      × (remove_after old (take used old) (found key before k (take used old)) ≡ take_after key before old (take used old) k)
  remove-sorted old used k s =
      let rs = take used old in
      let f = found_sorted_lem key before laws k rs s in
      let l = length_without key before k rs in
      ⊎_elim
      (λ (h : is_some (look key before k rs) ≡ true).
      let g : found key before k rs ≡ Ok (place key before k rs) = f ∙ rw h in
      let p = without_one key before k rs h in
      let n : length rs - 1 ≡ length (without key before k rs) = omega (arith, rw h at l) in (
        ap (remove_answer rs) g ∙ rw h (ap Some n),
        ap (remove_after old rs) g ∙ rw h (ap (λ t. t ++ drop (length rs - 1) old) (sym p) ∙ ap (λ m. without key before k rs ++ drop m old) n),
      ))
      (λ (h : is_some (look key before k rs) ≡ false).
      let g : found key before k rs ≡ Err (place key before k rs) = f ∙ rw h in
      (ap (remove_answer rs) g ∙ rw h, ap (remove_after old rs) g ∙ rw h))
      (cases_Bool (is_some (look key before k rs)))
