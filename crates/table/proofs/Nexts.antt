-- The first record after a key, by where the key is found.
use Rattle.std.proofs.Common.{◌≡◌, suc, Bool, true, false, List, [], ◌∷◌, drop, is_some, refl, ap, ◌∙◌, ⊎_elim, add-one}
use Rattle.std.proofs.lemmas.Bool.{both_ways, cases_Bool, and_parts}
use Rattle.std.specs.Cmp.{IsStrictWeakOrder}
use Rattle.table.specs.Rows.{above, sorted, look, place, next, first}
use Rattle.table.specs.Searching.{behind_found, next_found}
use Rattle.table.proofs.Halves.{found_sorted_lem}
use Rattle.table.proofs.Less.{three_ways, above_tied}

module _ {R K : Type 0} (key : R → K) (before : K → K → Bool) (laws : IsStrictWeakOrder before) where
  next-first : (k : K) (rs : List R) → above key before k rs ≡ true → first rs ≡ next key before k rs
  next-first k [] h = refl
  next-first k (r ∷ rs) h = rw (and_parts (before k (key r)) (above key before k rs) h).0

  behind-hit : (k : K) (rs : List R) → sorted key before rs ≡ true → is_some (look key before k rs) ≡ true → first (drop (suc (place key before k rs)) rs) ≡ next key before k rs
  behind-hit k [] s h = refl
  behind-hit k (r ∷ rs) s h =
      let p = and_parts (above key before (key r) rs) (sorted key before rs) s in
      three_ways before laws (key r) k
      (λ t u. rw (t, u) (behind-hit k rs p.1 (rw t at h)))
      (λ t u. absurd (both_ways false refl (rw (t, u) at h)))
      (λ t u. rw (t, u) (next-first k rs (above_tied before laws key (key r) k rs t p.0)))

  at_miss : (k : K) (rs : List R) → is_some (look key before k rs) ≡ false → first (drop (place key before k rs) rs) ≡ next key before k rs
  at_miss k [] h = refl
  at_miss k (r ∷ rs) h =
      three_ways before laws (key r) k
      (λ t u. rw (t, u) (at_miss k rs (rw t at h)))
      (λ t u. rw (t, u))
      (λ t u. absurd (both_ways true (rw (t, u) at h) refl))

  pub next-sorted : (k : K) (rs : List R) → sorted key before rs ≡ true → next_found key before k rs ≡ next key before k rs
  next-sorted k rs s =
      ap (behind_found key before rs) (found_sorted_lem key before laws k rs s)
      ∙ ⊎_elim
      (λ (h : is_some (look key before k rs) ≡ true). rw h (ap (λ n. first (drop n rs)) (add-one _) ∙ behind-hit k rs s h))
      (λ (h : is_some (look key before k rs) ≡ false). rw h (at_miss k rs h))
      (cases_Bool (is_some (look key before k rs)))
