-- What `<` answers at a type with an order, and what follows from that alone, where keys may tie.
use Rattle.std.proofs.Common.{◌≡◌, Bool, true, false, List, [], ◌∷◌, Option, Ordering, sym, refl, subst, ⊎_elim}
use Rattle.std.proofs.lemmas.Bool.{cases_Bool, both_ways, and_parts, and_from}
use Rattle.std.proofs.lemmas.List.Sorted.{ranks_by}
use Rattle.std.specs.Cmp.{Agrees, IsTotalOrder, IsStrictWeakOrder}
use Rattle.std.specs.Ordering.{is_lt, is_some_and, partial_lt}
use Rattle.table.specs.Rows.{above}

pub less_order : {K : Type 0} {C : K → K → Option Ordering} {R : K → K → Ordering} → Agrees C R → IsTotalOrder R → IsStrictWeakOrder (partial_lt C)
less_order a o = subst IsStrictWeakOrder (λ i x y. is_some_and is_lt (sym (a x y) i)) (ranks_by o (λ x. x))

module _ {K : Type 0} (before : K → K → Bool) (laws : IsStrictWeakOrder before) where
  pub past : (x y z : K) → before x y ≡ true → before y z ≡ true → before x z ≡ true
  past x y z p q =
      ⊎_elim
      (λ (t : before x z ≡ true). t)
      (λ (t : before x z ≡ false). absurd (both_ways _ (laws.chain x z y t (laws.one_way y z q)) p))
      (cases_Bool (before x z))

  -- two keys, in order, in the other order, or tied
  pub three_ways : {G : Type 0} (a b : K) → (before a b ≡ true → before b a ≡ false → G) → (before a b ≡ false → before b a ≡ true → G) → (before a b ≡ false → before b a ≡ false → G) → G
  three_ways a b f g h =
      ⊎_elim
      (λ (t : before a b ≡ true). f t (laws.one_way a b t))
      (λ (t : before a b ≡ false). ⊎_elim (λ (u : before b a ≡ true). g t u) (λ (u : before b a ≡ false). h t u) (cases_Bool (before b a)))
      (cases_Bool (before a b))

  module _ {R : Type 0} (key : R → K) where
    -- what comes after a key comes after those that tie with it
    pub above_tied : (j k : K) (rs : List R) → before j k ≡ false → above key before j rs ≡ true → above key before k rs ≡ true
    above_tied j k [] t h = refl
    above_tied j k (r ∷ rs) t h =
        let p = and_parts (before j (key r)) (above key before j rs) h in
        ⊎_elim
        (λ (u : before k (key r) ≡ true). and_from _ _ u (above_tied j k rs t p.1))
        (λ (u : before k (key r) ≡ false). absurd (both_ways _ (laws.chain j k (key r) t u) p.0))
        (cases_Bool (before k (key r)))
