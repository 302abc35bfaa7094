-- What is found after `put` and `without`, and rows that find the same.
use Rattle.std.proofs.Common.{◌≡◌, Bool, true, false, cond, ◌⊎◌, List, [], ◌∷◌, is_some, Some, None, sym, refl, ap, ◌∙◌, ⊎_elim, arith}
use Rattle.std.proofs.lemmas.Bool.{cases_Bool, both_ways, and_parts}
use Rattle.table.specs.Order.{Order}
use Rattle.table.specs.Rows.{above, sorted, look, put, without}
use Rattle.table.proofs.Sorting.{above_chain, head, rest}

module _ {R K : Type 0} (key : R → K) (before : K → K → Bool) (laws : Order before) where
  -- two keys in one order are not in the other
  pub turn : (x y : K) → before x y ≡ true → before y x ≡ false
  turn x y h = ⊎_elim (λ (t : before y x ≡ true). absurd (both_ways _ (laws.never x) (laws.chain x y x h t))) (λ t. t) (cases_Bool (before y x))

  -- two keys, in order, in the other order, or equal
  pub three : {G : Type 0} (a b : K) → (before a b ≡ true → before b a ≡ false → G) → (before a b ≡ false → before b a ≡ true → G) → (a ≡ b → before a b ≡ false → before b a ≡ false → G) → G
  three a b f g h =
      ⊎_elim
      (λ (t : before a b ≡ true). f t (turn a b t))
      (λ (t : before a b ≡ false). ⊎_elim (λ (u : before b a ≡ true). g t u) (λ (u : before b a ≡ false). h (laws.total a b t u) t u) (cases_Bool (before b a)))
      (cases_Bool (before a b))

  -- j and k are two keys
  abbrev pub Apart : K → K → Type 0
  Apart j k = (before j k ≡ true) ⊎ (before k j ≡ true)

  pub look-above : (k : K) (rs : List R) → above key before k rs ≡ true → look key before k rs ≡ None
  look-above k [] h = refl
  look-above k (r ∷ rs) h =
      let p = and_parts (before k (key r)) (above key before k rs) h in
      let q = turn k (key r) p.0 in
      rw (q, p.0)

  pub look-put-same : (x : R) (rs : List R) → look key before (key x) (put key before x rs) ≡ Some x
  look-put-same x [] = let n = laws.never (key x) in rw (n)
  look-put-same x (r ∷ rs) = grind (arith, laws.never, look-put-same x rs)

  pub look_put_other : (j : K) (x : R) (rs : List R) → Apart j (key x) → look key before j (put key before x rs) ≡ look key before j rs
  look_put_other j x [] a = ⊎_elim (λ (h : before j (key x) ≡ true). let t = turn _ _ h in rw (t, h)) (λ (h : before (key x) j ≡ true). rw h) a
  look_put_other j x (r ∷ rs) a =
      three (key r) (key x)
      (λ p q. rw p (ap (λ z. cond (before (key r) j) z (cond (before j (key r)) None (Some r))) (look_put_other j x rs a)))
      (λ p q.
      ⊎_elim
      (λ (h : before j (key x) ≡ true).
      let t = turn _ _ h in
      let w = laws.chain j (key x) (key r) h q in
      let v = turn _ _ w in
      rw (p, q, t, h, v, w))
      (λ (h : before (key x) j ≡ true). rw (p, q, h))
      a)
      (λ e p q.
      ⊎_elim
      (λ (h : before j (key x) ≡ true). let t = turn _ _ h in rw (p, q, e, t, h))
      (λ (h : before (key x) j ≡ true). rw (p, q, e, h))
      a)

  pub look-without-same : (k : K) (rs : List R) → sorted key before rs ≡ true → look key before k (without key before k rs) ≡ None
  look-without-same k [] s = refl
  look-without-same k (r ∷ rs) s = grind (arith, laws.total, look-above, look-without-same k rs)

  pub look_without_other : (j k : K) (rs : List R) → sorted key before rs ≡ true → Apart j k → look key before j (without key before k rs) ≡ look key before j rs
  look_without_other j k [] s a = refl
  look_without_other j k (r ∷ rs) s a =
      three (key r) k
      (λ p q. rw p (ap (λ z. cond (before (key r) j) z (cond (before j (key r)) None (Some r))) (look_without_other j k rs (rest key before r rs s) a)))
      (λ p q. rw (p, q))
      (λ e p q.
      ⊎_elim
      (λ (h : before j k ≡ true).
      let w : before j (key r) ≡ true = rw e h in
      let t = turn _ _ w in
      rw (p, q, t, w) (look-above j rs (above_chain key before laws j (key r) rs w (head key before r rs s))))
      (λ (h : before k j ≡ true). let w : before (key r) j ≡ true = rw e h in rw (p, q, w))
      a)

  pub same_rows : (xs ys : List R) → sorted key before xs ≡ true → sorted key before ys ≡ true → ((k : K) → look key before k xs ≡ look key before k ys) → xs ≡ ys
  same_rows [] [] s u h = refl
  same_rows [] (y ∷ ys) s u h =
      let n = laws.never (key y) in
      let e : false ≡ true = ap is_some (rw n at (h (key y))) in
      absurd (both_ways false refl e)
  same_rows (x ∷ xs) [] s u h =
      let n = laws.never (key x) in
      let e : true ≡ false = ap is_some (rw n at (h (key x))) in
      absurd (both_ways true e refl)
  same_rows (x ∷ xs) (y ∷ ys) s u h =
      let nx = laws.never (key x) in
      let ny = laws.never (key y) in
      three (key x) (key y)
      (λ p q. let e : true ≡ false = ap is_some (rw (nx, q, p) at (h (key x))) in absurd (both_ways true e refl))
      (λ p q. let e : false ≡ true = ap is_some (rw (ny, p, q) at (h (key y))) in absurd (both_ways false refl e))
      (λ e p q.
      let some : Some x ≡ Some y = rw (nx, q, p) at (h (key x)) in
      let one : x ≡ y = cc in
      let more : xs ≡ ys =
      same_rows xs ys (rest key before x xs s) (rest key before y ys u)
      (λ k.
      three (key x) k
      (λ v w. let v2 : before (key y) k ≡ true = rw e at v in rw (v, v2) at (h k))
      (λ v w. let w2 : before k (key y) ≡ true = rw e at w in look-above k xs (above_chain key before laws k (key x) xs w (head key before x xs s)) ∙ sym (look-above k ys (above_chain key before laws k (key y) ys w2 (head key before y ys u))))
      (λ f v w.
      let f2 : key y ≡ k = sym e ∙ f in
      look-above k xs (rw f at (head key before x xs s)) ∙ sym (look-above k ys (rw f2 at (head key before y ys u))))) in
      cc)
