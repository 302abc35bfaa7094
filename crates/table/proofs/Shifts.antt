-- What moving records up or down by one leaves.
use Rattle.std.proofs.Common.{◌≡◌, ℕ, suc, ◌+◌, ◌-◌, ◌<◌, ◌≤◌, List, ◌∷◌, ◌++◌, length, take, drop, set, refl, ap, ◌∙◌, arith, append_assoc}
use Rattle.std.specs.List.{insert, remove, copy_within}
use Rattle.std.proofs.lemmas.List.{set_split, take-take, drop-take, take-append-le, length-append, length-take-le, drop_at}

module _ {X : Type 0} (old : List X) (used at : ℕ) where
  -- the rows in use from a place on
  rest : (n m : ℕ) → m ≡ n → n ≤ used → drop m (take used old) ≡ take (used - n) (drop n old)
  rest n m e l = ap (λ k. drop m (take k old)) (omega arith) ∙ ap (λ k. drop k (take (n + (used - n)) old)) e ∙ drop-take n (used - n) old

  pub shifted_in : (x : X) → at ≤ used → used < length old → set (copy_within old at used (at + 1)) at x ≡ insert (take used old) at x ++ drop (used + 1) old
  shifted_in x l u =
      let front = take (at + 1) old in
      let moved = take (used - at) (drop at old) in
      let last = drop (at + 1 + (used - at)) old in
      let n : length front ≡ at + 1 = length-take-le (at + 1) old (omega arith) in
      let kept : take at (front ++ (moved ++ last)) ≡ take at old = take-append-le at front (moved ++ last) (omega arith) ∙ take-take at (at + 1) old (omega arith) in
      let behind : drop (suc at) (front ++ (moved ++ last)) ≡ moved ++ drop (used + 1) old = drop_at front (moved ++ last) (suc at) (omega arith) ∙ ap (λ m. moved ++ drop m old) (omega arith) in
      ap (λ l. set l at x) (append_assoc front moved last)
      ∙ set_split (front ++ (moved ++ last)) at x (omega (arith, length-append front (moved ++ last)))
      ∙ (λ i. kept i ++ x ∷ behind i)
      ∙ rw (rest at at refl l, take-take at used old l, append_assoc)

  pub shifted_out : at < used → copy_within old (at + 1) used at ≡ remove (take used old) at ++ drop (used - 1) old
  shifted_out l =
      let end : at + (used - (at + 1)) ≡ used - 1 = omega arith in
      rw (rest (at + 1) (suc at) (omega arith) (omega arith), take-take at used old (omega arith), end)
