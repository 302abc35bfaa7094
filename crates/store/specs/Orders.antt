-- The order of keys is total, and is what `<` answers.
use Rattle.std.specs.Prelude.{◌≡◌, ℕ}
use Rattle.std.specs.Ordering.{partial_lt}
use Rattle.std.proofs.Common.{ap, ◌∙◌, arith}
use Rattle.std.proofs.lemmas.Bool.Decides.{nat_tests}
use Rattle.table.specs.Order.{Order}
use Rattle.store.specs.contracts.keys.KeyPartialOrd.TheImpl.{ghosts}
use Rattle.store.specs.declared.keys.Key.{Key}
use Rattle.store.specs.Keys.{key_before}

abbrev made : ℕ → ℕ → ℕ → Key
made a m i = record { address = a; «module» = m; index = i }

same_parts : (x y : Key) → x.address ≡ y.address → x.«module» ≡ y.«module» → x.index ≡ y.index → x ≡ y
same_parts x y a b c = ap (λ z. made z x.«module» x.index) a ∙ ap (λ z. made y.address z x.index) b ∙ ap (made y.address y.«module») c

pub key_order : Order key_before
key_order = record {
  never = λ x. grind (arith, nat_tests);
  chain = λ x y z p q. grind (arith, nat_tests);
  total = λ x y p q. same_parts x y (grind (arith, nat_tests)) (grind (arith, nat_tests)) (grind (arith, nat_tests));
}

-- the law of keys (`Ordered`); it stands on what the code's order is and not on `key_less`
pub keys_in_order : Order (partial_lt ghosts.partial_cmp)
keys_in_order = record {
  never = λ x. grind (arith, nat_tests);
  chain = λ x y z p q. grind (arith, nat_tests);
  total = λ x y p q. same_parts x y (grind (arith, nat_tests)) (grind (arith, nat_tests)) (grind (arith, nat_tests));
}

pub key_less : partial_lt ghosts.partial_cmp ≡ key_before
key_less i x y = less x y i
  where
    less : (x y : Key) → partial_lt ghosts.partial_cmp x y ≡ key_before x y
    less x y = grind (arith, nat_tests)
