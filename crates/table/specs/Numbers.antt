-- The order of numbers: what `<` answers at them, and that it is total.
use Rattle.std.proofs.Common.{sym, subst, arith}
use Rattle.std.proofs.lemmas.Bool.{ltb-true, ltb-false, lt-ltb, le-ltb}
use Rattle.std.proofs.lemmas.Bool.Decides.{nat_tests}
use Rattle.std.specs.Ordering.{nat_cmp, as_partial_cmp, partial_lt}
use Rattle.std.specs.Prelude.{◌≡◌, nat_lt}
use Rattle.table.specs.Order.{Order}

pub number_less : partial_lt (as_partial_cmp nat_cmp) ≡ nat_lt
number_less i x y = same x y i
  where
    same : (x y : _) → partial_lt (as_partial_cmp nat_cmp) x y ≡ nat_lt x y
    same x y = grind (arith, nat_tests)

pub number_order : Order nat_lt
number_order = record {
  never = λ x. le-ltb x x (omega arith);
  chain = λ x y z p q. lt-ltb x z (omega (arith, ltb-true x y p, ltb-true y z q));
  total = λ x y p q. omega (arith, ltb-false x y p, ltb-false y x q);
}

-- the law of numbers as keys (`Ordered`)
pub numbers_in_order : Order (partial_lt (as_partial_cmp nat_cmp))
numbers_in_order = subst Order (sym number_less) number_order
