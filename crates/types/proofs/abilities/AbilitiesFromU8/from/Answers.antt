-- A bit of the byte is set where its power of two is in the sum.
use Rattle.std.proofs.Common.{◌≡◌, ℕ, zero, suc, ◌+◌, ◌-◌, ◌*◌, ◌/◌, ◌%◌, ◌^◌, ◌<◌, not, eqb, arith}
use lib.Bits.{bit_and, and_high}
use Rattle.std.proofs.lemmas.Nat.{mod_below}
use Rattle.types.specs.Abilities.{adds}
use Rattle.types.proofs.abilities.AbilitiesFromU8.from.Goals as goal

set_if_added : (n k : ℕ) → 0 < 2 ^ k → not (eqb (bit_and n (2 ^ (1 + k) - 2 ^ k)) 0) ≡ adds n (2 ^ k)
set_if_added n k p = bit (n / 2 ^ k % 2) (2 ^ k) (bit_and n (2 ^ (1 + k) - 2 ^ k)) p (and_high n 1 k) (mod_below (n / 2 ^ k) 2 (omega arith))
  where
    bit : (x p b : ℕ) → 0 < p → b ≡ x * p → x < 2 → not (eqb b 0) ≡ eqb x 1
    bit zero p b h e l = grind arith
    bit (suc zero) p b h e l = grind arith
    bit (suc (suc x)) p b h e l = absurd (omega arith)

pub returns : goal.returns
returns c =
    let n = c.args.byte in
    let copy = set_if_added n 0 (omega arith) in
    let drop = set_if_added n 1 (omega arith) in
    let store = set_if_added n 2 (omega arith) in
    let key = set_if_added n 3 (omega arith) in
    λ i. record { copy = copy i; drop = drop i; store = store i; key = key i }
