-- The test whether two types are one.
use Rattle.std.proofs.Common.{◌≡◌, true, arith}
use Rattle.operands.specs.declared.numbers.TypeRef.{TypeRef}
use Rattle.types.specs.Primitives.{same_type}

pub same_is : (a b : TypeRef) → same_type a b ≡ true → a ≡ b
same_is a b e = grind arith

pub same_self : (a : TypeRef) → same_type a a ≡ true
same_self a = grind arith
