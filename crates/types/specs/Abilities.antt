-- Abilities: what a byte says of them, and which a struct may have over a field.
use Rattle.std.specs.Prelude.{◌≡◌, ℕ, ◌+◌, ◌/◌, ◌%◌, Bool, true, false, cond, not, ◌&&◌, ◌||◌, ◌==◌}
use Rattle.types.specs.declared.abilities.Abilities.{Abilities}

abbrev pub primitive : Abilities
primitive = record { copy = true; drop = true; store = true; key = false }

abbrev pub none : Abilities
none = record { copy = false; drop = false; store = false; key = false }

-- the byte adds 1 for copy, 2 for drop, 4 for store, 8 for key
abbrev pub byte_of : Abilities → ℕ
byte_of a = cond a.copy 1 0 + cond a.drop 2 0 + cond a.store 4 0 + cond a.key 8 0

-- whether n, written as a sum of distinct powers of two, has the power p in it
abbrev pub adds : ℕ → ℕ → Bool
adds n p = n / p % 2 == 1

abbrev pub abilities_of : ℕ → Abilities
abilities_of n = record { copy = adds n 1; drop = adds n 2; store = adds n 4; key = adds n 8 }

abbrev pub only_if : Bool → Bool → Bool
only_if a b = not a || b

-- whether a struct with the abilities s may have a field with the abilities f
abbrev pub allows : Abilities → Abilities → Bool
allows s f =
    only_if s.copy f.copy && (only_if s.drop f.drop && (only_if s.store f.store && only_if s.key f.store))

-- a struct may have copy, drop or store only if the field has it too, and key only if the field has store
pub record Allowed (s f : Abilities) : Type 0 where
  pub copies : s.copy ≡ true → f.copy ≡ true
  pub drops : s.drop ≡ true → f.drop ≡ true
  pub stores : s.store ≡ true → f.store ≡ true
  pub keeps : s.key ≡ true → f.store ≡ true
