-- Bytes as pairs of hex digits.
use Rattle.std.specs.Prelude.{ℕ, ◌+◌, ◌-◌, ◌*◌, Bool, cond, ◌&&◌, List, [], ◌∷◌, ◌++◌, Some, None, Ok, Err, vec_items, Option, Result, Vec, nat_le}
use Rattle.lines.specs.declared.bad_lines.BadLine.{BadLine}
use Rattle.lines.specs.declared.bad_lines.BadLine.TheVariants.{NoHexDigit, OddHexDigits}

-- bytes, or what is wrong with the text that should write them
abbrev pub Bytes : Type 0
Bytes = Result (List ℕ) BadLine

abbrev pub items_of : {Z : Type 0} → Result (Vec ℕ Z) BadLine → Bytes
items_of (Ok v) = Ok (vec_items v)
items_of (Err why) = Err why

abbrev pub within : ℕ → ℕ → ℕ → Bool
within low high c = nat_le low c && nat_le c high

-- what 0 to 9, a to f and A to F stand for
abbrev pub digit_value : ℕ → Option ℕ
digit_value c =
    cond (within 48 57 c) (Some (c - 48))
    (cond (within 97 102 c) (Some (c - 97 + 10))
    (cond (within 65 70 c) (Some (c - 65 + 10)) None))

abbrev pub on_digit : Option ℕ → (ℕ → Bytes) → Bytes
on_digit None then = Err NoHexDigit
on_digit (Some x) then = then x

-- what comes behind some bytes, with them
abbrev pub onto : List ℕ → Bytes → Bytes
onto xs (Ok ys) = Ok (xs ++ ys)
onto xs (Err why) = Err why

-- the high digit of a byte comes first
unfoldable pub unhex : List ℕ → Bytes
unhex [] = Ok []
unhex (a ∷ []) = on_digit (digit_value a) (λ x. Err OddHexDigits)
unhex (a ∷ b ∷ rest) =
    on_digit (digit_value a) (λ x. on_digit (digit_value b) (λ y. onto ((x * 16 + y) ∷ []) (unhex rest)))
