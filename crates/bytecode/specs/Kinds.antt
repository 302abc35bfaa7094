-- The kinds of records, and how long the body of each is.
use Rattle.std.specs.Prelude.{ℕ, Bool, false, cond, ◌||◌, List, [], ◌∷◌, ◌==◌, nat_le}

abbrev pub among : ℕ → List ℕ → Bool
among k [] = false
among k (x ∷ xs) = k == x || among k xs

-- the kinds whose bodies have no byte, one, two, three and eight bytes; 255 says that there is no such kind
abbrev pub length_rule : ℕ → ℕ
length_rule k =
    cond (among k (0x00 ∷ 0x13 ∷ 0x14 ∷ 0x18 ∷ 0x19 ∷ 0x1a ∷ 0x1d ∷ 0x1e ∷ 0x25 ∷ 0x26 ∷ [])) 0
    (cond (among k (0x02 ∷ 0x04 ∷ 0x10 ∷ 0x15 ∷ 0x16 ∷ 0x17 ∷ 0x22 ∷ 0x23 ∷ 0x27 ∷ 0x28 ∷ 0x29 ∷ 0x2a ∷ 0x2b ∷ [])) 1
    (cond (among k (0x01 ∷ [])) 2
    (cond (among k (0x03 ∷ 0x05 ∷ 0x06 ∷ 0x07 ∷ 0x24 ∷ [])) 3
    (cond (among k (0x11 ∷ 0x12 ∷ [])) 8 255))))

-- the same, shut: the laws of reading and writing take it as it stands
unfoldable pub body_length : ℕ → ℕ
body_length k = length_rule k

abbrev pub known : ℕ → Bool
known k = nat_le (body_length k) 254
