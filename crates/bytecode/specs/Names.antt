-- The name of each kind of record.
use Rattle.std.specs.Prelude.{ℕ, cond, List, [], ◌∷◌, codes, ◌==◌}

abbrev pub Named : Type 0
Named = ℕ × List ℕ

abbrev pub names : List Named
names =
    (0x00, codes "end") ∷ (0x01, codes "module") ∷ (0x02, codes "struct") ∷ (0x03, codes "field")
    ∷ (0x04, codes "function") ∷ (0x05, codes "param") ∷ (0x06, codes "result") ∷ (0x07, codes "local")
    ∷ (0x10, codes "pushbool") ∷ (0x11, codes "pushnum") ∷ (0x12, codes "pushaddr") ∷ (0x13, codes "sender")
    ∷ (0x14, codes "pop") ∷ (0x15, codes "copyloc") ∷ (0x16, codes "moveloc") ∷ (0x17, codes "stloc")
    ∷ (0x18, codes "add") ∷ (0x19, codes "sub") ∷ (0x1a, codes "mul") ∷ (0x1d, codes "lt") ∷ (0x1e, codes "eq")
    ∷ (0x22, codes "jump") ∷ (0x23, codes "jumpif") ∷ (0x24, codes "call") ∷ (0x25, codes "ret")
    ∷ (0x26, codes "abort") ∷ (0x27, codes "pack") ∷ (0x28, codes "unpack") ∷ (0x29, codes "moveto")
    ∷ (0x2a, codes "movefrom") ∷ (0x2b, codes "exists") ∷ []

abbrev pub looked_up : ℕ → List Named → List ℕ
looked_up k [] = []
looked_up k (n ∷ ns) = cond (k == n.0) n.1 (looked_up k ns)

abbrev pub name_of : ℕ → List ℕ
name_of k = looked_up k names
