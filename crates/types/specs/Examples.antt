-- Structs that are sound, and for each part of the rule one that breaks it.
use Rattle.std.specs.Prelude.{◌≡◌, ℕ, false, List, [], ◌∷◌}
use Rattle.std.specs.List.{AllByRecursion}
use Rattle.operands.specs.declared.numbers.TypeRef.{TypeRef}
use Rattle.types.specs.Abilities.{abilities_of}
use Rattle.types.specs.Primitives.{num}
use Rattle.types.specs.Types.{Decl, Table, width, inside, is_sound, Lawful}

abbrev pub at : ℕ → ℕ → TypeRef
at m i = record { «module» = m; index = i }

abbrev pub struct : TypeRef → ℕ → List TypeRef → Decl
struct t byte fields = record { ty = t; abilities = abilities_of byte; fields = fields }

-- a seat is a resource: it has store and key; a row has eight of them, and a hall two rows; a ticket has no ability
abbrev pub seat : TypeRef
seat = at 7 0

abbrev pub row : TypeRef
row = at 7 1

abbrev pub hall : TypeRef
hall = at 7 2

abbrev pub ticket : TypeRef
ticket = at 7 3

abbrev pub house : Table
house =
    struct ticket 0 (num ∷ [])
    ∷ struct hall 12 (row ∷ row ∷ [])
    ∷ struct row 4 (seat ∷ seat ∷ seat ∷ seat ∷ seat ∷ seat ∷ seat ∷ seat ∷ [])
    ∷ struct seat 12 (num ∷ [])
    ∷ []

-- declared once more; of module 0; without a field; of an unknown type; copy, drop, store and key that a field does not allow; 17 words
abbrev pub unsound : List Decl
unsound =
    struct seat 12 (num ∷ [])
    ∷ struct (at 0 3) 0 (num ∷ [])
    ∷ struct (at 7 4) 0 []
    ∷ struct (at 7 4) 0 (num ∷ at 7 4 ∷ [])
    ∷ struct (at 7 4) 1 (num ∷ seat ∷ [])
    ∷ struct (at 7 4) 2 (num ∷ seat ∷ [])
    ∷ struct (at 7 4) 4 (num ∷ ticket ∷ [])
    ∷ struct (at 7 4) 8 (num ∷ ticket ∷ [])
    ∷ struct (at 7 4) 0 (num ∷ hall ∷ [])
    ∷ []

abbrev pub ExamplesAreJudgedSo : Type 0
ExamplesAreJudgedSo = Lawful house × AllByRecursion (λ d. is_sound d house ≡ false) unsound

abbrev pub ExamplesMeasureSo : Type 0
ExamplesMeasureSo = (width house hall ≡ 16) × (inside seat house hall ≡ 16) × (inside row house hall ≡ 2) × (inside ticket house hall ≡ 0)
