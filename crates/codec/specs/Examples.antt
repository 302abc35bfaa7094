-- Small modules, and what the reader answers to each.
use Rattle.std.specs.Prelude.{◌≡◌, ℕ, List, [], ◌∷◌, Ok, Err, Result}
use Rattle.bytecode.specs.declared.refusals.Fault.{Fault}
use Rattle.bytecode.specs.declared.refusals.Reason.TheVariants.{MissingEnd, CutRecord}
use Rattle.bytecode.specs.Refusals.{fault}
use Rattle.codec.specs.Reading.{read_module}

-- the module called Seven: a struct with store and key that holds a number, and an entry that packs one and gives it to the sender
abbrev pub seven : List ℕ
seven =
    0x01 ∷ 0x07 ∷ 0x00
    ∷ 0x02 ∷ 0x0c
    ∷ 0x03 ∷ 0x00 ∷ 0x00 ∷ 0x01
    ∷ 0x04 ∷ 0x02
    ∷ 0x05 ∷ 0x00 ∷ 0x00 ∷ 0x01
    ∷ 0x16 ∷ 0x00
    ∷ 0x27 ∷ 0x00
    ∷ 0x13
    ∷ 0x29 ∷ 0x00
    ∷ 0x25
    ∷ 0x00 ∷ []

abbrev pub Example : Type 0
Example = List ℕ × Result ℕ Fault

abbrev pub examples : List Example
examples =
    ([], Err (fault MissingEnd 0))
    ∷ (0x01 ∷ 0x07 ∷ [], Err (fault CutRecord 0))
    ∷ (0x01 ∷ 0x07 ∷ 0x00 ∷ [], Err (fault MissingEnd 3))
    ∷ (0x01 ∷ 0x07 ∷ 0x00 ∷ 0x00 ∷ [], Ok 2)
    ∷ (seven, Ok 11) ∷ []

abbrev pub AllRead : List Example → Type 0
AllRead [] = Unit {0}
AllRead (e ∷ es) = (read_module e.0 ≡ e.1) × AllRead es

abbrev pub ExamplesReadSo : Type 0
ExamplesReadSo = AllRead examples
