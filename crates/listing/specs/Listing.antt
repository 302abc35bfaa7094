-- The lines of a listing, one for each record of a module.
use Rattle.std.specs.Prelude.{ℕ, cond, List, [], ◌∷◌, ◌++◌, codes, decimal, ◌==◌, slice_index}
use Rattle.std.specs.List.{flat_map}
use Rattle.bytecode.specs.Kinds.{length_rule}
use Rattle.bytecode.specs.Names.{name_of}
use Rattle.operands.specs.Operands.{low_first, type_ref, function_ref}
use Rattle.bytecode.specs.Records.{Shown}
use Rattle.operands.specs.Texts.{type_text}
use Rattle.codec.specs.Walking.{At, records_in}

-- an operand of one byte: a truth value for pushbool, and a number for any other kind
abbrev pub byte_text : ℕ → ℕ → List ℕ
byte_text kind b = cond (kind == 0x10) (cond (b == 0) (codes "false") (codes "true")) (decimal b)

-- a call names a module and a function there, and every other body of three bytes a type
abbrev pub name_text : ℕ → List ℕ → List ℕ
name_text kind body =
    cond (kind == 0x24)
    (decimal (function_ref body).«module» ++ (codes " " ++ decimal (function_ref body).function))
    (type_text (type_ref body))

-- what a body of n bytes says, with a blank before it
abbrev pub body_text : ℕ → Shown → List ℕ
body_text n x =
    cond (n == 0) []
    (cond (n == 1) (codes " " ++ byte_text x.0 (slice_index x.1 0))
    (cond (n == 2) (codes " " ++ decimal (low_first 2 x.1))
    (cond (n == 3) (codes " " ++ name_text x.0 x.1)
    (codes " " ++ decimal (low_first 8 x.1)))))

abbrev pub operands_text : Shown → List ℕ
operands_text x = body_text (length_rule x.0) x

-- the record's place, its name and its operands
abbrev pub record_text : At → List ℕ
record_text x = decimal x.0 ++ (codes " " ++ (name_of x.1.0 ++ operands_text x.1))

abbrev pub line_text : At → List ℕ
line_text x = record_text x ++ (10 ∷ [])

-- a line for each of the records that bytes begin with
abbrev pub listing : List ℕ → List ℕ
listing bs = flat_map line_text (records_in bs)
