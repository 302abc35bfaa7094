-- What a line of a script is answered.
use Rattle.std.specs.Prelude.{ℕ, Bool, cond, List, [], ◌∷◌, ◌++◌, Some, None, Ok, Err, codes, decimal, Result}
use Rattle.bytecode.specs.declared.refusals.Fault.{Fault}
use Rattle.bytecode.specs.Texts.{fault_text}
use Rattle.codec.specs.Reading.{read_module}
use Rattle.lines.specs.BadLines.{words_of}
use Rattle.lines.specs.Lines.{Line, Request, reading}
use Rattle.listing.specs.Listing.{listing}

abbrev pub same_text : Bool → List ℕ
same_text same = cond same (codes "the same bytes") (codes "other bytes")

-- a module that is read is listed, and is written again as the same bytes
abbrev pub read_answer : List ℕ → Result ℕ Fault → List ℕ
read_answer bs (Err f) = codes "read: " ++ (fault_text f ++ (10 ∷ []))
read_answer bs (Ok n) =
    ((codes "read: ok, " ++ (decimal n ++ (codes " records" ++ (10 ∷ [])))) ++ listing bs)
    ++ (codes "written again: the same bytes" ++ (10 ∷ []))

abbrev pub request_answer : Request → List ℕ
request_answer (reading bs) = read_answer bs (read_module bs)

-- a line that says nothing is answered nothing
abbrev pub line_answer : ℕ → Line → List ℕ
line_answer number (Ok None) = []
line_answer number (Ok (Some request)) = request_answer request
line_answer number (Err why) = codes "line " ++ (decimal number ++ (codes ": " ++ (words_of why ++ (10 ∷ []))))
