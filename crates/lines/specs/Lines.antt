-- What a line of a script says.
use Rattle.std.specs.Prelude.{ℕ, Bool, true, cond, List, [], ◌∷◌, length, Some, None, Ok, Err, vec_items, codes, Option, Result, ◌==◌}
use Rattle.std.specs.Str.{bytes_eq}
use Rattle.lines.specs.declared.bad_lines.BadLine.{BadLine}
use Rattle.lines.specs.declared.bad_lines.BadLine.TheVariants.{UnknownCommand, MissingOperand, ExtraWord}
use Rattle.lines.specs.declared.commands.Command.{Command}
use Rattle.lines.specs.declared.commands.Command.TheVariants.{Read}
use Rattle.lines.specs.Hex.{Bytes, unhex}
use Rattle.lines.specs.Words.{first_word, after_word}

-- a command, with its operands as lists
pub data Request : Type 0 where
  reading : List ℕ → Request

abbrev pub Line : Type 0
Line = Result (Option Request) BadLine

abbrev pub request_of : Result (Option Command) BadLine → Line
request_of (Ok None) = Ok None
request_of (Ok (Some (Read v))) = Ok (Some (reading (vec_items v)))
request_of (Err why) = Err why

-- hex digits, or `-` for no bytes
abbrev pub bytes_in : List ℕ → Bytes
bytes_in word = cond (bytes_eq word (codes "-")) (Ok []) (unhex word)

-- one word of bytes, and nothing behind it
abbrev pub bytes_operand : List ℕ → Bytes
bytes_operand cs =
    cond (length (first_word cs) == 0) (Err MissingOperand)
    (cond (length (first_word (after_word cs)) == 0) (bytes_in (first_word cs)) (Err ExtraWord))

-- a line with no word, or whose first word begins with `#`, says nothing
abbrev pub says_nothing : List ℕ → Bool
says_nothing [] = true
says_nothing (c ∷ cs) = c == 35

abbrev pub read_request : Bytes → Line
read_request (Ok bytes) = Ok (Some (reading bytes))
read_request (Err why) = Err why

abbrev pub requested : List ℕ → List ℕ → Line
requested name operands =
    cond (says_nothing name) (Ok None)
    (cond (bytes_eq name (codes "read")) (read_request (bytes_operand operands)) (Err UnknownCommand))

abbrev pub parsed : List ℕ → Line
parsed cs = requested (first_word cs) (after_word cs)
