-- What is said of a bad line, and of what is read from a line.
use Rattle.std.specs.Prelude.{ℕ, List, Ok, Err, codes, Result}
use Rattle.lines.specs.declared.bad_lines.BadLine.{BadLine}
use Rattle.lines.specs.declared.bad_lines.BadLine.TheVariants.{UnknownCommand, MissingOperand, ExtraWord, NoHexDigit, OddHexDigits}
use Rattle.lines.specs.declared.bad_lines.LineError.{LineError}
use Rattle.lines.specs.declared.bad_lines.LineError.TheVariants.{Bad, OutOfMemory}

abbrev pub words_of : BadLine → List ℕ
words_of UnknownCommand = codes "there is no such command"
words_of MissingOperand = codes "an operand is missing"
words_of ExtraWord = codes "a word too many"
words_of NoHexDigit = codes "a character that is no hex digit"
words_of OddHexDigits = codes "an odd number of hex digits"

-- what holds of the value, or of what is wrong with the line, where there was memory for it
abbrev pub UnlessOutOfMemory : {T : Type 0} → Result T LineError → (Result T BadLine → Type 0) → Type 0
UnlessOutOfMemory (Ok value) P = P (Ok value)
UnlessOutOfMemory (Err (Bad why)) P = P (Err why)
UnlessOutOfMemory (Err (OutOfMemory _)) P = Unit
