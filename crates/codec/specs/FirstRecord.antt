-- How the first record of a row of bytes is read.
use Rattle.std.specs.Prelude.{ℕ, cond, List, [], ◌∷◌, length, take, drop, Ok, Err, Result, nat_le}
use Rattle.std.specs.Borrow.{Bor}
use Rattle.bytecode.specs.declared.records.Record.{Record}
use Rattle.bytecode.specs.declared.refusals.Reason.{Reason}
use Rattle.bytecode.specs.declared.refusals.Reason.TheVariants.{MissingEnd, UnknownKind, CutRecord}
use Rattle.bytecode.specs.Kinds.{body_length, known}
use Rattle.bytecode.specs.Records.{Shown, shown}

-- a record and the bytes after it
abbrev pub Read : Type 0
Read = Shown × List ℕ

abbrev pub shown_read : Result (Record × Bor (List ℕ)) Reason → Result Read Reason
shown_read (Ok p) = Ok (shown p.0, p.1.now)
shown_read (Err why) = Err why

-- the first byte decides the kind, and a body of that kind's length follows
abbrev pub read_one : List ℕ → Result Read Reason
read_one [] = Err MissingEnd
read_one (k ∷ rest) =
    cond (known k)
    (cond (nat_le (body_length k) (length rest))
    (Ok ((k, take (body_length k) rest), drop (body_length k) rest))
    (Err CutRecord))
    (Err UnknownKind)
