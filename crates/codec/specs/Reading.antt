-- How a whole module is read: its bytes are cut into records, and these are judged one by one.
use Rattle.std.specs.Prelude.{ℕ, zero, suc, ◌+◌, Bool, true, false, cond, List, [], ◌∷◌, length, Ok, Err, Result, nat_le}
use Rattle.bytecode.specs.declared.refusals.Fault.{Fault}
use Rattle.bytecode.specs.declared.refusals.Reason.{Reason}
use Rattle.bytecode.specs.declared.refusals.Reason.TheVariants.{MissingEnd, UnknownKind, CutRecord, WrongBodyLength, BytesAfterEnd, OutOfOrder, TooMany, TooLong, OutOfRange, NoRoom}
use Rattle.codec.specs.FirstRecord.{Read, read_one}
use Rattle.bytecode.specs.Records.{Shown, bytes_of}
use Rattle.bytecode.specs.Refusals.{fault}
use Rattle.grammar.specs.declared.order.Progress.{Progress}
use Rattle.grammar.specs.Order.{advance, is_end, start}

-- the records that bytes begin with, and why there is no further one
pub record Cut : Type 0 where
  pub records : List Shown
  pub stop : Reason

abbrev pub on_read : Result Read Reason → (List ℕ → Cut) → Cut
on_read (Err why) further = record { records = []; stop = why }
on_read (Ok x) further = record { records = x.0 ∷ (further x.1).records; stop = (further x.1).stop }

-- no record is shorter than a byte, so as many turns as there are bytes are enough
unfoldable pub cutting : ℕ → List ℕ → Cut
cutting zero bs = record { records = []; stop = MissingEnd }
cutting (suc turns) bs = on_read (read_one bs) (cutting turns)

abbrev pub cut : List ℕ → Cut
cut bs = cutting (length bs) bs

abbrev pub no_bytes : Reason → Bool
no_bytes MissingEnd = true
no_bytes UnknownKind = false
no_bytes CutRecord = false
no_bytes WrongBodyLength = false
no_bytes BytesAfterEnd = false
no_bytes OutOfOrder = false
no_bytes TooMany = false
no_bytes TooLong = false
no_bytes OutOfRange = false
no_bytes NoRoom = false

abbrev pub on_advance : ℕ → Result Progress Reason → (Progress → Result ℕ Fault) → Result ℕ Fault
on_advance place (Err why) further = Err (fault why place)
on_advance place (Ok p) further = further p

-- The records from a place on, with n before them: how many there are in all, or the first reason against them.
-- Behind the end record no byte may stand, and before it the bytes may not stop.
unfoldable pub judging : Progress → ℕ → ℕ → List Shown → Reason → Result ℕ Fault
judging p n place [] stop =
    cond (is_end p.last) (cond (no_bytes stop) (Ok n) (Err (fault BytesAfterEnd place))) (Err (fault stop place))
judging p n place (x ∷ xs) stop =
    cond (is_end p.last) (Err (fault BytesAfterEnd place))
    (on_advance place (advance p x) (λ q. judging q (n + 1) (place + length (bytes_of x)) xs stop))

abbrev pub judged : Cut → Result ℕ Fault
judged c = judging start 0 0 c.records c.stop

-- the number of records, or the refusal with its place; a module has at most 4,096 bytes
abbrev pub read_module : List ℕ → Result ℕ Fault
read_module bs = cond (nat_le (length bs) 4096) (judged (cut bs)) (Err (fault TooLong 4096))
