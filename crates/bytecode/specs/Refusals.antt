-- The numbers of the refusals.
use Rattle.std.specs.Prelude.{ℕ}
use Rattle.bytecode.specs.declared.refusals.Fault.{Fault}
use Rattle.bytecode.specs.declared.refusals.Reason.{Reason}
use Rattle.bytecode.specs.declared.refusals.Reason.TheVariants.{MissingEnd, UnknownKind, CutRecord, WrongBodyLength, BytesAfterEnd, OutOfOrder, TooMany, TooLong, OutOfRange, NoRoom}

abbrev pub number : Reason → ℕ
number MissingEnd = 1
number UnknownKind = 1
number CutRecord = 1
number WrongBodyLength = 1
number BytesAfterEnd = 1
number OutOfOrder = 2
number TooMany = 3
number TooLong = 3
number OutOfRange = 4
number NoRoom = 16

abbrev pub fault : Reason → ℕ → Fault
fault why at = record { reason = why; place = at }
