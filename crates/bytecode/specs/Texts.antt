-- How a refusal is written.
use Rattle.std.specs.Prelude.{ℕ, List, ◌++◌, codes, decimal}
use Rattle.bytecode.specs.declared.refusals.Fault.{Fault}
use Rattle.bytecode.specs.declared.refusals.Reason.{Reason}
use Rattle.bytecode.specs.declared.refusals.Reason.TheVariants.{MissingEnd, UnknownKind, CutRecord, WrongBodyLength, BytesAfterEnd, OutOfOrder, TooMany, TooLong, OutOfRange, NoRoom}
use Rattle.bytecode.specs.Refusals.{number}

abbrev pub reason_text : Reason → List ℕ
reason_text MissingEnd = codes "the bytes stop where a record should begin"
reason_text UnknownKind = codes "no kind of record has this byte"
reason_text CutRecord = codes "the bytes stop inside this record"
reason_text WrongBodyLength = codes "the body is not as long as this kind asks"
reason_text BytesAfterEnd = codes "there are bytes after the end record"
reason_text OutOfOrder = codes "this record may not stand here"
reason_text TooMany = codes "one more of these than there may be"
reason_text TooLong = codes "a module has at most 4096 bytes"
reason_text OutOfRange = codes "a value in this record's body is out of range"
reason_text NoRoom = codes "the buffer has no room for this record"

abbrev pub fault_text : Fault → List ℕ
fault_text f =
    codes "refused "
    ++ (decimal (number f.reason) ++ (codes " at " ++ (decimal f.place ++ (codes " by codec (" ++ (reason_text f.reason ++ codes ")")))))
