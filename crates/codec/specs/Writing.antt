-- How one record more is written into a buffer.
use Rattle.std.specs.Prelude.{ℕ, ◌+◌, cond, List, ◌++◌, length, take, drop, Ok, Err, Result, nat_le}
use Rattle.bytecode.specs.declared.refusals.Fault.{Fault}
use Rattle.bytecode.specs.declared.refusals.Reason.{Reason}
use Rattle.bytecode.specs.declared.refusals.Reason.TheVariants.{OutOfRange, NoRoom}
use Rattle.bytecode.specs.Ranges.{in_range}
use Rattle.bytecode.specs.Records.{Shown, formed, bytes_of}
use Rattle.bytecode.specs.Refusals.{fault}

abbrev pub room : List ℕ → ℕ → Shown → Result ℕ Fault
room buffer used x =
    cond (nat_le (used + length (bytes_of x)) (length buffer)) (Ok (used + length (bytes_of x))) (Err (fault NoRoom used))

abbrev pub fitting : List ℕ → ℕ → Result Shown Reason → Result ℕ Fault
fitting buffer used (Ok x) = cond (in_range x) (room buffer used x) (Err (fault OutOfRange used))
fitting buffer used (Err why) = Err (fault why used)

-- how many bytes are used then: a record that is formed, then in range, then has room
abbrev pub writing : List ℕ → ℕ → Shown → Result ℕ Fault
writing buffer used x = fitting buffer used (formed x)

-- what the buffer holds then
abbrev pub filled : List ℕ → ℕ → Shown → Result ℕ Fault → List ℕ
filled buffer used x (Ok n) = take used buffer ++ (bytes_of x ++ drop n buffer)
filled buffer used x (Err e) = buffer
