-- The values that the body of each kind may have.
use Rattle.std.specs.Prelude.{Bool, true, cond, ◌==◌, nat_le, nat_lt, slice_index}
use Rattle.operands.specs.Operands.{low_first}
use Rattle.bytecode.specs.Records.{Shown}

-- a module's number is not 0; abilities are at most 15, a visibility 2, a bool 1; every other body will do
abbrev pub in_range : Shown → Bool
in_range x =
    cond (x.0 == 0x01) (nat_lt 0 (low_first 2 x.1))
    (cond (x.0 == 0x02) (nat_le (slice_index x.1 0) 15)
    (cond (x.0 == 0x04) (nat_le (slice_index x.1 0) 2)
    (cond (x.0 == 0x10) (nat_le (slice_index x.1 0) 1) true)))
