-- The answer of reading as one number.
use Rattle.std.specs.Prelude.{ℕ, Ok, Err, Result}
use Rattle.bytecode.specs.declared.refusals.Fault.{Fault}

-- the number of records; no module has 0, so 0 says that it is refused
abbrev pub count_of : Result ℕ Fault → ℕ
count_of (Ok n) = n
count_of (Err f) = 0
