-- What the bytes of a body say.
use Rattle.std.specs.Prelude.{ℕ, zero, suc, ◌+◌, ◌*◌, List, slice_index}
use Rattle.operands.specs.declared.numbers.TypeRef.{TypeRef}
use Rattle.operands.specs.declared.numbers.FunctionRef.{FunctionRef}

-- the number in the n bytes from i on
abbrev pub low_first_from : ℕ → ℕ → List ℕ → ℕ
low_first_from i zero bs = 0
low_first_from i (suc n) bs = slice_index bs i + 256 * low_first_from (i + 1) n bs

-- the number in the first n bytes, of which the lowest comes first
abbrev pub low_first : ℕ → List ℕ → ℕ
low_first n bs = low_first_from 0 n bs

-- two bytes of a module's number, then one of an index there
abbrev pub type_ref : List ℕ → TypeRef
type_ref body = record { «module» = low_first 2 body; index = slice_index body 2 }

abbrev pub function_ref : List ℕ → FunctionRef
function_ref body = record { «module» = low_first 2 body; function = slice_index body 2 }
