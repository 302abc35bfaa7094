-- How a type is written.
use Rattle.std.specs.Prelude.{ℕ, Bool, cond, ◌&&◌, List, ◌++◌, codes, decimal, ◌==◌}
use Rattle.operands.specs.declared.numbers.TypeRef.{TypeRef}

abbrev pub is_type : TypeRef → ℕ → ℕ → Bool
is_type t m i = t.«module» == m && t.index == i

-- the types of module 0 have names, and any other its module's number and its index
abbrev pub type_text : TypeRef → List ℕ
type_text t =
    cond (is_type t 0 0) (codes "bool")
    (cond (is_type t 0 1) (codes "num")
    (cond (is_type t 0 2) (codes "address") (decimal t.«module» ++ (codes "." ++ decimal t.index))))
