-- The primitive types, and when two types are one.
use Rattle.std.specs.Prelude.{Bool, ◌&&◌, ◌==◌, nat_lt}
use Rattle.operands.specs.declared.numbers.TypeRef.{TypeRef}

abbrev pub same_type : TypeRef → TypeRef → Bool
same_type a b = a.«module» == b.«module» && a.index == b.index

abbrev pub bool : TypeRef
bool = record { «module» = 0; index = 0 }

abbrev pub num : TypeRef
num = record { «module» = 0; index = 1 }

abbrev pub address : TypeRef
address = record { «module» = 0; index = 2 }

-- module 0 has three types
abbrev pub is_primitive : TypeRef → Bool
is_primitive t = t.«module» == 0 && nat_lt t.index 3
