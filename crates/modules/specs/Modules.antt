-- The module that bytes say.
use Rattle.std.specs.Prelude.{ℕ, Bool, cond, List, [], ◌∷◌, map, length, Some, None, Option, ◌==◌, nat_le, nat_lt, slice_index, slice_index_or}
use Rattle.std.specs.List.{flat_map}
use Rattle.operands.specs.Operands.{low_first, type_ref}
use Rattle.bytecode.specs.Kinds.{among}
use Rattle.codec.specs.Walking.{At, records_in}
use Rattle.instructions.specs.declared.instruction.Instruction.{Instruction}
use Rattle.instructions.specs.Instructions.{instruction_of}
use Rattle.types.specs.declared.abilities.Abilities.{Abilities}
use Rattle.types.specs.Abilities.{abilities_of}
use Rattle.modules.specs.declared.parts.FunctionHead.{FunctionHead}
use Rattle.modules.specs.declared.parts.Line.{Line}
use Rattle.modules.specs.declared.parts.StructHead.{StructHead}
use Rattle.modules.specs.declared.parts.Typed.{Typed}
use Rattle.modules.specs.declared.parts.Visibility.{Visibility}
use Rattle.modules.specs.Visibilities.{visibility_of}

pub record StructDefinition : Type 0 where
  pub abilities : Abilities
  pub fields : List Typed
  pub place : ℕ

-- the locals are the parameters, and those that the function declares besides
pub record FunctionDefinition : Type 0 where
  pub visibility : Visibility
  pub params : List Typed
  pub results : List Typed
  pub locals : List Typed
  pub code : List Line
  pub place : ℕ

pub record Module : Type 0 where
  pub number : ℕ
  pub structs : List StructDefinition
  pub functions : List FunctionDefinition

abbrev pub no_module : Module
no_module = record { number = 0; structs = []; functions = [] }

abbrev pub is_kind : ℕ → At → Bool
is_kind k r = r.1.0 == k

abbrev pub body_of : At → List ℕ
body_of r = r.1.1

-- the records up to the next of a kind
unfoldable pub up_to : ℕ → List At → List At
up_to k [] = []
up_to k (r ∷ rs) = cond (is_kind k r) [] (r ∷ up_to k rs)

-- a record, and those behind it that belong to it
abbrev pub Section : Type 0
Section = At × List At

-- each record of a kind, with those behind it up to the next of that kind
unfoldable pub sections : ℕ → List At → List Section
sections k [] = []
sections k (r ∷ rs) = cond (is_kind k r) ((r, up_to k rs) ∷ sections k rs) (sections k rs)

abbrev pub typed_at : ℕ → List ℕ → Typed
typed_at at body = record { ty = type_ref body; place = at }

-- the type that a record names, if it is of one of these kinds
abbrev pub type_in : List ℕ → At → List Typed
type_in ks r = cond (among r.1.0 ks) (typed_at r.0 (body_of r) ∷ []) []

abbrev pub line_at : ℕ → Option Instruction → List Line
line_at at (Some i) = record { instruction = i; place = at } ∷ []
line_at at None = []

-- the line of code that a record is, if it is an instruction
abbrev pub line_in : At → List Line
line_in r = line_at r.0 (instruction_of r.1)

-- what the records of a section say, one behind the other
abbrev pub within : {X : Type 0} → (At → List X) → Section → List X
within say s = flat_map say s.1

-- FIELD; PARAM; RESULT; PARAM and LOCAL
abbrev pub field_in : At → List Typed
field_in = type_in (0x03 ∷ [])

abbrev pub param_in : At → List Typed
param_in = type_in (0x05 ∷ [])

abbrev pub result_in : At → List Typed
result_in = type_in (0x06 ∷ [])

abbrev pub local_in : At → List Typed
local_in = type_in (0x05 ∷ 0x07 ∷ [])

abbrev pub abilities_in : At → Abilities
abilities_in r = abilities_of (slice_index (body_of r) 0)

abbrev pub visibility_in : At → Visibility
visibility_in r = visibility_of (slice_index (body_of r) 0)

-- a STRUCT with its FIELDs
abbrev pub struct_of : Section → StructDefinition
struct_of s = record { abilities = abilities_in s.0; fields = within field_in s; place = s.0.0 }

-- a FUNCTION with its PARAMs, RESULTs, LOCALs and instructions
abbrev pub function_of : Section → FunctionDefinition
function_of s = record {
  visibility = visibility_in s.0;
  params = within param_in s;
  results = within result_in s;
  locals = within local_in s;
  code = within line_in s;
  place = s.0.0;
}

-- the number in the last MODULE record, or n where there is none
unfoldable pub number_from : ℕ → List At → ℕ
number_from n [] = n
number_from n (r ∷ rs) = number_from (cond (is_kind 0x01 r) (low_first 2 (body_of r)) n) rs

-- the module that a row of records says
abbrev pub said : List At → Module
said rs = record {
  number = number_from 0 rs;
  structs = map struct_of (sections 0x02 rs);
  functions = map function_of (sections 0x04 rs);
}

abbrev pub module_in : List ℕ → Module
module_in bs = said (records_in bs)

-- what is decoded: of more than 4,096 bytes nothing
abbrev pub decoded : List ℕ → Module
decoded bs = cond (nat_le (length bs) 4096) (module_in bs) no_module

abbrev pub no_struct : StructDefinition
no_struct = record { abilities = abilities_of 0; fields = []; place = 0 }

abbrev pub no_function : FunctionDefinition
no_function = record { visibility = visibility_of 0; params = []; results = []; locals = []; code = []; place = 0 }

-- by index, from 0
abbrev pub struct_at : Module → ℕ → StructDefinition
struct_at m i = slice_index_or m.structs i no_struct

abbrev pub function_at : Module → ℕ → FunctionDefinition
function_at m i = slice_index_or m.functions i no_function

abbrev pub struct_head : StructDefinition → StructHead
struct_head s = record { abilities = s.abilities; place = s.place }

abbrev pub function_head : FunctionDefinition → FunctionHead
function_head f = record { visibility = f.visibility; place = f.place }

abbrev pub struct_head_at : Module → ℕ → Option StructHead
struct_head_at m i = cond (nat_lt i (length m.structs)) (Some (struct_head (struct_at m i))) None

abbrev pub function_head_at : Module → ℕ → Option FunctionHead
function_head_at m i = cond (nat_lt i (length m.functions)) (Some (function_head (function_at m i))) None
