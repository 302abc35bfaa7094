-- What one record more adds to a module.
use Rattle.std.specs.Prelude.{ℕ, ◌+◌, ◌≤◌, cond, List, [], ◌∷◌, ◌++◌, map, length}
use Rattle.operands.specs.Operands.{low_first}
use Rattle.codec.specs.Walking.{At}
use Rattle.groups.specs.Groups.{size, lastly}
use Rattle.modules.specs.Modules.{Module, StructDefinition, FunctionDefinition, Section, is_kind, body_of, struct_of, function_of, field_in, param_in, result_in, local_in, line_in}

-- a struct and a function with what one record more says of them
abbrev pub longer_struct : At → StructDefinition → StructDefinition
longer_struct r s = record { abilities = s.abilities; fields = s.fields ++ field_in r; place = s.place }

abbrev pub longer_function : At → FunctionDefinition → FunctionDefinition
longer_function r f = record {
  visibility = f.visibility;
  params = f.params ++ param_in r;
  results = f.results ++ result_in r;
  locals = f.locals ++ local_in r;
  code = f.code ++ line_in r;
  place = f.place;
}

-- a record of the kind begins one more, and any other belongs to the last
abbrev pub with_record : {X : Type 0} → ℕ → (Section → X) → (At → X → X) → List X → At → List X
with_record k begun longer xs r = cond (is_kind k r) (xs ++ begun (r, []) ∷ []) (lastly (longer r) xs)

abbrev pub added : Module → At → Module
added m r = record {
  number = cond (is_kind 0x01 r) (low_first 2 (body_of r)) m.number;
  structs = with_record 0x02 struct_of longer_struct m.structs r;
  functions = with_record 0x04 function_of longer_function m.functions r;
}

-- With n records more there are at most 4,096 of each part. A parameter is among the locals too.
pub record Room (n : ℕ) (m : Module) : Type 0 where
  pub structs : length m.structs + n ≤ 4096
  pub functions : length m.functions + n ≤ 4096
  pub fields : size (map (λ s. s.fields) m.structs) + n ≤ 4096
  pub params : size (map (λ f. f.params) m.functions) + n ≤ 4096
  pub results : size (map (λ f. f.results) m.functions) + n ≤ 4096
  pub locals : size (map (λ f. f.locals) m.functions) + n ≤ 4096
  pub code : size (map (λ f. f.code) m.functions) + n ≤ 4096
