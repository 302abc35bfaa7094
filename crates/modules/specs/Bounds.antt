-- What every module that can be read keeps to.
use Rattle.std.specs.Prelude.{◌≡◌, ℕ, ◌<◌, ◌≤◌, List, ◌++◌, length, Ok}
use Rattle.std.specs.List.{AllByRecursion}
use Rattle.codec.specs.Reading.{read_module}
use Rattle.modules.specs.declared.parts.Typed.{Typed}
use Rattle.modules.specs.Modules.{StructDefinition, FunctionDefinition, Module, module_in}

-- how many parts a struct and a function have
pub record SizedStruct (s : StructDefinition) : Type 0 where
  pub some_fields : 1 ≤ length s.fields
  pub few_fields : length s.fields ≤ 8

pub record SizedFunction (f : FunctionDefinition) : Type 0 where
  pub few_params : length f.params ≤ 8
  pub few_results : length f.results ≤ 4
  pub few_locals : length f.locals ≤ 16
  pub some_code : 1 ≤ length f.code
  pub few-lines : length f.code ≤ 128
  -- the parameters are the first locals
  pub declared : List Typed
  pub params_first : f.locals ≡ f.params ++ declared

-- places inside n bytes
abbrev pub TypesInside : ℕ → List Typed → Type 0
TypesInside n ts = AllByRecursion (λ t. t.place < n) ts

pub record StructInside (n : ℕ) (s : StructDefinition) : Type 0 where
  pub place : s.place < n
  pub fields : TypesInside n s.fields

pub record FunctionInside (n : ℕ) (f : FunctionDefinition) : Type 0 where
  pub place : f.place < n
  pub params : TypesInside n f.params
  pub results : TypesInside n f.results
  pub locals : TypesInside n f.locals
  pub code : AllByRecursion (λ l. l.place < n) f.code

-- a module of n bytes
pub record Bounded (n : ℕ) (m : Module) : Type 0 where
  pub numbered : 1 ≤ m.number
  pub few_structs : length m.structs ≤ 8
  pub structs : AllByRecursion SizedStruct m.structs
  pub struct_places : AllByRecursion (StructInside n) m.structs
  pub few_functions : length m.functions ≤ 16
  pub functions : AllByRecursion SizedFunction m.functions
  pub function_places : AllByRecursion (FunctionInside n) m.functions

abbrev pub ReadableModulesAreBounded : Type 0
ReadableModulesAreBounded = (bs : List ℕ) (n : ℕ) → read_module bs ≡ Ok n → Bounded (length bs) (module_in bs)

-- the number of any module, readable or not, has two bytes
abbrev pub ModuleNumbersFit : Type 0
ModuleNumbersFit = (bs : List ℕ) → AllByRecursion (λ b. b < 256) bs → (module_in bs).number < 65536
