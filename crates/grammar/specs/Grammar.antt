-- Which rows of records are a module.
use Rattle.std.specs.Prelude.{◌≡◌, ℕ, suc, ◌+◌, ◌≤◌, true, List, [], ◌∷◌, ◌++◌, length, Ok}
use Rattle.bytecode.specs.Ranges.{in_range}
use Rattle.bytecode.specs.Records.{Shown, formed}
use Rattle.grammar.specs.declared.order.Part.{Part}
use Rattle.grammar.specs.declared.order.Part.TheVariants.{Module, Struct, Field, Function, Param, Result, Local, Code, End}
use Rattle.grammar.specs.Order.{part_of}

-- a record of this part: its kind is one that there is, its body has that kind's length and is in range
pub record Is (part : Part) (x : Shown) : Type 0 where
  pub kind : part_of x.0 ≡ part
  pub whole : formed x ≡ Ok x
  pub ranged : in_range x ≡ true

pub data Each (part : Part) : List Shown → Type 0 where
  none : Each part []
  more : {x : Shown} {xs : List Shown} → Is part x → Each part xs → Each part (x ∷ xs)

-- so many records of one part, one behind the other
pub record Row (part : Part) (least most : ℕ) (xs : List Shown) : Type 0 where
  pub each : Each part xs
  pub enough : least ≤ length xs
  pub few : length xs ≤ most

-- at most n rows of one form, one behind the other
pub data Rows (Form : List Shown → Type 0) : ℕ → List Shown → Type 0 where
  no_more : {n : ℕ} → Rows Form n []
  and : {n : ℕ} {xs ys : List Shown} → Form xs → Rows Form n ys → Rows Form (suc n) (xs ++ ys)

-- STRUCT, then 1 to 8 FIELDs
pub record StructRow (xs : List Shown) : Type 0 where
  pub header : Shown
  pub fields : List Shown
  pub all : xs ≡ header ∷ fields
  pub is_struct : Is Struct header
  pub has_fields : Row Field 1 8 fields

-- FUNCTION, then up to 8 PARAMs, 4 RESULTs and LOCALs, 16 with the PARAMs, and 1 to 128 instructions
pub record FunctionRow (xs : List Shown) : Type 0 where
  pub header : Shown
  pub params : List Shown
  pub results : List Shown
  pub locals : List Shown
  pub code : List Shown
  pub all : xs ≡ header ∷ (params ++ (results ++ (locals ++ code)))
  pub is_function : Is Function header
  pub has_params : Row Param 0 8 params
  pub has_results : Row Result 0 4 results
  pub has_locals : Row Local 0 16 locals
  pub has_code : Row Code 1 128 code
  pub few_slots : length params + length locals ≤ 16

-- MODULE, then up to 8 structs, up to 16 functions, and END
pub record ModuleRow (xs : List Shown) : Type 0 where
  pub header : Shown
  pub structs : List Shown
  pub functions : List Shown
  pub end : Shown
  pub all : xs ≡ header ∷ (structs ++ (functions ++ (end ∷ [])))
  pub is_module : Is Module header
  pub has_structs : Rows StructRow 8 structs
  pub has_functions : Rows FunctionRow 16 functions
  pub is_end : Is End end

-- a module can begin with this row
pub record Begins (xs : List Shown) : Type 0 where
  pub further : List Shown
  pub whole : ModuleRow (xs ++ further)
