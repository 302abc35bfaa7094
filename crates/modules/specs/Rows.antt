-- The module that rows mean.
use Rattle.std.specs.Prelude.{◌≡◌, ◌≤◌, List, [], ◌∷◌, length, vec_items, vec_capacity}
use Rattle.modules.specs.declared.parts.FunctionHead.{FunctionHead}
use Rattle.modules.specs.declared.parts.Line.{Line}
use Rattle.modules.specs.declared.parts.StructHead.{StructHead}
use Rattle.modules.specs.declared.parts.Typed.{Typed}
use Rattle.modules.specs.declared.rows.Rows.TheInside.{Inside}
use Rattle.modules.specs.Modules.{Module, StructDefinition, FunctionDefinition}

-- the first of a row of lists, and the others
abbrev pub first : {X : Type 0} → List (List X) → List X
first [] = []
first (g ∷ gs) = g

abbrev pub others : {X : Type 0} → List (List X) → List (List X)
others [] = []
others (g ∷ gs) = gs

unfoldable pub structs_of : List StructHead → List (List Typed) → List StructDefinition
structs_of [] fields = []
structs_of (h ∷ hs) fields = record { abilities = h.abilities; fields = first fields; place = h.place } ∷ structs_of hs (others fields)

unfoldable pub functions_of : List FunctionHead → List (List Typed) → List (List Typed) → List (List Typed) → List (List Line) → List FunctionDefinition
functions_of [] params results locals code = []
functions_of (h ∷ hs) params results locals code =
    record { visibility = h.visibility; params = first params; results = first results; locals = first locals; code = first code; place = h.place }
    ∷ functions_of hs (others params) (others results) (others locals) (others code)

abbrev pub module_of : Inside → Module
module_of r = record {
  number = r.number;
  structs = structs_of (vec_items r.structs) r.fields;
  functions = functions_of (vec_items r.functions) r.params r.results r.locals r.code;
}

-- each column has a list for each head, and for the heads memory is reserved
pub record Aligned (r : Inside) : Type 0 where
  pub fields : length r.fields ≡ length (vec_items r.structs)
  pub params : length r.params ≡ length (vec_items r.functions)
  pub results : length r.results ≡ length (vec_items r.functions)
  pub locals : length r.locals ≡ length (vec_items r.functions)
  pub code : length r.code ≡ length (vec_items r.functions)
  pub structs_room : 4096 ≤ vec_capacity r.structs
  pub functions_room : 4096 ≤ vec_capacity r.functions
