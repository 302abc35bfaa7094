-- What stays of a type when more structs are declared.
use Rattle.std.specs.Prelude.{◌≡◌, false, List}
use Rattle.std.specs.List.{AllByRecursion}
use Rattle.operands.specs.declared.numbers.TypeRef.{TypeRef}
use Rattle.types.specs.Types.{Decl, Table, decl_of, layout, width, inside, abilities_in, is_known, Known}

-- the type t is in the new table as it was in the old one
pub record AsBefore (old new : Table) (t : TypeRef) : Type 0 where
  pub known : Known new t
  pub same_decl : decl_of new t ≡ decl_of old t
  pub same_layout : layout new t ≡ layout old t
  pub same_width : width new t ≡ width old t
  pub same-inside : (T : TypeRef) → inside T new t ≡ inside T old t
  pub same_abilities : abilities_in new t ≡ abilities_in old t

abbrev pub Grows : Table → Table → Type 0
Grows old new = (t : TypeRef) → Known old t → AsBefore old new t

-- declarations of types that the table does not know
abbrev pub AllNew : List Decl → Table → Type 0
AllNew ds tab = AllByRecursion (λ d. is_known tab d.ty ≡ false) ds
