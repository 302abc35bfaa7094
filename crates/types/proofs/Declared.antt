-- What a table declares, what is new to it, and which abilities a type has by it.
use Rattle.std.proofs.Common.{◌≡◌, true, false, [], ◌∷◌, Some, None, refl, arith}
use Rattle.operands.specs.declared.numbers.TypeRef.{TypeRef}
use Rattle.types.specs.Primitives.{same_type, is_primitive}
use Rattle.types.specs.Types.{Decl, Table, decl_of, is_known, Known, Sound, Lawful}
use Rattle.types.specs.Laws.{PrimitivesHaveCopyDropStore, StructHasItsAbilities, UnknownHasNone, Module0HasNoStructs}
use Rattle.types.proofs.SameTypes.{same_is}

-- a declaration is found under its own type
pub decl_type : (tab : Table) (t : TypeRef) (d : Decl) → decl_of tab t ≡ Some d → d.ty ≡ t
decl_type [] t d e = grind arith
decl_type (x ∷ tab) t d e = let ih = decl_type tab t d in let s = same_is x.ty t in grind arith

pub sound_unknown : (d : Decl) (ds : Table) → Sound d ds → is_known ds d.ty ≡ false
sound_unknown d ds s = let n = s.numbered in let f = s.fresh in grind arith

-- a known type is none that is unknown
pub known_apart : (ds : Table) (s t : TypeRef) → is_known ds s ≡ false → Known ds t → same_type s t ≡ false
known_apart ds s t u k = let h = same_is s t in grind arith

-- no struct is declared in module 0, so a primitive type is no struct's
pub primitive_undeclared : (tab : Table) → Lawful tab → (t : TypeRef) → is_primitive t ≡ true → decl_of tab t ≡ None
primitive_undeclared [] l t p = refl
primitive_undeclared (d ∷ tab) l t p = let ih = primitive_undeclared tab l.1 t p in let n = l.0.numbered in grind arith

pub primitives_have : PrimitivesHaveCopyDropStore
primitives_have tab l t p = let u = primitive_undeclared tab l t p in grind arith

pub struct_has : StructHasItsAbilities
struct_has tab t d e = grind arith

pub unknown_has : UnknownHasNone
unknown_has tab t u = grind arith

pub module_0 : Module0HasNoStructs
module_0 [] l t k z = grind arith
module_0 (d ∷ tab) l t k z = let ih = module_0 tab l.1 t in let n = l.0.numbered in grind arith
