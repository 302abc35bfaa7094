-- Struct declarations, what a type is made of by them, and which declarations are lawful.
use Rattle.std.specs.Prelude.{◌≡◌, ℕ, ◌+◌, ◌<◌, ◌≤◌, Bool, true, cond, not, ◌&&◌, ◌||◌, List, [], ◌∷◌, ◌++◌, length, is_some, Some, None, Option, nat_le, nat_lt}
use Rattle.std.specs.List.{AllByRecursion}
use Rattle.operands.specs.declared.numbers.TypeRef.{TypeRef}
use Rattle.types.specs.declared.abilities.Abilities.{Abilities}
use Rattle.types.specs.Abilities.{primitive, none, allows}
use Rattle.types.specs.Primitives.{same_type, is_primitive}

-- a struct: its type, its abilities and its fields' types, in order
pub record Decl : Type 0 where
  pub ty : TypeRef
  pub abilities : Abilities
  pub fields : List TypeRef

-- the declarations, the newest first
abbrev pub Table : Type 0
Table = List Decl

abbrev pub decl_of : Table → TypeRef → Option Decl
decl_of [] t = None
decl_of (d ∷ ds) t = cond (same_type d.ty t) (Some d) (decl_of ds t)

-- What a type comes to: `base` of a type that no struct declares, and `node` of a struct, from what the types of its fields come to.
module _ {A : Type 0} (base : TypeRef → A) (node : Decl → (TypeRef → A) → A) where
  unfoldable pub over : Table → TypeRef → A
  over [] t = base t
  over (d ∷ ds) t = cond (same_type d.ty t) (node d (over ds)) (over ds t)

abbrev pub total : (TypeRef → ℕ) → List TypeRef → ℕ
total f [] = 0
total f (t ∷ ts) = f t + total f ts

abbrev pub joined : (TypeRef → List TypeRef) → List TypeRef → List TypeRef
joined f [] = []
joined f (t ∷ ts) = f t ++ joined f ts

-- a primitive type has one word, of that type
abbrev pub word : TypeRef → List TypeRef
word t = cond (is_primitive t) (t ∷ []) []

-- the primitive types of the words of a value of type t, in order
unfoldable pub layout : Table → TypeRef → List TypeRef
layout tab t = over word (λ d f. joined f d.fields) tab t

abbrev pub width : Table → TypeRef → ℕ
width tab t = length (layout tab t)

-- 1 if the two are one type, else 0
abbrev pub once : TypeRef → TypeRef → ℕ
once s t = cond (same_type s t) 1 0

-- how many values of type T are inside one of type S
unfoldable pub inside : TypeRef → Table → TypeRef → ℕ
inside T tab S = over (λ t. 0) (λ d f. once d.ty T + total f d.fields) tab S

-- a struct has the abilities of its declaration, and a type that is neither primitive nor declared has none
abbrev pub given : TypeRef → Option Decl → Abilities
given t None = cond (is_primitive t) primitive none
given t (Some d) = d.abilities

abbrev pub abilities_in : Table → TypeRef → Abilities
abilities_in tab t = given t (decl_of tab t)

abbrev pub is_known : Table → TypeRef → Bool
is_known tab t = is_primitive t || is_some (decl_of tab t)

abbrev pub Known : Table → TypeRef → Type 0
Known tab t = is_known tab t ≡ true

abbrev pub max_width : ℕ
max_width = 16

-- a struct's fields, of which there is one at least, suit its abilities and its width
pub record FieldsFit (d : Decl) (tab : Table) : Type 0 where
  pub filled : 0 < length d.fields
  pub known : AllByRecursion (Known tab) d.fields
  pub allowed : AllByRecursion (λ f. allows d.abilities (abilities_in tab f) ≡ true) d.fields
  pub narrow : total (width tab) d.fields ≤ max_width

-- the rule of a struct over the declarations before it: its type is of a module, whose number is not 0, and none of theirs
pub record Sound (d : Decl) (ds : Table) : Type 0 where
  pub numbered : 0 < d.ty.«module»
  pub fresh : decl_of ds d.ty ≡ None
  pub fit : FieldsFit d ds

abbrev pub each : (TypeRef → Bool) → List TypeRef → Bool
each p [] = true
each p (t ∷ ts) = p t && each p ts

-- both as tests
abbrev pub fields_fit : Decl → Table → Bool
fields_fit d tab =
    nat_lt 0 (length d.fields)
    && (each (is_known tab) d.fields
    && (each (λ f. allows d.abilities (abilities_in tab f)) d.fields && nat_le (total (width tab) d.fields) max_width))

abbrev pub is_sound : Decl → Table → Bool
is_sound d ds = nat_lt 0 d.ty.«module» && (not (is_some (decl_of ds d.ty)) && fields_fit d ds)

-- each struct keeps the rule over those before it
abbrev pub Lawful : Table → Type 0
Lawful [] = Unit {0}
Lawful (d ∷ ds) = Sound d ds × Lawful ds
