-- What holds of types by every lawful table, and of a table that grows.
use Rattle.std.specs.Prelude.{◌≡◌, ℕ, ◌+◌, ◌<◌, ◌≤◌, Bool, true, false, List, [], ◌∷◌, ◌++◌, Some, Decides, sum_by}
use mathlib.Core.List.{flat_map}
use Rattle.std.specs.List.{AllByRecursion}
use Rattle.operands.specs.declared.numbers.TypeRef.{TypeRef}
use Rattle.types.specs.declared.abilities.Abilities.{Abilities}
use Rattle.types.specs.Abilities.{none, byte_of, abilities_of, allows, Allowed}
use Rattle.types.specs.Growth.{Grows, AllNew}
use Rattle.types.specs.Primitives.{same_type, is_primitive}
use Rattle.types.specs.Types.{Decl, Table, decl_of, total, joined, layout, width, once, inside, abilities_in, is_known, Known, FieldsFit, Sound, is_sound, Lawful}

-- ---- abilities

abbrev pub BytesTellAbilities : Type 0
BytesTellAbilities = (a : Abilities) → abilities_of (byte_of a) ≡ a

abbrev pub AbilitiesTellBytes : Type 0
AbilitiesTellBytes = (n : ℕ) → n < 16 → byte_of (abilities_of n) ≡ n

abbrev pub AllowsAsAllowed : Type 0
AllowsAsAllowed = (s f : Abilities) → Decides (allows s f) (Allowed s f)

-- ---- the rule of a struct

abbrev pub TestIsTheRule : Type 0
TestIsTheRule = (d : Decl) (ds : Table) → Decides (is_sound d ds) (Sound d ds)

-- over the whole table too, those declared after it among them
abbrev pub StructKeepsItsRule : Type 0
StructKeepsItsRule = (tab : Table) → Lawful tab → (t : TypeRef) (d : Decl) → decl_of tab t ≡ Some d → (d.ty ≡ t) × FieldsFit d tab

-- ---- which abilities a type has

abbrev pub PrimitivesHaveCopyDropStore : Type 0
PrimitivesHaveCopyDropStore =
    (tab : Table) → Lawful tab → (t : TypeRef) → is_primitive t ≡ true
    → ((abilities_in tab t).copy ≡ true) × ((abilities_in tab t).drop ≡ true) × ((abilities_in tab t).store ≡ true) × ((abilities_in tab t).key ≡ false)

abbrev pub StructHasItsAbilities : Type 0
StructHasItsAbilities = (tab : Table) (t : TypeRef) (d : Decl) → decl_of tab t ≡ Some d → abilities_in tab t ≡ d.abilities

abbrev pub UnknownHasNone : Type 0
UnknownHasNone = (tab : Table) (t : TypeRef) → is_known tab t ≡ false → abilities_in tab t ≡ none

abbrev pub Module0HasNoStructs : Type 0
Module0HasNoStructs = (tab : Table) → Lawful tab → (t : TypeRef) → Known tab t → t.«module» ≡ 0 → is_primitive t ≡ true

-- ---- what a type is made of

-- the sum and the row over a struct's fields are those of the library
abbrev pub TotalIsTheSum : Type 0
TotalIsTheSum = (f : TypeRef → ℕ) (ts : List TypeRef) → total f ts ≡ sum_by f ts

abbrev pub JoinedIsTheRow : Type 0
JoinedIsTheRow = (f : TypeRef → List TypeRef) (ts : List TypeRef) → joined f ts ≡ flat_map f ts

abbrev pub PrimitiveIsOneWord : Type 0
PrimitiveIsOneWord = (tab : Table) → Lawful tab → (t : TypeRef) → is_primitive t ≡ true → layout tab t ≡ t ∷ []

abbrev pub StructIsItsFields : Type 0
StructIsItsFields =
    (tab : Table) → Lawful tab → (t : TypeRef) (d : Decl) → decl_of tab t ≡ Some d
    → (layout tab t ≡ joined (layout tab) d.fields) × (width tab t ≡ total (width tab) d.fields)

abbrev pub WordsArePrimitive : Type 0
WordsArePrimitive = (tab : Table) (t : TypeRef) → AllByRecursion (λ w. is_primitive w ≡ true) (layout tab t)

abbrev pub KnownIs1To16Wide : Type 0
KnownIs1To16Wide = (tab : Table) → Lawful tab → (t : TypeRef) → Known tab t → (1 ≤ width tab t) × (width tab t ≤ 16)

-- ---- what is inside a type

abbrev pub NothingInsideWhatIsNoStruct : Type 0
NothingInsideWhatIsNoStruct =
    (tab : Table) (T S : TypeRef) → ((is_known tab S ≡ false → inside T tab S ≡ 0) × (Lawful tab → is_primitive S ≡ true → inside T tab S ≡ 0))

abbrev pub InsideStructIsInsideItsFields : Type 0
InsideStructIsInsideItsFields =
    (tab : Table) → Lawful tab → (t : TypeRef) (d : Decl) → decl_of tab t ≡ Some d → (T : TypeRef) → inside T tab t ≡ once t T + total (inside T tab) d.fields

abbrev pub StructIsOnceInsideItself : Type 0
StructIsOnceInsideItself = (tab : Table) → Lawful tab → (t : TypeRef) (d : Decl) → decl_of tab t ≡ Some d → inside t tab t ≡ 1

abbrev pub InsideAreDeclaredStructs : Type 0
InsideAreDeclaredStructs = (tab : Table) (T S : TypeRef) → 0 < inside T tab S → (d : Decl) × (decl_of tab T ≡ Some d)

-- a type with an ability holds no value of a type without it
abbrev pub WithoutStaysOutside : (Abilities → Bool) → Type 0
WithoutStaysOutside has =
    (tab : Table) → Lawful tab → (T S : TypeRef) → has (abilities_in tab S) ≡ true → has (abilities_in tab T) ≡ false → inside T tab S ≡ 0

abbrev pub CopyHoldsNoneWithout : Type 0
CopyHoldsNoneWithout = WithoutStaysOutside (λ a. a.copy)

abbrev pub DropHoldsNoneWithout : Type 0
DropHoldsNoneWithout = WithoutStaysOutside (λ a. a.drop)

abbrev pub StoreHoldsNoneWithout : Type 0
StoreHoldsNoneWithout = WithoutStaysOutside (λ a. a.store)

-- a type with key holds, itself apart, no value of a type without store
abbrev pub KeyHoldsNoneWithoutStore : Type 0
KeyHoldsNoneWithoutStore =
    (tab : Table) → Lawful tab → (T S : TypeRef) → (abilities_in tab S).key ≡ true → (abilities_in tab T).store ≡ false → same_type S T ≡ false → inside T tab S ≡ 0

-- ---- a table that grows

abbrev pub OlderTypesStay : Type 0
OlderTypesStay = (ds : List Decl) (tab : Table) → AllNew ds tab → Grows tab (ds ++ tab)

abbrev pub LawfulGrowthIsNew : Type 0
LawfulGrowthIsNew = (ds : List Decl) (tab : Table) → Lawful (ds ++ tab) → Lawful tab × AllNew ds tab
