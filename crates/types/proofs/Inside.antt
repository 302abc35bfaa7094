-- What is inside a type, and what is not.
use Rattle.std.proofs.Common.{◌≡◌, Bool, true, false, List, [], ◌∷◌, Some, None, Option, refl, ◌∙◌, arith}
use Rattle.std.specs.List.{AllByRecursion}
use Rattle.std.proofs.ByRecursion.{All-weaker}
use Rattle.operands.specs.declared.numbers.TypeRef.{TypeRef}
use Rattle.types.specs.declared.abilities.Abilities.{Abilities}
use Rattle.types.specs.Abilities.{none, allows}
use Rattle.types.specs.Primitives.{same_type, is_primitive}
use Rattle.types.specs.Types.{Decl, Table, decl_of, inside, abilities_in, is_known, Known, Lawful}
use Rattle.types.specs.Laws.{NothingInsideWhatIsNoStruct, StructIsOnceInsideItself, InsideAreDeclaredStructs, CopyHoldsNoneWithout, DropHoldsNoneWithout, StoreHoldsNoneWithout, KeyHoldsNoneWithoutStore}
use Rattle.types.proofs.SameTypes.{same_is, same_self}
use Rattle.types.proofs.Declared.{primitive_undeclared, decl_type}
use Rattle.types.proofs.Made.{by-table, total_zero, inside_here, inside_skip, inside_undeclared}
use Rattle.types.proofs.Structs.{origin, struct-fits, inside-struct}

pub inside_unknown : (T : TypeRef) (tab : Table) (S : TypeRef) → is_known tab S ≡ false → inside T tab S ≡ 0
inside_unknown T tab S u = inside_undeclared T tab S (grind arith)

pub inside-primitive : (T : TypeRef) (tab : Table) (S : TypeRef) → Lawful tab → is_primitive S ≡ true → inside T tab S ≡ 0
inside-primitive T tab S l p = inside_undeclared T tab S (primitive_undeclared tab l S p)

pub inside_no_struct : NothingInsideWhatIsNoStruct
inside_no_struct tab T S = (inside_unknown T tab S, inside-primitive T tab S)

all_so : {P : TypeRef → Type 0} → ((f : TypeRef) → P f) → (fs : List TypeRef) → AllByRecursion P fs
all_so h [] = tt
all_so h (f ∷ fs) = (h f, all_so h fs)

-- a type that no struct declares is inside none
pub undeclared_outside : (T : TypeRef) (tab : Table) (S : TypeRef) → decl_of tab T ≡ None → inside T tab S ≡ 0
undeclared_outside T =
    by-table
    (λ tab S. decl_of tab T ≡ None → inside T tab S ≡ 0)
    (λ S u. inside_undeclared T [] S refl)
    (λ d ds S e ih u.
    let h = inside_here T d ds S e in
    let y : decl_of ds T ≡ None = grind arith in
    let z = total_zero (inside T ds) d.fields (all_so (λ f. ih f y) d.fields) in
    grind arith)
    (λ d ds S e ih u. inside_skip T d ds S e ∙ ih S (grind arith))

pub inside_declared : InsideAreDeclaredStructs
inside_declared tab T S h = let z = undeclared_outside T tab S in grind arith

pub self_once : StructIsOnceInsideItself
self_once tab l t d e =
    let o = origin tab l t d e in
    let b = o.before in
    let s = decl_type tab t d e in
    let n = o.sound.fresh in
    let r = same_self t in
    let h : same_type d.ty t ≡ true = grind arith in
    let k : Known (d ∷ b) t = grind arith in
    let i = (o.since t k).same-inside t in
    let j = inside_here t d b t h in
    let u : decl_of b t ≡ None = grind arith in
    let z = total_zero (inside t b) d.fields (all_so (λ f. undeclared_outside t b f u) d.fields) in
    grind arith

-- An ability that no unknown type has, and a struct only if its fields have it.
module _ (has : Abilities → Bool) (unknown_lacks : has none ≡ false) (asked : (s f : Abilities) → allows s f ≡ true → has s ≡ true → has f ≡ true) (T : TypeRef) where
  abbrev Outside : Table → TypeRef → Type 0
  Outside tab S = Lawful tab → has (abilities_in tab S) ≡ true → has (abilities_in tab T) ≡ false → inside T tab S ≡ 0

  outside_struct : (d : Decl) (ds : Table) (S : TypeRef) → same_type d.ty S ≡ true → ((f : TypeRef) → Outside ds f) → Outside (d ∷ ds) S
  outside_struct d ds S e ih l y n =
      let x = l.0.fit in
      let h = inside_here T d ds S e in
      let m : same_type d.ty T ≡ false = grind arith in
      let v : has (abilities_in ds T) ≡ false = grind arith in
      let a : has d.abilities ≡ true = grind arith in
      let z = total_zero (inside T ds) d.fields (All-weaker _ _ (λ f g. ih f l.1 (asked d.abilities (abilities_in ds f) g a) v) d.fields x.allowed) in
      grind arith

  outside_other : (d : Decl) (ds : Table) (S : TypeRef) → same_type d.ty S ≡ false → ((f : TypeRef) → Outside ds f) → Outside (d ∷ ds) S
  outside_other d ds S e ih l y n =
      let h = inside_skip T d ds S e in
      let w = l.0.numbered in
      let x = l.0.fresh in
      let s = same_is d.ty T in
      let a : has (abilities_in ds S) ≡ true = grind arith in
      let v : has (abilities_in ds T) ≡ false = grind arith in
      h ∙ ih S l.1 a v

  pub outside : (tab : Table) (S : TypeRef) → Outside tab S
  outside = by-table Outside (λ S l y n. inside_undeclared T [] S refl) outside_struct outside_other

pub copy_holds : CopyHoldsNoneWithout
copy_holds tab l T S = outside (λ a. a.copy) refl (λ s f a h. grind arith) T tab S l

pub drop-holds : DropHoldsNoneWithout
drop-holds tab l T S = outside (λ a. a.drop) refl (λ s f a h. grind arith) T tab S l

pub store_holds : StoreHoldsNoneWithout
store_holds tab l T S = outside (λ a. a.store) refl (λ s f a h. grind arith) T tab S l

pub key_holds : KeyHoldsNoneWithoutStore
key_holds tab l T S k n m = go (decl_of tab S) refl
  where
    go : (o : Option Decl) → decl_of tab S ≡ o → inside T tab S ≡ 0
    go (Some d) e =
        let a : d.abilities.key ≡ true = grind arith in
        let s : (f : TypeRef) → allows d.abilities (abilities_in tab f) ≡ true → inside T tab f ≡ 0 = λ f g. store_holds tab l T f (grind arith) n in
        let z = total_zero (inside T tab) d.fields (All-weaker _ _ s d.fields (struct-fits tab l S d e).allowed) in
        let i = inside-struct tab l S d e T in
        grind arith
    go None e = inside_undeclared T tab S e
