-- A declared struct over the whole table: it is made of its fields, and keeps the rule that it was declared by.
use Rattle.std.proofs.Common.{◌≡◌, ◌+◌, Bool, true, false, cond, List, [], ◌∷◌, length, Some, sym, ap, ◌∙◌, arith}
use Rattle.std.specs.List.{AllByRecursion}
use Rattle.std.proofs.ByRecursion.{All-weaker}
use Rattle.operands.specs.declared.numbers.TypeRef.{TypeRef}
use Rattle.types.specs.Abilities.{allows}
use Rattle.types.specs.Primitives.{same_type}
use Rattle.types.specs.Types.{Decl, Table, decl_of, total, joined, layout, width, once, inside, Known, FieldsFit, Sound, Lawful}
use Rattle.types.specs.Growth.{Grows}
use Rattle.types.proofs.SameTypes.{same_self}
use Rattle.types.proofs.Declared.{decl_type, sound_unknown}
use Rattle.types.proofs.Growth.{grows_self, grows_then, grows_one}
use Rattle.types.proofs.Made.{total_alike, joined_alike, length-joined, layout_here, inside_here}

-- where in the table a struct is declared: what stood before it, by which it is sound, and that the table has only grown since
pub record Origin (d : Decl) (tab : Table) : Type 0 where
  pub before : Table
  pub sound : Sound d before
  pub since : Grows (d ∷ before) tab

pub origin : (tab : Table) → Lawful tab → (t : TypeRef) (d : Decl) → decl_of tab t ≡ Some d → Origin d tab
origin [] l t d e = absurd cc
origin (x ∷ tab) l t d e = go (origin tab l.1 t d) (same_type x.ty t) e
  where
    go : (decl_of tab t ≡ Some d → Origin d tab) → (b : Bool) → cond b (Some x) (decl_of tab t) ≡ Some d → Origin d (x ∷ tab)
    go ih true y = let s : x ≡ d = cc in rw (← s) (record { before = tab; sound = l.0; since = grows_self (x ∷ tab) })
    go ih false y =
        let o = ih y in
        record { before = o.before; sound = o.sound; since = grows_then _ tab _ o.since (grows_one x tab (sound_unknown x tab l.0)) }

all_grown : {P Q : TypeRef → Type 0} (tab : Table) → ((f : TypeRef) → Known tab f → P f → Q f) → (fs : List TypeRef) → AllByRecursion (Known tab) fs → AllByRecursion P fs → AllByRecursion Q fs
all_grown tab h [] k p = tt
all_grown tab h (f ∷ fs) k p = (h f k.0 p.0, all_grown tab h fs k.1 p.1)

-- what fits a struct's fields goes on to fit them
pub fit_grown : (d : Decl) (old new : Table) → Grows old new → FieldsFit d old → FieldsFit d new
fit_grown d old new g x =
    let fs = d.fields in
    record {
      filled = x.filled;
      known = All-weaker _ _ (λ f k. (g f k).known) fs x.known;
      allowed = all_grown old (λ f k a. ap (allows d.abilities) (g f k).same_abilities ∙ a) fs x.known x.allowed;
      narrow = let w = total_alike fs (width new) (width old) (All-weaker _ _ (λ f k. (g f k).same_width) fs x.known) in omega (arith, x.narrow);
    }

module _ (tab : Table) (lawful : Lawful tab) (t : TypeRef) (d : Decl) (e : decl_of tab t ≡ Some d) where
  begun : (o : Origin d tab) × Grows o.before tab
  begun =
      let o = origin tab lawful t d e in
      (o, grows_then _ _ tab (grows_one d o.before (sound_unknown d o.before o.sound)) o.since)

  pub struct-fits : FieldsFit d tab
  struct-fits = fit_grown d _ tab begun.1 begun.0.sound.fit

  here : (b : Table) → (same_type d.ty t ≡ true) × Known (d ∷ b) t
  here b = let s = decl_type tab t d e in let r = same_self t in grind arith

  pub layout-struct : layout tab t ≡ joined (layout tab) d.fields
  layout-struct =
      let o = begun.0 in
      let b = o.before in
      let k = o.sound.fit.known in
      (o.since t (here b).1).same_layout
      ∙ layout_here d b t (here b).0
      ∙ joined_alike d.fields _ _ (All-weaker _ _ (λ f x. sym (begun.1 f x).same_layout) d.fields k)

  pub width-struct : width tab t ≡ total (width tab) d.fields
  width-struct = ap length layout-struct ∙ length-joined (layout tab) d.fields

  pub inside-struct : (T : TypeRef) → inside T tab t ≡ once t T + total (inside T tab) d.fields
  inside-struct T =
      let o = begun.0 in
      let b = o.before in
      let k = o.sound.fit.known in
      let i = (o.since t (here b).1).same-inside T in
      let j = inside_here T d b t (here b).0 in
      let s = ap (λ u. once u T) (decl_type tab t d e) in
      let m = total_alike d.fields (inside T b) (inside T tab) (All-weaker _ _ (λ f x. sym ((begun.1 f x).same-inside T)) d.fields k) in
      omega arith
