-- More declarations leave the known types as they were.
use Rattle.std.proofs.Common.{◌≡◌, false, List, [], ◌∷◌, ◌++◌, length, refl, ap, ◌∙◌, arith}
use Rattle.std.proofs.lemmas.Bool.{cond-false}
use Rattle.operands.specs.declared.numbers.TypeRef.{TypeRef}
use Rattle.types.specs.Primitives.{same_type}
use Rattle.types.specs.Types.{Decl, Table, given, is_known, Known, Lawful}
use Rattle.types.specs.Growth.{AsBefore, Grows, AllNew}
use Rattle.types.proofs.Declared.{known_apart, sound_unknown}
use Rattle.types.proofs.Made.{layout_skip, inside_skip}

pub grows_self : (tab : Table) → Grows tab tab
grows_self tab t k = record { known = k; same_decl = refl; same_layout = refl; same_width = refl; same-inside = λ T. refl; same_abilities = refl }

as_skipped : (d : Decl) (ds : Table) (t : TypeRef) → same_type d.ty t ≡ false → Known ds t → AsBefore ds (d ∷ ds) t
as_skipped d ds t e k =
    let l = layout_skip d ds t e in
    record {
      known = grind arith;
      same_decl = cond-false _ _ _ e;
      same_layout = l;
      same_width = ap length l;
      same-inside = λ T. inside_skip T d ds t e;
      same_abilities = ap (given t) (cond-false _ _ _ e);
    }

as_then : (a b c : Table) (t : TypeRef) → AsBefore a b t → AsBefore b c t → AsBefore a c t
as_then a b c t x y =
    record {
      known = y.known;
      same_decl = y.same_decl ∙ x.same_decl;
      same_layout = y.same_layout ∙ x.same_layout;
      same_width = y.same_width ∙ x.same_width;
      same-inside = λ T. y.same-inside T ∙ x.same-inside T;
      same_abilities = y.same_abilities ∙ x.same_abilities;
    }

pub grows_then : (a b c : Table) → Grows a b → Grows b c → Grows a c
grows_then a b c g h t k = as_then a b c t (g t k) (h t (g t k).known)

pub grows_one : (d : Decl) (ds : Table) → is_known ds d.ty ≡ false → Grows ds (d ∷ ds)
grows_one d ds u t k = as_skipped d ds t (known_apart ds d.ty t u k) k

pub grows_new : (ds : List Decl) (tab : Table) → AllNew ds tab → Grows tab (ds ++ tab)
grows_new [] tab n t k = grows_self tab t k
grows_new (d ∷ ds) tab n t k =
    let ih = grows_new ds tab n.1 t k in
    as_then tab (ds ++ tab) (d ∷ (ds ++ tab)) t ih (as_skipped d (ds ++ tab) t (known_apart tab d.ty t n.0 k) ih.known)

-- what a lawful table has in front of an older one is new to that

pub lawful_old : (ds : List Decl) (tab : Table) → Lawful (ds ++ tab) → Lawful tab
lawful_old [] tab l = l
lawful_old (d ∷ ds) tab l = lawful_old ds tab l.1

pub grows_lawful : (ds : List Decl) (tab : Table) → Lawful (ds ++ tab) → Grows tab (ds ++ tab)
grows_lawful [] tab l = grows_self tab
grows_lawful (d ∷ ds) tab l = grows_then tab (ds ++ tab) (d ∷ (ds ++ tab)) (grows_lawful ds tab l.1) (grows_one d (ds ++ tab) (sound_unknown d (ds ++ tab) l.0))

pub lawful_new : (ds : List Decl) (tab : Table) → Lawful (ds ++ tab) → AllNew ds tab
lawful_new [] tab l = tt
lawful_new (d ∷ ds) tab l = (unknown_then tab (ds ++ tab) d.ty (grows_lawful ds tab l.1) (sound_unknown d (ds ++ tab) l.0), lawful_new ds tab l.1)
  where
    unknown_then : (old new : Table) (t : TypeRef) → Grows old new → is_known new t ≡ false → is_known old t ≡ false
    unknown_then old new t g u = let k : Known old t → Known new t = λ k. (g t k).known in grind arith
