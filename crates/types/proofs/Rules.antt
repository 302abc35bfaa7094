-- Tests say what the rules of abilities and structs say.
use Rattle.std.proofs.Common.{◌≡◌, Bool, true, List, ◌∷◌, Decides, refl, arith}
use Rattle.std.specs.List.{AllByRecursion}
use Rattle.std.proofs.ByRecursion.{Decides-by_and}
use Rattle.operands.specs.declared.numbers.TypeRef.{TypeRef}
use Rattle.types.specs.Abilities.{allows}
use Rattle.types.specs.Types.{Decl, Table, each, abilities_in, is_known, FieldsFit, fields_fit, is_sound, Lawful}
use Rattle.types.specs.Laws.{BytesTellAbilities, AbilitiesTellBytes, AllowsAsAllowed, TestIsTheRule}

pub bytes_tell : BytesTellAbilities
bytes_tell a = grind arith

pub abilities_tell : AbilitiesTellBytes
abilities_tell n h = grind arith

pub allows_allowed : AllowsAsAllowed
allows_allowed s f = grind arith

decides_each : (p : TypeRef → Bool) (ts : List TypeRef) → Decides (each p ts) (AllByRecursion (λ t. p t ≡ true) ts)
decides_each p ts = Decides-by_and p (λ t. p t ≡ true) (each p) (λ t. (λ e. e, λ e. e)) refl (λ t ts. refl) ts

pub fit_decides : (d : Decl) (tab : Table) → Decides (fields_fit d tab) (FieldsFit d tab)
fit_decides d tab =
    let k = decides_each (is_known tab) d.fields in
    let a = decides_each (λ f. allows d.abilities (abilities_in tab f)) d.fields in
    grind arith

pub test_rule : TestIsTheRule
test_rule d ds = let f = fit_decides d ds in grind arith

-- a struct that passes the test goes before a lawful table
pub lawful_more : (d : Decl) (ds : Table) → is_sound d ds ≡ true → Lawful ds → Lawful (d ∷ ds)
lawful_more d ds e l = ((test_rule d ds).0 e, l)
