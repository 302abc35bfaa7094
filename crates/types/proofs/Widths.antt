-- The words of a type are primitive, one at least, and in a lawful table at most 16.
use Rattle.std.proofs.Common.{◌≡◌, ℕ, ◌<◌, ◌≤◌, true, false, List, [], ◌∷◌, length, refl, ap, arith}
use Rattle.std.specs.List.{AllByRecursion}
use Rattle.std.proofs.ByRecursion.{All-append}
use Rattle.operands.specs.declared.numbers.TypeRef.{TypeRef}
use Rattle.types.specs.Primitives.{same_type, is_primitive}
use Rattle.types.specs.Types.{Decl, Table, total, joined, word, layout, width, Known, Lawful}
use Rattle.types.specs.Laws.{PrimitiveIsOneWord, WordsArePrimitive, KnownIs1To16Wide}
use Rattle.types.proofs.Declared.{primitive_undeclared}
use Rattle.types.proofs.Made.{by-table, width_here, layout_here, layout_skip, layout_undeclared}

pub one_word : PrimitiveIsOneWord
one_word tab l t p = let u = layout_undeclared tab t (primitive_undeclared tab l t p) in grind arith

-- words of primitive types
abbrev Plain : List TypeRef → Type 0
Plain ws = AllByRecursion (λ w. is_primitive w ≡ true) ws

plain_word : (t : TypeRef) → Plain (word t)
plain_word t = grind arith

plain_joined : (f : TypeRef → List TypeRef) → ((t : TypeRef) → Plain (f t)) → (ts : List TypeRef) → Plain (joined f ts)
plain_joined f h [] = tt
plain_joined f h (t ∷ ts) = All-append _ (f t) (joined f ts) (h t) (plain_joined f h ts)

pub words_primitive : WordsArePrimitive
words_primitive =
    by-table
    (λ tab t. Plain (layout tab t))
    (λ t. rw (layout_undeclared [] t refl) (plain_word t))
    (λ d ds t e ih. rw (layout_here d ds t e) (plain_joined (layout ds) ih d.fields))
    (λ d ds t e ih. rw (layout_skip d ds t e) (ih t))

total_pos : (f : TypeRef → ℕ) (tab : Table) → ((t : TypeRef) → Known tab t → 1 ≤ f t) → (ts : List TypeRef) → 0 < length ts → AllByRecursion (Known tab) ts → 1 ≤ total f ts
total_pos f tab h [] n k = omega arith
total_pos f tab h (t ∷ ts) n k = let a = h t k.0 in omega arith

abbrev Wide : Table → TypeRef → Type 0
Wide tab t = Lawful tab → Known tab t → (1 ≤ width tab t) × (width tab t ≤ 16)

wide_struct : (d : Decl) (ds : Table) (t : TypeRef) → same_type d.ty t ≡ true → ((f : TypeRef) → Wide ds f) → Wide (d ∷ ds) t
wide_struct d ds t e ih l k =
    let x = l.0.fit in
    let s = width_here d ds t e in
    let p = total_pos (width ds) ds (λ f y. (ih f l.1 y).0) d.fields x.filled x.known in
    (omega arith, omega (arith, x.narrow))

wide_other : (d : Decl) (ds : Table) (t : TypeRef) → same_type d.ty t ≡ false → ((f : TypeRef) → Wide ds f) → Wide (d ∷ ds) t
wide_other d ds t e ih l k =
    let s = ap length (layout_skip d ds t e) in
    let y : Known ds t = grind arith in
    let h = ih t l.1 y in
    (omega arith, omega arith)

pub widths : KnownIs1To16Wide
widths tab l t k = by-table Wide (λ t l k. let u = layout_undeclared [] t refl in grind arith) wide_struct wide_other tab t l k
