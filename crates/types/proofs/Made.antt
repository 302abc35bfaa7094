-- What a type comes to by a table, one declaration at a time.
use Rattle.std.proofs.Common.{◌≡◌, ℕ, ◌+◌, true, false, List, [], ◌∷◌, ◌++◌, length, None, sym, refl, ap, ◌∙◌, ap₂, ⊎_elim, append_assoc, arith, length-append}
use mathlib.Core.List.{flat_map}
use Rattle.std.specs.List.{AllByRecursion}
use Rattle.std.proofs.lemmas.List.Sums.{sum_by-cons}
use Rattle.std.proofs.lemmas.Bool.{cond-true, cond-false, cases_Bool}
use Rattle.operands.specs.declared.numbers.TypeRef.{TypeRef}
use Rattle.types.specs.Primitives.{same_type}
use Rattle.types.specs.Types.{Decl, Table, decl_of, over, total, joined, word, layout, width, once, inside}
use Rattle.types.specs.Laws.{TotalIsTheSum, JoinedIsTheRow}

-- An induction over a table and a type: the newest struct, from all types before it; any other type, from itself before it.
pub by-table :
    (P : Table → TypeRef → Type 0)
    → ((t : TypeRef) → P [] t)
    → ((d : Decl) (ds : Table) (t : TypeRef) → same_type d.ty t ≡ true → ((f : TypeRef) → P ds f) → P (d ∷ ds) t)
    → ((d : Decl) (ds : Table) (t : TypeRef) → same_type d.ty t ≡ false → ((f : TypeRef) → P ds f) → P (d ∷ ds) t)
    → (tab : Table) (t : TypeRef) → P tab t
by-table P start struct other [] t = start t
by-table P start struct other (d ∷ ds) t =
    ⊎_elim (λ e. struct d ds t e (by-table P start struct other ds)) (λ e. other d ds t e (by-table P start struct other ds)) (cases_Bool (same_type d.ty t))

module _ {A : Type 0} (base : TypeRef → A) (node : Decl → (TypeRef → A) → A) where
  pub over_skip : (d : Decl) (ds : Table) (t : TypeRef) → same_type d.ty t ≡ false → over base node (d ∷ ds) t ≡ over base node ds t
  unfolding over
  over_skip d ds t e = cond-false (same_type d.ty t) _ _ e

  pub over_here : (d : Decl) (ds : Table) (t : TypeRef) → same_type d.ty t ≡ true → over base node (d ∷ ds) t ≡ node d (over base node ds)
  unfolding over
  over_here d ds t e = cond-true (same_type d.ty t) _ _ e

  pub over_undeclared : (tab : Table) (t : TypeRef) → decl_of tab t ≡ None → over base node tab t ≡ base t
  unfolding over
  over_undeclared [] t e = refl
  over_undeclared (d ∷ tab) t e = let ih = over_undeclared tab t in grind arith

pub total-sum : TotalIsTheSum
total-sum f [] = refl
total-sum f (t ∷ ts) = ap (λ n. f t + n) (total-sum f ts) ∙ sym (sum_by-cons f t ts)

pub total-append : (f : TypeRef → ℕ) (ts us : List TypeRef) → total f (ts ++ us) ≡ total f ts + total f us
total-append f [] us = omega arith
total-append f (t ∷ ts) us = let ih = total-append f ts us in omega arith

pub joined-row : JoinedIsTheRow
unfolding flat_map
joined-row f [] = refl
joined-row f (t ∷ ts) = ap (λ ws. f t ++ ws) (joined-row f ts)

pub joined-append : (f : TypeRef → List TypeRef) (ts us : List TypeRef) → joined f (ts ++ us) ≡ joined f ts ++ joined f us
joined-append f [] us = refl
joined-append f (t ∷ ts) us = rw append_assoc (ap (λ ws. f t ++ ws) (joined-append f ts us))

pub total_alike : (ts : List TypeRef) (f g : TypeRef → ℕ) → AllByRecursion (λ t. f t ≡ g t) ts → total f ts ≡ total g ts
total_alike [] f g e = refl
total_alike (t ∷ ts) f g e = ap₂ ◌+◌ e.0 (total_alike ts f g e.1)

pub joined_alike : (ts : List TypeRef) (f g : TypeRef → List TypeRef) → AllByRecursion (λ t. f t ≡ g t) ts → joined f ts ≡ joined g ts
joined_alike [] f g e = refl
joined_alike (t ∷ ts) f g e = ap₂ ◌++◌ e.0 (joined_alike ts f g e.1)

pub length-joined : (f : TypeRef → List TypeRef) (ts : List TypeRef) → length (joined f ts) ≡ total (λ t. length (f t)) ts
length-joined f [] = refl
length-joined f (t ∷ ts) = let ih = length-joined f ts in simp length-append (omega arith)

pub total_zero : (f : TypeRef → ℕ) (ts : List TypeRef) → AllByRecursion (λ t. f t ≡ 0) ts → total f ts ≡ 0
total_zero f [] e = refl
total_zero f (t ∷ ts) e = let a = e.0 in let b = total_zero f ts e.1 in omega arith

-- the layout and the inside of the newest struct, of any other type, and of a type that is no struct's

pub layout_here : (d : Decl) (ds : Table) (t : TypeRef) → same_type d.ty t ≡ true → layout (d ∷ ds) t ≡ joined (layout ds) d.fields
unfolding layout
layout_here d ds t e = over_here _ _ d ds t e

pub width_here : (d : Decl) (ds : Table) (t : TypeRef) → same_type d.ty t ≡ true → width (d ∷ ds) t ≡ total (width ds) d.fields
width_here d ds t e = ap length (layout_here d ds t e) ∙ length-joined (layout ds) d.fields

pub layout_skip : (d : Decl) (ds : Table) (t : TypeRef) → same_type d.ty t ≡ false → layout (d ∷ ds) t ≡ layout ds t
unfolding layout
layout_skip d ds t e = over_skip _ _ d ds t e

pub layout_undeclared : (tab : Table) (t : TypeRef) → decl_of tab t ≡ None → layout tab t ≡ word t
unfolding layout
layout_undeclared tab t e = over_undeclared _ _ tab t e

pub inside_here : (T : TypeRef) (d : Decl) (ds : Table) (t : TypeRef) → same_type d.ty t ≡ true → inside T (d ∷ ds) t ≡ once d.ty T + total (inside T ds) d.fields
unfolding inside
inside_here T d ds t e = over_here _ _ d ds t e

pub inside_skip : (T : TypeRef) (d : Decl) (ds : Table) (t : TypeRef) → same_type d.ty t ≡ false → inside T (d ∷ ds) t ≡ inside T ds t
unfolding inside
inside_skip T d ds t e = over_skip _ _ d ds t e

pub inside_undeclared : (T : TypeRef) (tab : Table) (t : TypeRef) → decl_of tab t ≡ None → inside T tab t ≡ 0
unfolding inside
inside_undeclared T tab t e = over_undeclared _ _ tab t e
