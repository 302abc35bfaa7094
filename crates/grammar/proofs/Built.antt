-- A row that the grammar allows is taken to its end.
use Rattle.std.proofs.Common.{◌≡◌, ℕ, zero, suc, ◌+◌, ◌<◌, ◌≤◌, true, false, List, [], ◌∷◌, ◌++◌, length, sym, refl, ap, ◌∙◌, subst, append_assoc, arith}
use Rattle.std.proofs.lemmas.Bool.Decides.{nat_tests}
use Rattle.bytecode.specs.Records.{Shown}
use Rattle.grammar.specs.declared.order.Part.{Part}
use Rattle.grammar.specs.declared.order.Part.TheVariants.{Module, Struct, Field, Function, Param, Result as Answer, Local, Code, End}
use Rattle.grammar.specs.declared.order.Progress.{Progress}
use Rattle.grammar.specs.Grammar.{Is, Each, none, more, Rows, no_more, and, StructRow, FunctionRow, ModuleRow}
use Rattle.grammar.specs.Order.{same, may_follow, most, had, after, start}
use Rattle.grammar.proofs.Steps.{Accepts, over, next, step_to}

-- the progress after n records of one part
afters : Part → ℕ → Progress → Progress
afters part zero p = p
afters part (suc n) p = afters part n (after p part)

-- one more of a part counts one more
had-after : (p : Progress) (part : Part) → had (after p part) part ≡ had p part + 1
had-after p part = grind (arith, nat_tests)

module _ (part : Part) where
  -- what holds of the last part before the row, and of the row's own part, holds of the last part behind it
  behind-row : (P : Part → Type 0) (n : ℕ) (p : Progress) → P p.last → P part → P (afters part n p).last
  unfolding afters
  behind-row P zero p before own = before
  behind-row P (suc n) p before own = behind-row P n (after p part) own own

  -- behind a row that is not empty stands the row's part
  last_of_row : (n : ℕ) (p : Progress) → 1 ≤ n → (afters part n p).last ≡ part
  unfolding afters
  last_of_row zero p h = absurd (omega arith)
  last_of_row (suc n) p h = behind-row (λ l. l ≡ part) n (after p part) refl refl

  -- a number that one record leaves as it is
  kept_by_row : (f : Progress → ℕ) → ((p : Progress) → f (after p part) ≡ f p) → (n : ℕ) (p : Progress) → f (afters part n p) ≡ f p
  unfolding afters
  kept_by_row f keeps zero p = refl
  kept_by_row f keeps (suc n) p = kept_by_row f keeps n (after p part) ∙ keeps p

  -- a row of records of one part, before a rest that is taken
  row_taken : may_follow part part ≡ true → {xs : List Shown} → Each part xs → (p : Progress) (zs : List Shown) → may_follow p.last part ≡ true
      → had p part + length xs ≤ most part → Accepts (afters part (length xs) p) zs → Accepts p (xs ++ zs)
  unfolding afters
  row_taken again none p zs follows fits rest = rest
  row_taken again (more {x} {xs} i each) p zs follows fits rest =
      let h = had-after p part in
      next i.whole (step_to p part x i follows (omega arith)) (row_taken again each (after p part) zs again (omega arith) rest)

-- the parameters after n PARAMs
params_of_row : (n : ℕ) (p : Progress) → (afters Param n p).params ≡ p.params + n
unfolding afters
params_of_row zero p = omega arith
params_of_row (suc n) p = params_of_row n (after p Param) ∙ omega arith

-- the end record, where it may stand
end_taken : (x : Shown) (p : Progress) → Is End x → may_follow p.last End ≡ true → Accepts p (x ∷ [])
end_taken x p i follows = next i.whole (step_to p End x i follows (grind (arith, nat_tests))) (over refl)

-- a function, before a rest that is taken behind any code with as many functions
function_taken : (xs : List Shown) → FunctionRow xs → (p : Progress) (zs : List Shown) → may_follow p.last Function ≡ true → p.functions < 16
    → ((q : Progress) → q.last ≡ Code → q.functions ≡ p.functions + 1 → Accepts q zs) → Accepts p (xs ++ zs)
function_taken xs f p zs follows few rest =
    let ps = f.params in
    let rs = f.results in
    let ls = f.locals in
    let cs = f.code in
    let p0 : Progress = after p Function in
    let p1 = afters Param (length ps) p0 in
    let p2 = afters Answer (length rs) p1 in
    let p3 = afters Local (length ls) p2 in
    let p4 = afters Code (length cs) p3 in
    let l1 : (P : Part → Type 0) → P Function → P Param → P p1.last = λ P a b. behind-row Param P (length ps) p0 a b in
    let l2 : (P : Part → Type 0) → P Function → P Param → P Answer → P p2.last = λ P a b c. behind-row Answer P (length rs) p1 (l1 P a b) c in
    let l3 : (P : Part → Type 0) → P Function → P Param → P Answer → P Local → P p3.last = λ P a b c d. behind-row Local P (length ls) p2 (l2 P a b c) d in
    let to : Part → Part → Type 0 = λ y l. may_follow l y ≡ true in
    let other : Part → Part → Type 0 = λ y l. same l y ≡ false in
    let n1 : p1.params ≡ length ps = params_of_row (length ps) p0 ∙ omega arith in
    let n2 : p2.params ≡ length ps = kept_by_row Answer (λ q. q.params) (λ q. refl) (length rs) p1 ∙ n1 in
    let g4 : p4.functions ≡ p.functions + 1 =
    kept_by_row Code (λ q. q.functions) (λ q. refl) (length cs) p3 ∙ kept_by_row Local (λ q. q.functions) (λ q. refl) (length ls) p2
    ∙ kept_by_row Answer (λ q. q.functions) (λ q. refl) (length rs) p1 ∙ kept_by_row Param (λ q. q.functions) (λ q. refl) (length ps) p0 in
    let d1 : same p1.last Answer ≡ false = l1 (other Answer) refl refl in
    let d2 : same p2.last Local ≡ false = l2 (other Local) refl refl refl in
    let d3 : same p3.last Code ≡ false = l3 (other Code) refl refl refl refl in
    let h1 : had p1 Answer ≡ 0 = rw d1 in
    let h2 : had p2 Local ≡ length ps = rw d2 n2 in
    let h3 : had p3 Code ≡ 0 = rw d3 in
    let pf = f.has_params.few in
    let rf = f.has_results.few in
    let lf = f.few_slots in
    let cf = f.has_code.few in
    let ending : Accepts p4 zs = rest p4 (last_of_row Code (length cs) p3 f.has_code.enough) g4 in
    let coded : Accepts p3 (cs ++ zs) = row_taken Code refl f.has_code.each p3 zs (l3 (to Code) refl refl refl refl) (omega arith) ending in
    let located : Accepts p2 (ls ++ (cs ++ zs)) = row_taken Local refl f.has_locals.each p2 (cs ++ zs) (l2 (to Local) refl refl refl) (omega arith) coded in
    let resulted : Accepts p1 (rs ++ (ls ++ (cs ++ zs))) = row_taken Answer refl f.has_results.each p1 (ls ++ (cs ++ zs)) (l1 (to Answer) refl refl) (omega arith) located in
    let done : Accepts p0 (ps ++ (rs ++ (ls ++ (cs ++ zs)))) = row_taken Param refl f.has_params.each p0 (rs ++ (ls ++ (cs ++ zs))) refl (omega arith) resulted in
    let all : xs ++ zs ≡ f.header ∷ (ps ++ (rs ++ (ls ++ (cs ++ zs)))) = ap (λ l. l ++ zs) f.all ∙ simp append_assoc in
    subst (Accepts p) (sym all) (next f.is_function.whole (step_to p Function f.header f.is_function follows few) done)

-- functions and the end
functions_taken : (n : ℕ) (xs : List Shown) → Rows FunctionRow n xs → (p : Progress) (x : Shown) → may_follow p.last Function ≡ true → may_follow p.last End ≡ true
    → p.functions + n ≤ 16 → Is End x → Accepts p (xs ++ (x ∷ []))
functions_taken n [] no_more p x follows ends few i = end_taken x p i ends
functions_taken n zs (and {n = m} {xs} {ys} f fs) p x follows ends few i =
    subst (Accepts p) (sym (append_assoc xs ys (x ∷ [])))
    (function_taken xs f p (ys ++ (x ∷ [])) follows (omega arith)
    (λ q l g. functions_taken m ys fs q x (rw l) (rw l) (omega arith) i))

-- a struct, before a rest that is taken behind any field with as many structs
struct_taken : (xs : List Shown) → StructRow xs → (p : Progress) (zs : List Shown) → may_follow p.last Struct ≡ true → p.structs < 8
    → ((q : Progress) → q.last ≡ Field → q.structs ≡ p.structs + 1 → q.functions ≡ p.functions → Accepts q zs) → Accepts p (xs ++ zs)
struct_taken xs s p zs follows few rest =
    let fs = s.fields in
    let p0 : Progress = after p Struct in
    let n = length fs in
    let ending = rest (afters Field n p0) (last_of_row Field n p0 s.has_fields.enough) (kept_by_row Field (λ q. q.structs) (λ q. refl) n p0) (kept_by_row Field (λ q. q.functions) (λ q. refl) n p0) in
    let h = s.has_fields.few in
    let done : Accepts p0 (fs ++ zs) = row_taken Field refl s.has_fields.each p0 zs refl (omega arith) ending in
    subst (Accepts p) (sym (ap (λ l. l ++ zs) s.all)) (next s.is_struct.whole (step_to p Struct s.header s.is_struct follows few) done)

-- structs, functions and the end
structs_taken : (n : ℕ) (xs : List Shown) → Rows StructRow n xs → (p : Progress) (gs : List Shown) (x : Shown) → may_follow p.last Struct ≡ true
    → may_follow p.last Function ≡ true → may_follow p.last End ≡ true → p.structs + n ≤ 8 → p.functions ≡ 0 → Rows FunctionRow 16 gs → Is End x
    → Accepts p (xs ++ (gs ++ (x ∷ [])))
structs_taken n [] no_more p gs x to_struct to_function to_end few first fs i = functions_taken 16 gs fs p x to_function to_end (omega arith) i
structs_taken n zs (and {n = m} {xs} {ys} s ss) p gs x to_struct to_function to_end few first fs i =
    subst (Accepts p) (sym (append_assoc xs ys (gs ++ (x ∷ []))))
    (struct_taken xs s p (ys ++ (gs ++ (x ∷ []))) to_struct (omega arith)
    (λ q l a g. structs_taken m ys ss q gs x (rw l) (rw l) (rw l) (omega arith) (g ∙ first) fs i))

pub module_taken : (xs : List Shown) → ModuleRow xs → Accepts start xs
module_taken xs m =
    subst (Accepts start) (sym m.all)
    (next m.is_module.whole (step_to start Module m.header m.is_module refl (omega arith))
    (structs_taken 8 m.structs m.has_structs (after start Module) m.functions m.end refl refl refl (omega arith) refl m.has_functions m.is_end))
