-- A row that is taken to its end is one that the grammar allows.
use Rattle.std.proofs.Common.{◌≡◌, ℕ, zero, suc, ◌+◌, ◌-◌, ◌<◌, ◌≤◌, Bool, true, false, cond, leb, List, [], ◌∷◌, ◌++◌, length, Ok, sym, refl, ap, ◌∙◌, subst, append_assoc, arith, rules}
use Rattle.std.proofs.lemmas.Bool.Decides.{nat_tests}
use Rattle.std.proofs.lemmas.List.{nil_from_length}
use Rattle.bytecode.specs.Records.{Shown, formed}
use Rattle.grammar.specs.declared.order.Part.{Part}
use Rattle.grammar.specs.declared.order.Part.TheVariants.{Start, Module, Struct, Field, Function, Param, Result as Answer, Local, Code, End}
use Rattle.grammar.specs.declared.order.Progress.{Progress}
use Rattle.grammar.specs.Grammar.{Is, Each, none, more, Rows, no_more, and, StructRow, FunctionRow, ModuleRow}
use Rattle.grammar.specs.Order.{part_of, rank, is_end, may_follow, most, had, after, start}
use Rattle.grammar.proofs.Steps.{Accepts, over, next, Step, step_from}

-- whether the last part is one of those from one rank up to another
abbrev between : ℕ → ℕ → Progress → Bool
between low high p = cond (leb low (rank p.last)) (leb (rank p.last) high) false

-- how many of each part the rest may have: none where the part may no longer come
abbrev room : ℕ → ℕ → Progress → ℕ → ℕ
room low high p left = cond (between low high p) left 0

-- how much of each part may be left of a module after this progress, and how much has to be
record Left (p : Progress) (fields structs params results locals code functions ends : ℕ) : Type 0 where
  pub has_fields : fields ≤ room 2 3 p (8 - had p Field)
  pub needs_field : room 2 2 p 1 ≤ fields
  pub has_structs : structs ≤ room 1 3 p (8 - p.structs)
  pub has_params : params ≤ room 4 5 p (8 - p.params)
  pub has_results : results ≤ room 4 6 p (4 - had p Answer)
  pub has_locals : params + locals ≤ room 4 7 p (16 - had p Local)
  pub has_code : code ≤ room 4 8 p (128 - had p Code)
  pub needs_code : room 4 7 p 1 ≤ code
  pub has_functions : functions ≤ room 1 8 p (16 - p.functions)
  pub has_end : ends ≡ room 1 8 p 1

-- records of one part, and rows of one form
record Segment (part : Part) : Type 0 where
  pub items : List Shown
  pub each : Each part items

record Group (Form : List Shown → Type 0) : Type 0 where
  pub items : List Shown
  pub rows : ℕ
  pub each : Rows Form rows items

abbrev nil : {part : Part} → Segment part
nil = record { items = []; each = none }

abbrev cons : {part : Part} (x : Shown) → Is part x → Segment part → Segment part
cons x i s = record { items = x ∷ s.items; each = more i s.each }

abbrev no_group : {Form : List Shown → Type 0} → Group Form
no_group = record { items = []; rows = 0; each = no_more }

abbrev grouped : {Form : List Shown → Type 0} (xs : List Shown) → Form xs → Group Form → Group Form
grouped xs f g = record { items = xs ++ g.items; rows = suc g.rows; each = and f g.each }

-- what is left of a module after this progress: fields and structs, then the parts of a function and functions, and the end
data Rest (p : Progress) (xs : List Shown) : Type 0 where
  rest : (fs : Segment Field) (ss : Group StructRow) (ps : Segment Param) (rs : Segment Answer) (ls : Segment Local) (cs : Segment Code) (gs : Group FunctionRow) (es : Segment End)
      → xs ≡ fs.items ++ (ss.items ++ (ps.items ++ (rs.items ++ (ls.items ++ (cs.items ++ (gs.items ++ es.items))))))
      → Left p (length fs.items) ss.rows (length ps.items) (length rs.items) (length ls.items) (length cs.items) gs.rows (length es.items)
      → Rest p xs

-- how the numbers change by one record in front, part by part
module _ (p : Progress) (a b c d e f g h : ℕ) where
  left_field : may_follow p.last Field ≡ true → had p Field < 8 → Left (after p Field) a b c d e f g h → Left p (suc a) b c d e f g h
  left_field follows fits l = search (rules, nat_tests)

  left_struct : may_follow p.last Struct ≡ true → had p Struct < 8 → Left (after p Struct) a b c d e f g h → Left p 0 (suc b) c d e f g h
  left_struct follows fits l = search (rules, nat_tests)

  left_param : may_follow p.last Param ≡ true → had p Param < 8 → Left (after p Param) a b c d e f g h → Left p 0 0 (suc c) d e f g h
  left_param follows fits l = search (rules, nat_tests)

  left_result : may_follow p.last Answer ≡ true → had p Answer < 4 → Left (after p Answer) a b c d e f g h → Left p 0 0 0 (suc d) e f g h
  left_result follows fits l = search (rules, nat_tests)

  left_local : may_follow p.last Local ≡ true → had p Local < 16 → Left (after p Local) a b c d e f g h → Left p 0 0 0 0 (suc e) f g h
  left_local follows fits l = search (rules, nat_tests)

  left_code : may_follow p.last Code ≡ true → had p Code < 128 → Left (after p Code) a b c d e f g h → Left p 0 0 0 0 0 (suc f) g h
  left_code follows fits l = search (rules, nat_tests)

  left_function : may_follow p.last Function ≡ true → had p Function < 16 → Left (after p Function) a b c d e f g h → Left p 0 0 0 0 0 0 (suc g) h
  left_function follows fits l = search (rules, nat_tests)

left_end : (p : Progress) → may_follow p.last End ≡ true → Left p 0 0 0 0 0 0 0 1
left_end p follows = search (rules, nat_tests)

left-none : (p : Progress) → is_end p.last ≡ true → Left p 0 0 0 0 0 0 0 0
left-none p ended = search (rules, nat_tests)

-- at most no rows are no records
no_rows : {Form : List Shown → Type 0} (n : ℕ) {xs : List Shown} → Rows Form n xs → n ≤ 0 → xs ≡ []
no_rows n no_more h = refl
no_rows n (and f fs) h = absurd (omega arith)

-- a part that is empty may be left out
without : {xs ys zs : List Shown} → xs ≡ ys ++ zs → ys ≡ [] → xs ≡ zs
without {xs} {ys} {zs} e none_left = e ∙ ap (λ l. l ++ zs) none_left

empty : (xs : List Shown) → length xs ≤ 0 → xs ≡ []
empty xs h = nil_from_length xs (omega arith)

-- where parts come no more, the rest begins with those that may
module _ {p : Progress} {xs : List Shown} (fs : Segment Field) (ss : Group StructRow) (ps : Segment Param) (rs : Segment Answer) (ls : Segment Local) (cs : Segment Code) (gs : Group FunctionRow) (es : Segment End)
    (all : xs ≡ fs.items ++ (ss.items ++ (ps.items ++ (rs.items ++ (ls.items ++ (cs.items ++ (gs.items ++ es.items)))))))
    (l : Left p (length fs.items) ss.rows (length ps.items) (length rs.items) (length ls.items) (length cs.items) gs.rows (length es.items)) where
  from_params : 4 ≤ rank p.last → xs ≡ ps.items ++ (rs.items ++ (ls.items ++ (cs.items ++ (gs.items ++ es.items))))
  from_params h =
      let a : length fs.items ≤ 0 = grind (arith, nat_tests) in
      let b : ss.rows ≤ 0 = grind (arith, nat_tests) in
      without (without all (empty _ a)) (no_rows _ ss.each b)

  from_results : 6 ≤ rank p.last → xs ≡ rs.items ++ (ls.items ++ (cs.items ++ (gs.items ++ es.items)))
  from_results h =
      let a : length ps.items ≤ 0 = grind (arith, nat_tests) in
      without (from_params (omega arith)) (empty _ a)

  from_locals : 7 ≤ rank p.last → xs ≡ ls.items ++ (cs.items ++ (gs.items ++ es.items))
  from_locals h =
      let a : length rs.items ≤ 0 = grind (arith, nat_tests) in
      without (from_results (omega arith)) (empty _ a)

  from_code : 8 ≤ rank p.last → xs ≡ cs.items ++ (gs.items ++ es.items)
  from_code h =
      let a : length ls.items ≤ 0 = grind (arith, nat_tests) in
      without (from_locals (omega arith)) (empty _ a)

  from_end : 9 ≤ rank p.last → xs ≡ []
  from_end h =
      let a : length cs.items ≤ 0 = grind (arith, nat_tests) in
      let b : gs.rows ≤ 0 = grind (arith, nat_tests) in
      let c : length es.items ≤ 0 = grind (arith, nat_tests) in
      without (without (from_code (omega arith)) (empty _ a)) (no_rows _ gs.each b) ∙ empty _ c

-- a header and what is left behind it make a struct, or a function
struct_row : (p : Progress) (x : Shown) (fs : Segment Field) {b c d e f g h : ℕ} → Is Struct x → Left (after p Struct) (length fs.items) b c d e f g h → StructRow (x ∷ fs.items)
struct_row p x fs i l =
    let enough : 1 ≤ length fs.items = grind (arith, nat_tests) in
    let few : length fs.items ≤ 8 = grind (arith, nat_tests) in
    record { header = x; fields = fs.items; all = refl; is_struct = i; has_fields = record { each = fs.each; enough = enough; few = few } }

function_row : (p : Progress) (x : Shown) (ps : Segment Param) (rs : Segment Answer) (ls : Segment Local) (cs : Segment Code) {a b g h : ℕ} → Is Function x
    → Left (after p Function) a b (length ps.items) (length rs.items) (length ls.items) (length cs.items) g h
    → FunctionRow (x ∷ (ps.items ++ (rs.items ++ (ls.items ++ cs.items))))
function_row p x ps rs ls cs i l =
    let few_params : length ps.items ≤ 8 = grind (arith, nat_tests) in
    let few_results : length rs.items ≤ 4 = grind (arith, nat_tests) in
    let few_slots : length ps.items + length ls.items ≤ 16 = grind (arith, nat_tests) in
    let some_code : 1 ≤ length cs.items = grind (arith, nat_tests) in
    let few_code : length cs.items ≤ 128 = grind (arith, nat_tests) in
    record {
      header = x;
      params = ps.items;
      results = rs.items;
      locals = ls.items;
      code = cs.items;
      all = refl;
      is_function = i;
      has_params = record { each = ps.each; enough = omega arith; few = few_params };
      has_results = record { each = rs.each; enough = omega arith; few = few_results };
      has_locals = record { each = ls.each; enough = omega arith; few = omega arith };
      has_code = record { each = cs.each; enough = some_code; few = few_code };
      few_slots = few_slots;
    }

-- one record in front of what is left
module _ (p : Progress) (x : Shown) (xs : List Shown) where
  in_front : (part : Part) → Is part x → may_follow p.last part ≡ true → had p part < most part → 1 ≤ rank p.last → Rest (after p part) xs → Rest p (x ∷ xs)
  in_front Start i follows fits begun r = absurd cc
  in_front Module i follows fits begun r = absurd (grind (arith, nat_tests))
  in_front Struct i follows fits begun (rest fs ss ps rs ls cs gs es all l) =
      rest nil (grouped (x ∷ fs.items) (struct_row p x fs i l) ss) ps rs ls cs gs es
      (ap (λ t. x ∷ t) (all ∙ sym (append_assoc fs.items ss.items _)))
      (left_struct p _ _ _ _ _ _ _ _ follows fits l)
  in_front Field i follows fits begun (rest fs ss ps rs ls cs gs es all l) =
      rest (cons x i fs) ss ps rs ls cs gs es (ap (λ t. x ∷ t) all) (left_field p _ _ _ _ _ _ _ _ follows fits l)
  in_front Function i follows fits begun (rest fs ss ps rs ls cs gs es all l) =
      rest nil no_group nil nil nil nil (grouped (x ∷ (ps.items ++ (rs.items ++ (ls.items ++ cs.items)))) (function_row p x ps rs ls cs i l) gs) es
      (ap (λ t. x ∷ t) (from_params fs ss ps rs ls cs gs es all l (omega arith) ∙ simp append_assoc))
      (left_function p _ _ _ _ _ _ _ _ follows fits l)
  in_front Param i follows fits begun (rest fs ss ps rs ls cs gs es all l) =
      rest nil no_group (cons x i ps) rs ls cs gs es (ap (λ t. x ∷ t) (from_params fs ss ps rs ls cs gs es all l (omega arith))) (left_param p _ _ _ _ _ _ _ _ follows fits l)
  in_front Answer i follows fits begun (rest fs ss ps rs ls cs gs es all l) =
      rest nil no_group nil (cons x i rs) ls cs gs es (ap (λ t. x ∷ t) (from_results fs ss ps rs ls cs gs es all l (omega arith))) (left_result p _ _ _ _ _ _ _ _ follows fits l)
  in_front Local i follows fits begun (rest fs ss ps rs ls cs gs es all l) =
      rest nil no_group nil nil (cons x i ls) cs gs es (ap (λ t. x ∷ t) (from_locals fs ss ps rs ls cs gs es all l (omega arith))) (left_local p _ _ _ _ _ _ _ _ follows fits l)
  in_front Code i follows fits begun (rest fs ss ps rs ls cs gs es all l) =
      rest nil no_group nil nil nil (cons x i cs) gs es (ap (λ t. x ∷ t) (from_code fs ss ps rs ls cs gs es all l (omega arith))) (left_code p _ _ _ _ _ _ _ _ follows fits l)
  in_front End i follows fits begun (rest fs ss ps rs ls cs gs es all l) =
      rest nil no_group nil nil nil nil no_group (cons x i nil) (ap (λ t. x ∷ t) (from_end fs ss ps rs ls cs gs es all l (omega arith))) (left_end p follows)

-- the part that a step put last
step_is : {p q : Progress} {x : Shown} → formed x ≡ Ok x → Step p x q → Is (part_of x.0) x
step_is w s = record { kind = refl; whole = w; ranged = s.ranged }

-- behind a step some record stands
begun_after : (p : Progress) (part : Part) → may_follow p.last part ≡ true → 1 ≤ rank part
begun_after p part follows = grind (arith, nat_tests)

rest_of : {p : Progress} {xs : List Shown} → Accepts p xs → 1 ≤ rank p.last → Rest p xs
rest_of {p} (over ended) begun = rest nil no_group nil nil nil nil no_group nil refl (left-none p ended)
rest_of {p} (next {q = q} {x = x} {xs = xs} w a more_records) begun =
    let s = step_from p x q a in
    let begun_next = subst (λ t. 1 ≤ rank t.last) (sym s.then) (begun_after p (part_of x.0) s.follows) in
    in_front p x xs (part_of x.0) (step_is w s) s.follows s.fits begun (subst (λ t. Rest t xs) s.then (rest_of more_records begun_next))

-- at most n rows are at most m, where m is more
rows_up : {Form : List Shown → Type 0} (n m : ℕ) {xs : List Shown} → n ≤ m → Rows Form n xs → Rows Form m xs
rows_up n m h no_more = no_more
rows_up n zero h (and f fs) = absurd (omega arith)
rows_up n (suc m) h (and {n = k} f fs) = and f (rows_up k m (omega arith) fs)

-- only MODULE comes first
module_first : (part : Part) → may_follow Start part ≡ true → part ≡ Module
module_first part follows = grind (arith, nat_tests)

-- one record of a part
record Single (part : Part) (xs : List Shown) : Type 0 where
  pub only : Shown
  pub alone : xs ≡ only ∷ []
  pub is : Is part only

single : {part : Part} {xs : List Shown} → Each part xs → length xs ≡ 1 → Single part xs
single none h = absurd (omega arith)
single (more {x} i none) h = record { only = x; alone = refl; is = i }
single (more i (more k each)) h = absurd (omega arith)

module_of_lem : (x : Shown) (xs : List Shown) → Is Module x → Rest (after start Module) xs → ModuleRow (x ∷ xs)
module_of_lem x xs i (rest fs ss ps rs ls cs gs es all l) =
    let a : length fs.items ≤ 0 = l.has_fields in
    let c : length ps.items ≤ 0 = l.has_params in
    let d : length rs.items ≤ 0 = l.has_results in
    let e : length ls.items ≤ 0 = omega (arith, l.has_locals) in
    let f : length cs.items ≤ 0 = l.has_code in
    let s = single es.each l.has_end in
    let short : xs ≡ ss.items ++ (gs.items ++ es.items) =
    without all (empty _ a)
    ∙ ap (λ t. ss.items ++ t) (without (without (without (without refl (empty _ c)) (empty _ d)) (empty _ e)) (empty _ f)) in
    record {
      header = x;
      structs = ss.items;
      functions = gs.items;
      end = s.only;
      all = ap (λ t. x ∷ t) (short ∙ ap (λ t. ss.items ++ (gs.items ++ t)) s.alone);
      is_module = i;
      has_structs = rows_up ss.rows 8 l.has_structs ss.each;
      has_functions = rows_up gs.rows 16 l.has_functions gs.each;
      is_end = s.is;
    }

pub module_parsed : (xs : List Shown) → Accepts start xs → ModuleRow xs
module_parsed [] (over ended) = absurd cc
module_parsed (x ∷ xs) (next {q = q} w a further) =
    let s = step_from start x q a in
    let first = module_first (part_of x.0) s.follows in
    let at : q ≡ after start Module = s.then ∙ ap (after start) first in
    module_of_lem x xs (subst (λ part. Is part x) first (step_is w s))
    (subst (λ t. Rest t xs) at (rest_of further (subst (λ t. 1 ≤ rank t.last) (sym at) (omega arith))))
