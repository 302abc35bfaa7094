-- Columns and the module that they mean: each is the other's, and stays so with one record more.
use Rattle.std.proofs.Common.{◌≡◌, ℕ, zero, suc, ◌+◌, ◌<◌, ◌≤◌, Bool, true, false, cond, ltb, List, [], ◌∷◌, ◌++◌, map, length, get_or, Some, None, vec_items, vec_len, vec_capacity, sym, refl, ap, ◌∙◌, subst, append-nil, arith}
use Rattle.std.specs.List.{slice_get}
use Rattle.std.proofs.lemmas.Bool.{le-ltb, lt-ltb}
use Rattle.std.proofs.lemmas.Bool.Decides.{nat_tests}
use Rattle.std.proofs.Math.ListN.{get_or-map}
use Rattle.std.proofs.lemmas.List.{length-map, map_push, nil_from_length}
use Rattle.operands.specs.Operands.{low_first}
use Rattle.codec.specs.Walking.{At}
use Rattle.groups.specs.Groups.{size, last_of, lastly}
use Rattle.modules.specs.declared.parts.FunctionHead.{FunctionHead}
use Rattle.modules.specs.declared.parts.Line.{Line}
use Rattle.modules.specs.declared.parts.StructHead.{StructHead}
use Rattle.modules.specs.declared.parts.Typed.{Typed}
use Rattle.modules.specs.declared.rows.Rows.TheInside.{Inside}
use Rattle.modules.specs.Modules.{Module, StructDefinition, FunctionDefinition, Section, is_kind, body_of, struct_of, function_of, field_in, param_in, result_in, local_in, line_in, no_module, no_struct, no_function, struct_at, function_at, struct_head, function_head, struct_head_at, function_head_at}
use Rattle.modules.specs.Rows.{first, others, structs_of, functions_of, module_of, Aligned}
use Rattle.modules.specs.Adding.{longer_struct, longer_function, added, Room}
use Rattle.instructions.specs.declared.instruction.Instruction.{Instruction}
use Rattle.instructions.specs.Instructions.{instruction_of}
use Rattle.modules.proofs.Adding.{map-lastly}
use Rattle.modules.proofs.PartLaws.{other_kind}

-- these are the columns of a module
pub record Columns (m : Module) (n : ℕ) (hs : List StructHead) (fs : List (List Typed)) (gs : List FunctionHead) (ps rs ls : List (List Typed)) (cs : List (List Line)) : Type 0 where
  pub number : n ≡ m.number
  pub structs : hs ≡ map struct_head m.structs
  pub fields : fs ≡ map (λ s. s.fields) m.structs
  pub functions : gs ≡ map function_head m.functions
  pub params : ps ≡ map (λ f. f.params) m.functions
  pub results : rs ≡ map (λ f. f.results) m.functions
  pub locals : ls ≡ map (λ f. f.locals) m.functions
  pub code : cs ≡ map (λ f. f.code) m.functions

abbrev pub InColumns : Inside → Module → Type 0
InColumns r m = Columns m r.number (vec_items r.structs) r.fields (vec_items r.functions) r.params r.results r.locals r.code

-- the structs and the functions come back from their columns
structs_back : (ss : List StructDefinition) → structs_of (map struct_head ss) (map (λ s. s.fields) ss) ≡ ss
unfolding structs_of
structs_back [] = refl
structs_back (s ∷ ss) = ap (λ l. s ∷ l) (structs_back ss)

functions_back : (fs : List FunctionDefinition) → functions_of (map function_head fs) (map (λ f. f.params) fs) (map (λ f. f.results) fs) (map (λ f. f.locals) fs) (map (λ f. f.code) fs) ≡ fs
unfolding functions_of
functions_back [] = refl
functions_back (f ∷ fs) = ap (λ l. f ∷ l) (functions_back fs)

means : {m : Module} {n : ℕ} {hs : List StructHead} {fs : List (List Typed)} {gs : List FunctionHead} {ps rs ls : List (List Typed)} {cs : List (List Line)} → Columns m n hs fs gs ps rs ls cs
    → ◌≡◌ {A = Module} (record { number = n; structs = structs_of hs fs; functions = functions_of gs ps rs ls cs }) m
means {m} c =
    let n = c.number in
    let a = c.structs in
    let b = c.fields in
    let d = c.functions in
    let e = c.params in
    let f = c.results in
    let g = c.locals in
    let h = c.code in
    rw (n, a, b, d, e, f, g, h, structs_back m.structs, functions_back m.functions)

-- a column with a list for each head
split : {X H : Type 0} (gs : List (List X)) (h : H) (hs : List H) → length gs ≡ length (h ∷ hs) → (gs ≡ first gs ∷ others gs) × (length (others gs) ≡ length hs)
split [] h hs e = absurd (omega arith)
split (g ∷ gs) h hs e = (refl, omega arith)

heads_of_structs : (hs : List StructHead) (fs : List (List Typed)) → map struct_head (structs_of hs fs) ≡ hs
unfolding structs_of
heads_of_structs [] fs = refl
heads_of_structs (h ∷ hs) fs = ap (λ l. h ∷ l) (heads_of_structs hs (others fs))

fields_of_structs : (hs : List StructHead) (fs : List (List Typed)) → length fs ≡ length hs → map (λ s. s.fields) (structs_of hs fs) ≡ fs
unfolding structs_of
fields_of_structs [] fs e = sym (nil_from_length fs e)
fields_of_structs (h ∷ hs) fs e =
    let s = split fs h hs e in
    ap (λ l. first fs ∷ l) (fields_of_structs hs (others fs) s.1) ∙ sym s.0

-- as many lists in each column as heads
record Even (n : ℕ) (ps rs ls : List (List Typed)) (cs : List (List Line)) : Type 0 where
  pub params : length ps ≡ n
  pub results : length rs ≡ n
  pub locals : length ls ≡ n
  pub code : length cs ≡ n

-- these columns are those of the functions
record Lists (fs : List FunctionDefinition) (hs : List FunctionHead) (ps rs ls : List (List Typed)) (cs : List (List Line)) : Type 0 where
  pub heads : map function_head fs ≡ hs
  pub params : map (λ f. f.params) fs ≡ ps
  pub results : map (λ f. f.results) fs ≡ rs
  pub locals : map (λ f. f.locals) fs ≡ ls
  pub code : map (λ f. f.code) fs ≡ cs

lists_of : (hs : List FunctionHead) (ps rs ls : List (List Typed)) (cs : List (List Line)) → Even (length hs) ps rs ls cs → Lists (functions_of hs ps rs ls cs) hs ps rs ls cs
unfolding functions_of
lists_of [] ps rs ls cs e = record { heads = refl; params = sym (nil_from_length ps e.params); results = sym (nil_from_length rs e.results); locals = sym (nil_from_length ls e.locals); code = sym (nil_from_length cs e.code) }
lists_of (h ∷ hs) ps rs ls cs e =
    let p = split ps h hs e.params in
    let r = split rs h hs e.results in
    let l = split ls h hs e.locals in
    let c = split cs h hs e.code in
    let ih = lists_of hs (others ps) (others rs) (others ls) (others cs) (record { params = p.1; results = r.1; locals = l.1; code = c.1 }) in
    record {
      heads = ap (λ x. h ∷ x) ih.heads;
      params = ap (λ x. first ps ∷ x) ih.params ∙ sym p.0;
      results = ap (λ x. first rs ∷ x) ih.results ∙ sym r.0;
      locals = ap (λ x. first ls ∷ x) ih.locals ∙ sym l.0;
      code = ap (λ x. first cs ∷ x) ih.code ∙ sym c.0;
    }

columns_of : (r : Inside) → Aligned r → InColumns r (module_of r)
columns_of r a =
    let l = lists_of (vec_items r.functions) r.params r.results r.locals r.code (record { params = a.params; results = a.results; locals = a.locals; code = a.code }) in record {
      number = refl;
      structs = sym (heads_of_structs (vec_items r.structs) r.fields);
      fields = sym (fields_of_structs (vec_items r.structs) r.fields a.fields);
      functions = sym l.heads;
      params = sym l.params;
      results = sym l.results;
      locals = sym l.locals;
      code = sym l.code;
    }

as_many : {X Y Z : Type 0} (f : X → Y) (g : X → Z) (xs : List X) {ys : List Y} {zs : List Z} → ys ≡ map f xs → zs ≡ map g xs → length ys ≡ length zs
as_many f g xs e e' = simp length-map at (ap length e) ∙ sym (simp length-map at (ap length e'))

aligned : {r : Inside} {m : Module} → InColumns r m → 4096 ≤ vec_capacity r.structs → 4096 ≤ vec_capacity r.functions → Aligned r
aligned {r} {m} c s f = record {
  fields = as_many (λ x. x.fields) struct_head m.structs c.fields c.structs;
  params = as_many (λ x. x.params) function_head m.functions c.params c.functions;
  results = as_many (λ x. x.results) function_head m.functions c.results c.functions;
  locals = as_many (λ x. x.locals) function_head m.functions c.locals c.functions;
  code = as_many (λ x. x.code) function_head m.functions c.code c.functions;
  structs_room = s;
  functions_room = f;
}

pub columns_at : {r : Inside} {m : Module} → Aligned r → module_of r ≡ m → InColumns r m
columns_at {r} a e = subst (InColumns r) e (columns_of r a)

-- an element of a column, past the last too
read : {X Y : Type 0} (f : X → Y) (xs : List X) {ys : List Y} (i : ℕ) (d : X) → ys ≡ map f xs → get_or ys i (f d) ≡ f (get_or xs i d)
read f xs i d e = ap (λ l. get_or l i (f d)) e ∙ get_or-map f xs i d

abbrev pub struct_with : StructHead → List Typed → StructDefinition
struct_with h fields = record { abilities = h.abilities; fields = fields; place = h.place }

abbrev pub function_with : FunctionHead → List Typed → List Typed → List Typed → List Line → FunctionDefinition
function_with h params results locals code =
    record { visibility = h.visibility; params = params; results = results; locals = locals; code = code; place = h.place }

-- columns of any lengths
pub structs_length : (hs : List StructHead) (fs : List (List Typed)) → length (structs_of hs fs) ≡ length hs
unfolding structs_of
structs_length [] fs = refl
structs_length (h ∷ hs) fs = ap suc (structs_length hs (others fs))

pub functions_length : (hs : List FunctionHead) (ps rs ls : List (List Typed)) (cs : List (List Line)) → length (functions_of hs ps rs ls cs) ≡ length hs
unfolding functions_of
functions_length [] ps rs ls cs = refl
functions_length (h ∷ hs) ps rs ls cs = ap suc (functions_length hs (others ps) (others rs) (others ls) (others cs))

first_is : {X : Type 0} (gs : List (List X)) → first gs ≡ get_or gs 0 []
first_is [] = refl
first_is (g ∷ gs) = refl

others-at : {X : Type 0} (gs : List (List X)) (i : ℕ) → get_or (others gs) i [] ≡ get_or gs (suc i) []
others-at [] i = refl
others-at (g ∷ gs) i = refl

pub structs_at : (hs : List StructHead) (fs : List (List Typed)) (i : ℕ) (d : StructDefinition) (h : StructHead) → i < length hs
    → get_or (structs_of hs fs) i d ≡ struct_with (get_or hs i h) (get_or fs i [])
unfolding structs_of
structs_at [] fs i d h l = absurd (omega arith)
structs_at (x ∷ hs) fs zero d h l = ap (struct_with x) (first_is fs)
structs_at (x ∷ hs) fs (suc i) d h l = structs_at hs (others fs) i d h (omega arith) ∙ ap (struct_with (get_or hs i h)) (others-at fs i)

pub functions_at : (hs : List FunctionHead) (ps rs ls : List (List Typed)) (cs : List (List Line)) (i : ℕ) (d : FunctionDefinition) (h : FunctionHead) → i < length hs
    → get_or (functions_of hs ps rs ls cs) i d ≡ function_with (get_or hs i h) (get_or ps i []) (get_or rs i []) (get_or ls i []) (get_or cs i [])
unfolding functions_of
functions_at [] ps rs ls cs i d h l = absurd (omega arith)
functions_at (x ∷ hs) ps rs ls cs zero d h l =
    let p = first_is ps in let r = first_is rs in let s = first_is ls in let c = first_is cs in rw (p, r, s, c)
functions_at (x ∷ hs) ps rs ls cs (suc i) d h l =
    let p = others-at ps i in let r = others-at rs i in let s = others-at ls i in let c = others-at cs i in
    functions_at hs (others ps) (others rs) (others ls) (others cs) i d h (omega arith) ∙ rw (p, r, s, c)

pub struct_at_lem : (r : Inside) {m : Module} (i : ℕ) → Aligned r → module_of r ≡ m → struct_at m i ≡ struct_with (get_or (vec_items r.structs) i (struct_head no_struct)) (get_or r.fields i [])
struct_at_lem r {m} i a e =
    let c = columns_at a e in
    let h = read struct_head m.structs i no_struct c.structs in
    let f = read (λ s. s.fields) m.structs i no_struct c.fields in
    rw (h, f)

pub function_at_lem : (r : Inside) {m : Module} (i : ℕ) → Aligned r → module_of r ≡ m
    → function_at m i ≡ function_with (get_or (vec_items r.functions) i (function_head no_function)) (get_or r.params i []) (get_or r.results i []) (get_or r.locals i []) (get_or r.code i [])
function_at_lem r {m} i a e =
    let c = columns_at a e in
    let h = read function_head m.functions i no_function c.functions in
    let p = read (λ f. f.params) m.functions i no_function c.params in
    let s = read (λ f. f.results) m.functions i no_function c.results in
    let l = read (λ f. f.locals) m.functions i no_function c.locals in
    let d = read (λ f. f.code) m.functions i no_function c.code in
    rw (h, p, s, l, d)

there : {X Y : Type 0} (f : X → Y) (xs : List X) (i : ℕ) (d : X) → slice_get (map f xs) i ≡ cond (ltb i (length xs)) (Some (f (get_or xs i d))) None
there f [] i d = let e = le-ltb i 0 (omega arith) in rw e
there f (x ∷ xs) zero d = let e = lt-ltb 0 (length (x ∷ xs)) (omega arith) in rw e
there f (x ∷ xs) (suc i) d = let ih = there f xs i d in grind (arith, nat_tests)

pub struct_head_lem : (r : Inside) {m : Module} (i : ℕ) → Aligned r → module_of r ≡ m → slice_get (vec_items r.structs) i ≡ struct_head_at m i
struct_head_lem r {m} i a e = ap (λ l. slice_get l i) (columns_at a e).structs ∙ there struct_head m.structs i no_struct

pub function_head_lem : (r : Inside) {m : Module} (i : ℕ) → Aligned r → module_of r ≡ m → slice_get (vec_items r.functions) i ≡ function_head_at m i
function_head_lem r {m} i a e = ap (λ l. slice_get l i) (columns_at a e).functions ∙ there function_head m.functions i no_function

-- without a struct and a function there is no module
pub no_module_lem : (n : ℕ) (hs : List StructHead) (fs : List (List Typed)) (gs : List FunctionHead) (ps rs ls : List (List Typed)) (cs : List (List Line)) → n ≡ 0 → hs ≡ [] → gs ≡ []
    → ◌≡◌ {A = Module} (record { number = n; structs = structs_of hs fs; functions = functions_of gs ps rs ls cs }) no_module
unfolding structs_of functions_of
no_module_lem n hs fs gs ps rs ls cs e s f = rw (e, s, f)

-- these items at the end of the last list
abbrev pub grown : {X : Type 0} → List X → List (List X) → List (List X)
grown [] gs = gs
grown (x ∷ xs) gs = lastly (λ l. l ++ x ∷ xs) gs

last_of-same : {X : Type 0} (f : X → X) → ((x : X) → f x ≡ x) → (x : X) (xs : List X) → last_of f x xs ≡ x ∷ xs
last_of-same f e x [] = ap (λ y. y ∷ []) (e x)
last_of-same f e x (y ∷ ys) = ap (λ l. x ∷ l) (last_of-same f e y ys)

lastly-same : {X : Type 0} (f : X → X) → ((x : X) → f x ≡ x) → (xs : List X) → lastly f xs ≡ xs
lastly-same f e [] = refl
lastly-same f e (x ∷ xs) = last_of-same f e x xs

grown_is : {X : Type 0} (xs : List X) (gs : List (List X)) → lastly (λ l. l ++ xs) gs ≡ grown xs gs
grown_is [] gs = lastly-same (λ l. l ++ []) append-nil gs
grown_is (x ∷ xs) gs = refl

-- these are the columns with one record more
pub record Added (r : At) (old : Inside) (n : ℕ) (hs : List StructHead) (fs : List (List Typed)) (gs : List FunctionHead) (ps rs ls : List (List Typed)) (cs : List (List Line)) : Type 0 where
  pub number : n ≡ cond (is_kind 0x01 r) (low_first 2 (body_of r)) old.number
  pub structs : hs ≡ cond (is_kind 0x02 r) (vec_items old.structs ++ struct_head (struct_of (r, [])) ∷ []) (vec_items old.structs)
  pub fields : fs ≡ cond (is_kind 0x02 r) (old.fields ++ [] ∷ []) (grown (field_in r) old.fields)
  pub functions : gs ≡ cond (is_kind 0x04 r) (vec_items old.functions ++ function_head (function_of (r, [])) ∷ []) (vec_items old.functions)
  pub params : ps ≡ cond (is_kind 0x04 r) (old.params ++ [] ∷ []) (grown (param_in r) old.params)
  pub results : rs ≡ cond (is_kind 0x04 r) (old.results ++ [] ∷ []) (grown (result_in r) old.results)
  pub locals : ls ≡ cond (is_kind 0x04 r) (old.locals ++ [] ∷ []) (grown (local_in r) old.locals)
  pub code : cs ≡ cond (is_kind 0x04 r) (old.code ++ [] ∷ []) (grown (line_in r) old.code)

module _ {X Y : Type 0} (k : ℕ) (begun : Section → X) (longer : At → X → X) (r : At) (xs : List X) where
  heads_by : (b : Bool) (f : X → Y) → ((x : X) → f (longer r x) ≡ f x)
      → map f (cond b (xs ++ begun (r, []) ∷ []) (lastly (longer r) xs)) ≡ cond b (map f xs ++ f (begun (r, [])) ∷ []) (map f xs)
  heads_by true f e = map_push f xs (begun (r, []))
  heads_by false f e = map-lastly f (longer r) (λ y. y) e xs ∙ lastly-same (λ y. y) (λ y. refl) (map f xs)

  pub lists_by : (b : Bool) (f : X → List Y) (say : At → List Y) → ((x : X) → f (longer r x) ≡ f x ++ say r)
      → map f (cond b (xs ++ begun (r, []) ∷ []) (lastly (longer r) xs)) ≡ cond b (map f xs ++ f (begun (r, [])) ∷ []) (grown (say r) (map f xs))
  lists_by true f say e = map_push f xs (begun (r, []))
  lists_by false f say e = map-lastly f (longer r) (λ l. l ++ say r) e xs ∙ grown_is (say r) (map f xs)

more : {r : At} {old : Inside} {m : Module} {n : ℕ} {hs : List StructHead} {fs : List (List Typed)} {gs : List FunctionHead} {ps rs ls : List (List Typed)} {cs : List (List Line)}
    → InColumns old m → Added r old n hs fs gs ps rs ls cs → Columns (added m r) n hs fs gs ps rs ls cs
more {r} {old} {m} c d =
    let s = is_kind 0x02 r in
    let f = is_kind 0x04 r in record {
      number = d.number ∙ ap (cond (is_kind 0x01 r) (low_first 2 (body_of r))) c.number;
      structs = d.structs ∙ ap (λ l. cond s (l ++ struct_head (struct_of (r, [])) ∷ []) l) c.structs ∙ sym (heads_by 0x02 struct_of longer_struct r m.structs s struct_head (λ x. refl));
      fields = d.fields ∙ ap (λ l. cond s (l ++ [] ∷ []) (grown (field_in r) l)) c.fields ∙ sym (lists_by 0x02 struct_of longer_struct r m.structs s (λ x. x.fields) field_in (λ x. refl));
      functions = d.functions ∙ ap (λ l. cond f (l ++ function_head (function_of (r, [])) ∷ []) l) c.functions ∙ sym (heads_by 0x04 function_of longer_function r m.functions f function_head (λ x. refl));
      params = d.params ∙ ap (λ l. cond f (l ++ [] ∷ []) (grown (param_in r) l)) c.params ∙ sym (lists_by 0x04 function_of longer_function r m.functions f (λ x. x.params) param_in (λ x. refl));
      results = d.results ∙ ap (λ l. cond f (l ++ [] ∷ []) (grown (result_in r) l)) c.results ∙ sym (lists_by 0x04 function_of longer_function r m.functions f (λ x. x.results) result_in (λ x. refl));
      locals = d.locals ∙ ap (λ l. cond f (l ++ [] ∷ []) (grown (local_in r) l)) c.locals ∙ sym (lists_by 0x04 function_of longer_function r m.functions f (λ x. x.locals) local_in (λ x. refl));
      code = d.code ∙ ap (λ l. cond f (l ++ [] ∷ []) (grown (line_in r) l)) c.code ∙ sym (lists_by 0x04 function_of longer_function r m.functions f (λ x. x.code) line_in (λ x. refl));
    }

-- the end of a module adds nothing
pub end_adds : (m : Module) (at : ℕ) → added m (at, (0x00, [])) ≡ m
end_adds m at =
    let s = lastly-same (longer_struct (at, (0x00, []))) (λ s. let f = append-nil s.fields in rw f) m.structs in
    let f = lastly-same (longer_function (at, (0x00, []))) (λ f. let p = append-nil f.params in let r = append-nil f.results in let l = append-nil f.locals in let c = append-nil f.code in rw (p, r, l, c)) m.functions in
    rw (s, f)

-- an instruction adds a line of code
pub line_added : (r : At) (i : Instruction) (old : Inside) (cs : List (List Line)) → instruction_of r.1 ≡ Some i → cs ≡ lastly (λ l. l ++ record { instruction = i; place = r.0 } ∷ []) old.code
    → Added r old old.number (vec_items old.structs) old.fields (vec_items old.functions) old.params old.results old.locals cs
line_added r i old cs e c =
    let k1 = other_kind r.1 i 0x01 e refl in
    let k2 = other_kind r.1 i 0x02 e refl in
    let k3 = other_kind r.1 i 0x03 e refl in
    let k4 = other_kind r.1 i 0x04 e refl in
    let k5 = other_kind r.1 i 0x05 e refl in
    let k6 = other_kind r.1 i 0x06 e refl in
    let k7 = other_kind r.1 i 0x07 e refl in
    record { number = rw k1; structs = rw k2; fields = rw (k2, k3); functions = rw k4; params = rw (k4, k5); results = rw (k4, k6); locals = rw (k4, k5, k7); code = rw (k4, e) c }

-- so they mean the module with it
pub means_more : (r : At) {old : Inside} {m : Module} {n : ℕ} {hs : List StructHead} {fs : List (List Typed)} {gs : List FunctionHead} {ps rs ls : List (List Typed)} {cs : List (List Line)}
    → Aligned old → module_of old ≡ m → Added r old n hs fs gs ps rs ls cs
    → ◌≡◌ {A = Module} (record { number = n; structs = structs_of hs fs; functions = functions_of gs ps rs ls cs }) (added m r)
means_more r a e d = means (more (columns_at a e) d)

-- and stay aligned
pub aligned_more : (r : At) {old new : Inside} → Aligned old → Added r old new.number (vec_items new.structs) new.fields (vec_items new.functions) new.params new.results new.locals new.code
    → vec_capacity old.structs ≡ vec_capacity new.structs → vec_capacity old.functions ≡ vec_capacity new.functions → Aligned new
aligned_more r {old} a d s f = aligned (more (columns_of old a) d) (rw s at a.structs_room) (rw f at a.functions_room)

-- room for n records more
pub record Fits (n : ℕ) (r : Inside) : Type 0 where
  pub structs : vec_len r.structs + n ≤ vec_capacity r.structs
  pub functions : vec_len r.functions + n ≤ vec_capacity r.functions
  pub fields : (length r.fields + n ≤ 4096) × (size r.fields + n ≤ 4096)
  pub params : (length r.params + n ≤ 4096) × (size r.params + n ≤ 4096)
  pub results : (length r.results + n ≤ 4096) × (size r.results + n ≤ 4096)
  pub locals : (length r.locals + n ≤ 4096) × (size r.locals + n ≤ 4096)
  pub code : (length r.code + n ≤ 4096) × (size r.code + n ≤ 4096)

list_fits : {X Y : Type 0} (f : X → List Y) (xs : List X) (ys : List (List Y)) (n : ℕ) → ys ≡ map f xs → length xs + n ≤ 4096 → size (map f xs) + n ≤ 4096 → (length ys + n ≤ 4096) × (size ys + n ≤ 4096)
list_fits f xs ys n e l s = rw e (simp length-map l, s)

pub fits : {n : ℕ} {r : Inside} {m : Module} → Aligned r → module_of r ≡ m → Room n m → Fits n r
fits {n} {r} {m} a e room =
    let c = columns_at a e in
    let s = r.structs.ok.0 in
    let f = r.functions.ok.0 in
    let hs : length (vec_items r.structs) ≡ length m.structs = simp length-map at (ap length c.structs) in
    let hf : length (vec_items r.functions) ≡ length m.functions = simp length-map at (ap length c.functions) in
    let t = a.structs_room in
    let g = a.functions_room in
    let i = room.structs in
    let j = room.functions in
    record {
      structs = omega arith;
      functions = omega arith;
      fields = list_fits (λ x. x.fields) m.structs r.fields n c.fields i room.fields;
      params = list_fits (λ x. x.params) m.functions r.params n c.params j room.params;
      results = list_fits (λ x. x.results) m.functions r.results n c.results j room.results;
      locals = list_fits (λ x. x.locals) m.functions r.locals n c.locals j room.locals;
      code = list_fits (λ x. x.code) m.functions r.code n c.code j room.code;
    }
