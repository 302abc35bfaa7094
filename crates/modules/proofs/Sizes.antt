-- How many parts the structs and functions of a module have.
use Rattle.std.proofs.Common.{◌≡◌, ℕ, suc, ◌+◌, ◌≤◌, true, false, eqb, List, [], ◌∷◌, ◌++◌, length, sym, refl, ap, ◌∙◌, subst, append_assoc, append-nil, arith, length-append}
use Rattle.std.proofs.ByRecursion.{All-append}
use Rattle.std.proofs.lemmas.List.Concat.{flat_map-append}
use Rattle.std.specs.List.{flat_map, AllByRecursion}
use Rattle.bytecode.specs.Records.{Shown, bytes_of}
use Rattle.codec.specs.Readable.{written}
use Rattle.codec.specs.Walking.{At, placed_from}
use Rattle.grammar.specs.declared.order.Part.{Part}
use Rattle.grammar.specs.declared.order.Part.TheVariants.{Field, Param, Result as Answer, Local, Code}
use Rattle.grammar.specs.Grammar.{Is, Each, none, more, Rows, no_more, and, StructRow, FunctionRow}
use Rattle.grammar.specs.Order.{part_of, same}
use Rattle.modules.specs.Bounds.{SizedStruct, SizedFunction}
use Rattle.modules.specs.Modules.{is_kind, up_to, sections, struct_of, function_of, line_in, field_in, param_in, result_in, local_in}
use Rattle.modules.proofs.PartLaws.{other_part, is_kind_lem, names_one, names-none, no_line, one_line, param_local, code_names_none}

-- records that say nothing, and one thing each
pub silent : {X : Type 0} (say : At → List X) (rs : List At) → AllByRecursion (λ r. say r ≡ []) rs → flat_map say rs ≡ []
silent say [] h = refl
silent say (r ∷ rs) h = let e = h.0 in rw e (silent say rs h.1)

one_each : {X : Type 0} (say : At → List X) (rs : List At) → AllByRecursion (λ r. length (say r) ≡ 1) rs → length (flat_map say rs) ≡ length rs
one_each say [] h = refl
one_each say (r ∷ rs) h =
    let ih = one_each say rs h.1 in
    let e = h.0 in
    let l = length-append (say r) (flat_map say rs) in
    omega arith

pub placed-append : (xs ys : List Shown) (at : ℕ) → placed_from at (xs ++ ys) ≡ placed_from at xs ++ placed_from (at + length (written xs)) ys
unfolding placed_from
placed-append [] ys at = ap (λ p. placed_from p ys) (omega arith)
placed-append (x ∷ xs) ys at =
    let l = length-append x.1 (written xs) in
    ap (λ l. (at, x) ∷ l)
    (placed-append xs ys (at + length (bytes_of x)) ∙ ap (λ p. placed_from (at + length (bytes_of x)) xs ++ placed_from p ys) (omega arith))

pub placed-length : (xs : List Shown) (at : ℕ) → length (placed_from at xs) ≡ length xs
unfolding placed_from
placed-length [] at = refl
placed-length (x ∷ xs) at = ap suc (placed-length xs (at + length (bytes_of x)))

-- records of one part
abbrev pub Of : Part → List At → Type 0
Of part rs = AllByRecursion (λ r. Is part r.1) rs

pub placed_of : {part : Part} {xs : List Shown} → Each part xs → (at : ℕ) → Of part (placed_from at xs)
unfolding placed_from
placed_of none at = tt
placed_of (more {x = x} i further) at = (i, placed_of further (at + length (bytes_of x)))

-- what holds of each record of a part
pub each_of : (part : Part) (P : At → Type 0) → ((r : At) → Is part r.1 → P r) → (rs : List At) → Of part rs → AllByRecursion P rs
each_of part P f [] h = tt
each_of part P f (r ∷ rs) h = (f r h.0, each_of part P f rs h.1)

-- records of which none is of a kind
abbrev pub Without : ℕ → List At → Type 0
Without k rs = AllByRecursion (λ r. is_kind k r ≡ false) rs

without : (part : Part) (k : ℕ) (rs : List At) → same (part_of k) part ≡ false → Of part rs → Without k rs
without part k rs other h = each_of part (λ r. is_kind k r ≡ false) (λ r i. other_part k i other) rs h

pub through : (k : ℕ) (rs qs : List At) → Without k rs → (up_to k (rs ++ qs) ≡ rs ++ up_to k qs) × (sections k (rs ++ qs) ≡ sections k qs)
unfolding up_to sections
through k [] qs h = (refl, refl)
through k (r ∷ rs) qs h =
    let ih = through k rs qs h.1 in
    let e = h.0 in
    let u = ih.0 in
    let s = ih.1 in
    (rw (e, u), rw (e, s))

-- a record of the kind, those that belong to it, and what comes then
module _ (k : ℕ) (h : At) (rs qs : List At) (is : is_kind k h ≡ true) (inner : Without k rs) where
  section_first : sections k (h ∷ (rs ++ qs)) ≡ (h, rs ++ up_to k qs) ∷ sections k qs
  unfolding sections
  section_first =
      let t = through k rs qs inner in
      let u = t.0 in
      let s = t.1 in
      rw (is, u, s)

  nothing_before : up_to k (h ∷ (rs ++ qs)) ≡ []
  unfolding up_to
  nothing_before = rw is

-- What may follow the structs or functions: nothing of it is a part of them.
pub record Behind {X : Type 0} (say : At → List X) (k : ℕ) (rs : List At) : Type 0 where
  pub quiet : flat_map say (up_to k rs) ≡ []

-- A section says what its own records say.
own : {X : Type 0} (say : At → List X) (k : ℕ) (rs qs : List At) → Behind say k qs → flat_map say (rs ++ up_to k qs) ≡ flat_map say rs
own say k rs qs b = flat_map-append say rs (up_to k qs) ∙ ap (λ l. flat_map say rs ++ l) b.quiet ∙ append-nil (flat_map say rs)

pub record Structs (n : ℕ) (rs : List At) : Type 0 where
  pub few : length (sections 0x02 rs) ≤ n
  pub sized : AllByRecursion (λ s. SizedStruct (struct_of s)) (sections 0x02 rs)
  pub behind : Behind field_in 0x02 rs

one_struct : {n : ℕ} {xs : List Shown} (at : ℕ) (qs : List At) → StructRow xs → Structs n qs → Structs (suc n) (placed_from at xs ++ qs)
unfolding placed_from
one_struct {n} {xs} at qs s further =
    subst (λ l. Structs (suc n) (placed_from at l ++ qs)) (sym s.all)
    (let h : At = (at, s.header) in
    let fields = placed_from (at + length (bytes_of s.header)) s.fields in
    let of = placed_of s.has_fields.each (at + length (bytes_of s.header)) in
    let is : is_kind 0x02 h ≡ true = ap (λ k. eqb k 0x02) (is_kind_lem s.is_struct refl) in
    let inner = without Field 0x02 fields refl of in
    let first = section_first 0x02 h fields qs is inner in
    let count = one_each field_in fields (each_of Field (λ r. length (field_in r) ≡ 1) (λ r i. names_one r (0x03 ∷ []) i refl refl) fields of) in
    let mine = ap length (own field_in 0x02 fields qs further.behind) in
    let long = placed-length s.fields (at + length (bytes_of s.header)) in
    let enough = s.has_fields.enough in
    let few = s.has_fields.few in
    let rest = further.few in
    record {
      few = rw first (omega arith);
      sized = rw first (record { some_fields = omega arith; few_fields = omega arith }, further.sized);
      behind = record { quiet = ap (flat_map field_in) (nothing_before 0x02 h fields qs is inner) };
    })

pub structs_sized : {n : ℕ} {xs : List Shown} → Rows StructRow n xs → (at : ℕ) (qs : List At) → Structs 0 qs → Structs n (placed_from at xs ++ qs)
unfolding placed_from
structs_sized {n} no_more at qs d = let z = d.few in record { few = omega arith; sized = d.sized; behind = d.behind }
structs_sized (and {n = n} {xs = xs} {ys = ys} s further) at qs d =
    subst (Structs (suc n)) (sym (ap (λ l. l ++ qs) (placed-append xs ys at) ∙ append_assoc (placed_from at xs) _ qs))
    (one_struct at _ s (structs_sized further (at + length (written xs)) qs d))

-- the records of a function, part by part
record Parts (rs : List At) : Type 0 where
  pub params : List At
  pub results : List At
  pub locals : List At
  pub code : List At
  pub all : rs ≡ params ++ (results ++ (locals ++ code))
  pub are_params : Of Param params
  pub are_results : Of Answer results
  pub are_locals : Of Local locals
  pub are_code : Of Code code
  pub few_params : length params ≤ 8
  pub few_results : length results ≤ 4
  pub few_locals : length params + length locals ≤ 16
  pub some_code : 1 ≤ length code
  pub few-lines : length code ≤ 128

joined_same : {X : Type 0} (f g : At → List X) (rs : List At) → AllByRecursion (λ r. f r ≡ g r) rs → flat_map f rs ≡ flat_map g rs
joined_same f g [] h = refl
joined_same f g (r ∷ rs) h = let e = h.0 in let ih = joined_same f g rs h.1 in rw (e, ih)

module _ {rs : List At} (p : Parts rs) where
  by_parts : {X : Type 0} (say : At → List X) → flat_map say rs ≡ flat_map say p.params ++ (flat_map say p.results ++ (flat_map say p.locals ++ flat_map say p.code))
  by_parts say =
      ap (flat_map say) p.all ∙ flat_map-append say p.params _
      ∙ ap (λ l. flat_map say p.params ++ l) (flat_map-append say p.results _ ∙ ap (λ l. flat_map say p.results ++ l) (flat_map-append say p.locals p.code))

  silent_in : {X : Type 0} (part : Part) (say : At → List X) → ((r : At) → Is part r.1 → say r ≡ []) → (qs : List At) → Of part qs → flat_map say qs ≡ []
  silent_in part say f qs h = silent say qs (each_of part (λ r. say r ≡ []) f qs h)

  params_are : flat_map param_in rs ≡ flat_map param_in p.params
  params_are =
      let s = silent_in Answer param_in (λ r i. names-none r (0x05 ∷ []) i refl refl) p.results p.are_results in
      let l = silent_in Local param_in (λ r i. names-none r (0x05 ∷ []) i refl refl) p.locals p.are_locals in
      let c = silent_in Code param_in (λ r i. (code_names_none r i).1) p.code p.are_code in
      by_parts param_in ∙ rw (s, l, c) (append-nil (flat_map param_in p.params))

  results_are : flat_map result_in rs ≡ flat_map result_in p.results
  results_are =
      let a = silent_in Param result_in (λ r i. names-none r (0x06 ∷ []) i refl refl) p.params p.are_params in
      let l = silent_in Local result_in (λ r i. names-none r (0x06 ∷ []) i refl refl) p.locals p.are_locals in
      let c = silent_in Code result_in (λ r i. (code_names_none r i).2) p.code p.are_code in
      by_parts result_in ∙ rw (a, l, c) (append-nil (flat_map result_in p.results))

  locals_are : flat_map local_in rs ≡ flat_map param_in p.params ++ flat_map local_in p.locals
  locals_are =
      let a = joined_same local_in param_in p.params (each_of Param (λ r. local_in r ≡ param_in r) param_local p.params p.are_params) in
      let s = silent_in Answer local_in (λ r i. names-none r (0x05 ∷ 0x07 ∷ []) i refl refl) p.results p.are_results in
      let c = silent_in Code local_in (λ r i. (code_names_none r i).3) p.code p.are_code in
      by_parts local_in ∙ rw (a, s, c) (ap (λ l. flat_map param_in p.params ++ l) (append-nil (flat_map local_in p.locals)))

  code_is : flat_map line_in rs ≡ flat_map line_in p.code
  code_is =
      let a = silent_in Param line_in (λ r i. no_line r i refl refl) p.params p.are_params in
      let s = silent_in Answer line_in (λ r i. no_line r i refl refl) p.results p.are_results in
      let l = silent_in Local line_in (λ r i. no_line r i refl refl) p.locals p.are_locals in
      by_parts line_in ∙ rw (a, s, l)

  -- with these records, and nothing of a function behind them
  sized_function : (h : At) (own_records : List At) → flat_map param_in own_records ≡ flat_map param_in rs → flat_map result_in own_records ≡ flat_map result_in rs
      → flat_map local_in own_records ≡ flat_map local_in rs → flat_map line_in own_records ≡ flat_map line_in rs → SizedFunction (function_of (h, own_records))
  sized_function h own_records ep er el ec =
      let np = one_each param_in p.params (each_of Param (λ r. length (param_in r) ≡ 1) (λ r i. names_one r (0x05 ∷ []) i refl refl) p.params p.are_params) in
      let nr = one_each result_in p.results (each_of Answer (λ r. length (result_in r) ≡ 1) (λ r i. names_one r (0x06 ∷ []) i refl refl) p.results p.are_results) in
      let nl = one_each local_in p.locals (each_of Local (λ r. length (local_in r) ≡ 1) (λ r i. names_one r (0x05 ∷ 0x07 ∷ []) i refl refl) p.locals p.are_locals) in
      let nc = one_each line_in p.code (each_of Code (λ r. length (line_in r) ≡ 1) one_line p.code p.are_code) in
      let lp = ap length (ep ∙ params_are) in
      let lr = ap length (er ∙ results_are) in
      let ll = ap length (el ∙ locals_are) in
      let la = length-append (flat_map param_in p.params) (flat_map local_in p.locals) in
      let lc = ap length (ec ∙ code_is) in
      let a = p.few_params in
      let b = p.few_results in
      let c = p.few_locals in
      let d = p.some_code in
      let e = p.few-lines in
      record {
        few_params = omega arith;
        few_results = omega arith;
        few_locals = omega arith;
        some_code = omega arith;
        few-lines = omega arith;
        declared = flat_map local_in p.locals;
        params_first = el ∙ locals_are ∙ ap (λ l. l ++ flat_map local_in p.locals) (sym (ep ∙ params_are));
      }

  no_function_in : Without 0x04 rs
  no_function_in =
      subst (Without 0x04) (sym p.all)
      (All-append _ p.params _ (without Param 0x04 p.params refl p.are_params)
      (All-append _ p.results _ (without Answer 0x04 p.results refl p.are_results)
      (All-append _ p.locals _ (without Local 0x04 p.locals refl p.are_locals) (without Code 0x04 p.code refl p.are_code))))

parts_of : {xs : List Shown} (f : FunctionRow xs) (at : ℕ) → Parts (placed_from at (f.params ++ (f.results ++ (f.locals ++ f.code))))
parts_of f at =
    let a = at + length (written f.params) in
    let b = a + length (written f.results) in
    let c = b + length (written f.locals) in
    let np = placed-length f.params at in
    let nr = placed-length f.results a in
    let nl = placed-length f.locals b in
    let nc = placed-length f.code c in
    let fp = f.has_params.few in
    let fr = f.has_results.few in
    let fs = f.few_slots in
    let sc = f.has_code.enough in
    let fc = f.has_code.few in
    record {
      params = placed_from at f.params;
      results = placed_from a f.results;
      locals = placed_from b f.locals;
      code = placed_from c f.code;
      all =
          placed-append f.params _ at
          ∙ ap (λ l. placed_from at f.params ++ l) (placed-append f.results _ a ∙ ap (λ l. placed_from a f.results ++ l) (placed-append f.locals f.code b));
      are_params = placed_of f.has_params.each at;
      are_results = placed_of f.has_results.each a;
      are_locals = placed_of f.has_locals.each b;
      are_code = placed_of f.has_code.each c;
      few_params = omega arith;
      few_results = omega arith;
      few_locals = omega arith;
      some_code = omega arith;
      few-lines = omega arith;
    }

pub record Functions (n : ℕ) (rs : List At) : Type 0 where
  pub few : length (sections 0x04 rs) ≤ n
  pub sized : AllByRecursion (λ s. SizedFunction (function_of s)) (sections 0x04 rs)
  pub no_params : Behind param_in 0x04 rs
  pub no_results : Behind result_in 0x04 rs
  pub no_locals : Behind local_in 0x04 rs
  pub no_code : Behind line_in 0x04 rs

one_function : {n : ℕ} {xs : List Shown} (at : ℕ) (qs : List At) → FunctionRow xs → Functions n qs → Functions (suc n) (placed_from at xs ++ qs)
unfolding placed_from
one_function {n} {xs} at qs f further =
    subst (λ l. Functions (suc n) (placed_from at l ++ qs)) (sym f.all)
    (let h : At = (at, f.header) in
    let start = at + length (bytes_of f.header) in
    let rs = placed_from start (f.params ++ (f.results ++ (f.locals ++ f.code))) in
    let p = parts_of f start in
    let is : is_kind 0x04 h ≡ true = ap (λ k. eqb k 0x04) (is_kind_lem f.is_function refl) in
    let inner = no_function_in p in
    let first = section_first 0x04 h rs qs is inner in
    let before = nothing_before 0x04 h rs qs is inner in
    let rest = further.few in
    record {
      few = rw first (omega arith);
      sized = rw first (
        sized_function p h (rs ++ up_to 0x04 qs) (own param_in 0x04 rs qs further.no_params) (own result_in 0x04 rs qs further.no_results) (own local_in 0x04 rs qs further.no_locals) (own line_in 0x04 rs qs further.no_code),
        further.sized,
      );
      no_params = record { quiet = ap (flat_map param_in) before };
      no_results = record { quiet = ap (flat_map result_in) before };
      no_locals = record { quiet = ap (flat_map local_in) before };
      no_code = record { quiet = ap (flat_map line_in) before };
    })

pub functions_sized : {n : ℕ} {xs : List Shown} → Rows FunctionRow n xs → (at : ℕ) (qs : List At) → Functions 0 qs → Functions n (placed_from at xs ++ qs)
unfolding placed_from
functions_sized {n} no_more at qs d =
    let z = d.few in
    record { few = omega arith; sized = d.sized; no_params = d.no_params; no_results = d.no_results; no_locals = d.no_locals; no_code = d.no_code }
functions_sized (and {n = n} {xs = xs} {ys = ys} f further) at qs d =
    subst (Functions (suc n)) (sym (ap (λ l. l ++ qs) (placed-append xs ys at) ∙ append_assoc (placed_from at xs) _ qs))
    (one_function at _ f (functions_sized further (at + length (written xs)) qs d))
