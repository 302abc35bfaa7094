-- A module that can be read keeps to its bounds.
use Rattle.std.proofs.Common.{◌≡◌, ℕ, ◌+◌, ◌≤◌, true, false, cond, eqb, ltb, List, [], ◌∷◌, ◌++◌, length, Ok, sym, refl, ap, ◌∙◌, subst, append-nil, arith}
use Rattle.std.proofs.ByRecursion.{All-append, All-map}
use Rattle.std.proofs.lemmas.List.{length-map}
use Rattle.std.proofs.lemmas.Bool.{ltb-true, le-leb}
use Rattle.std.specs.List.{flat_map, AllByRecursion}
use Rattle.operands.specs.Operands.{low_first}
use Rattle.bytecode.specs.Ranges.{in_range}
use Rattle.bytecode.specs.Records.{Shown, bytes_of}
use Rattle.codec.specs.Readable.{written, IsModule}
use Rattle.codec.specs.Reading.{read_module}
use Rattle.codec.specs.Walking.{At, placed_from}
use Rattle.codec.proofs.Verdict.{Verdict, reader_right, module_cut}
use Rattle.grammar.specs.declared.order.Part.TheVariants.{Module, Struct, Field, Function, Param, Result as Answer, Local, Code, End}
use Rattle.grammar.specs.Grammar.{Is, Rows, no_more, and, StructRow, FunctionRow, ModuleRow}
use Rattle.modules.specs.Bounds.{SizedStruct, SizedFunction, Bounded, ReadableModulesAreBounded}
use Rattle.modules.specs.Modules as defs
use Rattle.modules.specs.Modules.{is_kind, up_to, sections, struct_of, function_of, field_in, param_in, result_in, local_in, line_in, number_from, said, module_in, decoded}
use Rattle.modules.proofs.PartLaws.{other_part, is_kind_lem, names-none, no_line, code_names_none}
use Rattle.modules.proofs.PlaceLaws.{places_inside, structs_inside, functions_inside}
use Rattle.modules.proofs.Sizes.{Behind, Structs, Functions, structs_sized, functions_sized, silent, through, placed-append, placed_of, each_of, Without}

-- what holds of each record of structs
structs_each : (P : At → Type 0) → ((r : At) → Is Struct r.1 → P r) → ((r : At) → Is Field r.1 → P r) → {n : ℕ} {xs : List Shown} → Rows StructRow n xs → (at : ℕ) → AllByRecursion P (placed_from at xs)
unfolding placed_from
structs_each P f g no_more at = tt
structs_each P f g (and {xs = xs} {ys = ys} s further) at =
    subst (AllByRecursion P) (sym (placed-append xs ys at))
    (All-append P (placed_from at xs) _
    (subst (λ l. AllByRecursion P (placed_from at l)) (sym s.all) (f _ s.is_struct, each_of Field P g _ (placed_of s.has_fields.each _)))
    (structs_each P f g further (at + length (written xs))))

-- what holds of each record of functions
record EachPart (P : At → Type 0) : Type 0 where
  pub head : (r : At) → Is Function r.1 → P r
  pub param : (r : At) → Is Param r.1 → P r
  pub result : (r : At) → Is Answer r.1 → P r
  pub local : (r : At) → Is Local r.1 → P r
  pub line : (r : At) → Is Code r.1 → P r

functions_each : (P : At → Type 0) → EachPart P → {n : ℕ} {xs : List Shown} → Rows FunctionRow n xs → (at : ℕ) → AllByRecursion P (placed_from at xs)
unfolding placed_from
functions_each P e no_more at = tt
functions_each P e (and {xs = xs} {ys = ys} f further) at =
    subst (AllByRecursion P) (sym (placed-append xs ys at))
    (All-append P (placed_from at xs) _
    (subst (λ l. AllByRecursion P (placed_from at l)) (sym f.all) (e.head _ f.is_function, parts f _))
    (functions_each P e further (at + length (written xs))))
  where
    parts : {zs : List Shown} (f : FunctionRow zs) (at : ℕ) → AllByRecursion P (placed_from at (f.params ++ (f.results ++ (f.locals ++ f.code))))
    parts f at =
        subst (AllByRecursion P) (sym (placed-append f.params _ at)) (All-append P _ _ (each_of Param P e.param _ (placed_of f.has_params.each at))
        (subst (AllByRecursion P) (sym (placed-append f.results _ _)) (All-append P _ _ (each_of Answer P e.result _ (placed_of f.has_results.each _))
        (subst (AllByRecursion P) (sym (placed-append f.locals _ _)) (All-append P _ _ (each_of Local P e.local _ (placed_of f.has_locals.each _)) (each_of Code P e.line _ (placed_of f.has_code.each _)))))))

none_there : (k : ℕ) (rs : List At) → Without k rs → (up_to k rs ≡ rs) × (sections k rs ≡ [])
unfolding up_to sections
none_there k rs h =
    let t = through k rs [] h in
    (ap (up_to k) (sym (append-nil rs)) ∙ t.0 ∙ append-nil rs, ap (sections k) (sym (append-nil rs)) ∙ t.1)

quiet : {X : Type 0} (say : At → List X) (k : ℕ) (rs : List At) → Without k rs → AllByRecursion (λ r. say r ≡ []) rs → Behind say k rs
quiet say k rs w s = record { quiet = ap (flat_map say) (none_there k rs w).0 ∙ silent say rs s }

number_kept : (rs : List At) (n : ℕ) → Without 0x01 rs → number_from n rs ≡ n
unfolding number_from
number_kept [] n h = refl
number_kept (r ∷ rs) n h = let e = h.0 in rw e (number_kept rs n h.1)

some_number : (x : Shown) → Is Module x → 1 ≤ low_first 2 x.1
some_number x i =
    let e : ltb 0 (low_first 2 x.1) ≡ true = ap (λ k. in_range (k, x.1)) (sym (is_kind_lem i refl)) ∙ i.ranged in
    let l = ltb-true 0 (low_first 2 x.1) e in
    omega arith

-- the end of a module is no part of a struct or a function
module _ (at : ℕ) (x : Shown) (i : Is End x) where
  pub end_without : (k : ℕ) → eqb 0x00 k ≡ false → Without k ((at, x) ∷ [])
  end_without k e = (ap (λ j. eqb j k) (is_kind_lem i refl) ∙ e, tt)

  end_functions : Functions 0 ((at, x) ∷ [])
  end_functions =
      let w = end_without 0x04 refl in
      let e = (none_there 0x04 ((at, x) ∷ []) w).1 in
      record {
        few = rw e (omega arith);
        sized = rw e tt;
        no_params = quiet param_in 0x04 _ w (names-none (at, x) (0x05 ∷ []) i refl refl, tt);
        no_results = quiet result_in 0x04 _ w (names-none (at, x) (0x06 ∷ []) i refl refl, tt);
        no_locals = quiet local_in 0x04 _ w (names-none (at, x) (0x05 ∷ 0x07 ∷ []) i refl refl, tt);
        no_code = quiet line_in 0x04 _ w (no_line (at, x) i refl refl, tt);
      }

-- nor is a function a part of a struct
module _ {n : ℕ} {xs : List Shown} (fs : Rows FunctionRow n xs) (at : ℕ) where
  functions_without : (k : ℕ) → EachPart (λ r. is_kind k r ≡ false) → Without k (placed_from at xs)
  functions_without k e = functions_each (λ r. is_kind k r ≡ false) e fs at

  no_module_in : Without 0x01 (placed_from at xs)
  no_module_in = functions_without 0x01 (record {
    head = λ r i. other_part 0x01 i refl;
    param = λ r i. other_part 0x01 i refl;
    result = λ r i. other_part 0x01 i refl;
    local = λ r i. other_part 0x01 i refl;
    line = λ r i. other_part 0x01 i refl;
  })

  no_struct_in : Without 0x02 (placed_from at xs)
  no_struct_in = functions_without 0x02 (record {
    head = λ r i. other_part 0x02 i refl;
    param = λ r i. other_part 0x02 i refl;
    result = λ r i. other_part 0x02 i refl;
    local = λ r i. other_part 0x02 i refl;
    line = λ r i. other_part 0x02 i refl;
  })

  no_field_in : AllByRecursion (λ r. field_in r ≡ []) (placed_from at xs)
  no_field_in = functions_each (λ r. field_in r ≡ []) (record {
    head = λ r i. names-none r (0x03 ∷ []) i refl refl;
    param = λ r i. names-none r (0x03 ∷ []) i refl refl;
    result = λ r i. names-none r (0x03 ∷ []) i refl refl;
    local = λ r i. names-none r (0x03 ∷ []) i refl refl;
    line = λ r i. (code_names_none r i).0;
  }) fs at

  behind_structs : (end : ℕ) (x : Shown) → Is End x → Structs 0 (placed_from at xs ++ (end, x) ∷ [])
  behind_structs end x i =
      let w = All-append _ (placed_from at xs) ((end, x) ∷ []) no_struct_in (end_without end x i 0x02 refl) in
      let e = (none_there 0x02 (placed_from at xs ++ (end, x) ∷ []) w).1 in
      record {
        few = rw e (omega arith);
        sized = rw e tt;
        behind = quiet field_in 0x02 _ w (All-append _ (placed_from at xs) ((end, x) ∷ []) no_field_in (names-none (end, x) (0x03 ∷ []) i refl refl, tt));
      }

-- the records of a module, with their places
module _ {xs : List Shown} (m : ModuleRow xs) where
  structs_from : ℕ
  structs_from = 0 + length (bytes_of m.header)

  functions_from : ℕ
  functions_from = structs_from + length (written m.structs)

  end_from : ℕ
  end_from = functions_from + length (written m.functions)

  functions_there : List At
  functions_there = placed_from functions_from m.functions ++ (end_from, m.end) ∷ []

  structs_there : List At
  structs_there = placed_from structs_from m.structs

  layout : placed_from 0 xs ≡ (0, m.header) ∷ (structs_there ++ functions_there)
  unfolding placed_from structs_from functions_from end_from functions_there structs_there
  layout =
      ap (placed_from 0) m.all
      ∙ ap (λ l. (0, m.header) ∷ l)
      (placed-append m.structs _ structs_from ∙ ap (λ l. structs_there ++ l) (placed-append m.functions (m.end ∷ []) functions_from))

  sections_of_structs : sections 0x02 (placed_from 0 xs) ≡ sections 0x02 (structs_there ++ functions_there)
  sections_of_structs = ap (sections 0x02) layout ∙ (through 0x02 ((0, m.header) ∷ []) (structs_there ++ functions_there) (other_part 0x02 m.is_module refl, tt)).1

  structs_said : Structs 8 (structs_there ++ functions_there)
  unfolding functions_there structs_there
  structs_said =
      structs_sized m.has_structs structs_from functions_there (behind_structs m.has_functions functions_from end_from m.end m.is_end)

  sections_of_functions : sections 0x04 (placed_from 0 xs) ≡ sections 0x04 functions_there
  unfolding structs_there
  sections_of_functions =
      ap (sections 0x04) layout
      ∙ (through 0x04 ((0, m.header) ∷ structs_there) functions_there
      (other_part 0x04 m.is_module refl, structs_each (λ r. is_kind 0x04 r ≡ false) (λ r i. other_part 0x04 i refl) (λ r i. other_part 0x04 i refl) m.has_structs structs_from)).1

  functions_said : Functions 16 functions_there
  unfolding functions_there
  functions_said = functions_sized m.has_functions functions_from _ (end_functions end_from m.end m.is_end)

  number-said : number_from 0 (placed_from 0 xs) ≡ low_first 2 m.header.1
  unfolding number_from structs_there functions_there
  number-said =
      let e : eqb m.header.0 0x01 ≡ true = ap (λ k. eqb k 0x01) (is_kind_lem m.is_module refl) in
      ap (number_from 0) layout
      ∙ ap (λ b. number_from (cond b (low_first 2 m.header.1) 0) (structs_there ++ functions_there)) e
      ∙ number_kept (structs_there ++ functions_there) (low_first 2 m.header.1)
      (All-append _ structs_there functions_there
      (structs_each (λ r. is_kind 0x01 r ≡ false) (λ r i. other_part 0x01 i refl) (λ r i. other_part 0x01 i refl) m.has_structs structs_from)
      (All-append _ (placed_from functions_from m.functions) ((end_from, m.end) ∷ []) (no_module_in m.has_functions functions_from) (end_without end_from m.end m.is_end 0x01 refl)))

  pub module_bounded : (n : ℕ) → length (written xs) ≤ n → Bounded n (said (placed_from 0 xs))
  module_bounded n fits =
      let inside = places_inside xs 0 n (omega arith) in
      record {
        numbered = rw number-said (some_number m.header m.is_module);
        few_structs = simp length-map (rw sections_of_structs structs_said.few);
        structs = All-map SizedStruct struct_of _ (rw sections_of_structs structs_said.sized);
        struct_places = structs_inside n (placed_from 0 xs) inside;
        few_functions = simp length-map (rw sections_of_functions functions_said.few);
        functions = All-map SizedFunction function_of _ (rw sections_of_functions functions_said.sized);
        function_places = functions_inside n (placed_from 0 xs) inside;
      }

-- bytes that can be read are a module
is_module : (bs : List ℕ) (n : ℕ) → read_module bs ≡ Ok n → IsModule bs n
is_module bs n e = subst (Verdict bs) e (reader_right bs)

pub readable_bounded : ReadableModulesAreBounded
readable_bounded bs n e =
    let m = is_module bs n e in
    let l = ap length m.bytes in
    subst (λ c. Bounded (length bs) (said (placed_from 0 c.records))) (sym (module_cut m)) (module_bounded m.allowed (length bs) (omega arith))

-- what is decoded of such bytes
pub readable_decoded : (bs : List ℕ) (n : ℕ) → read_module bs ≡ Ok n → decoded bs ≡ module_in bs
readable_decoded bs n e = let t = le-leb (length bs) 4096 (is_module bs n e).short in rw t

pub decoded_bounded : (bs : List ℕ) (m : defs.Module) → m ≡ decoded bs → (n : ℕ) → read_module bs ≡ Ok n → Bounded (length bs) m
decoded_bounded bs m e n read = subst (Bounded (length bs)) (sym (e ∙ readable_decoded bs n read)) (readable_bounded bs n read)
