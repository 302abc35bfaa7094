-- What one turn of decoding a module keeps.
use Rattle.std.proofs.Common.{◌≡◌, ℕ, zero, suc, ◌+◌, ◌≤◌, Bool, true, false, cond, List, [], ◌∷◌, ◌++◌, map, length, Ok, Err, Some, None, Option, Result, sym, refl, ap, ◌∙◌, subst, arith, length-append}
use Rattle.std.specs.List.{fold}
use Rattle.std.proofs.lemmas.List.{length_push}
use Rattle.bytecode.specs.declared.refusals.Reason.{Reason}
use Rattle.bytecode.specs.Kinds.{among}
use Rattle.codec.specs.FirstRecord.{Read, read_one}
use Rattle.codec.specs.Reading.{cutting, on_read, read_module}
use Rattle.codec.specs.Walking.{At, records_in}
use Rattle.groups.specs.Groups.{size, last_of, lastly}
use Rattle.instructions.specs.declared.instruction.Instruction.{Instruction}
use Rattle.instructions.specs.Instructions.{instruction_of}
use Rattle.modules.specs.Bounds.{Bounded}
use Rattle.modules.specs.Modules.{Module, Section, is_kind, body_of, typed_at, type_in, line_at, struct_of, function_of, field_in, param_in, result_in, local_in, line_in, module_in, no_module}
use Rattle.modules.specs.Adding.{longer_struct, longer_function, with_record, added, Room}
use Rattle.modules.proofs.Adding.{said_is}
use Rattle.modules.proofs.Columns.{grown, lists_by}
use Rattle.modules.proofs.ModuleBounds.{readable_bounded}
use Rattle.modules.proofs.Sizes.{placed-length}

-- the records that are still to come make of what is there the module in the bytes, and there is room for them
pub record Decoding (bs : List ℕ) (m : Module) (rs : List At) : Type 0 where
  pub means : fold added m rs ≡ module_in bs
  pub room : Room (length rs) m

-- no more records than bytes
few_read : (turns : ℕ) (r : Result Read Reason) → ((bs : List ℕ) → length (cutting turns bs).records ≤ turns) → length (on_read r (cutting turns)).records ≤ suc turns
few_read turns (Ok x) few = omega (arith, few x.1)
few_read turns (Err why) few = omega arith

few_records : (turns : ℕ) (bs : List ℕ) → length (cutting turns bs).records ≤ turns
unfolding cutting
few_records zero bs = omega arith
few_records (suc turns) bs = few_read turns (read_one bs) (few_records turns)

pub begins : {bs : List ℕ} {m : Module} {rs : List At} → m ≡ no_module → rs ≡ records_in bs → length bs ≤ 4096 → Decoding bs m rs
begins {bs} {m} {rs} none all short =
    let few : length rs ≤ 4096 = let l = ap length all in omega (arith, placed-length (cutting (length bs) bs).records 0, few_records (length bs) bs) in
    record {
      means = rw (none, all) (said_is (records_in bs));
      room = rw none (record { structs = omega arith; functions = omega arith; fields = omega arith; params = omega arith; results = omega arith; locals = omega arith; code = omega arith });
    }

length-last_of : {X : Type 0} (f : X → X) (x : X) (xs : List X) → length (last_of f x xs) ≡ suc (length xs)
length-last_of f x [] = refl
length-last_of f x (y ∷ ys) = ap suc (length-last_of f y ys)

-- one record more is at most one part more
module _ {X : Type 0} (begun : Section → X) (longer : At → X → X) (r : At) (xs : List X) where
  length_by : (b : Bool) → length (cond b (xs ++ begun (r, []) ∷ []) (lastly (longer r) xs)) ≤ length xs + 1
  length_by true = omega (arith, length_push xs (begun (r, [])))
  length_by false = kept xs
    where
      kept : (ys : List X) → length (lastly (longer r) ys) ≤ length ys + 1
      kept [] = omega arith
      kept (y ∷ ys) = omega (arith, length-last_of (longer r) y ys)

size_push : {Y : Type 0} (gs : List (List Y)) → size (gs ++ [] ∷ []) ≡ size gs
size_push [] = refl
size_push (g ∷ gs) = ap (λ n. length g + n) (size_push gs)

size-last : {Y : Type 0} (ys g : List Y) (gs : List (List Y)) → size (last_of (λ l. l ++ ys) g gs) ≡ length g + size gs + length ys
size-last ys g [] = omega (arith, length-append g ys)
size-last ys g (h ∷ gs) = omega (arith, size-last ys h gs)

size_grown : {Y : Type 0} (ys : List Y) (gs : List (List Y)) → length ys ≤ 1 → size (grown ys gs) ≤ size gs + 1
size_grown [] gs h = omega arith
size_grown (y ∷ ys) [] h = omega arith
size_grown (y ∷ ys) (g ∷ gs) h = omega (arith, size-last (y ∷ ys) g gs)

one_type : (ks : List ℕ) (r : At) → length (type_in ks r) ≤ 1
one_type ks r = elim (among r.1.0 ks) as (λ b. length (cond b (typed_at r.0 (body_of r) ∷ []) []) ≤ 1) [ true ↦ omega arith | false ↦ omega arith ]

one_line : (at : ℕ) (i : Option Instruction) → length (line_at at i) ≤ 1
one_line at (Some i) = omega arith
one_line at None = omega arith

module _ {X Y : Type 0} (f : X → List Y) (begun : Section → X) (longer : At → X → X) (say : At → List Y) (k n : ℕ) (r : At) (xs : List X) where
  size_more : ((x : X) → f (longer r x) ≡ f x ++ say r) → f (begun (r, [])) ≡ [] → length (say r) ≤ 1 → size (map f xs) + suc n ≤ 4096
      → size (map f (with_record k begun longer xs r)) + n ≤ 4096
  size_more e none one room = rw (lists_by k begun longer r xs (is_kind k r) f say e, none) (by (is_kind k r))
    where
      by : (b : Bool) → size (cond b (map f xs ++ [] ∷ []) (grown (say r) (map f xs))) + n ≤ 4096
      by true = omega (arith, size_push (map f xs))
      by false = omega (arith, size_grown (say r) (map f xs) one)

room_more : (n : ℕ) (m : Module) (r : At) → Room (suc n) m → Room n (added m r)
room_more n m r room = record {
  structs = let h = room.structs in omega (arith, length_by struct_of longer_struct r m.structs (is_kind 0x02 r));
  functions = let h = room.functions in omega (arith, length_by function_of longer_function r m.functions (is_kind 0x04 r));
  fields = size_more (λ s. s.fields) struct_of longer_struct field_in 0x02 n r m.structs (λ s. refl) refl (one_type (0x03 ∷ []) r) room.fields;
  params = size_more (λ f. f.params) function_of longer_function param_in 0x04 n r m.functions (λ f. refl) refl (one_type (0x05 ∷ []) r) room.params;
  results = size_more (λ f. f.results) function_of longer_function result_in 0x04 n r m.functions (λ f. refl) refl (one_type (0x06 ∷ []) r) room.results;
  locals = size_more (λ f. f.locals) function_of longer_function local_in 0x04 n r m.functions (λ f. refl) refl (one_type (0x05 ∷ 0x07 ∷ []) r) room.locals;
  code = size_more (λ f. f.code) function_of longer_function line_in 0x04 n r m.functions (λ f. refl) refl (one_line r.0 (instruction_of r.1)) room.code;
}

pub onward : {bs : List ℕ} {m m' : Module} {rs rs' : List At} {r : At} → Decoding bs m rs → rs ≡ r ∷ rs' → m' ≡ added m r → Decoding bs m' rs'
onward {bs} {m} {m'} {rs} {rs'} {r} d come next =
    let e = subst (Decoding bs m) come d in
    rw next (record { means = e.means; room = room_more (length rs') m r e.room })

-- there is room for the next record
pub room_for_one : {bs : List ℕ} {m : Module} {rs rs' : List At} {r : At} → Decoding bs m rs → rs ≡ r ∷ rs' → Room 1 m
room_for_one {rs = rs} d come =
    let l = ap length come in
    let h = d.room in
    record { structs = omega arith; functions = omega arith; fields = omega arith; params = omega arith; results = omega arith; locals = omega arith; code = omega arith }

pub bounded : {bs : List ℕ} {m : Module} {rs : List At} → Decoding bs m rs → rs ≡ [] → (n : ℕ) → read_module bs ≡ Ok n → Bounded (length bs) m
bounded {bs} {m} d none n read = rw (ap (fold added m) (sym none) ∙ d.means) (readable_bounded bs n read)
