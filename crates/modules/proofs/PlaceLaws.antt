-- Places inside the bytes.
use Rattle.std.proofs.Common.{ℕ, ◌+◌, ◌<◌, ◌≤◌, Bool, true, false, cond, List, [], ◌∷◌, map, length, Some, None, Option, arith, length-append}
use Rattle.std.proofs.ByRecursion.{All-append, All-map, All-weaker}
use Rattle.std.specs.List.{flat_map, AllByRecursion}
use Rattle.bytecode.specs.Kinds.{among}
use Rattle.bytecode.specs.Records.{Shown, bytes_of}
use Rattle.codec.specs.Readable.{written}
use Rattle.codec.specs.Walking.{At, placed_from}
use Rattle.instructions.specs.declared.instruction.Instruction.{Instruction}
use Rattle.instructions.specs.Instructions.{instruction_of}
use Rattle.modules.specs.Bounds.{TypesInside, StructInside, FunctionInside}
use Rattle.modules.specs.Modules.{Section, is_kind, up_to, sections, within, body_of, typed_at, type_in, line_at, line_in, struct_of, function_of}

-- each record is at least a byte long, so all places are below the end
pub places_inside : (xs : List Shown) (at n : ℕ) → at + length (written xs) ≤ n → AllByRecursion (λ r. r.0 < n) (placed_from at xs)
unfolding placed_from
places_inside [] at n h = tt
places_inside (x ∷ xs) at n h =
    let l = length-append x.1 (written xs) in
    (omega arith, places_inside xs (at + length (bytes_of x)) n (omega arith))

module _ (P : At → Type 0) (k : ℕ) where
  up_to_all : (rs : List At) → AllByRecursion P rs → AllByRecursion P (up_to k rs)
  unfolding up_to
  up_to_all [] h = tt
  up_to_all (r ∷ rs) h =
      let Q : Bool → Type 0 = λ b. AllByRecursion P (cond b [] (r ∷ up_to k rs)) in
      elim (is_kind k r) as Q [ true ↦ tt | false ↦ (h.0, up_to_all rs h.1) ]

  sections_all : (rs : List At) → AllByRecursion P rs → AllByRecursion (λ s. P s.0 × AllByRecursion P s.1) (sections k rs)
  unfolding sections
  sections_all [] h = tt
  sections_all (r ∷ rs) h =
      let Q : Bool → Type 0 = λ b. AllByRecursion (λ s. P s.0 × AllByRecursion P s.1) (cond b ((r, up_to k rs) ∷ sections k rs) (sections k rs)) in
      elim (is_kind k r) as Q [ true ↦ ((h.0, up_to_all rs h.1), sections_all rs h.1) | false ↦ sections_all rs h.1 ]

joined_all : {X : Type 0} (P : At → Type 0) (Q : X → Type 0) (say : At → List X) → ((r : At) → P r → AllByRecursion Q (say r)) → (rs : List At) → AllByRecursion P rs → AllByRecursion Q (flat_map say rs)
joined_all P Q say f [] h = tt
joined_all P Q say f (r ∷ rs) h = All-append Q (say r) (flat_map say rs) (f r h.0) (joined_all P Q say f rs h.1)

module _ (n : ℕ) where
  type_inside : (ks : List ℕ) (r : At) → r.0 < n → TypesInside n (type_in ks r)
  type_inside ks r h =
      let Q : Bool → Type 0 = λ b. TypesInside n (cond b (typed_at r.0 (body_of r) ∷ []) []) in
      elim (among r.1.0 ks) as Q [ true ↦ (h, tt) | false ↦ tt ]

  line_inside_by : (at : ℕ) (i : Option Instruction) → at < n → AllByRecursion (λ l. l.place < n) (line_at at i)
  line_inside_by at (Some i) h = (h, tt)
  line_inside_by at None h = tt

  types_inside : (ks : List ℕ) (s : Section) → AllByRecursion (λ r. r.0 < n) s.1 → TypesInside n (within (type_in ks) s)
  types_inside ks s h = joined_all (λ r. r.0 < n) (λ t. t.place < n) (type_in ks) (type_inside ks) s.1 h

  pub structs_inside : (rs : List At) → AllByRecursion (λ r. r.0 < n) rs → AllByRecursion (StructInside n) (map struct_of (sections 0x02 rs))
  structs_inside rs h =
      All-map (StructInside n) struct_of (sections 0x02 rs)
      (All-weaker _ _ (λ s i. record { place = i.0; fields = types_inside (0x03 ∷ []) s i.1 }) (sections 0x02 rs) (sections_all (λ r. r.0 < n) 0x02 rs h))

  pub functions_inside : (rs : List At) → AllByRecursion (λ r. r.0 < n) rs → AllByRecursion (FunctionInside n) (map function_of (sections 0x04 rs))
  functions_inside rs h =
      All-map (FunctionInside n) function_of (sections 0x04 rs)
      (All-weaker _ _ (λ s i. record {
        place = i.0;
        params = types_inside (0x05 ∷ []) s i.1;
        results = types_inside (0x06 ∷ []) s i.1;
        locals = types_inside (0x05 ∷ 0x07 ∷ []) s i.1;
        code = joined_all (λ r. r.0 < n) (λ l. l.place < n) line_in (λ r j. line_inside_by r.0 (instruction_of r.1) j) s.1 i.1;
      }) (sections 0x04 rs) (sections_all (λ r. r.0 < n) 0x04 rs h))
