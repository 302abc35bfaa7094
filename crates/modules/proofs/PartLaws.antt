-- What the records of each part of a module say.
use Rattle.std.proofs.Common.{◌≡◌, eq-eqb, ℕ, Bool, true, false, eqb, List, [], ◌∷◌, length, is_some, Some, None, Ok, Option, sym, refl, ap, ◌∙◌, arith}
use Rattle.std.proofs.lemmas.Bool.{eqb-true}
use Rattle.std.proofs.lemmas.Bool.Decides.{nat_tests}
use Rattle.bytecode.specs.Kinds.{among, body_length}
use Rattle.bytecode.specs.Records.{Shown, formed}
use Rattle.codec.specs.Walking.{At}
use Rattle.grammar.specs.declared.order.Part.{Part}
use Rattle.grammar.specs.declared.order.Part.TheVariants.{Start, Module, Struct, Field, Function, Param, Result as Answer, Local, Code, End}
use Rattle.grammar.specs.Grammar.{Is}
use Rattle.grammar.specs.Order.{part_of, rank, same}
use Rattle.instructions.specs.declared.instruction.Instruction.{Instruction}
use Rattle.instructions.specs.Instructions.{instruction_of}
use Rattle.modules.specs.Modules.{type_in, line_at, line_in}

by_test : (b : Bool) (k n : ℕ) (part : Part) → part_of k ≡ part → same (part_of n) part ≡ false → eqb k n ≡ b → b ≡ false
by_test true k n part e other h =
    let same_kind : part_of n ≡ part = ap part_of (sym (eqb-true k n h)) ∙ e in
    let itself = eq-eqb (rank part) (rank part) refl in
    absurd cc
by_test false k n part e other h = refl

-- a record of a part is of no kind of another part
pub other_part : {part : Part} {x : Shown} (n : ℕ) → Is part x → same (part_of n) part ≡ false → eqb x.0 n ≡ false
other_part {part} {x} n i other = by_test (eqb x.0 n) x.0 n part i.kind other refl

by_kind : (b : Bool) (x : Shown) (i : Instruction) (k : ℕ) → instruction_of x ≡ Some i → instruction_of (k, x.1) ≡ None → eqb x.0 k ≡ b → b ≡ false
by_kind true x i k e none h =
    let same : x.0 ≡ k = eqb-true x.0 k h in
    absurd cc
by_kind false x i k e none h = refl

-- an instruction is of no kind that is none
pub other_kind : (x : Shown) (i : Instruction) (k : ℕ) → instruction_of x ≡ Some i → instruction_of (k, x.1) ≡ None → eqb x.0 k ≡ false
other_kind x i k e none = by_kind (eqb x.0 k) x i k e none refl

-- the parts that have one kind each
abbrev pub kind_of : Part → ℕ
kind_of Start = 255
kind_of Module = 0x01
kind_of Struct = 0x02
kind_of Field = 0x03
kind_of Function = 0x04
kind_of Param = 0x05
kind_of Answer = 0x06
kind_of Local = 0x07
kind_of Code = 255
kind_of End = 0x00

one_kind : (k : ℕ) (part : Part) → part_of k ≡ part → same part Code ≡ false → k ≡ kind_of part
one_kind k Start e c = grind (arith, nat_tests)
one_kind k Module e c = grind (arith, nat_tests)
one_kind k Struct e c = grind (arith, nat_tests)
one_kind k Field e c = grind (arith, nat_tests)
one_kind k Function e c = grind (arith, nat_tests)
one_kind k Param e c = grind (arith, nat_tests)
one_kind k Answer e c = grind (arith, nat_tests)
one_kind k Local e c = grind (arith, nat_tests)
one_kind k Code e c = grind (arith, nat_tests)
one_kind k End e c = grind (arith, nat_tests)

pub is_kind_lem : {part : Part} {x : Shown} → Is part x → same part Code ≡ false → x.0 ≡ kind_of part
is_kind_lem {part} {x} i c = one_kind x.0 part i.kind c

-- the type that a record names
pub names_one : {part : Part} (r : At) (ks : List ℕ) → Is part r.1 → same part Code ≡ false → among (kind_of part) ks ≡ true → length (type_in ks r) ≡ 1
names_one r ks i c a = let k = is_kind_lem i c in rw (k, a)

pub names-none : {part : Part} (r : At) (ks : List ℕ) → Is part r.1 → same part Code ≡ false → among (kind_of part) ks ≡ false → type_in ks r ≡ []
names-none r ks i c a = let k = is_kind_lem i c in rw (k, a)

-- no line of code
pub no_line : {part : Part} (r : At) → Is part r.1 → same part Code ≡ false → instruction_of (kind_of part, r.1.1) ≡ None → line_in r ≡ []
no_line r i c e = ap (λ k. line_at r.0 (instruction_of (k, r.1.1))) (is_kind_lem i c) ∙ ap (line_at r.0) e

line_there : (at : ℕ) (i : Option Instruction) → is_some i ≡ true → length (line_at at i) ≡ 1
line_there at (Some i) h = refl
line_there at None h = absurd cc

instruction_there : (x : Shown) → formed x ≡ Ok x → part_of x.0 ≡ Code → is_some (instruction_of x) ≡ true
unfolding body_length
instruction_there x f c = grind (arith, nat_tests)

pub one_line : (r : At) → Is Code r.1 → length (line_in r) ≡ 1
one_line r i = line_there r.0 (instruction_of r.1) (instruction_there r.1 i.whole i.kind)

-- a parameter is a local too
pub param_local : (r : At) → Is Param r.1 → type_in (0x05 ∷ 0x07 ∷ []) r ≡ type_in (0x05 ∷ []) r
param_local r i = let k = is_kind_lem i refl in rw k

-- an instruction names none of the types
pub code_names_none : (r : At) → Is Code r.1 → (type_in (0x03 ∷ []) r ≡ []) × (type_in (0x05 ∷ []) r ≡ []) × (type_in (0x06 ∷ []) r ≡ []) × (type_in (0x05 ∷ 0x07 ∷ []) r ≡ [])
code_names_none r i =
    let a = other_part 0x03 i refl in
    let b = other_part 0x05 i refl in
    let c = other_part 0x06 i refl in
    let d = other_part 0x07 i refl in
    (rw a, rw b, rw c, rw (b, d))
