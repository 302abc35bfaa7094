-- A module's number has two bytes.
use Rattle.std.proofs.Common.{ℕ, zero, suc, ◌+◌, ◌<◌, Bool, true, false, cond, leb, List, [], ◌∷◌, length, get_or, Ok, Err, Result, arith}
use Rattle.std.proofs.ByRecursion.{All-take, All-drop}
use Rattle.std.specs.List.{AllByRecursion}
use Rattle.operands.specs.Operands.{low_first}
use Rattle.bytecode.specs.declared.refusals.Reason.{Reason}
use Rattle.bytecode.specs.Kinds.{body_length, known}
use Rattle.bytecode.specs.Records.{Shown, bytes_of}
use Rattle.codec.specs.FirstRecord.{Read, read_one}
use Rattle.codec.specs.Reading.{cutting, on_read}
use Rattle.codec.specs.Walking.{At, placed_from}
use Rattle.modules.specs.Bounds.{ModuleNumbersFit}
use Rattle.modules.specs.Modules.{is_kind, body_of, number_from}

abbrev Bytes : List ℕ → Type 0
Bytes bs = AllByRecursion (λ b. b < 256) bs

first_byte : (bs : List ℕ) → Bytes bs → get_or bs 0 0 < 256
first_byte [] h = omega arith
first_byte (b ∷ bs) h = h.0

second_byte : (bs : List ℕ) → Bytes bs → get_or bs 1 0 < 256
second_byte [] h = omega arith
second_byte (b ∷ bs) h = first_byte bs h.1

two_bytes : (bs : List ℕ) → Bytes bs → low_first 2 bs < 65536
two_bytes bs h =
    let a = first_byte bs h in
    let b = second_byte bs h in
    omega arith

-- what can be read of bytes: a body and further bytes
abbrev ReadBytes : Result Read Reason → Type 0
ReadBytes (Ok x) = Bytes x.0.1 × Bytes x.1
ReadBytes (Err why) = Unit {0}

chosen : (a b : Bool) (k : ℕ) (body further : List ℕ) (v w : Reason) → Bytes body → Bytes further
    → ReadBytes (cond a (cond b (Ok ((k, body), further)) (Err v)) (Err w))
chosen true true k body further v w h g = (h, g)
chosen true false k body further v w h g = tt
chosen false b k body further v w h g = tt

read_bytes : (bs : List ℕ) → Bytes bs → ReadBytes (read_one bs)
read_bytes [] h = tt
read_bytes (k ∷ rest) h =
    chosen (known k) (leb (body_length k) (length rest)) k _ _ _ _ (All-take (λ b. b < 256) (body_length k) rest h.1) (All-drop (λ b. b < 256) (body_length k) rest h.1)

numbers_in : (rs : List At) (n : ℕ) → n < 65536 → AllByRecursion (λ r. Bytes (body_of r)) rs → number_from n rs < 65536
unfolding number_from
numbers_in [] n h b = h
numbers_in (r ∷ rs) n h b =
    let P : Bool → Type 0 = λ t. number_from (cond t (low_first 2 (body_of r)) n) rs < 65536 in
    elim (is_kind 0x01 r) as P [ true ↦ numbers_in rs _ (two_bytes (body_of r) b.0) b.1 | false ↦ numbers_in rs n h b.1 ]

placed_bytes : (xs : List Shown) (at : ℕ) → AllByRecursion (λ x. Bytes x.1) xs → AllByRecursion (λ r. Bytes (body_of r)) (placed_from at xs)
unfolding placed_from
placed_bytes [] at h = tt
placed_bytes (x ∷ xs) at h = (h.0, placed_bytes xs (at + length (bytes_of x)) h.1)

cut_bytes : (turns : ℕ) (bs : List ℕ) → Bytes bs → AllByRecursion (λ x. Bytes x.1) (cutting turns bs).records
unfolding cutting
cut_bytes zero bs h = tt
cut_bytes (suc turns) bs h = on (read_one bs) (read_bytes bs h) (cut_bytes turns)
  where
    on : (r : Result Read Reason) → ReadBytes r → ((rest : List ℕ) → Bytes rest → AllByRecursion (λ x. Bytes x.1) (cutting turns rest).records) → AllByRecursion (λ x. Bytes x.1) (on_read r (cutting turns)).records
    on (Ok x) h ih = (h.0, ih x.1 h.1)
    on (Err why) h ih = tt

pub numbers_fit : ModuleNumbersFit
numbers_fit bs h = numbers_in _ 0 (omega arith) (placed_bytes _ 0 (cut_bytes (length bs) bs h))
