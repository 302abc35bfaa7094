-- What a call of `next_record` finds, and what it takes from the records that a walk has yet to give.
use Rattle.std.proofs.Common.{◌≡◌, ℕ, ◌+◌, ◌≤◌, List, [], ◌∷◌, length, drop, Ok, Err, Result, sym, refl, ap, ◌∙◌, arith, length-drop}
use Rattle.std.specs.Bool.{⊤}
use Rattle.std.specs.Iterator.{YieldsFirstBy, MakesProgress, item_count}
use Rattle.std.specs.Result.{result_ok}
use Rattle.std.proofs.lemmas.List.{drop_at, drop-drop}
use Rattle.bytecode.specs.declared.refusals.Fault.{Fault}
use Rattle.bytecode.specs.declared.refusals.Reason.{Reason}
use Rattle.bytecode.specs.Records.{Shown, shown, bytes_of}
use Rattle.bytecode.specs.Refusals.{fault}
use Rattle.codec.specs.declared.walk.Placed.{Placed}
use Rattle.codec.specs.declared.walk.Walk.{Walk}
use Rattle.codec.specs.FirstRecord.{Read, read_one}
use Rattle.codec.specs.Reading.{cut}
use Rattle.codec.specs.Walking.{At, placed, shown_placed, place_after, shown_at, placed_from, to_come}
use Rattle.codec.proofs.Cutting.{cut_read, cut_unread}
use Rattle.codec.proofs.FirstRecord.{read_length, read_front}

-- what a walk over these bytes met at a place
pub record Met (bs : List ℕ) (place at : ℕ) (x : Shown) : Type 0 where
  pub rest : List ℕ
  pub read : read_one (drop place bs) ≡ Ok (x, rest)
  pub here : at ≡ place

was_read : (place : ℕ) (r : Result Read Reason) (at : ℕ) (x : Shown) → Ok (at, x) ≡ placed place r → (rest : List ℕ) × (r ≡ Ok (x, rest)) × (at ≡ place)
was_read place (Ok y) at x e =
    let same : ◌≡◌ {A = At} (at, x) (place, y.0) = cc in
    (y.1, ap (λ z. Ok (z.1, y.1)) (sym same), ap (λ z. z.0) same)
was_read place (Err why) at x e = absurd (let z : ◌≡◌ {A = ℕ} 0 1 = cc in omega arith)

pub met : (bs m : List ℕ) (place at : ℕ) (x : Shown) → m ≡ bs → Ok (at, x) ≡ placed place (read_one (drop place m)) → Met bs place at x
met bs m place at x same e =
    let w = was_read place _ at x e in
    record { rest = w.0; read = ap (λ l. read_one (drop place l)) (sym same) ∙ w.1; here = w.2 }

pub not_read : (place : ℕ) (r : Result Read Reason) (f : Fault) → Err f ≡ placed place r → (why : Reason) × (r ≡ Err why) × (f ≡ fault why place)
not_read place (Ok y) f e = absurd (let z : ◌≡◌ {A = ℕ} 0 1 = cc in omega arith)
not_read place (Err why) f e = (why, refl, cc)

-- the bytes behind a record
pub left : {bs : List ℕ} {place at : ℕ} {x : Shown} (m : Met bs place at x) → drop (place + length (bytes_of x)) bs ≡ m.rest
left {bs} {place} {at} {x} m =
    sym (drop-drop (length (bytes_of x)) place bs)
    ∙ ap (drop (length (bytes_of x))) (sym (read_front (drop place bs) (x, m.rest) m.read))
    ∙ drop_at (bytes_of x) m.rest (length (bytes_of x)) refl

-- a record lies inside the bytes
pub record_inside : {bs : List ℕ} {place at : ℕ} {x : Shown} → Met bs place at x → place ≤ length bs → place + length (bytes_of x) ≤ length bs
record_inside {bs} {place} {at} {x} m h =
    omega (arith, read_length (drop place bs) (x, m.rest) m.read, length-drop place bs)

-- one call takes the first of the records to come
pub takes_first : (w v : Walk) (r : Result Placed Fault) → shown_placed r ≡ placed w.place (read_one (drop w.place w.«module».now))
    → v.place ≡ place_after w.place (shown_placed r) → v.«module».now ≡ w.«module».now → YieldsFirstBy shown_at to_come w (result_ok r) v
unfolding placed_from
takes_first w v (Ok p) answer after same =
    let m = met w.«module».now w.«module».now w.place p.place (shown p.«record») refl answer in
    ap (λ c. placed_from w.place c.records) (cut_read (drop w.place w.«module».now) (shown p.«record», m.rest) m.read)
    ∙ ap (λ l. (w.place, shown p.«record») ∷ placed_from (w.place + length (bytes_of (shown p.«record»))) (cut l).records) (sym (left m))
    ∙ (λ i. (sym m.here i, shown p.«record») ∷ placed_from (sym after i) (cut (drop (sym after i) (sym same i))).records)
takes_first w v (Err f) answer after same =
    let u = not_read w.place _ f answer in
    let none : to_come w ≡ [] = ap (λ c. placed_from w.place c.records) (cut_unread (drop w.place w.«module».now) u.0 u.1) in
    (none, (λ i. placed_from (after i) (cut (drop (after i) (same i))).records) ∙ none)

-- fewer records are to come then
pub goes_on : (w v : Walk) (r : Result Placed Fault) → shown_placed r ≡ placed w.place (read_one (drop w.place w.«module».now))
    → v.place ≡ place_after w.place (shown_placed r) → v.«module».now ≡ w.«module».now → MakesProgress {S = Walk} {A = Placed} (λ _. ⊤) (item_count to_come) w (result_ok r) v
goes_on w v (Ok p) answer after same =
    let fewer = ap length (takes_first w v (Ok p) answer after same) in
    record { on = λ _. (tt, tt, omega arith); keeps = tt; rests = λ _. tt }
goes_on w v (Err f) answer after same = record { on = λ _. tt; keeps = tt; rests = λ _. tt }
