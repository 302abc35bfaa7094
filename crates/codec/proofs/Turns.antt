-- What one turn of reading a module keeps.
use Rattle.std.proofs.Common.{◌≡◌, ℕ, ◌+◌, ◌<◌, ◌≤◌, true, false, List, [], ◌∷◌, length, drop, Ok, Err, Result, MatchResult, sym, refl, ap, ◌∙◌, arith, length-drop}
use Rattle.std.proofs.lemmas.List.{drop_all}
use Rattle.std.proofs.lemmas.Bool.{le-leb}
use Rattle.std.proofs.lemmas.Bool.Decides.{nat_tests}
use Rattle.bytecode.specs.declared.refusals.Fault.{Fault}
use Rattle.bytecode.specs.declared.refusals.Reason.{Reason}
use Rattle.bytecode.specs.declared.refusals.Reason.TheVariants.{BytesAfterEnd}
use Rattle.codec.specs.FirstRecord.{Read, read_one}
use Rattle.bytecode.specs.Records.{Shown, bytes_of}
use Rattle.bytecode.specs.Refusals.{fault}
use Rattle.codec.specs.Walking.{placed}
use Rattle.codec.proofs.Cutting.{cut_read, cut_unread}
use Rattle.codec.proofs.FirstRecord.{read_length}
use Rattle.codec.proofs.Walks.{Met, left, not_read}
use Rattle.grammar.specs.declared.order.Progress.{Progress}
use Rattle.grammar.specs.Order.{advance, is_end, start}
use Rattle.codec.specs.Reading.{Cut, cutting, cut, no_bytes, judging, judged, read_module}

-- the verdict on what is still to read, from a place on
abbrev pub from : Progress → ℕ → ℕ → Cut → Result ℕ Fault
from p n place c = judging p n place c.records c.stop

-- the records from this place on decide the whole
pub record Going (bs : List ℕ) (p : Progress) (n place : ℕ) : Type 0 where
  pub inside : place ≤ length bs
  pub few : n ≤ place
  pub decides : from p n place (cut (drop place bs)) ≡ judged (cut bs)

pub begins : (bs : List ℕ) → Going bs start 0 0
begins bs = record { inside = omega arith; few = omega arith; decides = refl }

pub stopped : {bs : List ℕ} {p : Progress} {n place : ℕ} → Going bs p n place → (m : List ℕ) (f : Fault) → m ≡ bs → Err f ≡ placed place (read_one (drop place m)) → is_end p.last ≡ false
    → judged (cut bs) ≡ Err f
unfolding judging
stopped {bs} {p} {n} {place} g m f same e going =
    let w = not_read place _ f e in
    let c = cut_unread (drop place bs) w.0 (ap (λ l. read_one (drop place l)) (sym same) ∙ w.1) in
    let answer : from p n place (record { records = []; stop = w.0 }) ≡ Err (fault w.0 place) = rw going in
    sym g.decides ∙ ap (from p n place) c ∙ answer ∙ ap Err (sym w.2)

module _ {bs : List ℕ} {p : Progress} {n place at : ℕ} {x : Shown} (g : Going bs p n place) (m : Met bs place at x) (going : is_end p.last ≡ false) where
  -- what is still to read begins with this record
  first : judged (cut bs) ≡ judging p n place (x ∷ (cut m.rest).records) (cut m.rest).stop
  first = sym g.decides ∙ ap (from p n place) (cut_read (drop place bs) (x, m.rest) m.read)

  pub refused : (r : Result Progress Reason) (f : Fault) → r ≡ advance p x → MatchResult r (λ _. ⊥) (λ why. f ≡ fault why at) → judged (cut bs) ≡ Err f
  unfolding judging
  refused (Ok q) f a never = absurd never
  refused (Err why) f a is = let b = sym a in first ∙ (rw (going, b, is, m.here))

  pub onward : (q : Progress) → advance p x ≡ Ok q → Going bs q (n + 1) (place + length (bytes_of x))
  unfolding judging
  onward q a =
      let long = read_length (drop place bs) (x, m.rest) m.read in
      let here = length-drop place bs in
      let i = g.inside in
      let f = g.few in
      let goes : judging p n place (x ∷ (cut m.rest).records) (cut m.rest).stop ≡ from q (n + 1) (place + length (bytes_of x)) (cut m.rest) = rw (going, a) in
      record {
        inside = omega arith;
        few = omega arith;
        decides = ap (λ l. from q (n + 1) (place + length (bytes_of x)) (cut l)) (left m) ∙ sym goes ∙ sym first;
      }

pub some_bytes : (bs : List ℕ) (why : Reason) → 0 < length bs → read_one bs ≡ Err why → no_bytes why ≡ false
some_bytes [] why h e = absurd (omega arith)
some_bytes (k ∷ rest) why h e = grind (arith, nat_tests)

behind : (p : Progress) (n place : ℕ) (bs : List ℕ) (r : Result Read Reason) → read_one bs ≡ r → 0 < length bs → is_end p.last ≡ true
    → from p n place (cut bs) ≡ Err (fault BytesAfterEnd place)
unfolding judging
behind p n place bs (Ok x) read h over = ap (from p n place) (cut_read bs x read) ∙ (rw over)
behind p n place bs (Err why) read h over = let b = some_bytes bs why h read in ap (from p n place) (cut_unread bs why read) ∙ (rw (over, b))

pub nothing_behind : {bs : List ℕ} {p : Progress} {n place : ℕ} → Going bs p n place → length bs ≤ place → is_end p.last ≡ true → judged (cut bs) ≡ Ok n
unfolding judging cutting
nothing_behind {bs} {p} {n} {place} g h over = sym g.decides ∙ ap (λ l. from p n place (cut l)) (drop_all place bs h) ∙ (rw over)

pub bytes_behind : {bs : List ℕ} {p : Progress} {n place : ℕ} → Going bs p n place → place < length bs → is_end p.last ≡ true
    → judged (cut bs) ≡ Err (fault BytesAfterEnd place)
bytes_behind {bs} {p} {n} {place} g h over =
    let here = length-drop place bs in
    sym g.decides ∙ behind p n place (drop place bs) (read_one (drop place bs)) refl (omega arith) over

pub within : (bs : List ℕ) (r : Result ℕ Fault) → length bs ≤ 4096 → judged (cut bs) ≡ r → r ≡ read_module bs
within bs r h e = let t = le-leb (length bs) 4096 h in rw t (sym e)
