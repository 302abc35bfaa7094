-- The reader's definition says of bytes what they are.
use Rattle.std.proofs.Common.{◌≡◌, ℕ, zero, suc, ◌+◌, ◌<◌, ◌≤◌, Bool, true, false, cond, leb, List, [], ◌∷◌, ◌++◌, length, Ok, Err, Result, sym, refl, ap, ◌∙◌, subst, append_assoc, append-nil, arith, length-append, MatchResult}
use Rattle.std.proofs.lemmas.List.{flat_map_more}
use Rattle.std.proofs.lemmas.Bool.{le-leb, leb-true, leb-false}
use Rattle.bytecode.specs.declared.refusals.Fault.{Fault}
use Rattle.bytecode.specs.declared.refusals.Reason.{Reason}
use Rattle.bytecode.specs.declared.refusals.Reason.TheVariants.{MissingEnd, BytesAfterEnd, TooLong}
use Rattle.codec.specs.FirstRecord.{Read, read_one}
use Rattle.bytecode.specs.Records.{Shown, bytes_of}
use Rattle.bytecode.specs.Refusals.{fault}
use Rattle.codec.proofs.FirstRecord.{read_length, read_front, read_formed, unread_number}
use Rattle.grammar.specs.declared.order.Progress.{Progress}
use Rattle.grammar.specs.Order.{is_end, advance, start}
use Rattle.grammar.proofs.Begun.{Takes, still, takes_one_more, taken_begins, refused_begins_none, taken_whole, taken_part}
use Rattle.grammar.proofs.Built.{module_taken}
use Rattle.grammar.proofs.Steps.{Accepts, over, next, step_open, step_number}
use Rattle.codec.specs.Readable.{written, IsModule, Reached, Refused, too_long, no_record, surplus, no_way_on}
use Rattle.codec.specs.Reading.{Cut, on_read, cutting, cut, no_bytes, judging, judged, read_module}
use Rattle.codec.specs.RoundTrip.{only}
use Rattle.codec.proofs.Cutting.{AllFormed, cut-written}
use Rattle.codec.proofs.Turns.{from, some_bytes}

abbrev pub Verdict : List ℕ → Result ℕ Fault → Type 0
Verdict bs r = MatchResult r (IsModule bs) (Refused bs)

-- bytes are cut so: each of the records is read, and behind the last there is none
data Cuts : List ℕ → Cut → Type 0 where
  none : {bs : List ℕ} {why : Reason} → read_one bs ≡ Err why → Cuts bs (record { records = []; stop = why })
  one_more : {bs : List ℕ} {x : Read} {c : Cut} → read_one bs ≡ Ok x → Cuts x.1 c → Cuts bs (on_read (Ok x) (λ _. c))

are_cut : (turns : ℕ) (bs : List ℕ) → length bs ≤ turns → Cuts bs (cutting turns bs)
unfolding cutting
are_cut zero [] h = none refl
are_cut zero (b ∷ bs) h = absurd (omega arith)
are_cut (suc turns) bs h = by (read_one bs) refl (are_cut turns)
  where
    by : (r : Result Read Reason) → read_one bs ≡ r → ((rest : List ℕ) → length rest ≤ turns → Cuts rest (cutting turns rest)) → Cuts bs (on_read r (cutting turns))
    by (Err why) read further = none read
    by (Ok x) read further = one_more read (further x.1 (omega (arith, read_length bs x read)))

-- where reading stands: what was taken, and what is still to read
record At (bs : List ℕ) (p : Progress) (n place : ℕ) (before : List Shown) (behind : List ℕ) : Type 0 where
  pub taken : Takes start before p
  pub bytes : written before ++ behind ≡ bs
  pub here : length (written before) ≡ place
  pub count : length before ≡ n
  pub short : length bs ≤ 4096

reached : {bs : List ℕ} {p : Progress} {n place : ℕ} {before : List Shown} {behind : List ℕ} → At bs p n place before behind → Reached bs place
reached {before = before} {behind = behind} a =
    record { before = before; behind = behind; bytes = a.bytes; here = a.here; begins = taken_begins a.taken }

module _ {bs : List ℕ} {p : Progress} {n place : ℕ} {before : List Shown} {behind : List ℕ} (a : At bs p n place before behind) where
  whole : is_end p.last ≡ true → behind ≡ [] → IsModule bs n
  whole e nothing = record {
    short = a.short;
    records = before;
    allowed = taken_whole a.taken e;
    bytes = sym (append-nil (written before)) ∙ ap (λ l. written before ++ l) (sym nothing) ∙ a.bytes;
    counted = a.count;
  }

  bytes_left : is_end p.last ≡ true → 0 < length behind → Refused bs (fault BytesAfterEnd place)
  unfolding reached
  bytes_left e some = surplus a.short (reached a) (taken_whole a.taken e) some

  unread : (why : Reason) → read_one behind ≡ Err why → is_end p.last ≡ false → Refused bs (fault why place)
  unfolding reached
  unread why r e = no_record a.short (reached a) (taken_part a.taken e) r (unread_number behind why r)

  untaken : (x : Read) (why : Reason) → read_one behind ≡ Ok x → advance p x.0 ≡ Err why → is_end p.last ≡ false → Refused bs (fault why place)
  unfolding reached
  untaken x why r e going =
      let n = step_number p x.0 why e in
      no_way_on a.short (reached a) (taken_part a.taken going) x.0 x.1 r (refused_begins_none x.0 why a.taken e) n.0 n.1

  -- the next record comes
  taking : (x : Read) (q : Progress) → read_one behind ≡ Ok x → advance p x.0 ≡ Ok q → At bs q (n + 1) (place + length (bytes_of x.0)) (before ++ x.0 ∷ []) x.1
  taking x q r e =
      let more : written before ++ bytes_of x.0 ≡ written (before ++ x.0 ∷ []) = flat_map_more bytes_of [] before x.0 in
      let h = a.here in
      let c = a.count in
      let lw = length-append (written before) (bytes_of x.0) in
      let lb = length-append before (x.0 ∷ []) in
      let lm = ap length more in
      record {
        taken = takes_one_more a.taken (read_formed behind x r) e;
        bytes =
            ap (λ l. l ++ x.1) (sym more) ∙ append_assoc (written before) (bytes_of x.0) x.1
            ∙ ap (λ l. written before ++ l) (read_front behind x r) ∙ a.bytes;
        here = omega arith;
        count = omega arith;
        short = a.short;
      }

-- what a reason that no record can be read says of the bytes
nothing_left : (behind : List ℕ) (why : Reason) → read_one behind ≡ Err why → no_bytes why ≡ true → behind ≡ []
nothing_left [] why r e = refl
nothing_left (k ∷ rest) why r e = absurd (let t = some_bytes (k ∷ rest) why (omega arith) r in let z : ◌≡◌ {A = ℕ} 0 1 = cc in omega arith)

something_left : (behind : List ℕ) (why : Reason) → read_one behind ≡ Err why → no_bytes why ≡ false → 0 < length behind
something_left [] why r e = absurd (let same : why ≡ MissingEnd = cc in let z : ◌≡◌ {A = ℕ} 0 1 = cc (ap no_bytes same) in omega arith)
something_left (k ∷ rest) why r e = omega arith

module _ {bs : List ℕ} {p : Progress} {n place : ℕ} {before : List Shown} {behind : List ℕ} (a : At bs p n place before behind) where
  stop_at_end : (b : Bool) (why : Reason) → no_bytes why ≡ b → is_end p.last ≡ true → read_one behind ≡ Err why → Verdict bs (cond b (Ok n) (Err (fault BytesAfterEnd place)))
  stop_at_end true why none_there e r = whole a e (nothing_left behind why r none_there)
  stop_at_end false why some e r = bytes_left a e (something_left behind why r some)

  stops : (b : Bool) → is_end p.last ≡ b → (why : Reason) → read_one behind ≡ Err why → Verdict bs (judging p n place [] why)
  unfolding judging
  stops true e why r = rw e (stop_at_end (no_bytes why) why refl e r)
  stops false e why r = rw e (unread a why r e)

-- the verdict on what is still to read, by how it is cut
verdict : {bs behind : List ℕ} {c : Cut} → Cuts behind c → {p : Progress} {n place : ℕ} {before : List Shown} → At bs p n place before behind → Verdict bs (from p n place c)
unfolding judging
verdict (none {why = why} read) a = stops a _ refl why read
verdict {bs} {behind} (one_more {x = x} {c = c} read more) {p} {n} {place} {before} a = met_one _ refl _ refl (λ q took. verdict more (taking a x q read took))
  where
    met_one : (b : Bool) → is_end p.last ≡ b → (r : Result Progress Reason) → advance p x.0 ≡ r
        → ((q : Progress) → advance p x.0 ≡ Ok q → Verdict bs (from q (n + 1) (place + length (bytes_of x.0)) c)) → Verdict bs (judging p n place (x.0 ∷ c.records) c.stop)
    met_one true e r took further = rw e (bytes_left a e (omega (arith, read_length behind x read)))
    met_one false e (Err why) took further = rw (e, took) (untaken a x why read took e)
    met_one false e (Ok q) took further = rw (e, took) (further q took)

begun : (bs : List ℕ) → length bs ≤ 4096 → At bs start 0 0 [] bs
begun bs h = record { taken = still; bytes = refl; here = refl; count = refl; short = h }

read_verdict : (b : Bool) (bs : List ℕ) → leb (length bs) 4096 ≡ b → Verdict bs (cond b (judged (cut bs)) (Err (fault TooLong 4096)))
read_verdict true bs e = verdict (are_cut (length bs) bs (omega arith)) (begun bs (leb-true (length bs) 4096 e))
read_verdict false bs e = too_long (leb-false (length bs) 4096 e)

-- every answer of the reader is as it says
pub reader_right : (bs : List ℕ) → Verdict bs (read_module bs)
reader_right bs = read_verdict (leb (length bs) 4096) bs refl

-- a row that is taken to its end is judged so
judged_taken : {p : Progress} {xs : List Shown} → Accepts p xs → (n place : ℕ) → judging p n place xs MissingEnd ≡ Ok (n + length xs)
unfolding judging
judged_taken (over e) n place = rw e (ap Ok (omega arith))
judged_taken {p} (next {q = q} {x = x} {xs = xs} w a further_taken) n place =
    let going = step_open p x q a in
    rw (going, a) (judged_taken further_taken (n + 1) (place + length (bytes_of x)) ∙ ap Ok (omega arith))

taken_formed : {p : Progress} {xs : List Shown} → Accepts p xs → AllFormed xs
taken_formed (over e) = tt
taken_formed (next w a further_taken) = (w, taken_formed further_taken)

-- the bytes of a module are cut into its records
pub module_cut : {bs : List ℕ} {n : ℕ} (m : IsModule bs n) → cut bs ≡ only m.records
module_cut {bs} {n} m = ap cut (sym m.bytes) ∙ cut-written m.records (taken_formed (module_taken m.records m.allowed))

-- the reader takes every module
pub reader_complete : (bs : List ℕ) (n : ℕ) → IsModule bs n → read_module bs ≡ Ok n
reader_complete bs n m =
    let taken = module_taken m.records m.allowed in
    let t = le-leb (length bs) 4096 m.short in
    rw t (ap judged (module_cut m) ∙ judged_taken taken 0 0 ∙ ap Ok (omega (arith, m.counted)))

-- what a reader answers, where it answers as its definition does
abbrev Answer : List ℕ → Result ℕ Fault → Type 0
Answer bs r = record { answer : r ≡ read_module bs; means : Verdict bs r; complete : (n : ℕ) → IsModule bs n → r ≡ Ok n }

pub answers : (bs : List ℕ) (r : Result ℕ Fault) → r ≡ read_module bs → Answer bs r
answers bs r e = record { answer = e; means = subst (Verdict bs) (sym e) (reader_right bs); complete = λ n m. e ∙ reader_complete bs n m }
