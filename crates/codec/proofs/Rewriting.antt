-- What one turn of writing a module again keeps.
use Rattle.std.proofs.Common.{◌≡◌, ℕ, ◌+◌, ◌≤◌, true, List, [], ◌∷◌, ◌++◌, length, take, drop, Ok, Err, sym, refl, ap, ◌∙◌, subst, append_assoc, arith, length-append, length-drop, take-append-drop}
use Rattle.std.proofs.lemmas.List.{take_at, drop_at, drop-drop, take_all, length-take-le}
use Rattle.std.proofs.lemmas.Bool.{le-leb}
use Rattle.bytecode.specs.declared.refusals.Fault.{Fault}
use Rattle.bytecode.specs.Ranges.{in_range}
use Rattle.bytecode.specs.Records.{Shown, bytes_of, formed}
use Rattle.codec.specs.Readable.{written, IsModule}
use Rattle.codec.specs.Reading.{read_module}
use Rattle.codec.specs.RoundTrip.{rewriting}
use Rattle.codec.specs.Walking.{At, placed_from, records_in}
use Rattle.codec.specs.Writing.{writing, filled}
use Rattle.codec.proofs.Verdict.{module_cut}
use Rattle.grammar.specs.declared.order.Progress.{Progress}
use Rattle.grammar.proofs.Built.{module_taken}
use Rattle.grammar.proofs.Steps.{Accepts, over, next, step_from}

-- records that the writer takes, and whose bytes are these
abbrev ToWrite : List At → List ℕ → Type 0
ToWrite [] bs = bs ≡ []
ToWrite (x ∷ xs) bs = (formed x.1 ≡ Ok x.1) × (in_range x.1 ≡ true) × (rest : List ℕ) × (bs ≡ bytes_of x.1 ++ rest) × ToWrite xs rest

accepted : {p : Progress} {xs : List Shown} → Accepts p xs → (at : ℕ) → ToWrite (placed_from at xs) (written xs)
unfolding placed_from
accepted (over e) at = refl
accepted {p} (next {q = q} {x = x} {xs = xs} w a further) at = (w, (step_from p x q a).ranged, written xs, refl, accepted further (at + length (bytes_of x)))

-- the first bytes of the buffer are the module's, as many as are used, and the rest is to come
pub record Rewriting (bs old now : List ℕ) (used : ℕ) (left : List At) : Type 0 where
  pub inside : used ≤ length bs
  pub room : length bs ≤ length old
  pub to_write : ToWrite left (drop used bs)
  pub buffer : now ≡ take used bs ++ drop used old

pub begins : {bs : List ℕ} {n : ℕ} (old : List ℕ) (left : List At) → IsModule bs n → length bs ≤ length old → left ≡ records_in bs → Rewriting bs old old 0 left
begins {bs} old left m fits e = record {
  inside = omega arith;
  room = fits;
  to_write =
      let taken = accepted (module_taken m.records m.allowed) 0 in
      let cut = ap (λ c. placed_from 0 c.records) (module_cut m) in
      rw (e, cut) (rw m.bytes at taken);
  buffer = refl;
}

-- one record more of the module in the buffer
one_more : (bs old : List ℕ) (used : ℕ) (x : Shown) (rest : List ℕ) → used ≤ length bs → drop used bs ≡ bytes_of x ++ rest
    → filled (take used bs ++ drop used old) used x (Ok (used + length (bytes_of x))) ≡ take (used + length (bytes_of x)) bs ++ drop (used + length (bytes_of x)) old
one_more bs old used x rest inside front =
    let k = length (bytes_of x) in
    let lt = length-take-le used bs inside in
    let la = length-append (take used bs) (bytes_of x) in
    let whole : (take used bs ++ bytes_of x) ++ rest ≡ bs = append_assoc (take used bs) (bytes_of x) rest ∙ ap (λ l. take used bs ++ l) (sym front) ∙ take-append-drop used bs in
    let more : take (used + k) bs ≡ take used bs ++ bytes_of x = ap (take (used + k)) (sym whole) ∙ take_at (take used bs ++ bytes_of x) rest (used + k) (omega arith) in
    let before : take used (take used bs ++ drop used old) ≡ take used bs = take_at (take used bs) (drop used old) used lt in
    let behind : drop (used + k) (take used bs ++ drop used old) ≡ drop (used + k) old =
    sym (drop-drop k used _) ∙ ap (drop k) (drop_at (take used bs) (drop used old) used lt) ∙ drop-drop k used old in
    ap (λ l. l ++ (bytes_of x ++ drop (used + k) (take used bs ++ drop used old))) before
    ∙ ap (λ l. take used bs ++ (bytes_of x ++ l)) behind
    ∙ sym (append_assoc (take used bs) (bytes_of x) (drop (used + k) old))
    ∙ ap (λ l. l ++ drop (used + k) old) (sym more)

module _ {bs old now : List ℕ} {used : ℕ} {x : At} {xs : List At} (g : Rewriting bs old now used (x ∷ xs)) where
  -- the writer takes the next record
  fits : writing now used x.1 ≡ Ok (used + length (bytes_of x.1))
  fits =
      let w = g.to_write in
      let r = g.room in
      let i = g.inside in
      let left = ap length w.3 ∙ length-append (bytes_of x.1) w.2 in
      let all = length-drop used bs in
      let behind = length-drop used old in
      let front = length-take-le used bs g.inside in
      let long = ap length g.buffer ∙ length-append (take used bs) (drop used old) in
      let t = le-leb (used + length (bytes_of x.1)) (length now) (omega arith) in
      rw (w.0, w.1, t)

  pub no_refusal : (y : Shown) (f : Fault) → y ≡ x.1 → Err f ≡ writing now used y → ⊥
  no_refusal y f same e = let ok = ap (writing now used) same ∙ fits in let z : ◌≡◌ {A = ℕ} 0 1 = cc in omega arith

  -- one turn: the record was written, and the others are to come
  pub turn : (y : Shown) (u : ℕ) (after : List ℕ) → y ≡ x.1 → Ok u ≡ writing now used y → after ≡ filled now used y (Ok u) → Rewriting bs old after u xs
  turn y u after same e is =
      let w = g.to_write in
      let ok = ap (writing now used) same ∙ fits in
      let more : u ≡ used + length (bytes_of x.1) = cc in
      let long = ap length w.3 ∙ length-append (bytes_of x.1) w.2 in
      let all = length-drop used bs in
      let i = g.inside in
      let left : drop u bs ≡ w.2 = ap (λ k. drop k bs) more ∙ sym (drop-drop (length (bytes_of x.1)) used bs) ∙ ap (drop (length (bytes_of x.1))) w.3 ∙ drop_at (bytes_of x.1) w.2 (length (bytes_of x.1)) refl in
      record {
        inside = omega arith;
        room = g.room;
        to_write = subst (ToWrite xs) (sym left) w.4;
        buffer =
            is ∙ (λ i. filled (g.buffer i) used (same i) (Ok (more i))) ∙ one_more bs old used x.1 w.2 g.inside w.3
            ∙ ap (λ k. take k bs ++ drop k old) (sym more);
      }

-- the whole module stands in the buffer then
pub at_end : {bs old now : List ℕ} {used : ℕ} → Rewriting bs old now used [] → (used ≡ length bs) × (now ≡ bs ++ drop used old)
at_end {bs} {old} {now} {used} g =
    let i = g.inside in
    let whole : used ≡ length bs = omega (arith, length-drop used bs, ap length g.to_write) in
    (whole, g.buffer ∙ ap (λ l. l ++ drop used old) (take_all used bs (omega arith)))

pub whole_answer : (bs old : List ℕ) (n u : ℕ) → Ok n ≡ read_module bs → length bs ≤ length old → u ≡ length bs → Ok u ≡ rewriting bs old (read_module bs)
whole_answer bs old n u e fits same =
    let t = le-leb (length bs) (length old) fits in
    let ok : rewriting bs old (Ok n) ≡ Ok (length bs) = rw t in
    ap Ok same ∙ sym ok ∙ ap (rewriting bs old) e
