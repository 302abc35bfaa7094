use Rattle.std.proofs.Common.{◌≡◌, ℕ, ◌≤◌, Bool, true, eqb, List, ◌++◌, length, take, is_ok, Ok, Err, Result, sym, refl, ◌∙◌, arith}
use Rattle.std.specs.Result.{result_eq}
use Rattle.std.proofs.lemmas.Grind.{common_steps}
use Rattle.std.proofs.lemmas.Slice.Eq.{slice_eq-Decides}
use Rattle.std.proofs.lemmas.Bool.Decides.{Decides-eqb}
use Rattle.bytecode.specs.declared.refusals.Fault.{Fault}
use Rattle.codec.specs.Reading.{read_module}
use Rattle.codec.specs.RoundTrip.{rewriting, rewritten}
use Rattle.script.proofs.answers.same_again.Goals as goal
use Rattle.script.proofs.answers.same_again.Goals.{then-eq, else-eq}

module _ (bs buffer : List ℕ) (fits : length bs ≤ length buffer) where
  -- a module is written again whole, into a buffer with room for it, and nothing else is
  whole : (F : Fault → Fault → Bool) (written read : Result ℕ Fault) → written ≡ rewriting bs buffer read → result_eq eqb F written (Ok (length bs)) ≡ is_ok read
  whole F written (Ok n) is = rw is (grind (arith, common_steps))
  whole F written (Err f) is = rw is refl

  -- and a buffer as long as it holds it then
  held : (written read : Result ℕ Fault) (new more slice : List ℕ) (len : ℕ) → written ≡ rewriting bs buffer read → true ≡ is_ok read → new ≡ rewritten bs buffer written
      → slice ≡ take len (new ++ more) → len ≡ length bs → slice ≡ bs
  held written (Ok n) new more slice len is ok after reads all = grind (arith, common_steps)
  held written (Err f) new more slice len is ok after reads all = cc

pub returns : goal.returns
returns c =
    let bs = c.args.bytes.now in
    let buffer = c.deref_mut.result.now in
    let fits : length bs ≤ length buffer = omega (arith, c.in_ok-buffer.ensures.len) in
    let done = c.rewrite_module.ensures in
    let told = c.eq.ensures ∙ whole bs buffer fits _ c.rewrite_module.result (read_module bs) done.answer in
    elim c.if-eq.branch [
      | then-eq w ↦
          let ok = sym w.if-eq.true ∙ told in
          let same = held bs buffer fits c.rewrite_module.result (read_module bs) c.rewrite_module.new.buffer _ w.as_slice.result.now _ done.answer ok done.after w.as_slice.ensures.value c.in_ok-buffer.ensures.len in
          w.result-is ∙ (slice_eq-Decides Decides-eqb _ _ _ w.eq-then-eq.ensures).1 same ∙ ok
      | else-eq w ↦ w.result-is ∙ told
    ]
