use Rattle.std.proofs.Common.{take, sym, ap, ◌∙◌, subst, ◌∷◌, rules}
use Rattle.std.proofs.lemmas.List.{take_at}
use Rattle.codec.specs.Walking.{shown_at, to_come}
use Rattle.codec.proofs.Rewriting.{Rewriting, begins, no_refusal, turn, at_end, whole_answer}
use Rattle.codec.proofs.modules.rewrite_module.Goals as goal
use Rattle.codec.proofs.modules.rewrite_module.Goals.{In-Some}

pub loop-placed-init : goal.loop-placed-init
loop-placed-init c = begins _ _ c.in_ok-read_module.ensures.means c.if-buffer-bytes.false (search rules)

-- the walk gives the next record to write
met : (c : In-Some) → Rewriting c.args.bytes.now c.args.buffer.now c.loop-placed.buffer c.loop-placed.used (shown_at c.in-Some.placed ∷ to_come c.next.new.self)
met c = subst (Rewriting _ _ _ _) c.in-Some.ensures.steps c.loop-placed.invariant

pub returns-in_err-used : goal.returns-in_err-used
returns-in_err-used c =
    absurd (no_refusal (met (goal.at.returns-in_err-used c).In-Some) _ _ (λ i. (c.kind.ensures i, c.body.ensures i)) c.in_err-used.ensures.answer)

pub loop-placed-preserved : goal.loop-placed-preserved
loop-placed-preserved c =
    turn (met (goal.at.loop-placed-preserved c).In-Some) _ _ _ (λ i. (c.kind.ensures i, c.body.ensures i)) c.in_ok-used.ensures.answer c.in_ok-used.ensures.after

pub returns : goal.returns
returns c =
    let end = at_end (subst (Rewriting _ _ _ _) c.in-None.ensures.steps.0 c.loop-placed.invariant) in
    record {
      answer = whole_answer _ _ _ _ c.in_ok-read_module.ensures.answer c.if-buffer-bytes.false end.0;
      after = end.1;
      back = ap (take _) end.1 ∙ take_at _ _ _ (sym end.0);
    }
