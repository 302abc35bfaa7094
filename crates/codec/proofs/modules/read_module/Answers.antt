use Rattle.std.proofs.Common.{◌≡◌, MatchResult, sym, ◌∙◌, subst, arith, rules}
use Rattle.std.proofs.lemmas.Result.{err_from_is_err_and}
use Rattle.bytecode.specs.Refusals.{fault}
use Rattle.codec.specs.Readable.{too_long}
use Rattle.codec.proofs.Turns.{Going, stopped, refused, onward, nothing_behind, bytes_behind, within}
use Rattle.codec.proofs.Verdict.{answers}
use Rattle.codec.proofs.Walks.{met, record_inside}
use Rattle.codec.proofs.modules.read_module.Goals as goal

pub returns-then-bytes-gt-MAX_MODULE-clause-means : goal.returns-then-bytes-gt-MAX_MODULE-clause-means
returns-then-bytes-gt-MAX_MODULE-clause-means c = rw c.at.ensures (too_long c.if-bytes-gt-MAX_MODULE.true)

pub returns-in_err-placed : goal.returns-in_err-placed
returns-in_err-placed c =
    let p = err_from_is_err_and c.from_residual.result c.from_residual.ensures.1 in
    rw (p.1, p.2) (answers _ _
    (within _ _ c.if-bytes-gt-MAX_MODULE.false
    (stopped c.loop-progress.invariant.1 _ _ c.loop-progress.invariant.0 c.in_err-placed.ensures.answer (sym c.loop-progress-test.ensures))))

pub returns-in_err-progress : goal.returns-in_err-progress
returns-in_err-progress c =
    let m = met _ _ _ _ _ c.loop-progress.invariant.0 c.in_ok-placed.ensures.answer in
    let why : MatchResult c.with.result (λ _. ⊥) (λ why. c.in_err-progress.field-0.0 ≡ fault why c.in_ok-placed.placed.place) = search rules in
    let p = err_from_is_err_and c.from_residual-in_err-progress.result c.from_residual-in_err-progress.ensures.1 in
    rw (p.1, p.2) (answers _ _
    (within _ _ c.if-bytes-gt-MAX_MODULE.false (refused c.loop-progress.invariant.1 m (sym c.loop-progress-test.ensures) c.with.result c.in_err-progress.field-0.0 c.with.ensures why)))

pub loop-progress-smaller : goal.loop-progress-smaller
loop-progress-smaller c =
    let m = met c.args.bytes.now _ _ _ _ c.loop-progress.invariant.0 c.in_ok-placed.ensures.answer in
    let inside = record_inside m c.loop-progress.invariant.1.inside in
    omega (arith, inside, c.in_ok-placed.ensures.after)

pub loop-progress-preserved : goal.loop-progress-preserved
loop-progress-preserved c =
    let m = met _ _ _ _ _ c.loop-progress.invariant.0 c.in_ok-placed.ensures.answer in (
      c.in_ok-placed.ensures.same ∙ c.loop-progress.invariant.0,
      subst (Going _ _ _) (sym c.in_ok-placed.ensures.after)
          (onward c.loop-progress.invariant.1 m (sym c.loop-progress-test.ensures) _ (search rules)),
    )

pub returns-then-walk-bytes : goal.returns-then-walk-bytes
returns-then-walk-bytes c =
    rw c.at-then-walk-bytes.ensures (answers _ _
    (within _ _ c.if-bytes-gt-MAX_MODULE.false
    (bytes_behind c.loop-progress.invariant.1 (omega arith) (sym c.loop-progress-test.ensures))))

pub returns : goal.returns
returns c =
    answers _ _
    (within _ _ c.if-bytes-gt-MAX_MODULE.false
    (nothing_behind c.loop-progress.invariant.1 (omega arith) (sym c.loop-progress-test.ensures)))
