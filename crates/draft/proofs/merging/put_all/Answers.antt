use Rattle.std.proofs.Common.{map, drop, sym, ap, ◌∙◌, ◌+◌}
use Rattle.draft.specs.Changes.{changed}
use Rattle.draft.specs.Merging.{each, put_one}
use Rattle.draft.proofs.Merges.{each_next, given_step, skipped_step}
use Rattle.draft.proofs.merging.put_all.Goals as goal
use Rattle.draft.proofs.merging.put_all.Goals.{in-Some, in_default}

pub loop-change-preserved : goal.loop-change-preserved
loop-change-preserved g c =
    let means = g.S.Store.means in
    let cs = c.args.changes.now in
    let i = c.loop-change.change-index in
    let x = c.change-item.result in
    let old = c.loop-change.below in
    let inv = c.loop-change.invariant in
    let next = each_next cs i x c.loop-change-test.true c.change-item.is put_one (means old) in
    elim c.match-change.branch [
      | in-Some w ↦
          let step = given_step x _ (means old) _ _ _ w.in-Some.is w.as_slice.ensures.words w.put.ensures.answer w.put.ensures.after in
          record { below = ap (λ z. each put_one (map changed (drop (i + 1) cs)) z) (ap means w.below-is ∙ step) ∙ sym next ∙ inv.below; under = ap g.S.Store.under w.below-is ∙ w.put.ensures.under ∙ inv.under }
      | in_default w ↦
          let step = skipped_step x (means old) w.in_default.not-Some in
          record { below = ap (λ z. each put_one (map changed (drop (i + 1) cs)) z) (ap means w.below-is ∙ step) ∙ sym next ∙ inv.below; under = ap g.S.Store.under w.below-is ∙ inv.under }
    ]
