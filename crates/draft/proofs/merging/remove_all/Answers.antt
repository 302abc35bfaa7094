use Rattle.std.proofs.Common.{not, map, drop, sym, ap, ◌∙◌, ◌+◌}
use Rattle.draft.specs.Changes.{changed}
use Rattle.draft.specs.Merging.{each, remove_one}
use Rattle.draft.proofs.Merges.{each_next, removed_step, passed_step}
use Rattle.draft.proofs.merging.remove_all.Goals as goal
use Rattle.draft.proofs.merging.remove_all.Goals.{then-is_none, else-is_none}

pub loop-change-preserved : goal.loop-change-preserved
loop-change-preserved g c =
    let means = g.S.Store.means in
    let cs = c.args.changes.now in
    let i = c.loop-change.change-index in
    let x = c.change-item.result in
    let old = c.loop-change.below in
    let inv = c.loop-change.invariant in
    let next = each_next cs i x c.loop-change-test.true c.change-item.is remove_one (means old) in
    elim c.if-is_none.branch [
      | then-is_none w ↦
          let step = removed_step x (means old) _ _ (c.is_none.ensures ∙ ap not w.if-is_none.true) w.remove.ensures.answer w.remove.ensures.after in
          record { below = ap (λ z. each remove_one (map changed (drop (i + 1) cs)) z) (ap means w.below-is ∙ step) ∙ sym next ∙ inv.below; under = ap g.S.Store.under w.below-is ∙ w.remove.ensures.under ∙ inv.under }
      | else-is_none w ↦
          let step = passed_step x (means old) (c.is_none.ensures ∙ ap not w.if-is_none.false) in
          record { below = ap (λ z. each remove_one (map changed (drop (i + 1) cs)) z) (ap means w.below-is ∙ step) ∙ sym next ∙ inv.below; under = ap g.S.Store.under w.below-is ∙ inv.under }
    ]
