use Rattle.std.proofs.Common.{sym, ap, ◌∙◌, map, take}
use Rattle.store.specs.Model.{Model}
use Rattle.draft.specs.Changes.{changed}
use Rattle.draft.specs.Layer.{entries}
use Rattle.draft.specs.Merging.{putting, removing}
use Rattle.draft.specs.Soundness.{ordered-entries, few-changed}
use Rattle.draft.proofs.Merges.{merge_done, merged_pairs}
use Rattle.draft.proofs.drafts.Draft.merge.Goals as goal

pub returns-clause-below : goal.returns-clause-below
returns-clause-below g c room =
    let d = c.args.self.now in
    let means = g.S.Store.means in
    let m = means d.below in
    let ts = entries d.changes in
    ap means c.forget.ensures.below ∙ c.put_all.ensures.below
    ∙ ap (λ z. putting (map changed z) (means c.remove_all.new.below)) c.as_slice-2.ensures
    ∙ ap (putting ts) (c.remove_all.ensures.below ∙ ap (λ z. removing (map changed z) m) c.as_slice.ensures)
    ∙ merge_done ts m (ordered-entries d.changes) (g.met.S.Store.sound d.below).rises (few-changed (take d.changes.used d.changes.rows)) (sym (c.if-not-fits_below.ensures room))

pub returns-clause-map : goal.returns-clause-map
returns-clause-map g c room =
    let d = c.args.self.now in
    ap (λ (z : Model). z.pairs) (returns-clause-below g c room)
    ∙ merged_pairs (entries d.changes) (g.S.Store.means d.below) (ordered-entries d.changes) (g.met.S.Store.sound d.below).rises
