use Rattle.draft.specs.Soundness.{ordered-entries}
use Rattle.draft.proofs.LayerLaws.{layer_gone}
use Rattle.draft.proofs.layers.DraftStore.remove.Goals as goal

pub returns-clause-after : goal.returns-clause-after
returns-clause-after g c =
    let d = c.args.self.now in
    layer_gone (g.S.Store.means d.below) _ _ c.args.key (g.met.S.Store.sound d.below) (ordered-entries d.changes) c.in_ok-note.ensures.after
