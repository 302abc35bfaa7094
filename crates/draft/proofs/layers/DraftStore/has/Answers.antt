use Rattle.std.proofs.Common.{is_some, ap, ◌∙◌}
use Rattle.draft.proofs.LayerLaws.{has_changed, unchanged_entry}
use Rattle.draft.proofs.layers.DraftStore.has.Goals as goal

pub returns-in-Some : goal.returns-in-Some
returns-in-Some g c =
    let d = c.args.self.now in
    c.is_some.ensures ∙ has_changed (g.S.Store.means d.below) d.changes c.args.key _ (g.met.S.Store.sound d.below) c.in-Some.ensures

pub returns-in-None : goal.returns-in-None
returns-in-None g c =
    let d = c.args.self.now in
    c.has.ensures ∙ ap is_some (unchanged_entry (g.S.Store.means d.below) d.changes c.args.key (g.met.S.Store.sound d.below) c.in-None.ensures)
