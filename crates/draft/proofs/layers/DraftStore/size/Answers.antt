use Rattle.std.proofs.Common.{arith}
use Rattle.draft.proofs.LayerLaws.{size_of_layer}
use Rattle.draft.proofs.layers.DraftStore.size.Goals as goal

pub returns : goal.returns
returns g c room =
    let d = c.args.self.now in
    let n = c.size.ensures (omega arith) in
    omega (arith, n, size_of_layer (g.S.Store.means d.below) d.changes (g.met.S.Store.sound d.below) room _ _ c.added-more.ensures c.taken-fewer.ensures)
