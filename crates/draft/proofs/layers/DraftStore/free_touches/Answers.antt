use Rattle.std.proofs.Common.{Some, ap}
use Rattle.draft.proofs.LayerLaws.{free_entries}
use Rattle.draft.proofs.layers.DraftStore.free_touches.Goals as goal

pub returns : goal.returns
returns g c = ap Some (free_entries c.args.self.now.changes)
