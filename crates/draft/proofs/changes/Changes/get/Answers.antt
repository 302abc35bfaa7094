use Rattle.store.specs.Orders.{key_less}
use Rattle.draft.proofs.changes.Changes.get.Goals as goal

pub returns : goal.returns
returns c = (rw (key_less, c.as_slice.ensures) at c.get.ensures.sorted) c.args.self.now.sorted
