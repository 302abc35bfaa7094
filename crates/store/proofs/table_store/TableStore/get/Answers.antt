use Rattle.store.specs.Orders.{key_less}
use Rattle.store.proofs.table_store.TableStore.get.Goals as goal

pub returns : goal.returns
returns c = (rw (key_less, c.in_use.ensures) at c.get.ensures.sorted) c.args.self.now.sorted
