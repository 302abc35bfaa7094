use Rattle.std.proofs.Common.{refl}
use Rattle.modules.proofs.Columns.{no_module_lem}
use Rattle.modules.proofs.rows.Rows.clear.Goals as goal

pub returns : goal.returns
returns c = no_module_lem _ _ _ _ _ _ _ _ refl c.clear.ensures.items c.clear-3.ensures.items
