use Rattle.std.proofs.Common.{refl}
use Rattle.modules.proofs.Columns.{no_module_lem}
use Rattle.modules.proofs.rows.Rows.new.Goals as goal

pub returns : goal.returns
returns c = no_module_lem _ _ _ _ _ _ _ _ refl c.in_ok-structs.ensures.items c.in_ok-functions.ensures.items
