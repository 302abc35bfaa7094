use Rattle.types.proofs.Declared.{primitives_have, struct_has, unknown_has, module_0}
use Rattle.types.proofs.theorems.types_have_their_abilities.Goals as goal

pub returns : goal.returns
returns c = record { primitives = primitives_have; structs = struct_has; unknown = unknown_has; others = module_0 }
