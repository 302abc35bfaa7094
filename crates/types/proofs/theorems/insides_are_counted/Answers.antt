use Rattle.types.proofs.Inside.{inside_no_struct, self_once, inside_declared}
use Rattle.types.proofs.Structs.{inside-struct}
use Rattle.types.proofs.theorems.insides_are_counted.Goals as goal

pub returns : goal.returns
returns c = record { others = inside_no_struct; structs = inside-struct; once = self_once; declared = inside_declared }
