use Rattle.types.proofs.Made.{total-sum, joined-row}
use Rattle.types.proofs.Structs.{layout-struct, width-struct}
use Rattle.types.proofs.Widths.{one_word, words_primitive, widths}
use Rattle.types.proofs.theorems.structs_are_their_fields.Goals as goal

pub returns : goal.returns
returns c = record { primitives = one_word; structs = λ tab l t d e. (layout-struct tab l t d e, width-struct tab l t d e); sums = total-sum; rows = joined-row; words = words_primitive; widths = widths }
