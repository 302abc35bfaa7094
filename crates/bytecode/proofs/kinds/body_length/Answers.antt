-- The table is the list of the rule's values at 0 to 255, which antt computes.
use Rattle.std.proofs.Common.{◌≡◌, sym, ◌∙◌, arith, rules}
use Rattle.std.proofs.lemmas.List.FromFn.{get_or-map-range_with_len}
use Rattle.bytecode.specs.Kinds.{body_length}
use Rattle.bytecode.proofs.kinds.body_length.Goals as goal

pub returns-in-255 : goal.returns-in-255
unfolding body_length
returns-in-255 c =
    let k = c.args.kind in
    let entry = get_or-map-range_with_len body_length 0 256 k k 0 (search rules) (omega arith) in
    let none : body_length k ≡ 255 = sym entry ∙ c.in-255.is in
    grind arith

pub returns-in_default : goal.returns-in_default
unfolding body_length
returns-in_default c =
    let k = c.args.kind in
    let entry = get_or-map-range_with_len body_length 0 256 k k 0 (search rules) (omega arith) in
    grind arith
