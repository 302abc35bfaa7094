use Rattle.std.proofs.Common.{◌<◌, vec_items, length, sym, ap, ◌∙◌, subst, arith}
use Rattle.std.proofs.lemmas.List.{length_push}
use Rattle.std.proofs.lemmas.Bool.Decides.{nat_tests}
use Rattle.groups.specs.Groups.{size}
use Rattle.groups.specs.Starts.{parts, Tiled}
use Rattle.groups.proofs.Starts.{size-parts, tiled_add, parts_more}
use Rattle.groups.proofs.grouped.Grouped.add.Goals as goal

pub push_reserved-requires : goal.push_reserved-requires
push_reserved-requires g c =
    let t = c.self.invariant.0 in
    let l = size-parts (vec_items c.self.inside.items) (vec_items c.self.inside.starts) t.rises in
    let w = t.whole in
    let v = ap size c.self.view_is in
    let o = c.self.inside.items.ok.0 in
    omega arith

pub invariant_of-self : goal.invariant_of-self
invariant_of-self g c =
    let o = c.self.inside.starts.ok.0 in
    let some : 0 < length (vec_items c.self.inside.starts) = grind (arith, nat_tests) in
    let t = tiled_add (length (vec_items c.self.inside.items)) (vec_items c.self.inside.starts) some c.self.invariant.0 in
    let one_more = ap length c.push_reserved.ensures.items ∙ length_push (vec_items c.self.inside.items) c.args.item in
    (subst (λ n. Tiled n (vec_items c.self.inside.starts)) (sym one_more) t, omega arith, omega arith)

pub returns-then-not-is_empty : goal.returns-then-not-is_empty
returns-then-not-is_empty g c =
    let o = c.self.inside.starts.ok.0 in
    let some : 0 < length (vec_items c.self.inside.starts) = grind (arith, nat_tests) in
    let h = parts_more (vec_items c.self.inside.items) c.args.item (vec_items c.self.inside.starts) c.self.invariant.0.rises some in
    ap (λ xs. parts xs (vec_items c.self.inside.starts)) c.push_reserved.ensures.items ∙ rw (← c.self.view_is) h
