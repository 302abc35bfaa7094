use Rattle.std.proofs.Common.{[], ◌∷◌, ◌++◌, vec_items, length, sym, ap, ◌∙◌, subst, arith}
use Rattle.groups.proofs.Starts.{parts-length, tiled_open, parts_open}
use Rattle.groups.specs.Starts.{parts, Tiled}
use Rattle.groups.proofs.grouped.Grouped.open.Goals as goal

pub push_reserved-requires : goal.push_reserved-requires
push_reserved-requires g c =
    let l = parts-length (vec_items c.self.inside.items) (vec_items c.self.inside.starts) in
    let v = ap length c.self.view_is in
    let o = c.self.inside.starts.ok.0 in
    omega arith

pub invariant_of-self : goal.invariant_of-self
invariant_of-self g c =
    let t = tiled_open (length (vec_items c.self.inside.items)) (vec_items c.self.inside.starts) c.self.invariant.0 in
    let o = c.self.inside.items.ok.0 in
    let e = c.push_reserved.ensures.items in
    rw e (subst (λ n. Tiled (length (vec_items c.self.inside.items)) (vec_items c.self.inside.starts ++ n ∷ [])) (sym (c.len.ensures ∙ o)) t, omega arith, omega arith)

pub returns : goal.returns
returns g c =
    let h = parts_open (vec_items c.self.inside.items) (vec_items c.self.inside.starts) in
    let o = c.self.inside.items.ok.0 in
    let e = c.push_reserved.ensures.items in
    rw (e, ← c.self.view_is) (ap (λ n. parts (vec_items c.self.inside.items) (vec_items c.self.inside.starts ++ n ∷ [])) (c.len.ensures ∙ o) ∙ h)
