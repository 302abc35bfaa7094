use Rattle.std.proofs.Common.{[], vec_items, rules, sym}
use Rattle.std.proofs.lemmas.List.{get_or_past}
use Rattle.groups.specs.Starts.{parts}
use Rattle.groups.proofs.Starts.{part_read, parts-length, IsPart}
use Rattle.groups.proofs.grouped.Grouped.get.Goals as goal
use Rattle.groups.proofs.grouped.Grouped.get.Goals.{After-unwrap_or-end}

-- what is read is a part
read : (g : _) (c : After-unwrap_or-end g) → IsPart (vec_items c.self.inside.items) (parts (vec_items c.self.inside.items) (vec_items c.self.inside.starts)) c.args.i c.in-Some.start.now c.unwrap_or-end.result
read g c = part_read _ _ _ _ _ (search rules) (search rules) (search rules) (search rules)

pub slice_bounds-result-start : goal.slice_bounds-result-start
slice_bounds-result-start g c = let h = read g (goal.at.slice_bounds-result-start g c).After-unwrap_or-end in search rules

pub slice_bounds-result-end : goal.slice_bounds-result-end
slice_bounds-result-end g c = let h = read g (goal.at.slice_bounds-result-end g c).After-unwrap_or-end in search rules

pub slice_bounds-result-count : goal.slice_bounds-result-count
slice_bounds-result-count g c = let h = read g (goal.at.slice_bounds-result-count g c).After-unwrap_or-end in search rules

pub offset_bounds-deref-start : goal.offset_bounds-deref-start
offset_bounds-deref-start g c = let h = read g (goal.at.offset_bounds-deref-start g c).After-unwrap_or-end in search rules

pub returns-in-Some : goal.returns-in-Some
returns-in-Some g c = let h = read g (goal.at.returns-in-Some g c).After-unwrap_or-end in search rules

pub returns-in-None : goal.returns-in-None
returns-in-None g c =
    let xs = vec_items c.self.inside.items in
    let ss = vec_items c.self.inside.starts in
    let l = parts-length xs ss in
    rw (← c.self.view_is) (sym (get_or_past (parts xs ss) c.args.i [] (search rules)))
