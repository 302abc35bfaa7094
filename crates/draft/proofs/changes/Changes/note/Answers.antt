use Rattle.std.proofs.Common.{◌≡◌, ◌+◌, ◌-◌, ◌<◌, ◌≤◌, cond, map, length, set, take, Ok, Err, sym, ap, ◌∙◌, arith}
use Rattle.std.specs.List.{insert}
use Rattle.std.proofs.lemmas.List.{length-set, length-take-le}
use Rattle.std.proofs.Math.Seq.{take-set-lt}
use borrow.Rule.Slice.PartMut.{put_mid}
use Rattle.table.specs.Searching.{found_sorted}
use Rattle.store.specs.declared.refusals.Refusal.TheVariants.{TooManyTouched}
use Rattle.store.specs.Keys.{key_before}
use Rattle.store.specs.Orders.{key_less}
use Rattle.draft.specs.Changes.{change_key, changed, rising}
use Rattle.draft.proofs.LayerLaws.{noted_over, noted_new, no_room}
use Rattle.draft.proofs.Turning.{turned_in, turned-length}
use Rattle.draft.proofs.changes.Changes.note.Goals as goal
use Rattle.draft.proofs.changes.Changes.note.Goals.{In-Ok, After-rotate_right}

-- the change of its key, written over
there : (c : In-Ok) → Ok c.in-Ok.at ≡ found_sorted change_key key_before c.args.change.key (take c.args.self.now.used c.args.self.now.rows)
there c = (rw key_less at c.in-Ok.ensures.sorted) c.args.self.now.sorted

over : (c : In-Ok) → take c.args.self.now.used (set c.args.self.now.rows c.in-Ok.at c.args.change) ≡ set (take c.args.self.now.used c.args.self.now.rows) c.in-Ok.at c.args.change
over c =
    let d = c.args.self.now in
    let l = length-take-le d.used d.rows (omega (arith, d.within, d.long)) in
    take-set-lt d.used d.rows c.in-Ok.at c.args.change (omega (arith, l, c.in-Ok.ensures.bound))

pub invariant_of-self : goal.invariant_of-self
invariant_of-self c =
    let d = c.args.self.now in
    let o = (goal.at.invariant_of-self c).In-Ok in
    record { long = length-set d.rows _ _ ∙ d.long; within = d.within; sorted = ap rising (over o) ∙ (noted_over d c.args.change c.in-Ok.at (there o)).0 }

pub returns-in-Ok-clause-answer : goal.returns-in-Ok-clause-answer
returns-in-Ok-clause-answer c =
    let o = (goal.at.returns-in-Ok-clause-answer c).In-Ok in
    ap (λ z. cond z (Ok tt) (Err TooManyTouched)) (sym (noted_over c.args.self.now c.args.change c.in-Ok.at (there o)).2)

pub returns-in-Ok-clause-after : goal.returns-in-Ok-clause-after
returns-in-Ok-clause-after c =
    let o = (goal.at.returns-in-Ok-clause-after c).In-Ok in
    ap (map changed) (over o) ∙ (noted_over c.args.self.now c.args.change c.in-Ok.at (there o)).1

pub returns-in-Err-clause-answer : goal.returns-in-Err-clause-answer
returns-in-Err-clause-answer c =
    let d = c.args.self.now in
    let long = d.long in
    let full : length (take d.used d.rows) ≡ 64 = length-take-le d.used d.rows (omega arith) ∙ c.if-self-eq64.true in
    ap (λ z. cond z (Ok tt) (Err TooManyTouched)) (sym (no_room d c.args.change c.in-Err.field-0 ((rw key_less at c.in-Err.ensures.sorted) d.sorted) full))

-- a new change, put behind the others and turned to its place
absent : (c : After-rotate_right) → Err c.in-Err.field-0 ≡ found_sorted change_key key_before c.args.change.key (take c.args.self.now.used c.args.self.now.rows)
absent c = (rw key_less at c.in-Err.ensures.sorted) c.args.self.now.sorted

room : (c : After-rotate_right) → (c.in-Err.field-0 ≤ c.args.self.now.used) × (c.args.self.now.used < 64) × (length (take c.args.self.now.used c.args.self.now.rows) < 64)
room c =
    let d = c.args.self.now in
    let l = length-take-le d.used d.rows (omega (arith, d.within, d.long)) in
    let within = d.within in
    let more = c.if-self-eq64.false in
    (omega (arith, l, c.in-Err.ensures.bound), omega arith, omega (arith, l))

turned : (c : After-rotate_right)
    → take (c.args.self.now.used + 1) (put_mid c.in-Err.field-0 (c.args.self.now.used + 1 - c.in-Err.field-0) (set c.args.self.now.rows c.args.self.now.used c.args.change) c.rotate_right.new.self)
    ≡ insert (take c.args.self.now.used c.args.self.now.rows) c.in-Err.field-0 c.args.change
turned c =
    let d = c.args.self.now in
    let h = room c in
    turned_in c.in-Err.field-0 d.used _ d.rows c.args.change c.rotate_right.new.self h.0 (omega (arith, h.1, d.long)) (omega (arith, h.0)) c.rotate_right.ensures.after

pub invariant_of-self-in-Err-2 : goal.invariant_of-self-in-Err-2
invariant_of-self-in-Err-2 c =
    let d = c.args.self.now in
    let a = (goal.at.invariant_of-self-in-Err-2 c).After-rotate_right in
    let h = room a in
    let new = set d.rows d.used c.args.change in
    let k = d.used + 1 - c.in-Err.field-0 in
    let s = length-set d.rows d.used c.args.change ∙ d.long in
    record {
      long = turned-length c.in-Err.field-0 k new c.rotate_right.new.self c.rotate_right.ensures.len (omega (arith, s, h.0, h.1)) ∙ s;
      within = omega (arith, h.1);
      sorted = ap rising (turned a) ∙ (noted_new d c.args.change c.in-Err.field-0 (absent a) h.2).0;
    }

pub returns-in-Err-2-clause-after : goal.returns-in-Err-2-clause-after
returns-in-Err-2-clause-after c =
    let a = (goal.at.returns-in-Err-2-clause-after c).After-rotate_right in
    ap (map changed) (turned a) ∙ (noted_new c.args.self.now c.args.change c.in-Err.field-0 (absent a) (room a).2).1
