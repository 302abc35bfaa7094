use Rattle.std.proofs.Common.{refl, ◌∙◌}
use Rattle.store.proofs.WrittenBack.{written_back}
use Rattle.store.specs.Orders.{key_less}
use Rattle.store.specs.TableLaws.{removed_by}
use Rattle.store.proofs.tables.TableStoreStore.remove.Goals as goal

pub invariant_of-self : goal.invariant_of-self
invariant_of-self c =
    let s = c.args.self.now in
    let v = written_back s.rows _ c.remove-left.new.rows c.deref_mut.ensures.value c.remove-left.auto.rows in
    let h = (rw (key_less, c.deref_mut.ensures.value) at c.remove-left.ensures.sorted) s.sorted in
    let t = removed_by s.rows.items _ s.used s.within s.sorted v.1 c.args.key c.remove-left.result h.0 (v.0 ∙ h.1) in
    record { within = rw c.unwrap_or-self.ensures t.0.inside; few = rw v.1 s.few; sorted = rw c.unwrap_or-self.ensures t.0.rise }

pub returns : goal.returns
returns c =
    let s = c.args.self.now in
    let v = written_back s.rows _ c.remove-left.new.rows c.deref_mut.ensures.value c.remove-left.auto.rows in
    let h = (rw (key_less, c.deref_mut.ensures.value) at c.remove-left.ensures.sorted) s.sorted in
    let t = removed_by s.rows.items _ s.used s.within s.sorted v.1 c.args.key c.remove-left.result h.0 (v.0 ∙ h.1) in
    rw (c.is_some.ensures, c.unwrap_or-self.ensures) (record { answer = t.1; after = t.2; under = refl })
