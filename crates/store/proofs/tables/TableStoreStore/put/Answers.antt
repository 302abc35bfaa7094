use Rattle.std.proofs.Common.{◌≡◌, false, Ok, Err, refl, ◌∙◌, arith}
use Rattle.std.proofs.lemmas.Grind.{common_steps}
use Rattle.std.specs.Result.{is_ok}
use Rattle.store.proofs.WrittenBack.{written_back}
use Rattle.store.specs.declared.refusals.Refusal.TheVariants.{AtLimit}
use Rattle.store.specs.Orders.{key_less}
use Rattle.store.specs.TableLaws.{inserted_by, not_inserted_by}
use Rattle.store.proofs.tables.TableStoreStore.put.Goals as goal

pub invariant_of-self-2 : goal.invariant_of-self-2
invariant_of-self-2 c =
    let s = c.args.self.now in
    let v = written_back s.rows _ c.insert.new.rows c.deref_mut.ensures.value c.insert.auto.rows in
    let h = (rw (key_less, c.deref_mut.ensures.value) at c.insert.ensures.sorted) s.sorted in
    let r : Ok c.in_ok-self.field-0 ≡ c.insert.result = grind (arith, common_steps) in
    let t = inserted_by s.rows.items _ s.used s.within s.sorted v.1 _ c.in_ok-self.field-0 (r ∙ h.0) (v.0 ∙ h.1) in
    record { within = t.0.inside; few = rw v.1 s.few; sorted = t.0.rise }

pub returns : goal.returns
returns c =
    let s = c.args.self.now in
    let v = written_back s.rows _ c.insert.new.rows c.deref_mut.ensures.value c.insert.auto.rows in
    let h = (rw (key_less, c.deref_mut.ensures.value) at c.insert.ensures.sorted) s.sorted in
    let r : Ok c.in_ok-self.field-0 ≡ c.insert.result = grind (arith, common_steps) in
    let t = inserted_by s.rows.items _ s.used s.within s.sorted v.1 _ c.in_ok-self.field-0 (r ∙ h.0) (v.0 ∙ h.1) in
    let w = c.in_ok-words.ensures in
    record { answer = rw (← w) t.1; after = rw (← w) t.2; under = refl }

pub returns-in_err-self-clause-answer : goal.returns-in_err-self-clause-answer
returns-in_err-self-clause-answer c =
    let s = c.args.self.now in
    let v = written_back s.rows _ c.insert.new.rows c.deref_mut.ensures.value c.insert.auto.rows in
    let h = (rw (key_less, c.deref_mut.ensures.value) at c.insert.ensures.sorted) s.sorted in
    let full : is_ok c.insert.result ≡ false = grind (arith, common_steps) in
    let r : c.from_residual-in_err-self.result ≡ Err AtLimit = grind (arith, common_steps) in
    let w = c.in_ok-words.ensures in
    r ∙ rw (← w) (not_inserted_by s.rows.items _ s.used s.within s.sorted v.1 _ c.insert.result full h.0)
