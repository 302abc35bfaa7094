use Rattle.std.proofs.Common.{◌≡◌, true, take, sym, ap, ◌∙◌, arith}
use Rattle.std.proofs.lemmas.Grind.{common_steps}
use Rattle.std.specs.Option.{option_map}
use Rattle.store.specs.Orders.{key_less}
use Rattle.store.specs.TableLaws.{first-meant, next-meant}
use Rattle.store.specs.Tables.{pair_key, rising}
use Rattle.store.proofs.tables.TableStoreListingStore.next.Goals as goal

pub returns-in-Some : goal.returns-in-Some
returns-in-Some c =
    let pairs = take c.args.self.now.used c.deref.result.now in
    let r : rising pairs ≡ true = rw c.deref.ensures.value c.args.self.now.sorted in
    let f = (rw key_less at c.next.ensures.sorted) r in
    let e : c.map.result ≡ option_map pair_key c.next.result = grind (arith, common_steps) in
    rw (c.in-Some.is, ← c.deref.ensures.value) (e ∙ ap (option_map pair_key) f ∙ sym (next-meant c.in-Some.key pairs))

pub returns-in-None : goal.returns-in-None
returns-in-None c = grind (arith, common_steps, first-meant)
