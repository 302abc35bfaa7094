-- Put and remove alter their key alone, and by one pair at most.
use Rattle.std.proofs.Common.{◌≡◌, true, false, ◌⊎◌, List, is_some, Some, None, Ok, Err, Option, refl, ap, inl, inr, ⊎_elim}
use Rattle.std.proofs.lemmas.Bool.{cases_Bool}
use Rattle.table.proofs.Lookups.{look-put-same, look_put_other, look-without-same, look_without_other}
use Rattle.table.proofs.Placing.{length-put, length_without}
use Rattle.store.specs.declared.keys.Key.{Key}
use Rattle.store.specs.Keys.{key_before}
use Rattle.store.specs.Laws.{PutIsFound, PutAltersItsKeyAlone, RemovedIsGone, RemoveAltersItsKeyAlone, PutCounts, RemoveCounts}
use Rattle.store.specs.Model.{own, is_touched, touch}
use Rattle.store.specs.Pairs.{key_of}
use Rattle.store.specs.Orders.{key_order}

apart : (j k : Key) → ¬ (j ≡ k) → (key_before j k ≡ true) ⊎ (key_before k j ≡ true)
apart j k n =
    ⊎_elim
    (λ (t : key_before j k ≡ true). inl t)
    (λ (t : key_before j k ≡ false).
    ⊎_elim (λ (u : key_before k j ≡ true). inr u) (λ (u : key_before k j ≡ false). absurd (n (key_order.total j k t u))) (cases_Bool (key_before k j)))
    (cases_Bool (key_before j k))

touched_other : (t : Option (List Key)) (k j : Key) → ¬ (j ≡ k) → is_touched (touch t k) j ≡ is_touched t j
touched_other None k j n = refl
touched_other (Some ks) k j n = ap is_some (look_put_other own key_before key_order j k ks (apart j k n))

pub put_is_found : PutIsFound
put_is_found m k ws = look-put-same key_of key_before key_order (k, ws) m.pairs

pub put_alone : PutAltersItsKeyAlone
put_alone m s k ws (Ok _) j n = (look_put_other key_of key_before key_order j (k, ws) m.pairs (apart j k n), touched_other m.touched k j n)
put_alone m s k ws (Err _) j n = (refl, refl)

pub removed_is_gone : RemovedIsGone
removed_is_gone m s k = look-without-same key_of key_before key_order k m.pairs s.rises

pub remove_alone : RemoveAltersItsKeyAlone
remove_alone m s k (Ok true) j n = (look_without_other key_of key_before key_order j k m.pairs s.rises (apart j k n), touched_other m.touched k j n)
remove_alone m s k (Ok false) j n = (refl, refl)
remove_alone m s k (Err _) j n = (refl, refl)

pub put_counts : PutCounts
put_counts m k ws = length-put key_of key_before (k, ws) m.pairs

pub remove_counts : RemoveCounts
remove_counts m k = length_without key_of key_before k m.pairs
