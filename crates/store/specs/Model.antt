-- What a store means, and what its calls answer and leave.
use Rattle.std.specs.Prelude.{◌≡◌, ℕ, ◌-◌, ◌≤◌, Bool, true, false, cond, ◌&&◌, ◌||◌, List, [], ◌∷◌, length, is_some, Some, None, Ok, Err, Option, Result, nat_le, nat_lt}
use Rattle.store.specs.declared.keys.Key.{Key}
use Rattle.store.specs.declared.refusals.Refusal.{Refusal}
use Rattle.store.specs.declared.refusals.Refusal.TheVariants.{TooManyTouched, AtLimit, WrongLength}
use Rattle.store.specs.Keys.{key_before}
use Rattle.store.specs.Pairs.{Entry, ordered, holds, put_in, take_out}
use Rattle.table.specs.Rows as rows

abbrev pub largest_word : ℕ
largest_word = 18446744073709551615

-- how many keys a store with a cap may touch
abbrev pub cap : ℕ
cap = 64

-- the pairs, sorted by key; how many there may be; and, in a store with a cap, the touched keys, sorted
pub record Model : Type 0 where
  pub pairs : List Entry
  pub limit : ℕ
  pub touched : Option (List Key)

abbrev pub own : Key → Key
own k = k

-- 1 to 16 words
abbrev pub fits : List ℕ → Bool
fits ws = nat_lt 0 (length ws) && nat_le (length ws) 16

abbrev pub filled : List Entry → Bool
filled [] = true
filled (e ∷ es) = fits e.1 && filled es

abbrev pub is_touched : Option (List Key) → Key → Bool
is_touched None k = false
is_touched (Some ks) k = is_some (rows.look own key_before k ks)

-- how many keys more may be touched; none is said where there is no cap
abbrev pub free_touches : Option (List Key) → Option ℕ
free_touches None = None
free_touches (Some ks) = Some (cap - length ks)

-- whether a call may touch k: it is touched already, or one key more is allowed
abbrev pub may_touch : Option (List Key) → Key → Bool
may_touch None k = true
may_touch (Some ks) k = is_some (rows.look own key_before k ks) || nat_lt (length ks) cap

abbrev pub touch : Option (List Key) → Key → Option (List Key)
touch None k = None
touch (Some ks) k = Some (rows.put own key_before k ks)

abbrev pub put_answer : Model → Key → List ℕ → Result (Unit {0}) Refusal
put_answer m k ws =
    cond (fits ws)
    (cond (may_touch m.touched k)
    (cond (holds k m.pairs || nat_lt (length m.pairs) m.limit) (Ok tt) (Err AtLimit))
    (Err TooManyTouched))
    (Err WrongLength)

abbrev pub put_after : Model → Key → List ℕ → Result (Unit {0}) Refusal → Model
put_after m k ws (Ok _) = record { pairs = put_in k ws m.pairs; limit = m.limit; touched = touch m.touched k }
put_after m k ws (Err _) = m

abbrev pub remove_answer : Model → Key → Result Bool Refusal
remove_answer m k = cond (holds k m.pairs) (cond (may_touch m.touched k) (Ok true) (Err TooManyTouched)) (Ok false)

abbrev pub remove_after : Model → Key → Result Bool Refusal → Model
remove_after m k (Ok true) = record { pairs = take_out k m.pairs; limit = m.limit; touched = touch m.touched k }
remove_after m k (Ok false) = m
remove_after m k (Err _) = m

-- the touched keys rise, and are at most 64
abbrev pub touched_few : Option (List Key) → Bool
touched_few None = true
touched_few (Some ks) = rows.sorted own key_before ks && nat_le (length ks) cap

-- what every store keeps
pub record Sound (m : Model) : Type 0 where
  pub rises : ordered m.pairs ≡ true
  pub full : filled m.pairs ≡ true
  pub within : length m.pairs ≤ m.limit
  pub few : touched_few m.touched ≡ true
  pub small : m.touched ≡ None → m.limit ≤ 65536
