-- What putting in and taking out leave of any rows, sorted or not, and what that is for sorted ones.
use Rattle.std.specs.Prelude.{ℕ, ◌+◌, ◌-◌, Bool, cond, ◌||◌, List, ◌++◌, length, drop, is_some, Some, None, Ok, Err, Option, Result, nat_lt, slice_set}
use Rattle.std.specs.List.{insert, remove}
use Rattle.table.specs.declared.edits.Full.{Full}
use Rattle.table.specs.Rows.{look, put, without}

-- `old` are all rows, and `rs` those in use, at the front of them; the search says where the record is, or would be put
module _ {R : Type 0} where
  -- how many rows are in use then
  abbrev pub insert_answer : List R → List R → Result ℕ ℕ → Result ℕ Full
  insert_answer old rs (Ok at) = Ok (length rs)
  insert_answer old rs (Err at) = cond (nat_lt (length rs) (length old)) (Ok (length rs + 1)) (Err (record {}))

  -- all rows then
  abbrev pub insert_after : List R → List R → R → Result ℕ ℕ → List R
  insert_after old rs x (Ok at) = slice_set old at x
  insert_after old rs x (Err at) = cond (nat_lt (length rs) (length old)) (insert rs at x ++ drop (length rs + 1) old) old

  abbrev pub remove_answer : List R → Result ℕ ℕ → Option ℕ
  remove_answer rs (Ok at) = Some (length rs - 1)
  remove_answer rs (Err at) = None

  -- the last row in use is no longer, and stays as it is
  abbrev pub remove_after : List R → List R → Result ℕ ℕ → List R
  remove_after old rs (Ok at) = remove rs at ++ drop (length rs - 1) old
  remove_after old rs (Err at) = old

module _ {R K : Type 0} (key : R → K) (before : K → K → Bool) where
  -- a record can be put where one of its key is, or a row is free
  abbrev pub fits : List R → List R → R → Bool
  fits old rs x = is_some (look key before (key x) rs) || nat_lt (length rs) (length old)

  abbrev pub put_answer : List R → List R → R → Result ℕ Full
  put_answer old rs x = cond (fits old rs x) (Ok (length (put key before x rs))) (Err (record {}))

  abbrev pub put_after : List R → List R → R → List R
  put_after old rs x = cond (fits old rs x) (put key before x rs ++ drop (length (put key before x rs)) old) old

  abbrev pub take_answer : List R → K → Option ℕ
  take_answer rs k = cond (is_some (look key before k rs)) (Some (length (without key before k rs))) None

  abbrev pub take_after : List R → List R → K → List R
  take_after old rs k = cond (is_some (look key before k rs)) (without key before k rs ++ drop (length (without key before k rs)) old) old
