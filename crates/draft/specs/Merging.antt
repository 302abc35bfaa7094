-- What merging does to the store below: removes first, then puts.
use Rattle.std.specs.Prelude.{ℕ, ◌+◌, ◌≤◌, Bool, true, cond, not, ◌&&◌, ◌||◌, List, [], ◌∷◌, length, Some, None, Ok, Err, Option, Result, nat_le, nat_lt}
use Rattle.store.specs.declared.keys.Key.{Key}
use Rattle.store.specs.Model.{Model, cap, largest_word, is_touched, put_answer, put_after, remove_answer, remove_after}
use Rattle.store.specs.Pairs.{Entry, holds}
use Rattle.draft.specs.declared.merging.NoFit.{NoFit}
use Rattle.draft.specs.Overlay.{overlay}

-- the calls of a merge as the store answers them: a change without words is a remove, and one with words a put
abbrev pub remove_one : Key → List ℕ → Model → Model
remove_one k [] m = remove_after m k (remove_answer m k)
remove_one k (w ∷ ws) m = m

abbrev pub put_one : Key → List ℕ → Model → Model
put_one k [] m = m
put_one k (w ∷ ws) m = put_after m k (w ∷ ws) (put_answer m k (w ∷ ws))

-- a step for each change, in order
abbrev pub each : (Key → List ℕ → Model → Model) → List Entry → Model → Model
each step [] m = m
each step (e ∷ es) m = each step es (step e.0 e.1 m)

abbrev pub removing : List Entry → Model → Model
removing es m = each remove_one es m

abbrev pub putting : List Entry → Model → Model
putting es m = each put_one es m

-- the same where the store refuses none
abbrev pub taken_one : Key → List ℕ → Model → Model
taken_one k [] m = cond (holds k m.pairs) (remove_after m k (Ok true)) m
taken_one k (w ∷ ws) m = m

abbrev pub given_one : Key → List ℕ → Model → Model
given_one k [] m = m
given_one k (w ∷ ws) m = put_after m k (w ∷ ws) (Ok tt)

abbrev pub taking_all : List Entry → Model → Model
taking_all es m = each taken_one es m

abbrev pub giving_all : List Entry → Model → Model
giving_all es m = each given_one es m

-- the store below with the changes merged
abbrev pub merged : List Entry → Model → Model
merged ts m = giving_all ts (taking_all ts m)

-- whether a change touches a key below that is not touched yet: it puts words, or takes a pair out that is there
abbrev pub touches_anew : Model → Entry → Bool
touches_anew m e = (nat_lt 0 (length e.1) || holds e.0 m.pairs) && not (is_touched m.touched e.0)

abbrev pub touched_anew : Model → List Entry → ℕ
touched_anew m [] = 0
touched_anew m (e ∷ es) = cond (touches_anew m e) 1 0 + touched_anew m es

abbrev pub cap_holds : Option (List Key) → ℕ → Bool
cap_holds None n = true
cap_holds (Some ks) n = nat_le (length ks + n) cap

-- merging fits: the pairs within the limit below, and the touched keys within the cap where there is one
abbrev pub merge_fits : List Entry → Model → Bool
merge_fits ts m = nat_le (length (overlay ts m.pairs)) m.limit && cap_holds m.touched (touched_anew m ts)

-- the limit is at least 64 under the largest word: then it is known what `fits_below` and `merge` answer
abbrev pub HasRoomAbove : Model → Type 0
HasRoomAbove m = m.limit + cap ≤ largest_word

-- a merge that does not fit is refused
abbrev pub merge_answer : List Entry → Model → Result (Unit {0}) NoFit
merge_answer ts m = cond (merge_fits ts m) (Ok tt) (Err (record {}))

-- what a merge leaves below, by what it answered: its calls as they are answered, or nothing
abbrev pub merge_after : List Entry → Model → Result (Unit {0}) NoFit → Model
merge_after ts m (Ok _) = putting ts (removing ts m)
merge_after ts m (Err _) = m
