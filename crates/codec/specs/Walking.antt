-- A record with its place in the module, and the records that a walk gives.
use Rattle.std.specs.Prelude.{ℕ, ◌+◌, List, [], ◌∷◌, length, drop, Ok, Err, Result}
use Rattle.bytecode.specs.declared.refusals.Fault.{Fault}
use Rattle.bytecode.specs.declared.refusals.Reason.{Reason}
use Rattle.codec.specs.declared.walk.Placed.{Placed}
use Rattle.codec.specs.declared.walk.Walk.{Walk}
use Rattle.codec.specs.FirstRecord.{Read}
use Rattle.codec.specs.Reading.{cut}
use Rattle.bytecode.specs.Records.{Shown, shown, bytes_of}
use Rattle.bytecode.specs.Refusals.{fault}

-- the offset of the kind byte, and the record
abbrev pub At : Type 0
At = ℕ × Shown

abbrev pub shown_at : Placed → At
shown_at p = (p.place, shown p.«record»)

abbrev pub shown_placed : Result Placed Fault → Result At Fault
shown_placed (Ok p) = Ok (shown_at p)
shown_placed (Err f) = Err f

-- what was read at a place, or why nothing was
abbrev pub placed : ℕ → Result Read Reason → Result At Fault
placed at (Ok x) = Ok (at, x.0)
placed at (Err why) = Err (fault why at)

-- where the next record should begin: behind this one's bytes
abbrev pub place_after : ℕ → Result At Fault → ℕ
place_after at (Ok x) = at + length (bytes_of x.1)
place_after at (Err f) = at

-- records one behind the other, each with its place
unfoldable pub placed_from : ℕ → List Shown → List At
placed_from at [] = []
placed_from at (x ∷ xs) = (at, x) ∷ placed_from (at + length (bytes_of x)) xs

-- the records that bytes begin with
abbrev pub records_in : List ℕ → List At
records_in bs = placed_from 0 (cut bs).records

-- the records that a walk has yet to give
abbrev pub to_come : Walk → List At
to_come w = placed_from w.place (cut (drop w.place w.«module».now)).records
