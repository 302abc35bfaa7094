-- What an answer of the reader means.
use Rattle.std.specs.Prelude.{◌≡◌, ℕ, ◌<◌, ◌≤◌, List, [], ◌∷◌, ◌++◌, length, Ok, Err}
use Rattle.std.specs.List.{flat_map}
use Rattle.bytecode.specs.declared.refusals.Fault.{Fault}
use Rattle.bytecode.specs.declared.refusals.Reason.{Reason}
use Rattle.bytecode.specs.declared.refusals.Reason.TheVariants.{BytesAfterEnd, TooLong}
use Rattle.codec.specs.FirstRecord.{read_one}
use Rattle.bytecode.specs.Records.{Shown, bytes_of}
use Rattle.bytecode.specs.Refusals.{fault, number}
use Rattle.grammar.specs.Grammar.{ModuleRow, Begins}

-- the bytes of a row of records
abbrev pub written : List Shown → List ℕ
written xs = flat_map bytes_of xs

-- bytes are a module of n records: at most 4,096, and the writing of a row that the grammar allows
pub record IsModule (bs : List ℕ) (n : ℕ) : Type 0 where
  pub short : length bs ≤ 4096
  pub records : List Shown
  pub allowed : ModuleRow records
  pub bytes : written records ≡ bs
  pub counted : length records ≡ n

-- up to a place the bytes are the writing of records that begin a module
pub record Reached (bs : List ℕ) (place : ℕ) : Type 0 where
  pub before : List Shown
  pub behind : List ℕ
  pub bytes : written before ++ behind ≡ bs
  pub here : length (written before) ≡ place
  pub begins : Begins before

-- why bytes are no module, and at which place
pub data Refused (bs : List ℕ) : Fault → Type 0 where
  -- they are too many
  too_long : 4096 < length bs → Refused bs (fault TooLong 4096)
  -- what begins there is no record, and the module is not yet whole
  no_record : {why : Reason} {place : ℕ} → length bs ≤ 4096 → (r : Reached bs place) → (ModuleRow r.before → ⊥) → read_one r.behind ≡ Err why
      → number why ≡ 1 → Refused bs (fault why place)
  -- the module is whole, and there are bytes behind it
  surplus : {place : ℕ} → length bs ≤ 4096 → (r : Reached bs place) → ModuleRow r.before → 0 < length r.behind → Refused bs (fault BytesAfterEnd place)
  -- the module is not yet whole, and a record begins there with which no module goes on
  no_way_on : {why : Reason} {place : ℕ} → length bs ≤ 4096 → (r : Reached bs place) → (ModuleRow r.before → ⊥) → (x : Shown) (rest : List ℕ) → read_one r.behind ≡ Ok (x, rest)
      → (Begins (r.before ++ x ∷ []) → ⊥) → 2 ≤ number why → number why ≤ 4 → Refused bs (fault why place)
