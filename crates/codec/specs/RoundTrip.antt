-- Writing gives back the bytes that were read, and reading the records that were written.
use Rattle.std.specs.Prelude.{◌≡◌, ℕ, ◌≤◌, true, cond, List, [], ◌∷◌, ◌++◌, length, take, drop, is_ok, Ok, Err, Result, nat_le}
use Rattle.bytecode.specs.declared.refusals.Fault.{Fault}
use Rattle.bytecode.specs.declared.refusals.Reason.TheVariants.{MissingEnd, NoRoom}
use Rattle.bytecode.specs.Records.{Shown}
use Rattle.bytecode.specs.Refusals.{fault}
use Rattle.codec.specs.Writing.{writing, filled}
use Rattle.grammar.specs.Grammar.{ModuleRow}
use Rattle.codec.specs.Readable.{written}
use Rattle.codec.specs.Reading.{Cut, cut, read_module}

-- `WritesAll buffer used xs n after`: writing the records xs one by one behind the first `used` bytes leaves `after`, of which n bytes are used
pub data WritesAll : List ℕ → ℕ → List Shown → ℕ → List ℕ → Type 0 where
  nothing : {buffer : List ℕ} {used : ℕ} → WritesAll buffer used [] used buffer
  one_more : {buffer after : List ℕ} {used m n : ℕ} {x : Shown} {xs : List Shown} →
      writing buffer used x ≡ Ok m → WritesAll (filled buffer used x (Ok m)) m xs n after → WritesAll buffer used (x ∷ xs) n after

-- bytes that are cut into these records, and nothing behind them
abbrev pub only : List Shown → Cut
only xs = record { records = xs; stop = MissingEnd }

abbrev pub WritingRestoresBytes : Type 0
WritingRestoresBytes = (bs : List ℕ) → is_ok (read_module bs) ≡ true → written (cut bs).records ≡ bs

abbrev pub ReadingRestoresRecords : Type 0
ReadingRestoresRecords = (buffer after : List ℕ) (xs : List Shown) (n : ℕ) → WritesAll buffer 0 xs n after → cut (take n after) ≡ only xs

abbrev pub ReadingRestoresModules : Type 0
ReadingRestoresModules = (buffer after : List ℕ) (xs : List Shown) (n : ℕ) → WritesAll buffer 0 xs n after → ModuleRow xs → n ≤ 4096
    → read_module (take n after) ≡ Ok (length xs)

-- a module written again into a buffer: what is refused to the reader, then a buffer that is shorter than the module
abbrev pub rewriting : List ℕ → List ℕ → Result ℕ Fault → Result ℕ Fault
rewriting bs buffer (Ok n) = cond (nat_le (length bs) (length buffer)) (Ok (length bs)) (Err (fault NoRoom 0))
rewriting bs buffer (Err f) = Err f

-- what the buffer holds then
abbrev pub rewritten : List ℕ → List ℕ → Result ℕ Fault → List ℕ
rewritten bs buffer (Ok n) = bs ++ drop n buffer
rewritten bs buffer (Err f) = buffer
