-- Reading and writing are inverse.
use Rattle.std.proofs.Common.{◌≡◌, ℕ, ◌+◌, ◌≤◌, true, List, ◌++◌, length, take, drop, is_ok, Ok, Err, Result, sym, refl, ap, ◌∙◌, append_assoc, append-nil, arith, length-append}
use Rattle.std.proofs.lemmas.List.{take_at, length-take-le}
use Rattle.std.proofs.lemmas.Bool.Decides.{nat_tests}
use Rattle.bytecode.specs.declared.refusals.Fault.{Fault}
use Rattle.bytecode.specs.Records.{Shown, bytes_of, formed}
use Rattle.codec.specs.Writing.{writing, filled}
use Rattle.codec.specs.Readable.{written, IsModule}
use Rattle.codec.specs.Reading.{cut, read_module}
use Rattle.codec.specs.RoundTrip.{WritesAll, nothing, one_more, WritingRestoresBytes, ReadingRestoresRecords, ReadingRestoresModules}
use Rattle.codec.proofs.Cutting.{AllFormed, cut-written}
use Rattle.codec.proofs.Verdict.{Verdict, reader_right, reader_complete, module_cut}

module_from : (bs : List ℕ) (r : Result ℕ Fault) → Verdict bs r → is_ok r ≡ true → (n : ℕ) × IsModule bs n
module_from bs (Ok n) v h = (n, v)
module_from bs (Err f) v h = absurd (let z : ◌≡◌ {A = ℕ} 0 1 = cc in omega arith)

pub writing_restores_bytes : WritingRestoresBytes
writing_restores_bytes bs h =
    let m = module_from bs (read_module bs) (reader_right bs) h in
    ap (λ c. written c.records) (module_cut m.1) ∙ m.1.bytes

-- what a write that succeeds says
formed-from : (buffer : List ℕ) (used m : ℕ) (x : Shown) → writing buffer used x ≡ Ok m → (formed x ≡ Ok x) × (m ≡ used + length (bytes_of x)) × (m ≤ length buffer)
formed-from buffer used m x h = (grind (arith, nat_tests), grind (arith, nat_tests), grind (arith, nat_tests))

-- the bytes used then, and how long the buffer stays
filled-take : (buffer : List ℕ) (used m : ℕ) (x : Shown) → used ≤ length buffer → m ≡ used + length (bytes_of x) → take m (filled buffer used x (Ok m)) ≡ take used buffer ++ bytes_of x
filled-take buffer used m x h e =
    let l = length-take-le used buffer h in
    let a = length-append (take used buffer) (bytes_of x) in
    ap (take m) (sym (append_assoc (take used buffer) (bytes_of x) (drop m buffer))) ∙ take_at (take used buffer ++ bytes_of x) (drop m buffer) m (omega arith)

filled-length : (buffer : List ℕ) (used m : ℕ) (x : Shown) → used ≤ length buffer → m ≡ used + length (bytes_of x) → m ≤ length buffer → m ≤ length (filled buffer used x (Ok m))
filled-length buffer used m x h e k =
    let l = length-take-le used buffer h in
    simp length-append (omega arith)

all_written : {buffer after : List ℕ} {used n : ℕ} {xs : List Shown} → WritesAll buffer used xs n after → used ≤ length buffer → AllFormed xs × (take n after ≡ take used buffer ++ written xs)
all_written nothing h = (tt, sym (append-nil _))
all_written {buffer} {after} {used} {n} (one_more {m = m} {x = x} {xs = xs} w r) h =
    let f = formed-from buffer used m x w in
    let ih = all_written r (filled-length buffer used m x h f.1 f.2) in
    ((f.0, ih.0), ih.1 ∙ ap (λ l. l ++ written xs) (filled-take buffer used m x h f.1) ∙ append_assoc (take used buffer) (bytes_of x) (written xs))

used_within : {buffer after : List ℕ} {used n : ℕ} {xs : List Shown} → WritesAll buffer used xs n after → used ≤ length buffer → n ≡ used + length (written xs)
used_within nothing h = omega arith
used_within {buffer} {after} {used} {n} (one_more {m = m} {x = x} {xs = xs} w r) h =
    let f = formed-from buffer used m x w in
    let ih = used_within r (filled-length buffer used m x h f.1 f.2) in
    let l = length-append (bytes_of x) (written xs) in
    let e = f.1 in
    omega arith

pub reading_restores_records : ReadingRestoresRecords
reading_restores_records buffer after xs n w =
    let t = all_written w (omega arith) in
    ap cut t.1 ∙ cut-written xs t.0

pub reading_restores_modules : ReadingRestoresModules
reading_restores_modules buffer after xs n w m short =
    let t = all_written w (omega arith) in
    let u = used_within w (omega arith) in
    reader_complete (take n after) (length xs)
    (record { short = omega (arith, ap length t.1); records = xs; allowed = m; bytes = sym t.1; counted = refl })
