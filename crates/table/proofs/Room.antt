-- What the answer to an insert tells of the room that there was.
use Rattle.std.proofs.Common.{◌≡◌, ℕ, Bool, true, false, cond, Ok, Err, Result, arith}
use Rattle.table.specs.declared.edits.Full.{Full}

pub room_was : (b : Bool) (n m : ℕ) → ◌≡◌ {A = Result ℕ Full} (Ok n) (cond b (Ok m) (Err (record {}))) → (b ≡ true) × (n ≡ m)
room_was b n m e = grind arith

pub no_room_was : (b : Bool) (f : Full) (m : ℕ) → ◌≡◌ {A = Result ℕ Full} (Err f) (cond b (Ok m) (Err (record {}))) → b ≡ false
no_room_was b f m e = grind arith
