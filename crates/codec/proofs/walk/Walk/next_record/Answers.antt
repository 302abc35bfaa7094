use Rattle.std.proofs.Common.{◌≡◌, ◌-◌, length, take, drop, Ok, ap, arith, length-drop, rules}
use Rattle.std.proofs.lemmas.List.{take_rest}
use Rattle.bytecode.specs.Records.{shown}
use Rattle.codec.specs.FirstRecord.{read_one}
use Rattle.codec.proofs.FirstRecord.{read_length}
use Rattle.codec.proofs.walk.Walk.next_record.Goals as goal

pub returns-clause-after : goal.returns-clause-after
returns-clause-after c =
    let walk = c.args.self.now in
    let read : read_one (take (length walk.«module».now - walk.place) (drop walk.place walk.«module».now)) ≡ Ok (shown c.in_ok-record.«record», c.in_ok-record.after.now) = search rules in
    let long = read_length _ _ read in
    let rest = ap length (take_rest walk.«module».now walk.place) in
    let left = length-drop walk.place walk.«module».now in
    omega arith
