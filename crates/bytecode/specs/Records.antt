-- A record as its kind and its body, and as bytes.
use Rattle.std.specs.Prelude.{ℕ, cond, List, [], ◌∷◌, length, Ok, Err, Result, ◌==◌}
use Rattle.bytecode.specs.declared.records.Record.{Record}
use Rattle.bytecode.specs.declared.records.Record.TheVariants as case
use Rattle.bytecode.specs.declared.refusals.Reason.{Reason}
use Rattle.bytecode.specs.declared.refusals.Reason.TheVariants.{UnknownKind, WrongBodyLength}
use Rattle.bytecode.specs.Kinds.{body_length, known}

-- the kind byte, and the bytes of the body
abbrev pub Shown : Type 0
Shown = ℕ × List ℕ

abbrev pub shown : Record → Shown
shown case.End = (0x00, [])
shown (case.Module body) = (0x01, body.now)
shown (case.Struct body) = (0x02, body.now)
shown (case.Field body) = (0x03, body.now)
shown (case.Function body) = (0x04, body.now)
shown (case.Param body) = (0x05, body.now)
shown (case.Result body) = (0x06, body.now)
shown (case.Local body) = (0x07, body.now)
shown (case.PushBool body) = (0x10, body.now)
shown (case.PushNum body) = (0x11, body.now)
shown (case.PushAddr body) = (0x12, body.now)
shown case.Sender = (0x13, [])
shown case.Pop = (0x14, [])
shown (case.CopyLoc body) = (0x15, body.now)
shown (case.MoveLoc body) = (0x16, body.now)
shown (case.StLoc body) = (0x17, body.now)
shown case.Add = (0x18, [])
shown case.Sub = (0x19, [])
shown case.Mul = (0x1a, [])
shown case.Lt = (0x1d, [])
shown case.Eq = (0x1e, [])
shown (case.Jump body) = (0x22, body.now)
shown (case.JumpIf body) = (0x23, body.now)
shown (case.Call body) = (0x24, body.now)
shown case.Ret = (0x25, [])
shown case.Abort = (0x26, [])
shown (case.Pack body) = (0x27, body.now)
shown (case.Unpack body) = (0x28, body.now)
shown (case.MoveTo body) = (0x29, body.now)
shown (case.MoveFrom body) = (0x2a, body.now)
shown (case.Exists body) = (0x2b, body.now)

abbrev pub shown_ok : Result Record Reason → Result Shown Reason
shown_ok (Ok x) = Ok (shown x)
shown_ok (Err why) = Err why

-- a kind that there is, with a body of its length
abbrev pub formed : Shown → Result Shown Reason
formed x =
    cond (known x.0) (cond (length x.1 == body_length x.0) (Ok x) (Err WrongBodyLength)) (Err UnknownKind)

-- a record's bytes: its kind, then its body
abbrev pub bytes_of : Shown → List ℕ
bytes_of x = x.0 ∷ x.1
