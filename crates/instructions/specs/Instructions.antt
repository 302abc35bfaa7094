-- The instruction that a record is.
use Rattle.std.specs.Prelude.{ℕ, Bool, cond, List, Some, None, Option, ◌==◌, slice_index}
use Rattle.operands.specs.Operands.{low_first, function_ref}
use Rattle.bytecode.specs.Records.{Shown}
use Rattle.instructions.specs.declared.instruction.Instruction.{Instruction}
use Rattle.instructions.specs.declared.instruction.Instruction.TheVariants.{PushBool, PushNum, PushAddr, Sender, Pop, CopyLoc, MoveLoc, StLoc, Add, Sub, Mul, Lt, Eq, Jump, JumpIf, Call, Ret, Abort, Pack, Unpack, MoveTo, MoveFrom, Exists}

-- the local, target or own struct in a body of one byte
abbrev pub index_in : List ℕ → ℕ
index_in body = slice_index body 0

abbrev pub word_in : List ℕ → ℕ
word_in body = low_first 8 body

-- the bool in a body of one byte
abbrev pub flag_in : List ℕ → Bool
flag_in body = slice_index body 0 == 1

-- by kind; below 10 there are no instructions
abbrev pub instruction_of : Shown → Option Instruction
instruction_of x =
    cond (x.0 == 0x10) (Some (PushBool (flag_in x.1)))
    (cond (x.0 == 0x11) (Some (PushNum (word_in x.1)))
    (cond (x.0 == 0x12) (Some (PushAddr (word_in x.1)))
    (cond (x.0 == 0x13) (Some Sender)
    (cond (x.0 == 0x14) (Some Pop)
    (cond (x.0 == 0x15) (Some (CopyLoc (index_in x.1)))
    (cond (x.0 == 0x16) (Some (MoveLoc (index_in x.1)))
    (cond (x.0 == 0x17) (Some (StLoc (index_in x.1)))
    (cond (x.0 == 0x18) (Some Add)
    (cond (x.0 == 0x19) (Some Sub)
    (cond (x.0 == 0x1a) (Some Mul)
    (cond (x.0 == 0x1d) (Some Lt)
    (cond (x.0 == 0x1e) (Some Eq)
    (cond (x.0 == 0x22) (Some (Jump (index_in x.1)))
    (cond (x.0 == 0x23) (Some (JumpIf (index_in x.1)))
    (cond (x.0 == 0x24) (Some (Call (function_ref x.1)))
    (cond (x.0 == 0x25) (Some Ret)
    (cond (x.0 == 0x26) (Some Abort)
    (cond (x.0 == 0x27) (Some (Pack (index_in x.1)))
    (cond (x.0 == 0x28) (Some (Unpack (index_in x.1)))
    (cond (x.0 == 0x29) (Some (MoveTo (index_in x.1)))
    (cond (x.0 == 0x2a) (Some (MoveFrom (index_in x.1)))
    (cond (x.0 == 0x2b) (Some (Exists (index_in x.1))) None))))))))))))))))))))))
