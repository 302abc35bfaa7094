-- A small module, and what its bytes say.
use Rattle.std.specs.Prelude.{◌≡◌, ℕ, true, false, [], ◌∷◌}
use Rattle.codec.specs.Examples.{seven}
use Rattle.instructions.specs.declared.instruction.Instruction.{Instruction}
use Rattle.instructions.specs.declared.instruction.Instruction.TheVariants.{Sender, MoveLoc, Ret, Pack, MoveTo}
use Rattle.modules.specs.declared.parts.Line.{Line}
use Rattle.modules.specs.declared.parts.Typed.{Typed}
use Rattle.modules.specs.declared.parts.Visibility.TheVariants.{Entry}
use Rattle.modules.specs.Modules.{Module, module_in}

-- a type of module 0 that a record at a place names
abbrev primitive : ℕ → ℕ → Typed
primitive i at = record { ty = record { «module» = 0; index = i }; place = at }

abbrev line : Instruction → ℕ → Line
line i at = record { instruction = i; place = at }

-- a struct with store and key that holds a number, and an entry that packs one and gives it to the sender
abbrev pub seven_module : Module
seven_module = record {
  number = 7;
  structs = record {
    abilities = record { copy = false; drop = false; store = true; key = true };
    fields = primitive 1 5 ∷ [];
    place = 3;
  } ∷ [];
  functions = record {
    visibility = Entry;
    params = primitive 1 11 ∷ [];
    results = [];
    locals = primitive 1 11 ∷ [];
    code = line (MoveLoc 0) 15 ∷ line (Pack 0) 17 ∷ line Sender 19 ∷ line (MoveTo 0) 20 ∷ line Ret 22 ∷ [];
    place = 9;
  } ∷ [];
}

abbrev pub SevenSaysSo : Type 0
SevenSaysSo = module_in seven ≡ seven_module
