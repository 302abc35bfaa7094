-- The visibility that a byte says.
use Rattle.std.specs.Prelude.{ℕ, cond, ◌==◌}
use Rattle.modules.specs.declared.parts.Visibility.{Visibility}
use Rattle.modules.specs.declared.parts.Visibility.TheVariants.{Private, Public, Entry}

abbrev pub visibility_of : ℕ → Visibility
visibility_of byte = cond (byte == 1) Public (cond (byte == 2) Entry Private)
