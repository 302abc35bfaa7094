-- The numbers of the refusals.
use Rattle.std.specs.Prelude.{ℕ}
use Rattle.store.specs.declared.refusals.Refusal.{Refusal}
use Rattle.store.specs.declared.refusals.Refusal.TheVariants.{TooManyTouched, AtLimit, WrongLength}

abbrev pub number : Refusal → ℕ
number TooManyTouched = 36
number AtLimit = 40
number WrongLength = 41
