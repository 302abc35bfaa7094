-- What a total order on keys is, as a test.
use Rattle.std.specs.Prelude.{◌≡◌, Bool, true, false}

-- `before x y` tests whether x comes strictly before y
pub record Order {K : Type 0} (before : K → K → Bool) : Type 0 where
  pub never : (x : K) → before x x ≡ false
  pub chain : (x y z : K) → before x y ≡ true → before y z ≡ true → before x z ≡ true
  pub total : (x y : K) → before x y ≡ false → before y x ≡ false → x ≡ y
