-- A flag is at most 1.
use mathlib.Core.Bool.{Bool, true, false}
use mathlib.Core.Path.{◌≡◌, refl}
use Rattle.std.specs.Int.{from_bool}
use Prim.Native.Nat.{◌≤◌}
use native.Mathlib.Omega.{arith}
use Rattle.order.specs.Flag.{flag}

pub flag_small : (b : Bool) → flag b ≤ 1
unfolding flag
flag_small true = omega arith
flag_small false = omega arith

-- the number that the library makes of a flag
pub flag_from_bool : (b : Bool) → from_bool b ≡ flag b
unfolding flag
flag_from_bool true = refl
flag_from_bool false = refl
