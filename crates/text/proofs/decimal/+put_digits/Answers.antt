-- The measure is the number.
use Prim.Native.Nat.{◌-◌}
use native.Mathlib.Omega.{arith}
use lib.ListN.{length, length-take}
use Rattle.text.proofs.DecimalLaws.{length_more, last_digit, only_digit}
use Rattle.text.proofs.decimal.+put_digits.Goals as goal

pub put_digits-requires : goal.put_digits-requires
put_digits-requires t c =
    (omega arith, omega (arith, length-take (length c.args.out.now - 1) c.args.out.now, length_more c.args.n (omega arith) (omega arith)))

pub returns-then-n-gt9 : goal.returns-then-n-gt9
returns-then-n-gt9 t c =
    let a = c.args in
    last_digit _ a.out.now a.n (omega arith) (omega arith) c.requires c.put_digits.ensures

pub returns-else-n-gt9 : goal.returns-else-n-gt9
returns-else-n-gt9 t c = let a = c.args in only_digit a.out.now a.n (omega arith) c.requires
