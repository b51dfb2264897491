use native.Mathlib.Omega.{arith}
use Prim.Native.Nat.{◌<◌}
use borrow.Author.Tests.{lt-ltb}
use Rattle.orders.specs.Orders.{ask_orders}
use Rattle.orders.proofs.Leading.{few_answered}
use Rattle.orders.proofs.ask_orders.Goals as goal

pub led_by-requires : goal.led_by-requires
led_by-requires c = omega (arith, few_answered _ _ _ _ _ _ (c.led_by-answered.ensures _ c.again.ensures))

pub returns : goal.returns
unfolding ask_orders
returns c =
    let h : c.args.holder < 4 = omega (arith, c.if-holder-gt3.false) in
    let e = c.led_by.ensures _ (c.led_by-answered.ensures _ c.again.ensures) in
    rw (lt-ltb _ _ h) (rw (c.given-retried.ensures, c.given-yielded.ensures) at e)
