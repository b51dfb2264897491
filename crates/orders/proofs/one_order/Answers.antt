use Rattle.orders.proofs.one_order.Goals as goal

pub returns : goal.returns
returns c = rw c.given.ensures at c.led_by.ensures _ c.no_orders.ensures
