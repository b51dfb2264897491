use Rattle.orders.specs.Orders.{eviction_orders, fetch_orders}
use Rattle.orders.proofs.fetch_orders.Goals as goal

pub returns-in-Modified : goal.returns-in-Modified
unfolding fetch_orders eviction_orders
returns-in-Modified c = rw c.in-Modified.is (rw c.given.ensures at (c.led_by.ensures _ c.ask_orders-asked.ensures))
