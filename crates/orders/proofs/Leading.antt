-- One order more in front of an answer's, and how many orders these are.
use mathlib.Core.Path.{◌≡◌, refl}
use mathlib.Core.Bool.{Bool, true, false, cond}
use mathlib.Core.List.{List, [], ◌∷◌}
use Prim.Native.Nat.{ℕ, ◌+◌, ◌≤◌}
use native.Mathlib.Omega.{arith}
use native.Mathlib.Numerals.{unary_clauses}
use lib.Dec.{ltb}
use lib.ListN.{length, get_or}
use Rattle.order.specs.declared.Command.{Command}
use Rattle.order.specs.declared.Command.TheVariants.{Copyback}
use Rattle.order.specs.declared.Order.{Order}
use Rattle.coherence.specs.declared.Orders.{Orders}
use Rattle.coherence.specs.Calls.{no_order, packed}
use Rattle.orders.specs.Orders.{order, again, ask_orders}

-- x takes the first place, and what stood in the first three the next
unfoldable pub led : Order → Orders → Orders
led x o =
    record {
      count = o.count + 1;
      list = x ∷ get_or o.list 0 no_order ∷ get_or o.list 1 no_order ∷ get_or o.list 2 no_order ∷ [];
    }

pub led_packed : (x : Order) (os : List Order) → led x (packed os) ≡ packed (x ∷ os)
unfolding led packed
led_packed x [] = refl
led_packed x (a ∷ []) = refl
led_packed x (a ∷ b ∷ []) = refl
led_packed x (a ∷ b ∷ c ∷ os) = simp unary_clauses refl

pub counted : (os : List Order) (o : Orders) → o ≡ packed os → o.count ≡ length os
unfolding packed
counted os o e = rw e refl

pub few_again : (t : Bool) (u : ℕ) (k : Command) (b : ℕ) (o : Orders) → o ≡ packed (again t u k b) → o.count ≤ 1
unfolding again
few_again true u k b o e = omega (arith, counted _ o e)
few_again false u k b o e = omega (arith, counted _ o e)

pub few_asked : (t : Bool) (u : ℕ) (k : Command) (b v : ℕ) (o : Orders) → o ≡ packed (ask_orders t u k b v) → o.count ≤ 3
unfolding ask_orders again
few_asked t u k b v o e = omega (arith, counted _ o e, go t (ltb v 4))
  where
    go : (t p : Bool) → length (cond p (order u k b true ∷ order v Copyback b false ∷ cond t [] (order u k b false ∷ [])) (order u k b false ∷ [])) ≤ 3
    go true true = omega arith
    go false true = omega arith
    go t false = omega arith

-- an answered order and what comes again
pub few_answered : (x : Order) (t : Bool) (u : ℕ) (k : Command) (b : ℕ) (o : Orders) → o ≡ packed (x ∷ again t u k b) → o.count ≤ 2
unfolding again
few_answered x true u k b o e = omega (arith, counted _ o e)
few_answered x false u k b o e = omega (arith, counted _ o e)
