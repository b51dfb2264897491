-- The orders of an access by themselves. The actions that give them are `coherence`'s; `machine` proves that these come to the same. Unit u, command k,
-- block b, the unit's slot x; v is the unit that has b EM, or 4.
use Rattle.std.specs.Prelude.{ℕ, Bool, true, false, cond, List, [], ◌∷◌, ◌++◌, ltb}
use Rattle.order.specs.declared.Command.{Command}
use Rattle.order.specs.declared.Command.TheVariants.{Copyback}
use Rattle.order.specs.declared.Order.{Order}
use Rattle.coherence.specs.declared.Slot.{Slot}
use Rattle.coherence.specs.declared.Slot.TheVariants.{Invalid, Shared, Modified}
use Rattle.coherence.specs.declared.Entry.{Entry}
use Rattle.coherence.specs.declared.Settings.{Settings}
use Rattle.coherence.specs.declared.Directory.{Directory}
use Rattle.coherence.specs.declared.Orders.{Orders}
use Rattle.coherence.specs.declared.Accepted.{Accepted}

-- an order by its parts
unfoldable pub order : ℕ → Command → ℕ → Bool → Order
order u k b retried = record { unit = u; command = k; block = b; retried = retried }

-- emptying
unfoldable pub eviction_orders : ℕ → Slot → List Order
eviction_orders u Invalid = []
eviction_orders u (Shared b) = []
eviction_orders u (Modified b) = order u Copyback b false ∷ []

-- after a retry, the same order again, but where the block is stolen
unfoldable pub again : Bool → ℕ → Command → ℕ → List Order
again stolen u k b = cond stolen [] (order u k b false ∷ [])

-- asking
unfoldable pub ask_orders : Bool → ℕ → Command → ℕ → ℕ → List Order
ask_orders stolen u k b v = cond (ltb v 4) (order u k b true ∷ order v Copyback b false ∷ again stolen u k b) (order u k b false ∷ [])

-- getting a block that is not held
unfoldable pub fetch_orders : Bool → ℕ → Command → ℕ → Slot → ℕ → List Order
fetch_orders stolen u k b x v = eviction_orders u x ++ ask_orders stolen u k b v

-- a directory by its parts
abbrev pub directory_of : List Entry → Settings → List ℕ → Directory
directory_of l g h = record { slots = l; settings = g; holders = h }

-- an accepted call's answer by its parts
unfoldable pub accepted_answer : ℕ → Orders → Directory → Accepted
accepted_answer v o d = record { value = v; orders = o; directory = d }
