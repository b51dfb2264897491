-- What reading and writing an interrupt through the C interface leave: from the answer of the crate `jbus`, and from a number x as it was. A refused call
-- leaves everything. What they return is the number of the answer.
use Rattle.std.specs.Prelude.{ℕ, Result, Ok, Err}
use Rattle.order.specs.declared.Refusal.{Refusal}
use Rattle.jbus.specs.declared.interrupt.AddressCycle.{AddressCycle}
use Rattle.jbus.specs.declared.interrupt.Interrupt.{Interrupt}
use Rattle.jbus.specs.Device.{device_number}

unfoldable pub halves : ℕ → ℕ → AddressCycle
halves upper lower = record { upper = upper; lower = lower }

-- ---- reading

unfoldable pub target_left : Result Interrupt Refusal → ℕ → ℕ
target_left (Ok i) x = i.target
target_left (Err refusal) x = x

unfoldable pub agent_left : Result Interrupt Refusal → ℕ → ℕ
agent_left (Ok i) x = i.agent
agent_left (Err refusal) x = x

unfoldable pub device_left : Result Interrupt Refusal → ℕ → ℕ
device_left (Ok i) x = device_number i.device
device_left (Err refusal) x = x

-- ---- writing

unfoldable pub upper_left : Result AddressCycle Refusal → ℕ → ℕ
upper_left (Ok c) x = c.upper
upper_left (Err refusal) x = x

unfoldable pub lower_left : Result AddressCycle Refusal → ℕ → ℕ
lower_left (Ok c) x = c.lower
lower_left (Err refusal) x = x
