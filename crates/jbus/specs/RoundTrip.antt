-- What reading and writing an address cycle promise: which cycles are read, which numbers are written, and that each undoes the other (document 02, T-14).
use Rattle.std.specs.Prelude.{ℕ, ◌%◌, ◌^◌, ◌<◌, ◌≤◌, ◌≡◌, Ok, cond, ◌&&◌, [], ◌∷◌, map, eqb, leb}
use Rattle.order.specs.Refusal.{first_refusal}
use Rattle.jbus.specs.declared.interrupt.AddressCycle.{AddressCycle}
use Rattle.jbus.specs.declared.interrupt.Interrupt.{Interrupt}
use Rattle.jbus.specs.Device.{device_of, device_number}
use Rattle.jbus.specs.Interrupt.{transaction_of, reserved_of, target_of, agent_of, low_reserved_of, numbered, reading_tests, interrupt_of, interrupt_read, read_refusal, read_told, half_of, writing_tests, cycle_of, cycle_written, write_refusal, written_told}

-- what an accepted cycle is, in the paper's own numbers
pub record Readable (c : AddressCycle) : Type 0 where
  pub equal : c.upper ≡ c.lower
  pub transaction : transaction_of c.lower ≡ 0x14
  pub reserved : reserved_of c.lower ≡ 0
  pub low_reserved : low_reserved_of c.lower ≡ 0

-- such cycles are read, and no other
pub record ReadsExactly (c : AddressCycle) : Type 0 where
  pub all : Readable c → interrupt_read c ≡ Ok (interrupt_of c.lower)
  pub only : (i : Interrupt) → interrupt_read c ≡ Ok i → Readable c
  -- its refusal is that of the first test that does not pass
  pub first : read_refusal c ≡ first_refusal (map numbered (reading_tests c))
  -- the answer in numbers, with the tests in their order
  pub told : read_told (interrupt_read c)
      ≡ cond (eqb c.upper c.lower)
      (cond (eqb (transaction_of c.lower) 0x14)
      (cond (eqb (reserved_of c.lower) 0 && eqb (low_reserved_of c.lower) 0) (0 ∷ target_of c.lower ∷ agent_of c.lower ∷ device_number (device_of (agent_of c.lower)) ∷ []) (8 ∷ 0 ∷ 0 ∷ 0 ∷ []))
      (7 ∷ 0 ∷ 0 ∷ 0 ∷ []))
      (17 ∷ 0 ∷ 0 ∷ 0 ∷ [])

-- numbers up to 31 are written, and no other
pub record WritesExactly (target agent : ℕ) : Type 0 where
  pub all : target ≤ 31 → agent ≤ 31 → cycle_written target agent ≡ Ok (cycle_of target agent)
  pub only : (c : AddressCycle) → cycle_written target agent ≡ Ok c → (target ≤ 31) × (agent ≤ 31)
  pub first : write_refusal target agent ≡ first_refusal (map numbered (writing_tests target agent))
  pub told : written_told (cycle_written target agent)
      ≡ cond (leb target 31 && leb agent 31) (0 ∷ half_of target agent ∷ half_of target agent ∷ []) (8 ∷ 0 ∷ 0 ∷ [])

-- bits 63-48 cleared
unfoldable pub cleared : AddressCycle → AddressCycle
cleared c = record { upper = c.upper % 2 ^ 48; lower = c.lower % 2 ^ 48 }

pub record RoundTrip : Type 0 where
  -- "reading what was written gives the same pair", and the agent's device
  pub back : (target agent : ℕ) (c : AddressCycle) → cycle_written target agent ≡ Ok c
      → interrupt_read c ≡ Ok (record { target = target; agent = agent; device = device_of agent })
  -- writing what was read gives the cycle with bits 63-48 cleared
  pub forth : (c : AddressCycle) (i : Interrupt) → interrupt_read c ≡ Ok i → cycle_written i.target i.agent ≡ Ok (cleared c)
  -- "two equal 64-bit halves", "bits 63-48 .. written zero"
  pub well_formed : (target agent : ℕ) (c : AddressCycle) → cycle_written target agent ≡ Ok c → (c.upper ≡ c.lower) × (c.lower < 2 ^ 48)
  -- "bits 63-48 are ignored on reading"; that the halves differ there is refused all the same
  pub ignored : (c : AddressCycle) → c.upper ≡ c.lower → interrupt_read (cleared c) ≡ interrupt_read c
