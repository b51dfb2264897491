-- The address cycle of an interrupt on J-Bus (document 02, T-14; source document 000, section 3.6.1): two equal halves of 64 bits.
use Rattle.std.specs.Prelude.{ℕ, ◌+◌, ◌*◌, ◌/◌, ◌%◌, ◌^◌, Bool, Result, Ok, Err, cond, ◌&&◌, List, [], ◌∷◌, eqb, leb}
use Rattle.order.specs.declared.Refusal.{Refusal}
use Rattle.order.specs.declared.Refusal.TheVariants.{UnknownKind, FieldRange, HalvesDiffer}
use Rattle.order.specs.Refusal.{accepted, refusal_number, number_of, Test as Numbered}
use Rattle.jbus.specs.declared.interrupt.AddressCycle.{AddressCycle}
use Rattle.jbus.specs.declared.interrupt.Interrupt.{Interrupt}
use Rattle.jbus.specs.Device.{device_of, device_number}

-- ---- the fields of a half

-- the weight of each field's lowest bit. A field is what the weight of the next one leaves, divided by its own.
abbrev pub agent_weight : ℕ
agent_weight = 2 ^ 31

abbrev pub target_weight : ℕ
target_weight = 2 ^ 36

abbrev pub reserved_weight : ℕ
reserved_weight = 2 ^ 41

abbrev pub transaction_weight : ℕ
transaction_weight = 2 ^ 43

abbrev pub ignored_weight : ℕ
ignored_weight = 2 ^ 48

-- bits 47-43: the transaction
unfoldable pub transaction_of : ℕ → ℕ
transaction_of half = half % ignored_weight / transaction_weight

-- bits 42-41, which are zero
unfoldable pub reserved_of : ℕ → ℕ
reserved_of half = half % transaction_weight / reserved_weight

-- bits 40-36: the target thread
unfoldable pub target_of : ℕ → ℕ
target_of half = half % reserved_weight / target_weight

-- bits 35-31: the source agent
unfoldable pub agent_of : ℕ → ℕ
agent_of half = half % target_weight / agent_weight

-- bits 30-0, which are zero
unfoldable pub low_reserved_of : ℕ → ℕ
low_reserved_of half = half % agent_weight

-- "bits 47-43 are 0x14": INT, an interrupt request (Table 3-1)
abbrev pub interrupt_request : ℕ
interrupt_request = 0x14

-- ---- tests in their order

-- a test, and the refusal that is given where it does not pass
pub record Test : Type 0 where
  pub passes : Bool
  pub refusal : Refusal

-- the same test with the refusal's number
unfoldable pub numbered : Test → Numbered
numbered t = record { passes = t.passes; number = refusal_number t.refusal }

-- the value where all tests pass, and else the refusal of the first that does not
unfoldable pub tested : {A : Type 0} → List Test → A → Result A Refusal
tested [] x = Ok x
tested (t ∷ ts) x = cond t.passes (tested ts x) (Err t.refusal)

-- ---- reading

-- "17 (halves differ in any bit)"
unfoldable pub halves_test : AddressCycle → Test
halves_test c = record { passes = eqb c.upper c.lower; refusal = HalvesDiffer }

-- "then 7 (not 0x14)"
unfoldable pub transaction_test : ℕ → Test
transaction_test half = record { passes = eqb (transaction_of half) interrupt_request; refusal = UnknownKind }

-- "then 8 (nonzero zero field ..)"
unfoldable pub reserved_test : ℕ → Test
reserved_test half = record { passes = eqb (reserved_of half) 0 && eqb (low_reserved_of half) 0; refusal = FieldRange }

-- "Reading gives target, agent and device"
unfoldable pub interrupt_of : ℕ → Interrupt
interrupt_of half = record { target = target_of half; agent = agent_of half; device = device_of (agent_of half) }

unfoldable pub reading_tests : AddressCycle → List Test
reading_tests c = halves_test c ∷ transaction_test c.lower ∷ reserved_test c.lower ∷ []

unfoldable pub interrupt_read : AddressCycle → Result Interrupt Refusal
interrupt_read c = tested (reading_tests c) (interrupt_of c.lower)

unfoldable pub read_refusal : AddressCycle → ℕ
read_refusal c = number_of (interrupt_read c)

-- the answer in numbers: refusal, target, agent, device; refused, the others are 0
unfoldable pub read_told : Result Interrupt Refusal → List ℕ
read_told (Ok i) = accepted ∷ i.target ∷ i.agent ∷ device_number i.device ∷ []
read_told (Err refusal) = refusal_number refusal ∷ 0 ∷ 0 ∷ 0 ∷ []

-- ---- writing

-- "8 (.. on writing a number above 31)"
unfoldable pub writing_tests : ℕ → ℕ → List Test
writing_tests target agent = record { passes = leb target 31 && leb agent 31; refusal = FieldRange } ∷ []

-- every other bit is zero, bits 63-48 too
unfoldable pub half_of : ℕ → ℕ → ℕ
half_of target agent = interrupt_request * transaction_weight + target * target_weight + agent * agent_weight

unfoldable pub cycle_of : ℕ → ℕ → AddressCycle
cycle_of target agent = record { upper = half_of target agent; lower = half_of target agent }

unfoldable pub cycle_written : ℕ → ℕ → Result AddressCycle Refusal
cycle_written target agent = tested (writing_tests target agent) (cycle_of target agent)

unfoldable pub write_refusal : ℕ → ℕ → ℕ
write_refusal target agent = number_of (cycle_written target agent)

-- the answer in numbers: refusal, upper half, lower half; refused, the others are 0
unfoldable pub written_told : Result AddressCycle Refusal → List ℕ
written_told (Ok c) = accepted ∷ c.upper ∷ c.lower ∷ []
written_told (Err refusal) = refusal_number refusal ∷ 0 ∷ 0 ∷ []
