-- Every agent has exactly one device, by one test that is computed for each device over all 32 agents; and a table that passes a test has every agent's device.
use Prim.Native.Nat.{ℕ, zero, suc, ◌<◌, ◌%◌}
use mathlib.Core.Path.{◌≡◌, refl, sym, ap, ◌∙◌}
use mathlib.Core.Bool.{Bool, true, not, ◌&&◌, ◌||◌, and-eq-true_iff}
use mathlib.Core.List.{List}
use native.Mathlib.Omega.{arith}
use lib.Dec.{eqb}
use lib.ListN.{get_or}
use borrow.Author.Count.{below_none, below_more}
use borrow.Author.Tests.{eqb-true}
use Rattle.jbus.specs.declared.device.Device.{Device}
use Rattle.jbus.specs.declared.device.Device.TheVariants.{Processor, NotSupported, Illegal, Bridge0, Bridge1}
use Rattle.jbus.specs.Device.{low_bits, in_row, by_row, device_of, device_number, DevicesNumbered, OneDevice}

-- ---- a test of all numbers below n

unfoldable pub every : (ℕ → Bool) → ℕ → Bool
every t zero = true
every t (suc n) = t n && every t n

at : (t : ℕ → Bool) (n : ℕ) → every t n ≡ true → (k : ℕ) → k < n → t k ≡ true
unfolding every
at t zero e k l = below_none (λ k. t k ≡ true) k l
at t (suc n) e k l =
    let parts : (t n ≡ true) × (every t n ≡ true) = (and-eq-true_iff (t n) (every t n)).0 e in
    below_more (λ k. t k ≡ true) n (at t n parts.1) parts.0 k (omega arith)

-- ---- exactly one device

-- the least number of a row, which tells the devices apart
unfoldable pub least : Device → ℕ
least Processor = 0
least NotSupported = 4
least Illegal = 6
least Bridge0 = 12
least Bridge1 = 14

device_of_least : (d : Device) → device_of (least d) ≡ d
unfolding least device_of low_bits by_row in_row
device_of_least Processor = refl
device_of_least NotSupported = refl
device_of_least Illegal = refl
device_of_least Bridge0 = refl
device_of_least Bridge1 = refl

apart : (d e : Device) → least d ≡ least e → d ≡ e
apart d e same = sym (device_of_least d) ∙ ap device_of same ∙ device_of_least e

-- the row of the agent's device has the agent, and the row of d has it only if d is that device
alone : Device → ℕ → Bool
alone d agent = in_row (device_of agent) (low_bits agent) && (not (in_row d (low_bits agent)) || eqb (least d) (least (device_of agent)))

computed : (d : Device) → every (alone d) 32 ≡ true
unfolding every alone least device_of low_bits by_row in_row
computed Processor = refl
computed NotSupported = refl
computed Illegal = refl
computed Bridge0 = refl
computed Bridge1 = refl

pub one_device : (agent : ℕ) → agent < 32 → OneDevice agent
unfolding alone
one_device agent l = record { its = (parts Processor).0; no_other = other }
  where
    parts : (d : Device)
        → (in_row (device_of agent) (low_bits agent) ≡ true)
        × ((not (in_row d (low_bits agent)) || eqb (least d) (least (device_of agent))) ≡ true)
    parts d = (and-eq-true_iff _ _).0 (at (alone d) 32 (computed d) agent l)

    other : (d : Device) → in_row d (low_bits agent) ≡ true → d ≡ device_of agent
    other d e =
        let same : eqb (least d) (least (device_of agent)) ≡ true = rw e at (parts d).1 in
        apart d (device_of agent) (eqb-true _ _ same)

pub devices_numbered : DevicesNumbered
unfolding DevicesNumbered device_number
devices_numbered = refl

-- ---- a table by the low four bits

unfoldable pub entry : List Device → ℕ → Bool
entry table n = eqb (least (get_or table n Processor)) (least (by_row n))

-- one that passes the test at each of its 16 entries has every agent's device
pub in_table : (table : List Device) → every (entry table) 16 ≡ true → (agent : ℕ) → get_or table (agent % 16) Processor ≡ device_of agent
unfolding entry device_of low_bits
in_table table right agent = apart _ _ (eqb-true _ _ (at (entry table) 16 right (agent % 16) (omega arith)))
