-- The answers of reading and writing, with their tests in order, and the fields of a half.
use Prim.Native.Nat.{ℕ, ◌+◌, ◌*◌, ◌%◌, ◌^◌, ◌<◌, ◌≤◌}
use mathlib.Core.Path.{◌≡◌, refl}
use mathlib.Core.List.{List, [], ◌∷◌}
use Rattle.std.specs.Prelude.{Result, Ok, Err, map}
use mathlib.Core.Bool.{Bool, true, false, cond, ◌&&◌}
use native.Mathlib.Omega.{arith}
use lib.Dec.{eqb, leb}
use lib.Pow.{mod-pow-add, mod-mod-pow, field}
use Rattle.order.specs.declared.Refusal.{Refusal}
use Rattle.order.specs.declared.Refusal.TheVariants.{UnknownKind, FieldRange, HalvesDiffer}
use Rattle.order.specs.Refusal.{number_of, first_refusal}
use Rattle.jbus.specs.declared.interrupt.AddressCycle.{AddressCycle}
use Rattle.jbus.specs.declared.interrupt.Interrupt.{Interrupt}
use Rattle.jbus.specs.Device.{device_of}
use Rattle.jbus.specs.Interrupt.{transaction_of, reserved_of, target_of, agent_of, low_reserved_of, Test, numbered, tested, halves_test, transaction_test, reserved_test, reading_tests, interrupt_of, interrupt_read, read_refusal, half_of, writing_tests, cycle_of, cycle_written, write_refusal}
use Rattle.jbus.specs.RoundTrip.{Readable}

-- ---- the tests in their order

first_tested : {A : Type 0} (x : A) (ts : List Test) → number_of (tested ts x) ≡ first_refusal (map numbered ts)
unfolding tested numbered first_refusal
first_tested x [] = refl
first_tested x (t ∷ ts) = on t.passes (first_tested x ts)
  where
    on : (b : Bool) → number_of (tested ts x) ≡ first_refusal (map numbered ts)
        → number_of (cond b (tested ts x) (Err t.refusal)) ≡ cond b (first_refusal (map numbered ts)) (numbered t).number
    on true rest = rest
    on false rest = refl

pub read_first : (c : AddressCycle) → read_refusal c ≡ first_refusal (map numbered (reading_tests c))
unfolding read_refusal interrupt_read
read_first c = first_tested (interrupt_of c.lower) (reading_tests c)

pub write_first : (t a : ℕ) → write_refusal t a ≡ first_refusal (map numbered (writing_tests t a))
unfolding write_refusal cycle_written
write_first t a = first_tested (cycle_of t a) (writing_tests t a)

-- what is read of two equal halves
unfoldable pub half_read : ℕ → Result Interrupt Refusal
half_read w =
    cond (eqb (transaction_of w) 0x14)
    (cond (eqb (reserved_of w) 0 && eqb (low_reserved_of w) 0) (Ok (interrupt_of w)) (Err FieldRange))
    (Err UnknownKind)

pub read_tests : (c : AddressCycle) → interrupt_read c ≡ cond (eqb c.upper c.lower) (half_read c.lower) (Err HalvesDiffer)
unfolding interrupt_read tested reading_tests halves_test transaction_test reserved_test half_read
read_tests c = refl

pub write_tests : (t a : ℕ) → cycle_written t a ≡ cond (leb t 31 && leb a 31) (Ok (cycle_of t a)) (Err FieldRange)
unfolding cycle_written tested writing_tests
write_tests t a = refl

-- ---- the fields of what is written

module _ (t a : ℕ) (ht : t ≤ 31) (ha : a ≤ 31) where
  pub readable_written : Readable (cycle_of t a)
  unfolding transaction_of reserved_of low_reserved_of half_of cycle_of
  readable_written = record { equal = refl; transaction = omega arith; reserved = omega arith; low_reserved = omega arith }

  pub interrupt_written : interrupt_of (half_of t a) ≡ record { target = t; agent = a; device = device_of a }
  unfolding target_of agent_of interrupt_of half_of
  interrupt_written = rw (target, agent)
    where
      target : target_of (half_of t a) ≡ t
      target = omega arith

      agent : agent_of (half_of t a) ≡ a
      agent = omega arith

  pub half_small : half_of t a < 2 ^ 48
  unfolding half_of
  half_small = omega arith

-- ---- the fields of any half

pub target_small : (w : ℕ) → target_of w ≤ 31
unfolding target_of
target_small w = omega arith

pub agent_small : (w : ℕ) → agent_of w ≤ 31
unfolding agent_of
agent_small w = omega arith

-- bits 47-0 are the five fields
fields_of_half : (w : ℕ)
    → w % 2 ^ 48 ≡ transaction_of w * 2 ^ 43 + (reserved_of w * 2 ^ 41 + (target_of w * 2 ^ 36 + (agent_of w * 2 ^ 31 + low_reserved_of w)))
unfolding transaction_of reserved_of target_of agent_of low_reserved_of
fields_of_half w = rw (field w 5 43, field w 2 41, field w 5 36, field w 5 31, mod-pow-add w 5 43, mod-pow-add w 2 41, mod-pow-add w 5 36, mod-pow-add w 5 31)

-- so the half of target and agent is what bits 47-0 are
pub half_of_fields : (w : ℕ) → transaction_of w ≡ 0x14 → reserved_of w ≡ 0 → low_reserved_of w ≡ 0 → half_of (target_of w) (agent_of w) ≡ w % 2 ^ 48
unfolding half_of
half_of_fields w e r z = let parts = fields_of_half w in omega arith

-- the fields do not see bits 63-48
pub half_cleared : (w : ℕ) → half_read (w % 2 ^ 48) ≡ half_read w
unfolding transaction_of reserved_of target_of agent_of low_reserved_of interrupt_of half_read
half_cleared w = rw (mod-mod-pow w 0 48, mod-mod-pow w 5 43, mod-mod-pow w 7 41, mod-mod-pow w 12 36, mod-mod-pow w 17 31)
