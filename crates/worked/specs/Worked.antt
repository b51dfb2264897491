-- Document 01, "Values to try": those marked P, together as one statement about the definitions that the contracts cite.
use Rattle.std.specs.Prelude.{ℕ, ◌+◌, ◌%◌, ◌^◌, ◌≡◌, Bool, true, false, Some, Ok, List, [], ◌∷◌, map, replicate}
use Rattle.order.specs.Refusal.{number_of}
use Rattle.bus.specs.Parity.{parity_of}
use Rattle.bus.specs.Lanes.{lanes_of}
use Rattle.bus.specs.Transfer.{plan_of}
use Rattle.bus.specs.declared.answer.Class.{Class}
use Rattle.bus.specs.declared.answer.Class.TheVariants.{ReservedNoError, UserNoError, HardwareError, ReservedError, UserError}
use Rattle.bus.specs.Answer.{class_of, code_of, is_error}
use Rattle.tape_format.specs.declared.Record.TheVariants as tape
use Rattle.tape_format.specs.Record.{record_at, record_told}
use Rattle.tape_format.specs.Write.{written_of, written_count, space_after}
use Rattle.coherence.specs.Examples.{P11}
use Rattle.handler.specs.declared.Class.TheVariants.{Low}
use Rattle.handler.specs.declared.State.{State}
use Rattle.handler.specs.Handler.{unit_granted, arbitration, initial}

-- P6: the codes, their classes, and which are errors
unfoldable pub codes : List ℕ
codes = 63 ∷ 64 ∷ 127 ∷ 128 ∷ 191 ∷ 192 ∷ []

unfoldable pub classes : List Class
classes = ReservedNoError 63 ∷ UserNoError 0 ∷ UserNoError 63 ∷ HardwareError ∷ ReservedError 191 ∷ UserError 0 ∷ []

-- P9: the bytes of the store
unfoldable pub stored : List ℕ
stored = 0x01 ∷ 0x02 ∷ 0x48 ∷ 0xAC ∷ 0x02 ∷ []

-- P12: the set {0, 7}, and the state that the first call leaves
unfoldable pub zero_and_seven : ℕ
zero_and_seven = 2 ^ 0 + 2 ^ 7

unfoldable pub after_first : State
after_first = (arbitration initial 0 zero_and_seven false).state

pub record Worked : Type 0 where
  -- word 0: parity 255
  pub p1 : parity_of 0 ≡ 255
  -- word 0x0100000000000000: parity 254
  pub p2 : parity_of 0x0100_0000_0000_0000 ≡ 254
  -- RA mod 8 = 3, BCT 6: two words, set 0x03F8
  pub p3 : (ra : ℕ) → ra % 8 ≡ 3 → lanes_of ra 6 ≡ Ok record { words = 2; positions = 0x03F8 }
  -- RA 0, BCT 7: one word, with all its positions
  pub p4 : lanes_of 0 7 ≡ Ok record { words = 1; positions = 0x00FF }
  -- RA 1, BCT 7: two words, with seven positions of the first and one of the second
  pub p5 : lanes_of 1 7 ≡ Ok record { words = 2; positions = 0x01FE }
  -- codes 63, 64, 127, 128, 191, 192
  pub p6 : (map class_of codes ≡ classes) × (map code_of classes ≡ map Ok codes) × (map is_error codes ≡ false ∷ false ∷ false ∷ true ∷ true ∷ true ∷ [])
  -- n = 1, unlocked (document 02, T-02): no BUR, no ET at all
  pub p7 : plan_of 1 1 false ≡ Ok record { bs = true; bur = false; et = false; et_at_request = false }
  -- n = 3: BUR in 1, 2; ET in 1
  pub p8 : (locked : Bool)
      → map (λ cycle. plan_of 3 cycle locked) (1 ∷ 2 ∷ 3 ∷ [])
      ≡ Ok record { bs = true; bur = true; et = true; et_at_request = true }
      ∷ Ok record { bs = false; bur = true; et = false; et_at_request = true }
      ∷ Ok record { bs = false; bur = false; et = false; et_at_request = true }
      ∷ []
  -- store by 2 at 72 of 300 is `01 02 48 Ac 02`
  pub p9 :
      (number_of (written_of (tape.Store 2 72 300) 5) ≡ 0)
      × (written_count (written_of (tape.Store 2 72 300) 5) ≡ 5)
      × (space_after (tape.Store 2 72 300) (replicate 5 0) ≡ stored)
      × (record_told 0 (record_at stored 0) ≡ record { refusal = 0; place = 5; numbers = 1 ∷ 2 ∷ 72 ∷ 300 ∷ [] })
  -- `80 00` as kind: refusal 6
  pub p10 : record_told 0 (record_at (0x80 ∷ 0x00 ∷ []) 0) ≡ record { refusal = 6; place = 0; numbers = [] }
  -- the first two drill calls: four orders, exactly one load plus three times one store
  pub p11 : P11
  -- fresh handler, LCK negated, RQH empty, RQL = {0, 7} twice: 0, then 7; with LCK asserted at the second call: 0 again
  pub p12 :
      (unit_granted Low (arbitration initial 0 zero_and_seven false).grant ≡ Some 0)
      × (unit_granted Low (arbitration after_first 0 zero_and_seven false).grant ≡ Some 7)
      × (unit_granted Low (arbitration after_first 0 zero_and_seven true).grant ≡ Some 0)
