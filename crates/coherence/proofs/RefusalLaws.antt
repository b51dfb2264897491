-- The order of the tests, spelled out, and what an accepted call or cold start knows.
use mathlib.Core.Path.{◌≡◌, refl}
use mathlib.Core.Bool.{Bool, true, false, cond}
use mathlib.Core.List.{List}
use Prim.Native.Nat.{ℕ}
use native.Mathlib.Omega.{arith}
use lib.ListN.{length}
use lib.Dec.{eqb}
use borrow.Author.Tests.{eqb-true, eq-eqb}
use Rattle.coherence.specs.declared.Directory.{Directory}
use Rattle.coherence.specs.Slots.{sound}
use Rattle.order.specs.Refusal.{first_refusal}
use Rattle.coherence.specs.Refusal.{sized, is_unit, is_block, size_test, directory_test, unit_test, target_test, call_refusal, start_refusal, peek_refusal}
use Rattle.coherence.proofs.Below.{both}

-- ---- the numbers in their order
pub call_tests : (d : Directory) (m k : List ℕ) (u : ℕ) (good : Bool)
    → call_refusal d m k u good ≡ cond (sized m k) (cond (sound d) (cond (is_unit u) (cond good 0 4) 3) 2) 1
unfolding call_refusal first_refusal size_test directory_test unit_test target_test
call_tests d m k u good = refl

pub start_tests : (m k : List ℕ) → start_refusal m k ≡ cond (sized m k) 0 1
unfolding start_refusal first_refusal size_test
start_tests m k = refl

pub peek_tests : (d : Directory) (m k : List ℕ) (b : ℕ)
    → peek_refusal d m k b ≡ cond (sized m k) (cond (sound d) (cond (is_block b) 0 4) 2) 1
unfolding peek_refusal first_refusal size_test directory_test target_test
peek_tests d m k b = refl

-- no test refuses
pub all_pass : (a b c d : Bool) → ◌≡◌ {A = ℕ} (cond a (cond b (cond c (cond d 0 4) 3) 2) 1) 0
    → (a ≡ true) × (b ≡ true) × (c ≡ true) × (d ≡ true)
all_pass true true true true e = (refl, refl, refl, refl)
all_pass true true true false e = absurd (omega arith)
all_pass true true false d e = absurd (omega arith)
all_pass true false c d e = absurd (omega arith)
all_pass false b c d e = absurd (omega arith)

-- ---- the sizes
pub sized_say : (m k : List ℕ) → sized m k ≡ true → (length m ≡ 2048) × (length k ≡ 2048)
unfolding sized
sized_say m k e =
    let h : (eqb (length m) 2048 ≡ true) × (eqb (length k) 2048 ≡ true) = both _ _ e in
    (eqb-true _ _ h.0, eqb-true _ _ h.1)

pub sized_true : (m k : List ℕ) → length m ≡ 2048 → length k ≡ 2048 → sized m k ≡ true
unfolding sized
sized_true m k e f = rw (eq-eqb (length m) 2048 e, eq-eqb (length k) 2048 f)

pub start_passed : (m k : List ℕ) → start_refusal m k ≡ 0 → (length m ≡ 2048) × (length k ≡ 2048)
start_passed m k e = sized_say m k (passed (sized m k) (rw (start_tests m k) at e))
  where
    passed : (t : Bool) → ◌≡◌ {A = ℕ} (cond t 0 1) 0 → t ≡ true
    passed true e = refl
    passed false e = absurd (omega arith)
