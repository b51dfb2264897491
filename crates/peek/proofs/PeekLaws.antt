-- What a peek knows once no test has refused it.
use mathlib.Core.Path.{◌≡◌, sym, ◌∙◌}
use mathlib.Core.Bool.{Bool, true, false, false≢true}
use mathlib.Core.List.{List}
use Prim.Native.Nat.{ℕ, ◌+◌, ◌-◌, ◌*◌, ◌≤◌, ◌<◌}
use native.Mathlib.Omega.{arith}
use lib.Dec.{leb}
use lib.ListN.{length}
use borrow.Author.Tests.{leb-true}
use Rattle.std.specs.Prelude.{Result, Ok, Err}
use Rattle.std.specs.Result.{is_err}
use Rattle.order.specs.declared.Refusal.{Refusal}
use Rattle.order.specs.Refusal.{number_of, first_refusal}
use Rattle.coherence.specs.declared.Directory.{Directory}
use Rattle.coherence.specs.Slots.{sound, place}
use Rattle.coherence.specs.Refusal.{sized, is_unit, is_block, unit_test, call_refusal, peek_refusal}
use Rattle.order.proofs.RefusalLaws.{number_pos}
use Rattle.coherence.proofs.SlotLaws.{place_lt}
use Rattle.coherence.proofs.RefusalLaws.{peek_tests, all_pass, sized_say}

-- unit 0 is one of the units
pub tests_are : (d : Directory) (m k : List ℕ) (b n : ℕ) → n ≡ call_refusal d m k 0 (leb b 63) → n ≡ peek_refusal d m k b
unfolding call_refusal peek_refusal first_refusal unit_test is_unit is_block
tests_are d m k b n e = e

-- an answer that is an error, and one that is none
pub refused : (r : Result (Unit {0}) Refusal) (n : ℕ) (t : Bool) → number_of r ≡ n → t ≡ is_err r → t ≡ true → n ≡ 0 → ⊥
refused (Ok x) n t e q h = absurd (false≢true (sym q ∙ h))
refused (Err x) n t e q h = λ z. omega (arith, e, z, number_pos x)

not_refused : (r : Result (Unit {0}) Refusal) (n : ℕ) (t : Bool) → number_of r ≡ n → t ≡ is_err r → t ≡ false → n ≡ 0
not_refused (Ok x) n t e q h = sym e
not_refused (Err x) n t e q h = absurd (false≢true (sym h ∙ q))

block_of : (b : ℕ) → is_block b ≡ true → b ≤ 63
unfolding is_block
block_of b e = leb-true _ _ e

-- the stores' sizes, and the block
pub record Known (m k : List ℕ) (b : ℕ) : Type 0 where
  pub memory : length m ≡ 2048
  pub cache : length k ≡ 2048
  pub block : b ≤ 63

pub accepted_peek : (d : Directory) (m k : List ℕ) (b : ℕ) (r : Result (Unit {0}) Refusal) (t : Bool) → number_of r ≡ peek_refusal d m k b → t ≡ is_err r → t ≡ false → peek_refusal d m k b ≡ 0
accepted_peek d m k b r t e q h = not_refused r _ t e q h

pub peek_known : (d : Directory) (m k : List ℕ) (b : ℕ) (r : Result (Unit {0}) Refusal) (t : Bool) → number_of r ≡ peek_refusal d m k b → t ≡ is_err r → t ≡ false → Known m k b
peek_known d m k b r t e q h =
    let p = all_pass (sized m k) (sound d) true (is_block b) (rw (peek_tests d m k b) at (not_refused r _ t e q h)) in
    let z = sized_say m k p.0 in
    record { memory = z.0; cache = z.1; block = block_of b p.3 }

pub place_small : (u b n : ℕ) → n ≡ place u b → u < 4 → n < 64
place_small u b n e h = rw e (place_lt u b h)

-- as long as a block
pub part_is : (n : ℕ) → 32 * n + 32 - 32 * n ≡ 32
part_is n = omega arith
