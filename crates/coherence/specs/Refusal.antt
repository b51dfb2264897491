-- Document 01, "Numbers of refusal": the tests of the machine's calls, each with its number, and their order.
use Rattle.std.specs.Prelude.{ℕ, ◌%◌, Bool, ◌&&◌, List, [], ◌∷◌, length, leb, eqb}
use Rattle.order.specs.Refusal.{wrong_size, broken_directory, no_unit, bad_address, Test, first_refusal}
use Rattle.coherence.specs.declared.Directory.{Directory}
use Rattle.coherence.specs.Bytes.{store_size}
use Rattle.coherence.specs.Slots.{last_unit, last_block, sound}

-- "not a multiple of 4, or above 2,044"
abbrev pub last_address : ℕ
last_address = 2044

-- the memory store m and the cache store k have their size
unfoldable pub sized : List ℕ → List ℕ → Bool
sized m k = eqb (length m) store_size && eqb (length k) store_size

unfoldable pub is_unit : ℕ → Bool
is_unit u = leb u last_unit

unfoldable pub is_address : ℕ → Bool
is_address a = eqb (a % 4) 0 && leb a last_address

unfoldable pub is_block : ℕ → Bool
is_block b = leb b last_block

-- 1 wrong size
unfoldable pub size_test : List ℕ → List ℕ → Test
size_test m k = record { passes = sized m k; number = wrong_size }

-- 2 broken directory
unfoldable pub directory_test : Directory → Test
directory_test d = record { passes = sound d; number = broken_directory }

-- 3 no unit
unfoldable pub unit_test : ℕ → Test
unit_test u = record { passes = is_unit u; number = no_unit }

-- 4 bad address, of an address or block that is one of the machine's or not
unfoldable pub target_test : Bool → Test
target_test good = record { passes = good; number = bad_address }

-- "Machine calls test 1, 2, 3, 4 in that order."
unfoldable pub call_refusal : Directory → List ℕ → List ℕ → ℕ → Bool → ℕ
call_refusal d m k u good = first_refusal (size_test m k ∷ directory_test d ∷ unit_test u ∷ target_test good ∷ [])

-- "Cold start tests 1 alone."
unfoldable pub start_refusal : List ℕ → List ℕ → ℕ
start_refusal m k = first_refusal (size_test m k ∷ [])

-- Peek "tests 1, 2, 4".
unfoldable pub peek_refusal : Directory → List ℕ → List ℕ → ℕ → ℕ
peek_refusal d m k b = first_refusal (size_test m k ∷ directory_test d ∷ target_test (is_block b) ∷ [])
