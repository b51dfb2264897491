-- What a call through the C interface answers and leaves, from the directory's bytes d, the memory store m, the cache store k and the answer's
-- space a, for the call c of the machine. "Machine calls test 1, 2, 3, 4 in that order"; before them, 9 if the answer's space is too small.
use Rattle.std.specs.Prelude.{ℕ, ◌≤◌, ◌<◌, ◌≡◌, Result, Ok, Err, cond, List, ◌++◌, length, drop, leb, eqb}
use Rattle.order.specs.declared.Refusal.{Refusal}
use Rattle.order.specs.Refusal.{accepted, no_room}
use Rattle.coherence.specs.declared.Accepted.{Accepted}
use Rattle.coherence.specs.declared.Call.{Call}
use Rattle.coherence.specs.Refusal.{is_unit, is_block}
use Rattle.coherence.specs.Calls.{told, refusal, answer, memory_after, cache_after}
use Rattle.crossing.specs.Capped.{capped}
use Rattle.layout.specs.Directory.{decoded, encoded, left_put}
use Rattle.answer_layout.specs.Answer.{answer_size, answer_numbers, answer_put}

-- a unit's or a block's number in a byte: 255 is no unit and no block, and is refused as those above it would be
abbrev pub narrowed : ℕ → ℕ
narrowed n = capped 255 n

-- so that the tests of both stay, and what a byte holds stays what it is
pub record Narrows : Type 0 where
  pub unit : (n : ℕ) → is_unit (narrowed n) ≡ is_unit n
  pub block : (n : ℕ) → is_block (narrowed n) ≡ is_block n
  pub kept : (n : ℕ) → n ≤ 255 → narrowed n ≡ n

-- the number that the call returns
unfoldable pub returned : List ℕ → List ℕ → List ℕ → List ℕ → Call → ℕ
returned d m k a c = cond (leb answer_size (length a)) (refusal (decoded d) m k c) no_room

unfoldable pub directory_left : List ℕ → List ℕ → List ℕ → List ℕ → Call → List ℕ
directory_left d m k a c = cond (eqb (returned d m k a c) accepted) (encoded (answer (decoded d) m k c).directory) d

unfoldable pub memory_left : List ℕ → List ℕ → List ℕ → List ℕ → Call → List ℕ
memory_left d m k a c = cond (eqb (returned d m k a c) accepted) (memory_after (decoded d) m k c) m

unfoldable pub cache_left : List ℕ → List ℕ → List ℕ → List ℕ → Call → List ℕ
cache_left d m k a c = cond (eqb (returned d m k a c) accepted) (cache_after (decoded d) m k c) k

unfoldable pub answer_left : List ℕ → List ℕ → List ℕ → List ℕ → Call → List ℕ
answer_left d m k a c =
    cond (eqb (returned d m k a c) accepted) (answer_numbers (answer (decoded d) m k c) ++ drop answer_size a) a

-- what a call's answer makes of the directory's bytes, and of the answer's space
unfoldable pub directory_handed : Result Accepted Refusal → List ℕ → List ℕ
directory_handed (Ok r) d = left_put r.directory d
directory_handed (Err refusal) d = d

unfoldable pub answer_handed : Result Accepted Refusal → List ℕ → List ℕ
answer_handed (Ok r) a = answer_put (told r.directory (Ok r)) a
answer_handed (Err refusal) a = a

-- "A refused call leaves everything", the answer's space too; and a space that is too small is refused before all else
pub record RefusedLeaves (d m k a : List ℕ) (c : Call) : Type 0 where
  pub directory : (returned d m k a c ≡ accepted → ⊥) → directory_left d m k a c ≡ d
  pub memory : (returned d m k a c ≡ accepted → ⊥) → memory_left d m k a c ≡ m
  pub cache : (returned d m k a c ≡ accepted → ⊥) → cache_left d m k a c ≡ k
  pub answer : (returned d m k a c ≡ accepted → ⊥) → answer_left d m k a c ≡ a
  pub no_room : length a < answer_size → returned d m k a c ≡ 9
