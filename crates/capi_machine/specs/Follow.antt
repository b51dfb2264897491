-- Calls through the C interface follow on each other as the machine's own do: "Each call gets directory, memory store and cache store as the one before
-- left them." So what is proved of the machine's lists of calls, demand 3 too, holds of lists of calls through the interface.
use Rattle.std.specs.Prelude.{ℕ, ◌≤◌, ◌≡◌, cond, List, [], ◌∷◌, map, length, take, eqb}
use Rattle.order.specs.Refusal.{accepted}
use Rattle.coherence.specs.declared.Call.{Call}
use Rattle.coherence.specs.Answer.{Answer}
use Rattle.coherence.specs.Calls.{answers, after_all}
use Rattle.layout.specs.Directory.{decoded}
use Rattle.answer_layout.specs.Answer.{answer_size, answer_numbers}
use Rattle.capi_machine.specs.Call.{returned, directory_left, memory_left, cache_left, answer_left}

-- what a caller lends
pub record Lent : Type 0 where
  pub directory : List ℕ
  pub memory : List ℕ
  pub cache : List ℕ
  pub answer : List ℕ

-- the same after a call
unfoldable pub called : Lent → Call → Lent
called w c =
    record {
      directory = directory_left w.directory w.memory w.cache w.answer c;
      memory = memory_left w.directory w.memory w.cache w.answer c;
      cache = cache_left w.directory w.memory w.cache w.answer c;
      answer = answer_left w.directory w.memory w.cache w.answer c;
    }

-- after a list of calls
unfoldable pub called_all : Lent → List Call → Lent
called_all w [] = w
called_all w (c ∷ cs) = called_all (called w c) cs

-- what a caller hears: the number that a call returns and, of an accepted one, the answer's numbers
pub record Heard : Type 0 where
  pub number : ℕ
  pub answer : List ℕ

unfoldable pub heard : Lent → Call → Heard
heard w c =
    let n : ℕ = returned w.directory w.memory w.cache w.answer c in
    record { number = n; answer = cond (eqb n accepted) (take answer_size (called w c).answer) [] }

unfoldable pub heard_all : Lent → List Call → List Heard
heard_all w [] = []
heard_all w (c ∷ cs) = heard w c ∷ heard_all (called w c) cs

-- an answer of the machine as a caller hears it
unfoldable pub told : Answer → Heard
told r = record { number = r.refusal; answer = cond (eqb r.refusal accepted) (answer_numbers r) [] }

pub record Follows (w : Lent) (cs : List Call) : Type 0 where
  pub hears : heard_all w cs ≡ map told (answers (decoded w.directory) w.memory w.cache cs)
  pub directory : decoded (called_all w cs).directory ≡ (after_all (decoded w.directory) w.memory w.cache cs).directory
  pub memory : (called_all w cs).memory ≡ (after_all (decoded w.directory) w.memory w.cache cs).memory
  pub cache : (called_all w cs).cache ≡ (after_all (decoded w.directory) w.memory w.cache cs).cache

-- of every list, refused calls too, where the answer has room
unfoldable pub FollowsOn : Type 0
FollowsOn = (w : Lent) (cs : List Call) → answer_size ≤ length w.answer → Follows w cs
