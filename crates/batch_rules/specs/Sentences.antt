-- The sentences of document 02, T-03, of every list of accesses l, space for values vs, directory d and stores m and k.
use Rattle.std.specs.Prelude.{ℕ, ◌≤◌, ◌<◌, ◌≡◌, List, [], ◌∷◌, ◌++◌, map, length, take, drop}
use Rattle.order.specs.Refusal.{accepted, no_room}
use Rattle.coherence.specs.declared.Directory.{Directory}
use Rattle.coherence.specs.declared.Call.{Call}
use Rattle.coherence.specs.Calls.{refusal, answer, answers, after_all}
use Rattle.coherence.specs.Demand3.{Each, Refused, orders_given, is_load}
use Rattle.batch_rules.specs.declared.Access.{Access}
use Rattle.batch_rules.specs.Batch.{Batch, batch, none, calls_of, batch_result}

-- "Result, directory, stores and total orders equal the same accesses made singly": w is what the calls cs leave
pub record Singly (cs : List Call) (vs : List ℕ) (d : Directory) (m k : List ℕ) (w : Batch) : Type 0 where
  pub index : w.outcome.index ≡ length cs
  -- "those before it count as accepted"
  pub accepts : Each (λ r. r.refusal ≡ accepted) (answers d m k cs)
  pub orders : w.outcome.orders ≡ orders_given (answers d m k cs)
  pub directory : w.outcome.directory ≡ (after_all d m k cs).directory
  pub memory : w.memory ≡ (after_all d m k cs).memory
  pub cache : w.cache ≡ (after_all d m k cs).cache
  -- "the value places from that index on stay untouched, as do places past the list's length"
  pub values : w.values ≡ map (λ r. r.value) (answers d m k cs) ++ drop (length cs) vs

-- "gives the index and number": the call c, on what those before it left. "The refused one changes nothing and adds no order."
pub record Stopped (c : Call) (w : Batch) : Type 0 where
  pub number : w.outcome.refusal ≡ refusal w.outcome.directory w.memory w.cache c
  pub refused : Refused w.outcome.directory w.memory w.cache c

pub record Sentences (l : List Access) (vs : List ℕ) (d : Directory) (m k : List ℕ) : Type 0 where
  -- "9 first, at index 0, if the list is longer than 65,536 or than the values space, and nothing is changed"
  pub long : 65536 < length l → batch_result l vs d m k ≡ batch (none no_room d) vs m k
  pub short : length vs < length l → batch_result l vs d m k ≡ batch (none no_room d) vs m k
  -- the accesses before the index are made, and no others
  pub singly : Singly (take (batch_result l vs d m k).outcome.index (calls_of l)) vs d m k (batch_result l vs d m k)
  -- these are all, or the next one is refused: "then each access's own"
  pub whole : (batch_result l vs d m k).outcome.refusal ≡ accepted → (batch_result l vs d m k).outcome.index ≡ length l
  pub stopped : length l ≤ 65536 → length l ≤ length vs → ((batch_result l vs d m k).outcome.refusal ≡ accepted → ⊥)
      → (c : Call) × (cs : List Call) × (drop (batch_result l vs d m k).outcome.index (calls_of l) ≡ c ∷ cs) × Stopped c (batch_result l vs d m k)

unfoldable pub SentencesHold : Type 0
SentencesHold = (l : List Access) (vs : List ℕ) (d : Directory) (m k : List ℕ) → Sentences l vs d m k

-- "An empty list is accepted", whatever else is lent
unfoldable pub EmptyAccepted : Type 0
EmptyAccepted = (vs : List ℕ) (d : Directory) (m k : List ℕ) → batch_result [] vs d m k ≡ batch (none accepted d) vs m k

-- "with value 0 in places belonging to stores and flushes"
unfoldable pub ZeroValues : Type 0
ZeroValues = (d : Directory) (m k : List ℕ) (c : Call) → is_load c ≡ 0 → (answer d m k c).value ≡ 0
