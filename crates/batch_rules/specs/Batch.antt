-- A list of accesses in one call (document 02, T-03): what it answers, and what it leaves in the three lent spaces. Directory d, memory store m, cache
-- store k, space for values vs.
use Rattle.std.specs.Prelude.{ℕ, ◌+◌, cond, ◌&&◌, List, [], ◌∷◌, map, eqb, leb, length}
use Rattle.std.proofs.lemmas.List.Edits.{sets}
use Rattle.order.specs.Refusal.{accepted, no_room}
use Rattle.coherence.specs.declared.Directory.{Directory}
use Rattle.coherence.specs.declared.Call.{Call}
use Rattle.coherence.specs.Calls.{refusal, answer, memory_after, cache_after, answers, after_all}
use Rattle.coherence.specs.Demand3.{orders_given}
use Rattle.batch_rules.specs.declared.Access.{Access}
use Rattle.batch_rules.specs.Outcome.{Outcome}

unfoldable pub calls_of : List Access → List Call
calls_of l = map (λ a. a.call) l

-- "At the first refused access the call stops": the calls before it
unfoldable pub before : Directory → List ℕ → List ℕ → List Call → List Call
before d m k [] = []
before d m k (c ∷ cs) =
    cond
    (eqb (refusal d m k c) accepted)
    (c ∷ before (answer d m k c).directory (memory_after d m k c) (cache_after d m k c) cs)
    []

-- "gives the index and number": its number, 0 if no access is refused
unfoldable pub number : Directory → List ℕ → List ℕ → List Call → ℕ
number d m k [] = accepted
number d m k (c ∷ cs) =
    cond
    (eqb (refusal d m k c) accepted)
    (number (answer d m k c).directory (memory_after d m k c) (cache_after d m k c) cs)
    (refusal d m k c)

-- the outcome so far, or at the end, and the three spaces with it
pub record Batch : Type 0 where
  pub outcome : Outcome
  pub values : List ℕ
  pub memory : List ℕ
  pub cache : List ℕ

abbrev pub batch : Outcome → List ℕ → List ℕ → List ℕ → Batch
batch s vs m k = record { outcome = s; values = vs; memory = m; cache = k }

-- "Result, directory, stores and total orders equal the same accesses made singly": the calls cs made one after the other, after those of the outcome s,
-- and the refusal that ends them. The values are those of the answers, in their places; `answer` has 0 for a store and a flush.
unfoldable pub made : Outcome → List ℕ → List ℕ → List ℕ → List Call → ℕ → Batch
made s vs m k cs refusal =
    batch
    (record {
      refusal = refusal;
      index = s.index + length cs;
      orders = s.orders + orders_given (answers s.directory m k cs);
      directory = (after_all s.directory m k cs).directory;
    })
    (sets vs s.index (map (λ r. r.value) (answers s.directory m k cs)))
    (after_all s.directory m k cs).memory
    (after_all s.directory m k cs).cache

-- what the list l makes of the outcome s: nothing, if s is refused
unfoldable pub ran : Outcome → List ℕ → List ℕ → List ℕ → List Access → Batch
ran s vs m k l =
    cond
    (eqb s.refusal accepted)
    (made s vs m k (before s.directory m k (calls_of l)) (number s.directory m k (calls_of l)))
    (batch s vs m k)

-- "longer than 65,536"
abbrev pub most_accesses : ℕ
most_accesses = 65536

-- no access is made yet
unfoldable pub none : ℕ → Directory → Outcome
none refusal d = record { refusal = refusal; index = 0; orders = 0; directory = d }

-- "9 first, at index 0, if the list is longer than 65,536 or than the values space"
unfoldable pub opened : Directory → ℕ → ℕ → Outcome
opened d count room = none (cond (leb count most_accesses && leb count room) accepted no_room) d

-- ---- what the contract cites

unfoldable pub batch_result : List Access → List ℕ → Directory → List ℕ → List ℕ → Batch
batch_result l vs d m k = ran (opened d (length l) (length vs)) vs m k l
