-- Demand 3 for lists of such calls: "Demand 1 and document 01's rule on refused calls then read access by access". After a cold start come any calls with
-- lists of accesses, each on what the one before left. The accesses that they tried, the refused ones too, are a session of the machine, whose demand 3
-- holds; and the calls tell the answers of that session.
use Rattle.std.specs.Prelude.{ℕ, ◌+◌, ◌*◌, ◌≤◌, ◌≡◌, cond, List, [], ◌∷◌, ◌++◌, eqb, take}
use Rattle.order.specs.Refusal.{accepted, no_room}
use Rattle.coherence.specs.declared.Settings.{Settings}
use Rattle.coherence.specs.declared.Directory.{Directory}
use Rattle.coherence.specs.declared.Call.{Call}
use Rattle.coherence.specs.Answer.{Answer}
use Rattle.coherence.specs.Answer.{Start}
use Rattle.coherence.specs.PlainMemory.{Reply, plain_replies}
use Rattle.coherence.specs.Demand3.{Started, Session, Demand3, loads, stores, per_store}
use Rattle.batch_rules.specs.declared.Access.{Access}
use Rattle.batch_rules.specs.Outcome.{Outcome}
use Rattle.batch_rules.specs.Batch.{batch, calls_of, batch_result}

-- a call: its list, the space for values before and after it, and its outcome
pub record Listed : Type 0 where
  pub list : List Access
  pub lent : List ℕ
  pub left : List ℕ
  pub outcome : Outcome

-- from d, m and k the calls bs met the contract, each on what the one before left, and left e, m' and k' at the end
unfoldable pub BatchesRan : Directory → List ℕ → List ℕ → List Listed → Directory → List ℕ → List ℕ → Type 0
BatchesRan d m k [] e m' k' = (e ≡ d) × (m' ≡ m) × (k' ≡ k)
BatchesRan d m k (b ∷ bs) e m' k' =
    (m₁ : List ℕ) × (k₁ : List ℕ) × (batch b.outcome b.left m₁ k₁ ≡ batch_result b.list b.lent d m k) × BatchesRan b.outcome.directory m₁ k₁ bs e m' k'

-- the accesses that a call tried: those that it made, and the refused one. A list that is refused with 9 tries none.
unfoldable pub tried : Listed → List Call
tried b = cond (eqb b.outcome.refusal no_room) [] (take (b.outcome.index + 1) (calls_of b.list))

unfoldable pub tried_all : List Listed → List Call
tried_all [] = []
tried_all (b ∷ bs) = tried b ++ tried_all bs

-- the values that the calls gave, in the places of the accesses that they made, and the orders that they counted
unfoldable pub values_told : List Listed → List ℕ
values_told [] = []
values_told (b ∷ bs) = take b.outcome.index b.left ++ values_told bs

unfoldable pub orders_told : List Listed → ℕ
orders_told [] = 0
orders_told (b ∷ bs) = b.outcome.orders + orders_told bs

-- the numbers of the accepted replies of a plain memory
unfoldable pub numbers_accepted : List Reply → List ℕ
numbers_accepted [] = []
numbers_accepted (r ∷ rs) = cond r.accepted (r.number ∷ numbers_accepted rs) (numbers_accepted rs)

pub record BatchesClaims (g : Settings) (m : List ℕ) (s : Start) (bs : List Listed) (e : Directory) (m' k' : List ℕ) : Type 0 where
  -- the same accesses made singly, and demand 3 of them
  pub answers : List Answer
  pub session : Session g m s (tried_all bs) answers e m' k'
  pub demand3 : Demand3 g m s (tried_all bs) answers
  -- the values are what one plain memory gives to the accesses that it accepts
  pub plain : values_told bs ≡ numbers_accepted (plain_replies m (tried_all bs))
  -- the orders are within the bill
  pub bill : orders_told bs ≤ loads (tried_all bs) + per_store g * stores (tried_all bs)

-- of all settings, every memory store and any calls with lists after an accepted cold start
unfoldable pub BatchesHold : Type 0
BatchesHold =
    (g : Settings) (m k cleared : List ℕ) (s : Start) (bs : List Listed) (e : Directory) (m' k' : List ℕ)
    → Started g m k s cleared → s.refusal ≡ accepted → BatchesRan s.directory m cleared bs e m' k' → BatchesClaims g m s bs e m' k'
