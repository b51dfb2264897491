-- Demand 3 as one claim about a whole list of calls (document 01, "One list of calls, for demand 3"), and what goes with it. It speaks of any
-- settings, and of any answers that meet the contracts of cold start and of the calls.
use Rattle.std.specs.Prelude.{ℕ, ◌+◌, ◌*◌, ◌≤◌, ◌≡◌, cond, List, [], ◌∷◌, map, length, take, eqb}
use Rattle.order.specs.Refusal.{accepted}
use Rattle.order.specs.declared.Order.{Order}
use Rattle.coherence.specs.declared.Settings.{Settings}
use Rattle.coherence.specs.declared.Directory.{Directory}
use Rattle.coherence.specs.declared.Call.{Call}
use Rattle.coherence.specs.declared.Call.TheVariants.{Load, Store, Flush}
use Rattle.coherence.specs.Answer.{Answer, Start}
use Rattle.coherence.specs.Bytes.{store_size, block_at}
use Rattle.coherence.specs.Slots.{Exclusive}
use Rattle.coherence.specs.Refusal.{peek_refusal}
use Rattle.coherence.specs.Calls.{answer, memory_after, cache_after, start_answer, cache_started, after, answers_cold, after_cold}
use Rattle.coherence.specs.Peek.{peeked}
use Rattle.coherence.specs.PlainMemory.{Reply, plain_accepts, plain_replies, plain_after_all}

-- ---- what was run

-- the contract of a cold start with the settings g on the stores m and k: it answers s and leaves the cache store k'
pub record Started (g : Settings) (m k : List ℕ) (s : Start) (k' : List ℕ) : Type 0 where
  pub answers : s ≡ start_answer g m k
  pub cache : k' ≡ cache_started m k

-- the contract of the call c, given the directory d and the stores m and k: it answers r and leaves the stores m' and k'
pub record Answered (d : Directory) (m k : List ℕ) (c : Call) (r : Answer) (m' k' : List ℕ) : Type 0 where
  pub answers : r ≡ answer d m k c
  pub memory : m' ≡ memory_after d m k c
  pub cache : k' ≡ cache_after d m k c

-- "Each call gets directory, memory store and cache store as the one before left them. Nothing else writes these three meanwhile." From d, m and k
-- the calls cs were answered by rs, and left e, m' and k' at the end
unfoldable pub Ran : Directory → List ℕ → List ℕ → List Call → List Answer → Directory → List ℕ → List ℕ → Type 0
Ran d m k [] [] e m' k' = (e ≡ d) × (m' ≡ m) × (k' ≡ k)
Ran d m k [] (r ∷ rs) e m' k' = ⊥
Ran d m k (c ∷ cs) [] e m' k' = ⊥
Ran d m k (c ∷ cs) (r ∷ rs) e m' k' =
    (m₁ : List ℕ) × (k₁ : List ℕ) × Answered d m k c r m₁ k₁ × Ran r.directory m₁ k₁ cs rs e m' k'

-- "After an accepted cold start comes any list, the empty one too, of loads, stores and flushes": one such run, with the settings g from the memory
-- store m
pub record Session (g : Settings) (m : List ℕ) (s : Start) (cs : List Call) (rs : List Answer) (e : Directory) (m' k' : List ℕ) : Type 0 where
  -- the cache store before the cold start and after it
  pub lent : List ℕ
  pub cleared : List ℕ
  pub started : Started g m lent s cleared
  pub accepts : s.refusal ≡ accepted
  pub ran : Ran s.directory m cleared cs rs e m' k'

-- ---- what is claimed

-- what an answer says besides orders and directory
unfoldable pub reply : Answer → Reply
reply r = record { accepted = eqb r.refusal accepted; number = r.value }

-- the orders in an answer, in sequence
unfoldable pub orders_in : Answer → List Order
orders_in r = take r.orders.count r.orders.list

-- "each counts one: a retried order, the same order given again, and each copyback"
unfoldable pub orders_given : List Answer → ℕ
orders_given [] = 0
orders_given (r ∷ rs) = length (orders_in r) + orders_given rs

-- 1 for a load, 1 for a store
unfoldable pub is_load : Call → ℕ
is_load (Load u a) = 1
is_load (Store u a v) = 0
is_load (Flush u b) = 0

unfoldable pub is_store : Call → ℕ
is_store (Load u a) = 0
is_store (Store u a v) = 1
is_store (Flush u b) = 0

-- the sum of f over the calls that the plain memory accepts
unfoldable pub accepted_of : (Call → ℕ) → List Call → ℕ
accepted_of f [] = 0
accepted_of f (c ∷ cs) = cond (plain_accepts c) (f c) 0 + accepted_of f cs

unfoldable pub loads : List Call → ℕ
loads cs = accepted_of is_load cs

unfoldable pub stores : List Call → ℕ
stores cs = accepted_of is_store cs

-- the bill of a store. T-13: "The bill then falls to loads plus twice the stores, with write-through units too. With steal off, .. all stays."
unfoldable pub per_store : Settings → ℕ
per_store g = cond g.steal 2 3

-- P of each answer
unfoldable pub Each : (Answer → Type 0) → List Answer → Type 0
Each P [] = Unit {0}
Each P (r ∷ rs) = P r × Each P rs

pub record Demand3 (g : Settings) (m : List ℕ) (s : Start) (cs : List Call) (rs : List Answer) : Type 0 where
  -- "The machine accepts exactly the same calls of the list, and each accepted load answers this memory's number."
  pub plain : map reply rs ≡ plain_replies m cs
  -- "A block that is EM in one unit is valid in no other", "in the directory that cold start or the call left"
  pub exclusive_first : Exclusive s.directory
  pub exclusive : Each (λ r. Exclusive r.directory) rs
  -- the settings are the chosen ones at first and stay so
  pub chosen_first : s.directory.settings ≡ g
  pub chosen : Each (λ r. r.directory.settings ≡ g) rs
  -- the bill: the orders in the answers are at most one for each accepted load and, for each accepted store, three with steal off and two with steal on
  pub bill : orders_given rs ≤ loads cs + per_store g * stores cs

-- demand 3, of every session
unfoldable pub Demand3Holds : Type 0
Demand3Holds =
    (g : Settings) (m : List ℕ) (s : Start) (cs : List Call) (rs : List Answer) (e : Directory) (m' k' : List ℕ)
    → Session g m s cs rs e m' k' → Demand3 g m s cs rs

-- ---- beside it

-- the claim is about something: all settings, every memory store of 2,048 bytes and every list of calls have their session, and its answers are these
-- alone
pub record Sessions (g : Settings) (m : List ℕ) (cs : List Call) : Type 0 where
  pub some : (k : List ℕ) → length m ≡ store_size → length k ≡ store_size
      → Session g m (start_answer g m k) cs (answers_cold g m cs) (after_cold g m cs).directory (after_cold g m cs).memory (after_cold g m cs).cache
  pub one : (s : Start) (rs : List Answer) (e : Directory) (m' k' : List ℕ) → Session g m s cs rs e m' k' → rs ≡ answers_cold g m cs

-- "Each call answers with its orders in sequence, at most four": the orders in the answer are those that the access rules give the call
pub record AnswersOrders (d : Directory) (m k : List ℕ) (c : Call) : Type 0 where
  pub few : (answer d m k c).orders.count ≤ 4
  pub counted : length (orders_in (answer d m k c)) ≡ (answer d m k c).orders.count
  pub rules : orders_in (answer d m k c) ≡ (after d m k c).orders

-- "A refused call gives its number, no orders, .. every other number 0 .., and leaves directory, .. stores .. unchanged."
pub record Refused (d : Directory) (m k : List ℕ) (c : Call) : Type 0 where
  pub value : (answer d m k c).value ≡ 0
  pub orders : orders_in (answer d m k c) ≡ []
  pub directory : (answer d m k c).directory ≡ d
  pub memory : memory_after d m k c ≡ m
  pub cache : cache_after d m k c ≡ k

-- after any list of calls, peek of any block up to 63 is not refused and shows the plain memory's 32 bytes
pub record PeekPlain (p : List ℕ) (e : Directory) (m k : List ℕ) (b : ℕ) : Type 0 where
  pub accepts : peek_refusal e m k b ≡ accepted
  pub shows : peeked e m k b ≡ block_at p b

unfoldable pub PeekShowsPlain : Type 0
PeekShowsPlain =
    (g : Settings) (m : List ℕ) (s : Start) (cs : List Call) (rs : List Answer) (e : Directory) (m' k' : List ℕ)
    → Session g m s cs rs e m' k' → (b : ℕ) → b ≤ 63 → PeekPlain (plain_after_all m cs) e m' k' b
