-- What cold start and each call answer and leave, refusals included: the definitions that the contracts cite. A call is given the directory d,
-- the memory store m and the cache store k.
use Rattle.std.specs.Prelude.{ℕ, ◌≡◌, Bool, false, Result, Ok, Err, cond, List, [], ◌∷◌, ◌++◌, length, take, replicate, eqb}
use Rattle.order.specs.declared.Refusal.{Refusal}
use Rattle.order.specs.Refusal.{refusal_number, accepted}
use Rattle.order.specs.declared.Command.TheVariants.{Read}
use Rattle.order.specs.declared.Order.{Order}
use Rattle.coherence.specs.declared.Settings.{Settings}
use Rattle.coherence.specs.declared.Directory.{Directory}
use Rattle.coherence.specs.declared.Call.{Call}
use Rattle.coherence.specs.declared.Call.TheVariants.{Load, Store, Flush}
use Rattle.coherence.specs.declared.Orders.{Orders}
use Rattle.coherence.specs.declared.Accepted.{Accepted}
use Rattle.coherence.specs.Answer.{Answer, Start}
use Rattle.coherence.specs.Bytes.{store_size, word_at}
use Rattle.coherence.specs.Slots.{kept, cold_directory}
use Rattle.coherence.specs.Access.{Run, ready, load, store, flush, cache_place}
use Rattle.coherence.specs.Refusal.{is_address, is_block, call_refusal, start_refusal}

-- the unit that calls
unfoldable pub unit_of : Call → ℕ
unit_of (Load u a) = u
unit_of (Store u a v) = u
unit_of (Flush u b) = u

-- the address or block is one of the machine's
unfoldable pub is_target : Call → Bool
is_target (Load u a) = is_address a
is_target (Store u a v) = is_address a
is_target (Flush u b) = is_block b

-- the number of a call's refusal, 0 if it is accepted
unfoldable pub refusal : Directory → List ℕ → List ℕ → Call → ℕ
refusal d m k c = call_refusal d m k (unit_of c) (is_target c)

-- what an accepted call makes of the machine
unfoldable pub act : Call → Run → Run
act (Load u a) w = load u a w
act (Store u a v) w = store u a v w
act (Flush u b) w = flush u b w

-- the value that an accepted call answers, from the machine that it left. That a store's and a flush's is 0 is our choice.
unfoldable pub loaded : Call → Run → ℕ
loaded (Load u a) w = word_at w.cache (cache_place u a)
loaded (Store u a v) w = 0
loaded (Flush u b) w = 0

-- T-08: "each call keeps it true": the sets of holders at the end of a call
unfoldable pub settle : Run → Run
settle w = record { directory = kept w.directory; memory = w.memory; cache = w.cache; orders = w.orders }

-- the machine that a call leaves; a refused one gives no order and changes nothing
unfoldable pub after : Directory → List ℕ → List ℕ → Call → Run
after d m k c = cond (eqb (refusal d m k c) accepted) (settle (act c (ready d m k))) (ready d m k)

-- "A refused call gives its number, no orders, .. every other number 0"
unfoldable pub value_of : Directory → List ℕ → List ℕ → Call → ℕ
value_of d m k c = cond (eqb (refusal d m k c) accepted) (loaded c (after d m k c)) 0

-- what stands in a place of an answer's list that no order has: our choice
abbrev pub no_order : Order
no_order = record { unit = 0; command = Read; block = 0; retried = false }

-- a call's orders as its answer has them: how many, and four places. No call gives more than four.
unfoldable pub packed : List Order → Orders
packed os = record { count = length os; list = take 4 (os ++ replicate 4 no_order) }

-- ---- what the contracts cite

unfoldable pub answer : Directory → List ℕ → List ℕ → Call → Answer
answer d m k c =
    record {
      refusal = refusal d m k c;
      value = value_of d m k c;
      orders = packed (after d m k c).orders;
      directory = (after d m k c).directory;
    }

unfoldable pub memory_after : Directory → List ℕ → List ℕ → Call → List ℕ
memory_after d m k c = (after d m k c).memory

unfoldable pub cache_after : Directory → List ℕ → List ℕ → Call → List ℕ
cache_after d m k c = (after d m k c).cache

-- "Cold start tests 1 alone; refused, its directory is all invalid", and it "holds the chosen kinds too": it is the same either way
unfoldable pub start_answer : Settings → List ℕ → List ℕ → Start
start_answer g m k = record { refusal = start_refusal m k; directory = cold_directory g }

-- "cache store all zeros, memory as lent"; a refused cold start leaves both as they were
unfoldable pub cache_started : List ℕ → List ℕ → List ℕ
cache_started m k = cond (eqb (start_refusal m k) accepted) (replicate store_size 0) k

-- ---- the code's answers in document 01's numbers

-- the answer of a call that is given the directory d: "A refused call gives its number, no orders, .. every other number 0", and leaves the directory
abbrev pub told : Directory → Result Accepted Refusal → Answer
told d (Ok a) = record { refusal = accepted; value = a.value; orders = a.orders; directory = a.directory }
told d (Err refusal) = record { refusal = refusal_number refusal; value = 0; orders = packed []; directory = d }

-- the answer of a cold start with the settings g: refused, "its directory is all invalid"
abbrev pub started : Settings → Result Directory Refusal → Start
started g (Ok d) = record { refusal = accepted; directory = d }
started g (Err refusal) = record { refusal = refusal_number refusal; directory = cold_directory g }

-- different answers of the code are told differently
pub record TellsApart : Type 0 where
  pub calls : (d : Directory) (r s : Result Accepted Refusal) → told d r ≡ told d s → r ≡ s
  pub starts : (g : Settings) (r s : Result Directory Refusal) → started g r ≡ started g s → r ≡ s

-- ---- a list of calls

-- the answers to a list of calls, each call on what the one before left
unfoldable pub answers : Directory → List ℕ → List ℕ → List Call → List Answer
answers d m k [] = []
answers d m k (c ∷ cs) =
    answer d m k c ∷ answers (answer d m k c).directory (memory_after d m k c) (cache_after d m k c) cs

-- what the last of them leaves
unfoldable pub after_all : Directory → List ℕ → List ℕ → List Call → Run
after_all d m k [] = ready d m k
after_all d m k (c ∷ cs) = after_all (answer d m k c).directory (memory_after d m k c) (cache_after d m k c) cs

-- the same after an accepted cold start with the settings g on the memory store m
unfoldable pub answers_cold : Settings → List ℕ → List Call → List Answer
answers_cold g m cs = answers (cold_directory g) m (replicate store_size 0) cs

unfoldable pub after_cold : Settings → List ℕ → List Call → Run
after_cold g m cs = after_all (cold_directory g) m (replicate store_size 0) cs
