-- Document 02, T-08, "Who holds a block, kept ready": the call that gives a block's set of holders and their count, and what is claimed of it.
use Rattle.std.specs.Prelude.{ℕ, ◌≤◌, ◌<◌, ◌≡◌, true, Result, Ok, Err, cond, List, [], ◌∷◌, eqb}
use Rattle.order.specs.Flag.{flag}
use Rattle.order.specs.declared.Refusal.{Refusal}
use Rattle.order.specs.Refusal.{refusal_number, accepted, first_refusal}
use Rattle.numeric.specs.Bits.{sum_below, contains, ones_below}
use Rattle.coherence.specs.declared.Settings.{Settings}
use Rattle.coherence.specs.declared.Directory.{Directory}
use Rattle.coherence.specs.declared.Call.{Call}
use Rattle.coherence.specs.Answer.{Answer, Start}
use Rattle.coherence.specs.Slots.{slot_of, place, slot_at, holds, held_by}
use Rattle.coherence.specs.Refusal.{is_block, directory_test, target_test}
use Rattle.coherence.specs.Demand3.{Session}
use Rattle.holders.specs.declared.BlockHolders.{BlockHolders}

-- what the call answers, in document 01's numbers
pub record HoldersAnswer : Type 0 where
  pub refusal : ℕ
  pub set : ℕ
  pub count : ℕ

-- "A new call, testing 2, then 4"
unfoldable pub holders_refusal : Directory → ℕ → ℕ
holders_refusal d b = first_refusal (directory_test d ∷ target_test (is_block b) ∷ [])

-- refused with number n: both are 0
unfoldable pub holders_refused : ℕ → HoldersAnswer
holders_refused n = record { refusal = n; set = 0; count = 0 }

-- it "gives a block's set and its count of holders", four units at most
unfoldable pub holders_answer : Directory → ℕ → HoldersAnswer
holders_answer d b =
    cond (eqb (holders_refusal d b) accepted)
    (record { refusal = accepted; set = held_by d b; count = ones_below 4 (held_by d b) })
    (holders_refused (holders_refusal d b))

-- the code's answer in these numbers
abbrev pub told_holders : Result BlockHolders Refusal → HoldersAnswer
told_holders (Ok h) = record { refusal = accepted; set = h.set; count = h.count }
told_holders (Err refusal) = holders_refused (refusal_number refusal)

-- different answers of the code are told differently
unfoldable pub HoldersTellApart : Type 0
HoldersTellApart = (r s : Result BlockHolders Refusal) → told_holders r ≡ told_holders s → r ≡ s

-- ---- what is claimed

-- unit u holds block b: one of its valid slots has it
unfoldable pub HoldsBlock : Directory → ℕ → ℕ → Type 0
HoldsBlock d u b = (s : ℕ) × (s < 16) × (holds (slot_of d u s) b ≡ true)

-- the answer's set is exactly the set of holders by the slots, and the count is theirs
pub record TellsHolders (d : Directory) (b : ℕ) : Type 0 where
  pub units : (holders_answer d b).set < 16
  pub enough : (u : ℕ) → u < 4 → HoldsBlock d u b → contains (holders_answer d b).set u ≡ true
  pub needed : (u : ℕ) → u < 4 → contains (holders_answer d b).set u ≡ true → HoldsBlock d u b
  pub count : (holders_answer d b).count ≡ sum_below 4 (λ u. flag (holds (slot_at d (place u b)) b))

-- of every accepted call, whatever directory it is given
unfoldable pub HoldersTold : Type 0
HoldersTold = (d : Directory) (b : ℕ) → (holders_answer d b).refusal ≡ accepted → TellsHolders d b

-- "each call keeps it true": after any list of calls the call is accepted for every block up to 63
unfoldable pub HoldersKept : Type 0
HoldersKept =
    (g : Settings) (m : List ℕ) (s : Start) (cs : List Call) (rs : List Answer) (e : Directory) (m' k' : List ℕ)
    → Session g m s cs rs e m' k' → (b : ℕ) → b ≤ 63 → ((holders_answer e b).refusal ≡ accepted) × TellsHolders e b

-- "A refused call gives its number, .. every other number 0"
pub record SaysRefused (d : Directory) (b : ℕ) : Type 0 where
  pub number : (holders_answer d b).refusal ≡ holders_refusal d b
  pub set : (holders_refusal d b ≡ accepted → ⊥) → (holders_answer d b).set ≡ 0
  pub count : (holders_refusal d b ≡ accepted → ⊥) → (holders_answer d b).count ≡ 0
