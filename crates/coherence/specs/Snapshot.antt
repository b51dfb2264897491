-- What memory has under a block that a unit has EM: the plain memory's block as it stood just before the store by which that unit took it.
-- This is what a loss of the caches would leave.
use Rattle.std.specs.Prelude.{ℕ, ◌/◌, ◌<◌, ◌≤◌, ◌≡◌, cond, List, [], ◌∷◌, eqb}
use Rattle.coherence.specs.declared.Slot.TheVariants.{Modified}
use Rattle.coherence.specs.declared.Settings.{Settings}
use Rattle.coherence.specs.declared.Directory.{Directory}
use Rattle.coherence.specs.declared.Call.{Call}
use Rattle.coherence.specs.declared.Call.TheVariants.{Load, Store, Flush}
use Rattle.coherence.specs.Answer.{Answer, Start}
use Rattle.coherence.specs.Bytes.{block_at}
use Rattle.coherence.specs.Slots.{place, slot_at, modified}
use Rattle.coherence.specs.PlainMemory.{plain_accepts, plain_after, plain_after_all}
use Rattle.coherence.specs.Demand3.{Session}

-- t with x for block b
unfoldable pub replaced : (ℕ → List ℕ) → ℕ → List ℕ → ℕ → List ℕ
replaced t b x c = cond (eqb c b) x (t c)

-- t has each block as it stood when it was last taken. An accepted store takes its block, unless its unit has it EM in the directory d (a
-- write-through board's store too, after which no unit has it EM); p is the plain memory before the call
unfoldable pub taken_by : Directory → Call → List ℕ → (ℕ → List ℕ) → ℕ → List ℕ
taken_by d (Load u a) p t = t
taken_by d (Store u a v) p t = cond (modified (slot_at d (place u (a / 32))) (a / 32)) t (replaced t (a / 32) (block_at p (a / 32)))
taken_by d (Flush u b) p t = t

unfoldable pub taken_after : Directory → Call → List ℕ → (ℕ → List ℕ) → ℕ → List ℕ
taken_after d c p t = cond (plain_accepts c) (taken_by d c p t) t

-- the same after a list of calls, whose answers have the directories between
unfoldable pub taken_after_all : Directory → List ℕ → (ℕ → List ℕ) → List Call → List Answer → ℕ → List ℕ
taken_after_all d p t [] rs = t
taken_after_all d p t (c ∷ cs) [] = t
taken_after_all d p t (c ∷ cs) (r ∷ rs) = taken_after_all r.directory (plain_after c p) (taken_after d c p t) cs rs

pub record MemoryHas (p : List ℕ) (t : ℕ → List ℕ) (e : Directory) (m : List ℕ) (b : ℕ) : Type 0 where
  -- no unit has block b EM
  pub free : ((u : ℕ) → u < 4 → slot_at e (place u b) ≡ Modified b → ⊥) → block_at m b ≡ block_at p b
  -- unit u has it EM
  pub under : (u : ℕ) → u < 4 → slot_at e (place u b) ≡ Modified b → block_at m b ≡ t b

unfoldable pub Snapshots : Type 0
Snapshots =
    (g : Settings) (m : List ℕ) (s : Start) (cs : List Call) (rs : List Answer) (e : Directory) (m' k' : List ℕ)
    → Session g m s cs rs e m' k' → (b : ℕ) → b ≤ 63
    → MemoryHas (plain_after_all m cs) (taken_after_all s.directory m (block_at m) cs rs) e m' b
