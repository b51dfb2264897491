-- Demand 3, and what goes with it: peek shows the plain memory, and memory under an EM block.
use mathlib.Core.Path.{◌≡◌, refl, sym, ◌∙◌}
use mathlib.Core.List.{List, [], ◌∷◌}
use mathlib.Core.Bool.{Bool, true, false, cond, false≢true}
use mathlib.Core.Logic.{⊎_elim}
use Prim.Native.Nat.{ℕ, ◌+◌, ◌*◌, ◌≤◌, ◌<◌}
use native.Mathlib.Omega.{arith}
use native.Mathlib.Nat.{mul-add}
use lib.ListN.{length, replicate, length-replicate}
use borrow.Author.Tests.{lt-ltb, le-ltb, le-leb, eq-eqb}
use Rattle.coherence.specs.declared.Board.{Board}
use Rattle.coherence.specs.declared.Settings.{Settings}
use Rattle.coherence.specs.declared.Directory.{Directory}
use Rattle.coherence.specs.declared.Call.{Call}
use Rattle.coherence.specs.declared.Call.TheVariants.{Load, Store, Flush}
use Rattle.coherence.specs.Answer.{Answer, Start}
use Rattle.coherence.specs.Bytes.{block_at}
use Rattle.coherence.specs.Slots.{place, slot_at, holds, owner_of, sound, cold_directory}
use Rattle.coherence.specs.Refusal.{is_block, peek_refusal}
use Rattle.coherence.specs.Peek.{from_cache, newest_block, newest, peeked}
use Rattle.coherence.specs.PlainMemory.{plain_accepts}
use Rattle.coherence.specs.Demand3.{Started, Session, is_load, is_store, accepted_of, loads, stores, per_store, Each, Demand3Holds, PeekPlain, PeekShowsPlain}
use Rattle.coherence.specs.Snapshot.{Snapshots}
use Rattle.coherence.proofs.SlotLaws.{holds_invalid, modified_holds, owner_cases, size_cold, slot_cold}
use Rattle.coherence.proofs.HolderLaws.{sets_cold}
use Rattle.coherence.proofs.RefusalLaws.{peek_tests, sized_true, start_passed}
use Rattle.coherence.proofs.Weights.{weight_of, enough, debt, debt_cold}
use Rattle.coherence.proofs.Invariant.{Beside, Lawful, Inv, Rests}
use Rattle.coherence.proofs.Actions.{none_em}
use Rattle.coherence.proofs.Sessions.{start_accepted, start_directory_lem, start_cache_lem}
use Rattle.coherence.proofs.Steps.{lawful_sound, lawful_exclusive, charge, beside_after_all, Over, run}

-- ---- the cold start
-- the plain memory at first, the memory store's bytes, and the settings
unfoldable pub at_first : Settings → List ℕ → Beside
at_first g m = record { plain = m; taken = block_at m; settings = g }

cold_empty : (g : Settings) (n b : ℕ) → holds (slot_at (cold_directory g) n) b ≡ true → ⊥
cold_empty g n b t = false≢true (sym (holds_invalid b) ∙ (rw (slot_cold g n) at t))

cold_lawful : (g : Settings) → Lawful g (cold_directory g)
unfolding cold_directory
cold_lawful g =
    record {
      chosen = refl;
      slots = size_cold g;
      placed = λ n b t. absurd (cold_empty g n b t);
      lone = λ n j b e t. absurd (cold_empty g j b t);
      kinds = λ n b e. absurd (cold_empty g n b (modified_holds _ b e));
    }

cold_keeps : (g : Settings) (m : List ℕ) → length m ≡ 2048 → Inv (at_first g m) (cold_directory g) m (replicate 2048 0)
unfolding at_first
cold_keeps g m h =
    record {
      lawful = cold_lawful g;
      memory = h;
      store = length-replicate {A = ℕ} 2048 0;
      copy = λ n b t. absurd (cold_empty g n b t);
      home = λ b l f. refl;
      under = λ n b e. absurd (cold_empty g n b (modified_holds _ b e));
    }

start_keeps : (g : Settings) (m : List ℕ) (s : Start) (k k' : List ℕ) → Started g m k s k' → s.refusal ≡ 0 → Rests (at_first g m) s.directory m k'
start_keeps g m s k k' h a =
    rw (start_directory_lem g m s k k' h a, start_cache_lem g m s k k' h a) (record { inv = cold_keeps g m (start_passed m k (start_accepted g m s k k' h a)).0; sets = sets_cold g })

-- ---- the whole session
module _
    (g : Settings) (m : List ℕ) (s : Start) (cs : List Call) (rs : List Answer) (d' : Directory) (m' k' : List ℕ)
    (h : Session g m s cs rs d' m' k')
  where
    first : Rests (at_first g m) s.directory m h.cleared
    first = start_keeps g m s h.lent h.cleared h.started h.accepts

    whole : Over (weight_of g) (at_first g m) s.directory cs rs d' m' k'
    unfolding at_first
    whole = run (weight_of g) (at_first g m) (enough g) s.directory m h.cleared cs rs d' m' k' first h.ran

    no_debt : debt (weight_of g) s.directory ≡ 0
    no_debt = rw (start_directory_lem g m s h.lent h.cleared h.started h.accepts) (debt_cold (weight_of g) g)

-- with that weight a store is charged what the bill has for it
per_store_lem : (g : Settings) → per_store g ≡ 1 + weight_of g
unfolding per_store weight_of
per_store_lem g = go g.boards g.steal
  where
    go : (b : List Board) (t : Bool) → let g : Settings = record { boards = b; steal = t } in per_store g ≡ 1 + weight_of g
    go b true = refl
    go b false = refl

-- the charges are one for a load and 1 + e for a store
charges : (e : ℕ) (cs : List Call) → accepted_of (charge e) cs ≡ accepted_of is_load cs + (1 + e) * accepted_of is_store cs
unfolding accepted_of charge is_load is_store
charges e [] = omega arith
charges e (c ∷ cs) = go (plain_accepts c) c (charges e cs)
  where
    n : ℕ
    n = accepted_of is_store cs

    go : (t : Bool) (c : Call) → accepted_of (charge e) cs ≡ accepted_of is_load cs + (1 + e) * n
        → cond t (charge e c) 0 + accepted_of (charge e) cs ≡ (cond t (is_load c) 0 + accepted_of is_load cs) + (1 + e) * (cond t (is_store c) 0 + n)
    go true (Load u a) r = omega (arith, mul-add (1 + e) 0 n)
    go true (Store u a v) r = omega (arith, mul-add (1 + e) 1 n)
    go true (Flush u b) r = omega (arith, mul-add (1 + e) 0 n)
    go false c r = omega (arith, mul-add (1 + e) 0 n)

-- ---- demand 3
each_map : (P Q : Answer → Type 0) → ((r : Answer) → P r → Q r) → (rs : List Answer) → Each P rs → Each Q rs
unfolding Each
each_map P Q f [] h = tt
each_map P Q f (r ∷ rs) h = (f r h.0, each_map P Q f rs h.1)

pub demand3 : Demand3Holds
unfolding Demand3Holds loads stores at_first
demand3 g m s cs rs d' m' k' h =
    let o : Over (weight_of g) (at_first g m) s.directory cs rs d' m' k' = whole g m s cs rs d' m' k' h in
    let i : Lawful g s.directory = (first g m s cs rs d' m' k' h).inv.lawful in
    let b : accepted_of (charge (weight_of g)) cs ≡ accepted_of is_load cs + per_store g * accepted_of is_store cs = rw (per_store_lem g) (charges (weight_of g) cs) in
    record {
      plain = o.says;
      exclusive_first = lawful_exclusive g s.directory i;
      exclusive = each_map _ _ (λ r l. lawful_exclusive g r.directory l) rs o.lawful;
      chosen_first = i.chosen;
      chosen = each_map _ _ (λ r l. l.chosen) rs o.lawful;
      bill = omega (arith, o.cost, no_debt g m s cs rs d' m' k' h, b);
    }

-- ---- peek
newest_plain : (p : Beside) (d : Directory) (m k : List ℕ) (b : ℕ) → b < 64 → Inv p d m k → newest d m k b ≡ block_at p.plain b
unfolding newest newest_block from_cache
newest_plain p d m k b l i =
    ⊎_elim
    (λ h. rw (lt-ltb (owner_of d b) 4 h.0) (i.copy _ b (modified_holds _ b h.1)))
    (λ h. rw (le-ltb (owner_of d b) 4 h.0) (i.home b l (none_em p d m k b i h.1)))
    (owner_cases d b)

pub block_true : (b : ℕ) → b ≤ 63 → is_block b ≡ true
unfolding is_block
block_true b l = le-leb b 63 l

pub peek_plain : (p : Beside) (d : Directory) (m k : List ℕ) (b : ℕ) → b ≤ 63 → Rests p d m k → PeekPlain p.plain d m k b
unfolding peeked
peek_plain p d m k b l i =
    let a : peek_refusal d m k b ≡ 0 =
    peek_tests d m k b ∙ rw (sized_true m k i.inv.memory i.inv.store, lawful_sound p.settings d i.inv.lawful i.sets, block_true b l) refl in
    record { accepts = a; shows = rw (eq-eqb (peek_refusal d m k b) 0 a) (newest_plain p d m k b (omega arith) i.inv) }

pub peek_shows_plain : PeekShowsPlain
unfolding PeekShowsPlain beside_after_all at_first
peek_shows_plain g m s cs rs d' m' k' h b l =
    peek_plain (beside_after_all s.directory (at_first g m) cs rs) d' m' k' b l (whole g m s cs rs d' m' k' h).keeps

-- ---- the directory that is left
pub session_sound : (g : Settings) (m : List ℕ) (s : Start) (cs : List Call) (rs : List Answer) (d' : Directory) (m' k' : List ℕ)
    → Session g m s cs rs d' m' k' → sound d' ≡ true
unfolding beside_after_all at_first
session_sound g m s cs rs d' m' k' h =
    let i : Rests (beside_after_all s.directory (at_first g m) cs rs) d' m' k' = (whole g m s cs rs d' m' k' h).keeps in
    lawful_sound g d' i.inv.lawful i.sets

-- ---- memory under an EM block
pub snapshots : Snapshots
unfolding Snapshots beside_after_all at_first
snapshots g m s cs rs d' m' k' h b l =
    let i : Inv (beside_after_all s.directory (at_first g m) cs rs) d' m' k' = (whole g m s cs rs d' m' k' h).keeps.inv in
    record {
      free = λ f. i.home b (omega arith) (none_em _ d' m' k' b i f);
      under = λ u v e. i.under (place u b) b e;
    }
