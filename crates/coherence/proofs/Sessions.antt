-- A list of calls after a cold start has one list of answers, which the definitions give.
use mathlib.Core.Path.{◌≡◌, refl, sym, ap, ap₂, ◌∙◌}
use mathlib.Core.List.{List, [], ◌∷◌}
use Prim.Native.Nat.{ℕ}
use lib.ListN.{length, replicate}
use borrow.Author.Tests.{eq-eqb}
use Rattle.coherence.specs.declared.Settings.{Settings}
use Rattle.coherence.specs.declared.Directory.{Directory}
use Rattle.coherence.specs.declared.Call.{Call}
use Rattle.coherence.specs.Answer.{Answer, Start}
use Rattle.coherence.specs.Slots.{cold_directory}
use Rattle.coherence.specs.Access.{ready}
use Rattle.coherence.specs.Refusal.{start_refusal}
use Rattle.coherence.specs.Calls.{answer, memory_after, cache_after, start_answer, cache_started, answers, after_all, answers_cold, after_cold}
use Rattle.coherence.specs.Demand3.{Started, Answered, Ran, Sessions}
use Rattle.coherence.proofs.RefusalLaws.{start_tests, sized_true}

-- ---- a cold start
module _ (g : Settings) (m : List ℕ) (s : Start) (k k' : List ℕ) (h : Started g m k s k') (a : s.refusal ≡ 0) where
  pub start_accepted : start_refusal m k ≡ 0
  unfolding start_answer
  start_accepted = sym (ap (λ (x : Start). x.refusal) h.answers) ∙ a

  pub start_directory_lem : s.directory ≡ cold_directory g
  unfolding start_answer
  start_directory_lem = ap (λ (x : Start). x.directory) h.answers

  pub start_cache_lem : k' ≡ replicate 2048 0
  unfolding cache_started
  start_cache_lem = h.cache ∙ rw (eq-eqb (start_refusal m k) 0 start_accepted)

-- ---- a list of calls
pub ran_one : (d : Directory) (m k : List ℕ) (cs : List Call) (rs : List Answer) (e : Directory) (m' k' : List ℕ)
    → Ran d m k cs rs e m' k' → rs ≡ answers d m k cs
unfolding Ran answers
ran_one d m k [] [] e m' k' h = refl
ran_one d m k [] (r ∷ rs) e m' k' h = absurd h
ran_one d m k (c ∷ cs) [] e m' k' h = absurd h
ran_one d m k (c ∷ cs) (r ∷ rs) e m' k' h =
    let a : Answered d m k c r h.0 h.1 = h.2 in
    let t : rs ≡ answers r.directory h.0 h.1 cs = ran_one r.directory h.0 h.1 cs rs e m' k' h.3 in
    ap₂ ◌∷◌ a.answers (rw (a.answers, a.memory, a.cache) at t)

pub ran_some : (d : Directory) (m k : List ℕ) (cs : List Call)
    → Ran d m k cs (answers d m k cs) (after_all d m k cs).directory (after_all d m k cs).memory (after_all d m k cs).cache
unfolding Ran answers after_all ready
ran_some d m k [] = (refl, refl, refl)
ran_some d m k (c ∷ cs) = (
  memory_after d m k c,
  cache_after d m k c,
  record { answers = refl; memory = refl; cache = refl },
  ran_some (answer d m k c).directory (memory_after d m k c) (cache_after d m k c) cs,
)

cold_accepted : (m k : List ℕ) → length m ≡ 2048 → length k ≡ 2048 → start_refusal m k ≡ 0
cold_accepted m k e f = start_tests m k ∙ rw (sized_true m k e f) refl

cold_started : (g : Settings) (m k : List ℕ) → length m ≡ 2048 → length k ≡ 2048 → Started g m k (start_answer g m k) (replicate 2048 0)
unfolding cache_started
cold_started g m k e f = record { answers = refl; cache = rw (eq-eqb (start_refusal m k) 0 (cold_accepted m k e f)) refl }

pub sessions : (g : Settings) (m : List ℕ) (cs : List Call) → Sessions g m cs
unfolding answers_cold after_cold start_answer
sessions g m cs =
    record {
      some = λ k e f.
          record {
            lent = k;
            cleared = replicate 2048 0;
            started = cold_started g m k e f;
            accepts = cold_accepted m k e f;
            ran = ran_some (cold_directory g) m (replicate 2048 0) cs;
          };
      one = λ s rs d' m' k' h.
          let d : s.directory ≡ cold_directory g = start_directory_lem g m s h.lent h.cleared h.started h.accepts in
          let c : h.cleared ≡ replicate 2048 0 = start_cache_lem g m s h.lent h.cleared h.started h.accepts in
          let q : rs ≡ answers s.directory m h.cleared cs = ran_one s.directory m h.cleared cs rs d' m' k' h.ran in
          rw (d, c) at q;
    }
