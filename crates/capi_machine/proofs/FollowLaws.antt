-- Calls through the C interface follow on each other as the machine's own do.
use Prim.Native.Nat.{ℕ, ◌≤◌}
use mathlib.Core.Path.{◌≡◌, refl, sym, ap, ◌∙◌}
use mathlib.Core.Bool.{Bool, true, false}
use mathlib.Core.List.{List, [], ◌∷◌, map}
use native.Mathlib.Omega.{arith}
use lib.ListN.{length, drop, length-append}
use lib.Seq.{take_at}
use lib.Dec.{leb, eqb}
use borrow.Author.Tests.{le-leb, eqb-false}
use Rattle.coherence.specs.declared.Call.{Call}
use Rattle.coherence.specs.declared.Directory.{Directory}
use Rattle.coherence.specs.Access.{ready}
use Rattle.coherence.specs.Calls.{refusal, answer, memory_after, cache_after, answers, after_all}
use Rattle.coherence.specs.declared.Settings.{Settings}
use Rattle.coherence.proofs.Counts.{refused}
use Rattle.coherence.proofs.Shapes.{answer_slots, answer_settings, answer_sets}
use Rattle.layout.specs.Directory.{decoded}
use Rattle.answer_layout.specs.Answer.{answer_numbers}
use Rattle.layout.proofs.Inverse.{inverse, length_decoded, boards_decoded, sets_decoded}
use Rattle.answer_layout.proofs.AnswerLaws.{length_answer}
use Rattle.capi_machine.specs.Call.{returned, directory_left, memory_left, cache_left, answer_left}
use Rattle.capi_machine.specs.Follow.{Lent, called, called_all, Heard, heard, heard_all, told, Follows, FollowsOn}

-- one call
record Step (w : Lent) (c : Call) : Type 0 where
  hears : heard w c ≡ told (answer (decoded w.directory) w.memory w.cache c)
  directory : decoded (called w c).directory ≡ (answer (decoded w.directory) w.memory w.cache c).directory
  memory : (called w c).memory ≡ memory_after (decoded w.directory) w.memory w.cache c
  cache : (called w c).cache ≡ cache_after (decoded w.directory) w.memory w.cache c
  room : 18 ≤ length (called w c).answer

step : (w : Lent) (c : Call) → 18 ≤ length w.answer → Step w c
unfolding called heard told returned directory_left memory_left cache_left answer_left answer
step w c h = go (eqb (refusal d m k c) 0) refl
  where
    d : Directory
    d = decoded w.directory

    m : List ℕ
    m = w.memory

    k : List ℕ
    k = w.cache

    l : leb 18 (length w.answer) ≡ true
    l = le-leb 18 (length w.answer) h

    go : (t : Bool) → eqb (refusal d m k c) 0 ≡ t → Step w c
    go true q =
        let r : List ℕ = answer_numbers (answer d m k c) in
        let size : length r ≡ 18 = length_answer (answer d m k c) in
        record {
          hears = rw (l, q) (ap (λ (x : List ℕ). record { number = refusal d m k c; answer = x }) (take_at r (drop 18 w.answer) 18 size));
          directory = rw (l, q) (inverse.back (answer d m k c).directory (answer_slots d m k c ∙ length_decoded w.directory)
              (ap (λ (g : Settings). length g.boards) (answer_settings d m k c) ∙ boards_decoded w.directory) (answer_sets d m k c (sets_decoded w.directory)));
          memory = rw (l, q);
          cache = rw (l, q);
          room = rw (l, q) (simp length-append (omega arith));
        }
    go false q =
        let left = refused d m k c (eqb-false (refusal d m k c) 0 q) in
        record {
          hears = rw (l, q);
          directory = rw (l, q) (sym left.directory);
          memory = rw (l, q) (sym left.memory);
          cache = rw (l, q) (sym left.cache);
          room = rw (l, q) h;
        }

-- what is made of the directory and the stores that a call left is made of those that the machine's call left
together : {A : Type 0} (f : Directory → List ℕ → List ℕ → A) (d e : Directory) (m n k l : List ℕ) → d ≡ e → m ≡ n → k ≡ l → f d m k ≡ f e n l
together f d e m n k l p q r = ap (λ (x : Directory). f x m k) p ∙ ap (λ (x : List ℕ). f e x k) q ∙ ap (λ (x : List ℕ). f e n x) r

onward : {A : Type 0} {w : Lent} {c : Call} (f : Directory → List ℕ → List ℕ → A) → Step w c
    → f (decoded (called w c).directory) (called w c).memory (called w c).cache
    ≡ f (answer (decoded w.directory) w.memory w.cache c).directory
    (memory_after (decoded w.directory) w.memory w.cache c)
    (cache_after (decoded w.directory) w.memory w.cache c)
onward f s = together f _ _ _ _ _ _ s.directory s.memory s.cache

follows : (w : Lent) (cs : List Call) → 18 ≤ length w.answer → Follows w cs
unfolding called_all heard_all answers after_all ready
follows w [] h = record { hears = refl; directory = refl; memory = refl; cache = refl }
follows w (c ∷ cs) h =
    let s = step w c h in
    let f = follows (called w c) cs s.room in
    record {
      hears = ap (λ (x : Heard). x ∷ heard_all (called w c) cs) s.hears ∙ ap (λ (x : List Heard). told (answer (decoded w.directory) w.memory w.cache c) ∷ x) (f.hears ∙ onward (λ d m k. map told (answers d m k cs)) s);
      directory = f.directory ∙ onward (λ d m k. (after_all d m k cs).directory) s;
      memory = f.memory ∙ onward (λ d m k. (after_all d m k cs).memory) s;
      cache = f.cache ∙ onward (λ d m k. (after_all d m k cs).cache) s;
    }

pub follows_on : FollowsOn
unfolding FollowsOn
follows_on = follows
