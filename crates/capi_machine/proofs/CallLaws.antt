-- What a call through the C interface answers and leaves, put together from what the machine answers and what is handed over.
use mathlib.Core.Path.{◌≡◌, refl, sym, ap, ◌∙◌}
use mathlib.Core.Bool.{Bool, true, false, cond}
use mathlib.Core.List.{List, [], ◌++◌, append-nil}
use Prim.Native.Nat.{ℕ, ◌≤◌, ◌<◌}
use native.Mathlib.Omega.{arith}
use lib.Dec.{leb, eqb}
use lib.ListN.{length, take, drop}
use lib.Seq.{drop-length}
use borrow.Author.Tests.{le-leb, lt-leb, eqb-true, ne_eqb}
use Rattle.coherence.specs.declared.Call.{Call}
use Rattle.coherence.specs.Answer.{Answer}
use Rattle.coherence.specs.declared.Directory.{Directory}
use Rattle.std.specs.Prelude.{Result, Ok, Err}
use Rattle.order.specs.declared.Refusal.{Refusal}
use Rattle.order.specs.Refusal.{refusal_number, number_of, first_refusal}
use Rattle.coherence.specs.declared.Accepted.{Accepted}
use Rattle.order.proofs.RefusalLaws.{number_not_0}
use Rattle.coherence.specs.Refusal.{sized, is_unit, is_block, size_test, directory_test, call_refusal}
use Rattle.coherence.specs.Access.{ready}
use Rattle.coherence.specs.Slots.{sound}
use Rattle.coherence.specs.Calls.{told, refusal, after, answer, memory_after, cache_after, unit_of, is_target}
use Rattle.coherence.specs.Demand3.{Answered}
use Rattle.coherence.proofs.Counts.{answers_orders}
use Rattle.coherence.proofs.Shapes.{answer_settings}
use Rattle.layout.specs.Directory.{directory_size, decoded, front_bytes, encoded, slot_bytes, settings_bytes, left_put}
use Rattle.answer_layout.specs.Answer.{answer_numbers, answer_put}
use Rattle.crossing.proofs.CappedLaws.{caps}
use Rattle.capi_machine.specs.Call.{directory_handed, answer_handed, Narrows, returned, directory_left, memory_left, cache_left, answer_left, RefusedLeaves}
use Rattle.layout.proofs.Inverse.{inverse, length_encoded, settings_kept, sets_decoded}
use Rattle.layout.proofs.DirectoryLaws.{left_is}

pub narrows : Narrows
unfolding is_unit is_block
narrows =
    record {
      unit = λ n. (caps 255).tested 3 n (omega arith);
      block = λ n. (caps 255).tested 63 n (omega arith);
      kept = (caps 255).keeps;
    }

-- bytes that the machine takes for a directory are as many as one has
pub sound_size : (d : List ℕ) → sound (decoded d) ≡ true → length d ≡ directory_size
sound_size d t = ap length (sym (inverse.forth d t)) ∙ length_encoded (decoded d) (sets_decoded d)

second_passes : (a b : Bool) (x : ℕ) → cond a (cond b x 2) 1 ≡ 0 → b ≡ true
second_passes true true x e = refl
second_passes true false x e = absurd (let z : ◌≡◌ {A = ℕ} 2 0 = e in omega arith)
second_passes false b x e = absurd (let z : ◌≡◌ {A = ℕ} 1 0 = e in omega arith)

-- the directory of an accepted call keeps the rules
accepted_sound : (d : Directory) (m k : List ℕ) (u : ℕ) (good : Bool) → call_refusal d m k u good ≡ 0 → sound d ≡ true
unfolding call_refusal first_refusal size_test directory_test
accepted_sound d m k u good e = second_passes (sized m k) (sound d) _ e

pub accepted_size : (d m k : List ℕ) (c : Call) → refusal (decoded d) m k c ≡ 0 → length d ≡ directory_size
unfolding refusal
accepted_size d m k c e = sound_size d (accepted_sound (decoded d) m k (unit_of c) (is_target c) e)

-- what a call answered and left, as its contract says
pub record Left (d m k a : List ℕ) (c : Call) (r : ℕ) (d' m' k' a' : List ℕ) : Type 0 where
  pub code : r ≡ returned d m k a c
  pub directory : d' ≡ directory_left d m k a c
  pub memory : m' ≡ memory_left d m k a c
  pub cache : k' ≡ cache_left d m k a c
  pub answer : a' ≡ answer_left d m k a c

pub no_room_lem : (d m k a : List ℕ) (c : Call) → length a < 18 → Left d m k a c 9 d m k a
unfolding returned directory_left memory_left cache_left answer_left
no_room_lem d m k a c h =
    let e : leb 18 (length a) ≡ false = lt-leb 18 (length a) h in
    record { code = rw e; directory = rw e; memory = rw e; cache = rw e; answer = rw e }

-- a refused call leaves the stores
kept : (d m k : List ℕ) (c : Call) → eqb (refusal (decoded d) m k c) 0 ≡ false
    → (memory_after (decoded d) m k c ≡ m) × (cache_after (decoded d) m k c ≡ k)
unfolding memory_after cache_after after ready
kept d m k c q = (rw (memory_after, after, q), rw (cache_after, after, q))

refusal_of_lem : (d m k : List ℕ) (c : Call) → (answer (decoded d) m k c).refusal ≡ refusal (decoded d) m k c
unfolding answer
refusal_of_lem d m k c = refl

-- an accepted answer has room, and the settings that are left are its own
put_left : (x : Directory) (d : List ℕ) → length d ≡ directory_size → take 2 (drop 128 d) ≡ settings_bytes x.settings → left_put x d ≡ encoded x
unfolding encoded front_bytes
put_left x d e h =
    let n : drop directory_size d ≡ [] = ap (λ (k : ℕ). drop k d) (sym e) ∙ drop-length d in
    left_is x d (omega arith) ∙ rw (h, n) (append-nil (slot_bytes 64 x ++ settings_bytes x.settings ++ x.holders))

-- the settings of an accepted answer are those that the bytes spell
settings_stay : (d m k : List ℕ) (c : Call) → refusal (decoded d) m k c ≡ 0 → take 2 (drop 128 d) ≡ settings_bytes (answer (decoded d) m k c).directory.settings
unfolding refusal
settings_stay d m k c e =
    settings_kept d (accepted_sound (decoded d) m k (unit_of c) (is_target c) e) ∙ ap settings_bytes (sym (answer_settings (decoded d) m k c))

put_answer : (r : Answer) (a : List ℕ) → 18 ≤ length a → r.orders.count ≤ 4 → answer_put r a ≡ answer_numbers r ++ drop 18 a
unfolding answer_put
put_answer r a h few = rw (le-leb 18 (length a) h, le-leb r.orders.count 4 few)

handed_over : (d m k a : List ℕ) (c : Call) (r : Answer) (code : ℕ) (d' m' k' a' : List ℕ)
    → Answered (decoded d) m k c r m' k' → 18 ≤ length a
    → (code ≡ r.refusal)
    × (d' ≡ cond (eqb r.refusal 0) (left_put r.directory d) d)
    × (a' ≡ cond (eqb r.refusal 0) (answer_put r a) a)
    → Left d m k a c code d' m' k' a'
unfolding returned directory_left memory_left cache_left answer_left
handed_over d m k a c r code d' m' k' a' s h t = go (eqb (refusal (decoded d) m k c) 0) refl
  where
    l : leb 18 (length a) ≡ true
    l = le-leb 18 (length a) h

    n : r.refusal ≡ refusal (decoded d) m k c
    n = ap (λ (x : Answer). x.refusal) s.answers ∙ refusal_of_lem d m k c

    behind : refusal (decoded d) m k c ≡ 0 → take 2 (drop 128 d) ≡ settings_bytes r.directory.settings
    behind e = settings_stay d m k c e ∙ ap (λ (x : Answer). settings_bytes x.directory.settings) (sym s.answers)

    go : (b : Bool) → eqb (refusal (decoded d) m k c) 0 ≡ b → Left d m k a c code d' m' k' a'
    go true q =
        let test : eqb r.refusal 0 ≡ true = ap (λ (x : ℕ). eqb x 0) n ∙ q in
        let size : length d ≡ directory_size = accepted_size d m k c (eqb-true _ 0 q) in
        record {
          code = rw l (t.0 ∙ n);
          directory = rw (l, q) ((rw test at t.1) ∙ put_left r.directory d size (behind (eqb-true _ 0 q)) ∙ ap (λ (x : Answer). encoded x.directory) s.answers);
          memory = rw (l, q) s.memory;
          cache = rw (l, q) s.cache;
          answer = rw (l, q) ((rw test at t.2) ∙ put_answer r a h (rw s.answers (answers_orders (decoded d) m k c).few) ∙ ap (λ (x : Answer). answer_numbers x ++ drop 18 a) s.answers);
        }
    go false q =
        let test : eqb r.refusal 0 ≡ false = ap (λ (x : ℕ). eqb x 0) n ∙ q in
        record {
          code = rw l (t.0 ∙ n);
          directory = rw (l, q) (rw test at t.1);
          memory = rw (l, q) (s.memory ∙ (kept d m k c q).0);
          cache = rw (l, q) (s.cache ∙ (kept d m k c q).1);
          answer = rw (l, q) (rw test at t.2);
        }

-- what the machine answered, handed over
pub given_over : (d m k a : List ℕ) (c : Call) (r : Result Accepted Refusal) (m' k' : List ℕ)
    → Answered (decoded d) m k c (told (decoded d) r) m' k' → 18 ≤ length a
    → Left d m k a c (number_of r) (directory_handed r d) m' k' (answer_handed r a)
unfolding directory_handed answer_handed
given_over d m k a c (Ok x) m' k' s h = handed_over d m k a c (told (decoded d) (Ok x)) 0 _ m' k' _ s h (refl, refl, refl)
given_over d m k a c (Err x) m' k' s h =
    let t : eqb (refusal_number x) 0 ≡ false = ne_eqb (refusal_number x) 0 (number_not_0 x) in
    handed_over d m k a c (told (decoded d) (Err x)) (refusal_number x) d m' k' a s h (refl, rw t, rw t)

-- ---- a refused call

pub refused_leaves : (d m k a : List ℕ) (c : Call) → RefusedLeaves d m k a c
unfolding directory_left memory_left cache_left answer_left
refused_leaves d m k a c =
    record {
      directory = λ h. rw (ne_eqb (returned d m k a c) 0 h);
      memory = λ h. rw (ne_eqb (returned d m k a c) 0 h);
      cache = λ h. rw (ne_eqb (returned d m k a c) 0 h);
      answer = λ h. rw (ne_eqb (returned d m k a c) 0 h);
      no_room = λ h. sym (no_room_lem d m k a c h).code;
    }
