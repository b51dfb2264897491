-- A cold start through the C interface is the machine's own where there is room and the settings are some, and else nothing.
use Prim.Native.Nat.{ℕ, ◌≤◌, ◌<◌}
use mathlib.Core.Path.{◌≡◌, refl, ap, ◌∙◌}
use mathlib.Core.Bool.{Bool, true, false, cond, and-false}
use mathlib.Core.List.{List}
use mathlib.Core.Logic.{◌⊎◌, inl, inr}
use lib.Dec.{leb}
use lib.ListN.{length, take, drop}
use lib.Seq.{take_at}
use borrow.Author.Tests.{le-leb, lt-leb}
use Rattle.std.specs.Prelude.{Result, Ok, Err}
use Rattle.order.specs.declared.Refusal.{Refusal}
use Rattle.order.specs.Refusal.{number_of}
use Rattle.coherence.specs.declared.Settings.{Settings}
use Rattle.coherence.specs.declared.Directory.{Directory}
use Rattle.coherence.specs.Answer.{Start}
use Rattle.coherence.specs.Refusal.{start_refusal}
use Rattle.coherence.specs.Slots.{cold_directory}
use Rattle.coherence.specs.Calls.{start_answer, started}
use Rattle.boards.specs.Boards.{settings_of}
use Rattle.layout.specs.Directory.{directory_size, decoded, encoded, directory_put}
use Rattle.layout.proofs.Inverse.{inverse, length_encoded}
use Rattle.capi_start.specs.Start.{chosen, choosable, start_returned, start_cache, start_directory, Starts}

-- the number that the machine's own cold start answers
pub start_number : (g : Settings) (m k : List ℕ) (r : Result Directory Refusal) → started g r ≡ start_answer g m k → number_of r ≡ start_refusal m k
unfolding start_answer
start_number g m k (Ok d) e = ap (λ (s : Start). s.refusal) e
start_number g m k (Err x) e = ap (λ (s : Start). s.refusal) e

-- the directory that an accepted one answers
pub start_given : (g : Settings) (m k : List ℕ) (d : Directory) → started g (Ok d) ≡ start_answer g m k → d ≡ cold_directory g
unfolding start_answer
start_given g m k d e = ap (λ (s : Start). s.directory) e

cold_back : (s t : ℕ) → decoded (encoded (cold_directory (chosen s t))) ≡ cold_directory (chosen s t)
unfolding cold_directory chosen settings_of
cold_back s t = inverse.back (cold_directory (chosen s t)) refl refl refl

choose : (s t : ℕ) → s ≤ 15 → t ≤ 1 → choosable s t ≡ true
unfolding choosable
choose s t h g = rw (le-leb s 15 h, le-leb t 1 g)

cannot_choose : (s t : ℕ) → (15 < s) ⊎ (1 < t) → choosable s t ≡ false
unfolding choosable
cannot_choose s t (inl h) = rw (lt-leb s 15 h)
cannot_choose s t (inr h) = rw (lt-leb t 1 h) (and-false (leb s 15))

on_or_off : (s : ℕ) → ((chosen s 1).steal ≡ true) × ((chosen s 0).steal ≡ false)
unfolding chosen settings_of
on_or_off s = (refl, refl)

begun : (s t : ℕ) (d : List ℕ) → directory_size ≤ length d → s ≤ 15 → t ≤ 1
    → decoded (take directory_size (start_directory s t d)) ≡ cold_directory (chosen s t)
unfolding start_directory directory_put cold_directory
begun s t d h g f =
    let x : Directory = cold_directory (chosen s t) in
    rw (choose s t g f, le-leb directory_size (length d) h)
    (ap decoded (take_at (encoded x) (drop directory_size d) directory_size (length_encoded x (refl))) ∙ cold_back s t)

stays : (m k : List ℕ) (s t : ℕ) (d : List ℕ) → (length d < directory_size) ⊎ ((15 < s) ⊎ (1 < t))
    → (start_cache m k s t d ≡ k) × (start_directory s t d ≡ d)
unfolding start_cache start_directory directory_put
stays m k s t d (inl h) = (rw (lt-leb directory_size (length d) h), rw (lt-leb directory_size (length d) h) (either (choosable s t)))
  where
    either : (b : Bool) → cond b d d ≡ d
    either true = refl
    either false = refl
stays m k s t d (inr h) = (rw (cannot_choose s t h, and-false (leb directory_size (length d))), rw (cannot_choose s t h))

pub starts : (m k : List ℕ) (s t : ℕ) (d : List ℕ) → Starts m k s t d
unfolding start_returned start_cache start_answer
starts m k s t d =
    record {
      returned = λ h g f. rw (le-leb directory_size (length d) h, le-leb s 15 g, le-leb t 1 f);
      cache = λ h g f. rw (le-leb directory_size (length d) h, choose s t g f);
      directory = begun s t d;
      steal = on_or_off s;
      no_room = λ h. rw (lt-leb directory_size (length d) h);
      no_unit = λ h g. rw (le-leb directory_size (length d) h, lt-leb s 15 g);
      field_range = λ h g f. rw (le-leb directory_size (length d) h, le-leb s 15 g, lt-leb t 1 f);
      stays = stays m k s t d;
    }
