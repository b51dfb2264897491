-- The size that is answered is the one that writing takes.
use Prim.Native.Nat.{ℕ, ◌≤◌, ◌<◌}
use native.Mathlib.Omega.{arith}
use mathlib.Core.Path.{◌≡◌, refl, ap}
use mathlib.Core.List.{List}
use lib.ListN.{length}
use Rattle.std.specs.Prelude.{Result, Ok, Err}
use Rattle.order.specs.declared.Refusal.{Refusal}
use Rattle.order.specs.Refusal.{refusal_number, number_of}
use Rattle.tape_format.specs.declared.Record.{Record}
use Rattle.tape_format.specs.Write.{written_of}
use Rattle.tape_format.specs.Size.{size_told, Suffices, NeedsSize, RefusesAlike}
use Rattle.tape_format.proofs.SizeLaws.{suffices, needs_size, refuses_alike, refuses_8}
use Rattle.record_numbers.specs.Entry.{record_from, count_or}
use Rattle.record_numbers.proofs.NumberedLaws.{Numbered, numbered}
use Rattle.capi_tape.specs.Calls.{write_returned, written_left}
use Rattle.capi_size.specs.Calls.{size_returned, size_left, ForetellsAll}

-- a record that the numbers named, by the answer x to the asking
module _ (r : Record) (s : List ℕ) (n w : ℕ) where
  never_0 : (refusal : Refusal) → size_told r ≡ Err refusal → refusal_number refusal ≡ 0 → ⊥
  never_0 refusal e z = let h = ap refusal_number (refuses_8 r refusal e) in omega arith

  known_enough : (x : Result ℕ Refusal) → size_told r ≡ x → number_of x ≡ 0 → count_or x n ≤ length s
      → (number_of (written_of r (length s)) ≡ 0) × (count_or (written_of r (length s)) w ≡ count_or x n)
  unfolding count_or Suffices
  known_enough (Ok size) e z h = rw (suffices r size (length s) e h) (refl, refl)
  known_enough (Err refusal) e z h = absurd (never_0 refusal e z)

  known_short : (x : Result ℕ Refusal) → size_told r ≡ x → number_of x ≡ 0 → length s < count_or x n → number_of (written_of r (length s)) ≡ 9
  unfolding count_or NeedsSize
  known_short (Ok size) e z h = rw (needs_size r size (length s) e h)
  known_short (Err refusal) e z h = absurd (never_0 refusal e z)

  known_alike : (x : Result ℕ Refusal) → size_told r ≡ x → (number_of x ≡ 0 → ⊥) → number_of (written_of r (length s)) ≡ number_of x
  unfolding RefusesAlike
  known_alike (Ok size) e z = absurd (z refl)
  known_alike (Err refusal) e z = rw (refuses_alike r refusal (length s) e)

-- what the numbers named
module _ (s : List ℕ) (n w : ℕ) where
  found_enough : (f : Result Record Refusal) → Numbered f → size_returned f ≡ 0 → size_left f n ≤ length s → (write_returned f s ≡ 0) × (written_left f s w ≡ size_left f n)
  unfolding Numbered size_returned size_left write_returned written_left
  found_enough (Ok r) h z l = known_enough r s n w (size_told r) refl z l
  found_enough (Err refusal) h z l = absurd (omega arith)

  found_short : (f : Result Record Refusal) → Numbered f → size_returned f ≡ 0 → length s < size_left f n → write_returned f s ≡ 9
  unfolding Numbered size_returned size_left write_returned
  found_short (Ok r) h z l = known_short r s n w (size_told r) refl z l
  found_short (Err refusal) h z l = absurd (omega arith)

  found_alike : (f : Result Record Refusal) → (size_returned f ≡ 0 → ⊥) → write_returned f s ≡ size_returned f
  unfolding size_returned write_returned
  found_alike (Ok r) z = known_alike r s n w (size_told r) refl z
  found_alike (Err refusal) z = refl

pub foretells : ForetellsAll
unfolding ForetellsAll
foretells numbers s n w =
    let f = record_from numbers in
    record {
      enough = found_enough s n w f (numbered numbers);
      short = found_short s n w f (numbered numbers);
      alike = found_alike s n w f;
    }
