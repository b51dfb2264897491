-- What asking how many bytes a record takes answers and leaves through the C interface, and that writing the record does what was answered.
use Rattle.std.specs.Prelude.{ℕ, ◌≤◌, ◌<◌, ◌≡◌, Result, Ok, Err, List, length}
use Rattle.order.specs.declared.Refusal.{Refusal}
use Rattle.order.specs.Refusal.{refusal_number, number_of}
use Rattle.tape_format.specs.declared.Record.{Record}
use Rattle.tape_format.specs.Size.{size_told}
use Rattle.record_numbers.specs.Entry.{record_from, count_or}
use Rattle.capi_tape.specs.Calls.{write_returned, written_left}

unfoldable pub size_returned : Result Record Refusal → ℕ
size_returned (Ok r) = number_of (size_told r)
size_returned (Err refusal) = refusal_number refusal

-- the number `size`, which was w
unfoldable pub size_left : Result Record Refusal → ℕ → ℕ
size_left (Ok r) w = count_or (size_told r) w
size_left (Err refusal) w = w

-- for any numbers: the size is that of the smallest space in which they are written, and what is refused here is refused there, whatever the space s; a size that
-- was n, a count that was w
pub record Foretells (numbers s : List ℕ) (n w : ℕ) : Type 0 where
  pub enough :
      size_returned (record_from numbers) ≡ 0 → size_left (record_from numbers) n ≤ length s
      → (write_returned (record_from numbers) s ≡ 0) × (written_left (record_from numbers) s w ≡ size_left (record_from numbers) n)
  pub short : size_returned (record_from numbers) ≡ 0 → length s < size_left (record_from numbers) n → write_returned (record_from numbers) s ≡ 9
  pub alike : (size_returned (record_from numbers) ≡ 0 → ⊥) → write_returned (record_from numbers) s ≡ size_returned (record_from numbers)

unfoldable pub ForetellsAll : Type 0
ForetellsAll = (numbers s : List ℕ) (n w : ℕ) → Foretells numbers s n w
