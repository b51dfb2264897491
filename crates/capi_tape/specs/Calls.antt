-- What reading and writing a record through the C interface answer and leave.
use Rattle.std.specs.Prelude.{ℕ, ◌≡◌, Result, Ok, Err, cond, List, [], ◌∷◌, ◌++◌, length, drop, leb}
use Rattle.order.specs.declared.Refusal.{Refusal}
use Rattle.order.specs.Refusal.{refusal_number, number_of, no_room}
use Rattle.tape_format.specs.declared.Record.{Record}
use Rattle.tape_format.specs.Record.{record_at, record_told, kind_of, fields_of}
use Rattle.tape_format.specs.Write.{bytes_of, written_of, space_after}
use Rattle.tape_writer.specs.Numbers.{padded}
use Rattle.record_numbers.specs.Entry.{record_width, record_from, count_or}

-- ---- reading

-- the numbers' space s afterwards: a refusal and the end of the tape have no numbers, and leave it
unfoldable pub filled : List ℕ → List ℕ → List ℕ
filled [] s = s
filled (n ∷ ns) s = padded (n ∷ ns) ++ drop record_width s

-- reading at a place of the tape, with the numbers' space s: 9 if it is too small
unfoldable pub read_returned : List ℕ → ℕ → List ℕ → ℕ
read_returned tape at s = cond (leb record_width (length s)) (record_told at (record_at tape at)).refusal no_room

unfoldable pub numbers_left : List ℕ → ℕ → List ℕ → List ℕ
numbers_left tape at s = cond (leb record_width (length s)) (filled (record_told at (record_at tape at)).numbers s) s

-- the number `next`, which was n
unfoldable pub next_left : List ℕ → ℕ → List ℕ → ℕ → ℕ
next_left tape at s n = cond (leb record_width (length s)) (record_told at (record_at tape at)).place n

-- ---- writing

-- writing what the numbers named, into the space s
unfoldable pub write_returned : Result Record Refusal → List ℕ → ℕ
write_returned (Ok r) s = number_of (written_of r (length s))
write_returned (Err refusal) s = refusal_number refusal

unfoldable pub space_left : Result Record Refusal → List ℕ → List ℕ
space_left (Ok r) s = space_after r s
space_left (Err refusal) s = s

unfoldable pub written_left : Result Record Refusal → List ℕ → ℕ → ℕ
written_left (Ok r) s w = count_or (written_of r (length s)) w
written_left (Err refusal) s w = w

-- where writing returns 0, the numbers begin with those of a record, and the bytes at the start of the space are that record's: what is written is what was given
unfoldable pub WritesGiven : Type 0
WritesGiven =
    (numbers s : List ℕ) (w : ℕ) → write_returned (record_from numbers) s ≡ 0
    → (r : Record) × ((behind : List ℕ) × (numbers ≡ (kind_of r ∷ fields_of r) ++ behind)) × (written_left (record_from numbers) s w ≡ length (bytes_of r))
    × (space_left (record_from numbers) s ≡ bytes_of r ++ drop (length (bytes_of r)) s)
