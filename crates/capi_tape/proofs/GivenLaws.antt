-- What is written through the C interface is what was given.
use Prim.Native.Nat.{ℕ}
use native.Mathlib.Omega.{arith}
use mathlib.Core.Path.{◌≡◌, refl}
use mathlib.Core.Bool.{Bool, true, false, cond}
use mathlib.Core.List.{List, ◌∷◌, ◌++◌}
use lib.ListN.{length, drop}
use lib.Dec.{leb}
use Rattle.number.specs.Number.{filled}
use Rattle.std.specs.Prelude.{Result, Ok, Err}
use Rattle.order.specs.declared.Refusal.{Refusal}
use Rattle.order.specs.declared.Refusal.TheVariants.{FieldRange, NoRoom}
use Rattle.order.specs.Refusal.{number_of}
use Rattle.tape_format.specs.declared.Record.{Record}
use Rattle.tape_format.specs.Record.{kind_of, fields_of}
use Rattle.tape_format.specs.Ranges.{InRange}
use Rattle.tape_format.specs.Write.{valid, bytes_of, written_of, space_after}
use Rattle.tape_format.proofs.RangeLaws.{in_range_lem}
use Rattle.record_numbers.specs.Entry.{record_from, count_or, Forth}
use Rattle.record_numbers.proofs.ForthLaws.{forth}
use Rattle.record_numbers.proofs.NumberedLaws.{Numbered, numbered}
use Rattle.capi_tape.specs.Calls.{write_returned, space_left, written_left, WritesGiven}

-- a record that writing accepts: in range, told with its bytes, and put
Accepted : Record → List ℕ → ℕ → Type 0
Accepted r s w = (InRange r) × (count_or (written_of r (length s)) w ≡ length (bytes_of r)) × (space_after r s ≡ bytes_of r ++ drop (length (bytes_of r)) s)

accepted : (r : Record) (s : List ℕ) (w : ℕ) → number_of (written_of r (length s)) ≡ 0 → Accepted r s w
unfolding Accepted written_of space_after filled count_or
accepted r s w e = go (valid r) refl (leb (length (bytes_of r)) (length s)) refl e
  where
    go : (t : Bool) → valid r ≡ t → (u : Bool) → leb (length (bytes_of r)) (length s) ≡ u
        → number_of (cond t (cond u (Ok (length (bytes_of r))) (Err NoRoom)) (Err FieldRange)) ≡ 0 → Accepted r s w
    go true v true l x = (in_range_lem r v, rw (v, l), rw (v, l))
    go true v false l x = absurd (omega arith)
    go false v u l x = absurd (omega arith)

pub writes_given : WritesGiven
unfolding WritesGiven Forth Accepted Numbered write_returned written_left space_left
writes_given numbers s w e = go (record_from numbers) refl (numbered numbers) e
  where
    go : (f : Result Record Refusal) → record_from numbers ≡ f → Numbered f → write_returned f s ≡ 0
        → (r : Record) × ((behind : List ℕ) × (numbers ≡ (kind_of r ∷ fields_of r) ++ behind)) × (written_left f s w ≡ length (bytes_of r))
        × (space_left f s ≡ bytes_of r ++ drop (length (bytes_of r)) s)
    go (Ok r) q h x = let (i, c, b) = accepted r s w x in (r, forth numbers r q i, c, b)
    go (Err refusal) q h x = absurd (omega arith)
