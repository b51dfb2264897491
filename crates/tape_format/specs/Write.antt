-- What a record is written as (document 01, "The tape"), and what writing answers and leaves in the lent space ("Numbers of refusal").
use Rattle.std.specs.Prelude.{ℕ, List, ◌∷◌, Bool, false, Result, Ok, Err, cond, length, leb}
use Rattle.std.specs.Option.{option_map_or}
use Rattle.order.specs.declared.Refusal.{Refusal}
use Rattle.order.specs.declared.Refusal.TheVariants as why
use Rattle.tape_format.specs.declared.Record.{Record}
use Rattle.number.specs.Number.{spell_all, filled}
use Rattle.tape_format.specs.Record.{layout_of, kind_of, fields_of, fits}

-- each field is one that the table allows
unfoldable pub valid : Record → Bool
valid r = option_map_or (λ layout. fits layout (fields_of r)) (layout_of (kind_of r)) false

-- the record's kind and fields, one after the other
unfoldable pub bytes_of : Record → List ℕ
bytes_of r = spell_all (kind_of r ∷ fields_of r)

-- the answer for a space of so many bytes: "writing a record tests 8, then 9; .. answers how many"
unfoldable pub written_of : Record → ℕ → Result ℕ Refusal
written_of r room =
    cond (valid r)
    (cond (leb (length (bytes_of r)) room) (Ok (length (bytes_of r))) (Err why.NoRoom))
    (Err why.FieldRange)

-- how many bytes were written; the number of refusal is `number_of`'s
unfoldable pub written_count : Result ℕ Refusal → ℕ
written_count (Ok count) = count
written_count (Err refusal) = 0

-- the space afterwards; refused, all of it stays
unfoldable pub space_after : Record → List ℕ → List ℕ
space_after r space = cond (valid r) (filled (bytes_of r) space) space
