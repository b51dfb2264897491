-- How many bytes a record takes, which a caller asks before writing it (document 02, T-06), and that what is answered is what writing then does.
use Rattle.std.specs.Prelude.{ℕ, ◌≤◌, ◌<◌, ◌≡◌, Result, Ok, Err, cond, ◌∷◌}
use Rattle.order.specs.declared.Refusal.{Refusal}
use Rattle.order.specs.declared.Refusal.TheVariants as why
use Rattle.number_writer.specs.GroupCount.{size_of}
use Rattle.tape_format.specs.declared.Record.{Record}
use Rattle.tape_format.specs.Record.{kind_of, fields_of}
use Rattle.tape_format.specs.Write.{valid, written_of}

-- the sum over its numbers: the kind, and each field
unfoldable pub record_size : Record → ℕ
record_size r = size_of (kind_of r ∷ fields_of r)

-- the answer; a record that writing refuses for a field is refused alike
unfoldable pub size_told : Record → Result ℕ Refusal
size_told r = cond (valid r) (Ok (record_size r)) (Err why.FieldRange)

-- a space of so many bytes is enough, and the record then has so many
unfoldable pub Suffices : Type 0
Suffices = (r : Record) (size room : ℕ) → size_told r ≡ Ok size → size ≤ room → written_of r room ≡ Ok size

-- a smaller one is refused with 9
unfoldable pub NeedsSize : Type 0
NeedsSize = (r : Record) (size room : ℕ) → size_told r ≡ Ok size → room < size → written_of r room ≡ Err why.NoRoom

-- what is refused here is refused by writing alike, whatever the space
unfoldable pub RefusesAlike : Type 0
RefusesAlike = (r : Record) (refusal : Refusal) (room : ℕ) → size_told r ≡ Err refusal → written_of r room ≡ Err refusal
