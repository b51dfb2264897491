-- A tape's record as seven numbers, both ways: as it crosses to a program in another language.
use Rattle.std.specs.Prelude.{ℕ, ◌≤◌, ◌≡◌, Option, None, Some, Result, Ok, Err, cond, List, ◌∷◌, ◌++◌, length, get_or, leb, eqb}
use Rattle.order.specs.declared.Command.{Command}
use Rattle.order.specs.Command.{command_of}
use Rattle.order.specs.declared.Refusal.{Refusal}
use Rattle.order.specs.declared.Refusal.TheVariants.{UnknownKind, FieldRange}
use Rattle.tape_format.specs.declared.Record.{Record}
use Rattle.tape_format.specs.declared.Record.TheVariants as rec
use Rattle.tape_format.specs.Record.{kind_of, fields_of}
use Rattle.tape_format.specs.Ranges.{InRange}
use Rattle.tape_writer.specs.Numbers.{padded}
use Rattle.crossing.specs.Capped.{capped}

-- the numbers of a record: its kind, and as many fields as a record can have
abbrev pub record_width : ℕ
record_width = 7

-- with 0 behind them
unfoldable pub record_numbers : Record → List ℕ
record_numbers r = padded (kind_of r ∷ fields_of r)

-- A field that is too large for the record's type is refused with 8. Units, parties, blocks, BCT and addresses are capped: their types hold more than
-- their ranges, so that writing itself refuses what was capped. A stamp's cycles are any 64-bit number, so none crosses that is too large. The other fields are
-- tested.
unfoldable pub store_from : ℕ → ℕ → ℕ → Result Record Refusal
store_from unit address value =
    cond (leb value 4294967295)
    (Ok (rec.Store (capped 255 unit) (capped 4294967295 address) value))
    (Err FieldRange)

unfoldable pub order_with : Option Command → ℕ → ℕ → ℕ → Result Record Refusal
order_with (Some given) unit block retried =
    Ok (rec.Order (record { unit = capped 255 unit; command = given; block = capped 255 block; retried = eqb retried 1 }))
order_with None unit block retried = Err FieldRange

unfoldable pub order_from : ℕ → ℕ → ℕ → ℕ → Result Record Refusal
order_from unit command block retried =
    cond (leb retried 1) (order_with (command_of command) unit block retried) (Err FieldRange)

unfoldable pub answer_from : ℕ → ℕ → ℕ → ℕ → Result Record Refusal
answer_from from to aid code =
    cond (leb aid 255)
    (cond (leb code 255)
    (Ok (rec.Answer (capped 255 from) (capped 255 to) aid code))
    (Err FieldRange))
    (Err FieldRange)

unfoldable pub register_from : ℕ → ℕ → ℕ → ℕ → ℕ → ℕ → Result Record Refusal
register_from from to aid write ra bct =
    cond (leb aid 255)
    (cond (leb write 1)
    (cond (leb ra 4294967295)
    (Ok (rec.Register (capped 255 from) (capped 255 to) aid (eqb write 1) ra (capped 255 bct)))
    (Err FieldRange))
    (Err FieldRange))
    (Err FieldRange)

unfoldable pub loaded_from : ℕ → ℕ → Result Record Refusal
loaded_from unit value =
    cond (leb value 4294967295) (Ok (rec.Loaded (capped 255 unit) value)) (Err FieldRange)

-- the record of a kind with the fields a, b, c, d, e and f, of which it takes as many as it has
unfoldable pub kind_from : ℕ → ℕ → ℕ → ℕ → ℕ → ℕ → ℕ → Result Record Refusal
kind_from kind a b c d e f =
    cond (eqb kind 0) (Ok (rec.Load (capped 255 a) (capped 4294967295 b)))
    (cond (eqb kind 1) (store_from a b c)
    (cond (eqb kind 2) (Ok (rec.Flush (capped 255 a) (capped 255 b)))
    (cond (eqb kind 3) (order_from a b c d)
    (cond (eqb kind 4) (answer_from a b c d)
    (cond (eqb kind 5) (register_from a b c d e f)
    (cond (eqb kind 6) (loaded_from a b)
    (cond (eqb kind 8) (Ok (rec.Stamp a))
    (Err UnknownKind))))))))

-- "No field may be missing": any other count of numbers is refused with 8
unfoldable pub record_from : List ℕ → Result Record Refusal
record_from l =
    cond (eqb (length l) record_width)
    (kind_from (get_or l 0 0) (get_or l 1 0) (get_or l 2 0) (get_or l 3 0) (get_or l 4 0) (get_or l 5 0) (get_or l 6 0))
    (Err FieldRange)

-- the record's types hold its fields
unfoldable pub Fits : Record → Type 0
Fits (rec.Load unit address) = (unit ≤ 255) × (address ≤ 4294967295)
Fits (rec.Store unit address value) = (unit ≤ 255) × (address ≤ 4294967295) × (value ≤ 4294967295)
Fits (rec.Flush unit block) = (unit ≤ 255) × (block ≤ 255)
Fits (rec.Order o) = (o.unit ≤ 255) × (o.block ≤ 255)
Fits (rec.Answer from to aid code) = (from ≤ 255) × (to ≤ 255) × (aid ≤ 255) × (code ≤ 255)
Fits (rec.Register from to aid write ra bct) = (from ≤ 255) × (to ≤ 255) × (aid ≤ 255) × (ra ≤ 4294967295) × (bct ≤ 255)
Fits (rec.Loaded unit value) = (unit ≤ 255) × (value ≤ 4294967295)
Fits (rec.Stamp cycles) = cycles ≤ 18446744073709551615

-- such a record comes back from its numbers
unfoldable pub Back : Type 0
Back = (r : Record) → Fits r → record_from (record_numbers r) ≡ Ok r

-- and numbers that name a record in range begin with that record's: none of them was capped
unfoldable pub Forth : Type 0
Forth = (numbers : List ℕ) (r : Record) → record_from numbers ≡ Ok r → InRange r → (behind : List ℕ) × (numbers ≡ (kind_of r ∷ fields_of r) ++ behind)

-- how many bytes; a refusal leaves the number w
unfoldable pub count_or : Result ℕ Refusal → ℕ → ℕ
count_or (Ok count) w = count
count_or (Err refusal) w = w
