-- Records on the tape (document 01, "The tape"; document 02, T-04): the table of kinds and their fields, and reading by it, number by number.
use Rattle.std.specs.Prelude.{ℕ, List, [], ◌∷◌, Bool, true, false, Option, None, Some, Result, Ok, Err, cond, ◌&&◌, length, eqb}
use Rattle.std.specs.Option.{option_map_or}
use Rattle.order.specs.declared.Command.{Command}
use Rattle.order.specs.Command.{command_number, command_of}
use Rattle.order.specs.Flag.{flag}
use Rattle.order.specs.declared.Refusal.TheVariants as why
use Rattle.order.specs.Refusal.{accepted, refusal_number}
use Rattle.number.specs.declared.Refused.{Refused}
use Rattle.tape_format.specs.declared.Rule.{Rule}
use Rattle.tape_format.specs.declared.Rule.TheVariants.{Unit, Address, Word, Block, Retried, From, To, Byte, Flag, Bct, Cycles}
use Rattle.tape_format.specs.declared.Record.{Record}
use Rattle.tape_format.specs.declared.Record.TheVariants as rec
use Rattle.number.specs.Number.{number_at, Told}
use Rattle.tape_format.specs.Field.{allowed, field_at}

-- a layout, the fields of a kind in order: a number with its rule, or a command, and what follows it; at the end, the record that they make
pub data Layout : Type 0 where
  field : Rule → (ℕ → Layout) → Layout
  command : (Command → Layout) → Layout
  end : Record → Layout

-- the table of kinds, a layout for each. RA takes any 32-bit number as a value does; AID and code are 0-255
unfoldable pub load : Layout
load = field Unit λ unit. field Address λ address. end (rec.Load unit address)

unfoldable pub store : Layout
store = field Unit λ unit. field Address λ address. field Word λ value. end (rec.Store unit address value)

unfoldable pub flush : Layout
flush = field Unit λ unit. field Block λ block. end (rec.Flush unit block)

unfoldable pub order : Layout
order =
    field Unit λ unit. command λ given. field Block λ block. field (Retried given) λ retried.
    end (rec.Order (record { unit = unit; command = given; block = block; retried = eqb retried 1 }))

unfoldable pub answer : Layout
answer = field From λ from. field (To from) λ to. field Byte λ aid. field Byte λ code. end (rec.Answer from to aid code)

unfoldable pub register : Layout
register =
    field From λ from. field (To from) λ to. field Byte λ aid. field Flag λ write. field Word λ ra. field Bct λ bct.
    end (rec.Register from to aid (eqb write 1) ra bct)

unfoldable pub loaded : Layout
loaded = field Unit λ unit. field Word λ value. end (rec.Loaded unit value)

-- "A new kind 8, stamp, has one 64-bit field"
unfoldable pub stamp : Layout
stamp = field Cycles λ cycles. end (rec.Stamp cycles)

-- the layout that a kind has; "7 for 7 and for 9 and above"
unfoldable pub layout_of : ℕ → Option Layout
layout_of kind =
    cond (eqb kind 0) (Some load)
    (cond (eqb kind 1) (Some store)
    (cond (eqb kind 2) (Some flush)
    (cond (eqb kind 3) (Some order)
    (cond (eqb kind 4) (Some answer)
    (cond (eqb kind 5) (Some register)
    (cond (eqb kind 6) (Some loaded)
    (cond (eqb kind 8) (Some stamp) None)))))))

-- the next step with the number and the place after it, or the refusal: "the first bad number ends it"
unfoldable pub and_then : Result (ℕ × ℕ) Refused → (ℕ → ℕ → Result (Option (Record × ℕ)) Refused) → Result (Option (Record × ℕ)) Refused
and_then (Ok (v, next)) step = step v next
and_then (Err e) step = Err e

-- a command's number that no command has is refusal 8, at its start
unfoldable pub and_command : Option Command → ℕ → (Command → Result (Option (Record × ℕ)) Refused) → Result (Option (Record × ℕ)) Refused
and_command (Some given) at step = step given
and_command None at step = Err (record { refusal = why.FieldRange; place = at })

-- the fields that start at a place, from left to right
unfoldable pub fields_at : Layout → List ℕ → ℕ → Result (Option (Record × ℕ)) Refused
fields_at (field rule more) tape at = and_then (field_at rule tape at) λ v next. fields_at (more v) tape next
fields_at (command more) tape at = and_then (number_at tape at) λ v next. and_command (command_of v) at λ given. fields_at (more given) tape next
fields_at (end r) tape at = Ok (Some (r, at))

-- the record of a kind that stands at `start`, its fields at `at`; a kind that the table lacks is refusal 7, at its start
unfoldable pub kind_at : List ℕ → ℕ → ℕ → ℕ → Result (Option (Record × ℕ)) Refused
kind_at tape start kind at = option_map_or (λ layout. fields_at layout tape at) (layout_of kind) (Err (record { refusal = why.UnknownKind; place = start }))

-- the record that starts at a place; "a place exactly at the end of the tape means finished and is no refusal"
unfoldable pub record_at : List ℕ → ℕ → Result (Option (Record × ℕ)) Refused
record_at tape at = cond (eqb at (length tape)) (Ok None) (and_then (number_at tape at) λ kind first. kind_at tape at kind first)

-- a record's kind, and its fields in the table's order
unfoldable pub kind_of : Record → ℕ
kind_of (rec.Load unit address) = 0
kind_of (rec.Store unit address value) = 1
kind_of (rec.Flush unit block) = 2
kind_of (rec.Order o) = 3
kind_of (rec.Answer from to aid code) = 4
kind_of (rec.Register from to aid write ra bct) = 5
kind_of (rec.Loaded unit value) = 6
kind_of (rec.Stamp cycles) = 8

unfoldable pub fields_of : Record → List ℕ
fields_of (rec.Load unit address) = unit ∷ address ∷ []
fields_of (rec.Store unit address value) = unit ∷ address ∷ value ∷ []
fields_of (rec.Flush unit block) = unit ∷ block ∷ []
fields_of (rec.Order o) = o.unit ∷ command_number o.command ∷ o.block ∷ flag o.retried ∷ []
fields_of (rec.Answer from to aid code) = from ∷ to ∷ aid ∷ code ∷ []
fields_of (rec.Register from to aid write ra bct) = from ∷ to ∷ aid ∷ flag write ∷ ra ∷ bct ∷ []
fields_of (rec.Loaded unit value) = unit ∷ value ∷ []
fields_of (rec.Stamp cycles) = cycles ∷ []

-- reading at a place in document 01's numbers: a record's are its kind and fields; "finished" is no refusal, has no numbers, and stays at the place
unfoldable pub record_told : ℕ → Result (Option (Record × ℕ)) Refused → Told
record_told at (Ok (Some (r, next))) = record { refusal = accepted; place = next; numbers = kind_of r ∷ fields_of r }
record_told at (Ok None) = record { refusal = accepted; place = at; numbers = [] }
record_told at (Err e) = record { refusal = refusal_number e.refusal; place = e.place; numbers = [] }

-- whether numbers stand in a layout's fields, one for each, and each as its rule allows
unfoldable pub fits_command : Option Command → (Command → Bool) → Bool
fits_command (Some given) rest = rest given
fits_command None rest = false

unfoldable pub fits : Layout → List ℕ → Bool
fits (field rule more) (n ∷ ns) = allowed rule n && fits (more n) ns
fits (field rule more) [] = false
fits (command more) (n ∷ ns) = fits_command (command_of n) λ given. fits (more given) ns
fits (command more) [] = false
fits (end r) (n ∷ ns) = false
fits (end r) [] = true
