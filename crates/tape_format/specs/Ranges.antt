-- The ranges of the table of kinds (document 01, "The tape"; document 02, T-04), each in its words, and that writing and reading keep to them exactly.
use Rattle.std.specs.Prelude.{ℕ, ◌*◌, ◌≤◌, ◌<◌, ◌≡◌, ◌⊎◌, ◌≢◌, false, Some, Ok, Err, List, ◌∷◌, ◌++◌, length, drop}
use Rattle.order.specs.declared.Order.{Order}
use Rattle.order.specs.Command.{command_number}
use Rattle.order.specs.declared.Refusal.TheVariants as why
use Rattle.order.specs.Refusal.{number_of}
use Rattle.number.specs.Number.{number_at}
use Rattle.tape_format.specs.declared.Record.{Record}
use Rattle.tape_format.specs.declared.Record.TheVariants as rec
use Rattle.tape_format.specs.Record.{record_at, record_told, kind_of, fields_of}
use Rattle.tape_format.specs.Refused.{Reads}
use Rattle.tape_format.specs.Write.{bytes_of, written_of, written_count, space_after}

-- "Addresses are multiples of 4 up to 2,044."
unfoldable pub IsAddress : ℕ → Type 0
IsAddress a = ((q : ℕ) × (a ≡ 4 * q)) × (a ≤ 2044)

-- "Value and RA take any 32-bit number."
unfoldable pub IsWord : ℕ → Type 0
IsWord n = n ≤ 0xFFFF_FFFF

-- "one 64-bit field"
unfoldable pub IsCycles : ℕ → Type 0
IsCycles n = n ≤ 0xFFFF_FFFF_FFFF_FFFF

-- "retried must be 0 for 2 and 3"
unfoldable pub Retries : Order → Type 0
Retries o = (command_number o.command ≡ 2) ⊎ (command_number o.command ≡ 3) → o.retried ≡ false

-- "from 0-7, to 0-7"; "In kinds 4 and 5, to differs from from."
unfoldable pub Ends : ℕ → ℕ → Type 0
Ends from to = (from ≤ 7) × (to ≤ 7) × (to ≢ from)

-- the table: "unit 0-3", "block 0-63", "AID 0-255", "code 0-255", "BCT 0-7"
unfoldable pub InRange : Record → Type 0
InRange (rec.Load unit address) = (unit ≤ 3) × IsAddress address
InRange (rec.Store unit address value) = (unit ≤ 3) × IsAddress address × IsWord value
InRange (rec.Flush unit block) = (unit ≤ 3) × (block ≤ 63)
InRange (rec.Order o) = (o.unit ≤ 3) × (o.block ≤ 63) × Retries o
InRange (rec.Answer from to aid code) = Ends from to × (aid ≤ 255) × (code ≤ 255)
InRange (rec.Register from to aid write ra bct) = Ends from to × (aid ≤ 255) × IsWord ra × (bct ≤ 7)
InRange (rec.Loaded unit value) = (unit ≤ 3) × IsWord value
InRange (rec.Stamp cycles) = IsCycles cycles

-- Writing, in document 01's numbers: "Writing a record tests 8, then 9; it fills the first bytes of the lent space, answers how many, and the rest of the space
-- stays." "A refused call gives its number, .. every other number 0 .., and leaves .. output space unchanged."
unfoldable pub Answers : Record → List ℕ → ℕ → ℕ → List ℕ → Type 0
Answers r space refusal count left = (number_of (written_of r (length space)) ≡ refusal) × (written_count (written_of r (length space)) ≡ count) × (space_after r space ≡ left)

pub record WritesExactly (r : Record) (space : List ℕ) : Type 0 where
  pub broken : (InRange r → ⊥) → Answers r space 8 0 space
  pub small : InRange r → length space < length (bytes_of r) → Answers r space 9 0 space
  pub written : InRange r → length (bytes_of r) ≤ length space → Answers r space 0 (length (bytes_of r)) (bytes_of r ++ drop (length (bytes_of r)) space)

-- Reading: a record is read exactly where its kind and its fields stand as numbers, all in their ranges.
pub record ReadsExactly (tape : List ℕ) (at : ℕ) (r : Record) (next : ℕ) : Type 0 where
  pub only : record_at tape at ≡ Ok (Some (r, next)) → Reads tape at (kind_of r ∷ fields_of r) next × InRange r
  pub there : Reads tape at (kind_of r ∷ fields_of r) next → InRange r → record_at tape at ≡ Ok (Some (r, next))
  -- in document 01's numbers: no refusal, the place after it, its kind and fields
  pub told : record_at tape at ≡ Ok (Some (r, next)) → record_told at (record_at tape at) ≡ record { refusal = 0; place = next; numbers = kind_of r ∷ fields_of r }

unfoldable pub RangesHold : Type 0
RangesHold = ((r : Record) (space : List ℕ) → WritesExactly r space) × ((tape : List ℕ) (at : ℕ) (r : Record) (next : ℕ) → ReadsExactly tape at r next)

-- "7 for 7 and for 9 and above" (document 02, T-04): a well-spelled number that no kind has
unfoldable pub RefusesKinds : Type 0
RefusesKinds = (tape : List ℕ) (at v next : ℕ) → number_at tape at ≡ Ok (v, next) → (v ≡ 7) ⊎ (9 ≤ v) → record_at tape at ≡ Err (record { refusal = why.UnknownKind; place = at })

-- "a well-spelled number above 2^32 - 1 is now refusal 8 in every older field": v in the place of the field n of a record of the kinds 0 to 6, where its kind and
-- the fields before n stand
unfoldable pub RefusesLong : Type 0
RefusesLong =
    (tape : List ℕ) (at : ℕ) (r : Record) (before after : List ℕ) (n place v next : ℕ) → InRange r → kind_of r ≤ 6 → fields_of r ≡ before ++ n ∷ after
    → Reads tape at (kind_of r ∷ before) place → number_at tape place ≡ Ok (v, next) → 0xFFFF_FFFF < v → record_at tape at ≡ Err (record { refusal = why.FieldRange; place = place })
