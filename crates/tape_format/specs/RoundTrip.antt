-- Demand 2 for the tape, as statements over the definitions of reading and writing: each record has one spelling, and the two are inverse, byte for byte.
use Rattle.std.specs.Prelude.{ℕ, ◌+◌, ◌-◌, ◌≤◌, ◌<◌, ◌≡◌, None, Some, Ok, Err, List, [], ◌∷◌, ◌++◌, length, take, drop}
use Rattle.order.specs.declared.Refusal.TheVariants as why
use Rattle.tape_format.specs.declared.Record.{Record}
use Rattle.number.specs.Number.{Bytes}
use Rattle.tape_format.specs.Record.{record_at}
use Rattle.tape_format.specs.Write.{written_of, space_after}

-- what writing left in the space is read as the record, up to the place that writing answered, whatever stands before and after it
unfoldable pub ReadsBack : Type 0
ReadsBack =
    (r : Record) (space : List ℕ) (n : ℕ) → written_of r (length space) ≡ Ok n
    → (before after : List ℕ) → record_at (before ++ (take n (space_after r space) ++ after)) (length before) ≡ Ok (Some (r, length before + n))

-- a record that was read is accepted by writing wherever there is room, and written as the bytes between the two places; where there is no room it is refusal 9
unfoldable pub WritesBack : Type 0
WritesBack =
    (tape : List ℕ) (at next : ℕ) (r : Record) (space : List ℕ) → Bytes tape → record_at tape at ≡ Ok (Some (r, next))
    → (next - at ≤ length space → (written_of r (length space) ≡ Ok (next - at)) × (take (next - at) (space_after r space) ≡ take (next - at) (drop at tape)))
    × (length space < next - at → written_of r (length space) ≡ Err why.NoRoom)

-- reading never goes back, and never past the end
unfoldable pub MovesOn : Type 0
MovesOn = (tape : List ℕ) (at next : ℕ) (r : Record) → record_at tape at ≡ Ok (Some (r, next)) → (at < next) × (next ≤ length tape)

-- the bytes are those of the records, each accepted by writing into some space, one after the other
unfoldable pub WrittenAs : List Record → List ℕ → Type 0
WrittenAs [] bytes = bytes ≡ []
WrittenAs (r ∷ rs) bytes =
    (space : List ℕ) × (n : ℕ) × (rest : List ℕ) × (written_of r (length space) ≡ Ok n) × (bytes ≡ take n (space_after r space) ++ rest) × WrittenAs rs rest

-- from a place on, the tape reads as the records, each from where the one before ended, and then "finished"
unfoldable pub ReadsAs : List ℕ → ℕ → List Record → Type 0
ReadsAs tape at [] = record_at tape at ≡ Ok None
ReadsAs tape at (r ∷ rs) = (next : ℕ) × (record_at tape at ≡ Ok (Some (r, next))) × ReadsAs tape next rs

-- a whole tape of written records reads as those records, and a tape that reads to "finished" is the writing of what was read
unfoldable pub TapeReadsBack : Type 0
TapeReadsBack = (rs : List Record) (tape : List ℕ) → WrittenAs rs tape → ReadsAs tape 0 rs

unfoldable pub TapeWritesBack : Type 0
TapeWritesBack = (rs : List Record) (tape : List ℕ) → Bytes tape → ReadsAs tape 0 rs → WrittenAs rs tape
