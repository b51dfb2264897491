-- What holds of the reading of every tape.
use Rattle.std.specs.Prelude.{ℕ, ◌<◌, ◌≡◌, true, List, [], ◌∷◌, None, Some, Ok, Err, map, length}
use Rattle.coherence.specs.declared.Call.{Call}
use Rattle.coherence.specs.PlainMemory.{plain_accepts}
use Rattle.tape_format.specs.declared.Record.{Record}
use Rattle.tape_format.specs.Record.{record_at, kind_of}
use Rattle.tape_format.specs.RoundTrip.{ReadsAs}
use Rattle.reading.specs.Reading.{Started, Ending, finished, refused, read_from, read_all, access_of, calls_of}

-- from a place on, the tape reads as the records, each from where the one before ended, and then so ends
unfoldable pub ReadsTo : List ℕ → ℕ → List Started → Ending → Type 0
ReadsTo tape at [] finished = record_at tape at ≡ Ok None
ReadsTo tape at [] (refused e) = record_at tape at ≡ Err e
ReadsTo tape at (s ∷ ss) ending = (s.start ≡ at) × (next : ℕ) × (record_at tape at ≡ Ok (Some (s.item, next))) × ReadsTo tape next ss ending

unfoldable pub items : List Started → List Record
items ss = map (λ s. s.item) ss

-- a plain memory accepts each of the calls
unfoldable pub AllAccepted : List Call → Type 0
AllAccepted [] = Unit {0}
AllAccepted (c ∷ cs) = (plain_accepts c ≡ true) × AllAccepted cs

-- "For kinds 0 to 2 it prints a line; other kinds print nothing": a record of another kind asks no call
unfoldable pub PassesOver : Type 0
PassesOver = (r : Record) → 2 < kind_of r → access_of r ≡ None

pub record Claims (tape : List ℕ) : Type 0 where
  pub reads : ReadsTo tape 0 (read_all tape).records (read_all tape).ending
  -- a tape that is read to its end is, by `TapeWritesBack`, the writing of its records
  pub whole : (read_all tape).ending ≡ finished → ReadsAs tape 0 (items (read_all tape).records)
  -- reading comes to its end: more steps read no more
  pub ends : (n : ℕ) → length tape < n → read_from n tape 0 ≡ read_all tape
  -- no call of a tape is refused: the ranges of the tape's fields are those of the machine
  pub accepts : AllAccepted (calls_of (read_all tape).records)
