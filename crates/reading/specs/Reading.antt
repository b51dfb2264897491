-- A tape read whole: its records in order, each with the place where it starts, how reading ends, and the calls that the records ask of the machine
-- (document 01, "Drill").
use Rattle.std.specs.Prelude.{ℕ, zero, suc, List, [], ◌∷◌, Option, None, Some, Result, Ok, Err, length}
use Rattle.number.specs.declared.Refused.{Refused}
use Rattle.coherence.specs.declared.Call.{Call}
use Rattle.coherence.specs.declared.Call.TheVariants as call
use Rattle.tape_format.specs.declared.Record.{Record}
use Rattle.tape_format.specs.declared.Record.TheVariants as rec
use Rattle.tape_format.specs.Record.{record_at}

-- a record with the place where it starts
pub record Started : Type 0 where
  pub start : ℕ
  pub item : Record

-- at the tape's end, or with a refusal
pub data Ending : Type 0 where
  finished : Ending
  refused : Refused → Ending

pub record Reading : Type 0 where
  pub records : List Started
  pub ending : Ending

-- the record that starts at a place in front of what is read after it
unfoldable pub and_more : ℕ → Record → Reading → Reading
and_more start r g = record { records = record { start = start; item = r } ∷ g.records; ending = g.ending }

unfoldable pub read_on : ℕ → Result (Option (Record × ℕ)) Refused → (ℕ → Reading) → Reading
read_on at (Ok (Some (r, next))) more = and_more at r (more next)
read_on at (Ok None) more = record { records = []; ending = finished }
read_on at (Err e) more = record { records = []; ending = refused e }

-- what is read from a place on, in at most n steps
unfoldable pub read_from : ℕ → List ℕ → ℕ → Reading
read_from zero tape at = record { records = []; ending = finished }
read_from (suc n) tape at = read_on at (record_at tape at) (read_from n tape)

-- the whole tape. A record is not empty, so that many steps come to its end (`ends` of specs/Claims.antt)
unfoldable pub read_all : List ℕ → Reading
read_all tape = read_from (suc (length tape)) tape 0

-- "For kinds 0 to 2 it prints a line; other kinds print nothing": the call of a record that is a load, a store or a flush
unfoldable pub access_of : Record → Option Call
access_of (rec.Load unit address) = Some (call.Load unit address)
access_of (rec.Store unit address value) = Some (call.Store unit address value)
access_of (rec.Flush unit block) = Some (call.Flush unit block)
access_of (rec.Order o) = None
access_of (rec.Answer from to aid code) = None
access_of (rec.Register from to aid write ra bct) = None
access_of (rec.Loaded unit value) = None
access_of (rec.Stamp cycles) = None

unfoldable pub and_calls : Option Call → List Call → List Call
and_calls (Some c) cs = c ∷ cs
and_calls None cs = cs

-- the calls of the records, in order
unfoldable pub calls_of : List Started → List Call
calls_of [] = []
calls_of (s ∷ ss) = and_calls (access_of s.item) (calls_of ss)
