-- A reader's place (document 01, "The tape": "The reader carries the tape together with its place on it"; "Numbers of refusal": a refused call leaves the place
-- unchanged).
use Rattle.std.specs.Prelude.{ℕ, ◌+◌, ◌≡◌, List, Option, None, Some, Result, Ok, Err, length}
use Rattle.number.specs.declared.Refused.{Refused}
use Rattle.number.specs.Number.{Bytes}
use Rattle.tape_format.specs.declared.Record.{Record}
use Rattle.tape_format.specs.Record.{record_at}
use Rattle.tape_format.specs.Write.{bytes_of}

-- the place after what was read at a place
unfoldable pub place_after : ℕ → Result (Option (Record × ℕ)) Refused → ℕ
place_after at (Ok (Some (r, next))) = next
place_after at (Ok None) = at
place_after at (Err e) = at

-- a record that is read moves the place by its bytes; at the tape's end and on a refusal it stays
pub record Moves (tape : List ℕ) (at : ℕ) : Type 0 where
  pub passes : (r : Record) (next : ℕ) → Bytes tape → record_at tape at ≡ Ok (Some (r, next)) → place_after at (record_at tape at) ≡ at + length (bytes_of r)
  pub stays : ((r : Record) (next : ℕ) → record_at tape at ≡ Ok (Some (r, next)) → ⊥) → place_after at (record_at tape at) ≡ at
