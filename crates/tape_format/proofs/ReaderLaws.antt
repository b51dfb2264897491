-- A reader moves by the bytes of the record that it read, or stays.
use Prim.Native.Nat.{ℕ}
use mathlib.Core.Path.{◌≡◌, refl}
use mathlib.Core.List.{List}
use Rattle.std.specs.Prelude.{Option, None, Some, Result, Ok, Err}
use Rattle.number.specs.declared.Refused.{Refused}
use Rattle.tape_format.specs.declared.Record.{Record}
use Rattle.tape_format.specs.Record.{record_at}
use Rattle.tape_format.specs.Reader.{place_after, Moves}
use Rattle.tape_format.proofs.RoundTrip.{bytes_of_read}

unmoved : (at : ℕ) (x : Result (Option (Record × ℕ)) Refused) → ((r : Record) (next : ℕ) → x ≡ Ok (Some (r, next)) → ⊥) → place_after at x ≡ at
unfolding place_after
unmoved at (Ok (Some (r, next))) h = absurd (h r next refl)
unmoved at (Ok None) h = refl
unmoved at (Err e) h = refl

pub moves : (tape : List ℕ) (at : ℕ) → Moves tape at
unfolding place_after
moves tape at = record { passes = λ r next all e. rw e (bytes_of_read tape at r next all e).1; stays = unmoved at (record_at tape at) }
