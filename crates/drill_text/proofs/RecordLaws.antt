-- What a drill needs to know of the records on a tape: a record's line takes at most 11 bytes for each of its own, and its numbers are short.
use Prim.Native.Nat.{ℕ, ◌+◌, ◌*◌, ◌≤◌}
use native.Mathlib.Omega.{arith}
use mathlib.Core.Path.{◌≡◌}
use mathlib.Core.Bool.{true}
use mathlib.Core.List.{List, ◌∷◌}
use lib.ListN.{length}
use Rattle.coherence.proofs.PlainLaws.{load_accepted, store_accepted, flush_accepted}
use Rattle.tape_format.specs.declared.Record.{Record}
use Rattle.tape_format.specs.declared.Record.TheVariants as rec
use Rattle.std.specs.Prelude.{Some, Ok}
use Rattle.tape_format.specs.Record.{record_at, kind_of, fields_of}
use Rattle.tape_format.specs.Write.{valid}
use Rattle.reading.specs.Reading.{access_of}
use Rattle.reading.proofs.RecordLaws.{value_below, valid_accepted, record_valid, record_long}
use Rattle.drill_text.specs.Writing.{Short, line_most}

line_numbers : (r : Record) → line_most (access_of r) ≤ 11 * length (kind_of r ∷ fields_of r)
unfolding fields_of access_of line_most
line_numbers (rec.Load u a) = omega arith
line_numbers (rec.Store u a v) = omega arith
line_numbers (rec.Flush u b) = omega arith
line_numbers (rec.Order o) = omega arith
line_numbers (rec.Answer f t a c) = omega arith
line_numbers (rec.Register f t a w x b) = omega arith
line_numbers (rec.Loaded u v) = omega arith
line_numbers (rec.Stamp c) = omega arith

valid_short : (r : Record) → valid r ≡ true → Short (access_of r)
unfolding access_of Short
valid_short (rec.Load u a) e = let h = load_accepted u a (valid_accepted (rec.Load u a) e) in (omega arith, omega arith)
valid_short (rec.Store u a v) e = let h = store_accepted u a v (valid_accepted (rec.Store u a v) e) in (omega arith, omega arith, value_below u a v e)
valid_short (rec.Flush u b) e = let h = flush_accepted u b (valid_accepted (rec.Flush u b) e) in (omega arith, omega arith)
valid_short (rec.Order o) e = tt
valid_short (rec.Answer f t a c) e = tt
valid_short (rec.Register f t a w x b) e = tt
valid_short (rec.Loaded u v) e = tt
valid_short (rec.Stamp c) e = tt

module _ (t : List ℕ) (at : ℕ) (r : Record) (next : ℕ) (e : record_at t at ≡ Ok (Some (r, next))) where
  pub record_line : 11 * at + line_most (access_of r) ≤ 11 * next
  record_line = omega (arith, line_numbers r, record_long t at r next e)

  pub record_short : Short (access_of r)
  record_short = valid_short r (record_valid t at r next e)
