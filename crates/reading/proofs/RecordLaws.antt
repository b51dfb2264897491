-- What a reader needs to know of the records on a tape: how many bytes a record takes, and that its call is one that the machine accepts.
use Prim.Native.Nat.{ℕ, ◌+◌, ◌%◌, ◌≤◌, ◌<◌}
use native.Mathlib.Omega.{arith}
use mathlib.Core.Path.{◌≡◌, refl, ◌∙◌}
use mathlib.Core.Bool.{true, ◌&&◌}
use mathlib.Core.List.{List, [], ◌∷◌}
use lib.Dec.{leb, eqb}
use lib.ListN.{length}
use borrow.Author.Tests.{leb-true}
use Rattle.coherence.specs.declared.Call.{Call}
use Rattle.coherence.specs.PlainMemory.{plain_accepts}
use Rattle.number.proofs.NumberLaws.{number_moves}
use Rattle.tape_format.specs.declared.Record.{Record}
use Rattle.tape_format.specs.declared.Record.TheVariants as rec
use Rattle.std.specs.Prelude.{Option, None, Some, Ok}
use Rattle.tape_format.specs.Field.{allowed}
use Rattle.tape_format.specs.Record.{record_at, kind_of, fields_of, layout_of, store, fits}
use Rattle.tape_format.specs.Refused.{Reads}
use Rattle.tape_format.specs.Write.{valid}
use Rattle.tape_format.specs.RoundTrip.{MovesOn}
use Rattle.tape_format.proofs.FieldLaws.{both_true}
use Rattle.tape_format.proofs.WriteLaws.{valid_load, valid_store, valid_flush}
use Rattle.tape_format.proofs.LayoutLaws.{record_taken}
use Rattle.tape_format.proofs.RoundTrip.{moves_on}
use Rattle.reading.specs.Reading.{access_of}
use Rattle.reading.specs.Claims.{PassesOver}

-- each number takes a byte at least
reads_long : (ns tape : List ℕ) (p q : ℕ) → Reads tape p ns q → length ns + p ≤ q
reads_long [] tape p q w = omega arith
reads_long (n ∷ ns) tape p q w =
    let m = number_moves n w.0 tape p w.1 in
    let r = reads_long ns tape w.0 q w.2 in
    omega arith

-- the call, if there is one, is accepted
abbrev pub Accepted : Option Call → Type 0
Accepted (Some c) = plain_accepts c ≡ true
Accepted None = Unit {0}

pub value_below : (u a v : ℕ) → valid (rec.Store u a v) ≡ true → v < 4294967296
unfolding valid kind_of fields_of layout_of store fits allowed
value_below u a v e =
    let (hu, h) = both_true (leb u 3) ((leb a 2044 && eqb (a % 4) 0) && (leb v 4294967295 && true)) e in
    let (ha, g) = both_true (leb a 2044 && eqb (a % 4) 0) (leb v 4294967295 && true) h in
    let (hv, f) = both_true (leb v 4294967295) true g in
    omega (arith, leb-true v 4294967295 hv)

address : (u a : ℕ) → leb u 3 && (leb a 2044 && eqb (a % 4) 0) ≡ true → leb u 3 && eqb (a % 4) 0 && leb a 2044 ≡ true
address u a e =
    let (hu, h) = both_true (leb u 3) (leb a 2044 && eqb (a % 4) 0) e in
    let (ha, hm) = both_true (leb a 2044) (eqb (a % 4) 0) h in
    rw (hu, ha, hm)

pub valid_accepted : (r : Record) → valid r ≡ true → Accepted (access_of r)
unfolding access_of allowed plain_accepts
valid_accepted (rec.Load u a) e = address u a (valid_load u a ∙ e)
valid_accepted (rec.Store u a v) e = address u a (let h = value_below u a v e in valid_store u a v (omega arith) ∙ e)
valid_accepted (rec.Flush u b) e = valid_flush u b ∙ e
valid_accepted (rec.Order o) e = tt
valid_accepted (rec.Answer f t a c) e = tt
valid_accepted (rec.Register f t a w x b) e = tt
valid_accepted (rec.Loaded u v) e = tt
valid_accepted (rec.Stamp c) e = tt

pub passes_over : PassesOver
unfolding PassesOver kind_of access_of
passes_over (rec.Load u a) h = absurd (omega arith)
passes_over (rec.Store u a v) h = absurd (omega arith)
passes_over (rec.Flush u b) h = absurd (omega arith)
passes_over (rec.Order o) h = refl
passes_over (rec.Answer f t a c) h = refl
passes_over (rec.Register f t a w x b) h = refl
passes_over (rec.Loaded u v) h = refl
passes_over (rec.Stamp c) h = refl

module _ (t : List ℕ) (at : ℕ) (r : Record) (next : ℕ) (e : record_at t at ≡ Ok (Some (r, next))) where
  pub record_valid : valid r ≡ true
  record_valid = (record_taken t at r next e).1

  pub record_accepted : Accepted (access_of r)
  record_accepted = valid_accepted r record_valid

  -- a record takes a byte for each of its numbers at least
  pub record_long : length (kind_of r ∷ fields_of r) + at ≤ next
  record_long = reads_long (kind_of r ∷ fields_of r) t at next (record_taken t at r next e).0

  pub record_place : (at < next) × (next ≤ length t)
  unfolding MovesOn
  record_place = moves_on t at next r e
