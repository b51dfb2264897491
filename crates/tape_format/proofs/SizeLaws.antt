-- How many bytes a record takes is as many as writing puts.
use Prim.Native.Nat.{ℕ}
use native.Mathlib.Omega.{arith}
use mathlib.Core.Path.{◌≡◌, refl, sym, ap}
use mathlib.Core.Bool.{Bool, true, false, cond}
use mathlib.Core.List.{List, ◌∷◌}
use lib.ListN.{length}
use borrow.Author.Tests.{le-leb, lt-leb}
use Rattle.order.specs.declared.Refusal.{Refusal}
use Rattle.order.specs.declared.Refusal.TheVariants as why
use Rattle.std.specs.Prelude.{Ok, Err}
use Rattle.number_writer.specs.GroupCount.{size_of}
use Rattle.number_writer.proofs.CountLaws.{size_exact}
use Rattle.tape_format.specs.declared.Record.{Record}
use Rattle.tape_format.specs.Record.{kind_of, fields_of}
use Rattle.tape_format.specs.Write.{valid, bytes_of, written_of}
use Rattle.tape_format.specs.Size.{record_size, size_told, Suffices, NeedsSize, RefusesAlike}

bytes_size : (r : Record) → length (bytes_of r) ≡ record_size r
unfolding bytes_of record_size
bytes_size r = size_exact (kind_of r ∷ fields_of r)

-- ---- the answer, by what the test found

module _ (r : Record) where
  pub size_valid : (ns : List ℕ) (size : ℕ) → valid r ≡ true → ns ≡ kind_of r ∷ fields_of r → size ≡ size_of ns → Ok size ≡ size_told r
  unfolding size_told record_size
  size_valid ns size v e s = rw (v, s, e)

  pub size_invalid : valid r ≡ false → Err why.FieldRange ≡ size_told r
  unfolding size_told
  size_invalid v = rw v

-- ---- what was answered is what writing does

told_bytes : (t : Bool) (n size : ℕ) → cond t (Ok n) (Err why.FieldRange) ≡ Ok size → (t ≡ true) × (n ≡ size)
told_bytes true n size e = (refl, cc)
told_bytes false n size e = absurd (let z : ◌≡◌ {A = ℕ} 0 1 = cc in omega arith)

told_refused : (t : Bool) (n : ℕ) (refusal : Refusal) → cond t (Ok n) (Err why.FieldRange) ≡ Err refusal → (t ≡ false) × (why.FieldRange ≡ refusal)
told_refused true n refusal e = absurd (let z : ◌≡◌ {A = ℕ} 0 1 = cc in omega arith)
told_refused false n refusal e = (refl, cc)

pub suffices : Suffices
unfolding Suffices size_told written_of
suffices r size room e h =
    let (v, s) = told_bytes (valid r) (record_size r) size e in
    rw (v, bytes_size r, s, le-leb size room h)

pub needs_size : NeedsSize
unfolding NeedsSize size_told written_of
needs_size r size room e h =
    let (v, s) = told_bytes (valid r) (record_size r) size e in
    rw (v, bytes_size r, s, lt-leb size room h)

pub refuses_alike : RefusesAlike
unfolding RefusesAlike size_told written_of
refuses_alike r refusal room e =
    let (v, s) = told_refused (valid r) (record_size r) refusal e in
    rw (v) (ap Err s)

-- for a field, and nothing else
pub refuses_8 : (r : Record) (refusal : Refusal) → size_told r ≡ Err refusal → refusal ≡ why.FieldRange
unfolding size_told
refuses_8 r refusal e = sym (told_refused (valid r) (record_size r) refusal e).1
