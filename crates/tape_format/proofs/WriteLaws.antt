-- Laws of writing: which records are valid, kind by kind, and the answer and the space by what the tests found.
use Prim.Native.Nat.{ℕ, ◌≤◌, ◌<◌}
use mathlib.Core.Path.{◌≡◌, refl, ap}
use mathlib.Core.List.{List, ◌∷◌}
use mathlib.Core.Bool.{Bool, true, false, ◌&&◌}
use lib.ListN.{length}
use borrow.Author.Tests.{le-leb, lt-leb}
use Rattle.order.specs.declared.Order.{Order}
use Rattle.order.specs.declared.Refusal.TheVariants as why
use Rattle.std.specs.Prelude.{Ok, Err}
use Rattle.order.proofs.CommandLaws.{command_of_number}
use Rattle.tape_format.specs.declared.Rule.TheVariants.{Unit, Address, Word, Block, Retried, From, To, Byte, Flag, Bct, Cycles}
use Rattle.tape_format.specs.declared.Record.{Record}
use Rattle.tape_format.specs.declared.Record.TheVariants as rec
use Rattle.number.specs.Number.{spell_all, filled}
use Rattle.tape_format.specs.Field.{allowed}
use Rattle.order.specs.Flag.{flag}
use Rattle.tape_format.specs.Record.{load, store, flush, order, answer, register, loaded, stamp, layout_of, kind_of, fields_of, fits, fits_command}
use Rattle.tape_format.specs.Write.{valid, bytes_of, written_of, space_after}

and-true : (a : Bool) → a && true ≡ a
and-true true = refl
and-true false = refl

pub word : (n : ℕ) → n ≤ 4294967295 → allowed Word n ≡ true
unfolding allowed
word n h = le-leb n 4294967295 h

pub byte : (n : ℕ) → n ≤ 255 → allowed Byte n ≡ true
unfolding allowed
byte n h = le-leb n 255 h

pub flag_allowed : (b : Bool) → allowed Flag (flag b) ≡ true
unfolding allowed flag
flag_allowed true = refl
flag_allowed false = refl

pub valid_load : (u a : ℕ) → allowed Unit u && allowed Address a ≡ valid (rec.Load u a)
unfolding valid layout_of kind_of fields_of fits load
valid_load u a = rw (and-true (allowed Address a))

pub valid_store : (u a v : ℕ) → v ≤ 4294967295 → allowed Unit u && allowed Address a ≡ valid (rec.Store u a v)
unfolding valid layout_of kind_of fields_of fits store
valid_store u a v h = rw (word v h, and-true (allowed Address a))

pub valid_flush : (u b : ℕ) → allowed Unit u && allowed Block b ≡ valid (rec.Flush u b)
unfolding valid layout_of kind_of fields_of fits flush
valid_flush u b = rw (and-true (allowed Block b))

pub valid_order : (o : Order) → allowed Unit o.unit && (allowed Block o.block && allowed (Retried o.command) (flag o.retried)) ≡ valid (rec.Order o)
unfolding valid layout_of kind_of fields_of fits fits_command order
valid_order o = rw (command_of_number o.command, and-true (allowed (Retried o.command) (flag o.retried)))

pub valid_answer : (from to aid code : ℕ) → aid ≤ 255 → code ≤ 255 → allowed From from && allowed (To from) to ≡ valid (rec.Answer from to aid code)
unfolding valid layout_of kind_of fields_of fits answer
valid_answer from to aid code h k = rw (byte aid h, byte code k, and-true (allowed (To from) to))

pub valid_register : (from to aid : ℕ) (write : Bool) (ra bct : ℕ) → aid ≤ 255 → ra ≤ 4294967295 → allowed From from && allowed (To from) to && allowed Bct bct ≡ valid (rec.Register from to aid write ra bct)
unfolding valid layout_of kind_of fields_of fits register
valid_register from to aid write ra bct h k = rw (byte aid h, flag_allowed write, word ra k, and-true (allowed Bct bct)) (and_assoc (allowed From from) (allowed (To from) to) (allowed Bct bct))
  where
    and_assoc : (a b c : Bool) → a && b && c ≡ a && (b && c)
    and_assoc true b c = refl
    and_assoc false b c = refl

pub valid_loaded : (u v : ℕ) → v ≤ 4294967295 → allowed Unit u ≡ valid (rec.Loaded u v)
unfolding valid layout_of kind_of fields_of fits loaded
valid_loaded u v h = rw (word v h, and-true (allowed Unit u))

pub valid_stamp : (c : ℕ) → allowed Cycles c ≡ valid (rec.Stamp c)
unfolding valid layout_of kind_of fields_of fits stamp
valid_stamp c = rw (and-true (allowed Cycles c))

-- the numbers that code spells are the record's
pub bytes_of_numbers : (r : Record) (ns : List ℕ) → ns ≡ kind_of r ∷ fields_of r → spell_all ns ≡ bytes_of r
unfolding bytes_of
bytes_of_numbers r ns e = ap spell_all e

-- the answer and the space, by what the tests found
module _ (r : Record) (space : List ℕ) where
  pub write_invalid : valid r ≡ false → (Err why.FieldRange ≡ written_of r (length space)) × (space ≡ space_after r space)
  unfolding written_of space_after
  write_invalid e = rw e (refl, refl)

  pub write_no_room : (size : ℕ) → valid r ≡ true → size ≡ length (bytes_of r) → length space < size → Err why.NoRoom ≡ written_of r (length space)
  unfolding written_of
  write_no_room size e s h = rw (e, lt-leb (length (bytes_of r)) (length space) (rw s at h))

  pub write_done : (size : ℕ) → valid r ≡ true → size ≡ length (bytes_of r) → size ≤ length space → Ok size ≡ written_of r (length space)
  unfolding written_of
  write_done size e s h = rw (e, le-leb (length (bytes_of r)) (length space) (rw s at h), s)

  pub space_filled : (s left : List ℕ) → valid r ≡ true → s ≡ bytes_of r → left ≡ filled s space → left ≡ space_after r space
  unfolding space_after
  space_filled s left e b f = rw (e, ← b) f
