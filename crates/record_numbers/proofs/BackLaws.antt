-- A record comes back from its numbers.
use Prim.Native.Nat.{ℕ, ◌≤◌}
use mathlib.Core.Path.{◌≡◌, refl}
use mathlib.Core.Bool.{Bool, true, false}
use borrow.Author.Tests.{le-leb}
use Rattle.std.specs.Prelude.{Ok}
use Rattle.order.specs.declared.Order.{Order}
use Rattle.order.specs.Command.{command_number}
use Rattle.order.specs.Flag.{flag}
use Rattle.order.proofs.CommandLaws.{command_of_number}
use Rattle.tape_format.specs.declared.Record.TheVariants as rec
use Rattle.tape_format.specs.Record.{kind_of, fields_of}
use Rattle.crossing.specs.Capped.{capped}
use Rattle.crossing.proofs.CappedLaws.{caps}
use Rattle.tape_writer.specs.Numbers.{padded}
use Rattle.record_numbers.specs.Entry.{record_numbers, store_from, order_with, order_from, answer_from, register_from, loaded_from, kind_from, record_from, Fits, Back}

byte : (n : ℕ) → n ≤ 255 → capped 255 n ≡ n
byte = (caps 255).keeps

word : (n : ℕ) → n ≤ 4294967295 → capped 4294967295 n ≡ n
word = (caps 4294967295).keeps

order_back : (o : Order) → (o.unit ≤ 255) × (o.block ≤ 255) → order_from o.unit (command_number o.command) o.block (flag o.retried) ≡ Ok (rec.Order o)
unfolding order_from order_with flag
order_back o h = go o.retried refl
  where
    go : (t : Bool) → o.retried ≡ t → order_from o.unit (command_number o.command) o.block (flag t) ≡ Ok (rec.Order (record { unit = o.unit; command = o.command; block = o.block; retried = t }))
    go true q = rw (command_of_number o.command, byte o.unit h.0, byte o.block h.1)
    go false q = rw (command_of_number o.command, byte o.unit h.0, byte o.block h.1)

register_back : (f t a x b : ℕ) (w : Bool) → Fits (rec.Register f t a w x b) → register_from f t a (flag w) x b ≡ Ok (rec.Register f t a w x b)
unfolding register_from Fits flag
register_back f t a x b true h = rw (le-leb a 255 h.2, le-leb x 4294967295 h.3, byte f h.0, byte t h.1, byte b h.4)
register_back f t a x b false h = rw (le-leb a 255 h.2, le-leb x 4294967295 h.3, byte f h.0, byte t h.1, byte b h.4)

pub back : Back
unfolding Back Fits record_from kind_from record_numbers padded kind_of fields_of store_from answer_from loaded_from
back (rec.Load u a) h = rw (byte u h.0, word a h.1)
back (rec.Store u a v) h = rw (le-leb v 4294967295 h.2, byte u h.0, word a h.1)
back (rec.Flush u b) h = rw (byte u h.0, byte b h.1)
back (rec.Order o) h = order_back o h
back (rec.Answer f t a c) h = rw (le-leb a 255 h.2, le-leb c 255 h.3, byte f h.0, byte t h.1)
back (rec.Register f t a w x b) h = register_back f t a x b w h
back (rec.Loaded u v) h = rw (le-leb v 4294967295 h.1, byte u h.0)
back (rec.Stamp c) h = refl
