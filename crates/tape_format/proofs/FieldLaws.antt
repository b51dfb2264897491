-- Laws of a field: which numbers are taken, and what is known of one that was read.
use Prim.Native.Nat.{ℕ, ◌≤◌}
use native.Mathlib.Omega.{arith}
use mathlib.Core.Path.{◌≡◌, refl}
use mathlib.Core.List.{List}
use mathlib.Core.Bool.{Bool, true, false, cond, ◌&&◌, false≢true}
use lib.Dec.{leb}
use borrow.Author.Tests.{leb-true}
use Rattle.order.specs.declared.Command.{Command}
use Rattle.order.specs.declared.Command.TheVariants as command
use Rattle.order.specs.declared.Refusal.TheVariants as why
use Rattle.std.specs.Prelude.{Result, Ok, Err}
use Rattle.number.specs.declared.Refused.{Refused}
use Rattle.number.proofs.AnswerLaws.{ok_pair}
use Rattle.tape_format.specs.declared.Rule.{Rule}
use Rattle.tape_format.specs.declared.Rule.TheVariants.{Unit, Address, Word, Block, Retried, From, To, Byte, Flag, Bct, Cycles}
use Rattle.number.specs.Number.{number_at}
use Rattle.tape_format.specs.Field.{retried_most, allowed, most_of, ruled, field_at}

pub both_true : (a b : Bool) → a && b ≡ true → (a ≡ true) × (b ≡ true)
both_true true b e = (refl, e)
both_true false b e = absurd (false≢true e)

-- a number that the rule allows, and one that it does not
module _ (rule : Rule) (tape : List ℕ) (at : ℕ) where
  pub field_allowed : {r : Result (ℕ × ℕ) Refused} {v q : ℕ} → r ≡ number_at tape at → r ≡ Ok (v, q) → allowed rule v ≡ true → Ok (v, q) ≡ field_at rule tape at
  unfolding field_at ruled
  field_allowed a b h = rw (← a, b, h)

  pub field_banned : {r : Result (ℕ × ℕ) Refused} {v q : ℕ} → r ≡ number_at tape at → r ≡ Ok (v, q) → allowed rule v ≡ false → Err (record { refusal = why.FieldRange; place = at }) ≡ field_at rule tape at
  unfolding field_at ruled
  field_banned a b h = rw (← a, b, h)

ruled_number : (rule : Rule) (at : ℕ) (r : Result (ℕ × ℕ) Refused) (v q : ℕ) → ruled rule at r ≡ Ok (v, q) → (r ≡ Ok (v, q)) × (allowed rule v ≡ true)
unfolding ruled
ruled_number rule at (Ok (w, p)) v q e = go (allowed rule w) _ refl e
  where
    go : (t : Bool) (r : Refused) → allowed rule w ≡ t → cond {A = Result (ℕ × ℕ) Refused} t (Ok (w, p)) (Err r) ≡ Ok (v, q) → (◌≡◌ {A = Result (ℕ × ℕ) Refused} (Ok (w, p)) (Ok (v, q))) × (allowed rule v ≡ true)
    go true r t e = (e, rw (ok_pair e).0 at t)
    go false r t e = absurd (let z : ◌≡◌ {A = ℕ} 0 1 = cc in omega arith)
ruled_number rule at (Err r) v q e = absurd (let z : ◌≡◌ {A = ℕ} 0 1 = cc in omega arith)

-- a field's number is one that its rule allows
pub field_number : (rule : Rule) (tape : List ℕ) (at v q : ℕ) → field_at rule tape at ≡ Ok (v, q) → (number_at tape at ≡ Ok (v, q)) × (allowed rule v ≡ true)
unfolding field_at
field_number rule tape at v q e = ruled_number rule at (number_at tape at) v q e

retried_most_lem : (c : Command) → retried_most c ≤ 1
unfolding retried_most
retried_most_lem command.Read = omega arith
retried_most_lem command.ModifiedRead = omega arith
retried_most_lem command.Invalidate = omega arith
retried_most_lem command.Copyback = omega arith
retried_most_lem command.MemoryWrite = omega arith

pub allowed_most : (rule : Rule) (n : ℕ) → allowed rule n ≡ true → n ≤ most_of rule
unfolding allowed
allowed_most Unit n h = leb-true n 3 h
allowed_most Address n h = leb-true n 2044 (both_true (leb n 2044) _ h).0
allowed_most Word n h = leb-true n 4294967295 h
allowed_most Block n h = leb-true n 63 h
allowed_most (Retried c) n h = omega (arith, leb-true n (retried_most c) h, retried_most_lem c)
allowed_most From n h = leb-true n 7 h
allowed_most (To from) n h = leb-true n 7 (both_true (leb n 7) _ h).0
allowed_most Byte n h = leb-true n 255 h
allowed_most Flag n h = leb-true n 1 h
allowed_most Bct n h = leb-true n 7 h
allowed_most Cycles n h = leb-true n 18446744073709551615 h

-- no rule allows more than 64 bits
pub allowed_64_bits : (rule : Rule) (n : ℕ) → allowed rule n ≡ true → n ≤ 18446744073709551615
allowed_64_bits Unit n h = omega (arith, allowed_most Unit n h)
allowed_64_bits Address n h = omega (arith, allowed_most Address n h)
allowed_64_bits Word n h = omega (arith, allowed_most Word n h)
allowed_64_bits Block n h = omega (arith, allowed_most Block n h)
allowed_64_bits (Retried c) n h = omega (arith, allowed_most (Retried c) n h)
allowed_64_bits From n h = omega (arith, allowed_most From n h)
allowed_64_bits (To from) n h = omega (arith, allowed_most (To from) n h)
allowed_64_bits Byte n h = omega (arith, allowed_most Byte n h)
allowed_64_bits Flag n h = omega (arith, allowed_most Flag n h)
allowed_64_bits Bct n h = omega (arith, allowed_most Bct n h)
allowed_64_bits Cycles n h = allowed_most Cycles n h
