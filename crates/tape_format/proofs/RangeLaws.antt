-- Writing and reading keep to the table's ranges exactly: a record is valid if and only if it is in range.
use Prim.Native.Nat.{ℕ, ◌/◌, ◌%◌, ◌≤◌}
use native.Mathlib.Omega.{arith}
use mathlib.Core.Path.{◌≡◌, refl, sym}
use mathlib.Core.Logic.{◌⊎◌, ◌≢◌, inl, inr, ⊎_elim}
use mathlib.Core.List.{List}
use mathlib.Core.Bool.{Bool, true, false, not, false≢true}
use lib.ListN.{length}
use lib.Dec.{leb, eqb}
use borrow.Author.Tests.{leb-true, le-leb, lt-leb, eqb-true, eq-eqb, ne_eqb}
use Rattle.order.specs.declared.Command.{Command}
use Rattle.order.specs.declared.Command.TheVariants.{Read, ModifiedRead, Invalidate, Copyback, MemoryWrite}
use Rattle.order.specs.Command.{command_number}
use Rattle.order.specs.Flag.{flag}
use Rattle.order.proofs.CommandLaws.{command_of_number}
use Rattle.number.specs.Number.{filled}
use Rattle.tape_format.specs.declared.Record.{Record}
use Rattle.tape_format.specs.declared.Record.TheVariants as rec
use Rattle.tape_format.specs.declared.Rule.TheVariants.{Unit, Address, Word, Block, Retried, From, To, Byte, Flag, Bct, Cycles}
use Rattle.tape_format.specs.Field.{retried_most, allowed}
use Rattle.tape_format.specs.Record.{load, store, flush, order, answer, register, loaded, stamp, layout_of, record_told, kind_of, fields_of, fits, fits_command}
use Rattle.tape_format.specs.Write.{valid, bytes_of, written_of, written_count, space_after}
use Rattle.tape_format.specs.Ranges.{IsAddress, IsWord, IsCycles, Retries, Ends, InRange, Answers, WritesExactly, ReadsExactly, RangesHold}
use Rattle.tape_format.proofs.FieldLaws.{both_true, allowed_most}
use Rattle.tape_format.proofs.WriteLaws.{word, byte, flag_allowed}
use Rattle.tape_format.proofs.LayoutLaws.{record_taken, record_given}

-- ---- each rule in the paper's words

is_address_lem : (a : ℕ) → allowed Address a ≡ true → IsAddress a
unfolding allowed IsAddress
is_address_lem a h =
    let (m, d) = both_true (leb a 2044) (eqb (a % 4) 0) h in
    let e : a % 4 ≡ 0 = eqb-true (a % 4) 0 d in
    ((a / 4, omega arith), leb-true a 2044 m)

address : (a : ℕ) → IsAddress a → allowed Address a ≡ true
unfolding allowed IsAddress
address a h =
    let (q, e) = h.0 in
    let z : a % 4 ≡ 0 = omega arith in
    rw (le-leb a 2044 h.1, eq-eqb (a % 4) 0 z)

differ : (a b : ℕ) → not (eqb a b) ≡ true → a ≢ b
differ a b h = λ e. false≢true (rw (eq-eqb a b e) at h)

are_ends : (from to : ℕ) → allowed From from ≡ true → allowed (To from) to ≡ true → Ends from to
unfolding allowed Ends
are_ends from to f t = (leb-true from 7 f, leb-true to 7 (both_true (leb to 7) _ t).0, differ to from (both_true (leb to 7) _ t).1)

to_end : (from to : ℕ) → Ends from to → allowed (To from) to ≡ true
unfolding allowed Ends
to_end from to h = rw (le-leb to 7 h.1, ne_eqb to from h.2)

may_retry : (c : Command) (b : Bool) → allowed (Retried c) (flag b) ≡ true → (command_number c ≡ 2) ⊎ (command_number c ≡ 3) → b ≡ false
unfolding allowed retried_most flag command_number
may_retry Read b h = ⊎_elim (λ (e : ◌≡◌ {A = ℕ} 0 2). absurd (omega arith)) (λ (e : ◌≡◌ {A = ℕ} 0 3). absurd (omega arith))
may_retry ModifiedRead b h = ⊎_elim (λ (e : ◌≡◌ {A = ℕ} 1 2). absurd (omega arith)) (λ (e : ◌≡◌ {A = ℕ} 1 3). absurd (omega arith))
may_retry Invalidate false h = λ e. refl
may_retry Invalidate true h = absurd (false≢true h)
may_retry Copyback false h = λ e. refl
may_retry Copyback true h = absurd (false≢true h)
may_retry MemoryWrite b h = ⊎_elim (λ (e : ◌≡◌ {A = ℕ} 4 2). absurd (omega arith)) (λ (e : ◌≡◌ {A = ℕ} 4 3). absurd (omega arith))

retry : (c : Command) (b : Bool) → ((command_number c ≡ 2) ⊎ (command_number c ≡ 3) → b ≡ false) → allowed (Retried c) (flag b) ≡ true
unfolding allowed retried_most flag command_number
retry Read false h = refl
retry Read true h = refl
retry ModifiedRead false h = refl
retry ModifiedRead true h = refl
retry Invalidate false h = refl
retry Invalidate true h = sym (h (inl refl))
retry Copyback false h = refl
retry Copyback true h = sym (h (inr refl))
retry MemoryWrite false h = refl
retry MemoryWrite true h = refl

-- ---- a record is valid if and only if it is in range

pub in_range_lem : (r : Record) → valid r ≡ true → InRange r
unfolding valid layout_of kind_of fields_of fits fits_command load store flush order answer register loaded stamp InRange IsWord IsCycles Retries
in_range_lem (rec.Load u a) v =
    let (h, v) = both_true (allowed Unit u) _ v in
    let (k, v) = both_true (allowed Address a) _ v in
    (allowed_most Unit u h, is_address_lem a k)
in_range_lem (rec.Store u a x) v =
    let (h, v) = both_true (allowed Unit u) _ v in
    let (k, v) = both_true (allowed Address a) _ v in
    let (l, v) = both_true (allowed Word x) _ v in
    (allowed_most Unit u h, is_address_lem a k, allowed_most Word x l)
in_range_lem (rec.Flush u b) v =
    let (h, v) = both_true (allowed Unit u) _ v in
    let (k, v) = both_true (allowed Block b) _ v in
    (allowed_most Unit u h, allowed_most Block b k)
in_range_lem (rec.Order o) v =
    let (h, v) = both_true (allowed Unit o.unit) _ v in
    let (k, v) = both_true (allowed Block o.block) _ (rw (command_of_number o.command) at v) in
    let (l, v) = both_true (allowed (Retried o.command) (flag o.retried)) _ v in
    (allowed_most Unit o.unit h, allowed_most Block o.block k, may_retry o.command o.retried l)
in_range_lem (rec.Answer f t a c) v =
    let (h, v) = both_true (allowed From f) _ v in
    let (k, v) = both_true (allowed (To f) t) _ v in
    let (l, v) = both_true (allowed Byte a) _ v in
    let (m, v) = both_true (allowed Byte c) _ v in
    (are_ends f t h k, allowed_most Byte a l, allowed_most Byte c m)
in_range_lem (rec.Register f t a w x b) v =
    let (h, v) = both_true (allowed From f) _ v in
    let (k, v) = both_true (allowed (To f) t) _ v in
    let (l, v) = both_true (allowed Byte a) _ v in
    let (m, v) = both_true (allowed Flag (flag w)) _ v in
    let (n, v) = both_true (allowed Word x) _ v in
    let (o, v) = both_true (allowed Bct b) _ v in
    (are_ends f t h k, allowed_most Byte a l, allowed_most Word x n, allowed_most Bct b o)
in_range_lem (rec.Loaded u x) v =
    let (h, v) = both_true (allowed Unit u) _ v in
    let (k, v) = both_true (allowed Word x) _ v in
    (allowed_most Unit u h, allowed_most Word x k)
in_range_lem (rec.Stamp c) v = allowed_most Cycles c (both_true (allowed Cycles c) _ v).0

unit : (n : ℕ) → n ≤ 3 → allowed Unit n ≡ true
unfolding allowed
unit n h = le-leb n 3 h

block : (n : ℕ) → n ≤ 63 → allowed Block n ≡ true
unfolding allowed
block n h = le-leb n 63 h

from_end : (from to : ℕ) → Ends from to → allowed From from ≡ true
unfolding allowed Ends
from_end from to h = le-leb from 7 h.0

bct : (n : ℕ) → n ≤ 7 → allowed Bct n ≡ true
unfolding allowed
bct n h = le-leb n 7 h

cycles : (n : ℕ) → n ≤ 18446744073709551615 → allowed Cycles n ≡ true
unfolding allowed
cycles n h = le-leb n 18446744073709551615 h

pub range_valid : (r : Record) → InRange r → valid r ≡ true
unfolding valid layout_of kind_of fields_of fits fits_command load store flush order answer register loaded stamp InRange IsWord IsCycles Retries
range_valid (rec.Load u a) h = rw (unit u h.0, address a h.1)
range_valid (rec.Store u a x) h = rw (unit u h.0, address a h.1, word x h.2)
range_valid (rec.Flush u b) h = rw (unit u h.0, block b h.1)
range_valid (rec.Order o) h = rw (unit o.unit h.0, command_of_number o.command, block o.block h.1, retry o.command o.retried h.2)
range_valid (rec.Answer f t a c) h = rw (from_end f t h.0, to_end f t h.0, byte a h.1, byte c h.2)
range_valid (rec.Register f t a w x b) h = rw (from_end f t h.0, to_end f t h.0, byte a h.1, flag_allowed w, word x h.2, bct b h.3)
range_valid (rec.Loaded u x) h = rw (unit u h.0, word x h.1)
range_valid (rec.Stamp c) h = rw (cycles c h)

-- ---- the laws

writes_exactly : (r : Record) (space : List ℕ) → WritesExactly r space
unfolding Answers written_of written_count space_after filled
writes_exactly r space =
    record {
      broken = λ h. go (valid r) refl h;
      small = λ h l. rw (range_valid r h, lt-leb (length (bytes_of r)) (length space) l) (refl, refl, refl);
      written = λ h l. rw (range_valid r h, le-leb (length (bytes_of r)) (length space) l) (refl, refl, refl);
    }
  where
    go : (t : Bool) → valid r ≡ t → (InRange r → ⊥) → Answers r space 8 0 space
    go true v h = absurd (h (in_range_lem r v))
    go false v h = rw v (refl, refl, refl)

reads_exactly : (tape : List ℕ) (at : ℕ) (r : Record) (next : ℕ) → ReadsExactly tape at r next
unfolding record_told
reads_exactly tape at r next =
    record {
      only = λ e. let (s, v) = record_taken tape at r next e in (s, in_range_lem r v);
      there = λ s h. record_given tape at r next s (range_valid r h);
      told = λ e. rw e;
    }

pub ranges_hold : RangesHold
unfolding RangesHold
ranges_hold = (writes_exactly, reads_exactly)
