-- A kind that the table lacks is refused with 7, and a number above 2^32 - 1 with 8 in every field of the kinds 0 to 6.
use Prim.Native.Nat.{ℕ, ◌≤◌, ◌<◌}
use native.Mathlib.Omega.{arith}
use mathlib.Core.Path.{◌≡◌, refl, sym}
use mathlib.Core.Logic.{◌⊎◌, ⊎_elim}
use mathlib.Core.List.{List, [], ◌∷◌, ◌++◌}
use mathlib.Core.Bool.{Bool, true, false}
use lib.ListN.{length}
use borrow.Author.Tests.{ne_eqb}
use Rattle.order.specs.declared.Command.{Command}
use Rattle.order.specs.Command.{command_of}
use Rattle.order.specs.declared.Refusal.TheVariants as why
use Rattle.std.specs.Prelude.{Option, None, Some, Ok, Err}
use Rattle.order.proofs.CommandLaws.{number_of_command, command_small}
use Rattle.number.specs.Number.{number_at}
use Rattle.number.proofs.NumberLaws.{number_moves}
use Rattle.tape_format.specs.declared.Rule.{Rule}
use Rattle.tape_format.specs.Field.{allowed, most_of}
use Rattle.tape_format.specs.Record.{Layout, field, command, end, load, store, flush, order, answer, register, loaded, layout_of, fields_at, record_at, kind_of, fits}
use Rattle.tape_format.specs.Refused.{Reads}
use Rattle.tape_format.specs.Ranges.{RefusesKinds, RefusesLong}
use Rattle.tape_format.proofs.FieldLaws.{both_true, field_allowed, field_banned, allowed_most}
use Rattle.tape_format.proofs.ReadLaws.{on, stop, on_command, no_command, then, of_kind, of_no_kind}
use Rattle.tape_format.proofs.LayoutLaws.{inv_fits, by_kind, known, valid_fits, in_table}
use Rattle.tape_format.proofs.RangeLaws.{range_valid}

-- each field of a layout holds 32 bits at most
abbrev Narrow : Layout → Type 0
Narrow (field rule more) = (most_of rule ≤ 4294967295) × ((n : ℕ) → Narrow (more n))
Narrow (command more) = (c : Command) → Narrow (more c)
Narrow (end r) = Unit {0}

narrow : (k : ℕ) (l : Layout) → layout_of k ≡ Some l → k ≤ 6 → Narrow l
unfolding load store flush order answer register loaded
narrow =
    by_kind (λ k l. k ≤ 6 → Narrow l)
    (λ h. (omega arith, λ u. (omega arith, λ a. tt)))
    (λ h. (omega arith, λ u. (omega arith, λ a. (omega arith, λ v. tt))))
    (λ h. (omega arith, λ u. (omega arith, λ b. tt)))
    (λ h. (omega arith, λ u c. (omega arith, λ b. (omega arith, λ t. tt))))
    (λ h. (omega arith, λ f. (omega arith, λ t. (omega arith, λ a. (omega arith, λ c. tt)))))
    (λ h. (omega arith, λ f. (omega arith, λ t. (omega arith, λ a. (omega arith, λ w. (omega arith, λ x. (omega arith, λ b. tt)))))))
    (λ h. (omega arith, λ u. (omega arith, λ v. tt)))
    (λ h. absurd (omega arith))

banned : (rule : Rule) (v : ℕ) → most_of rule ≤ 4294967295 → 4294967295 < v → allowed rule v ≡ false
banned rule v m h = go (allowed rule v) refl
  where
    go : (t : Bool) → allowed rule v ≡ t → t ≡ false
    go true e = absurd (omega (arith, allowed_most rule v e))
    go false e = refl

no_such_command : (v : ℕ) → 4294967295 < v → command_of v ≡ None
no_such_command v h = go (command_of v) refl
  where
    go : (f : Option Command) → command_of v ≡ f → f ≡ None
    go (Some c) e = absurd (let z = number_of_command v c e in omega (arith, command_small c))
    go None e = refl

-- the fields before are taken, and the long number is refused
module _ (tape : List ℕ) (place v next : ℕ) (read : number_at tape place ≡ Ok (v, next)) (long : 4294967295 < v) (n : ℕ) (after : List ℕ) where
  long_field : (l : Layout) (before : List ℕ) (at : ℕ) → Narrow l → fits l (before ++ n ∷ after) ≡ true → Reads tape at before place → Err (record { refusal = why.FieldRange; place = place }) ≡ fields_at l tape at
  unfolding fits
  long_field (field rule more) [] at w h s =
      rw s (stop rule more tape place (field_banned rule tape place refl read (banned rule v w.0 long)) refl)
  long_field (field rule more) (b ∷ bs) at w h s =
      let (a, g) = both_true (allowed rule b) _ h in
      let (p, m, r) = s in
      on rule more tape at (field_allowed rule tape at refl m a) refl (long_field (more b) bs p (w.1 b) g r)
  long_field (command more) [] at w h s = rw s (no_command more tape place refl read refl (no_such_command v long))
  long_field (command more) (b ∷ bs) at w h s =
      let (c, k, g) = inv_fits (command_of b) _ h in
      let (p, m, r) = s in
      on_command more tape at refl m refl k (long_field (more c) bs p (w c) g r)
  long_field (end x) [] at w h s = absurd (let z : ◌≡◌ {A = ℕ} 0 1 = cc in omega arith)
  long_field (end x) (b ∷ bs) at w h s = absurd (let z : ◌≡◌ {A = ℕ} 0 1 = cc in omega arith)

no_such_kind : (v : ℕ) → (v ≡ 7) ⊎ (9 ≤ v) → layout_of v ≡ None
no_such_kind v h = go (layout_of v) refl
  where
    go : (o : Option Layout) → layout_of v ≡ o → o ≡ None
    go None e = refl
    go (Some l) e = absurd (⊎_elim (λ x. ⊎_elim (λ y. omega arith) (λ y. omega arith) h) (λ x. ⊎_elim (λ y. omega arith) (λ y. omega arith) h) (in_table v l e))

pub refuses_kinds : RefusesKinds
unfolding RefusesKinds record_at
refuses_kinds tape at v next e h =
    let t = number_moves v next tape at e in
    rw (ne_eqb at (length tape) (λ q. omega arith)) (sym (then _ refl e (of_no_kind tape at v next (no_such_kind v h))))

pub refuses_long : RefusesLong
unfolding RefusesLong record_at
refuses_long tape at r before after n place v next range older split s e h =
    let (p, k, b) = s in
    let (l, o, m) = known r in
    let t = number_moves (kind_of r) p tape at k in
    let f : fits l (before ++ n ∷ after) ≡ true = rw split at (valid_fits r l o (range_valid r range)) in
    rw (ne_eqb at (length tape) (λ q. omega arith))
    (sym (then _ refl k (of_kind tape at (kind_of r) p l o (long_field tape place v next e h n after l before p (narrow (kind_of r) l o older) f b))))
