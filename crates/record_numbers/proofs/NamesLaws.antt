-- The numbers that name a record in range, kind by kind: they begin with that record's own.
use Prim.Native.Nat.{ℕ, ◌≤◌, ◌<◌}
use native.Mathlib.Omega.{arith}
use mathlib.Core.Path.{◌≡◌, refl, sym, ◌∙◌}
use mathlib.Core.Bool.{Bool, true, false, cond}
use mathlib.Core.List.{List, [], ◌∷◌, ◌++◌}
use lib.Dec.{leb, eqb}
use borrow.Author.Tests.{le-leb, leb-true, eqb-true}
use Rattle.std.specs.Prelude.{Option, None, Some, Result, Ok, Err}
use Rattle.order.specs.declared.Refusal.{Refusal}
use Rattle.order.specs.declared.Command.{Command}
use Rattle.order.specs.Command.{command_of}
use Rattle.tape_format.specs.declared.Record.{Record}
use Rattle.tape_format.specs.declared.Record.TheVariants as rec
use Rattle.tape_format.specs.Record.{kind_of, fields_of}
use Rattle.tape_format.specs.Ranges.{IsAddress, Ends, InRange}
use Rattle.order.proofs.CommandLaws.{number_of_command}
use Rattle.tape_format.proofs.LayoutLaws.{flag_back}
use Rattle.crossing.specs.Capped.{capped}
use Rattle.crossing.proofs.CappedLaws.{caps}
use Rattle.record_numbers.specs.Entry.{store_from, order_with, order_from, answer_from, register_from, loaded_from, kind_from}

-- what is in range was not capped
uncapped : (most x n : ℕ) → x < most → capped most n ≤ x → capped most n ≡ n
uncapped most x n l h =
    let t : leb n x ≡ true = sym ((caps most).tested x n l) ∙ le-leb (capped most n) x h in
    (caps most).keeps n (omega (arith, leb-true n x t))

unit : (n : ℕ) → capped 255 n ≤ 3 → capped 255 n ≡ n
unit n h = uncapped 255 3 n (omega arith) h

block : (n : ℕ) → capped 255 n ≤ 63 → capped 255 n ≡ n
block n h = uncapped 255 63 n (omega arith) h

three_bits : (n : ℕ) → capped 255 n ≤ 7 → capped 255 n ≡ n
three_bits n h = uncapped 255 7 n (omega arith) h

address : (n : ℕ) → IsAddress (capped 4294967295 n) → capped 4294967295 n ≡ n
unfolding IsAddress
address n h = uncapped 4294967295 2044 n (omega arith) h.1

-- the numbers begin with those of a record that they named, if it is in range
unfoldable pub Begins : List ℕ → Record → Type 0
Begins l r = (behind : List ℕ) × (l ≡ (kind_of r ∷ fields_of r) ++ behind)

unfoldable pub Names : List ℕ → Result Record Refusal → Type 0
Names l (Ok r) = InRange r → Begins l r
Names l (Err refusal) = ℕ

pick : (P : Result Record Refusal → Type 0) (t : Bool) (a b : Result Record Refusal) → (t ≡ true → P a) → P b → P (cond t a b)
pick P true a b h l = h refl
pick P false a b h l = l

module _ (k a b c d e f : ℕ) where
  unfoldable pub l : List ℕ
  l = k ∷ a ∷ b ∷ c ∷ d ∷ e ∷ f ∷ []

  of_load : k ≡ 0 → Names l (Ok (rec.Load (capped 255 a) (capped 4294967295 b)))
  unfolding l Names Begins InRange kind_of fields_of
  of_load q h = (c ∷ d ∷ e ∷ f ∷ [], rw (q, unit a h.0, address b h.1))

  of_store : k ≡ 1 → Names l (store_from a b c)
  unfolding l Names Begins InRange kind_of fields_of store_from
  of_store q =
      pick (Names l) (leb c 4294967295) _ _
      (λ _. λ h. (d ∷ e ∷ f ∷ [], rw (q, unit a h.0, address b h.1)))
      0

  of_flush : k ≡ 2 → Names l (Ok (rec.Flush (capped 255 a) (capped 255 b)))
  unfolding l Names Begins InRange kind_of fields_of
  of_flush q h = (c ∷ d ∷ e ∷ f ∷ [], rw (q, unit a h.0, block b h.1))

  of_command : k ≡ 3 → d ≤ 1 → (x : Option Command) → command_of b ≡ x → Names l (order_with x a c d)
  unfolding l Names Begins InRange kind_of fields_of order_with
  of_command q s (Some given) g = λ h. (e ∷ f ∷ [], rw (q, unit a h.0, number_of_command b given g, block c h.1, flag_back d s))
  of_command q s None g = 0

  of_order : k ≡ 3 → Names l (order_from a b c d)
  unfolding Names order_from
  of_order q = pick (Names l) (leb d 1) _ _ (λ t. of_command q (leb-true d 1 t) (command_of b) refl) 0

  of_answer : k ≡ 4 → Names l (answer_from a b c d)
  unfolding l Names Begins InRange Ends kind_of fields_of answer_from
  of_answer q =
      pick (Names l) (leb c 255) _ _
      (λ _. pick (Names l) (leb d 255) _ _ (λ _. λ h. (e ∷ f ∷ [], rw (q, three_bits a h.0.0, three_bits b h.0.1))) 0)
      0

  of_register : k ≡ 5 → Names l (register_from a b c d e f)
  unfolding l Names Begins InRange Ends kind_of fields_of register_from
  of_register q =
      pick (Names l) (leb c 255) _ _
      (λ _.
      pick (Names l) (leb d 1) _ _
      (λ t. pick (Names l) (leb e 4294967295) _ _ (λ _. λ h. ([], rw (q, three_bits a h.0.0, three_bits b h.0.1, flag_back d (leb-true d 1 t), three_bits f h.3))) 0)
      0)
      0

  of_loaded : k ≡ 6 → Names l (loaded_from a b)
  unfolding l Names Begins InRange kind_of fields_of loaded_from
  of_loaded q = pick (Names l) (leb b 4294967295) _ _ (λ _. λ h. (c ∷ d ∷ e ∷ f ∷ [], rw (q, unit a h.0))) 0

  of_stamp : k ≡ 8 → Names l (Ok (rec.Stamp a))
  unfolding l Names Begins kind_of fields_of
  of_stamp q h = (b ∷ c ∷ d ∷ e ∷ f ∷ [], rw q)

  pub of_kind : Names l (kind_from k a b c d e f)
  unfolding Names kind_from
  of_kind =
      pick (Names l) (eqb k 0) _ _ (λ t. of_load (eqb-true k 0 t))
      (pick (Names l) (eqb k 1) _ _ (λ t. of_store (eqb-true k 1 t))
      (pick (Names l) (eqb k 2) _ _ (λ t. of_flush (eqb-true k 2 t))
      (pick (Names l) (eqb k 3) _ _ (λ t. of_order (eqb-true k 3 t))
      (pick (Names l) (eqb k 4) _ _ (λ t. of_answer (eqb-true k 4 t))
      (pick (Names l) (eqb k 5) _ _ (λ t. of_register (eqb-true k 5 t))
      (pick (Names l) (eqb k 6) _ _ (λ t. of_loaded (eqb-true k 6 t))
      (pick (Names l) (eqb k 8) _ _ (λ t. of_stamp (eqb-true k 8 t)) 0)))))))
