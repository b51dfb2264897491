-- An operation's answer and the store after it, as the code makes them.
use Prim.Native.Nat.{ℕ, ◌+◌, ◌≤◌}
use native.Mathlib.Omega.{arith}
use mathlib.Core.Path.{◌≡◌, sym, ◌∙◌}
use mathlib.Core.Bool.{true, false}
use mathlib.Core.List.{List}
use lib.ListN.{length}
use Rattle.std.specs.Prelude.{Some, None, Ok, Err}
use Rattle.order.specs.declared.Refusal.{Refusal}
use Rattle.order.specs.Refusal.{refusal_number}
use Rattle.text.specs.Space.{placed}
use Rattle.message_rules.specs.declared.Sequence.{Sequence}
use Rattle.message_rules.specs.Operation.{operation, ends}
use Rattle.message_rules.specs.Receiver.{Receiver, brought, start_of, receive_refusal, refused, taken, receipt_told, receipt, store_after}
use Rattle.order.proofs.RefusalLaws.{number_pos}
use Rattle.message_rules.proofs.ReceiverTests.{accepted_tests, accepted_placed}
use Rattle.message_rules.proofs.ReceiverLaws.{accepted_answer, accepted_store, refused_answer, refused_store}

module _ (r : Receiver) (st : List ℕ) (q : Sequence) (s a : ℕ) (b : List ℕ) where
  -- a refused one
  pub refused_told : (e : Refusal) → refusal_number e ≡ receive_refusal r st (operation q s a b) → receipt_told r (Err e) ≡ receipt r st (operation q s a b)
  unfolding refused
  refused_told e h =
      rw h (sym (refused_answer r st (operation q s a b) (λ z. absurd (omega (arith, number_pos e, h, z)))))

  pub refused_kept : (e : Refusal) → refusal_number e ≡ receive_refusal r st (operation q s a b) → st ≡ store_after r st (operation q s a b)
  refused_kept e h = sym (refused_store r st (operation q s a b) (λ z. absurd (omega (arith, number_pos e, h, z))))

  -- an accepted one, with which the message has n bytes
  pub accepted_room : 0 ≡ receive_refusal r st (operation q s a b) → start_of r + length b ≤ 4096
  unfolding operation
  accepted_room h = (accepted_tests r st (operation q s a b) (sym h)).room

  pub complete_told : (n : ℕ) → 0 ≡ receive_refusal r st (operation q s a b) → n ≡ start_of r + length b → ends q ≡ true
      → receipt_told r (Ok (record { receiver = None; completion = Some (brought s a n) })) ≡ receipt r st (operation q s a b)
  unfolding taken operation
  complete_told n h e t = sym (accepted_answer r st (operation q s a b) (sym h) ∙ rw (t, e))

  pub pending_told : (n : ℕ) → 0 ≡ receive_refusal r st (operation q s a b) → n ≡ start_of r + length b → ends q ≡ false
      → receipt_told r (Ok (record { receiver = Some (brought s a n); completion = None })) ≡ receipt r st (operation q s a b)
  unfolding taken operation
  pending_told n h e t = sym (accepted_answer r st (operation q s a b) (sym h) ∙ rw (t, e))

  pub accepted_kept : (at : ℕ) → 0 ≡ receive_refusal r st (operation q s a b) → at ≡ start_of r → placed st at b ≡ store_after r st (operation q s a b)
  unfolding operation
  accepted_kept at h e = accepted_placed r st (operation q s a b) at e (sym h) ∙ sym (accepted_store r st (operation q s a b) (sym h))

pub ruleset answers = (refused_told, refused_kept, accepted_room, complete_told, pending_told, accepted_kept)
