use Rattle.slots.proofs.Sets.{length_mapped}
use native.Mathlib.Omega.{arith}
use borrow.Author.Tests.{leb-true}
use Rattle.machine.proofs.SetLaws.{whole, settled, unchanged, flush_sets}
use mathlib.Core.Path.{refl, sym, ◌∙◌}
use Rattle.std.proofs.lemmas.Result.{err_from_is_err_and}
use Rattle.coherence.specs.Calls.{unit_of, is_target, refusal, act, loaded}
use Rattle.coherence.specs.Refusal.{is_block}
use Rattle.coherence.specs.declared.Call.TheVariants.{Flush}
use Rattle.slots.proofs.OfSlots.{of_slot, of_set}
use Rattle.machine.proofs.Refusals.{known}
use Rattle.machine.proofs.Accesses.{flush_held, flush_missed}
use Rattle.machine.proofs.Calls.{comes_to, refuses}
use borrow.Author.Rules.{rules}
use Rattle.machine.proofs.flush.Goals as goal

pub returns-in_err-check_call : goal.returns-in_err-check_call
unfolding refusal unit_of is_target is_block
returns-in_err-check_call c =
    let p = err_from_is_err_and c.from_residual.result c.from_residual.ensures.1 in
    rw (p.1, p.2) (refuses _ _ _ (Flush c.args.unit c.args.block) _ (c.in_err-check_call.ensures))

pub returns-then-not-holds_block : goal.returns-then-not-holds_block
unfolding refusal unit_of is_target is_block act loaded
returns-then-not-holds_block c =
    let a = c.args in
    let z = sym (c.in_ok-check_call.ensures) in
    let s = (rw c.place_of-n.ensures at c.slot_at-slot.ensures) ∙ of_slot a.directory _ in
    let h = sym (rw s at c.holds_block.ensures) ∙ c.if-not-holds_block.true in
    let q = known _ _ _ _ (is_block a.block) z in
    comes_to _ _ _ (Flush _ _) z (flush_missed _ _ _ _ _ h) c.accepted.ensures refl c.no_orders.ensures (unchanged _ _ _ _ _ q (search rules)) refl refl

pub returns : goal.returns
unfolding refusal unit_of is_target is_block act loaded
returns c =
    let a = c.args in
    let z = sym (c.in_ok-check_call.ensures) in
    let q = known _ _ _ _ (is_block a.block) z in
    let n = c.place_of-n.ensures in
    let s = (rw n at c.slot_at-slot.ensures) ∙ of_slot a.directory _ in
    let h = sym (rw s at c.holds_block.ensures) ∙ c.if-not-holds_block.false in
    let x = flush_held _ _ _ _ _ _ q h in
    let y = c.flushed_sets-sets.ensures ∙ flush_sets _ _ _ (whole a.directory (search (rules, length_mapped))) (search rules) _ _ q (omega (arith, leb-true a.block 63 q.target)) z x h in
    comes_to _ _ _ (Flush _ _) z x c.accepted-2.ensures refl (rw s at c.eviction_orders-orders.ensures) (settled a.directory (of_set a.directory _ _ (rw n at c.set_slot-left.ensures)) y)
    (rw (s, n) at c.evict_bytes.ensures) refl
