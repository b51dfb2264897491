use Rattle.slots.proofs.Sets.{length_mapped}
use Rattle.machine.proofs.SetLaws.{whole, settled, unchanged, load_sets}
use native.Mathlib.Omega.{arith}
use mathlib.Core.Path.{refl, sym, ◌∙◌}
use Rattle.std.proofs.lemmas.Result.{err_from_is_err_and}
use Rattle.coherence.specs.Calls.{unit_of, is_target, refusal, act, loaded}
use Rattle.coherence.specs.declared.Call.TheVariants.{Load}
use Rattle.slots.proofs.OfSlots.{of_slot, of_owner, of_fetched}
use Rattle.blocks.proofs.StoreLaws.{length_fetched}
use Rattle.machine.proofs.Refusals.{known, address_of}
use Rattle.machine.proofs.Accesses.{load_held_lem, load_missed_lem, loaded_in}
use Rattle.machine.proofs.Calls.{comes_to, refuses}
use borrow.Author.Rules.{rules}
use Rattle.machine.proofs.load.Goals as goal

pub returns-in_err-check_call : goal.returns-in_err-check_call
unfolding refusal unit_of is_target
returns-in_err-check_call c =
    let p = err_from_is_err_and c.from_residual.result c.from_residual.ensures.1 in
    let e = rw c.is_address.ensures at (c.in_err-check_call.ensures) in
    rw (p.1, p.2) (refuses _ _ _ (Load c.args.unit c.args.address) _ e)

pub overflow_cast-block : goal.overflow_cast-block
overflow_cast-block c =
    let e = rw c.is_address.ensures at (c.in_ok-check_call.ensures) in
    let h = known _ _ _ _ _ (sym e) in
    omega (arith, (address_of _ h.target).1)

pub returns-then-holds_block : goal.returns-then-holds_block
unfolding refusal unit_of is_target act loaded
returns-then-holds_block c =
    let a = c.args in
    let z = sym (rw c.is_address.ensures at (c.in_ok-check_call.ensures)) in
    let q = known _ _ _ _ _ z in
    let s = (rw c.place_of-n.ensures at c.slot_at-slot.ensures) ∙ of_slot a.directory _ in
    let h = sym (rw s at c.holds_block.ensures) ∙ c.if-holds_block.true in
    comes_to _ _ _ (Load _ _) z (load_held_lem _ _ _ _ _ h) c.accepted.ensures
    (rw c.cache_place-at.ensures at c.word_at-value.ensures ∙ loaded_in _ _ _ _ _ _ q refl)
    c.no_orders.ensures (unchanged _ _ _ _ _ q (search rules)) refl refl

pub returns : goal.returns
unfolding refusal unit_of is_target act loaded
returns c =
    let a = c.args in
    let z = sym (rw c.is_address.ensures at (c.in_ok-check_call.ensures)) in
    let q = known _ _ _ _ _ z in
    let n = c.place_of-n.ensures in
    let s = (rw n at c.slot_at-slot.ensures) ∙ of_slot a.directory _ in
    let h = sym (rw s at c.holds_block.ensures) ∙ c.if-holds_block.false in
    let v = c.owner-holder.ensures ∙ of_owner a.directory _ in
    let f = rw (s, n, v) at c.fetch_bytes.ensures in
    let x = load_missed_lem _ _ _ _ _ q h in
    let y = (rw s at c.fetched_sets-sets.ensures) ∙ load_sets _ _ _ (whole a.directory (search (rules, length_mapped))) (search rules) _ _ q z x h in
    comes_to _ _ _ (Load _ _) z x c.accepted-2.ensures
    (rw (f.1, c.cache_place-at.ensures) at c.word_at-value-2.ensures ∙ loaded_in _ _ _ _ _ _ q (length_fetched _ _ _ _ _ _).1)
    (rw (s, v) at c.fetch_orders-orders.ensures) (settled a.directory (of_fetched a.directory _ _ _ (rw (n, v) at c.fetched-left.ensures)) y) f.0 f.1
