use Rattle.machine.proofs.SetLaws.{whole, settled, unchanged, through_kept, shared_sets, missed_sets}
use native.Mathlib.Omega.{arith}
use mathlib.Core.Path.{◌≡◌, refl, sym, ◌∙◌}
use lib.ListN.{length}
use Rattle.coherence.proofs.SlotLaws.{size}
use Rattle.std.proofs.lemmas.Result.{err_from_is_err_and}
use Rattle.coherence.specs.Calls.{unit_of, is_target, refusal, act, loaded}
use Rattle.coherence.specs.declared.Call.TheVariants.{Store}
use Rattle.machine.proofs.Refusals.{known, address_of}
use Rattle.machine.proofs.Accesses.{store_through_lem, store_owned, store_shared_lem, store_missed_lem}
use Rattle.machine.proofs.Calls.{comes_to, refuses}
use Rattle.slots.proofs.Sets.{length_mapped}
use Rattle.slots.proofs.OfSlots.{of_slot, of_owner, of_claimed}
use borrow.Author.Rules.{rules}
use Rattle.machine.proofs.store.Goals as goal

pub returns-in_err-check_call : goal.returns-in_err-check_call
unfolding refusal unit_of is_target
returns-in_err-check_call c =
    let p = err_from_is_err_and c.from_residual.result c.from_residual.ensures.1 in
    let e = rw c.is_address.ensures at (c.in_err-check_call.ensures) in
    rw (p.1, p.2) (refuses _ _ _ (Store c.args.unit c.args.address c.args.value) _ e)

pub overflow_cast-block : goal.overflow_cast-block
overflow_cast-block c =
    let e = rw c.is_address.ensures at (c.in_ok-check_call.ensures) in
    let h = known _ _ _ _ _ (sym e) in
    omega (arith, (address_of _ h.target).1)

pub returns-then-is_through : goal.returns-then-is_through
unfolding refusal unit_of is_target act loaded
returns-then-is_through c =
    let a = c.args in
    let z = sym (rw c.is_address.ensures at (c.in_ok-check_call.ensures)) in
    let q = known _ _ _ _ _ z in
    let t = sym c.is_through.ensures ∙ c.if-is_through.true in
    let x = c.store_through.ensures in
    let y = store_through_lem _ _ _ _ _ _ q t in
    comes_to _ _ _ (Store a.unit a.address a.value) z y x.0 refl refl (through_kept _ _ _ (whole a.directory (search (rules, length_mapped))) (search rules) _ _ _ q z y refl t) x.1 x.2

pub returns-then-has_modified : goal.returns-then-has_modified
unfolding refusal unit_of is_target act loaded
returns-then-has_modified c =
    let a = c.args in
    let z = sym (rw c.is_address.ensures at (c.in_ok-check_call.ensures)) in
    let q = known _ _ _ _ _ z in
    let t = sym c.is_through.ensures ∙ c.if-is_through.false in
    let s = (rw c.place_of-n.ensures at c.slot_at-slot.ensures) ∙ of_slot a.directory _ in
    let g = sym (rw s at c.has_modified.ensures) ∙ c.if-has_modified.true in
    comes_to _ _ _ (Store _ _ _) z (store_owned _ _ _ _ _ _ q t g) c.accepted.ensures refl c.no_orders.ensures (unchanged _ _ _ _ _ q (search rules)) refl
    (rw c.cache_place-at.ensures at c.put_word.ensures)

pub returns-then-holds_block : goal.returns-then-holds_block
unfolding refusal unit_of is_target act loaded
returns-then-holds_block c =
    let a = c.args in
    let z = sym (rw c.is_address.ensures at (c.in_ok-check_call.ensures)) in
    let q = known _ _ _ _ _ z in
    let t = sym c.is_through.ensures ∙ c.if-is_through.false in
    let s = (rw c.place_of-n.ensures at c.slot_at-slot.ensures) ∙ of_slot a.directory _ in
    let g = sym (rw s at c.has_modified.ensures) ∙ c.if-has_modified.false in
    let h = sym (rw s at c.holds_block.ensures) ∙ c.if-holds_block.true in
    let l : size a.directory ≡ 64 = whole a.directory (search (rules, length_mapped)) in
    let held : length a.directory.holders ≡ 64 = search rules in
    let x = store_shared_lem _ _ _ _ _ _ q t g h in
    let y = (rw s at c.claimed_sets-sets.ensures) ∙ shared_sets _ _ _ l held _ _ q _ z x t g h in
    comes_to _ _ _ (Store _ _ _) z x c.accepted-then-holds_block.ensures refl c.one_order-orders.ensures (settled a.directory (of_claimed a.directory _ _ c.claimed-left.ensures) y) refl
    (rw c.cache_place-at.ensures at c.put_word-then-holds_block.ensures)

pub returns : goal.returns
unfolding refusal unit_of is_target act loaded
returns c =
    let a = c.args in
    let z = sym (rw c.is_address.ensures at (c.in_ok-check_call.ensures)) in
    let q = known _ _ _ _ _ z in
    let n = c.place_of-n.ensures in
    let t = sym c.is_through.ensures ∙ c.if-is_through.false in
    let s = (rw n at c.slot_at-slot.ensures) ∙ of_slot a.directory _ in
    let g = sym (rw s at c.has_modified.ensures) ∙ c.if-has_modified.false in
    let h = sym (rw s at c.holds_block.ensures) ∙ c.if-holds_block.false in
    let v = c.owner-holder.ensures ∙ of_owner a.directory _ in
    let f = rw (s, n, v) at c.fetch_bytes.ensures in
    let l : size a.directory ≡ 64 = whole a.directory (search (rules, length_mapped)) in
    let held : length a.directory.holders ≡ 64 = search rules in
    let x = store_missed_lem _ _ _ _ _ _ q l t g h in
    let y = (rw s at c.claimed_sets-sets.ensures) ∙ missed_sets _ _ _ l held _ _ q _ z x t h in
    comes_to _ _ _ (Store _ _ _) z x c.accepted-2.ensures refl (rw (s, v) at c.fetch_orders-orders.ensures)
    (settled a.directory (of_claimed a.directory _ _ c.claimed-left.ensures) y) f.0 (rw (f.1, c.cache_place-at.ensures) at c.put_word-2.ensures)
