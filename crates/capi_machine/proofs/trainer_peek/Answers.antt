use borrow.Author.Tests.{ne_eqb}
use mathlib.Core.Path.{◌≡◌, refl, ◌∙◌}
use Rattle.order.specs.Refusal.{refusal_number}
use Rattle.order.proofs.RefusalLaws.{number_not_0}
use mathlib.Core.Bool.{false}
use lib.Dec.{eqb}
use Rattle.coherence.specs.Refusal.{peek_refusal}
use Rattle.coherence.specs.Slots.{owner_of}
use Rattle.slots.proofs.OfSlots.{of_owner}
use Rattle.layout.specs.Directory.{decoded}
use Rattle.capi_machine.specs.Call.{narrowed}
use Rattle.capi_machine.specs.Place.{peek_returned, store_left, offset_left}
use Rattle.capi_machine.proofs.NewestLaws.{from_cache_lem, place_there, from_memory}
use Rattle.capi_machine.proofs.trainer_peek.Goals as goal

pub returns-in-Err : goal.returns-in-Err
unfolding peek_returned store_left offset_left
returns-in-Err c =
    let a = c.args in
    let r = rw (c.decode-d.ensures, c.capped-b.ensures, c.into.ensures) at (c.in-Err.ensures) in
    let q : eqb (peek_refusal (decoded a.directory.now) a.memory.now a.cache.now (narrowed a.block)) 0 ≡ false =
    rw r at (ne_eqb (refusal_number c.in-Err.refusal) 0 (number_not_0 c.in-Err.refusal)) in
    (c.into-in-Err.ensures ∙ r, rw q, rw q)

pub returns-then-unit-lt4 : goal.returns-then-unit-lt4
returns-then-unit-lt4 c =
    let a = c.args in
    let r = rw (c.decode-d.ensures, c.capped-b.ensures, c.into.ensures) at (c.in-Ok.ensures) in
    let o : c.owner-unit.result ≡ owner_of (decoded a.directory.now) (narrowed a.block) =
    rw (c.decode-d.ensures, c.capped-b.ensures, c.into.ensures) at (c.owner-unit.ensures ∙ of_owner c.decode-d.result _) in
    let x = from_cache_lem a.directory.now a.memory.now a.cache.now a.block _ _ _ _ r refl o c.if-unit-lt4.true in
    rw (c.cache_place.ensures, c.from-address.ensures, c.capped-b.ensures, c.into.ensures) (x.0, x.1, place_there _ _ ∙ x.2)

pub returns-else-unit-lt4 : goal.returns-else-unit-lt4
returns-else-unit-lt4 c =
    let a = c.args in
    let r = rw (c.decode-d.ensures, c.capped-b.ensures, c.into.ensures) at (c.in-Ok.ensures) in
    let o : c.owner-unit.result ≡ owner_of (decoded a.directory.now) (narrowed a.block) =
    rw (c.decode-d.ensures, c.capped-b.ensures, c.into.ensures) at (c.owner-unit.ensures ∙ of_owner c.decode-d.result _) in
    rw (c.from-address.ensures, c.capped-b.ensures, c.into.ensures) (from_memory a.directory.now a.memory.now a.cache.now a.block _ _ _ _ r refl o c.if-unit-lt4.false)
