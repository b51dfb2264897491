-- The loop keeps that a drill is underway; the measure is what is left of the tape.
use mathlib.Core.Path.{refl, sym, ◌∙◌}
use native.Mathlib.Omega.{arith}
use Rattle.reading.proofs.RecordLaws.{record_place}
use Rattle.drill_text.proofs.Underway.{begun, onward, finished_text, refused_text}
use Rattle.drill_text.proofs.run.run_tape.Goals as goal

pub loop-item-init : goal.loop-item-init
loop-item-init c = begun _ _ _ _ _ refl refl refl

pub take-s-requires : goal.take-s-requires
take-s-requires c =
    let u = c.loop-item.invariant in
    let p = c.requires in
    record { at = omega (arith, u.at, u.within, p); calls = omega (arith, u.calls, u.within, p); orders = omega (arith, u.orders, u.within, p) }

pub loop-item-smaller : goal.loop-item-smaller
loop-item-smaller c =
    let p = record_place _ _ _ _ (rw c.in-Ok-Some.field-0-is at (sym c.read_record.ensures ∙ c.in-Ok-Some.is)) in
    omega (arith, p)

pub loop-item-preserved : goal.loop-item-preserved
loop-item-preserved c =
    let t = c.take-s in
    onward c.loop-item.invariant _ _ _ _ _ _ (rw c.in-Ok-Some.field-0-is at (sym c.read_record.ensures ∙ c.in-Ok-Some.is)) t.ensures t.auto.memory t.auto.cache

pub put_total-requires : goal.put_total-requires
put_total-requires c = omega (arith, c.loop-item.invariant.at, c.loop-item.invariant.within, c.requires)

pub returns-in-Ok-None : goal.returns-in-Ok-None
returns-in-Ok-None c =
    let u = c.loop-item.invariant in
    let e = c.put_total.ensures in
    (finished_text u _ _ (rw c.in-Ok-None.field-0-is at (sym c.read_record.ensures ∙ c.in-Ok-None.is)) e.0, omega (arith, u.at, u.within, c.requires, e.1))

pub put_refused-requires : goal.put_refused-requires
put_refused-requires c = omega (arith, c.loop-item.invariant.at, c.loop-item.invariant.within, c.requires)

pub returns-in-Err : goal.returns-in-Err
returns-in-Err c =
    let u = c.loop-item.invariant in
    let e = c.put_refused.ensures in
    (refused_text u _ _ _ (sym c.read_record.ensures ∙ c.in-Err.is) e.0, omega (arith, u.at, u.within, c.requires, e.1))
