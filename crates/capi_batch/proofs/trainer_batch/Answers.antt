use native.Mathlib.Omega.{arith}
use mathlib.Core.Path.{◌∙◌}
use Rattle.batch_rules.specs.Outcome.{told as told_outcome}
use Rattle.capi_batch.proofs.BatchLaws.{index_fits, orders_fit, told}
use Rattle.capi_batch.proofs.trainer_batch.Goals as goal

pub overflow_cast-index : goal.overflow_cast-index
unfolding told_outcome
overflow_cast-index c =
    let start = c.args in
    let d = c.decode-d.ensures in
    let h = index_fits start.directory.now start.memory.now start.cache.now start.accesses.now start.values.now _ _ _ _ (rw d at c.run_numbers-r.ensures) in
    record { fits = omega (arith, h) }

pub overflow_cast-orders : goal.overflow_cast-orders
unfolding told_outcome
overflow_cast-orders c =
    let start = c.args in
    let d = c.decode-d.ensures in
    let h = orders_fit start.directory.now start.memory.now start.cache.now start.accesses.now start.values.now _ _ _ _ (rw d at c.run_numbers-r.ensures) in
    record { fits = omega (arith, h) }

pub returns : goal.returns
unfolding told_outcome
returns c =
    let start = c.args in
    let d = c.decode-d.ensures in
    let t = told start.directory.now start.memory.now start.cache.now start.accesses.now start.values.now _ _ _ _ (rw d at c.run_numbers-r.ensures) in
    (c.into.ensures ∙ t.0, t.1, t.2, c.put_directory.ensures ∙ t.3, t.4, t.5, t.6)
