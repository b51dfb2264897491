-- Before each turn what is left of the list comes to the same as the whole.
use Rattle.batch_rules.specs.Batch.{batch_result}
use Rattle.batch.proofs.Underway.{Underway}
use Rattle.batch.proofs.run_batch.Given as goal

abbrev pub invariant-loop-index : goal.invariant-loop-index
invariant-loop-index l = Underway l.list (batch_result l.list l.fn.values l.fn.directory l.fn.memory l.fn.cache) l.index l.orders l.directory l.values l.memory l.cache
