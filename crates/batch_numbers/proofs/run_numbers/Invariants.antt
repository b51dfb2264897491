use lib.ListN.{length}
use Rattle.batch_rules.specs.Outcome.{told}
use Rattle.batch_rules.specs.Numbers.{count_of, ran_numbers}
use Rattle.batch_numbers.proofs.Underway.{left, Underway}
use Rattle.batch_numbers.proofs.run_numbers.Given as goal

abbrev pub invariant-loop-values : goal.invariant-loop-values
invariant-loop-values l =
    Underway l.accesses (ran_numbers (told l.initial.s) l.initial.values l.initial.memory l.initial.cache l.accesses) (length l.initial.values) (told l.s) l.values l.memory l.cache

abbrev pub decreases-loop-values : goal.decreases-loop-values
decreases-loop-values l = left (told l.s) (count_of l.accesses)
