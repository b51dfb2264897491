use Rattle.number_writer.proofs.SpellLaws.{Putting}
use Rattle.number_writer.proofs.put_number.Given as goal

abbrev pub invariant-loop-value : goal.invariant-loop-value
invariant-loop-value l = Putting l.initial.out l.at l.n l.out l.value l.next

abbrev pub decreases-loop-value : goal.decreases-loop-value
decreases-loop-value l = l.value
