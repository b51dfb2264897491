use Rattle.batch_numbers.proofs.PartLaws.{Filled}
use Rattle.batch_numbers.proofs.part_at.Given as goal

abbrev pub invariant-loop-n : goal.invariant-loop-n
invariant-loop-n l = Filled l.accesses l.from l.most l.n l.list
