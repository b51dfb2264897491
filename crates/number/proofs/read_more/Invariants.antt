use Rattle.number.proofs.ReaderLaws.{Looping}
use Rattle.number.proofs.read_more.Given as goal

abbrev pub invariant-loop-next : goal.invariant-loop-next
invariant-loop-next l = Looping l.tape l.at l.last l.end l.value l.weight l.next
