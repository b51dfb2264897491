use Prim.Native.Nat.{◌-◌}
use lib.ListN.{length}
use Rattle.drill_text.proofs.Underway.{Underway}
use Rattle.drill_text.proofs.run.run_tape.Given as goal

abbrev pub invariant-loop-item : goal.invariant-loop-item
invariant-loop-item l = Underway l.tape l.initial.s l.initial.memory l.initial.cache l.initial.out l.place l.memory l.cache l.out l.s

abbrev pub decreases-loop-item : goal.decreases-loop-item
decreases-loop-item l = length l.tape - l.place
