use Rattle.std.proofs.Common.{◌≡◌}
use Rattle.soundness.specs.Soundness.{none_modified}
use Rattle.soundness.proofs.none_modified.Given as goal

abbrev pub invariant-loop-rank : goal.invariant-loop-rank
invariant-loop-rank l = l.good ≡ none_modified l.rank-index l.fn.ranks l.fn.unit
