-- After n turns the first n numbers hold the first n pairs.
use Rattle.std.proofs.Common.{◌≡◌, length}
use Rattle.layout.specs.Directory.{Paired}
use Rattle.layout.proofs.directory.pairs.Given as goal

abbrev pub invariant-loop-n : goal.invariant-loop-n
invariant-loop-n l = record { whole : length l.words ≡ 64; paired : Paired l.bytes l.n l.words }
