-- After n turns the first n slots are those that the bytes spell.
use Rattle.std.proofs.Common.{◌≡◌, length, take}
use Rattle.layout.specs.Directory.{slots_spelled}
use Rattle.layout.proofs.directory.decode.Given as goal

abbrev pub invariant-loop-n : goal.invariant-loop-n
invariant-loop-n l = record { whole : length l.slots ≡ 64; spelled : take l.n l.slots ≡ slots_spelled l.n l.bytes }
