-- After n turns the bytes of the first n slots stand in front.
use Rattle.std.proofs.Common.{◌≡◌, ◌*◌, ◌++◌, length, drop}
use Rattle.slots.specs.Directory.{of_slots}
use Rattle.layout.specs.Directory.{slot_bytes}
use Rattle.layout.proofs.directory.encode_slots.Given as goal

abbrev pub invariant-loop-n : goal.invariant-loop-n
invariant-loop-n l = record {
  room : length l.out ≡ length l.fn.out;
  put : l.out ≡ slot_bytes l.n (of_slots l.fn.slots) ++ drop (2 * l.n) l.fn.out;
}
