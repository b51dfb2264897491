use Rattle.std.proofs.Common.{ℕ, ◌≡◌, ◌<◌, length, get_or}
use Rattle.coherence.specs.Slots.{empty_entry}
use Rattle.soundness.proofs.each.Given as goal

abbrev pub invariant-loop-n : goal.invariant-loop-n
invariant-loop-n g l = record {
  whole : length l.numbers ≡ 64;
  given : (k : ℕ) → k < l.n → goal.F-post g l.f (get_or l.slots k empty_entry).slot (get_or l.numbers k 0);
}
