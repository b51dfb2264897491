use Prim.Native.Nat.{◌+◌}
use mathlib.Core.Path.{◌≡◌}
use lib.ListN.{length, drop}
use lib.Seq.{sets}
use Rattle.number.specs.Number.{spell_all}
use Rattle.number_writer.proofs.write_numbers.Given as goal

abbrev pub invariant-loop-n : goal.invariant-loop-n
invariant-loop-n l = record {
  room : l.at + length (spell_all (drop l.n-index l.numbers)) ≡ length (spell_all l.numbers);
  bytes : sets l.out l.at (spell_all (drop l.n-index l.numbers)) ≡ sets l.initial.out 0 (spell_all l.numbers);
}
