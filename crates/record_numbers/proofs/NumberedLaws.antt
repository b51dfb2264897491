-- Numbers that name no record are refused with a number that is not 0.
use Prim.Native.Nat.{ℕ, ◌<◌}
use native.Mathlib.Omega.{arith}
use mathlib.Core.List.{List}
use Rattle.std.specs.Prelude.{Result, Ok, Err}
use Rattle.order.specs.declared.Refusal.{Refusal}
use Rattle.order.specs.Refusal.{refusal_number}
use Rattle.order.proofs.RefusalLaws.{number_pos}
use Rattle.tape_format.specs.declared.Record.{Record}
use Rattle.record_numbers.specs.Entry.{record_from}

-- a refusal's number is never 0
unfoldable pub Numbered : Result Record Refusal → Type 0
Numbered (Ok r) = ℕ
Numbered (Err refusal) = 0 < refusal_number refusal

either : (f : Result Record Refusal) → Numbered f
unfolding Numbered
either (Ok r) = 0
either (Err refusal) = omega (arith, number_pos refusal)

pub numbered : (numbers : List ℕ) → Numbered (record_from numbers)
numbered numbers = either (record_from numbers)
