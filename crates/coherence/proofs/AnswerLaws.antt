-- Different answers of the code are told differently.
use mathlib.Core.Path.{◌≡◌, ap}
use native.Mathlib.Omega.{arith}
use Rattle.std.specs.Prelude.{Result, Ok, Err}
use Rattle.order.specs.declared.Refusal.{Refusal}
use Rattle.order.proofs.RefusalLaws.{refusal_one, number_pos}
use Rattle.coherence.specs.declared.Settings.{Settings}
use Rattle.coherence.specs.declared.Directory.{Directory}
use Rattle.coherence.specs.declared.Accepted.{Accepted}
use Rattle.coherence.specs.Answer.{Answer, Start}
use Rattle.coherence.specs.Calls.{told, started, TellsApart}

call_one : (d : Directory) (r s : Result Accepted Refusal) → told d r ≡ told d s → r ≡ s
call_one d (Ok a) (Ok b) e = ap (λ (x : Answer). Ok (record { value = x.value; orders = x.orders; directory = x.directory })) e
call_one d (Ok a) (Err y) e = absurd (omega (arith, number_pos y, ap (λ (x : Answer). x.refusal) e))
call_one d (Err x) (Ok b) e = absurd (omega (arith, number_pos x, ap (λ (z : Answer). z.refusal) e))
call_one d (Err x) (Err y) e = ap Err (refusal_one x y (ap (λ (z : Answer). z.refusal) e))

start_one : (g : Settings) (r s : Result Directory Refusal) → started g r ≡ started g s → r ≡ s
start_one g (Ok a) (Ok b) e = ap Ok (ap (λ (x : Start). x.directory) e)
start_one g (Ok a) (Err y) e = absurd (omega (arith, number_pos y, ap (λ (x : Start). x.refusal) e))
start_one g (Err x) (Ok b) e = absurd (omega (arith, number_pos x, ap (λ (z : Start). z.refusal) e))
start_one g (Err x) (Err y) e = ap Err (refusal_one x y (ap (λ (z : Start). z.refusal) e))

pub tells_apart : TellsApart
tells_apart = record { calls = call_one; starts = start_one }
