use mathlib.Core.Logic.{◌≢◌}
use mathlib.Core.Path.{◌≡◌, refl, ap, ◌∙◌}
use native.Mathlib.Omega.{arith}
use Rattle.order.specs.Refusal.{refusal_number}
use Rattle.std.specs.Prelude.{Ok, Err}
use Rattle.crossing.specs.Capped.{capped}
use Rattle.message_rules.specs.Sender.{Division, division, division_told}
use Rattle.order.proofs.RefusalLaws.{number_pos}
use Rattle.capi_message.specs.Divide.{divide_operations}
use Rattle.capi_message.proofs.DivideLaws.{divide_returned_lem, divide_refused, divide_accepted}
use Rattle.capi_message.proofs.trainer_divide.Goals as goal

pub returns-in-Ok : goal.returns-in-Ok
unfolding divide_operations
returns-in-Ok c =
    let a = c.args in
    let d : division_told (Ok c.in-Ok.count) ≡ division a.message.now (capped 255 a.sender) (capped 65535 a.aid) = cc (c.in-Ok.ensures) in
    (divide_returned_lem _ _ _ _ d, rw (divide_accepted _ _ _ _ d refl) (ap (λ (x : Division). x.operations) d))

pub returns-in-Err : goal.returns-in-Err
unfolding divide_operations
returns-in-Err c =
    let a = c.args in
    let d : division_told (Err c.in-Err.refusal) ≡ division a.message.now (capped 255 a.sender) (capped 65535 a.aid) = cc (c.in-Err.ensures) in
    let n : refusal_number c.in-Err.refusal ≢ 0 = λ z. absurd (omega (arith, number_pos c.in-Err.refusal, z)) in
    (c.into.ensures ∙ divide_returned_lem _ _ _ _ d, rw (divide_refused _ _ _ _ d n))
