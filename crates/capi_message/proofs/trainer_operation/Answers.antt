use mathlib.Core.Logic.{◌≢◌}
use mathlib.Core.Path.{◌≡◌, refl, ap, ◌∙◌}
use native.Mathlib.Omega.{arith}
use lib.ListN.{length}
use Rattle.order.specs.Refusal.{refusal_number}
use Rattle.std.specs.Prelude.{Ok, Err}
use Rattle.crossing.specs.Capped.{capped}
use Rattle.message_rules.specs.Sender.{Division, division, division_told, operation_at, sequence_found, part_found, part_offset}
use Rattle.order.proofs.RefusalLaws.{number_pos}
use Rattle.message_rules.proofs.SenderTests.{start_within}
use Rattle.capi_message.specs.Operation.{number_found}
use Rattle.capi_message.specs.Divide.{operation_sequence, operation_offset, operation_length}
use Rattle.capi_message.proofs.DivideLaws.{divide_returned_lem, divide_refused, divide_accepted, offset_within, offset_past}
use Rattle.capi_message.proofs.trainer_operation.Goals as goal
use Rattle.capi_message.proofs.trainer_operation.Goals.{then-index-count, else-index-count}

pub overflow_mul-offset : goal.overflow_mul-offset
overflow_mul-offset c =
    let s = c.source_from-source.result in
    let n = ap (λ (x : Division). x.operations) c.in-Ok.ensures in
    omega (arith, start_within c.args.message.now s.sender s.aid c.args.index (omega (arith, n)))

pub returns-after-index-count : goal.returns-after-index-count
unfolding operation_sequence operation_offset operation_length
returns-after-index-count c =
    let a = c.args in
    let d : division_told (Ok c.in-Ok.count) ≡ division a.message.now (capped 255 a.sender) (capped 65535 a.aid) = cc (c.in-Ok.ensures) in
    let n = ap (λ (x : Division). x.operations) d in
    let q = divide_accepted _ _ _ _ d refl in
    let number : c.number_at.result ≡ number_found (sequence_found (operation_at a.message.now (capped 255 a.sender) (capped 65535 a.aid) a.index)) = cc in
    let offset : c.if-index-count.offset ≡ part_offset a.message.now (capped 255 a.sender) (capped 65535 a.aid) a.index =
    elim c.if-index-count.branch [
      | then-index-count w ↦ w.offset-is ∙ offset_within _ _ _ _ _ n (omega arith)
      | else-index-count w ↦ w.offset-is ∙ offset_past _ _ _ _ _ n (omega arith)
    ] in
    let size : length c.part_at.result.now ≡ length (part_found (operation_at a.message.now (capped 255 a.sender) (capped 65535 a.aid) a.index)) = cc in
    (divide_returned_lem _ _ _ _ d, rw q number, rw q offset, rw q size)

pub returns-in-Err : goal.returns-in-Err
unfolding operation_sequence operation_offset operation_length
returns-in-Err c =
    let a = c.args in
    let d : division_told (Err c.in-Err.refusal) ≡ division a.message.now (capped 255 a.sender) (capped 65535 a.aid) = cc (c.in-Err.ensures) in
    let n : refusal_number c.in-Err.refusal ≢ 0 = λ z. absurd (omega (arith, number_pos c.in-Err.refusal, z)) in
    let q = divide_refused _ _ _ _ d n in
    (c.into.ensures ∙ divide_returned_lem _ _ _ _ d, rw q, rw q, rw q)
