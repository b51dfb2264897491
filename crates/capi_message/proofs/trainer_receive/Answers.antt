use mathlib.Core.Path.{◌≡◌, ◌∙◌}
use Rattle.std.specs.Prelude.{Ok, Err}
use Rattle.message_rules.specs.Receiver.{receipt_told, receipt, store_after}
use Rattle.capi_message.specs.Layout.{receiver_from}
use Rattle.capi_message.specs.Operation.{operation_from}
use Rattle.capi_message.proofs.ReceiveLaws.{no_receiver_lem, no_completion, room, no_room_lem, accepted_left, refused_left}
use Rattle.capi_message.proofs.trainer_receive.Goals as goal
use Rattle.capi_message.proofs.trainer_receive.Goals.{then-receiver-lt4-via-then-receiver-lt4, then-receiver-lt4-via-else-receiver-lt4+then-completion-lt4}

pub returns-then-receiver-lt4 : goal.returns-then-receiver-lt4
returns-then-receiver-lt4 c =
    let a = c.args in
    let o = operation_from a.sequence a.sender a.aid a.bytes.now in
    let l = no_room_lem a.receiver.now a.store.now o a.completion.now (elim c.then-receiver-lt4.branch [
      | then-receiver-lt4-via-then-receiver-lt4 w ↦ no_receiver_lem _ _ w.if-receiver-lt4.true
      | then-receiver-lt4-via-else-receiver-lt4+then-completion-lt4 w ↦ no_completion _ _ w.if-receiver-lt4.false w.if-completion-lt4.true
    ]) in
    (c.into.ensures ∙ l.code, l.receiver, l.store, l.completion)

pub returns-in-Ok : goal.returns-in-Ok
unfolding operation_from
returns-in-Ok c =
    let a = c.args in
    let o = operation_from a.sequence a.sender a.aid a.bytes.now in
    let e : receipt_told (receiver_from a.receiver.now) (Ok c.in-Ok.done) ≡ receipt (receiver_from a.receiver.now) a.store.now o = cc (c.in-Ok.ensures.answer) in
    let f : c.receive.new.store ≡ store_after (receiver_from a.receiver.now) a.store.now o = cc (c.in-Ok.ensures.store) in
    let l = accepted_left _ _ o _ c.in-Ok.done _ _ _ (room _ _ c.if-receiver-lt4.false c.if-completion-lt4.false) e f c.put.ensures c.put-in-Ok.ensures in
    (l.code, l.receiver, l.store, l.completion)

pub returns-in-Err : goal.returns-in-Err
unfolding operation_from
returns-in-Err c =
    let a = c.args in
    let o = operation_from a.sequence a.sender a.aid a.bytes.now in
    let e : receipt_told (receiver_from a.receiver.now) (Err c.in-Err.refused) ≡ receipt (receiver_from a.receiver.now) a.store.now o = cc (c.in-Err.ensures.answer) in
    let f : c.receive.new.store ≡ store_after (receiver_from a.receiver.now) a.store.now o = cc (c.in-Err.ensures.store) in
    let l = refused_left _ _ o _ _ _ _ (room _ _ c.if-receiver-lt4.false c.if-completion-lt4.false) e f c.into-in-Err.ensures in
    (l.code, l.receiver, l.store, l.completion)
