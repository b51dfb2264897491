use mathlib.Core.Path.{refl, ◌∙◌}
use Rattle.order.proofs.RefusalLaws.{number_not_0}
use Rattle.holders.specs.Holders.{holders_refused}
use Rattle.capi_holders.specs.Holders.{asked}
use Rattle.capi_holders.proofs.HoldersLaws.{refused_leaves, accepted_leaves}
use Rattle.capi_holders.proofs.trainer_holders.Goals as goal

pub returns-in-Err : goal.returns-in-Err
unfolding asked holders_refused
returns-in-Err c =
    let e = rw (c.decode.ensures, c.capped.ensures, c.into.ensures) at c.in-Err.ensures in
    let l = refused_leaves _ _ _ _ _ e (number_not_0 c.in-Err.refusal) in
    (c.into-in-Err.ensures ∙ l.0, l.1, l.2)

pub returns-in-Ok : goal.returns-in-Ok
unfolding asked
returns-in-Ok c =
    let e = rw (c.decode.ensures, c.capped.ensures, c.into.ensures) at c.in-Ok.ensures in
    let l = accepted_leaves _ _ _ _ _ e refl in
    (l.0, c.into-in-Ok.ensures ∙ l.1, l.2)
