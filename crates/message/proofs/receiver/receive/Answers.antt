use Rattle.message.proofs.ReceiveLaws.{refused_kept}
use Rattle.message.proofs.receiver.receive.Goals as goal

pub returns-in_err-check-clause-store : goal.returns-in_err-check-clause-store
returns-in_err-check-clause-store c = refused_kept _ _ _ _ _ _ _ c.in_err-check.ensures
