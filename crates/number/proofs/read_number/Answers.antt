use Prim.Native.Nat.{◌-◌}
use mathlib.Core.Path.{sym, ap}
use Rattle.number.specs.Number.{groups, last, limit_of, refusing, number_at}
use Rattle.number.proofs.GroupLaws.{step_cut, step_ends}
use Rattle.number.proofs.read_number.Goals as goal

pub returns-then-tape-at : goal.returns-then-tape-at
unfolding number_at refusing
returns-then-tape-at c = sym (ap (refusing _) (step_cut last (groups - 1) _ _ c.if-tape-at.true))

pub returns-then-first-le127 : goal.returns-then-first-le127
unfolding number_at refusing limit_of
returns-then-first-le127 c = sym (ap (refusing _) (step_ends last (groups - 1) _ _ _ c.if-tape-at.false c.from-first.ensures c.if-first-le127.true))
