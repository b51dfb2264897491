use Prim.Native.Nat.{◌+◌, ◌*◌}
use mathlib.Core.Path.{◌≡◌}
use mathlib.Core.List.{[], ◌∷◌, ◌++◌}
use lib.ListN.{drop}
use Rattle.answer_layout.specs.Answer.{orders_numbers}
use Rattle.answer_layout.proofs.put_answer.Given as goal

-- the numbers of the first n orders stand behind the two in front
abbrev pub invariant-loop-n : goal.invariant-loop-n
invariant-loop-n l = l.out ≡ ((l.fn.a.value ∷ l.fn.a.orders.count ∷ []) ++ orders_numbers l.n l.fn.a.orders.list) ++ drop (2 + 4 * l.n) l.fn.out
