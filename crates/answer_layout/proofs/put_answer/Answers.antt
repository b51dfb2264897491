use native.Mathlib.Omega.{arith}
use mathlib.Core.Path.{◌≡◌, refl, ◌∙◌}
use mathlib.Core.List.{[], ◌∷◌}
use borrow.Author.Tests.{le-leb}
use Rattle.crossing.proofs.Spaces.{put_first}
use Rattle.answer_layout.proofs.AnswerLaws.{put_part}
use Rattle.answer_layout.specs.Answer.{orders_numbers, answer_numbers, answer_put}
use Rattle.answer_layout.proofs.put_answer.Goals as goal

pub loop-n-init : goal.loop-n-init
unfolding orders_numbers
loop-n-init c = put_first c.args.out.now (c.args.a.value ∷ c.args.a.orders.count ∷ []) (omega arith)

pub loop-n-preserved : goal.loop-n-preserved
loop-n-preserved c =
    let a = c.args.a in
    put_part (a.value ∷ a.orders.count ∷ []) c.args.out.now _ _ a.orders.list c.loop-n.n _ refl (omega arith) c.loop-n.invariant (omega arith) (c.copy_from_slice.ensures.after ∙ c.order_numbers.ensures)

pub returns : goal.returns
unfolding answer_put answer_numbers
returns c =
    let e : c.loop-n.n ≡ 4 = omega arith in
    rw (le-leb 18 _ c.if-out-lt18.false, le-leb _ 4 c.if-count-gt4.false, c.loop-n.invariant, e)
