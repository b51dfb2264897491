use mathlib.Core.Path.{ap, sym, ◌∙◌}
use borrow.Author.Rules.{rules}
use Rattle.batch_rules.specs.Outcome.{Outcome}
use Rattle.batch_rules.specs.Numbers.{count_of, ran_numbers, numbers_result}
use Rattle.batch_numbers.proofs.Underway.{first, room, next, less, last}
use Rattle.batch_numbers.proofs.run_numbers.Goals as goal

pub loop-values-init : goal.loop-values-init
loop-values-init c = first _ _ _ _ _ _ c.open_numbers-s.ensures

pub run_part-s-requires : goal.run_part-s-requires
unfolding count_of
run_part-s-requires c = room _ _ _ _ _ _ _ c.loop-values.invariant (sym c.goes_on.ensures ∙ c.loop-values-test.true)

pub loop-values-smaller : goal.loop-values-smaller
unfolding count_of
loop-values-smaller c = less _ _ _ _ _ _ _ c.loop-values.invariant (sym c.goes_on.ensures ∙ c.loop-values-test.true) _ _ _ _ c.run_part-s.ensures

pub loop-values-preserved : goal.loop-values-preserved
unfolding count_of
loop-values-preserved c =
    next _ _ _ _ _ _ _ c.loop-values.invariant (sym c.goes_on.ensures ∙ c.loop-values-test.true) _ _ _ _ c.run_part-s.ensures (search rules)

pub returns : goal.returns
unfolding count_of numbers_result
returns c =
    let start = c.args in
    last _ _ _ _ _ _ _ c.loop-values.invariant (sym c.goes_on.ensures ∙ c.loop-values-test.false)
    ∙ ap (λ (x : Outcome). ran_numbers x start.values.now start.memory.now start.cache.now start.accesses.now) c.open_numbers-s.ensures
