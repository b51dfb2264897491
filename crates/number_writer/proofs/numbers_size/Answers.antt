use mathlib.Core.Path.{◌∙◌}
use native.Mathlib.Omega.{arith}
use borrow.Author.Rules.{rules}
use Rattle.std.proofs.lemmas.Iterator.{YieldsList-from_slice, YieldsList-from_map}
use Rattle.std.proofs.lemmas.Iterator.Consumers.{sum_by_from_yields_List, fits_by_from_yields_list}
use Rattle.number_writer.specs.GroupCount.{group_count}
use Rattle.number_writer.proofs.CountLaws.{size_summed, size_most}
use Rattle.number_writer.proofs.numbers_size.Goals as goal

pub sum-requires-clause-fits : goal.sum-requires-clause-fits
sum-requires-clause-fits c =
    fits_by_from_yields_list group_count c.args.numbers.now c.map.result _
    (YieldsList-from_map _ group_count (YieldsList-from_slice c.args.numbers.now cc) c.map.ensures.closure (λ x r q k. search rules))
    (let s = size_summed c.args.numbers.now in let m = size_most c.args.numbers.now in omega arith)

pub returns : goal.returns
returns c =
    sum_by_from_yields_List group_count c.args.numbers.now c.map.result _ c.sum.ensures.ran
    (YieldsList-from_map _ group_count (YieldsList-from_slice c.args.numbers.now cc) c.map.ensures.closure (λ x r q k. search rules))
    ∙ size_summed c.args.numbers.now
