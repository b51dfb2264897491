-- `drill::main` meets its contract. The text's place in the buffer is `drill_input`'s promise.
use Rattle.std.proofs.Common.{ℕ, sym}
use Rattle.std.proofs.lemmas.List.{length-take-le, length-replicate}
use Rattle.drill_text.proofs.DrillLaws.{drilled_sure, large_space, count_within}
use Rattle.drill.proofs.main.Goals as goal

pub slice_bounds-drill_input-end : goal.slice_bounds-drill_input-end
slice_bounds-drill_input-end c = sym (length-replicate {A = ℕ} 720960 0)

pub unwrap-count-requires : goal.unwrap-count-requires
unwrap-count-requires c =
    let d = c.drill_input.ensures in
    drilled_sure _ _ _ d.0 (d.2 (large_space _ (length-replicate {A = ℕ} 720960 0)))

pub slice_bounds-text-end : goal.slice_bounds-text-end
slice_bounds-text-end c =
    let d = c.drill_input in
    count_within _ _ _ _ _ d.ensures.0 c.unwrap-count.ensures d.auto.out

pub slice_bounds-write_all-end : goal.slice_bounds-write_all-end
slice_bounds-write_all-end c =
    let d = c.drill_input in
    sym (length-take-le _ _ (count_within _ _ _ _ _ d.ensures.0 c.unwrap-count.ensures d.auto.out))
