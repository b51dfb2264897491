use native.Mathlib.Omega.{arith}
use Rattle.batch_rules.specs.Outcome.{told}
use Rattle.batch_rules.specs.Numbers.{count_of}
use Rattle.batch_outcome.proofs.RefusedLaws.{unless_told}
use Rattle.batch_numbers.specs.Part.{Room}
use Rattle.batch_numbers.proofs.PartedLaws.{part_fits, parted}
use Rattle.batch_numbers.proofs.run_part.Goals as goal

pub part_at-count-requires : goal.part_at-count-requires
unfolding Room count_of told
part_at-count-requires c =
    let fits = c.requires in
    (omega (arith, fits, c.min-most.ensures), omega (arith, c.min-most.ensures))

pub offset_bounds-values-s : goal.offset_bounds-values-s
unfolding Room count_of told
offset_bounds-values-s c =
    let fits = c.requires in
    record { fits = omega (arith, fits) }

pub slice_bounds-run_array-count : goal.slice_bounds-run_array-count
unfolding Room count_of told
slice_bounds-run_array-count c =
    let fits = c.requires in
    omega (arith, fits)

pub slice_bounds-run_array-start : goal.slice_bounds-run_array-start
unfolding Room count_of told
slice_bounds-run_array-start c =
    let fits = c.requires in
    omega (arith, fits)

pub overflow_sub-accesses : goal.overflow_sub-accesses
unfolding Room count_of told
overflow_sub-accesses c =
    let fits = c.requires in
    omega (arith, fits)

pub overflow_add-made : goal.overflow_add-made
unfolding count_of told
overflow_add-made c =
    let fits = part_fits _ _ c.args.values.now c.args.memory.now c.args.cache.now c.requires _ _ _ _ _ _ _ c.min-most.ensures c.part_at-count.ensures c.run_array-part.ensures in
    record { fits = omega (arith, fits) }

pub overflow_add-made-2 : goal.overflow_add-made-2
unfolding count_of told
overflow_add-made-2 c =
    let fits = part_fits _ _ c.args.values.now c.args.memory.now c.args.cache.now c.requires _ _ _ _ _ _ _ c.min-most.ensures c.part_at-count.ensures c.run_array-part.ensures in
    record { fits = omega (arith, fits) }

pub returns : goal.returns
unfolding count_of told
returns c =
    rw (c.refused_by.ensures, c.number_of.ensures, c.then_some-refusal.ensures, unless_told)
    (parted _ _ c.args.values.now c.args.memory.now c.args.cache.now c.requires _ _ _ _ _ _ _ c.min-most.ensures c.part_at-count.ensures c.run_array-part.ensures)
