-- Bits, groups and bytes, by computing the definitions.
use mathlib.Core.Path.{refl}
use Rattle.number_writer.specs.GroupCount.{least_from, significant_bits, group_count, size_of}
use Rattle.number_writer.specs.Examples.{Examples}

pub examples : Examples
unfolding least_from significant_bits group_count size_of
examples = record { bits = refl; counts = refl; size = refl }
