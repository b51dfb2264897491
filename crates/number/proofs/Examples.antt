-- Each number in its bytes, by computing the definitions.
use mathlib.Core.Path.{refl}
use Rattle.number.specs.Number.{limit_of, carried, read_groups, refusing, number_at, number_told, spell_groups, spell}
use Rattle.number.specs.Spelling.{told_at}
use Rattle.number.specs.Examples.{Spelled, refused_with, Examples}

pub examples : Examples
unfolding limit_of carried read_groups refusing number_at number_told spell_groups spell told_at Spelled refused_with
examples =
    record {
      zero = (refl, refl);
      one_group = (refl, refl);
      two_groups = (refl, refl);
      address = (refl, refl);
      five_groups = (refl, refl);
      word = (refl, refl);
      above_word = (refl, refl);
      nine_groups = (refl, refl);
      ten_groups = (refl, refl);
      most = (refl, refl);
      tenth_of2 = refl;
      ten_bytes = refl;
      eleven_groups = refl;
      nine_bytes = refl;
      five_bytes = refl;
      ends = refl;
      zero_last = refl;
      past_end = refl;
    }
