use mathlib.Core.Path.{sym, ◌∙◌}
use Rattle.tape_format.proofs.SizeLaws.{size_valid}
use Rattle.tape_writer.proofs.NumbersLaws.{numbers_spell}
use Rattle.tape_writer.proofs.record_size.Goals as goal

pub returns-then-valid : goal.returns-then-valid
returns-then-valid c =
    size_valid _ _ _ (sym c.valid.ensures ∙ c.if-valid.true) (c.as_slice.ensures ∙ (numbers_spell _ _ _ c.numbers_of.ensures).same) c.numbers_size.ensures
