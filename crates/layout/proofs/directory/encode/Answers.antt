use Rattle.std.proofs.Common.{◌∙◌, arith}
use Rattle.order.proofs.FlagLaws.{flag_from_bool}
use Rattle.layout.proofs.DirectoryLaws.{put_settings, put_none}
use Rattle.layout.proofs.directory.encode.Goals as goal

pub returns-then-out-ge194 : goal.returns-then-out-ge194
returns-then-out-ge194 c =
    rw (c.set_of.ensures, c.from.ensures, flag_from_bool _, c.encode_left.ensures)
    (put_settings _ _ (omega arith))

pub returns-else-out-ge194 : goal.returns-else-out-ge194
returns-else-out-ge194 c = c.encode_left.ensures ∙ put_none _ _ (omega arith)
