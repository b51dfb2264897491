use mathlib.Core.Path.{sym, ap, ◌∙◌}
use native.Mathlib.Omega.{arith}
use lib.ListN.{length}
use Rattle.tape_format.proofs.WriteLaws.{write_no_room, write_done, space_filled, bytes_of_numbers}
use Rattle.tape_writer.proofs.NumbersLaws.{numbers_spell}
use Rattle.tape_writer.proofs.write_record.Goals as goal

pub returns-then-out-size : goal.returns-then-out-size
returns-then-out-size c =
    let v = sym c.valid.ensures ∙ c.if-not-valid.false in
    let o = c.args.out.now in
    let w = c.write_numbers-size in
    let b = bytes_of_numbers _ _ (c.as_slice.ensures ∙ (numbers_spell _ _ _ c.numbers_of.ensures).same) in
    (write_no_room _ o _ v (w.ensures.0 ∙ ap length b) (omega (arith, w.auto.out)), space_filled _ o _ _ v b w.ensures.1)

pub returns : goal.returns
returns c =
    let v = sym c.valid.ensures ∙ c.if-not-valid.false in
    let o = c.args.out.now in
    let w = c.write_numbers-size in
    let b = bytes_of_numbers _ _ (c.as_slice.ensures ∙ (numbers_spell _ _ _ c.numbers_of.ensures).same) in
    (write_done _ o _ v (w.ensures.0 ∙ ap length b) (omega (arith, w.auto.out)), space_filled _ o _ _ v b w.ensures.1)
