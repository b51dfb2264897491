use mathlib.Core.Path.{refl, sym, ◌∙◌}
use native.Mathlib.Omega.{arith}
use Rattle.number_writer.proofs.SpellLaws.{all_end, size_step, put_step, room_step, filled_room, filled_none}
use Rattle.number_writer.proofs.CountLaws.{size_exact}
use Rattle.number_writer.proofs.write_numbers.Goals as goal

pub returns-then-out-size : goal.returns-then-out-size
returns-then-out-size c = let s = c.numbers_size-size.ensures ∙ sym (size_exact _) in (s, filled_none _ _ (rw s at c.if-out-size.true))

pub loop-n-init : goal.loop-n-init
loop-n-init c = record { room = omega arith; bytes = refl }

pub put_number-at-requires : goal.put_number-at-requires
put_number-at-requires c =
    let l = c.loop-n in
    room_step _ l.n-index l.at _ c.loop-n-test.true l.invariant.room (omega (arith, size_exact c.args.numbers.now))

pub loop-n-preserved : goal.loop-n-preserved
loop-n-preserved c =
    let l = c.loop-n in
    let h = c.loop-n-test.true in
    let p = c.put_number-at in
    record {
      room = rw p.ensures.0 (size_step _ l.n-index l.at _ h refl l.invariant.room);
      bytes = put_step _ l.n-index _ l.out p.new.out l.at p.result h p.ensures.0 p.ensures.1 l.invariant.bytes;
    }

pub returns : goal.returns
returns c =
    let l = c.loop-n in
    let s = size_exact c.args.numbers.now in
    (c.numbers_size-size.ensures ∙ sym s, rw (all_end c.args.numbers.now l.n-index c.loop-n-test.false) at l.invariant.bytes ∙ filled_room _ _ (omega arith))
