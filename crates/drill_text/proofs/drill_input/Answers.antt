use native.Mathlib.Omega.{arith}
use Rattle.drill_text.proofs.DrillLaws.{small, large}
use Rattle.drill_text.proofs.drill_input.Goals as goal
use Rattle.drill_text.proofs.drill_input.Goals.{else-out-lt-TEXT_MOST-via-then-out-lt-TEXT_MOST+else-out-play, else-out-lt-TEXT_MOST-via-else-out-lt-TEXT_MOST}

pub returns-then-out-play : goal.returns-then-out-play
returns-then-out-play c = let p = c.play.ensures in small _ _ _ _ _ p.0 c.if-out-play.true p.1

pub returns : goal.returns
returns c =
    let p = c.play-2.ensures in
    large _ _ _ _ p.0
    (elim c.else-out-lt-TEXT_MOST.branch [
      | else-out-lt-TEXT_MOST-via-then-out-lt-TEXT_MOST+else-out-play w ↦ omega (arith, w.play.ensures.0.next, p.0.next)
      | else-out-lt-TEXT_MOST-via-else-out-lt-TEXT_MOST w ↦ omega (arith, p.1)
    ])
