use mathlib.Core.Path.{refl, sym}
use mathlib.Core.Bool.{not}
use mathlib.Core.List.{[], ◌∷◌}
use lib.Dec.{eqb}
use borrow.Author.Rules.{rules}
use Rattle.std.specs.Int.Bits.{bit_and}
use Rattle.boards.specs.Boards.{board_of}
use Rattle.boards.proofs.UnitLaws.{boards_held}
use Rattle.boards.proofs.MapLaws.{mapped}
use Rattle.boards.proofs.settings_of.Goals as goal

pub returns : goal.returns
returns c =
    let s = c.args.set in
    let m = c.map.ensures.items in
    sym (boards_held s c.args.steal _ m.long (mapped _ _ (λ w. board_of (not (eqb (bit_and s w) 0))) (λ x y q k. search rules) 4 0 (1 ∷ 2 ∷ 4 ∷ 8 ∷ []) c.map.result _ refl m.each))
