use Rattle.std.proofs.Common.{ℕ, ◌≡◌, ◌<◌, ◌+◌, ◌-◌, ◌*◌, length, get_or, ap, ◌∙◌, arith, rules}
use Rattle.std.proofs.lemmas.List.{get_or-take, get_or-drop}
use Rattle.set_test.proofs.Turns.{one_more}
use Rattle.soundness.specs.Soundness.{none_modified, not_modified}
use Rattle.soundness.proofs.none_modified.Goals as goal

pub loop-rank-preserved : goal.loop-rank-preserved
unfolding none_modified not_modified
loop-rank-preserved c =
    let l = c.args.ranks in
    let k = c.loop-rank.rank-index in
    let f = 16 * c.from-first.result in
    let e : f + 16 - f ≡ 16 = omega arith in
    let w : length l ≡ 64 = search rules in
    let i : k < f + 16 - f = omega (arith, c.loop-rank-test.true, w) in
    one_more (λ (s : ℕ). not_modified (get_or l (16 * c.args.unit + s) 0)) k c.loop-rank.good _ c.loop-rank.invariant
    (ap not_modified
    (get_or-take (f + 16 - f) _ k 0 i ∙ get_or-drop f l k 0 ∙ ap (λ (n : ℕ). get_or l (16 * n + k) 0) c.from-first.ensures))
