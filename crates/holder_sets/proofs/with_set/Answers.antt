use Rattle.std.proofs.Common.{◌≡◌, length, sym, arith, rules}
use lib.Seq.{set_out}
use Rattle.holder_sets.proofs.with_set.Goals as goal

pub returns-else-block-lt64 : goal.returns-else-block-lt64
returns-else-block-lt64 c =
    let h : length c.args.holders ≡ 64 = search rules in
    sym (set_out c.args.holders _ _ (omega arith))
