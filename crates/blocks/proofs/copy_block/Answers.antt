use Rattle.std.proofs.Common.{arith}
use Rattle.blocks.proofs.Copies.{block_copied}
use Rattle.blocks.proofs.copy_block.Goals as goal

pub returns-then-to-store : goal.returns-then-to-store
returns-then-to-store c =
    let a = c.args in
    block_copied a.source.now a.store.now _ a.from a.to _ _ (omega arith) (omega arith) c.if-from-source.true c.if-to-store.true c.copy_from_slice.ensures.after
