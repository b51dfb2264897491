use mathlib.Core.Path.{refl, sym, ◌∙◌, ap}
use Prim.Native.Nat.{ℕ}
use lib.ListN.{replicate}
use Rattle.coherence.specs.Calls.{start_answer, cache_started}
use Rattle.coherence.proofs.RefusalLaws.{start_tests}
use Rattle.machine.proofs.Refusals.{sizes_of}
use Rattle.machine.proofs.cold_start.Goals as goal

pub returns-then-not-is_sized : goal.returns-then-not-is_sized
unfolding start_answer cache_started
returns-then-not-is_sized c =
    let p = sym c.is_sized.ensures ∙ c.if-not-is_sized.true in
    rw (start_tests _ _, p) (refl, refl, c.cold_directory-directory.ensures)

pub returns : goal.returns
unfolding start_answer cache_started
returns c =
    let m = c.args.memory.now in
    let k = c.args.cache.now in
    let p = sym c.is_sized.ensures ∙ c.if-not-is_sized.false in
    let z = (sizes_of m k p).cache in
    rw (start_tests m k, p, c.cold_directory-directory.ensures) (refl, c.clear.ensures ∙ ap (λ (n : ℕ). replicate n 0) z, tt)
