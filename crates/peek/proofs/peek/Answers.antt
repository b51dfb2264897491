use mathlib.Core.Path.{sym, ap, ◌∙◌}
use native.Mathlib.Omega.{arith}
use Prim.Native.Nat.{ℕ, ◌<◌, ◌≤◌}
use borrow.Author.Tests.{eq-eqb, ne_eqb, lt-ltb, le-ltb}
use Rattle.coherence.specs.Bytes.{block_at}
use Rattle.coherence.specs.Peek.{peeked, peek_from_cache, peek_offset, newest, newest_block, from_cache}
use Rattle.coherence.specs.Slots.{place, owner_of}
use Rattle.coherence.specs.Refusal.{peek_refusal}
use Rattle.slots.proofs.OfSlots.{of_owner}
use Rattle.peek.proofs.PeekLaws.{refused, accepted_peek, peek_known, place_small, part_is}
use borrow.Author.Rules.{rules}
use Rattle.peek.proofs.peek.Goals as goal

pub returns-then-is_err : goal.returns-then-is_err
unfolding peeked peek_from_cache peek_offset
returns-then-is_err c =
    let a = c.args in
    rw (ne_eqb (peek_refusal a.directory a.memory.now a.cache.now a.block) 0 (refused _ _ _ c.check_peek.ensures c.is_err.ensures.value c.if-is_err.true))
    (search rules, search rules, search rules)

pub slice_bounds-result-end-then-unit-lt4 : goal.slice_bounds-result-end-then-unit-lt4
slice_bounds-result-end-then-unit-lt4 c =
    let k = peek_known _ _ _ _ _ _ c.check_peek.ensures c.is_err.ensures.value c.if-is_err.false in
    omega (arith, place_small _ _ _ c.place_of-at.ensures c.if-unit-lt4.true, k.cache)

pub slice_bounds-result-end-else-unit-lt4 : goal.slice_bounds-result-end-else-unit-lt4
slice_bounds-result-end-else-unit-lt4 c =
    let k = peek_known _ _ _ _ _ _ c.check_peek.ensures c.is_err.ensures.value c.if-is_err.false in
    omega (arith, k.memory, k.block)

pub returns-then-unit-lt4 : goal.returns-then-unit-lt4
unfolding peeked peek_from_cache peek_offset newest newest_block from_cache block_at
returns-then-unit-lt4 c =
    let a = c.args in
    let o = c.owner-unit.ensures ∙ of_owner a.directory _ in
    let h : owner_of a.directory a.block < 4 = omega (arith, o, c.if-unit-lt4.true) in
    let q = sym (c.place_of-at.ensures ∙ ap (λ (v : ℕ). place v a.block) o) in
    let z = accepted_peek _ _ _ _ _ _ c.check_peek.ensures c.is_err.ensures.value c.if-is_err.false in
    rw (eq-eqb _ _ z, lt-ltb _ 4 h, q) (rw part_is, search rules, search rules)

pub returns-else-unit-lt4 : goal.returns-else-unit-lt4
unfolding peeked peek_from_cache peek_offset newest newest_block from_cache block_at
returns-else-unit-lt4 c =
    let a = c.args in
    let h : 4 ≤ owner_of a.directory a.block = omega (arith, c.owner-unit.ensures ∙ of_owner a.directory _, c.if-unit-lt4.false) in
    let z = accepted_peek _ _ _ _ _ _ c.check_peek.ensures c.is_err.ensures.value c.if-is_err.false in
    rw (eq-eqb _ _ z, le-ltb _ 4 h, c.from-at.ensures) (rw part_is, search rules, search rules)
