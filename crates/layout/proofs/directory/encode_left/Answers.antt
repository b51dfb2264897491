use Rattle.std.proofs.Common.{◌≡◌, refl, ◌∙◌, ap, rules, length, List, ℕ, ◌++◌, drop}
use Rattle.layout.proofs.DirectoryLaws.{bytes_of, put_sets, left_none}
use Rattle.layout.proofs.directory.encode_left.Goals as goal

pub returns : goal.returns
returns c =
    let a = c.args in
    let h : length a.d.holders ≡ 64 = search rules in
    rw c.copy_from_slice.ensures.after
    (put_sets a.d a.out.now _ 64 c.if-out-lt194.false refl h (c.encode_slots.ensures ∙ ap (λ (b : List ℕ). b ++ drop 128 a.out.now) (bytes_of a.d 64)))

pub returns-then-out-lt194 : goal.returns-then-out-lt194
returns-then-out-lt194 c = left_none _ _ c.if-out-lt194.true
