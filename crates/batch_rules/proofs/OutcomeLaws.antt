-- Different outcomes of the code are told differently.
use mathlib.Core.Path.{◌≡◌, refl, ap, sym}
use Rattle.std.specs.Prelude.{Option, None, Some}
use Rattle.order.specs.declared.Refusal.{Refusal}
use Rattle.order.proofs.RefusalLaws.{refusal_one, number_not_0}
use Rattle.batch_rules.specs.Outcome.{Outcome, refusal_told, told, ToldApart}

-- "no refusal" has 0, and each refusal a number of its own
pub refusal_apart : (r s : Option Refusal) → refusal_told r ≡ refusal_told s → r ≡ s
refusal_apart None None e = refl
refusal_apart None (Some y) e = absurd (number_not_0 y (sym e))
refusal_apart (Some x) None e = absurd (number_not_0 x e)
refusal_apart (Some x) (Some y) e = ap Some (refusal_one x y e)

pub told_apart : ToldApart
unfolding ToldApart told
told_apart r s e =
    let f : r.refusal ≡ s.refusal = ap (λ (x : Outcome). x.refusal) e in
    let i : r.index ≡ s.index = ap (λ (x : Outcome). x.index) e in
    let o : r.orders ≡ s.orders = ap (λ (x : Outcome). x.orders) e in
    let d : r.directory ≡ s.directory = ap (λ (x : Outcome). x.directory) e in
    rw (f, i, o, d)
