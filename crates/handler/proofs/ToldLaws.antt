-- Different returns of the code, and different states left, are told differently.
use mathlib.Core.Path.{◌≡◌, refl, sym, ap, ◌∙◌}
use native.Mathlib.Omega.{arith}
use Rattle.std.specs.Prelude.{Option, Result, Ok, Err}
use Rattle.order.specs.declared.Refusal.{Refusal}
use Rattle.order.proofs.RefusalLaws.{refusal_one, number_pos}
use Rattle.handler.specs.declared.State.{State}
use Rattle.handler.specs.declared.Grant.{Grant}
use Rattle.handler.specs.Handler.{Arbitration, told, ToldApart}

refusal_told : (x y : Refusal) (s t : State) → told (Err x) s ≡ told (Err y) t → x ≡ y
unfolding told
refusal_told x y s t e = refusal_one x y (ap (λ (a : Arbitration). a.refusal) e)

returned_one : (r q : Result (Option Grant) Refusal) (s t : State) → told r s ≡ told q t → r ≡ q
unfolding told
returned_one (Err x) (Err y) s t e = ap Err (refusal_told x y s t e)
returned_one (Ok g) (Ok h) s t e = ap (λ (a : Arbitration). Ok a.grant) e
returned_one (Ok g) (Err y) s t e = absurd (omega (arith, number_pos y, ap (λ (a : Arbitration). a.refusal) e))
returned_one (Err x) (Ok h) s t e = absurd (omega (arith, number_pos x, ap (λ (a : Arbitration). a.refusal) e))

left : (r : Result (Option Grant) Refusal) (s : State) → (told r s).state ≡ s
unfolding told
left (Ok g) s = refl
left (Err x) s = refl

pub told_apart : ToldApart
unfolding ToldApart
told_apart r q s t e = (returned_one r q s t e, sym (left r s) ∙ ap (λ (a : Arbitration). a.state) e ∙ left q t)
