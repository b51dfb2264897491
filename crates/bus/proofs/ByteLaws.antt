-- A byte of a word as the code takes it: by a shift.
use Prim.Native.Nat.{ℕ, zero, suc, ◌+◌, ◌-◌, ◌*◌, ◌/◌, ◌%◌, ◌^◌}
use mathlib.Core.Path.{◌≡◌, refl, sym, ap, ◌∙◌}
use native.Mathlib.Nat.{pow-suc}
use native.Mathlib.Omega.{arith}
use lib.Pow.{pow-add}
use Rattle.bus.specs.Parity.{byte_at}

pub pow_bytes : (e : ℕ) → 256 ^ e ≡ 2 ^ (8 * e)
pow_bytes zero = refl
pow_bytes (suc e) =
    pow-suc 256 e ∙ ap (λ (y : ℕ). y * 256) (pow_bytes e) ∙ sym (pow-add 2 (8 * e) 8)
    ∙ ap (λ (y : ℕ). 2 ^ y) (let z : 8 * e + 8 ≡ 8 * suc e = omega arith in z)

pub byte_of_shift : (word k : ℕ) → word / 2 ^ (56 - 8 * k) % 256 ≡ byte_at k word
unfolding byte_at
byte_of_shift word k =
    let e : 56 - 8 * k ≡ 8 * (7 - k) = omega arith in
    ap (λ (y : ℕ). word / 2 ^ y % 256) e ∙ ap (λ (y : ℕ). word / y % 256) (sym (pow_bytes (7 - k)))
