-- An answer's parts.
use Prim.Native.Nat.{ℕ}
use mathlib.Core.Path.{◌≡◌, ap}
use Rattle.std.specs.Prelude.{Result, Ok, Err}
use Rattle.number.specs.declared.Refused.{Refused}

-- the number that was read, and the place after it
pub ok_pair : {E : Type 0} {v q n p : ℕ} → ◌≡◌ {A = Result (ℕ × ℕ) E} (Ok (v, q)) (Ok (n, p)) → (v ≡ n) × (q ≡ p)
ok_pair {E} {v} {q} {n} {p} e = let z : (v, q) ≡ (n, p) = cc in (ap (λ (x : ℕ × ℕ). x.0) z, ap (λ (x : ℕ × ℕ). x.1) z)

-- a refusal's parts
pub err_parts : {T : Type 0} {e r : Refused} → ◌≡◌ {A = Result T Refused} (Err e) (Err r) → (e.refusal ≡ r.refusal) × (e.place ≡ r.place)
err_parts {T} {e} {r} h = let z : e ≡ r = cc in (ap (λ (x : Refused). x.refusal) z, ap (λ (x : Refused). x.place) z)
