-- What an array's `map` gives, where the closure gives h of each element.
use Prim.Native.Nat.{ℕ, zero, suc, ◌+◌, ◌≤◌, ◌<◌}
use native.Mathlib.Omega.{arith}
use mathlib.Core.Path.{◌≡◌, sym, ap, ◌∙◌}
use mathlib.Core.Logic.{⊎_elim}
use mathlib.Core.List.{List}
use lib.ListN.{get_or}
use denote.Param.Members.{Mut, Called}
use Rattle.std.specs.Array.{MapsFrom}
use Rattle.numeric.proofs.Cases.{le_or_lt}

module _ {F A B : Type 0} (g : Mut F (A × Unit {0}) B) (f : F) (h : A → B) (call : (x : A) (y : B) (q : F) → Called g f (x, tt) y q → (q ≡ f) × (y ≡ h x)) where
  pub mapped : (n i : ℕ) (xs : List A) (ys : List B) (p : F) → p ≡ f → MapsFrom g p xs ys i n → (k : ℕ) → i ≤ k → k < i + n → (d : A) (e : B) → get_or ys k e ≡ h (get_or xs k d)
  mapped zero i xs ys p e m k l u d b = absurd (omega arith)
  mapped (suc n) i xs ys p e (q, x, y, s, t, c, m) k l u d b =
      let w = call x y q (rw e at c) in
      ⊎_elim
      (λ (v : suc i ≤ k). mapped n (i + 1) xs ys q w.0 m k (omega arith) (omega arith) d b)
      (λ (v : k < suc i). let o : k ≡ i = omega arith in rw o (t.1 b ∙ w.1 ∙ ap h (sym (s.1 d))))
      (le_or_lt (suc i) k)
