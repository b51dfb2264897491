-- A lent space that is filled from its start, a few elements at a time.
use mathlib.Core.Path.{◌≡◌, sym, ap, ◌∙◌}
use mathlib.Core.List.{List, ◌++◌, append_assoc}
use Prim.Native.Nat.{ℕ, ◌+◌, ◌≤◌}
use native.Mathlib.Omega.{arith}
use lib.ListN.{length, drop, length-append, length-drop}
use lib.Seq.{sets, sets-eq, take_at, drop-append-add, drop-drop}

-- vs stored behind the k first
pub put_behind : (x o vs : List ℕ) (k : ℕ) → length x ≡ k → k + length vs ≤ length o
    → sets (x ++ drop k o) k vs ≡ (x ++ vs) ++ drop (k + length vs) o
put_behind x o vs k e h =
    let fits : k + length vs ≤ length (x ++ drop k o) = simp (length-append, length-drop) (omega arith) in
    sets-eq vs (x ++ drop k o) k fits
    ∙ ap (λ (t : List ℕ). t ++ vs ++ drop (k + length vs) (x ++ drop k o)) (take_at x (drop k o) k e)
    ∙ ap (λ (t : List ℕ). (x ++ vs) ++ t)
    (ap (λ (n : ℕ). drop (n + length vs) (x ++ drop k o)) (sym e)
    ∙ drop-append-add x (drop k o) (length vs)
    ∙ drop-drop (length vs) k o)

-- vs stored over as many in front
pub put_front : (p s r vs : List ℕ) → length p ≡ length vs → sets ((p ++ s) ++ r) 0 vs ≡ (vs ++ s) ++ r
put_front p s r vs e =
    let k : 0 + length vs ≡ length p + 0 = omega arith in
    let fits : 0 + length vs ≤ length ((p ++ s) ++ r) = simp length-append (omega arith) in
    sets-eq vs ((p ++ s) ++ r) 0 fits
    ∙ ap (λ (t : List ℕ). vs ++ t)
    (ap (λ (t : List ℕ). drop (0 + length vs) t) (append_assoc p s r)
    ∙ ap (λ (n : ℕ). drop n (p ++ (s ++ r))) k
    ∙ drop-append-add p (s ++ r) 0)
    ∙ sym (append_assoc vs s r)

-- vs stored from the start
pub put_first : (o vs : List ℕ) → length vs ≤ length o → sets o 0 vs ≡ vs ++ drop (length vs) o
put_first o vs h =
    let k : 0 + length vs ≡ length vs = omega arith in
    sets-eq vs o 0 (omega arith) ∙ ap (λ (n : ℕ). vs ++ drop n o) k
