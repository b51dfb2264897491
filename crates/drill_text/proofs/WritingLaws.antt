-- Laws of writing part after part.
use Prim.Native.Nat.{ℕ, ◌+◌, ◌≤◌}
use native.Mathlib.Omega.{arith}
use mathlib.Core.Path.{◌≡◌, ap, sym, ◌∙◌}
use mathlib.Core.List.{List, ◌++◌}
use lib.ListN.{length, length-append}
use borrow.Author.Tests.{le-leb}
use Rattle.text.specs.Space.{placed}
use Rattle.text.proofs.SpaceLaws.{sets_append, placed_room}
use Rattle.drill_text.specs.Writing.{Puts}

-- one part after another is both at once
pub both : {s t o o₁ o₂ : List ℕ} {a b r : ℕ} → Puts s o a o₁ b → Puts t o₁ b o₂ r → Puts (s ++ t) o a o₂ r
both {s} {t} {o} {o₁} {o₂} {a} {b} {r} p q =
    record {
      next = q.next ∙ rw length-append (omega (arith, p.next));
      room = q.room ∙ p.room;
      bytes =
          λ h.
          let hq : r ≤ length o₁ = omega (arith, p.room) in
          let hp : b ≤ length o = omega (arith, q.next) in
          q.bytes hq ∙ rw (p.bytes hp, p.next) (sym (sets_append s o t a));
    }

-- what `put_word` and `put_decimal` do
pub puts : {s o o' : List ℕ} {a k : ℕ} → k ≡ length s → o' ≡ placed o a s → length o' ≡ length o → Puts s o a o' (a + k)
puts {s} {o} {o'} {a} {k} e p l =
    record {
      next = ap (λ (n : ℕ). a + n) e;
      room = l;
      bytes = λ h. p ∙ placed_room o a s (le-leb (a + length s) (length o) (rw e at h));
    }
