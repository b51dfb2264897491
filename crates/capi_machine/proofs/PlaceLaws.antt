-- Store and offset mark the bytes that peek shows.
use Prim.Native.Nat.{ℕ, ◌≤◌}
use mathlib.Core.Path.{◌≡◌, refl, sym, ap, ◌∙◌}
use mathlib.Core.Bool.{Bool, true, false, cond}
use mathlib.Core.List.{List}
use native.Mathlib.Omega.{arith}
use lib.Dec.{leb, eqb}
use lib.ListN.{take, drop}
use borrow.Author.Tests.{eq-eqb, ne_eqb, leb-true}
use Rattle.order.specs.Refusal.{first_refusal}
use Rattle.coherence.specs.declared.Directory.{Directory}
use Rattle.coherence.specs.Bytes.{block_at}
use Rattle.coherence.specs.Slots.{sound}
use Rattle.coherence.specs.Refusal.{sized, is_block, size_test, directory_test, target_test, peek_refusal}
use Rattle.coherence.specs.Peek.{from_cache, newest, peeked, peek_from_cache, peek_offset}
use Rattle.crossing.proofs.CappedLaws.{caps}
use Rattle.layout.specs.Directory.{decoded}
use Rattle.capi_machine.specs.Call.{narrowed}
use Rattle.capi_machine.specs.Place.{peek_returned, store_left, offset_left, Marks}

third_passes : (a b t : Bool) → ◌≡◌ {A = ℕ} (cond a (cond b (cond t 0 4) 2) 1) 0 → t ≡ true
third_passes true true true e = refl
third_passes true true false e = absurd (let z : ◌≡◌ {A = ℕ} 4 0 = e in omega arith)
third_passes true false t e = absurd (let z : ◌≡◌ {A = ℕ} 2 0 = e in omega arith)
third_passes false b t e = absurd (let z : ◌≡◌ {A = ℕ} 1 0 = e in omega arith)

-- an accepted peek is of the block that was asked for
asked : (d : Directory) (m k : List ℕ) (b : ℕ) → peek_refusal d m k (narrowed b) ≡ 0 → narrowed b ≡ b
unfolding peek_refusal first_refusal size_test directory_test target_test is_block
asked d m k b e =
    let t : leb (narrowed b) 63 ≡ true = third_passes (sized m k) (sound d) (leb (narrowed b) 63) e in
    let n : b ≤ 63 = leb-true b 63 (sym ((caps 255).tested 63 b (omega arith)) ∙ t) in
    (caps 255).keeps b (omega arith)

shown : (d m k : List ℕ) (b s o : ℕ) → peek_returned d m k b ≡ 0
    → (store_left d m k b s ≤ 1)
    × (take 32 (drop (offset_left d m k b o) (cond (eqb (store_left d m k b s) 0) m k)) ≡ peeked (decoded d) m k (narrowed b))
unfolding peek_returned store_left offset_left peek_from_cache peek_offset peeked newest block_at
shown d m k b s o e = go (from_cache (decoded d) (narrowed b)) refl
  where
    passed : eqb (peek_refusal (decoded d) m k (narrowed b)) 0 ≡ true
    passed = eq-eqb _ 0 e

    go : (t : Bool) → from_cache (decoded d) (narrowed b) ≡ t
        → (store_left d m k b s ≤ 1)
        × (take 32 (drop (offset_left d m k b o) (cond (eqb (store_left d m k b s) 0) m k)) ≡ peeked (decoded d) m k (narrowed b))
    go true q = (rw (passed, q) (omega arith), rw (passed, q))
    go false q = (rw (passed, q) (omega arith), rw (passed, q))

of_asked : (d m k : List ℕ) (b : ℕ) → peek_returned d m k b ≡ 0 → peeked (decoded d) m k (narrowed b) ≡ peeked (decoded d) m k b
unfolding peek_returned
of_asked d m k b e = ap (λ (n : ℕ). peeked (decoded d) m k n) (asked (decoded d) m k b e)

left_alone : (d m k : List ℕ) (b s o : ℕ) → (peek_returned d m k b ≡ 0 → ⊥) → (store_left d m k b s ≡ s) × (offset_left d m k b o ≡ o)
unfolding store_left offset_left
left_alone d m k b s o h = (rw (ne_eqb (peek_returned d m k b) 0 h), rw (ne_eqb (peek_returned d m k b) 0 h))

pub marks : Marks
unfolding Marks
marks d m k b s o =
    record {
      store = λ e. (shown d m k b s o e).0;
      bytes = λ e. (shown d m k b s o e).1 ∙ of_asked d m k b e;
      stays = left_alone d m k b s o;
    }
