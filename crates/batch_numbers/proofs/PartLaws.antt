-- A part of a list of accesses as numbers, and the rest.
use Prim.Native.Nat.{ℕ, zero, suc, ◌+◌, ◌-◌, ◌≤◌, ◌<◌}
use native.Mathlib.Nat.{add-zero, zero-add, suc-add, add-suc}
use native.Mathlib.Numerals.{add-one}
use native.Mathlib.Omega.{arith}
use mathlib.Core.Path.{◌≡◌, refl, ap, ap₂, sym, ◌∙◌}
use mathlib.Core.Bool.{Bool, true, false, cond}
use mathlib.Core.List.{List, [], ◌∷◌, ◌++◌, append_assoc, append-nil}
use lib.ListN.{length, length-set, set, take}
use lib.Seq.{take-suc-set}
use Rattle.std.proofs.lemmas.List.{length-take-le}
use Rattle.std.specs.Prelude.{None, Some}
use Rattle.batch_rules.specs.declared.Access.{Access}
use Rattle.batch_rules.specs.Numbers.{is_kind, kind_at, access_at, known, unknown}
use Rattle.batch_numbers.specs.Part.{access_known}

-- ---- the accesses before the first of unknown kind

known_next : (ns : List ℕ) (i t : ℕ) (a : Access) → access_known ns i ≡ Some a → known ns i (suc t) ≡ a ∷ known ns (suc i) t
unfolding known access_known
known_next ns i t a = go (is_kind (kind_at ns i))
  where
    go : (b : Bool) → cond b (Some (access_at ns i)) None ≡ Some a → cond b (access_at ns i ∷ known ns (suc i) t) [] ≡ a ∷ known ns (suc i) t
    go true e = let h : access_at ns i ≡ a = cc in rw h
    go false e = cc

known_stops : (ns : List ℕ) (i t : ℕ) → access_known ns i ≡ None → known ns i (suc t) ≡ []
unfolding known access_known
known_stops ns i t = go (is_kind (kind_at ns i))
  where
    go : (b : Bool) → cond b (Some (access_at ns i)) None ≡ None → cond b (access_at ns i ∷ known ns (suc i) t) [] ≡ []
    go true e = cc
    go false e = refl

-- of a + b accesses, a known ones
pub record Whole (ns : List ℕ) (i a b : ℕ) : Type 0 where
  pub accesses : known ns i (a + b) ≡ known ns i a ++ known ns (i + a) b
  pub refusal : unknown ns i (a + b) ≡ unknown ns (i + a) b

pub known_whole : (ns : List ℕ) (i a b : ℕ) → length (known ns i a) ≡ a → Whole ns i a b
unfolding known unknown
known_whole ns i zero b h =
    record { accesses = ap₂ (known ns) (sym (add-zero i)) (zero-add b); refusal = ap₂ (unknown ns) (sym (add-zero i)) (zero-add b) }
known_whole ns i (suc a) b h = go (is_kind (kind_at ns i)) refl h (λ e. known_whole ns (suc i) a b e)
  where
    n : suc a + b ≡ suc (a + b)
    n = suc-add a b

    j : suc i + a ≡ i + suc a
    j = suc-add i a ∙ sym (add-suc i a)

    go : (t : Bool) → is_kind (kind_at ns i) ≡ t → length (cond t (access_at ns i ∷ known ns (suc i) a) []) ≡ suc a → (length (known ns (suc i) a) ≡ a → Whole ns (suc i) a b) → Whole ns i (suc a) b
    go true e h rest =
        let w : Whole ns (suc i) a b = rest (omega (arith, h)) in
        record {
          accesses = ap (known ns i) n ∙ rw e (ap (λ (l : List Access). access_at ns i ∷ l) (w.accesses ∙ ap (λ (k : ℕ). known ns (suc i) a ++ known ns k b) j));
          refusal = ap (unknown ns i) n ∙ rw e (w.refusal ∙ ap (λ (k : ℕ). unknown ns k b) j);
        }
    go false e h rest = absurd (let z : ◌≡◌ {A = ℕ} 0 (suc a) = h in omega (arith, z))

-- of a + b accesses, the first of unknown kind is among a
pub record Cut (ns : List ℕ) (i a b : ℕ) : Type 0 where
  pub accesses : known ns i (a + b) ≡ known ns i a
  pub refusal : unknown ns i (a + b) ≡ 7

pub known_cut : (ns : List ℕ) (i a b : ℕ) → length (known ns i a) < a → Cut ns i a b
unfolding known unknown
known_cut ns i zero b h = absurd (omega (arith, h))
known_cut ns i (suc a) b h = go (is_kind (kind_at ns i)) refl h (λ e. known_cut ns (suc i) a b e)
  where
    n : suc a + b ≡ suc (a + b)
    n = suc-add a b

    go : (t : Bool) → is_kind (kind_at ns i) ≡ t → length (cond t (access_at ns i ∷ known ns (suc i) a) []) < suc a → (length (known ns (suc i) a) < a → Cut ns (suc i) a b) → Cut ns i (suc a) b
    go true e h rest =
        let w : Cut ns (suc i) a b = rest (omega (arith, h)) in
        record { accesses = ap (known ns i) n ∙ rw e (ap (λ (l : List Access). access_at ns i ∷ l) w.accesses); refusal = ap (unknown ns i) n ∙ rw e w.refusal }
    go false e h rest = record { accesses = ap (known ns i) n ∙ rw e refl; refusal = ap (unknown ns i) n ∙ rw e refl }

-- ---- an array that is filled with them

-- n of the t accesses from i on stand in the first places, and the others begin at i + n
pub record Filled (ns : List ℕ) (i t n : ℕ) (list : List Access) : Type 0 where
  pub places : length list ≡ 64
  pub front : take n list ++ known ns (i + n) (t - n) ≡ known ns i t

module _ {ns : List ℕ} {i t n : ℕ} {list : List Access} (f : Filled ns i t n list) where
  left : n < t → t - n ≡ suc (t - (n + 1))
  left h = omega (arith, h)

  pub filled_next : (a : Access) → n < t → t ≤ 64 → access_known ns (i + n) ≡ Some a → Filled ns i t (n + 1) (set list n a)
  filled_next a h b e =
      let s : n < length list = omega (arith, h, b, f.places) in
      let j : suc (i + n) ≡ i + (n + 1) = omega arith in
      let k : known ns (i + n) (t - n) ≡ a ∷ known ns (i + (n + 1)) (t - (n + 1)) =
      ap (known ns (i + n)) (left h) ∙ known_next ns (i + n) (t - (n + 1)) a e ∙ ap (λ (x : ℕ). a ∷ known ns x (t - (n + 1))) j in
      record {
        places = simp length-set f.places;
        front =
            ap (λ (l : List Access). l ++ known ns (i + (n + 1)) (t - (n + 1))) (ap (λ (x : ℕ). take x (set list n a)) (add-one n) ∙ take-suc-set list n a s)
            ∙ append_assoc (take n list) (a ∷ []) (known ns (i + (n + 1)) (t - (n + 1)))
            ∙ ap (λ (l : List Access). take n list ++ l) (sym k)
            ∙ f.front;
      }

  ends : n ≤ 64 → known ns (i + n) (t - n) ≡ [] → (take n list ≡ known ns i t) × (n ≡ length (known ns i t))
  ends b e =
      let w : take n list ≡ known ns i t = sym (append-nil (take n list)) ∙ ap (λ (l : List Access). take n list ++ l) (sym e) ∙ f.front in
      let s : n ≤ length list = omega (arith, b, f.places) in
      (w, sym (length-take-le n list s) ∙ ap length w)

  pub filled_stops : n < t → t ≤ 64 → access_known ns (i + n) ≡ None → (take n list ≡ known ns i t) × (n ≡ length (known ns i t))
  filled_stops h b e = ends (omega (arith, h, b)) (ap (known ns (i + n)) (left h) ∙ known_stops ns (i + n) (t - (n + 1)) e)

  pub filled_last : t ≡ n → t ≤ 64 → (take t list ≡ known ns i t) × (t ≡ length (known ns i t))
  unfolding known
  filled_last h b =
      let z : t - n ≡ 0 = omega (arith, h) in
      let e : (take n list ≡ known ns i t) × (n ≡ length (known ns i t)) = ends (omega (arith, h, b)) (ap (known ns (i + n)) z) in
      (ap (λ (x : ℕ). take x list) h ∙ e.0, h ∙ e.1)
