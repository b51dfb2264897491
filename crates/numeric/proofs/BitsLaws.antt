-- Laws of sums, of bits and of numbers made of bits.
use Prim.Native.Nat.{ℕ, zero, suc, ◌+◌, ◌-◌, ◌*◌, ◌/◌, ◌%◌, ◌^◌, ◌≤◌, ◌<◌}
use mathlib.Core.Logic.{◌⊎◌, inl, inr, ⊎_elim}
use mathlib.Core.Path.{◌≡◌, refl, sym, ap, ◌∙◌}
use native.Mathlib.Nat.{pow-suc, zero-mul, div-one, mul-le-mul_right, div-mul-le_self}
use native.Mathlib.Numerals.{add-one, one-add}
use native.Mathlib.Omega.{arith}
use lib.Count.{ones, ones_step, ones-le}
use lib.Pow.{shr-shr}
use borrow.Author.Tests.{eq-eqb, ne_eqb}
use Rattle.numeric.specs.Bits.{sum_below, bit_at, ones_below, from_bits, flipped}
use Rattle.numeric.proofs.Cases.{eq_or_ne}

-- ---- sums

pub sum_same : (n : ℕ) (f g : ℕ → ℕ) → ((k : ℕ) → k < n → f k ≡ g k) → sum_below n f ≡ sum_below n g
unfolding sum_below
sum_same zero f g h = refl
sum_same (suc n) f g h =
    let here : f n ≡ g n = h n (omega arith) in
    let rest : sum_below n f ≡ sum_below n g = sum_same n f g (λ k l. h k (omega arith)) in
    omega arith

pub sum_zero : (n : ℕ) (f : ℕ → ℕ) → ((k : ℕ) → k < n → f k ≡ 0) → sum_below n f ≡ 0
unfolding sum_below
sum_zero zero f h = refl
sum_zero (suc n) f h =
    let here : f n ≡ 0 = h n (omega arith) in
    let rest : sum_below n f ≡ 0 = sum_zero n f (λ k l. h k (omega arith)) in
    omega arith

-- two sums that differ in one term alone
pub sum_but : (n i : ℕ) (f g : ℕ → ℕ) → i < n → ((k : ℕ) → k < n → (k ≡ i → ⊥) → f k ≡ g k)
    → sum_below n f + g i ≡ sum_below n g + f i
unfolding sum_below
sum_but zero i f g l h = omega arith
sum_but (suc n) i f g l h = ⊎_elim last (before (λ m. sum_but n i f g m (λ k j. h k (omega arith)))) (eq_or_ne i n)
  where
    last : i ≡ n → sum_below n f + f n + g i ≡ sum_below n g + g n + f i
    last e =
        let rest : sum_below n f ≡ sum_below n g = sum_same n f g (λ k m. h k (omega arith) (λ q. omega arith)) in
        rw e (omega arith)

    before : (i < n → sum_below n f + g i ≡ sum_below n g + f i) → (i ≡ n → ⊥) → sum_below n f + f n + g i ≡ sum_below n g + g n + f i
    before rest d =
        let here : f n ≡ g n = h n (omega arith) (λ q. d (sym q)) in
        omega (arith, rest (omega arith))

-- the first term apart
sum_front : (n : ℕ) (f : ℕ → ℕ) → sum_below (suc n) f ≡ f 0 + sum_below n (λ i. f (suc i))
unfolding sum_below
sum_front zero f = omega arith
sum_front (suc n) f = let rest : sum_below n f + f n ≡ f 0 + sum_below n (λ i. f (suc i)) = sum_front n f in omega arith

-- ---- bits

pub bit_zero : (x : ℕ) → bit_at 0 x ≡ x % 2
unfolding bit_at
bit_zero x = ap (λ (y : ℕ). y % 2) (div-one x)

pub bit_suc : (i x : ℕ) → bit_at (suc i) x ≡ bit_at i (x / 2)
unfolding bit_at
bit_suc i x = ap (λ (y : ℕ). x / 2 ^ y % 2) (sym (one-add i)) ∙ ap (λ (y : ℕ). y % 2) (sym (shr-shr x 1 i))

pub bit_lt : (i x : ℕ) → bit_at i x < 2
unfolding bit_at
bit_lt i x = omega arith

pub bit_of_zero : (i : ℕ) → bit_at i 0 ≡ 0
bit_of_zero zero = bit_zero 0
bit_of_zero (suc i) = bit_suc i 0 ∙ bit_of_zero i

ones_front : (n x : ℕ) → ones_below (suc n) x ≡ x % 2 + ones_below n (x / 2)
unfolding ones_below
ones_front n x =
    let low : bit_at 0 x ≡ x % 2 = bit_zero x in
    let front : sum_below (suc n) (λ i. bit_at i x) ≡ bit_at 0 x + sum_below n (λ i. bit_at (suc i) x) = sum_front n (λ i. bit_at i x) in
    let rest : sum_below n (λ i. bit_at (suc i) x) ≡ sum_below n (λ i. bit_at i (x / 2)) = sum_same n _ _ (λ k l. bit_suc k x) in
    omega arith

-- the library's count of a number's ones is the plain sum of its bits
pub ones_count : (n x : ℕ) → x < 2 ^ n → ones x ≡ ones_below n x
unfolding ones_below sum_below
ones_count zero x l = omega (arith, ones-le 0 x l)
ones_count (suc n) x l =
    let rest : ones (x / 2) ≡ ones_below n (x / 2) = ones_count n (x / 2) (omega arith) in
    omega (arith, ones_step x, ones_front n x)

-- ---- numbers made of bits

from_front : (n : ℕ) (f : ℕ → ℕ) → from_bits (suc n) f ≡ f 0 + 2 * from_bits n (λ i. f (suc i))
unfolding from_bits sum_below
from_front zero f = omega arith
from_front (suc n) f =
    let rest : from_bits n f + f n * 2 ^ n ≡ f 0 + 2 * from_bits n (λ i. f (suc i)) = from_front n f in
    rw pow-suc (omega arith)

pub from_step : (n : ℕ) (f : ℕ → ℕ) → from_bits (n + 1) f ≡ from_bits n f + f n * 2 ^ n
unfolding from_bits sum_below
from_step n f = rw add-one

pub from_none : (n : ℕ) (f : ℕ → ℕ) → ((k : ℕ) → k < n → f k ≡ 0) → from_bits n f ≡ 0
unfolding from_bits
from_none n f h = sum_zero n _ (λ k l. ap (λ (y : ℕ). y * 2 ^ k) (h k l) ∙ zero-mul (2 ^ k))

pub from_lt : (n : ℕ) (f : ℕ → ℕ) → ((k : ℕ) → f k < 2) → from_bits n f < 2 ^ n
unfolding from_bits sum_below
from_lt zero f b = omega arith
from_lt (suc n) f b =
    let rest : from_bits n f < 2 ^ n = from_lt n f b in
    let top : f n ≤ 1 = omega (arith, b n) in
    omega (arith, mul-le-mul_right (2 ^ n) top)

pub bit_from : (n i : ℕ) (f : ℕ → ℕ) → ((k : ℕ) → f k < 2) → i < n → bit_at i (from_bits n f) ≡ f i
bit_from zero i f b l = omega arith
bit_from (suc n) zero f b l = bit_zero (from_bits (suc n) f) ∙ omega (arith, from_front n f, b 0)
bit_from (suc n) (suc i) f b l =
    let half : from_bits (suc n) f / 2 ≡ from_bits n (λ k. f (suc k)) = omega (arith, from_front n f, b 0) in
    bit_suc i (from_bits (suc n) f) ∙ ap (bit_at i) half ∙ bit_from n i (λ k. f (suc k)) (λ k. b (suc k)) (omega arith)

-- the ones of such a number are as many as its bits say
pub ones_from : (n : ℕ) (f : ℕ → ℕ) → ((k : ℕ) → f k < 2) → ones_below n (from_bits n f) ≡ sum_below n f
unfolding ones_below
ones_from n f b = sum_same n _ f (λ k l. bit_from n k f b l)

-- ---- one bit the other way

bit_cases : (i x : ℕ) → (bit_at i x ≡ 0) ⊎ (bit_at i x ≡ 1)
bit_cases i x = ⊎_elim inl (λ (d : bit_at i x ≡ 0 → ⊥). inr (omega (arith, bit_lt i x))) (eq_or_ne (bit_at i x) 0)

flip_up : (i x : ℕ) → bit_at i x ≡ 0 → flipped i x ≡ x + 2 ^ i
unfolding flipped
flip_up i x e = rw (eq-eqb (bit_at i x) 0 e)

flip_down : (i x : ℕ) → bit_at i x ≡ 1 → flipped i x ≡ x - 2 ^ i
unfolding flipped
flip_down i x e = rw (ne_eqb (bit_at i x) 0 (λ (z : bit_at i x ≡ 0). omega arith))

-- a number holds the weight of each of its ones
weight_le : (i x : ℕ) → bit_at i x ≡ 1 → 2 ^ i ≤ x
unfolding bit_at
weight_le i x e =
    let some : 1 ≤ x / 2 ^ i = omega arith in
    omega (arith, mul-le-mul_right (2 ^ i) some, div-mul-le_self x (2 ^ i))

flip_suc : (i x : ℕ) → flipped (suc i) x ≡ 2 * flipped i (x / 2) + x % 2
flip_suc i x = ⊎_elim up down (bit_cases i (x / 2))
  where
    up : bit_at i (x / 2) ≡ 0 → flipped (suc i) x ≡ 2 * flipped i (x / 2) + x % 2
    up e = omega (arith, flip_up (suc i) x (bit_suc i x ∙ e), flip_up i (x / 2) e)

    down : bit_at i (x / 2) ≡ 1 → flipped (suc i) x ≡ 2 * flipped i (x / 2) + x % 2
    down e = omega (arith, flip_down (suc i) x (bit_suc i x ∙ e), flip_down i (x / 2) e, weight_le i (x / 2) e)

flip_zero : (x : ℕ) → (flipped 0 x / 2 ≡ x / 2) × (flipped 0 x % 2 + x % 2 ≡ 1)
flip_zero x = ⊎_elim up down (bit_cases 0 x)
  where
    up : bit_at 0 x ≡ 0 → (flipped 0 x / 2 ≡ x / 2) × (flipped 0 x % 2 + x % 2 ≡ 1)
    up e = omega (arith, flip_up 0 x e, bit_zero x)

    down : bit_at 0 x ≡ 1 → (flipped 0 x / 2 ≡ x / 2) × (flipped 0 x % 2 + x % 2 ≡ 1)
    down e = omega (arith, flip_down 0 x e, bit_zero x)

flip_half : (i x : ℕ) → flipped (suc i) x / 2 ≡ flipped i (x / 2)
flip_half i x = omega (arith, flip_suc i x)

-- that bit changes
pub bit_flip : (i x : ℕ) → bit_at i (flipped i x) + bit_at i x ≡ 1
bit_flip zero x = omega (arith, bit_zero x, bit_zero (flipped 0 x), flip_zero x)
bit_flip (suc i) x =
    omega (arith, bit_suc i x, bit_suc i (flipped (suc i) x), ap (bit_at i) (flip_half i x), bit_flip i (x / 2))

-- and every other stays
pub bit_other : (i k x : ℕ) → (k ≡ i → ⊥) → bit_at k (flipped i x) ≡ bit_at k x
bit_other zero zero x d = absurd (d refl)
bit_other zero (suc k) x d = bit_suc k (flipped 0 x) ∙ ap (bit_at k) (flip_zero x).0 ∙ sym (bit_suc k x)
bit_other (suc i) zero x d = omega (arith, bit_zero x, bit_zero (flipped (suc i) x), flip_suc i x)
bit_other (suc i) (suc k) x d =
    bit_suc k (flipped (suc i) x) ∙ ap (bit_at k) (flip_half i x) ∙ bit_other i k (x / 2) (λ e. d (ap suc e)) ∙ sym (bit_suc k x)

-- of two numbers made of bits that differ in bit i alone, each is the other with that bit the other way
pub from_flip : (n i : ℕ) (f g : ℕ → ℕ) → ((k : ℕ) → f k < 2) → i < n → ((k : ℕ) → k < n → (k ≡ i → ⊥) → g k ≡ f k) → g i + f i ≡ 1
    → from_bits n g ≡ flipped i (from_bits n f)
unfolding from_bits
from_flip n i f g b l h o = ⊎_elim up down (bit_cases i (from_bits n f))
  where
    own : bit_at i (from_bits n f) ≡ f i
    own = bit_from n i f b l

    both : from_bits n g + f i * 2 ^ i ≡ from_bits n f + g i * 2 ^ i
    both = sum_but n i (λ k. g k * 2 ^ k) (λ k. f k * 2 ^ k) l (λ k m d. ap (λ (y : ℕ). y * 2 ^ k) (h k m d))

    up : bit_at i (from_bits n f) ≡ 0 → from_bits n g ≡ flipped i (from_bits n f)
    up e =
        let fi : f i ≡ 0 = omega (arith, own) in
        let gi : g i ≡ 1 = omega arith in
        omega (arith, rw (fi, gi) at both, flip_up i (from_bits n f) e)

    down : bit_at i (from_bits n f) ≡ 1 → from_bits n g ≡ flipped i (from_bits n f)
    down e =
        let fi : f i ≡ 1 = omega (arith, own) in
        let gi : g i ≡ 0 = omega arith in
        omega (arith, rw (fi, gi) at both, flip_down i (from_bits n f) e)
