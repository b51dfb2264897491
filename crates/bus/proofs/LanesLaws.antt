-- Laws of the byte lanes: the valid positions are BCT + 1 in a row from RA mod 8 on, and there are two words exactly where one of them
-- lies past position 7; and different answers are told differently.
use Prim.Native.Nat.{ℕ, zero, suc, ◌+◌, ◌-◌, ◌*◌, ◌/◌, ◌%◌, ◌^◌, ◌≤◌, ◌<◌}
use mathlib.Core.Bool.{Bool, true, false, cond}
use mathlib.Core.Logic.{◌↔◌, ⊎_elim}
use mathlib.Core.Path.{◌≡◌, ap, ◌∙◌}
use native.Mathlib.Nat.{add-suc, add-zero}
use native.Mathlib.Numerals.{add-one}
use native.Mathlib.Omega.{arith}
use lib.Count.{ones, ones_cat, ones-le, ones-ones}
use lib.Pow.{pow_pos, pow-add, pow_mono, shl_exact}
use borrow.Author.Tests.{le-leb, lt-leb}
use Rattle.std.specs.Prelude.{Ok, Err}
use Rattle.order.specs.declared.Refusal.TheVariants.{FieldRange}
use Rattle.order.specs.Refusal.{field_range}
use Rattle.order.proofs.RefusalLaws.{refusal_one, number_pos}
use Rattle.numeric.specs.Range.{within}
use Rattle.numeric.specs.Bits.{bit_at, ones_below, from_bits}
use Rattle.bus.specs.Lanes.{carried_at, positions_of, words_of, lanes_of, LanesAnswer, refused_lanes, lanes_told, LanesApart}
use Rattle.numeric.proofs.Cases.{le_or_lt}
use Rattle.numeric.proofs.RangeLaws.{within_in, within_under, within_over}
use Rattle.numeric.proofs.BitsLaws.{from_step, from_none, from_lt, bit_from, ones_count}

-- ---- one position

carried_in : (ra bct p : ℕ) → ra % 8 ≤ p → p ≤ ra % 8 + bct → carried_at ra bct p ≡ 1
unfolding carried_at
carried_in ra bct p l u = rw (within_in (ra % 8) (ra % 8 + bct) p l u)

carried_under : (ra bct p : ℕ) → p < ra % 8 → carried_at ra bct p ≡ 0
unfolding carried_at
carried_under ra bct p l = rw (within_under (ra % 8) (ra % 8 + bct) p l)

carried_over : (ra bct p : ℕ) → ra % 8 + bct < p → carried_at ra bct p ≡ 0
unfolding carried_at
carried_over ra bct p u = rw (within_over (ra % 8) (ra % 8 + bct) p u)

carried_lt : (ra bct p : ℕ) → carried_at ra bct p < 2
unfolding carried_at
carried_lt ra bct p = go (within (ra % 8) (ra % 8 + bct) p)
  where
    go : (t : Bool) → cond t 1 0 < 2
    go true = omega arith
    go false = omega arith

-- ---- the set as a run of ones

-- d positions of the run
run : (ra bct d : ℕ) → d ≤ bct + 1 → from_bits (ra % 8 + d) (carried_at ra bct) + 2 ^ (ra % 8) ≡ 2 ^ (ra % 8 + d)
run ra bct zero l =
    rw (add-zero (ra % 8), from_none (ra % 8) (carried_at ra bct) (λ k m. carried_under ra bct k m)) (omega arith)
run ra bct (suc d) l =
    let rest : from_bits (ra % 8 + d) (carried_at ra bct) + 2 ^ (ra % 8) ≡ 2 ^ (ra % 8 + d) = run ra bct d (omega arith) in
    let here : carried_at ra bct (ra % 8 + d) ≡ 1 = carried_in ra bct (ra % 8 + d) (omega arith) (omega arith) in
    let step : from_bits (ra % 8 + d + 1) (carried_at ra bct)
    ≡ from_bits (ra % 8 + d) (carried_at ra bct) + carried_at ra bct (ra % 8 + d) * 2 ^ (ra % 8 + d) =
    from_step (ra % 8 + d) (carried_at ra bct) in
    rw add-suc (omega (arith, rw (add-one (ra % 8 + d), here) at step))

-- e positions past the run
past : (ra bct e : ℕ) → from_bits (ra % 8 + (bct + 1) + e) (carried_at ra bct) + 2 ^ (ra % 8) ≡ 2 ^ (ra % 8 + (bct + 1))
past ra bct zero = rw (add-zero (ra % 8 + (bct + 1))) (run ra bct (bct + 1) (omega arith))
past ra bct (suc e) =
    let here : carried_at ra bct (ra % 8 + (bct + 1) + e) ≡ 0 = carried_over ra bct (ra % 8 + (bct + 1) + e) (omega arith) in
    let step : from_bits (ra % 8 + (bct + 1) + e + 1) (carried_at ra bct)
    ≡ from_bits (ra % 8 + (bct + 1) + e) (carried_at ra bct)
    + carried_at ra bct (ra % 8 + (bct + 1) + e) * 2 ^ (ra % 8 + (bct + 1) + e) =
    from_step (ra % 8 + (bct + 1) + e) (carried_at ra bct) in
    rw (add-suc (ra % 8 + (bct + 1)) e) (omega (arith, past ra bct e, rw (add-one (ra % 8 + (bct + 1) + e), here) at step))

less_one : (x y p t : ℕ) → x ≡ y + 1 → p + t ≡ t * x → y * t ≡ p
less_one x y p t e h = omega (arith, rw e at h)

-- the set is BCT + 1 ones, moved up by RA mod 8
pub positions_run : (ra bct : ℕ) → bct ≤ 7 → (2 ^ (bct + 1) - 1) * 2 ^ (ra % 8) ≡ positions_of ra bct
unfolding positions_of
positions_run ra bct l =
    let size : 16 ≡ ra % 8 + (bct + 1) + (15 - (ra % 8 + bct)) = omega arith in
    let all : from_bits 16 (carried_at ra bct) + 2 ^ (ra % 8) ≡ 2 ^ (ra % 8 + (bct + 1)) =
    ap (λ (n : ℕ). from_bits n (carried_at ra bct) + 2 ^ (ra % 8)) size ∙ past ra bct (15 - (ra % 8 + bct)) in
    less_one
    (2 ^ (bct + 1))
    (2 ^ (bct + 1) - 1)
    (from_bits 16 (carried_at ra bct))
    (2 ^ (ra % 8))
    (omega (arith, pow_pos (bct + 1)))
    (all ∙ pow-add 2 (ra % 8) (bct + 1))

-- ---- what the code computes

pub run_of_shift : (bct : ℕ) → bct ≤ 7 → 2 * 2 ^ bct % 2 ^ 32 ≡ 2 ^ (bct + 1)
run_of_shift bct l = shl_exact 2 bct 32 (omega arith) (omega arith) ∙ rw add-one (omega arith)

pub positions_of_shift : (ra bct : ℕ) → bct ≤ 7 → (2 * 2 ^ bct % 2 ^ 32 - 1) * 2 ^ (ra % 8) % 2 ^ 32 ≡ positions_of ra bct
positions_of_shift ra bct l =
    let most : 2 ^ (bct + 1) ≤ 2 ^ 8 = pow_mono {j = 8} (omega arith) in
    ap (λ (x : ℕ). (x - 1) * 2 ^ (ra % 8) % 2 ^ 32) (run_of_shift bct l)
    ∙ shl_exact 8 (ra % 8) 32 (omega (arith, pow_pos (bct + 1))) (omega arith)
    ∙ positions_run ra bct l

pub positions_lt : (ra bct : ℕ) → positions_of ra bct < 2 ^ 16
unfolding positions_of
positions_lt ra bct = from_lt 16 (carried_at ra bct) (carried_lt ra bct)

words_of_sum : (ra bct : ℕ) → bct ≤ 7 → 1 + (ra % 8 + bct) / 8 ≡ words_of ra bct
unfolding words_of
words_of_sum ra bct l =
    ⊎_elim
    (λ (h : ra % 8 + bct ≤ 7). rw (le-leb (ra % 8 + bct) 7 h) (omega arith))
    (λ (h : 7 < ra % 8 + bct). rw (lt-leb (ra % 8 + bct) 7 h) (omega arith))
    (le_or_lt (ra % 8 + bct) 7)

pub lanes_accepted : (ra bct : ℕ) → bct ≤ 7
    → lanes_of ra bct ≡ Ok record { words = 1 + (ra % 8 + bct) / 8; positions = (2 * 2 ^ bct % 2 ^ 32 - 1) * 2 ^ (ra % 8) % 2 ^ 32 }
unfolding lanes_of
lanes_accepted ra bct l = rw (within_in 0 7 bct (omega arith) l, words_of_sum ra bct l, positions_of_shift ra bct l)

lanes_err : (ra bct : ℕ) → 7 < bct → lanes_of ra bct ≡ Err FieldRange
unfolding lanes_of
lanes_err ra bct l = rw (within_over 0 7 bct l)

pub lanes_refused : (ra bct : ℕ) → 7 < bct
    → (lanes_of ra bct ≡ Err FieldRange) × (lanes_told (lanes_of ra bct) ≡ record { refusal = field_range; words = 0; positions = 0 })
unfolding lanes_told refused_lanes
lanes_refused ra bct l = let e = lanes_err ra bct l in (e, rw e)

-- ---- the laws

-- a position is in the set exactly where it is one of the BCT + 1 from RA mod 8 on
pub position_in : (ra bct p : ℕ) → p < 16 → (bit_at p (positions_of ra bct) ≡ 1) ↔ ((ra % 8 ≤ p) × (p < ra % 8 + (bct + 1)))
unfolding positions_of
position_in ra bct p l = (there, back)
  where
    same : bit_at p (positions_of ra bct) ≡ carried_at ra bct p
    same = bit_from 16 p (carried_at ra bct) (carried_lt ra bct) l

    there : bit_at p (positions_of ra bct) ≡ 1 → (ra % 8 ≤ p) × (p < ra % 8 + (bct + 1))
    there e =
        let from : ra % 8 ≤ p =
        ⊎_elim (λ (h : ra % 8 ≤ p). h) (λ (h : p < ra % 8). omega (arith, same, carried_under ra bct p h)) (le_or_lt (ra % 8) p) in
        let to : p ≤ ra % 8 + bct =
        ⊎_elim (λ (h : p ≤ ra % 8 + bct). h) (λ (h : ra % 8 + bct < p). omega (arith, same, carried_over ra bct p h)) (le_or_lt p (ra % 8 + bct)) in
        omega arith

    back : (ra % 8 ≤ p) × (p < ra % 8 + (bct + 1)) → bit_at p (positions_of ra bct) ≡ 1
    back h = same ∙ carried_in ra bct p h.0 (omega arith)

-- the set has BCT + 1 members
pub position_count : (ra bct : ℕ) → bct ≤ 7 → ones_below 16 (positions_of ra bct) ≡ bct + 1
position_count ra bct l =
    let moved : ones ((2 ^ (bct + 1) - 1) * 2 ^ (ra % 8) + 0) ≡ ones (2 ^ (bct + 1) - 1) + ones 0 =
    ones_cat (ra % 8) (2 ^ (bct + 1) - 1) 0 (pow_pos (ra % 8)) in
    let set : ones ((2 ^ (bct + 1) - 1) * 2 ^ (ra % 8) + 0) ≡ ones (positions_of ra bct) =
    ap ones (add-zero ((2 ^ (bct + 1) - 1) * 2 ^ (ra % 8)) ∙ positions_run ra bct l) in
    omega (arith, ones_count 16 (positions_of ra bct) (positions_lt ra bct), ones-ones (bct + 1), ones-le 0 0 (omega arith))

-- two words exactly where a member lies past position 7
pub two_words : (ra bct : ℕ) → bct ≤ 7
    → (words_of ra bct ≡ 2) ↔ ((p : ℕ) × (7 < p) × (p < 16) × (bit_at p (positions_of ra bct) ≡ 1))
two_words ra bct l = (there, back)
  where
    there : words_of ra bct ≡ 2 → (p : ℕ) × (7 < p) × (p < 16) × (bit_at p (positions_of ra bct) ≡ 1)
    there e =
        let past : 7 < ra % 8 + bct = omega (arith, words_of_sum ra bct l) in
        (ra % 8 + bct, past, omega arith, (position_in ra bct (ra % 8 + bct) (omega arith)).1 (omega arith))

    back : (p : ℕ) × (7 < p) × (p < 16) × (bit_at p (positions_of ra bct) ≡ 1) → words_of ra bct ≡ 2
    back h = omega (arith, words_of_sum ra bct l, h.1, (position_in ra bct h.0 h.2).0 h.3)

-- ---- the code's answers

pub lanes_apart : LanesApart
unfolding LanesApart lanes_told refused_lanes
lanes_apart (Ok a) (Ok b) e = ap (λ (x : LanesAnswer). Ok (record { words = x.words; positions = x.positions })) e
lanes_apart (Ok a) (Err y) e = absurd (omega (arith, number_pos y, ap (λ (x : LanesAnswer). x.refusal) e))
lanes_apart (Err x) (Ok b) e = absurd (omega (arith, number_pos x, ap (λ (z : LanesAnswer). z.refusal) e))
lanes_apart (Err x) (Err y) e = ap Err (refusal_one x y (ap (λ (z : LanesAnswer). z.refusal) e))
