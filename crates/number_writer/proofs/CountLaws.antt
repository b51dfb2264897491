-- The rule for a number's groups: it counts the groups of the number's spelling, and no fewer hold the number.
use Prim.Native.Nat.{ℕ, zero, suc, ◌+◌, ◌*◌, ◌-◌, ◌/◌, ◌^◌, ◌≤◌, ◌<◌}
use native.Mathlib.Nat.{mul-suc, add-sub_cancel_left}
use native.Mathlib.Omega.{arith}
use mathlib.Core.Path.{◌≡◌, refl, sym, ap, ◌∙◌}
use mathlib.Core.Logic.{⊎_elim}
use mathlib.Core.Bool.{Bool, true, false, cond}
use mathlib.Core.List.{List, [], ◌∷◌, ◌++◌, append-nil}
use lib.Count.{count_leading_zeros, leading_top}
use lib.Dec.{ltb, lit<}
use lib.ListN.{length, length-append}
use lib.Pow.{pow-add, pow_mono}
use borrow.Author.Tests.{ltb-true, ltb-false, le-leb, lt-leb, eq-eqb, ne_eqb}
use Rattle.numeric.proofs.Cases.{le_or_lt}
use Rattle.number.specs.Number.{groups, spell_groups, spell, spell_all, filled}
use Rattle.number_writer.specs.GroupCount.{least_from, significant_bits, group_count, size_of, meaning, Holds, CountsGroups, SizesAll}
use Rattle.number.proofs.NumberLaws.{spell_one, spell_more}
use Rattle.number_writer.proofs.SpellLaws.{spell_short}
use Rattle.std.specs.List.{sum_by}
use Rattle.std.proofs.lemmas.List.Sums.{sum_by-cons}

-- ---- significant bits

-- what a search for the least k with n < 2^k finds, that ends at `end`
record Least (end n k : ℕ) : Type 0 where
  below : (j : ℕ) → j < k → 2 ^ j ≤ n
  above : k < end → n < 2 ^ k
  most : k ≤ end

search_least : (more k n : ℕ) → ((j : ℕ) → j < k → 2 ^ j ≤ n) → Least (k + more) n (least_from more k n)
unfolding least_from
search_least zero k n h = record { below = h; above = λ l. absurd (omega arith); most = omega arith }
search_least (suc more) k n h = go (ltb n (2 ^ k)) refl (search_least more (k + 1) n)
  where
    up_to : 2 ^ k ≤ n → (j : ℕ) → j < k + 1 → 2 ^ j ≤ n
    up_to p j l = ⊎_elim (λ w. let e : j ≡ k = omega arith in rw e p) (λ w. h j w) (le_or_lt k j)

    go : (t : Bool) → ltb n (2 ^ k) ≡ t → (((j : ℕ) → j < k + 1 → 2 ^ j ≤ n) → Least (k + 1 + more) n (least_from more (k + 1) n))
        → Least (k + suc more) n (cond t k (least_from more (k + 1) n))
    go true e ih = record { below = h; above = λ l. ltb-true n (2 ^ k) e; most = omega arith }
    go false e ih =
        let f = ih (up_to (ltb-false n (2 ^ k) e)) in
        record { below = f.below; above = λ l. f.above (omega arith); most = omega (arith, f.most) }

bits_least : (n : ℕ) → Least 64 n (significant_bits n)
unfolding significant_bits
bits_least n = search_least 64 0 n (λ j l. absurd (omega arith))

power_order : (a b n : ℕ) → 2 ^ a ≤ n → n < 2 ^ b → a < b
power_order a b n h l =
    ⊎_elim (λ w. absurd (let p : 2 ^ b ≤ 2 ^ a = pow_mono w in omega arith)) (λ w. w) (le_or_lt b a)

module _ (n : ℕ) where
  bits_hold : n < 2 ^ 64 → n < 2 ^ significant_bits n
  bits_hold h =
      ⊎_elim (λ w. let p : 2 ^ 64 ≤ 2 ^ significant_bits n = pow_mono w in omega arith) (λ w. (bits_least n).above w) (le_or_lt 64 (significant_bits n))

  bits_fewest : (k : ℕ) → n < 2 ^ k → significant_bits n ≤ k
  bits_fewest k h = ⊎_elim (λ w. w) (λ w. absurd (let p = (bits_least n).below k w in omega arith)) (le_or_lt (significant_bits n) k)

  -- the bits that stand below the leading zeros
  pub bits_leading : 0 < n → n < 2 ^ 64 → 64 - count_leading_zeros 64 n ≡ significant_bits n
  bits_leading p h =
      let (j, e, lo, hi) = leading_top 64 n p h in
      let b : 64 - count_leading_zeros 64 n ≡ suc j = ap (λ (k : ℕ). k - count_leading_zeros 64 n) (sym e) ∙ add-sub_cancel_left (count_leading_zeros 64 n) (suc j) in
      let l : j < significant_bits n = power_order j (significant_bits n) n lo (bits_hold h) in
      omega (arith, b, bits_fewest (suc j) hi)

-- ---- the groups of a spelling

-- one group more has 128 times as many numbers
seven_more : (m : ℕ) → 2 ^ (7 * suc m) ≡ 2 ^ (7 * m) * 128
seven_more m = ap (λ (k : ℕ). 2 ^ k) (mul-suc 7 m) ∙ pow-add 2 (7 * m) 7

-- a spelling in at most left + 1 groups has m + 1: none to spare, and no more are left than it needs
record Spelt (left n m : ℕ) : Type 0 where
  long : length (spell_groups (suc left) n) ≡ suc m
  few : m ≤ left
  least : 0 < n → 2 ^ (7 * m) ≤ n
  hold : m < left → n < 2 ^ (7 * suc m)

spelt : (left n : ℕ) → (m : ℕ) × Spelt left n m
unfolding spell_groups
spelt zero n = (
  0,
  record {
    long = ⊎_elim (λ l. ap length (spell_more zero n l)) (λ l. ap length (spell_one zero n l)) (le_or_lt 128 n);
    few = omega arith;
    least = λ p. p;
    hold = λ l. absurd (omega arith);
  },
)
spelt (suc left) n =
    let (m, s) = spelt left (n / 128) in
    ⊎_elim
    (λ l. (
      suc m,
      record {
        long = ap length (spell_more (suc left) n l) ∙ ap suc s.long;
        few = omega (arith, s.few);
        least = λ p. rw (seven_more m) (let k = s.least (omega arith) in omega arith);
        hold = λ w. rw (seven_more (suc m)) (let k = s.hold (omega arith) in omega arith);
      },
    ))
    (λ l. (0, record { long = ap length (spell_one (suc left) n l); few = omega arith; least = λ p. p; hold = λ _. l }))
    (le_or_lt 128 n)

-- a spelling means its number
spelled_meaning : (left n : ℕ) → n < 2 ^ (7 * suc left) → meaning (spell_groups (suc left) n) ≡ n
unfolding meaning
spelled_meaning zero n h = rw (spell_one zero n h) (omega arith)
spelled_meaning (suc left) n h =
    ⊎_elim
    (λ l. rw (spell_more (suc left) n l) (omega (arith, spelled_meaning left (n / 128) (let s = seven_more (suc left) in omega arith))))
    (λ l. rw (spell_one (suc left) n l) (omega arith))
    (le_or_lt 128 n)

-- groups mean less than one more of them
meaning_below : (gs : List ℕ) → meaning gs < 2 ^ (7 * length gs)
unfolding meaning
meaning_below [] = lit< tt
meaning_below (g ∷ gs) = rw (seven_more (length gs)) (omega (arith, meaning_below gs))

-- ---- the rule

module _ (n : ℕ) where
  -- where so many groups spell a number above zero, its bits are so many
  bits_between : (m : ℕ) → Spelt (groups - 1) n m → 0 < n → (7 * m < significant_bits n) × (significant_bits n ≤ 7 * suc m)
  bits_between m s p =
      let b = bits_least n in (
        ⊎_elim (λ w. omega (arith, s.few)) (λ w. power_order (7 * m) (significant_bits n) n (s.least p) (b.above w)) (le_or_lt 64 (significant_bits n)),
        ⊎_elim (λ w. omega (arith, b.most)) (λ w. bits_fewest n (7 * suc m) (s.hold w)) (le_or_lt (groups - 1) m),
      )

  pub count_exact : length (spell n) ≡ group_count n
  unfolding spell group_count
  count_exact =
      let (m, s) = spelt (groups - 1) n in
      ⊎_elim
      (λ p. let b = bits_between m s p in rw (ne_eqb n 0 (λ z. omega arith)) (omega (arith, s.long)))
      (λ (l : n < 1). rw (eq-eqb n 0 (omega arith)) (ap length (spell_one (groups - 1) n (omega arith))))
      (le_or_lt 1 n)

  -- above zero, what holds the number has at least the rule's groups
  enough : 0 < n → (count : ℕ) → Holds count n → group_count n ≤ count
  unfolding Holds spell
  enough p count (gs, size, means) =
      let (m, s) = spelt (groups - 1) n in
      let e : suc m ≡ group_count n = sym s.long ∙ count_exact in
      let below : n < 2 ^ (7 * count) = rw (means, size) at (meaning_below gs) in
      let a : 7 * m < 7 * count = power_order (7 * m) (7 * count) n (s.least p) below in
      omega arith

pub counts_groups : CountsGroups
unfolding CountsGroups spell spell_all filled
counts_groups n h =
    let e : spell n ++ [] ≡ spell n = append-nil (spell n) in
    record {
      bits = bits_hold n (omega arith);
      least = bits_fewest n;
      answer = ap length e ∙ count_exact n;
      written = λ space l. rw (e, count_exact n, le-leb (group_count n) (length space) l);
      no_room = λ space l. rw (e, count_exact n, lt-leb (group_count n) (length space) l);
      exactly = count_exact n;
      means = spelled_meaning (groups - 1) n (omega arith);
      fewer = λ p count l holds. let e = enough n p count holds in omega arith;
    }

pub size_exact : (ns : List ℕ) → length (spell_all ns) ≡ size_of ns
unfolding spell_all size_of
size_exact [] = refl
size_exact (n ∷ ns) = length-append (spell n) (spell_all ns) ∙ omega (arith, count_exact n, size_exact ns)

-- the sum over the numbers, no more than ten bytes for each
pub size_summed : (ns : List ℕ) → sum_by group_count ns ≡ size_of ns
unfolding size_of
size_summed [] = refl
size_summed (n ∷ ns) = sum_by-cons group_count n ns ∙ ap (λ (k : ℕ). group_count n + k) (size_summed ns)

pub size_most : (ns : List ℕ) → size_of ns ≤ groups * length ns
unfolding size_of
size_most [] = omega arith
size_most (n ∷ ns) = omega (arith, size_most ns, spell_short n, count_exact n)

pub sizes_all : SizesAll
unfolding SizesAll
sizes_all = size_exact
