-- Laws of spellings: how long they are, and how they are put into a space one after the other.
use Prim.Native.Nat.{ℕ, zero, suc, ◌+◌, ◌/◌, ◌%◌, ◌-◌, ◌≤◌, ◌<◌}
use native.Mathlib.Numerals.{add-one}
use native.Mathlib.Omega.{arith}
use mathlib.Core.Path.{◌≡◌, refl, ap, ◌∙◌}
use mathlib.Core.List.{List, [], ◌∷◌, ◌++◌}
use mathlib.Core.Bool.{Bool, true, false, cond}
use lib.Dec.{ltb, lit≤}
use native.Mathlib.Nat.{zero-add, add-zero, add-suc, suc-add}
use lib.ListN.{length, set, get_or, drop, length-set, length-append, drop_of_length-le}
use lib.Seq.{sets, sets-eq, drop-cons}
use borrow.Author.Tests.{le-leb, lt-leb}
use Rattle.number.specs.Number.{groups, last, spell_groups, spell, spell_all, filled}
use Rattle.number.proofs.GroupLaws.{top}
use Rattle.number.proofs.NumberLaws.{spell_one, spell_more, limit, limit_64_bits}

length_cond : (t : Bool) (k : ℕ) (a b : List ℕ) → length a ≤ k → length b ≤ k → length (cond t a b) ≤ k
length_cond true k a b h l = h
length_cond false k a b h l = l

pub spell_length : (left n : ℕ) → length (spell_groups left n) ≤ left
unfolding spell_groups
spell_length zero n = lit≤ tt
spell_length (suc left) n = length_cond (ltb n 128) (suc left) (n ∷ []) ((n % 128 + 128) ∷ spell_groups left (n / 128)) (omega arith) (omega (arith, spell_length left (n / 128)))

pub spell_short : (n : ℕ) → length (spell n) ≤ groups
unfolding spell
spell_short n = spell_length groups n

-- a run of stores, cut in two
pub sets_append : (s t l : List ℕ) (i : ℕ) → sets l i (s ++ t) ≡ sets (sets l i s) (i + length s) t
sets_append [] t l i = rw add-zero
sets_append (x ∷ s) t l i = rw (sets_append s t (set l i x) (suc i), suc-add, add-suc)

-- the numbers from i on: one is taken, or none is left
module _ (ns : List ℕ) (i : ℕ) where
  pub all_step : i < length ns → spell_all (drop i ns) ≡ spell (get_or ns i 0) ++ spell_all (drop (i + 1) ns)
  unfolding spell_all
  all_step h = rw (add-one, drop-cons ns i 0 h)

  pub all_end : length ns ≤ i → spell_all (drop i ns) ≡ []
  unfolding spell_all
  all_end h = rw (drop_of_length-le ns h)

  length_step : i < length ns → length (spell_all (drop i ns)) ≡ length (spell (get_or ns i 0)) + length (spell_all (drop (i + 1) ns))
  length_step h = ap length (all_step h) ∙ simp length-append

  pub size_step : (size k : ℕ) → i < length ns → k ≡ length (spell (get_or ns i 0)) → size + length (spell_all (drop i ns)) ≡ length (spell_all ns) → size + k + length (spell_all (drop (i + 1) ns)) ≡ length (spell_all ns)
  size_step size k h e inv = omega (arith, length_step h)

  pub room_step : (at room : ℕ) → i < length ns → at + length (spell_all (drop i ns)) ≡ length (spell_all ns) → length (spell_all ns) ≤ room → at + length (spell (get_or ns i 0)) ≤ room
  room_step at room h inv r = omega (arith, length_step h)

  pub put_step : (out₀ out last : List ℕ) (at next : ℕ) → i < length ns → next ≡ at + length (spell (get_or ns i 0)) → last ≡ sets out at (spell (get_or ns i 0))
      → sets out at (spell_all (drop i ns)) ≡ sets out₀ 0 (spell_all ns) → sets last next (spell_all (drop (i + 1) ns)) ≡ sets out₀ 0 (spell_all ns)
  put_step out₀ out last at next h e f inv = rw (f, e, ← sets_append (spell (get_or ns i 0)) (spell_all (drop (i + 1) ns)) out at, ← all_step h) inv

-- bytes that have room at a space's start are put there, and others not
module _ (s space : List ℕ) where
  pub filled_room : length s ≤ length space → sets space 0 s ≡ filled s space
  unfolding filled
  filled_room h = rw (le-leb (length s) (length space) h) (sets-eq s space 0 (rw zero-add h) ∙ rw zero-add)

  pub filled_none : length space < length s → space ≡ filled s space
  unfolding filled
  filled_none h = rw (lt-leb (length s) (length space) h)

-- ---- a number put group by group

some_group : (t : Bool) (n x : ℕ) (s : List ℕ) → 0 < length (cond t (n ∷ []) (x ∷ s))
some_group true n x s = omega arith
some_group false n x s = omega arith

-- n is spelled from `at` on; of the groups from `next` on, `value` is still to be spelled
pub record Putting (out₀ : List ℕ) (at n : ℕ) (out : List ℕ) (value next : ℕ) : Type 0 where
  pub left : ℕ
  pub below : value < top last left
  pub size : next + length (spell_groups (suc left) value) ≡ at + length (spell n)
  pub same : length out ≡ length out₀
  pub bytes : sets out next (spell_groups (suc left) value) ≡ sets out₀ at (spell n)

module _ (out₀ : List ℕ) (at n : ℕ) where
  pub put_start : n ≤ 18446744073709551615 → Putting out₀ at n out₀ n at
  unfolding spell limit
  put_start h = record { left = groups - 1; below = limit_64_bits n h; size = refl; same = refl; bytes = refl }

  module _ (out : List ℕ) (value next : ℕ) (p : Putting out₀ at n out value next) where
    pub put_inside : next < at + length (spell n)
    unfolding spell_groups
    put_inside = omega (arith, p.size, some_group (ltb value 128) value (value % 128 + 128) (spell_groups p.left (value / 128)))

    pub put_more : 128 ≤ value → Putting out₀ at n (set out next (value % 128 + 128)) (value / 128) (next + 1)
    unfolding top
    put_more h = go p.left p.below p.size p.bytes
      where
        go : (left : ℕ) → value < top last left → next + length (spell_groups (suc left) value) ≡ at + length (spell n)
            → sets out next (spell_groups (suc left) value) ≡ sets out₀ at (spell n) → Putting out₀ at n (set out next (value % 128 + 128)) (value / 128) (next + 1)
        go zero l s b = absurd (omega arith)
        go (suc left) l s b =
            let e = spell_more (suc left) value h in
            record {
              left = left;
              below = omega arith;
              size = omega (arith, s, ap length e);
              same = simp length-set p.same;
              bytes = rw (add-one next) (rw e at b);
            }

    pub put_end : value < 128 → (next + 1 ≡ at + length (spell n)) × (set out next value ≡ sets out₀ at (spell n))
    put_end h =
        let e = spell_one p.left value h in
        (omega (arith, p.size, ap length e), rw e at p.bytes)
