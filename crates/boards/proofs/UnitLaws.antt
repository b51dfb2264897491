-- The four units as the code goes over them, one after the other; and a bit of a set as it tests it.
use mathlib.Core.Path.{◌≡◌, refl, sym, ap}
use mathlib.Core.Bool.{Bool, true, false, not}
use mathlib.Core.List.{List, [], ◌∷◌}
use Prim.Native.Nat.{ℕ, ◌+◌, ◌*◌, ◌/◌, ◌%◌, ◌^◌, ◌≤◌, ◌<◌}
use native.Mathlib.Omega.{arith}
use native.Mathlib.Numerals.{add-one}
use native.Mathlib.Nat.{pow-suc}
use lib.Dec.{eqb}
use lib.Pow.{pow_mono, pow_pos}
use lib.ListN.{length, get_or}
use borrow.Author.Tests.{ne_eqb}
use mathlib.Core.Logic.{⊎_elim}
use Rattle.numeric.proofs.Cases.{le_or_lt}
use Rattle.numeric.specs.Bits.{sum_below, bit_at, contains, from_bits}
use Rattle.numeric.proofs.BitsLaws.{from_step, from_lt}
use Rattle.std.specs.Int.{from_bool}
use Rattle.std.specs.Int.Bits.{bit_and}
use Rattle.std.proofs.lemmas.Nat.Bits.{and_pow}
use Rattle.coherence.specs.declared.Board.{Board}
use Rattle.coherence.specs.declared.Settings.{Settings}
use Rattle.coherence.specs.Settings.{copyback_board, through}
use Rattle.boards.specs.Boards.{board_of, settings_of, weighed, set_of}

most : (t : Bool) (w : ℕ) → weighed t w ≤ w
unfolding weighed
most true w = omega arith
most false w = omega arith

pub set_most : (g : Settings) → set_of g ≤ 15
unfolding set_of
set_most g = omega (arith, most (through g 0) 1, most (through g 1) 2, most (through g 2) 4, most (through g 3) 8)

-- ---- the units one after the other

-- for each unit 1 if it has a write-through board
abbrev pub bits : Settings → ℕ → ℕ
bits g u = from_bool (through g u)

bit_small : (t : Bool) → from_bool t < 2
bit_small true = omega arith
bit_small false = omega arith

most_of_four : (n : ℕ) → n < 4 → 2 ^ (n + 1) ≤ 16
most_of_four n l = let h : n + 1 ≤ 4 = omega arith in pow_mono h

shifted : (t : Bool) (n : ℕ) → n < 4 → from_bool t * 2 ^ n % 256 ≡ from_bool t * 2 ^ n
shifted true n h = let m = most_of_four n h in let e : 2 ^ (n + 1) ≡ 2 ^ n * 2 = rw (add-one, pow-suc 2 n) in omega arith
shifted false n h = omega arith

-- the set of the units below n, and one more of them
pub bits_next : (g : Settings) (n s b : ℕ) → n < 4 → b ≡ bits g n → s ≡ from_bits n (bits g) → s + b * 2 ^ n % 256 ≡ from_bits (n + 1) (bits g)
bits_next g n s b h e q = rw (q, e, shifted (through g n) n h, from_step n (bits g))

pub bits_fit : (g : Settings) (n s : ℕ) → n < 4 → s ≡ from_bits (n + 1) (bits g) → s < 256
bits_fit g n s h q = let m = most_of_four n h in let b = from_lt (n + 1) (bits g) (λ u. bit_small (through g u)) in omega arith

weighed_flag : (t : Bool) (w : ℕ) → weighed t w ≡ from_bool t * w
unfolding weighed
weighed_flag true w = omega arith
weighed_flag false w = omega arith

-- all four of them
pub bits_all : (g : Settings) (n : ℕ) → n ≤ 4 → 4 ≤ n → from_bits n (bits g) ≡ set_of g
unfolding set_of from_bits sum_below
bits_all g n h l = let e : n ≡ 4 = omega arith in rw (e, weighed_flag (through g 0) 1, weighed_flag (through g 1) 2, weighed_flag (through g 2) 4, weighed_flag (through g 3) 8) (omega arith)

-- ---- a set's bit as the code tests it
pub held : (s i : ℕ) → not (eqb (bit_and s (2 ^ i)) 0) ≡ contains s i
unfolding contains bit_at
held s i = rw (and_pow s i) (go (s / 2 ^ i % 2) (omega arith))
  where
    go : (b : ℕ) → b < 2 → not (eqb (b * 2 ^ i) 0) ≡ eqb b 1
    go b h = ⊎_elim (λ (p : 1 ≤ b). let e : b ≡ 1 = omega arith in let z = pow_pos i in rw (e, ne_eqb (1 * 2 ^ i) 0 (λ q. omega arith))) (λ (p : b < 1). let e : b ≡ 0 = omega arith in let z : 0 * 2 ^ i ≡ 0 = omega arith in rw (e, z)) (le_or_lt 1 b)

pub boards_held : (s : ℕ) (t : Bool) (l : List Board) → length l ≡ 4
    → ((k : ℕ) → 0 ≤ k → k < 0 + 4 → (d : ℕ) (e : Board) → get_or l k e ≡ board_of (not (eqb (bit_and s (get_or (1 ∷ 2 ∷ 4 ∷ 8 ∷ []) k d)) 0)))
    → settings_of s t ≡ record { boards = l; steal = t }
unfolding settings_of
boards_held s t l n h =
    let at : (k : ℕ) → k < 4 → get_or l k copyback_board ≡ board_of (not (eqb (bit_and s (get_or (1 ∷ 2 ∷ 4 ∷ 8 ∷ []) k 0)) 0)) = λ k w. h k (omega arith) (omega arith) 0 copyback_board in
    rw (← held s 0, ← held s 1, ← held s 2, ← held s 3, ← at 0 (omega arith), ← at 1 (omega arith), ← at 2 (omega arith), ← at 3 (omega arith)) (ap (λ (b : List Board). record { boards = b; steal = t }) (sym (four l n)))
  where
    four : (l : List Board) → length l ≡ 4 → l ≡ get_or l 0 copyback_board ∷ get_or l 1 copyback_board ∷ get_or l 2 copyback_board ∷ get_or l 3 copyback_board ∷ []
    four [] n = absurd (omega arith)
    four (x ∷ []) n = absurd (omega arith)
    four (x ∷ y ∷ []) n = absurd (omega arith)
    four (x ∷ y ∷ z ∷ []) n = absurd (omega arith)
    four (x ∷ y ∷ z ∷ w ∷ []) n = refl
    four (x ∷ y ∷ z ∷ w ∷ v ∷ l) n = absurd (omega arith)
