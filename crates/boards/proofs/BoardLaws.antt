-- A set of units with steal, and the settings that they spell.
use mathlib.Core.Path.{◌≡◌, refl, sym, ap, ◌∙◌}
use mathlib.Core.Bool.{Bool, true, false}
use mathlib.Core.List.{List, [], ◌∷◌}
use Prim.Native.Nat.{ℕ, ◌+◌, ◌*◌, ◌/◌, ◌%◌, ◌^◌, ◌≤◌}
use native.Mathlib.Omega.{arith}
use lib.Dec.{eqb}
use lib.ListN.{length}
use borrow.Author.Tests.{eqb-true, eqb-false}
use Rattle.numeric.specs.Bits.{bit_at, contains}
use Rattle.coherence.specs.declared.Kind.{Kind}
use Rattle.coherence.specs.declared.Kind.TheVariants.{Copyback, WriteThrough}
use Rattle.coherence.specs.declared.Board.{Board}
use Rattle.coherence.specs.declared.Settings.{Settings}
use Rattle.coherence.specs.Settings.{is_through, through}
use Rattle.boards.proofs.UnitLaws.{set_most}
use Rattle.boards.specs.Boards.{board_of, settings_of, weighed, set_of, Examples, Sets}

-- ---- settings, and back
boards_back : (t : Bool) (x y z w : Kind)
    → let g : Settings = record { boards = record { kind = x } ∷ record { kind = y } ∷ record { kind = z } ∷ record { kind = w } ∷ []; steal = t } in
    settings_of (set_of g) t ≡ g
unfolding settings_of set_of weighed board_of contains bit_at through is_through
boards_back t Copyback Copyback Copyback Copyback = refl
boards_back t Copyback Copyback Copyback WriteThrough = refl
boards_back t Copyback Copyback WriteThrough Copyback = refl
boards_back t Copyback Copyback WriteThrough WriteThrough = refl
boards_back t Copyback WriteThrough Copyback Copyback = refl
boards_back t Copyback WriteThrough Copyback WriteThrough = refl
boards_back t Copyback WriteThrough WriteThrough Copyback = refl
boards_back t Copyback WriteThrough WriteThrough WriteThrough = refl
boards_back t WriteThrough Copyback Copyback Copyback = refl
boards_back t WriteThrough Copyback Copyback WriteThrough = refl
boards_back t WriteThrough Copyback WriteThrough Copyback = refl
boards_back t WriteThrough Copyback WriteThrough WriteThrough = refl
boards_back t WriteThrough WriteThrough Copyback Copyback = refl
boards_back t WriteThrough WriteThrough Copyback WriteThrough = refl
boards_back t WriteThrough WriteThrough WriteThrough Copyback = refl
boards_back t WriteThrough WriteThrough WriteThrough WriteThrough = refl

back : (g : Settings) → length g.boards ≡ 4 → settings_of (set_of g) g.steal ≡ g
back g e = go g.boards refl e
  where
    go : (l : List Board) → g.boards ≡ l → length l ≡ 4 → settings_of (set_of g) g.steal ≡ g
    go [] q h = absurd (omega arith)
    go (a ∷ []) q h = absurd (omega arith)
    go (a ∷ b ∷ []) q h = absurd (omega arith)
    go (a ∷ b ∷ c ∷ []) q h = absurd (omega arith)
    go (a ∷ b ∷ c ∷ d ∷ []) q h =
        let p : g ≡ record { boards = a ∷ b ∷ c ∷ d ∷ []; steal = g.steal } = ap (λ (l : List Board). record { boards = l; steal = g.steal }) q in
        ap (λ (f : Settings). settings_of (set_of f) g.steal) p ∙ boards_back g.steal a.kind b.kind c.kind d.kind ∙ sym p
    go (a ∷ b ∷ c ∷ d ∷ x ∷ l) q h = absurd (omega arith)

-- ---- a set, and back
is_through_lem : (t : Bool) → is_through (board_of t).kind ≡ t
unfolding is_through board_of
is_through_lem true = refl
is_through_lem false = refl

through_each : (s : ℕ) (t : Bool) → (through (settings_of s t) 0 ≡ contains s 0) × (through (settings_of s t) 1 ≡ contains s 1)
    × (through (settings_of s t) 2 ≡ contains s 2) × (through (settings_of s t) 3 ≡ contains s 3)
unfolding settings_of through
through_each s t = (is_through_lem (contains s 0), is_through_lem (contains s 1), is_through_lem (contains s 2), is_through_lem (contains s 3))

weighed_bit : (s i w : ℕ) → weighed (contains s i) w ≡ w * bit_at i s
unfolding weighed contains bit_at
weighed_bit s i w = go (eqb (s / 2 ^ i % 2) 1) refl
  where
    go : (t : Bool) → eqb (s / 2 ^ i % 2) 1 ≡ t → weighed t w ≡ w * (s / 2 ^ i % 2)
    go true e = let q : s / 2 ^ i % 2 ≡ 1 = eqb-true _ 1 e in rw q (omega arith)
    go false e = let q : s / 2 ^ i % 2 ≡ 1 → ⊥ = eqb-false _ 1 e in let z : s / 2 ^ i % 2 ≡ 0 = omega arith in rw z (omega arith)

sum_of_bits : (s : ℕ) → s ≤ 15 → 1 * (s / 1 % 2) + 2 * (s / 2 % 2) + 4 * (s / 4 % 2) + 8 * (s / 8 % 2) ≡ s
sum_of_bits s h =
    let e₁ : s / 1 ≡ s = omega arith in
    let e₄ : s / 4 ≡ s / 2 / 2 = omega arith in
    let e₈ : s / 8 ≡ s / 2 / 2 / 2 = omega arith in
    rw (e₁, e₄, e₈) (omega arith)

set_forth : (s : ℕ) (t : Bool) → s ≤ 15 → set_of (settings_of s t) ≡ s
unfolding set_of bit_at
set_forth s t h =
    let e = through_each s t in
    rw (e.0, e.1, e.2, e.3, weighed_bit s 0 1, weighed_bit s 1 2, weighed_bit s 2 4, weighed_bit s 3 8) (sum_of_bits s h)

steal_forth : (s : ℕ) (t : Bool) → (settings_of s t).steal ≡ t
unfolding settings_of
steal_forth s t = refl

pub examples : Examples
unfolding settings_of board_of contains bit_at through is_through
examples = record { units = refl; one = refl }

pub sets : Sets
sets = record { back = back; forth = λ s t h. (set_forth s t h, steal_forth s t); through = through_each }

pub set_small : (g : Settings) → set_of g ≤ 15
set_small g = set_most g
