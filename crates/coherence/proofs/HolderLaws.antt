-- The sets of holders that a directory keeps: at the end of a call, where no slot changed, and at a cold start.
use mathlib.Core.Path.{◌≡◌, refl, sym, ap, ◌∙◌}
use mathlib.Core.List.{List, [], ◌∷◌}
use mathlib.Core.Logic.{⊎_elim}
use Prim.Native.Nat.{ℕ, zero, suc, ◌+◌, ◌<◌}
use native.Mathlib.Omega.{arith}
use native.Mathlib.Nat.{not-suc-le-zero, le_of_suc-le-suc, eq-or-lt_of_le}
use lib.ListN.{length, get_or, replicate, length-append, length-replicate, get_or-append}
use lib.Seq.{get_or-append-add, ext_get_or}
use Rattle.order.specs.Flag.{flag}
use Rattle.coherence.specs.declared.Settings.{Settings}
use Rattle.coherence.specs.declared.Directory.{Directory}
use Rattle.coherence.specs.Slots.{place, slot_at, units_with, holders_of, held_by, table, kept, cold_directory}
use Rattle.coherence.proofs.SlotLaws.{slot_cold, holds_invalid}

-- the sets kept are those of the slots
pub record Sets (d : Directory) : Type 0 where
  pub number : length d.holders ≡ 64
  pub agree : (b : ℕ) → b < 64 → held_by d b ≡ holders_of d b

length_table : (n : ℕ) (f : ℕ → ℕ) → length (table n f) ≡ n
unfolding table
length_table zero f = refl
length_table (suc n) f = simp length-append (omega (arith, length_table n f))

table_at : (n : ℕ) (f : ℕ → ℕ) (i : ℕ) → i < n → get_or (table n f) i 0 ≡ f i
unfolding table
table_at zero f i h = absurd (not-suc-le-zero h)
table_at (suc n) f i h = ⊎_elim
    (λ (q : i ≡ n).
    let e : i ≡ length (table n f) + 0 = omega (arith, length_table n f) in
    ap (λ (k : ℕ). get_or (table (suc n) f) k 0) e ∙ get_or-append-add (table n f) (f n ∷ []) 0 0 ∙ ap f (sym q))
    (λ (l : i < n). get_or-append (table n f) (f n ∷ []) 0 i (rw (length_table n f) l) ∙ table_at n f i l)
    (eq-or-lt_of_le (le_of_suc-le-suc h))

pub table_is : (n : ℕ) (f : ℕ → ℕ) (l : List ℕ) → length l ≡ n → ((i : ℕ) → i < n → get_or l i 0 ≡ f i) → l ≡ table n f
table_is n f l e h =
    ext_get_or 0 l (table n f) (e ∙ sym (length_table n f)) (λ i o. let q : i < n = rw e at o in h i q ∙ sym (table_at n f i q))

-- a call that changes no slot changes no set
pub kept_same : (d : Directory) → Sets d → kept d ≡ d
unfolding kept held_by
kept_same d s =
    ap (λ (l : List ℕ). record { slots = d.slots; settings = d.settings; holders = l }) (sym (table_is 64 (holders_of d) d.holders s.number s.agree))

pub length_kept : (d : Directory) → length (kept d).holders ≡ 64
unfolding kept
length_kept d = length_table 64 (holders_of d)

pub sets_kept : (d : Directory) → Sets (kept d)
unfolding kept held_by holders_of slot_at
sets_kept d = record { number = length_table 64 (holders_of d); agree = λ b l. table_at 64 (holders_of d) b l }

pub held_cold : (g : Settings) (b : ℕ) → held_by (cold_directory g) b ≡ 0
unfolding cold_directory held_by
held_cold g b = zeros 64 b
  where
    zeros : (n i : ℕ) → ◌≡◌ {A = ℕ} (get_or (replicate n 0) i 0) 0
    zeros zero i = refl
    zeros (suc n) zero = refl
    zeros (suc n) (suc i) = zeros n i

pub sets_cold : (g : Settings) → Sets (cold_directory g)
unfolding cold_directory holders_of units_with flag
sets_cold g =
    record {
      number = length-replicate {A = ℕ} 64 0;
      agree = λ b l. held_cold g b ∙ sym (none b);
    }
  where
    none : (b : ℕ) → holders_of (cold_directory g) b ≡ 0
    none b = rw (slot_cold g (place 0 b), slot_cold g (place 1 b), slot_cold g (place 2 b), slot_cold g (place 3 b), holds_invalid b) refl
