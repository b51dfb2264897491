-- The loop over the parts of a list of accesses as numbers.
use Prim.Native.Nat.{ℕ, ◌+◌, ◌-◌, ◌*◌, ◌/◌, ◌≤◌, ◌<◌}
use native.Mathlib.Omega.{arith}
use mathlib.Core.Path.{◌≡◌, refl, sym, ◌∙◌}
use mathlib.Core.Bool.{Bool, true, false, cond, ◌&&◌}
use mathlib.Core.List.{List}
use lib.Dec.{eqb, ltb}
use lib.ListN.{length}
use borrow.Author.Tests.{eq-eqb, eqb-true, eqb-false, ltb-false}
use Rattle.coherence.specs.declared.Directory.{Directory}
use Rattle.batch_rules.specs.Outcome.{Outcome}
use Rattle.batch_rules.specs.Batch.{Batch, batch, none}
use Rattle.batch_rules.specs.Numbers.{count_of, opened_numbers, ran_numbers}
use Rattle.batch_outcome.proofs.GoesOn.{goes, goes_fresh, goes_inside}
use Rattle.batch_rules.proofs.NumbersLaws.{opened_fits, numbers_still, numbers_none}
use Rattle.batch_numbers.specs.Part.{Room, Parted}

-- how many accesses are left, and one; 0 once an access was refused
unfoldable pub left : Outcome → ℕ → ℕ
left s n = cond (eqb s.refusal 0) (n + 1 - s.index) 0

abbrev pub Within : ℕ → ℕ → Outcome → Type 0
Within n room s = s.refusal ≡ 0 → (s.index ≤ n) × (n ≤ room) × (n ≤ 65536) × (s.orders ≤ 4 * s.index)

-- before each turn: s and the spaces vs, m and k come to the same as what the call was given, whose result is w
pub record Underway (ns : List ℕ) (w : Batch) (room : ℕ) (s : Outcome) (vs m k : List ℕ) : Type 0 where
  pub same : ran_numbers s vs m k ns ≡ w
  pub values : length vs ≡ room
  pub within : Within (count_of ns) room s

within_first : (d : Directory) (numbers room : ℕ) → Within (numbers / 4) room (opened_numbers d numbers room)
unfolding none
within_first d numbers room z =
    let f = opened_fits d numbers room z in
    rw f.2 (omega arith, f.0, f.1, omega arith)

pub first : (ns vs : List ℕ) (d : Directory) (m k : List ℕ) (s : Outcome) → s ≡ opened_numbers d (length ns) (length vs)
    → Underway ns (ran_numbers s vs m k ns) (length vs) s vs m k
unfolding count_of
first ns vs d m k s e = record { same = refl; values = refl; within = rw e (within_first d (length ns) (length vs)) }

module _ (ns : List ℕ) (w : Batch) (size : ℕ) (s : Outcome) (vs m k : List ℕ) (u : Underway ns w size s vs m k) where
  pub room : goes s (count_of ns) ≡ true → Room s ns (length vs)
  unfolding Room
  room e =
      let b = u.within (goes_fresh s (count_of ns) e) in
      (goes_fresh s (count_of ns) e, goes_inside s (count_of ns) e, omega (arith, b, u.values), b.2, b.3)

  module _ (e : goes s (count_of ns) ≡ true) (r : Outcome) (vs' m' k' : List ℕ) (p : Parted s ns vs m k r vs' m' k') where
    pub next : length vs' ≡ length vs → Underway ns w size r vs' m' k'
    next ev =
        record {
          same = sym p.rest ∙ u.same;
          values = ev ∙ u.values;
          within = λ z.
              let g = p.goes z in
              let b = u.within (goes_fresh s (count_of ns) e) in
              (g.1, b.1, b.2, g.2);
        }

    pub less : left r (count_of ns) < left s (count_of ns)
    unfolding left
    less = rw (eq-eqb _ _ (goes_fresh s (count_of ns) e)) (go (eqb r.refusal 0) refl)
      where
        go : (a : Bool) → eqb r.refusal 0 ≡ a → cond a (count_of ns + 1 - r.index) 0 < count_of ns + 1 - s.index
        go true f = let g = p.goes (eqb-true _ _ f) in omega (arith, g, goes_inside s (count_of ns) e)
        go false f = omega (arith, goes_inside s (count_of ns) e)

  pub last : goes s (count_of ns) ≡ false → batch s vs m k ≡ w
  last e = go (eqb s.refusal 0) refl e
    where
      go : (a : Bool) → eqb s.refusal 0 ≡ a → (a && ltb s.index (count_of ns)) ≡ false → batch s vs m k ≡ w
      go true f z = sym (numbers_none s vs m k ns (ltb-false _ _ z)) ∙ u.same
      go false f z = sym (numbers_still s vs m k ns (eqb-false _ _ f)) ∙ u.same
