-- The parts of a grant, of a lock and of a state: what the definitions that read and set them have to do with each other.
use Prim.Native.Nat.{ℕ, ◌≤◌}
use mathlib.Core.Path.{◌≡◌, refl, sym, ◌∙◌}
use mathlib.Core.Bool.{Bool, true}
use Rattle.std.specs.Prelude.{Option, None, Some}
use Rattle.std.proofs.lemmas.Option.{none-some}
use native.Mathlib.Omega.{arith}
use borrow.Author.Tests.{le-leb}
use Rattle.handler.specs.declared.Class.{Class}
use Rattle.handler.specs.declared.Class.TheVariants.{High, Low}
use Rattle.handler.specs.declared.State.{State}
use Rattle.handler.specs.Handler.{granted_in, to, last_unit, unit_granted, locked, moved, lock_allowed}

-- a grant

pub unit_granted_lem : (c : Class) (u : ℕ) → unit_granted c (to c u) ≡ Some u
unfolding unit_granted granted_in
unit_granted_lem High u = refl
unit_granted_lem Low u = refl

pub granted_some : (c : Class) (u : ℕ) → unit_granted c (to c u) ≡ None → ⊥
granted_some c u e = none-some u (sym e ∙ unit_granted_lem c u)

pub granted_same : (c d : Class) (u v : ℕ) → unit_granted c (to d u) ≡ Some v → (d ≡ c) × (u ≡ v)
unfolding unit_granted granted_in
granted_same High High u v e = (refl, cc)
granted_same High Low u v e = let z : ◌≡◌ {A = ℕ} 0 1 = cc in absurd (omega arith)
granted_same Low High u v e = let z : ◌≡◌ {A = ℕ} 0 1 = cc in absurd (omega arith)
granted_same Low Low u v e = (refl, cc)

pub granted_other : (c d : Class) (u : ℕ) → (d ≡ c → ⊥) → unit_granted d (to c u) ≡ None
unfolding unit_granted granted_in
granted_other High High u n = absurd (n refl)
granted_other High Low u n = refl
granted_other Low High u n = refl
granted_other Low Low u n = absurd (n refl)

pub not_granted : (c : Class) (u : ℕ) → unit_granted c None ≡ Some u → ⊥
unfolding unit_granted granted_in
not_granted c u e = let z : ◌≡◌ {A = ℕ} 0 1 = cc in omega arith

-- a lock

pub lock_within : (lock : Option ℕ) → ((o : ℕ) → lock ≡ Some o → o ≤ 7) → lock_allowed lock ≡ true
unfolding lock_allowed
lock_within None h = refl
lock_within (Some o) h = le-leb o 7 (h o refl)

-- a state

pub last_moved : (c : Class) (u : ℕ) (s : State) → last_unit c (moved c u s) ≡ u
unfolding last_unit moved
last_moved High u s = refl
last_moved Low u s = refl

pub last_kept : (c d : Class) (u : ℕ) (s : State) → unit_granted d (to c u) ≡ None → last_unit d (moved c u s) ≡ last_unit d s
unfolding unit_granted granted_in last_unit moved
last_kept High High u s e = let z : ◌≡◌ {A = ℕ} 0 1 = cc in absurd (omega arith)
last_kept High Low u s e = refl
last_kept Low High u s e = refl
last_kept Low Low u s e = let z : ◌≡◌ {A = ℕ} 0 1 = cc in absurd (omega arith)

pub lock_moved : (c : Class) (u : ℕ) (s : State) → (moved c u s).lock ≡ s.lock
unfolding moved
lock_moved High u s = refl
lock_moved Low u s = refl

pub last_locked : (c : Class) (lck : Bool) (s : State) → last_unit c (locked lck s) ≡ last_unit c s
unfolding last_unit locked
last_locked High lck s = refl
last_locked Low lck s = refl
