-- What the test of refusal 10 says of an accepted state and of its request sets.
use Prim.Native.Nat.{ℕ, ◌≤◌}
use mathlib.Core.Path.{◌≡◌, refl, sym, ap, ◌∙◌}
use mathlib.Core.Bool.{Bool, true, false, ◌&&◌, and-eq-true_iff}
use borrow.Author.Tests.{leb-true, le-leb}
use lib.Dec.{leb}
use Rattle.handler.specs.declared.Class.{Class}
use Rattle.handler.specs.declared.Class.TheVariants.{High, Low}
use Rattle.handler.specs.declared.State.{State}
use Rattle.handler.specs.Handler.{last_unit, requests, lock_next, locked, moved, lock_allowed, state_allowed, sets_allowed, allowed}
use Rattle.std.specs.Prelude.{Option, None, Some}

-- both tests of a conjunction hold
both : (a b : Bool) → a && b ≡ true → (a ≡ true) × (b ≡ true)
both a b = (and-eq-true_iff a b).0

module _ (s : State) (ok : state_allowed s ≡ true) where
  lasts : leb s.last_high 7 && leb s.last_low 7 ≡ true
  unfolding state_allowed
  lasts = (both (leb s.last_high 7 && leb s.last_low 7) (lock_allowed s.lock) ok).0

  pub last_allowed : (c : Class) → last_unit c s ≤ 7
  unfolding last_unit
  last_allowed High = leb-true s.last_high 7 (both (leb s.last_high 7) (leb s.last_low 7) lasts).0
  last_allowed Low = leb-true s.last_low 7 (both (leb s.last_high 7) (leb s.last_low 7) lasts).1

  pub lock_allowed_lem : lock_allowed s.lock ≡ true
  unfolding state_allowed
  lock_allowed_lem = (both (leb s.last_high 7 && leb s.last_low 7) (lock_allowed s.lock) ok).1

pub owner_allowed : (u : ℕ) → lock_allowed (Some u) ≡ true → u ≤ 7
unfolding lock_allowed
owner_allowed u e = leb-true u 7 e

-- what the code needs of an accepted state

pub last_high_allowed : (s : State) → state_allowed s ≡ true → s.last_high ≤ 7
unfolding last_unit
last_high_allowed s ok = last_allowed s ok High

pub last_low_allowed : (s : State) → state_allowed s ≡ true → s.last_low ≤ 7
unfolding last_unit
last_low_allowed s ok = last_allowed s ok Low

pub held_allowed : (s : State) (u : ℕ) → state_allowed s ≡ true → s.lock ≡ Some u → u ≤ 7
held_allowed s u ok e = owner_allowed u (ap lock_allowed (sym e) ∙ lock_allowed_lem s ok)

-- the parts make an accepted state
pub state_allowed_lem : (s : State) → ((c : Class) → last_unit c s ≤ 7) → lock_allowed s.lock ≡ true → state_allowed s ≡ true
unfolding state_allowed last_unit
state_allowed_lem s l k = rw (le-leb s.last_high 7 (l High), le-leb s.last_low 7 (l Low)) k

pub lock_next_allowed : (lck : Bool) (lock : Option ℕ) (last : ℕ) → last ≤ 7 → lock_allowed lock ≡ true → lock_allowed (lock_next lck lock last) ≡ true
unfolding lock_next lock_allowed
lock_next_allowed false lock last l k = refl
lock_next_allowed true None last l k = le-leb last 7 l
lock_next_allowed true (Some u) last l k = k

-- the lock's step and a grant to one of the eight units keep a state accepted

pub locked_allowed : (lck : Bool) (s : State) → state_allowed s ≡ true → state_allowed (locked lck s) ≡ true
unfolding last_unit locked
locked_allowed lck s ok = state_allowed_lem (locked lck s) lasts' (held (last_allowed s ok Low))
  where
    lasts' : (c : Class) → last_unit c (locked lck s) ≤ 7
    lasts' High = last_allowed s ok High
    lasts' Low = last_allowed s ok Low

    held : last_unit Low s ≤ 7 → lock_allowed (locked lck s).lock ≡ true
    held l = lock_next_allowed lck s.lock s.last_low l (lock_allowed_lem s ok)

pub moved_allowed : (c : Class) (u : ℕ) (s : State) → u ≤ 7 → state_allowed s ≡ true → state_allowed (moved c u s) ≡ true
unfolding last_unit moved
moved_allowed c u s l ok = state_allowed_lem (moved c u s) (lasts' c) (held c)
  where
    lasts' : (c d : Class) → last_unit d (moved c u s) ≤ 7
    lasts' High High = l
    lasts' High Low = last_allowed s ok Low
    lasts' Low High = last_allowed s ok High
    lasts' Low Low = l

    held : (c : Class) → lock_allowed (moved c u s).lock ≡ true
    held High = lock_allowed_lem s ok
    held Low = lock_allowed_lem s ok

module _ (s : State) (high low : ℕ) (ok : allowed s high low ≡ true) where
  sets : leb high 255 && leb low 255 ≡ true
  unfolding allowed sets_allowed
  sets = (both (sets_allowed high low) (state_allowed s) ok).0

  pub requests_allowed : (c : Class) → requests c high low ≤ 255
  unfolding requests
  requests_allowed High = leb-true high 255 (both (leb high 255) (leb low 255) sets).0
  requests_allowed Low = leb-true low 255 (both (leb high 255) (leb low 255) sets).1

  pub call_state_allowed : state_allowed s ≡ true
  unfolding allowed
  call_state_allowed = (both (sets_allowed high low) (state_allowed s) ok).1

  pub high_set_allowed : high ≤ 255
  unfolding requests
  high_set_allowed = requests_allowed High

  pub low_set_allowed : low ≤ 255
  unfolding requests
  low_set_allowed = requests_allowed Low

  pub locked_call_allowed : (lck : Bool) → state_allowed (locked lck s) ≡ true
  locked_call_allowed lck = locked_allowed lck s call_state_allowed

-- the request sets and the state make an accepted call
pub call_allowed : (s : State) (high low : ℕ) → ((c : Class) → requests c high low ≤ 255) → state_allowed s ≡ true → allowed s high low ≡ true
unfolding allowed sets_allowed requests
call_allowed s high low r ok = rw (le-leb high 255 (r High), le-leb low 255 (r Low)) ok
