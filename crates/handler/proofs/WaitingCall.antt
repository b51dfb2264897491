-- One call of a list: what it does for a unit that waits.
use Prim.Native.Nat.{ℕ, ◌<◌, ◌≤◌}
use mathlib.Core.Path.{◌≡◌, refl, sym}
use mathlib.Core.Bool.{Bool, true, false, and-eq-true_iff, false≢true}
use mathlib.Core.Logic.{◌⊎◌, inl, inr}
use Rattle.std.specs.Prelude.{Option, None, Some}
use Rattle.std.specs.Option.{is_some, is_none}
use native.Mathlib.Decide.{ℕ_discrete}
use borrow.Author.Tests.{eq-eqb, eqb-true}
use lib.Dec.{eqb}
use Rattle.handler.specs.declared.Class.{Class}
use Rattle.handler.specs.declared.Class.TheVariants.{Low}
use Rattle.handler.specs.Handler.{last_unit, unit_granted, distance, allowed}
use Rattle.handler.specs.Waiting.{Call, answer, is_accepted, asks, is_grant, is_grant_to, is_unlocked, is_clear, EachCallGrants}
use Rattle.handler.proofs.RoundRobin.{distance_falls}
use Rattle.handler.proofs.Allowed.{last_allowed, call_state_allowed}
use Rattle.handler.proofs.HandlerLaws.{accepted_allowed, granted_accepted, granted_nearest, asked_grants, granted_sets, no_grant_keeps}

-- what a test of an option says of it

some_passed : (o : Option ℕ) → is_some o ≡ true → (v : ℕ) × (o ≡ Some v)
some_passed None h = absurd (false≢true h)
some_passed (Some v) h = (v, refl)

some_failed : (o : Option ℕ) → is_some o ≡ false → o ≡ None
some_failed None h = refl
some_failed (Some v) h = absurd (false≢true (sym h))

none_passed : (o : Option ℕ) → is_none o ≡ true → o ≡ None
none_passed None h = refl
none_passed (Some v) h = absurd (false≢true h)

-- a grant of class c, in the low class with no lock held, for which unit u asks
pub record Turn (c : Class) (u : ℕ) (k : Call) : Type 0 where
  pub grant : is_grant c k ≡ true
  pub unlocked : c ≡ Low → is_unlocked k ≡ true
  pub asked : asks c u k ≡ true

-- after the call fewer units are met before unit u than before it
abbrev pub Nearer : Class → ℕ → Call → Type 0
Nearer c u k = distance (last_unit c (answer k).state) u < distance (last_unit c k.state) u

module _ (k : Call) where
  accepted_call : is_accepted k ≡ true → allowed k.state k.input.high k.input.low ≡ true
  unfolding is_accepted answer
  accepted_call e = (accepted_allowed _ _ _ _).0 (eqb-true _ _ e)

  no_owner_left : is_unlocked k ≡ true → (answer k).state.lock ≡ None
  unfolding is_unlocked
  no_owner_left h = none_passed (answer k).state.lock h

  granted_somebody : (c : Class) → is_grant c k ≡ true → (v : ℕ) × (unit_granted c (answer k).grant ≡ Some v)
  unfolding is_grant
  granted_somebody c h = some_passed (unit_granted c (answer k).grant) h

  granted_nobody : (c : Class) → is_grant c k ≡ false → unit_granted c (answer k).grant ≡ None
  unfolding is_grant
  granted_nobody c h = some_failed (unit_granted c (answer k).grant) h

  pub grant_accepted : (c : Class) → is_grant c k ≡ true → is_accepted k ≡ true
  unfolding is_accepted answer
  grant_accepted c h =
      let g : (v : ℕ) × (unit_granted c (answer k).grant ≡ Some v) = granted_somebody c h in
      eq-eqb _ _ ((accepted_allowed _ _ _ _).1 (granted_accepted _ _ _ _ c g.0 g.1).0)

  -- a call that gives no grant of the class leaves the class's last unit
  pub last_stays : (c : Class) → is_grant c k ≡ false → last_unit c (answer k).state ≡ last_unit c k.state
  unfolding answer
  last_stays c h = no_grant_keeps _ _ _ _ c (granted_nobody c h)

  -- a turn goes to unit u or brings it nearer
  pub granted_or_nearer : (c : Class) (u : ℕ) → u ≤ 7 → Turn c u k → (is_grant_to c u k ≡ true) ⊎ Nearer c u k
  unfolding answer asks is_grant_to
  granted_or_nearer c u hu t = on (granted_somebody c t.grant)
    where
      on : (v : ℕ) × (unit_granted c (answer k).grant ≡ Some v) → (is_grant_to c u k ≡ true) ⊎ Nearer c u k
      on (v, e) = by (ℕ_discrete v u)
        where
          ok : (allowed k.state k.input.high k.input.low ≡ true) × (v ≤ 7)
          ok = granted_accepted _ _ _ _ c v e

          last : last_unit c k.state ≤ 7
          last = last_allowed _ (call_state_allowed _ _ _ ok.0) c

          no_later : distance (last_unit c k.state) v ≤ distance (last_unit c k.state) u
          no_later = granted_nearest _ _ _ _ c v e (λ l. no_owner_left (t.unlocked l)) u hu t.asked

          by : Dec (v ≡ u) → (is_grant_to c u k ≡ true) ⊎ Nearer c u k
          by (yes q) = inl (rw e (eq-eqb v u q))
          by (no n) = inr (rw (granted_sets _ _ _ _ c v e) (distance_falls _ v u last ok.1 hu no_later n))

  -- "RQH empty and no lock"
  pub clear_parts : is_clear k ≡ true → (k.input.high ≡ 0) × (is_unlocked k ≡ true)
  unfolding is_clear
  clear_parts h =
      let p : (eqb k.input.high 0 ≡ true) × (is_unlocked k ≡ true) = (and-eq-true_iff (eqb k.input.high 0) (is_unlocked k)).0 h in (eqb-true _ _ p.0, p.1)

pub each_call_grants : EachCallGrants
unfolding EachCallGrants asks answer
each_call_grants c u k e a clear = on (is_grant c k) refl
  where
    way : c ≡ Low → (k.input.high ≡ 0) × ((answer k).state.lock ≡ None)
    way l = ((clear_parts k (clear l)).0, no_owner_left k (clear_parts k (clear l)).1)

    on : (b : Bool) → is_grant c k ≡ b → is_grant c k ≡ true
    on true g = g
    on false g = absurd (asked_grants _ _ _ _ c u (accepted_call k e) a way (granted_nobody k c g))
