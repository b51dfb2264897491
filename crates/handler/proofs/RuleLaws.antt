-- The rule's sentences hold of `arbitration`.
use Prim.Native.Nat.{ℕ, ◌<◌, ◌≤◌}
use mathlib.Core.Path.{◌≡◌, refl, sym, ◌∙◌, ap}
use mathlib.Core.Bool.{Bool, true, false}
use mathlib.Core.Logic.{◌≢◌}
use Rattle.std.specs.Prelude.{Option, None, Some}
use Rattle.std.specs.Option.{option_map_or}
use mathlib.Core.List.{List, [], ◌∷◌}
use native.Mathlib.Omega.{arith}
use lib.Dec.{eqb}
use borrow.Author.Tests.{eq-eqb}
use Rattle.handler.specs.declared.Class.{Class}
use Rattle.handler.specs.declared.Class.TheVariants.{High, Low}
use Rattle.handler.specs.declared.State.{State}
use Rattle.handler.specs.Handler.{Arbitration, last_unit, lock_next, locked, distance, moved, granted, nobody, allowed, refused, arbitration, initial}
use Rattle.numeric.specs.Bits.{contains}
use Rattle.handler.specs.Waiting.{Input, answer, calls, each}
use Rattle.handler.specs.Rule.{FreshState, RefusedKeeps, LockRule, GrantsFirst, is_owner_last, OwnerIsLast}
use Rattle.handler.proofs.Allowed.{last_allowed, call_state_allowed}
use Rattle.handler.proofs.GrantCases.{Ruling, refusing, granting, nothing_to_grant, ruling}
use Rattle.handler.proofs.HandlerLaws.{accepted_allowed, lock_first, granted_accepted, granted_asks, granted_nearest}

-- ---- the fresh state

pub fresh_state_lem : FreshState
unfolding FreshState initial last_unit
fresh_state_lem = (both, refl)
  where
    both : (c : Class) → last_unit c initial ≡ 7
    both High = refl
    both Low = refl

-- ---- a refused call

pub refused_keeps : RefusedKeeps
unfolding RefusedKeeps arbitration refused
refused_keeps s high low lck = on (allowed s high low) refl
  where
    on : (t : Bool) → allowed s high low ≡ t → (arbitration s high low lck).refusal ≢ 0 →
        arbitration s high low lck ≡ record { refusal = 10; grant = None; state = s }
    on true e n = absurd (n ((accepted_allowed s high low lck).1 e))
    on false e n = rw e

-- ---- the lock

pub lock_rule : (s : State) (high low : ℕ) → LockRule s high low
unfolding lock_next
lock_rule s high low = record {
  clears = λ e. lock_first s high low false ((accepted_allowed s high low false).0 e);
  takes = λ e n.
      lock_first s high low true ((accepted_allowed s high low true).0 e) ∙ ap (λ l. lock_next true l s.last_low) n;
  keeps = λ e o h.
      lock_first s high low true ((accepted_allowed s high low true).0 e) ∙ ap (λ l. lock_next true l s.last_low) h;
}

-- ---- the first member met

-- a unit that would be met before one that is met no later than each member is no member
nearer : (set last u v : ℕ) → (contains set v ≡ true → distance last u ≤ distance last v) → distance last v < distance last u → contains set v ≡ false
nearer set last u v h l = on (contains set v) refl
  where
    on : (t : Bool) → contains set v ≡ t → t ≡ false
    on false e = refl
    on true e = let n : distance last u ≤ distance last v = h e in absurd (omega arith)

nearer_between : (last u v : ℕ) → last ≤ 7 → u ≤ 7 → last < v → v < u → distance last v < distance last u
unfolding distance
nearer_between last u v hl hu a b = omega arith

nearer_above : (last u v : ℕ) → last ≤ 7 → u ≤ last → last < v → v ≤ 7 → distance last v < distance last u
unfolding distance
nearer_above last u v hl a b c = omega arith

nearer_below : (last u v : ℕ) → last ≤ 7 → u ≤ last → v < u → distance last v < distance last u
unfolding distance
nearer_below last u v hl a b = omega arith

pub grants_first : GrantsFirst
unfolding GrantsFirst
grants_first s high low lck c u e f =
    let near = granted_nearest s high low lck c u e f in
    record {
      unit = unit;
      member = granted_asks s high low lck c u e;
      between = λ l v a b. nearer _ _ u v (near v (omega (arith, unit))) (nearer_between _ u v last unit a b);
      above = λ l v a b. nearer _ _ u v (near v b) (nearer_above _ u v last l a b);
      below = λ l v a. nearer _ _ u v (near v (omega (arith, unit))) (nearer_below _ u v last l a);
    }
  where
    unit : u ≤ 7
    unit = (granted_accepted s high low lck c u e).1

    last : last_unit c s ≤ 7
    last = last_allowed s (call_state_allowed s high low (granted_accepted s high low lck c u e).0) c

-- ---- the owner is the last low unit

unfoldable pub Owned : State → Type 0
Owned s = (o : ℕ) → s.lock ≡ Some o → o ≡ s.last_low

lock_owned : (lck : Bool) (lock : Option ℕ) (last : ℕ) → ((o : ℕ) → lock ≡ Some o → o ≡ last) →
    (o : ℕ) → lock_next lck lock last ≡ Some o → o ≡ last
unfolding lock_next
lock_owned false lock last h o e = let z : ◌≡◌ {A = ℕ} 0 1 = cc in absurd (omega arith)
lock_owned true None last h o e = cc
lock_owned true (Some u) last h o e = h o e

stays_owned : (s : State) (high low : ℕ) (lck : Bool) → Owned s → Owned (arbitration s high low lck).state
unfolding Owned refused granted nobody locked moved
stays_owned s high low lck h = on (arbitration s high low lck) (ruling s high low lck)
  where
    on : (a : Arbitration) → Ruling s high low lck a → (o : ℕ) → a.state.lock ≡ Some o → o ≡ a.state.last_low
    on _ (refusing _) o e = h o e
    on _ (granting High u _ _) o e = lock_owned lck s.lock s.last_low h o e
    on _ (granting Low u _ w) o e = sym (w.owner_only refl o e)
    on _ (nothing_to_grant _ _ _ _) o e = lock_owned lck s.lock s.last_low h o e

told : (s : State) → Owned s → option_map_or (λ o. eqb o s.last_low) s.lock true ≡ true
unfolding Owned
told s h = on s.lock refl
  where
    on : (x : Option ℕ) → s.lock ≡ x → option_map_or (λ o. eqb o s.last_low) x true ≡ true
    on None e = refl
    on (Some o) e = eq-eqb o s.last_low (h o e)

owned_calls : (s : State) → Owned s → (is : List Input) → each is_owner_last (calls s is) ≡ true
unfolding each calls is_owner_last answer
owned_calls s h [] = refl
owned_calls s h (i ∷ is) =
    let n : Owned (arbitration s i.high i.low i.lck).state = stays_owned s i.high i.low i.lck h in
    rw (told (arbitration s i.high i.low i.lck).state n) (owned_calls (arbitration s i.high i.low i.lck).state n is)

pub owner_is_last : OwnerIsLast
unfolding OwnerIsLast Owned initial
owner_is_last is = owned_calls initial (λ o e. let z : ◌≡◌ {A = ℕ} 0 1 = cc in absurd (omega arith)) is
