-- The handler's promises: laws of `arbitration`, for every state, RQH, RQL and LCK.
use Prim.Native.Nat.{ℕ, ◌≤◌}
use mathlib.Core.Path.{◌≡◌, refl, sym, ◌∙◌, ap}
use mathlib.Core.Bool.{Bool, true, false, false≢true}
use mathlib.Core.Logic.{◌↔◌}
use Rattle.std.specs.Prelude.{Option, None, Some}
use native.Mathlib.Omega.{arith}
use borrow.Author.Tests.{ne_eqb}
use Rattle.order.specs.Refusal.{accepted, bad_state}
use Rattle.handler.specs.declared.Class.{Class}
use Rattle.handler.specs.declared.Class.TheVariants.{High, Low}
use Rattle.handler.specs.declared.State.{State}
use Rattle.handler.specs.declared.Grant.{Grant}
use Rattle.handler.specs.Handler.{Arbitration, last_unit, requests, unit_granted, lock_next, locked, distance, first_met, granted, nobody, by_turn, grant_next, lock_allowed, state_allowed, allowed, refused, arbitration, initial}
use Rattle.numeric.specs.Bits.{contains}
use Rattle.handler.proofs.RoundRobin.{with_member}
use Rattle.handler.proofs.StateParts.{unit_granted_lem, granted_some, granted_same, granted_other, not_granted, lock_within, last_moved, last_kept, lock_moved, last_locked}
use Rattle.handler.proofs.Allowed.{last_allowed, lock_allowed_lem, owner_allowed, state_allowed_lem, locked_allowed, moved_allowed, requests_allowed, call_state_allowed, call_allowed}
use Rattle.handler.proofs.GrantCases.{Chosen, Ruling, refusing, granting, nothing_to_grant, ruling}

module _ (s : State) (high low : ℕ) (lck : Bool) where
  -- the refusal is 0 exactly where the test passes
  pub accepted_allowed : ((arbitration s high low lck).refusal ≡ accepted) ↔ (allowed s high low ≡ true)
  unfolding refused granted nobody
  accepted_allowed = (tested (arbitration s high low lck) (ruling s high low lck), untold (arbitration s high low lck) (ruling s high low lck))
    where
      tested : (a : Arbitration) → Ruling s high low lck a → a.refusal ≡ accepted → allowed s high low ≡ true
      tested _ (refusing _) e = absurd (omega arith)
      tested _ (granting _ _ ok _) e = ok
      tested _ (nothing_to_grant ok _ _ _) e = ok

      untold : (a : Arbitration) → Ruling s high low lck a → allowed s high low ≡ true → a.refusal ≡ accepted
      untold _ (refusing n) ok = absurd (false≢true (sym n ∙ ok))
      untold _ (granting _ _ _ _) ok = refl
      untold _ (nothing_to_grant _ _ _ _) ok = refl

  -- a call is accepted exactly when no request set is above 255, and no last unit and no lock owner above 7
  pub accepted_exactly : ((arbitration s high low lck).refusal ≡ accepted)
      ↔ (((c : Class) → requests c high low ≤ 255) × ((c : Class) → last_unit c s ≤ 7) × ((o : ℕ) → s.lock ≡ Some o → o ≤ 7))
  accepted_exactly = (
    λ e. within (accepted_allowed.0 e),
    λ w. accepted_allowed.1 (call_allowed s high low w.0 (state_allowed_lem s w.1 (lock_within s.lock w.2))),
  )
    where
      within : allowed s high low ≡ true → ((c : Class) → requests c high low ≤ 255) × ((c : Class) → last_unit c s ≤ 7) × ((o : ℕ) → s.lock ≡ Some o → o ≤ 7)
      within ok = (
        requests_allowed s high low ok,
        last_allowed s (call_state_allowed s high low ok),
        λ o l. owner_allowed o (ap lock_allowed (sym l) ∙ lock_allowed_lem s (call_state_allowed s high low ok)),
      )

  -- a refused call gives number 10 and nobody the bus, and leaves the state
  pub refused_leaves : allowed s high low ≡ false →
      ((arbitration s high low lck).refusal ≡ bad_state) × ((arbitration s high low lck).grant ≡ None) × ((arbitration s high low lck).state ≡ s)
  unfolding arbitration refused
  refused_leaves e = rw e (refl, refl, refl)

  -- the lock comes first, and no grant changes it
  pub lock_first : allowed s high low ≡ true → (arbitration s high low lck).state.lock ≡ lock_next lck s.lock s.last_low
  unfolding locked granted nobody
  lock_first = on (arbitration s high low lck) (ruling s high low lck)
    where
      on : (a : Arbitration) → Ruling s high low lck a → allowed s high low ≡ true → a.state.lock ≡ (locked lck s).lock
      on _ (refusing n) e = absurd (false≢true (sym n ∙ e))
      on _ (granting c u _ _) e = lock_moved c u (locked lck s)
      on _ (nothing_to_grant _ _ _ _) e = refl

  -- a granted unit, and what led to its grant
  chosen : (c : Class) (u : ℕ) → unit_granted c (arbitration s high low lck).grant ≡ Some u → (allowed s high low ≡ true) × Chosen s high low lck c u
  unfolding refused granted nobody
  chosen c u = on (arbitration s high low lck) (ruling s high low lck)
    where
      on : (a : Arbitration) → Ruling s high low lck a → unit_granted c a.grant ≡ Some u → (allowed s high low ≡ true) × Chosen s high low lck c u
      on _ (refusing _) e = absurd (not_granted c u e)
      on _ (granting d v ok h) e = let q : (d ≡ c) × (v ≡ u) = granted_same c d v u e in rw (← q.0, ← q.1) (ok, h)
      on _ (nothing_to_grant _ _ _ _) e = absurd (not_granted c u e)

  -- the lock after a call in which somebody was granted
  lock_then : (c : Class) (u : ℕ) → unit_granted c (arbitration s high low lck).grant ≡ Some u → (arbitration s high low lck).state.lock ≡ (locked lck s).lock
  unfolding locked
  lock_then c u e = lock_first (chosen c u e).0

  -- only an accepted call grants, and only one of the eight units
  pub granted_accepted : (c : Class) (u : ℕ) → unit_granted c (arbitration s high low lck).grant ≡ Some u → (allowed s high low ≡ true) × (u ≤ 7)
  granted_accepted c u e = ((chosen c u e).0, (chosen c u e).1.is_unit_lem)

  -- a grant is a member of its set
  pub granted_asks : (c : Class) (u : ℕ) → unit_granted c (arbitration s high low lck).grant ≡ Some u → contains (requests c high low) u ≡ true
  granted_asks c u e = (chosen c u e).1.asks

  -- no member is met before the granted unit; in the low class, where no lock is held
  pub granted_nearest : (c : Class) (u : ℕ) → unit_granted c (arbitration s high low lck).grant ≡ Some u →
      (c ≡ Low → (arbitration s high low lck).state.lock ≡ None) →
      (v : ℕ) → v ≤ 7 → contains (requests c high low) v ≡ true → distance (last_unit c s) u ≤ distance (last_unit c s) v
  granted_nearest c u e f = (chosen c u e).1.nearest (λ m. sym (lock_then c u e) ∙ (f m))

  -- a low grant is given only where RQH is empty
  pub low_after_high : (u : ℕ) → unit_granted Low (arbitration s high low lck).grant ≡ Some u → high ≡ 0
  low_after_high u e = (chosen Low u e).1.high_first refl

  -- under a held lock nobody but the owner gets a low grant
  pub owner_alone : (u o : ℕ) → unit_granted Low (arbitration s high low lck).grant ≡ Some u →
      (arbitration s high low lck).state.lock ≡ Some o → u ≡ o
  owner_alone u o e l = (chosen Low u e).1.owner_only refl o (sym (lock_then Low u e) ∙ l)

  -- high requests pass a lock: whatever the lock, the first high unit met is granted
  pub high_passes_lock : allowed s high low ≡ true → (high ≡ 0 → ⊥) → unit_granted High (arbitration s high low lck).grant ≡ Some (first_met high (last_unit High s))
  unfolding arbitration grant_next by_turn granted
  high_passes_lock ok n = rw (ok, ne_eqb high 0 n, last_locked High lck s) (unit_granted_lem High (first_met high (last_unit High s)))

  -- nobody is granted only where there is nothing to grant
  pub nobody_only : allowed s high low ≡ true → (arbitration s high low lck).grant ≡ None →
      (high ≡ 0) × ((o : ℕ) → (arbitration s high low lck).state.lock ≡ Some o → contains low o ≡ false)
      × ((arbitration s high low lck).state.lock ≡ None → low ≡ 0)
  unfolding granted nobody
  nobody_only = on (arbitration s high low lck) (ruling s high low lck)
    where
      on : (a : Arbitration) → Ruling s high low lck a → allowed s high low ≡ true → a.grant ≡ None →
          (high ≡ 0) × ((o : ℕ) → a.state.lock ≡ Some o → contains low o ≡ false) × (a.state.lock ≡ None → low ≡ 0)
      on _ (refusing n) ok e = absurd (false≢true (sym n ∙ ok))
      on _ (granting c u _ _) ok e = let z : ◌≡◌ {A = ℕ} 0 1 = cc in absurd (omega arith)
      on _ (nothing_to_grant _ hz held free) ok e = (hz, λ o l. held o l, λ l. free l)

  -- with a member in its set a class has its grant; the low class, where RQH is empty and no lock is held
  pub asked_grants : (c : Class) (u : ℕ) → allowed s high low ≡ true → contains (requests c high low) u ≡ true →
      (c ≡ Low → (high ≡ 0) × ((arbitration s high low lck).state.lock ≡ None)) → unit_granted c (arbitration s high low lck).grant ≡ None → ⊥
  unfolding granted nobody requests
  asked_grants c u ok m = on (arbitration s high low lck) (ruling s high low lck) c m
    where
      on : (a : Arbitration) → Ruling s high low lck a → (c : Class) → contains (requests c high low) u ≡ true →
          (c ≡ Low → (high ≡ 0) × (a.state.lock ≡ None)) → unit_granted c a.grant ≡ None → ⊥
      on _ (refusing n) c m f e = false≢true (sym n ∙ ok)
      on _ (granting High v _ h) High m f e = granted_some High v e
      on _ (granting Low v _ h) High m f e = with_member high u m (h.high_first refl)
      on _ (granting High v _ h) Low m f e = with_member high v h.asks (f refl).0
      on _ (granting Low v _ h) Low m f e = granted_some Low v e
      on _ (nothing_to_grant _ hz _ _) High m f e = with_member high u m hz
      on _ (nothing_to_grant _ _ _ free) Low m f e = with_member low u m (free (f refl).1)

  -- a grant sets the last unit of its own class
  pub granted_sets : (c : Class) (u : ℕ) → unit_granted c (arbitration s high low lck).grant ≡ Some u → last_unit c (arbitration s high low lck).state ≡ u
  unfolding refused granted nobody
  granted_sets c u = on (arbitration s high low lck) (ruling s high low lck)
    where
      on : (a : Arbitration) → Ruling s high low lck a → unit_granted c a.grant ≡ Some u → last_unit c a.state ≡ u
      on _ (refusing _) e = absurd (not_granted c u e)
      on _ (granting d v _ _) e = let q : (d ≡ c) × (v ≡ u) = granted_same c d v u e in rw (q.0, q.1) (last_moved c u (locked lck s))
      on _ (nothing_to_grant _ _ _ _) e = absurd (not_granted c u e)

  -- where a class has no grant, its last unit stays
  pub no_grant_keeps : (c : Class) → unit_granted c (arbitration s high low lck).grant ≡ None → last_unit c (arbitration s high low lck).state ≡ last_unit c s
  unfolding refused granted nobody
  no_grant_keeps c = on (arbitration s high low lck) (ruling s high low lck)
    where
      on : (a : Arbitration) → Ruling s high low lck a → unit_granted c a.grant ≡ None → last_unit c a.state ≡ last_unit c s
      on _ (refusing _) e = refl
      on _ (granting d v _ _) e = last_kept d c v (locked lck s) e ∙ last_locked c lck s
      on _ (nothing_to_grant _ _ _ _) e = last_locked c lck s

  -- a high grant leaves the last low unit, and the other way round
  pub other_class_keeps : (c d : Class) (u : ℕ) → (d ≡ c → ⊥) → unit_granted c (arbitration s high low lck).grant ≡ Some u →
      last_unit d (arbitration s high low lck).state ≡ last_unit d s
  other_class_keeps c d u n e = no_grant_keeps d (other (arbitration s high low lck).grant e)
    where
      other : (g : Option Grant) → unit_granted c g ≡ Some u → unit_granted d g ≡ None
      other None k = absurd (not_granted c u k)
      other (Some g) k = granted_other g.class d g.unit (λ m. n (m ∙ (granted_same c g.class g.unit u k).0))

  -- nobody granted: both last units stay
  pub nobody_keeps : (c : Class) → (arbitration s high low lck).grant ≡ None → last_unit c (arbitration s high low lck).state ≡ last_unit c s
  unfolding unit_granted
  nobody_keeps c e = no_grant_keeps c (ap (unit_granted c) e)

  -- a state that is accepted leads to one that is accepted
  pub stays_allowed : state_allowed s ≡ true → state_allowed (arbitration s high low lck).state ≡ true
  unfolding refused granted nobody
  stays_allowed = on (arbitration s high low lck) (ruling s high low lck)
    where
      on : (a : Arbitration) → Ruling s high low lck a → state_allowed s ≡ true → state_allowed a.state ≡ true
      on _ (refusing _) ok = ok
      on _ (granting c u _ h) ok = moved_allowed c u (locked lck s) h.is_unit_lem (locked_allowed lck s ok)
      on _ (nothing_to_grant _ _ _ _) ok = locked_allowed lck s ok

-- the fresh state is accepted
pub fresh_allowed : state_allowed initial ≡ true
unfolding state_allowed lock_allowed initial
fresh_allowed = refl
