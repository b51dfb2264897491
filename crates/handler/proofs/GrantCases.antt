-- What a call does, case by case.
use Prim.Native.Nat.{ℕ, ◌≤◌}
use mathlib.Core.Path.{◌≡◌, refl, sym, ◌∙◌, ap}
use mathlib.Core.Bool.{Bool, true, false, cond}
use native.Mathlib.Omega.{arith}
use borrow.Author.Tests.{eq-eqb, ne_eqb, eqb-true, eqb-false}
use lib.Dec.{eqb}
use Rattle.handler.specs.declared.Class.{Class}
use Rattle.handler.specs.declared.Class.TheVariants.{High, Low}
use Rattle.handler.specs.declared.State.{State}
use Rattle.order.specs.declared.Refusal.TheVariants.{BadState}
use Rattle.handler.specs.declared.Grant.{Grant}
use Rattle.handler.specs.Handler.{Arbitration, to, turn, answered, told, moved, last_unit, requests, locked, distance, first_met, granted, nobody, by_turn, low_grant, grant_next, lock_allowed, allowed, refused, arbitration}
use Rattle.numeric.specs.Bits.{contains}
use Rattle.handler.proofs.RoundRobin.{first_met_member, first_met_nearest, first_met_unit}
use Rattle.handler.proofs.StateParts.{last_locked}
use Rattle.handler.proofs.Allowed.{last_allowed, lock_allowed_lem, owner_allowed, locked_allowed, requests_allowed, call_state_allowed}
use Rattle.std.specs.Prelude.{Option, None, Some, Ok, Err}

-- the low grant

module _ (lock : Option ℕ) (low : ℕ) (s : State) where
  pub owner_asks : (u : ℕ) → lock ≡ Some u → contains low u ≡ true → low_grant lock low s ≡ granted Low u s
  unfolding low_grant
  owner_asks u l e = rw (l, e)

  pub owner_absent : (u : ℕ) → lock ≡ Some u → contains low u ≡ false → low_grant lock low s ≡ nobody s
  unfolding low_grant
  owner_absent u l e = rw (l, e)

  pub free_empty : lock ≡ None → low ≡ 0 → low_grant lock low s ≡ nobody s
  unfolding low_grant
  free_empty l e = rw (l, eq-eqb low 0 e)

  pub free_by_turn : lock ≡ None → (low ≡ 0 → ⊥) → low_grant lock low s ≡ by_turn Low low s
  unfolding low_grant
  free_by_turn l n = rw (l, ne_eqb low 0 n)

-- a turn: the first member met, if there is one

turn_some : (set last u : ℕ) → turn set last ≡ Some u → (eqb set 0 ≡ false) × (first_met set last ≡ u)
unfolding turn
turn_some set last u = on (eqb set 0)
  where
    on : (t : Bool) → cond t None (Some (first_met set last)) ≡ Some u → (t ≡ false) × (first_met set last ≡ u)
    on true e = let z : ◌≡◌ {A = ℕ} 0 1 = cc in absurd (omega arith)
    on false e = (refl, cc)

turn_nothing : (set last : ℕ) → turn set last ≡ None → eqb set 0 ≡ true
unfolding turn
turn_nothing set last = on (eqb set 0)
  where
    on : (t : Bool) → cond t None (Some (first_met set last)) ≡ None → t ≡ true
    on true e = refl
    on false e = let z : ◌≡◌ {A = ℕ} 0 1 = cc in absurd (omega arith)

-- the grant that the code makes, case by case

module _ (low : ℕ) (s : State) where
  pub gives_owner : (u : ℕ) → s.lock ≡ Some u → contains low u ≡ true → answered (to Low u) s ≡ low_grant s.lock low s
  unfolding answered
  gives_owner u l e = sym (owner_asks s.lock low s u l e)

  pub gives_no_other : (u : ℕ) → s.lock ≡ Some u → contains low u ≡ false → answered None s ≡ low_grant s.lock low s
  unfolding answered
  gives_no_other u l e = sym (owner_absent s.lock low s u l e)

  pub gives_low : (u : ℕ) → s.lock ≡ None → turn low s.last_low ≡ Some u → answered (to Low u) s ≡ low_grant s.lock low s
  unfolding answered by_turn last_unit
  gives_low u l e =
      let t = turn_some low s.last_low u e in
      sym (free_by_turn s.lock low s l (eqb-false low 0 t.0) ∙ ap (λ v. granted Low v s) t.1)

  pub gives_no_low : s.lock ≡ None → turn low s.last_low ≡ None → answered None s ≡ low_grant s.lock low s
  unfolding answered
  gives_no_low l e = sym (free_empty s.lock low s l (eqb-true low 0 (turn_nothing low s.last_low e)))

module _ (high low : ℕ) (s : State) where
  pub gives_high : (u : ℕ) → turn high s.last_high ≡ Some u → answered (to High u) s ≡ grant_next high low s
  unfolding answered grant_next by_turn last_unit
  gives_high u e = let t = turn_some high s.last_high u e in rw (t.0, t.1)

  pub gives_next : turn high s.last_high ≡ None → low_grant s.lock low s ≡ grant_next high low s
  unfolding grant_next
  gives_next e = rw (turn_nothing high s.last_high e)

-- the call that the code makes, case by case

module _ (s : State) (high low : ℕ) (lck : Bool) where
  pub tells_refused : allowed s high low ≡ false → told (Err BadState) s ≡ arbitration s high low lck
  unfolding told arbitration refused
  tells_refused e = rw e

  pub tells_granted : (g : Grant) → allowed s high low ≡ true → answered (Some g) (locked lck s) ≡ grant_next high low (locked lck s)
      → told (Ok (Some g)) (moved g.class g.unit (locked lck s)) ≡ arbitration s high low lck
  unfolding told arbitration answered granted
  tells_granted g e h = rw e h

  pub tells_nobody : allowed s high low ≡ true → answered None (locked lck s) ≡ grant_next high low (locked lck s)
      → told (Ok None) (locked lck s) ≡ arbitration s high low lck
  unfolding told arbitration answered nobody
  tells_nobody e h = rw e h

-- the whole call: the answers that there are, each with what led to it

-- why unit u has the bus in class c
pub record Chosen (s : State) (high low : ℕ) (lck : Bool) (c : Class) (u : ℕ) : Type 0 where
  pub is_unit_lem : u ≤ 7
  pub asks : contains (requests c high low) u ≡ true
  pub high_first : c ≡ Low → high ≡ 0
  pub owner_only : c ≡ Low → (o : ℕ) → (locked lck s).lock ≡ Some o → u ≡ o
  pub nearest : (c ≡ Low → (locked lck s).lock ≡ None) → (v : ℕ) → v ≤ 7 → contains (requests c high low) v ≡ true →
      distance (last_unit c s) u ≤ distance (last_unit c s) v

pub data Ruling (s : State) (high low : ℕ) (lck : Bool) : Arbitration → Type 0 where
  refusing : allowed s high low ≡ false → Ruling s high low lck (refused s)
  granting : (c : Class) (u : ℕ) → allowed s high low ≡ true → Chosen s high low lck c u → Ruling s high low lck (granted c u (locked lck s))
  nothing_to_grant : allowed s high low ≡ true → high ≡ 0 → ((o : ℕ) → (locked lck s).lock ≡ Some o → contains low o ≡ false) →
      ((locked lck s).lock ≡ None → low ≡ 0) → Ruling s high low lck (nobody (locked lck s))

module _ (s : State) (high low : ℕ) (lck : Bool) (ok : allowed s high low ≡ true) where
  -- a turn, in either class
  by_turn_lem : (c : Class) → (requests c high low ≡ 0 → ⊥) → (c ≡ Low → (high ≡ 0) × ((locked lck s).lock ≡ None)) →
      Ruling s high low lck (by_turn c (requests c high low) (locked lck s))
  unfolding by_turn
  by_turn_lem c some l =
      rw (last_locked c lck s)
      (granting c (first_met (requests c high low) (last_unit c s)) ok
      record {
        is_unit_lem = first_met_unit _ _;
        asks = first_met_member _ _ (requests_allowed s high low ok c) last some;
        high_first = λ m. (l m).0;
        owner_only = λ m o k. let f : (locked lck s).lock ≡ None = (l m).1 in let z : ◌≡◌ {A = ℕ} 0 1 = cc in absurd (omega arith);
        nearest = λ f v hv e. first_met_nearest _ _ v last hv e;
      })
    where
      last : last_unit c s ≤ 7
      last = last_allowed s (call_state_allowed s high low ok) c

  -- under a lock
  by_owner : (o : ℕ) → high ≡ 0 → (locked lck s).lock ≡ Some o → (t : Bool) → contains low o ≡ t →
      Ruling s high low lck (cond t (granted Low o (locked lck s)) (nobody (locked lck s)))
  unfolding requests
  by_owner o hz l true e =
      granting Low o ok
      record {
        is_unit_lem = owner_allowed o (ap lock_allowed (sym l) ∙ lock_allowed_lem (locked lck s) (locked_allowed lck s (call_state_allowed s high low ok)));
        asks = e;
        high_first = λ m. hz;
        owner_only = λ m v k. cc;
        nearest = λ f v hv k. let g : (locked lck s).lock ≡ None = f refl in let z : ◌≡◌ {A = ℕ} 0 1 = cc in absurd (omega arith);
      }
  by_owner o hz l false e =
      nothing_to_grant ok hz (λ v m. let q : v ≡ o = cc in rw q e) (λ m. let z : ◌≡◌ {A = ℕ} 0 1 = cc in absurd (omega arith))

  -- with no lock
  by_free : high ≡ 0 → (locked lck s).lock ≡ None → (t : Bool) → eqb low 0 ≡ t →
      Ruling s high low lck (cond t (nobody (locked lck s)) (by_turn Low low (locked lck s)))
  unfolding requests
  by_free hz l true e = nothing_to_grant ok hz (λ v m. let z : ◌≡◌ {A = ℕ} 0 1 = cc in absurd (omega arith)) (λ m. eqb-true low 0 e)
  by_free hz l false e = by_turn_lem Low (eqb-false low 0 e) (λ m. (hz, l))

  by_lock : high ≡ 0 → (lock : Option ℕ) → (locked lck s).lock ≡ lock → Ruling s high low lck (low_grant lock low (locked lck s))
  unfolding low_grant
  by_lock hz None l = by_free hz l (eqb low 0) refl
  by_lock hz (Some o) l = by_owner o hz l (contains low o) refl

  by_high : (t : Bool) → eqb high 0 ≡ t → Ruling s high low lck (cond t (low_grant (locked lck s).lock low (locked lck s)) (by_turn High high (locked lck s)))
  unfolding requests
  by_high true e = by_lock (eqb-true high 0 e) (locked lck s).lock refl
  by_high false e = by_turn_lem High (eqb-false high 0 e) (λ m. let z : ◌≡◌ {A = ℕ} 0 1 = cc in absurd (omega arith))

pub ruling : (s : State) (high low : ℕ) (lck : Bool) → Ruling s high low lck (arbitration s high low lck)
unfolding arbitration grant_next
ruling s high low lck = on (allowed s high low) refl
  where
    on : (t : Bool) → allowed s high low ≡ t → Ruling s high low lck (cond t (grant_next high low (locked lck s)) (refused s))
    on true e = by_high s high low lck e (eqb high 0) refl
    on false e = refusing e
