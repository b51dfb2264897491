-- Nobody waits forever: the distance of a unit that stays falls at each turn of another unit, and no other call changes it.
use Prim.Native.Nat.{ℕ, zero, suc, ◌<◌, ◌≤◌}
use mathlib.Core.Path.{◌≡◌, refl, sym, ◌∙◌, ap}
use mathlib.Core.Bool.{Bool, true, false, or-true, false≢true}
use mathlib.Core.Logic.{⊎_elim}
use mathlib.Core.List.{List, [], ◌∷◌}
use native.Mathlib.Omega.{arith}
use borrow.Author.Tests.{eq-eqb}
use Rattle.handler.specs.declared.Class.{Class}
use Rattle.handler.specs.declared.Class.TheVariants.{Low}
use Rattle.handler.specs.declared.State.{State}
use Rattle.handler.specs.Handler.{last_unit, distance, allowed, state_allowed}
use Rattle.handler.specs.Waiting.{Input, Call, answer, calls, is_accepted, asks, is_grant, is_grant_to, is_unlocked, is_clear, only, each, granted_among, Within, Stays, BoundedWaiting, EachCallGrants, has_sets_allowed, RefusedDoNotCount}
use Rattle.handler.proofs.Lists.{only_passed, only_failed, each_parts}
use Rattle.handler.proofs.RoundRobin.{distance_small}
use Rattle.handler.proofs.HandlerLaws.{accepted_allowed, refused_leaves, stays_allowed}
use Rattle.handler.proofs.WaitingCall.{Turn, Nearer, grant_accepted, last_stays, granted_or_nearer, clear_parts, each_call_grants}

-- ---- the first n calls that count, for a unit at a distance below n

module _ (c : Class) (u : ℕ) (hu : u ≤ 7) where
  turn_before : (k : Call) (ks : List Call) → Turn c u k → ((n : ℕ) → distance (last_unit c (answer k).state) u < n → Within n c u ks) →
      (n : ℕ) → distance (last_unit c k.state) u < n → Within n c u (k ∷ ks)
  unfolding Within granted_among
  turn_before k ks h later zero d l = absurd (omega arith)
  turn_before k ks h later (suc n) d l =
      ⊎_elim (λ (g : is_grant_to c u k ≡ true). rw g refl)
      (λ (x : Nearer c u k). rw (later n (omega arith) (omega arith)) (or-true (is_grant_to c u k)))
      (granted_or_nearer k c u hu h)

  -- the calls that pass t count. No other gives a grant of the class, and each is a turn if it passes p (in the low class) and the unit asks
  module _ (t p : Call → Bool) (no_other : (k : Call) → t k ≡ false → is_grant c k ≡ false)
      (is_turn : (k : Call) → t k ≡ true → (c ≡ Low → p k ≡ true) → (is_accepted k ≡ true → asks c u k ≡ true) → Turn c u k) where
    call_before : (k : Call) (ks : List Call) → (t k ≡ true → Turn c u k) → ((n : ℕ) → distance (last_unit c (answer k).state) u < n → Within n c u (only t ks)) →
        (n : ℕ) → distance (last_unit c k.state) u < n → Within n c u (only t (k ∷ ks))
    call_before k ks h later n d = on (t k) refl
      where
        on : (b : Bool) → t k ≡ b → Within n c u (only t (k ∷ ks))
        on true e = rw (only_passed t k ks e) (turn_before k (only t ks) (h e) later n d)
        on false e = rw (only_failed t k ks e) (later n (rw (last_stays k c (no_other k e)) d))

    within_distance : (is : List Input) (s : State) → (c ≡ Low → each p (only t (calls s is)) ≡ true) → Stays c u (calls s is) →
        (n : ℕ) → distance (last_unit c s) u < n → Within n c u (only t (calls s is))
    unfolding calls only Within Stays
    within_distance [] s free stays = λ n d l. absurd (omega arith)
    within_distance (i ∷ is) s free stays =
        let k : Call = record { state = s; input = i } in
        let ks : List Call = calls (answer k).state is in
        call_before k ks (λ e. is_turn k e (λ l. (each_parts t k ks p (free l)).0 e) (each_parts is_accepted k ks (asks c u) stays).0)
        (within_distance is (answer k).state (λ l. (each_parts t k ks p (free l)).1) (each_parts is_accepted k ks (asks c u) stays).1)

    within_units : (is : List Input) (s : State) → (c ≡ Low → each p (only t (calls s is)) ≡ true) → Stays c u (calls s is) →
        (n : ℕ) → 7 < n → Within n c u (only t (calls s is))
    within_units is s free stays n l = within_distance is s free stays n (omega (arith, distance_small (last_unit c s) u))

pub bounded_waiting : BoundedWaiting
unfolding BoundedWaiting EachCallGrants
bounded_waiting c s u is hu stays = record {
  within_grants = λ free. within_units c u hu (is_grant c) is_unlocked (λ k e. e) grant_turn is s free stays _ (omega arith);
  within_calls = λ clear. within_units c u hu is_accepted is_clear refused_no_grant call_turn is s clear stays _ (omega arith);
}
  where
    grant_turn : (k : Call) → is_grant c k ≡ true → (c ≡ Low → is_unlocked k ≡ true) → (is_accepted k ≡ true → asks c u k ≡ true) → Turn c u k
    grant_turn k g f a = record { grant = g; unlocked = f; asked = a (grant_accepted k c g) }

    call_turn : (k : Call) → is_accepted k ≡ true → (c ≡ Low → is_clear k ≡ true) → (is_accepted k ≡ true → asks c u k ≡ true) → Turn c u k
    call_turn k e f a = record { grant = each_call_grants c u k e (a e) f; unlocked = λ l. (clear_parts k (f l)).1; asked = a e }

    refused_no_grant : (k : Call) → is_accepted k ≡ false → is_grant c k ≡ false
    refused_no_grant k e = on (is_grant c k) refl
      where
        on : (b : Bool) → is_grant c k ≡ b → is_grant c k ≡ false
        on true g = absurd (false≢true (sym e ∙ grant_accepted k c g))
        on false g = g

-- ---- refused calls

module _ (s : State) (i : Input) where
  set_too_large : has_sets_allowed i ≡ false → allowed s i.high i.low ≡ false
  unfolding has_sets_allowed allowed
  set_too_large e = rw e refl

  -- from an accepted state a call is accepted exactly if its sets are
  accepted_by_sets : state_allowed s ≡ true → is_accepted record { state = s; input = i } ≡ has_sets_allowed i
  unfolding is_accepted answer has_sets_allowed allowed
  accepted_by_sets ok = on (has_sets_allowed i) refl
    where
      on : (b : Bool) → has_sets_allowed i ≡ b → is_accepted record { state = s; input = i } ≡ has_sets_allowed i
      on true e = eq-eqb _ _ ((accepted_allowed _ _ _ _).1 (rw (e, ok) refl)) ∙ sym e
      on false e = rw (refused_leaves s i.high i.low i.lck (set_too_large e)).0 (sym e)

pub refused_do_not_count : RefusedDoNotCount
unfolding RefusedDoNotCount calls only answer
refused_do_not_count s [] ok = refl
refused_do_not_count s (i ∷ is) ok = on (has_sets_allowed i) refl (λ r. refused_do_not_count r is)
  where
    k : Call
    k = record { state = s; input = i }

    left : State
    left = (answer k).state

    on : (b : Bool) → has_sets_allowed i ≡ b → ((r : State) → state_allowed r ≡ true → only is_accepted (calls r is) ≡ calls r (only has_sets_allowed is)) →
        only is_accepted (k ∷ calls left is) ≡ calls s (only has_sets_allowed (i ∷ is))
    on true e later =
        only_passed is_accepted k (calls left is) (accepted_by_sets s i ok ∙ e)
        ∙ ap (λ ks. k ∷ ks) (later left (stays_allowed s _ _ _ ok))
        ∙ ap (calls s) (sym (only_passed has_sets_allowed i is e))
    on false e later =
        only_failed is_accepted k (calls left is) (accepted_by_sets s i ok ∙ e)
        ∙ rw (refused_leaves s i.high i.low i.lck (set_too_large s i e)).2 (later s ok)
        ∙ ap (calls s) (sym (only_failed has_sets_allowed i is e))
