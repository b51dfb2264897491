-- Calls of the handler through the C interface follow on each other.
use Prim.Native.Nat.{ℕ}
use mathlib.Core.Path.{◌≡◌, refl, sym}
use mathlib.Core.Bool.{Bool, true, false}
use lib.ListN.{length, drop}
use lib.Dec.{leb, eqb}
use borrow.Author.Tests.{le-leb, eqb-true, eqb-false}
use Rattle.handler.specs.declared.State.{State}
use Rattle.handler.specs.Handler.{allowed, arbitration, refused as keeping}
use Rattle.handler.proofs.Allowed.{call_state_allowed}
use Rattle.handler.proofs.HandlerLaws.{accepted_allowed, stays_allowed}
use Rattle.crossing.specs.Capped.{capped}
use Rattle.capi_handler.specs.State.{state_from}
use Rattle.capi_handler.specs.Arbitrate.{arbitrated, arbitrate_returned, arbitrate_state, FollowsOn}
use Rattle.capi_handler.proofs.StateLaws.{inverse}

-- a refused call leaves the state
keeps : (s : State) (high low : ℕ) (lck : Bool) → ((arbitration s high low lck).refusal ≡ 0 → ⊥) → (arbitration s high low lck).state ≡ s
unfolding arbitration keeping
keeps s high low lck n = go (allowed s high low) refl
  where
    go : (t : Bool) → allowed s high low ≡ t → (arbitration s high low lck).state ≡ s
    go true e = absurd (n ((accepted_allowed s high low lck).1 e))
    go false e = rw e

pub follows_on : FollowsOn
unfolding FollowsOn arbitrate_state arbitrate_returned arbitrated
follows_on s high low lck h k = go (eqb (arbitrated s high low lck).refusal 0) refl
  where
    p : leb 3 (length s) ≡ true
    p = le-leb 3 (length s) h

    q : leb lck 1 ≡ true
    q = le-leb lck 1 k

    go : (t : Bool) → eqb (arbitrated s high low lck).refusal 0 ≡ t → state_from (arbitrate_state s high low lck) ≡ (arbitrated s high low lck).state
    go true e =
        let was = call_state_allowed (state_from s) (capped 65535 high) (capped 65535 low) ((accepted_allowed (state_from s) (capped 65535 high) (capped 65535 low) (eqb lck 1)).0 (eqb-true _ 0 e)) in
        rw (p, q, e)
        (inverse.back (arbitrated s high low lck).state (drop 3 s) (stays_allowed (state_from s) (capped 65535 high) (capped 65535 low) (eqb lck 1) was))
    go false e = rw (p, q, e) (sym (keeps (state_from s) (capped 65535 high) (capped 65535 low) (eqb lck 1) (eqb-false _ 0 e)))
