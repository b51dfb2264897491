-- Calls of which a unit that stays needs eight, by computation.
use Prim.Native.Nat.{ℕ}
use mathlib.Core.Path.{◌≡◌, refl}
use native.Mathlib.Omega.{arith}
use Rattle.handler.specs.declared.Class.{Class}
use Rattle.handler.specs.declared.Class.TheVariants.{High, Low}
use Rattle.handler.specs.Handler.{granted_in, last_unit, requests, unit_granted, lock_next, locked, met, passed, first_met, moved, granted, nobody, by_turn, low_grant, grant_next, lock_allowed, state_allowed, sets_allowed, allowed, refused, arbitration, initial}
use Rattle.numeric.specs.Bits.{bit_at, contains}
use Rattle.handler.specs.Waiting.{answer, calls, is_accepted, asks, is_grant, is_grant_to, is_unlocked, is_clear, only, each, granted_among, Stays, everyone, eight_calls, TightCalls, low_grants_apart, calls_apart, EightIsTight}

pub eight_is_tight : EightIsTight
unfolding eight_calls low_grants_apart calls_apart everyone calls answer is_accepted asks is_grant is_grant_to is_unlocked is_clear only each granted_among Stays last_unit requests bit_at contains granted_in unit_granted lock_next locked met passed first_met moved granted nobody by_turn low_grant grant_next lock_allowed state_allowed sets_allowed allowed refused arbitration initial
eight_is_tight = record {
  calls = each_class;
  apart = record { accepts = refl; grants = refl; unlocked = refl; locked = refl; stays = refl; not_in_seven = refl; in_eight = refl };
}
  where
    each_class : (c : Class) → TightCalls c
    each_class High = record {
      eight = refl;
      accepts = refl;
      grants = refl;
      clear = λ e. let z : ◌≡◌ {A = ℕ} 0 1 = cc in absurd (omega arith);
      stays = refl;
      not_in_seven = refl;
      in_eight = refl;
    }
    each_class Low = record { eight = refl; accepts = refl; grants = refl; clear = λ e. refl; stays = refl; not_in_seven = refl; in_eight = refl }
