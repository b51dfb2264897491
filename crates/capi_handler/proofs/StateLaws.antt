-- The handler's states and their numbers determine each other.
use Prim.Native.Nat.{ℕ, ◌≤◌}
use mathlib.Core.Path.{◌≡◌, ap, ◌∙◌}
use mathlib.Core.Bool.{true}
use mathlib.Core.List.{List, [], ◌∷◌, ◌++◌}
use native.Mathlib.Omega.{arith}
use lib.ListN.{length, take}
use Rattle.handler.specs.declared.Class.TheVariants.{High, Low}
use Rattle.std.specs.Prelude.{Option}
use Rattle.handler.specs.declared.State.{State}
use Rattle.handler.specs.Handler.{last_unit, state_allowed}
use Rattle.handler.proofs.Allowed.{last_allowed, lock_allowed_lem}
use Rattle.crossing.specs.Capped.{capped}
use Rattle.capi_handler.proofs.LockLaws.{byte, uncapped, lock_back, lock_forth}
use Rattle.capi_handler.specs.State.{lock_number, lock_from, state_numbers, state_of, state_from, Inverse}

back : (s : State) (t : List ℕ) → state_allowed s ≡ true → state_from (state_numbers s ++ t) ≡ s
unfolding state_from state_of state_numbers last_unit
back s t ok =
    ap (λ (x : ℕ). record { last_high = x; last_low = capped 255 s.last_low; lock = lock_from (lock_number s.lock) }) (byte s.last_high (last_allowed s ok High))
    ∙ ap (λ (x : ℕ). record { last_high = s.last_high; last_low = x; lock = lock_from (lock_number s.lock) }) (byte s.last_low (last_allowed s ok Low))
    ∙ ap (λ (x : Option ℕ). record { last_high = s.last_high; last_low = s.last_low; lock = x }) (lock_back s.lock (lock_allowed_lem s ok))

forth : (l : List ℕ) → 3 ≤ length l → state_allowed (state_from l) ≡ true → state_numbers (state_from l) ≡ take 3 l
unfolding state_from state_of state_numbers last_unit
forth (a ∷ b ∷ c ∷ l) h ok =
    let s : State = state_from (a ∷ b ∷ c ∷ l) in
    rw (uncapped a (last_allowed s ok High), uncapped b (last_allowed s ok Low), lock_forth c (lock_allowed_lem s ok))
forth [] h ok = absurd (omega arith)
forth (a ∷ []) h ok = absurd (omega arith)
forth (a ∷ b ∷ []) h ok = absurd (omega arith)

pub inverse : Inverse
inverse = record { back = back; forth = forth }
