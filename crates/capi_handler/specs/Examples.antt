-- Calls of the handler in the numbers of include/trainer.h, computed; all of them are different.
use Rattle.std.specs.Prelude.{ℕ, ◌≡◌, List, [], ◌∷◌}
use Rattle.capi_handler.specs.Arbitrate.{fresh_returned, fresh_state, arbitrate_returned, arbitrate_state, arbitrate_class, arbitrate_unit}

-- a call as its caller sees it: the number that it returns, how a unit was granted and which, and the state; the lent numbers were 90 and 91
unfoldable pub seen : List ℕ → ℕ → ℕ → ℕ → List ℕ
seen s high low lck =
    arbitrate_returned s high low lck ∷ arbitrate_class s high low lck 90 ∷ arbitrate_unit s high low lck 91 ∷ arbitrate_state s high low lck

pub record Examples : Type 0 where
  -- last high unit, last low unit, no owner
  pub fresh : fresh_state (1 ∷ 2 ∷ 3 ∷ 4 ∷ []) ≡ 7 ∷ 7 ∷ 8 ∷ 4 ∷ []
  pub fresh_short : (fresh_returned (1 ∷ 2 ∷ []) ≡ 9) × (fresh_state (1 ∷ 2 ∷ []) ≡ 1 ∷ 2 ∷ [])
  -- units 4 and 6 ask by RQH, unit 3 by RQL, LCK is asserted: unit 4 by RQH, and unit 5 owns the lock
  pub high : seen (2 ∷ 5 ∷ 8 ∷ 77 ∷ []) 80 8 1 ≡ 0 ∷ 1 ∷ 4 ∷ 4 ∷ 5 ∷ 5 ∷ 77 ∷ []
  -- unit 3 owns the lock and asks by RQL beside unit 6
  pub low : seen (2 ∷ 5 ∷ 3 ∷ []) 0 72 1 ≡ 0 ∷ 2 ∷ 3 ∷ 2 ∷ 3 ∷ 3 ∷ []
  -- nobody asks
  pub nobody : seen (2 ∷ 5 ∷ 3 ∷ []) 0 0 0 ≡ 0 ∷ 0 ∷ 0 ∷ 2 ∷ 5 ∷ 8 ∷ []
  -- an owner of 9, a set of 256, LCK of 2, and two numbers alone: refused, and all stays
  pub bad_owner : seen (2 ∷ 5 ∷ 9 ∷ []) 80 8 1 ≡ 10 ∷ 90 ∷ 91 ∷ 2 ∷ 5 ∷ 9 ∷ []
  pub bad_set : seen (2 ∷ 5 ∷ 8 ∷ []) 256 8 1 ≡ 10 ∷ 90 ∷ 91 ∷ 2 ∷ 5 ∷ 8 ∷ []
  pub bad_lck : seen (2 ∷ 5 ∷ 8 ∷ []) 80 8 2 ≡ 8 ∷ 90 ∷ 91 ∷ 2 ∷ 5 ∷ 8 ∷ []
  pub short : seen (2 ∷ 5 ∷ []) 80 8 2 ≡ 9 ∷ 90 ∷ 91 ∷ 2 ∷ 5 ∷ []
