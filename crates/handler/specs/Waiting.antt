-- "Nobody waits forever" (document 02, T-09): what is claimed of a list of calls of any length, once for both classes of request.
use Rattle.std.specs.Prelude.{ℕ, zero, suc, ◌≤◌, ◌≡◌, Bool, true, false, cond, ◌&&◌, ◌||◌, List, [], ◌∷◌, length, replicate, eqb}
use Rattle.std.specs.Option.{option_map_or, is_none, is_some}
use Rattle.order.specs.Refusal.{accepted}
use Rattle.handler.specs.declared.Class.{Class}
use Rattle.handler.specs.declared.Class.TheVariants.{High, Low}
use Rattle.handler.specs.declared.State.{State}
use Rattle.handler.specs.Handler.{Arbitration, requests, unit_granted, state_allowed, sets_allowed, arbitration, initial}
use Rattle.numeric.specs.Bits.{contains}

-- ---- a list of calls

-- "Input: two sets of units 0 to 7, RQH and RQL, and whether LCK is asserted" (document 01, "The bus handler")
pub record Input : Type 0 where
  pub high : ℕ
  pub low : ℕ
  pub lck : Bool

-- one call: the state that it gets, and its input
pub record Call : Type 0 where
  pub state : State
  pub input : Input

unfoldable pub answer : Call → Arbitration
answer k = arbitration k.state k.input.high k.input.low k.input.lck

-- "each call getting what the last left"
unfoldable pub calls : State → List Input → List Call
calls s [] = []
calls s (i ∷ is) = record { state = s; input = i } ∷ calls (answer record { state = s; input = i }).state is

-- ---- what is asked about one call

unfoldable pub is_accepted : Call → Bool
is_accepted k = eqb (answer k).refusal accepted

-- unit u is in the request set of class c
unfoldable pub asks : Class → ℕ → Call → Bool
asks c u k = contains (requests c k.input.high k.input.low) u

-- the call gives a grant of class c
unfoldable pub is_grant : Class → Call → Bool
is_grant c k = is_some (unit_granted c (answer k).grant)

-- it gives it to unit u
unfoldable pub is_grant_to : Class → ℕ → Call → Bool
is_grant_to c u k = option_map_or (λ v. eqb v u) (unit_granted c (answer k).grant) false

-- no lock is held: the lock that a call leaves is the one that its grant was decided by
unfoldable pub is_unlocked : Call → Bool
is_unlocked k = is_none (answer k).state.lock

-- "RQH empty and no lock"
unfoldable pub is_clear : Call → Bool
is_clear k = eqb k.input.high 0 && is_unlocked k

-- ---- what is asked about a list

module _ {A : Type 0} where
  -- its members that pass a test
  unfoldable pub only : (A → Bool) → List A → List A
  only t [] = []
  only t (x ∷ xs) = cond (t x) (x ∷ only t xs) (only t xs)

  -- each of its members passes a test
  unfoldable pub each : (A → Bool) → List A → Bool
  each t [] = true
  each t (x ∷ xs) = t x && each t xs

-- one of its first n calls grants class c to unit u
unfoldable pub granted_among : ℕ → Class → ℕ → List Call → Bool
granted_among zero c u ks = false
granted_among (suc n) c u [] = false
granted_among (suc n) c u (k ∷ ks) = is_grant_to c u k || granted_among n c u ks

-- ---- what is claimed

-- unit u is granted in class c within the first n of these calls, if there are n
unfoldable pub Within : ℕ → Class → ℕ → List Call → Type 0
Within n c u ks = n ≤ length ks → granted_among n c u ks ≡ true

-- "a unit that stays in RQH", "in RQL": it is in the set at each accepted call
unfoldable pub Stays : Class → ℕ → List Call → Type 0
Stays c u ks = each (asks c u) (only is_accepted ks) ≡ true

pub record Bounded (c : Class) (u : ℕ) (ks : List Call) : Type 0 where
  -- within eight grants of its class; the low class, "if no lock is held during them". Other calls aren't counted, and a lock held at them doesn't matter
  pub within_grants : (c ≡ Low → each is_unlocked (only (is_grant c) ks) ≡ true) → Within 8 c u (only (is_grant c) ks)
  -- "within eight accepted calls"; the low class, "with RQH empty and no lock"
  pub within_calls : (c ≡ Low → each is_clear (only is_accepted ks) ≡ true) → Within 8 c u (only is_accepted ks)

-- "Nobody waits forever": from any state (from one that isn't accepted no call is), whatever the other units ask. A list may end anywhere, so a unit
-- needs to stay only until its grant
unfoldable pub BoundedWaiting : Type 0
BoundedWaiting = (c : Class) (s : State) (u : ℕ) (is : List Input) → u ≤ 7 → Stays c u (calls s is) → Bounded c u (calls s is)

-- "each accepted call is one": an accepted call in which some unit asks in class c gives a grant of class c; the low class, "with RQH empty and no lock"
unfoldable pub EachCallGrants : Type 0
EachCallGrants = (c : Class) (u : ℕ) (k : Call) → is_accepted k ≡ true → asks c u k ≡ true → (c ≡ Low → is_clear k ≡ true) → is_grant c k ≡ true

unfoldable pub has_sets_allowed : Input → Bool
has_sets_allowed i = sets_allowed i.high i.low

-- refused calls change nothing and don't count: from an accepted state, the accepted calls are those that there would be without the others
unfoldable pub RefusedDoNotCount : Type 0
RefusedDoNotCount = (s : State) (is : List Input) → state_allowed s ≡ true → only is_accepted (calls s is) ≡ calls s (only has_sets_allowed is)

-- ---- eight is tight

-- all units ask, in class c alone
unfoldable pub everyone : Class → Input
everyone High = record { high = 255; low = 0; lck = false }
everyone Low = record { high = 0; low = 255; lck = false }

unfoldable pub eight_calls : Class → List Call
eight_calls c = calls initial (replicate 8 (everyone c))

-- eight accepted calls, each a grant of the class and nothing in its way, in which unit 7 stays; it gets the eighth
pub record TightCalls (c : Class) : Type 0 where
  pub eight : length (eight_calls c) ≡ 8
  pub accepts : only is_accepted (eight_calls c) ≡ eight_calls c
  pub grants : only (is_grant c) (eight_calls c) ≡ eight_calls c
  pub clear : c ≡ Low → each is_clear (eight_calls c) ≡ true
  pub stays : each (asks c 7) (eight_calls c) ≡ true
  pub not_in_seven : granted_among 7 c 7 (eight_calls c) ≡ false
  pub in_eight : granted_among 8 c 7 (eight_calls c) ≡ true

-- n + 1 low grants, and after each but the last a refused call, a high grant under a lock, and a call under that lock that grants nobody
unfoldable pub low_grants_apart : ℕ → List Input
low_grants_apart zero = everyone Low ∷ []
low_grants_apart (suc n) =
    everyone Low
    ∷ record { high = 256; low = 0; lck = false }
    ∷ record { high = 1; low = 128; lck = true }
    ∷ record { high = 0; low = 128; lck = true }
    ∷ low_grants_apart n

unfoldable pub calls_apart : List Call
calls_apart = calls initial (low_grants_apart 7)

-- eight low grants among 22 accepted calls, in which unit 7 stays; it gets the eighth low grant
pub record TightApart : Type 0 where
  pub accepts : length (only is_accepted calls_apart) ≡ 22
  pub grants : length (only (is_grant Low) calls_apart) ≡ 8
  pub unlocked : each is_unlocked (only (is_grant Low) calls_apart) ≡ true
  pub locked : each is_unlocked (only is_accepted calls_apart) ≡ false
  pub stays : Stays Low 7 calls_apart
  pub not_in_seven : granted_among 7 Low 7 (only (is_grant Low) calls_apart) ≡ false
  pub in_eight : granted_among 8 Low 7 (only (is_grant Low) calls_apart) ≡ true

pub record EightIsTight : Type 0 where
  pub calls : (c : Class) → TightCalls c
  pub apart : TightApart
