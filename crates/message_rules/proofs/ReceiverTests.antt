-- The receiver's tests in their order, and what an accepted operation has passed.
use Prim.Native.Nat.{ℕ, ◌+◌, ◌≤◌}
use mathlib.Core.Path.{◌≡◌, refl}
use mathlib.Core.Bool.{Bool, true, cond, ◌&&◌, and-eq-true_iff}
use mathlib.Core.List.{List, [], ◌∷◌}
use native.Mathlib.Omega.{arith}
use lib.Dec.{eqb, leb}
use lib.ListN.{length}
use lib.Seq.{sets}
use borrow.Author.Tests.{le-leb, eqb-true, leb-true}
use Rattle.order.specs.Refusal.{first_refusal}
use Rattle.order.proofs.RefusalLaws.{Passes, passed}
use Rattle.text.specs.Space.{placed}
use Rattle.text.proofs.SpaceLaws.{placed_room}
use Rattle.std.specs.Prelude.{Some, None}
use Rattle.message_rules.specs.Operation.{Operation, is_source}
use Rattle.message_rules.specs.Receiver.{Receiver, state_allowed, in_range, in_turn, is_expected, start_of, size_test, state_test, range_test, turn_test, source_test, room_test, receive_refusal}

-- the numbers in their order
pub receive_tests : (r : Receiver) (store : List ℕ) (o : Operation)
    → receive_refusal r store o
    ≡ cond (eqb (length store) 4096)
    (cond (state_allowed r)
    (cond (in_range o.sender o.aid (length o.bytes))
    (cond (in_turn r o.sequence)
    (cond (is_expected r o.sender o.aid)
    (cond (leb (start_of r + length o.bytes) 4096) 0 9)
    11)
    12)
    8)
    10)
    1
unfolding receive_refusal first_refusal size_test state_test range_test turn_test source_test room_test
receive_tests r store o = refl

-- ---- what single tests say

at_most : (t : Bool) (n k : ℕ) → (t && (leb 1 n && leb n k)) ≡ true → n ≤ k
at_most t n k e = leb-true n k ((and-eq-true_iff (leb 1 n) (leb n k)).0 ((and-eq-true_iff t (leb 1 n && leb n k)).0 e).1).1

pub size_small : (s a n : ℕ) → in_range s a n ≡ true → n ≤ 256
unfolding in_range
size_small s a n e = at_most (is_source s a) n 256 e

pub start_small : (r : Receiver) → state_allowed r ≡ true → start_of r ≤ 4096
unfolding state_allowed start_of
start_small None e = omega arith
start_small (Some m) e = at_most (is_source m.source.sender m.source.aid) m.count 4096 e

-- ---- an accepted operation

-- it passes each test
pub record Passed (r : Receiver) (store : List ℕ) (o : Operation) : Type 0 where
  pub size : length store ≡ 4096
  pub state : state_allowed r ≡ true
  pub range : in_range o.sender o.aid (length o.bytes) ≡ true
  pub turn : in_turn r o.sequence ≡ true
  pub source : is_expected r o.sender o.aid ≡ true
  pub room : start_of r + length o.bytes ≤ 4096

pub accepted_tests : (r : Receiver) (store : List ℕ) (o : Operation) → receive_refusal r store o ≡ 0 → Passed r store o
unfolding receive_refusal size_test state_test range_test turn_test source_test room_test
accepted_tests r store o e =
    let ts = size_test store ∷ state_test r ∷ range_test o ∷ turn_test r o ∷ source_test r o ∷ room_test r o ∷ [] in
    let p : Passes ts = passed ts refl e in
    record {
      size = eqb-true _ _ p.0;
      state = p.1.0;
      range = p.1.1.0;
      turn = p.1.1.1.0;
      source = p.1.1.1.1.0;
      room = leb-true _ _ p.1.1.1.1.1.0;
    }

-- so its bytes have room in the store
pub accepted_placed : (r : Receiver) (store : List ℕ) (o : Operation) (at : ℕ)
    → at ≡ start_of r → receive_refusal r store o ≡ 0 → placed store at o.bytes ≡ sets store (start_of r) o.bytes
accepted_placed r store o at q e =
    let f = accepted_tests r store o e in
    rw q (placed_room store (start_of r) o.bytes (le-leb (start_of r + length o.bytes) (length store) (omega arith)))
