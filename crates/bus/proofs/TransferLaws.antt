-- The plan of an accepted cycle by how many cycles come after it, the two ways to be refused, what lock changes, and that different answers are
-- told differently.
use Prim.Native.Nat.{ℕ, ◌+◌, ◌-◌, ◌≤◌, ◌<◌}
use mathlib.Core.Bool.{Bool, true, false, cond, ◌&&◌, and-false}
use mathlib.Core.Logic.{◌≢◌, ◌⊎◌, ⊎_elim}
use mathlib.Core.Path.{◌≡◌, refl, sym, ap, ◌∙◌}
use native.Mathlib.Omega.{arith}
use lib.Dec.{leb, eqb}
use borrow.Author.Tests.{le-leb, lt-leb}
use Rattle.std.specs.Prelude.{Result, Ok, Err}
use Rattle.order.specs.declared.Refusal.{Refusal}
use Rattle.order.specs.declared.Refusal.TheVariants.{FieldRange}
use Rattle.order.proofs.RefusalLaws.{refusal_one, number_pos}
use Rattle.numeric.specs.Range.{within}
use Rattle.bus.specs.declared.transfer.SignalPlan.{SignalPlan}
use Rattle.bus.specs.Transfer.{et_raised_at_request, plan_of, without_request, PlanAnswer, refused_plan, plan_told, PlansApart, LockChanges, RefusesPlan}
use Rattle.numeric.proofs.Cases.{le_or_lt}
use Rattle.numeric.proofs.RangeLaws.{within_in, within_under, within_over}

-- a cycle is one of 1 to n - k exactly where k more come after it
all_but : (n k cycle : ℕ) → 1 ≤ cycle → within 1 (n - k) cycle ≡ leb (cycle + k) n
all_but n k cycle l =
    ⊎_elim
    (λ (h : cycle + k ≤ n). within_in 1 (n - k) cycle l (omega arith) ∙ sym (le-leb (cycle + k) n h))
    (λ (h : n < cycle + k). within_over 1 (n - k) cycle (omega arith) ∙ sym (lt-leb (cycle + k) n h))
    (le_or_lt (cycle + k) n)

pub plan_accepted : (n cycle : ℕ) (locked : Bool) → n ≤ 64 → 1 ≤ cycle → cycle ≤ n
    → plan_of n cycle locked
    ≡ Ok record { bs = eqb cycle 1; bur = leb (cycle + 1) n; et = leb (cycle + 2) n; et_at_request = et_raised_at_request n locked }
unfolding plan_of
plan_accepted n cycle locked most from to =
    rw (within_in 1 64 n (omega arith) most, within_in 1 n cycle from to, all_but n 1 cycle from, all_but n 2 cycle from)

pub plan_no_transfer : (n cycle : ℕ) (locked : Bool) → within 1 64 n ≡ false → plan_of n cycle locked ≡ Err FieldRange
unfolding plan_of
plan_no_transfer n cycle locked e = rw e

pub plan_no_cycle : (n cycle : ℕ) (locked : Bool) → within 1 n cycle ≡ false → plan_of n cycle locked ≡ Err FieldRange
unfolding plan_of
plan_no_cycle n cycle locked e = rw (e, and-false (within 1 64 n))

-- two cycles or more raise ET with the request, locked or not
request_raised : (n : ℕ) (locked : Bool) → 2 ≤ n → et_raised_at_request n locked ≡ true
unfolding et_raised_at_request
request_raised n locked l = rw (le-leb 2 n l)

same_request : (n cycle : ℕ) → et_raised_at_request n true ≡ et_raised_at_request n false → plan_of n cycle true ≡ plan_of n cycle false
unfolding plan_of
same_request n cycle e = rw e

alike : (t : Bool) (p q r : Result SignalPlan Refusal) → without_request p ≡ without_request q → without_request (cond t p r) ≡ without_request (cond t q r)
alike true p q r e = e
alike false p q r e = refl

nothing_else_lem : (n cycle : ℕ) → without_request (plan_of n cycle true) ≡ without_request (plan_of n cycle false)
unfolding plan_of without_request
nothing_else_lem n cycle = alike (within 1 64 n && within 1 n cycle) _ _ _ refl

no_other_lem : (n cycle : ℕ) → n ≢ 1 → plan_of n cycle true ≡ plan_of n cycle false
no_other_lem n cycle ne =
    ⊎_elim
    (λ (h : 2 ≤ n). same_request n cycle (request_raised n true h ∙ sym (request_raised n false h)))
    (λ (h : n < 2).
    let e : within 1 64 n ≡ false = within_under 1 64 n (omega (arith, ne)) in
    plan_no_transfer n cycle true e ∙ sym (plan_no_transfer n cycle false e))
    (le_or_lt 2 n)

pub lock_changes : LockChanges
unfolding within plan_of et_raised_at_request
lock_changes = record { nothing_else = nothing_else_lem; no_other = no_other_lem; one = (refl, refl) }

-- the two ways to be refused, in the paper's numbers and field by field
outside : (most n : ℕ) → (n ≡ 0) ⊎ (most < n) → within 1 most n ≡ false
outside most n h = ⊎_elim (λ (e : n ≡ 0). within_under 1 most n (omega arith)) (λ (l : most < n). within_over 1 most n l) h

pub refuses_plan : RefusesPlan
unfolding plan_told refused_plan
refuses_plan = record {
  no_transfer = λ n cycle locked h. let e = plan_no_transfer n cycle locked (outside 64 n h) in (e, rw e, rw e);
  no_cycle = λ n cycle locked h. let e = plan_no_cycle n cycle locked (outside n cycle h) in (e, rw e, rw e);
}

pub plans_apart : PlansApart
unfolding PlansApart plan_told refused_plan
plans_apart (Ok p) (Ok q) e = ap (λ (x : PlanAnswer). Ok (record { bs = x.bs; bur = x.bur; et = x.et; et_at_request = x.et_at_request })) e
plans_apart (Ok p) (Err y) e = absurd (omega (arith, number_pos y, ap (λ (x : PlanAnswer). x.refusal) e))
plans_apart (Err x) (Ok q) e = absurd (omega (arith, number_pos x, ap (λ (z : PlanAnswer). z.refusal) e))
plans_apart (Err x) (Err y) e = ap Err (refusal_one x y (ap (λ (z : PlanAnswer). z.refusal) e))
