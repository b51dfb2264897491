-- The loop over the list: what holds before each turn.
use Prim.Native.Nat.{ℕ, ◌+◌, ◌*◌, ◌≤◌, ◌<◌}
use native.Mathlib.Numerals.{add-one}
use native.Mathlib.Omega.{arith}
use mathlib.Core.Path.{◌≡◌, refl, ap, sym, ◌∙◌}
use mathlib.Core.Bool.{Bool, true, false, cond, ◌&&◌}
use mathlib.Core.List.{List, ◌∷◌}
use lib.Dec.{leb}
use lib.ListN.{length, length-set, get_or, drop, set}
use lib.Seq.{drop-cons, drop-length}
use borrow.Author.Tests.{leb-true}
use Rattle.std.specs.Prelude.{Ok, Err}
use Rattle.order.specs.declared.Refusal.{Refusal}
use Rattle.order.specs.Refusal.{refusal_number}
use Rattle.coherence.specs.declared.Directory.{Directory}
use Rattle.coherence.specs.declared.Accepted.{Accepted}
use Rattle.coherence.specs.Calls.{answer, memory_after, cache_after, told as told_call}
use Rattle.batch_rules.specs.declared.Access.{Access}
use Rattle.batch_rules.specs.declared.Outcome.{Outcome as Answered}
use Rattle.batch_rules.specs.Outcome.{Outcome, told}
use Rattle.batch_rules.specs.Batch.{Batch, batch, ran, none, opened, batch_result}
use Rattle.batch_rules.proofs.RanLaws.{answered_few, ran_none, ran_still, ran_refused, ran_accepted}
use Rattle.order.proofs.RefusalLaws.{number_not_0}

-- so many accesses made, and none refused
abbrev pub accepted : ℕ → ℕ → Directory → Outcome
accepted index orders d = record { refusal = 0; index = index; orders = orders; directory = d }

-- before a turn: what is left of the list ys comes to w, the result of the whole
pub record Underway (ys : List Access) (w : Batch) (i orders : ℕ) (d : Directory) (vs m k : List ℕ) : Type 0 where
  pub same : ran (accepted i orders d) vs m k (drop i ys) ≡ w
  pub few : orders ≤ 4 * i
  pub short : length ys ≤ 65536
  pub room : length ys ≤ length vs

module _ {ys : List Access} {w : Batch} {i orders : ℕ} {d : Directory} {vs m k : List ℕ} (u : Underway ys w i orders d vs m k) where
  -- the next access; x stands for the places past the list's end, which no turn reads
  module _ (x : Access) (l : i < length ys) (m' k' : List ℕ) (em : m' ≡ memory_after d m k (get_or ys i x).call) (ek : k' ≡ cache_after d m k (get_or ys i x).call) where
    abbrev a : Access
    a = get_or ys i x

    rest : drop i ys ≡ a ∷ drop (i + 1) ys
    rest = drop-cons ys i x l ∙ ap (λ (n : ℕ). a ∷ drop n ys) (sym (add-one i))

    pub four : (r : Accepted) → told_call d (Ok r) ≡ answer d m k a.call → r.orders.count ≤ 4
    four r e = answered_few (told_call d (Ok r)) d m k a.call e

    pub next : (r : Accepted) → told_call d (Ok r) ≡ answer d m k a.call → Underway ys w (i + 1) (orders + r.orders.count) r.directory (set vs i r.value) m' k'
    next r e =
        record {
          same = sym (ran_accepted a (accepted i orders d) vs m k (told_call d (Ok r)) m' k' (drop (i + 1) ys) refl e em ek refl) ∙ ap (ran (accepted i orders d) vs m k) (sym rest) ∙ u.same;
          few = omega (arith, u.few, four r e);
          short = u.short;
          room = simp length-set u.room;
        }

    pub stops : (refusal : Refusal) → told_call d (Err refusal) ≡ answer d m k a.call
        → batch (record { refusal = refusal_number refusal; index = i; orders = orders; directory = d }) vs m' k' ≡ w
    stops refusal e =
        let s : Outcome = record { refusal = refusal_number refusal; index = i; orders = orders; directory = d } in
        sym (ran_still s vs m' k' (drop (i + 1) ys) (number_not_0 refusal))
        ∙ sym (ran_refused a (accepted i orders d) vs m k (told_call d (Err refusal)) m' k' (drop (i + 1) ys) refl e em ek (number_not_0 refusal))
        ∙ ap (ran (accepted i orders d) vs m k) (sym rest)
        ∙ u.same

  -- no access is left
  pub ends : i ≡ length ys → batch (accepted i orders d) vs m k ≡ w
  ends e = sym (ran_none (accepted i orders d) vs m k) ∙ ap (ran (accepted i orders d) vs m k) (sym (ap (λ (x : ℕ). drop x ys) e ∙ drop-length ys)) ∙ u.same

-- the whole list, on the outcome before its first access
module _ (ys : List Access) (d : Directory) (vs m k : List ℕ) (r : Answered) (is : told r ≡ opened d (length ys) (length vs)) where
  pub closed : (r.refusal ≡ 0 → ⊥) → batch (told r) vs m k ≡ batch_result ys vs d m k
  unfolding batch_result told
  closed e = rw (← is) (sym (ran_still (told r) vs m k ys e))

  pub begun : r.refusal ≡ 0 → Underway ys (batch_result ys vs d m k) 0 0 d vs m k
  unfolding opened none batch_result told
  begun e = go (leb (length ys) 65536) (leb (length ys) (length vs)) refl refl (ap (λ (s : Outcome). s.refusal) (sym is) ∙ e)
    where
      go : (s t : Bool) → leb (length ys) 65536 ≡ s → leb (length ys) (length vs) ≡ t → ◌≡◌ {A = ℕ} (cond (s && t) 0 9) 0
          → Underway ys (ran (none (cond (s && t) 0 9) d) vs m k ys) 0 0 d vs m k
      go true true e f z = record { same = refl; few = omega arith; short = leb-true _ _ e; room = leb-true _ _ f }
      go true false e f z = absurd (omega (arith, z))
      go false t e f z = absurd (omega (arith, z))
