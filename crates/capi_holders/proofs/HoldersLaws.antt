-- Set and count are those of the block that was asked for.
use Prim.Native.Nat.{ℕ, ◌≤◌}
use mathlib.Core.Path.{◌≡◌, refl, sym, ap, ◌∙◌}
use mathlib.Core.Bool.{Bool, true, false, cond}
use mathlib.Core.List.{List}
use mathlib.Core.Logic.{⊎_elim}
use native.Mathlib.Omega.{arith}
use lib.Dec.{leb, eqb}
use borrow.Author.Tests.{eq-eqb, ne_eqb, leb-true}
use Rattle.order.specs.Refusal.{first_refusal}
use Rattle.coherence.specs.declared.Directory.{Directory}
use Rattle.coherence.specs.Slots.{sound}
use Rattle.coherence.specs.Refusal.{is_block, directory_test, target_test}
use Rattle.coherence.proofs.Cases.{true_or_false}
use Rattle.crossing.specs.Capped.{capped}
use Rattle.crossing.proofs.CappedLaws.{caps}
use Rattle.layout.specs.Directory.{decoded}
use Rattle.holders.specs.Holders.{HoldersAnswer, holders_refusal, holders_answer}
use Rattle.capi_holders.specs.Holders.{asked, holders_returned, set_left, count_left, Says}

-- the number in a byte passes the test as the number itself does
same_refusal : (d : Directory) (b : ℕ) → holders_refusal d (capped 255 b) ≡ holders_refusal d b
unfolding holders_refusal first_refusal target_test is_block
same_refusal d b = rw ((caps 255).tested 63 b (omega arith)) refl

-- above block 63 it is refused
refuses : (d : Directory) (b : ℕ) → leb b 63 ≡ false → eqb (holders_refusal d b) 0 ≡ false
unfolding holders_refusal first_refusal directory_test target_test is_block
refuses d b e = rw e (go (sound d))
  where
    go : (t : Bool) → eqb (cond t 4 2) 0 ≡ false
    go true = refl
    go false = refl

-- so the answer is the same: refused it does not hang on the block, and accepted the byte is the number
same_answer : (d : Directory) (b : ℕ) → holders_answer d (capped 255 b) ≡ holders_answer d b
unfolding holders_answer
same_answer d b = ⊎_elim
    (λ (q : leb b 63 ≡ true).
    let l : b ≤ 63 = leb-true b 63 q in
    let e : capped 255 b ≡ b = (caps 255).keeps b (omega arith) in
    ap (holders_answer d) e)
    (λ (q : leb b 63 ≡ false). rw (same_refusal d b, refuses d b q) refl)
    (true_or_false (leb b 63))

pub says : (d : List ℕ) (b s n : ℕ) → Says d b s n
unfolding holders_returned set_left count_left asked
says d b s n =
    let e : holders_answer (decoded d) (capped 255 b) ≡ holders_answer (decoded d) b = same_answer (decoded d) b in
    record {
      returned = ap (λ (r : HoldersAnswer). r.refusal) e;
      set = λ q. rw (eq-eqb (holders_answer (decoded d) (capped 255 b)).refusal 0 q) (ap (λ (r : HoldersAnswer). r.set) e);
      count = λ q. rw (eq-eqb (holders_answer (decoded d) (capped 255 b)).refusal 0 q) (ap (λ (r : HoldersAnswer). r.count) e);
      stays = λ q. (rw (ne_eqb (holders_answer (decoded d) (capped 255 b)).refusal 0 q), rw (ne_eqb (holders_answer (decoded d) (capped 255 b)).refusal 0 q));
    }

-- what is handed over of the answer r
pub refused_leaves : (d : List ℕ) (b s n : ℕ) (r : HoldersAnswer) → r ≡ asked d b → (r.refusal ≡ 0 → ⊥)
    → (r.refusal ≡ holders_returned d b) × (s ≡ set_left d b s) × (n ≡ count_left d b n)
unfolding holders_returned set_left count_left
refused_leaves d b s n r e h =
    let q : eqb (asked d b).refusal 0 ≡ false = ap (λ (x : HoldersAnswer). eqb x.refusal 0) (sym e) ∙ ne_eqb r.refusal 0 h in
    (ap (λ (x : HoldersAnswer). x.refusal) e, rw q, rw q)

pub accepted_leaves : (d : List ℕ) (b s n : ℕ) (r : HoldersAnswer) → r ≡ asked d b → r.refusal ≡ 0
    → (0 ≡ holders_returned d b) × (r.set ≡ set_left d b s) × (r.count ≡ count_left d b n)
unfolding holders_returned set_left count_left
accepted_leaves d b s n r e h =
    let q : eqb (asked d b).refusal 0 ≡ true = ap (λ (x : HoldersAnswer). eqb x.refusal 0) (sym e) ∙ eq-eqb r.refusal 0 h in
    (sym h ∙ ap (λ (x : HoldersAnswer). x.refusal) e, rw q (ap (λ (x : HoldersAnswer). x.set) e), rw q (ap (λ (x : HoldersAnswer). x.count) e))
