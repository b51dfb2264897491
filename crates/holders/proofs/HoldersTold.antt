-- The call for a block's holders: what it gives is their set and their count, also after any list of calls; and its answer, test by test.
use mathlib.Core.Path.{◌≡◌, refl, sym, ap, ◌∙◌}
use mathlib.Core.Bool.{Bool, true, false, cond}
use mathlib.Core.List.{[], ◌∷◌}
use Prim.Native.Nat.{ℕ, ◌+◌, ◌*◌, ◌/◌, ◌%◌, ◌^◌, ◌≤◌, ◌<◌}
use native.Mathlib.Omega.{arith}
use lib.Dec.{eqb}
use borrow.Author.Tests.{eqb-true, eq-eqb, ne_eqb, leb-true, lt-leb}
use lib.Count.{ones}
use Rattle.order.specs.Flag.{flag}
use Rattle.order.specs.Refusal.{first_refusal}
use Rattle.order.proofs.FlagLaws.{flag_small}
use Rattle.order.proofs.RefusalLaws.{Passes, passed}
use Rattle.numeric.specs.Bits.{bit_at, contains, ones_below}
use Rattle.numeric.proofs.BitsLaws.{sum_same, ones_count}
use Rattle.coherence.specs.declared.Directory.{Directory}
use Rattle.coherence.specs.Slots.{place, slot_at, slot_of, holds, units_with, holders_of, held_by, sound}
use Rattle.coherence.specs.Refusal.{is_block, directory_test, target_test}
use Rattle.coherence.proofs.Cases.{four}
use Rattle.coherence.proofs.Rules.{sound_placed, sound_sets_lem}
use Rattle.coherence.proofs.Theorem.{block_true, session_sound}
use Rattle.holder_sets.proofs.SetLaws.{units_lt}
use Rattle.std.specs.Prelude.{Result, Ok, Err}
use Rattle.order.specs.declared.Refusal.{Refusal}
use Rattle.order.proofs.RefusalLaws.{refusal_one, number_pos}
use Rattle.holders.specs.declared.BlockHolders.{BlockHolders}
use Rattle.holders.specs.Holders.{HoldersAnswer, holders_refusal, holders_refused, holders_answer, told_holders, HoldersTellApart, HoldsBlock, TellsHolders, HoldersTold, HoldersKept, SaysRefused}

-- ---- a set of units
flag_is : (t : Bool) → eqb (flag t) 1 ≡ t
unfolding flag
flag_is true = refl
flag_is false = refl

-- the flag of unit u
bit_units : (f : ℕ → Bool) (u : ℕ) → u < 4 → bit_at u (units_with f) ≡ flag (f u)
unfolding bit_at units_with
bit_units f = four (λ u. units_with f / 2 ^ u % 2 ≡ flag (f u)) d.0 d.1 d.2 d.3
  where
    d : (units_with f / 1 % 2 ≡ flag (f 0)) × (units_with f / 2 % 2 ≡ flag (f 1)) × (units_with f / 4 % 2 ≡ flag (f 2)) × (units_with f / 8 % 2 ≡ flag (f 3))
    d =
        let h₀ : flag (f 0) ≤ 1 = flag_small (f 0) in
        let h₁ : flag (f 1) ≤ 1 = flag_small (f 1) in
        let h₂ : flag (f 2) ≤ 1 = flag_small (f 2) in
        let h₃ : flag (f 3) ≤ 1 = flag_small (f 3) in
        (omega arith, omega arith, omega arith, omega arith)

holders_bit : (d : Directory) (b u : ℕ) → u < 4 → bit_at u (holders_of d b) ≡ flag (holds (slot_at d (place u b)) b)
unfolding holders_of
holders_bit d b u l = bit_units (λ v. holds (slot_at d (place v b)) b) u l

holders_lt : (d : Directory) (b : ℕ) → holders_of d b < 16
unfolding holders_of
holders_lt d b = units_lt (λ u. holds (slot_at d (place u b)) b)

place_is : (u s b : ℕ) → s < 16 → b % 16 ≡ (16 * u + s) % 16 → place u b ≡ 16 * u + s
unfolding place
place_is u s b l q = omega arith

-- ---- the call
accepted_says : (d : Directory) (b : ℕ) → holders_refusal d b ≡ 0 → (sound d ≡ true) × (b ≤ 63)
unfolding holders_refusal directory_test target_test is_block
accepted_says d b e =
    let h : Passes (directory_test d ∷ target_test (is_block b) ∷ []) = passed (directory_test d ∷ target_test (is_block b) ∷ []) refl e in
    (h.0, leb-true b 63 h.1.0)

sound_accepted : (d : Directory) (b : ℕ) → sound d ≡ true → b ≤ 63 → holders_refusal d b ≡ 0
unfolding holders_refusal first_refusal directory_test target_test
sound_accepted d b s l = rw (s, block_true b l) refl

-- an accepted answer
gives : (d : Directory) (b : ℕ) → holders_refusal d b ≡ 0
    → holders_answer d b ≡ record { refusal = 0; set = holders_of d b; count = ones_below 4 (holders_of d b) }
unfolding holders_answer
gives d b e =
    let q = accepted_says d b e in
    rw (eq-eqb (holders_refusal d b) 0 e, sound_sets_lem d b q.0 (omega (arith, q.1))) refl

number_is : (d : Directory) (b : ℕ) → (holders_answer d b).refusal ≡ holders_refusal d b
unfolding holders_answer holders_refused
number_is d b = go (eqb (holders_refusal d b) 0) refl
  where
    go : (t : Bool) → eqb (holders_refusal d b) 0 ≡ t
        → (cond t (record { refusal = 0; set = held_by d b; count = ones_below 4 (held_by d b) }) (holders_refused (holders_refusal d b))).refusal ≡ holders_refusal d b
    go true e = sym (eqb-true (holders_refusal d b) 0 e)
    go false e = refl

told : (d : Directory) (b : ℕ) → holders_refusal d b ≡ 0 → TellsHolders d b
unfolding HoldsBlock slot_of contains ones_below
told d b e =
    record {
      units = rw set_is (holders_lt d b);
      enough = λ u l h.
          let q : (b ≤ 63) × (b % 16 ≡ (16 * u + h.0) % 16) = sound_placed d (16 * u + h.0) b sounds (omega arith) h.2 in
          let r : place u b ≡ 16 * u + h.0 = place_is u h.0 b h.1 q.1 in
          in_set u l ∙ rw r h.2;
      needed = λ u l c. (b % 16, omega arith, rw (place_is u (b % 16) b (omega arith) (omega arith)) at (sym (in_set u l) ∙ c));
      count =
          ap (λ (r : HoldersAnswer). r.count) (gives d b e)
          ∙ sum_same 4 (λ u. bit_at u (holders_of d b)) (λ u. flag (holds (slot_at d (place u b)) b)) (holders_bit d b);
    }
  where
    sounds : sound d ≡ true
    sounds = (accepted_says d b e).0

    set_is : (holders_answer d b).set ≡ holders_of d b
    set_is = ap (λ (r : HoldersAnswer). r.set) (gives d b e)

    in_set : (u : ℕ) → u < 4 → eqb (bit_at u (holders_answer d b).set) 1 ≡ holds (slot_at d (place u b)) b
    in_set u l =
        ap (λ (x : ℕ). eqb (bit_at u x) 1) set_is
        ∙ ap (λ (x : ℕ). eqb x 1) (holders_bit d b u l)
        ∙ flag_is (holds (slot_at d (place u b)) b)

pub holders_told : HoldersTold
unfolding HoldersTold
holders_told d b e = told d b (sym (number_is d b) ∙ e)

pub holders_kept : HoldersKept
unfolding HoldersKept
holders_kept g m s cs rs d' m' k' h b l =
    let e : holders_refusal d' b ≡ 0 = sound_accepted d' b (session_sound g m s cs rs d' m' k' h) l in
    (number_is d' b ∙ e, told d' b e)

pub says_refused : (d : Directory) (b : ℕ) → SaysRefused d b
unfolding holders_answer holders_refused
says_refused d b =
    record {
      number = number_is d b;
      set = λ n. rw (ne_eqb (holders_refusal d b) 0 n);
      count = λ n. rw (ne_eqb (holders_refusal d b) 0 n);
    }

-- ---- test by test
pub broken_is : (d : Directory) (b : ℕ) → sound d ≡ false → holders_refused 2 ≡ holders_answer d b
unfolding holders_answer holders_refusal first_refusal directory_test target_test
broken_is d b e = rw e refl

pub no_block : (d : Directory) (b : ℕ) → sound d ≡ true → 63 < b → holders_refused 4 ≡ holders_answer d b
unfolding holders_answer holders_refusal first_refusal directory_test target_test is_block
no_block d b s h = rw (s, lt-leb b 63 h) refl

pub looked_up : (d : Directory) (b : ℕ) → sound d ≡ true → b ≤ 63
    → record { refusal = 0; set = held_by d b; count = ones (held_by d b) } ≡ holders_answer d b
unfolding holders_answer
looked_up d b s l =
    let e : held_by d b ≡ holders_of d b = sound_sets_lem d b s (omega arith) in
    let n : ones (held_by d b) ≡ ones_below 4 (held_by d b) = ones_count 4 (held_by d b) (rw e (holders_lt d b)) in
    rw (eq-eqb (holders_refusal d b) 0 (sound_accepted d b s l), n) refl

-- ---- the code's answers
tell_apart : (r s : Result BlockHolders Refusal) → told_holders r ≡ told_holders s → r ≡ s
unfolding holders_refused
tell_apart (Ok a) (Ok b) e = ap (λ (x : HoldersAnswer). Ok (record { set = x.set; count = x.count })) e
tell_apart (Ok a) (Err y) e = absurd (omega (arith, number_pos y, ap (λ (x : HoldersAnswer). x.refusal) e))
tell_apart (Err x) (Ok b) e = absurd (omega (arith, number_pos x, ap (λ (z : HoldersAnswer). z.refusal) e))
tell_apart (Err x) (Err y) e = ap Err (refusal_one x y (ap (λ (z : HoldersAnswer). z.refusal) e))

pub holders_tell_apart : HoldersTellApart
unfolding HoldersTellApart
holders_tell_apart r s e = tell_apart r s e
