-- What a list of accesses leaves of the directory's bytes.
use Prim.Native.Nat.{ℕ, zero, suc, ◌≤◌, ◌<◌}
use mathlib.Core.Path.{◌≡◌, refl, ap, sym, ◌∙◌}
use mathlib.Core.Bool.{Bool, true, false, cond}
use mathlib.Core.List.{List, [], append-nil}
use native.Mathlib.Omega.{arith}
use lib.Dec.{eqb}
use lib.ListN.{length, drop}
use lib.Seq.{drop-length}
use borrow.Author.Tests.{le-leb, eqb-true, eqb-false}
use Rattle.coherence.specs.declared.Settings.{Settings}
use Rattle.coherence.specs.declared.Directory.{Directory}
use Rattle.coherence.specs.declared.Call.{Call}
use Rattle.coherence.specs.Slots.{sound}
use Rattle.coherence.specs.Refusal.{sized, is_unit}
use Rattle.coherence.specs.Calls.{refusal, unit_of, is_target}
use Rattle.coherence.proofs.RefusalLaws.{call_tests, all_pass}
use Rattle.batch_rules.specs.Outcome.{Outcome}
use Rattle.batch_rules.specs.Batch.{Batch, batch}
use Rattle.batch_rules.specs.Numbers.{numbers_result}
use Rattle.batch_rules.proofs.NumbersLaws.{Bounds, numbers_bounds}
use Rattle.layout.specs.Directory.{directory_size, decoded, encoded, directory_put}
use Rattle.layout.proofs.Inverse.{inverse, length_decoded, length_encoded, boards_decoded, sets_decoded}
use Rattle.capi_batch.specs.Batch.{directory_left, LeavesDirectory}

-- bytes that the machine takes for a directory are as many as one has
sound_size : (l : List ℕ) → sound (decoded l) ≡ true → length l ≡ directory_size
sound_size l t = ap length (sym (inverse.forth l t)) ∙ length_encoded (decoded l) (sets_decoded l)

pub leaves_directory : LeavesDirectory
unfolding LeavesDirectory directory_left
leaves_directory d m k ns vs = go (eqb w.outcome.index 0) refl
  where
    w : Batch
    w = numbers_result ns vs (decoded d) m k

    b : Bounds (decoded d) m k w
    b = numbers_bounds ns vs (decoded d) m k

    go : (t : Bool) → eqb w.outcome.index 0 ≡ t → decoded (cond t d (encoded w.outcome.directory)) ≡ w.outcome.directory
    go true e = sym (b.stays (eqb-true _ _ e))
    go false e =
        inverse.back w.outcome.directory (b.shape.slots ∙ length_decoded d) (ap (λ (g : Settings). length g.boards) b.shape.settings ∙ boards_decoded d) (b.shape.sets (sets_decoded d))

-- the directory of an accepted call keeps the rules
accepted_sound : (d : Directory) (m k : List ℕ) (c : Call) → refusal d m k c ≡ 0 → sound d ≡ true
unfolding refusal
accepted_sound d m k c e = (all_pass (sized m k) (sound d) (is_unit (unit_of c)) (is_target c) (sym (call_tests d m k (unit_of c) (is_target c)) ∙ e)).1

put_whole : (x : Directory) (d : List ℕ) → length d ≡ directory_size → directory_put x d ≡ encoded x
unfolding directory_put
put_whole x d e =
    let n : drop directory_size d ≡ [] = ap (λ (k : ℕ). drop k d) (sym e) ∙ drop-length d in
    rw (le-leb directory_size (length d) (omega (arith, e)), n) (append-nil (encoded x))

above : (n : ℕ) → (n ≡ 0 → ⊥) → 0 < n
above zero e = absurd (e refl)
above (suc n) e = omega arith

module _ (d m k ns vs : List ℕ) (r : Outcome) (vs' m' k' : List ℕ) (is : batch r vs' m' k' ≡ numbers_result ns vs (decoded d) m k) where
  abbrev w : Batch
  w = numbers_result ns vs (decoded d) m k

  outcome_is : r ≡ w.outcome
  outcome_is = ap (λ (x : Batch). x.outcome) is

  pub index_fits : r.index ≤ 65536
  index_fits = rw outcome_is (numbers_bounds ns vs (decoded d) m k).index

  pub orders_fit : r.orders ≤ 262144
  orders_fit = rw outcome_is (numbers_bounds ns vs (decoded d) m k).orders

  made : (r.index ≡ 0 → ⊥) → directory_put r.directory d ≡ encoded r.directory
  made e =
      let f = (numbers_bounds ns vs (decoded d) m k).first (above w.outcome.index (λ z. e (ap (λ (x : Outcome). x.index) outcome_is ∙ z))) in
      put_whole r.directory d (sound_size d (accepted_sound (decoded d) m k f.0 f.1))

  pub told : (r.refusal ≡ w.outcome.refusal)
      × (r.index ≡ w.outcome.index)
      × (r.orders ≡ w.outcome.orders)
      × (cond (eqb r.index 0) d (directory_put r.directory d) ≡ directory_left d w.outcome)
      × (m' ≡ w.memory)
      × (k' ≡ w.cache)
      × (vs' ≡ w.values)
  unfolding directory_left
  told = (
    ap (λ (x : Batch). x.outcome.refusal) is,
    ap (λ (x : Batch). x.outcome.index) is,
    ap (λ (x : Batch). x.outcome.orders) is,
    go (eqb r.index 0) refl ∙ ap (λ (x : Outcome). cond (eqb x.index 0) d (encoded x.directory)) outcome_is,
    ap (λ (x : Batch). x.memory) is,
    ap (λ (x : Batch). x.cache) is,
    ap (λ (x : Batch). x.values) is,
  )
    where
      go : (t : Bool) → eqb r.index 0 ≡ t → cond t d (directory_put r.directory d) ≡ cond t d (encoded r.directory)
      go true e = refl
      go false e = made (eqb-false _ _ e)
