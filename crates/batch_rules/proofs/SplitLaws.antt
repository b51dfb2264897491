-- A list in two parts, and an outcome that is counted on.
use Prim.Native.Nat.{ℕ, ◌+◌, ◌*◌, ◌≤◌}
use native.Mathlib.Nat.{zero-add}
use native.Mathlib.Omega.{arith}
use mathlib.Core.Path.{◌≡◌, refl, ap, sym, ◌∙◌}
use mathlib.Core.Bool.{Bool, true, false, cond}
use mathlib.Core.List.{List, [], ◌∷◌, ◌++◌, map, append_assoc}
use lib.Dec.{eqb}
use lib.ListN.{length, take, drop, length-append, length-drop}
use lib.Seq.{sets, sets-eq, drop-drop, length-sets}
use borrow.Author.Tests.{le-leb, eq-eqb, eqb-true, eqb-false}
use Rattle.coherence.specs.declared.Directory.{Directory}
use Rattle.coherence.specs.declared.Call.{Call}
use Rattle.coherence.specs.Answer.{Answer}
use Rattle.coherence.specs.Calls.{answer, memory_after, cache_after, answers}
use Rattle.coherence.specs.Demand3.{orders_given}
use Rattle.batch_rules.specs.declared.Access.{Access}
use Rattle.batch_rules.specs.Outcome.{Outcome}
use Rattle.batch_rules.specs.Batch.{Batch, batch, calls_of, before, made, ran, none, opened, batch_result}
use Rattle.batch_rules.specs.Split.{joined, continued, SplitsAnywhere}
use Rattle.batch_rules.proofs.Before.{before_first, calls_counted, values_counted, orders_few}
use Rattle.batch_rules.proofs.RanLaws.{ran_none, ran_still, ran_refused, ran_accepted}

-- what the list l makes of a batch
abbrev pub from : Batch → List Access → Batch
from w l = ran w.outcome w.values w.memory w.cache l

pub ran_split : (l l' : List Access) (s : Outcome) (vs m k : List ℕ) → ran s vs m k (l ++ l') ≡ from (ran s vs m k l) l'
ran_split [] l' s vs m k = rw (ran_none s vs m k) refl
ran_split (a ∷ l) l' s vs m k = go (eqb s.refusal 0) refl (λ s vs m k. ran_split l l' s vs m k)
  where
    r : Answer
    r = answer s.directory m k a.call

    m' : List ℕ
    m' = memory_after s.directory m k a.call

    k' : List ℕ
    k' = cache_after s.directory m k a.call

    Rest : Type 0
    Rest = (s : Outcome) (vs m k : List ℕ) → ran s vs m k (l ++ l') ≡ from (ran s vs m k l) l'

    one : Rest → s.refusal ≡ 0 → (t : Bool) → eqb r.refusal 0 ≡ t → ran s vs m k (a ∷ (l ++ l')) ≡ from (ran s vs m k (a ∷ l)) l'
    one rest e true f =
        ran_accepted a s vs m k r m' k' (l ++ l') e refl refl refl (eqb-true _ _ f)
        ∙ rest _ _ _ _
        ∙ ap (λ (w : Batch). from w l') (sym (ran_accepted a s vs m k r m' k' l e refl refl refl (eqb-true _ _ f)))
    one rest e false f =
        ran_refused a s vs m k r m' k' (l ++ l') e refl refl refl (eqb-false _ _ f)
        ∙ rest _ _ _ _
        ∙ ap (λ (w : Batch). from w l') (sym (ran_refused a s vs m k r m' k' l e refl refl refl (eqb-false _ _ f)))

    go : (t : Bool) → eqb s.refusal 0 ≡ t → Rest → ran s vs m k (a ∷ (l ++ l')) ≡ from (ran s vs m k (a ∷ l)) l'
    go true e rest = one rest (eqb-true _ _ e) (eqb r.refusal 0) refl
    go false e rest =
        ran_still s vs m k (a ∷ (l ++ l')) (eqb-false _ _ e)
        ∙ sym (ran_still s vs m k l' (eqb-false _ _ e))
        ∙ ap (λ (w : Batch). from w l') (sym (ran_still s vs m k (a ∷ l) (eqb-false _ _ e)))

-- ---- counted on

sets_behind : (xs vs : List ℕ) (i : ℕ) → i + length xs ≤ length vs → sets vs i xs ≡ take i vs ++ sets (drop i vs) 0 xs
sets_behind xs vs i h =
    let n : length (drop i vs) + i ≡ length vs = simp length-drop (omega (arith, h)) in
    sets-eq xs vs i h
    ∙ append_assoc (take i vs) xs (drop (i + length xs) vs)
    ∙ ap (λ (t : List ℕ). take i vs ++ (xs ++ t)) (sym (drop-drop (length xs) i vs))
    ∙ ap (λ (t : List ℕ). take i vs ++ t) (sym (sets-eq xs (drop i vs) 0 (omega (arith, h, n)) ∙ ap (λ (t : ℕ). xs ++ drop t (drop i vs)) (zero-add (length xs))))

pub ran_shift : (s : Outcome) (vs m k : List ℕ) (l : List Access) → s.refusal ≡ 0 → s.index + length l ≤ length vs
    → ran s vs m k l ≡ joined (batch s vs m k) (ran (none 0 s.directory) (drop s.index vs) m k l)
unfolding ran joined made none
ran_shift s vs m k l e h =
    let b : List Call = before s.directory m k (calls_of l) in
    let v : List ℕ = map (λ (r : Answer). r.value) (answers s.directory m k b) in
    let n : length v ≡ length b = values_counted s.directory m k b in
    let f : length b ≤ length (calls_of l) = (before_first s.directory m k (calls_of l)).few in
    let c : length (calls_of l) ≡ length l = calls_counted l in
    rw (eq-eqb _ _ e, sets_behind v vs s.index (omega (arith, h, n, f, c)), zero-add (length b), zero-add (orders_given (answers s.directory m k b))) refl

-- ---- what holds of every call with a list
pub fits_result : (l : List Access) (vs : List ℕ) (d : Directory) (m k : List ℕ) → length l ≤ 65536 → length l ≤ length vs → batch_result l vs d m k ≡ ran (none 0 d) vs m k l
unfolding batch_result opened
fits_result l vs d m k h h' = rw (le-leb _ _ h, le-leb _ _ h') refl

module _ (vs : List ℕ) (d : Directory) (m k : List ℕ) (l : List Access) where
  pub ran_index : (ran (none 0 d) vs m k l).outcome.index ≤ length l
  unfolding ran made none
  ran_index = omega (arith, (before_first d m k (calls_of l)).few, calls_counted l)

  pub ran_orders : (ran (none 0 d) vs m k l).outcome.orders ≤ 4 * (ran (none 0 d) vs m k l).outcome.index
  unfolding ran made none
  ran_orders = omega (arith, orders_few d m k (before d m k (calls_of l)))

  -- accepted whole
  pub ran_whole : (ran (none 0 d) vs m k l).outcome.refusal ≡ 0 → (ran (none 0 d) vs m k l).outcome.index ≡ length l
  unfolding ran made none
  ran_whole e = zero-add _ ∙ ap (λ (cs : List Call). length cs) ((before_first d m k (calls_of l)).whole e) ∙ calls_counted l

  pub ran_values : length (ran (none 0 d) vs m k l).values ≡ length vs
  unfolding ran made none
  ran_values = length-sets vs 0 (map (λ (r : Answer). r.value) (answers d m k (before d m k (calls_of l))))

pub splits_anywhere : SplitsAnywhere
unfolding SplitsAnywhere continued
splits_anywhere l l' vs d m k h h' =
    let n : length (l ++ l') ≡ length l + length l' = length-append l l' in
    fits_result (l ++ l') vs d m k h h'
    ∙ ran_split l l' (none 0 d) vs m k
    ∙ rw (fits_result l vs d m k (omega (arith, h, n)) (omega (arith, h', n))) (go n (eqb w.outcome.refusal 0) refl)
  where
    w : Batch
    w = ran (none 0 d) vs m k l

    v : List ℕ
    v = drop w.outcome.index w.values

    u : Batch
    u = batch_result l' v w.outcome.directory w.memory w.cache

    go : length (l ++ l') ≡ length l + length l' → (t : Bool) → eqb w.outcome.refusal 0 ≡ t → from w l' ≡ cond t (joined w u) w
    go n true e =
        let i : w.outcome.index ≤ length l = ran_index vs d m k l in
        let c : length w.values ≡ length vs = ran_values vs d m k l in
        let g : length v + w.outcome.index ≡ length w.values = simp length-drop (omega (arith, h', n, i, c)) in
        ran_shift w.outcome w.values w.memory w.cache l' (eqb-true _ _ e) (omega (arith, h', n, i, c))
        ∙ ap (joined w) (sym (fits_result l' v w.outcome.directory w.memory w.cache (omega (arith, h, n)) (omega (arith, h', n, i, c, g))))
    go n false e = ran_still w.outcome w.values w.memory w.cache l' (eqb-false _ _ e)
