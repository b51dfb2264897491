-- The sentences of T-03 hold of every list of accesses.
use Prim.Native.Nat.{ℕ, ◌≤◌}
use native.Mathlib.Nat.{zero-add}
use native.Mathlib.Omega.{arith}
use mathlib.Core.Path.{◌≡◌, refl, ap, ◌∙◌}
use mathlib.Core.Bool.{Bool, true, false, cond, ◌&&◌, false≢true}
use mathlib.Core.List.{List, ◌∷◌, ◌++◌, map}
use lib.Dec.{eqb, leb}
use lib.ListN.{length, take, drop}
use lib.Seq.{sets-eq}
use borrow.Author.Tests.{le-leb, lt-leb, leb-true}
use Rattle.std.proofs.Math.Bool.{and-false}
use Rattle.coherence.specs.declared.Directory.{Directory}
use Rattle.coherence.specs.declared.Call.{Call}
use Rattle.coherence.specs.declared.Call.TheVariants.{Load, Store, Flush}
use Rattle.coherence.specs.Answer.{Answer}
use Rattle.coherence.specs.Access.{ready}
use Rattle.coherence.specs.Calls.{refusal, answer, answers, after_all, value_of, loaded}
use Rattle.coherence.specs.Demand3.{Each, orders_given, is_load}
use Rattle.coherence.proofs.Counts.{refused}
use Rattle.batch_rules.specs.declared.Access.{Access}
use Rattle.batch_rules.specs.Batch.{batch, calls_of, before, number, made, ran, none, opened, batch_result}
use Rattle.batch_rules.specs.Sentences.{Singly, Stopped, SentencesHold, EmptyAccepted, ZeroValues}
use Rattle.batch_rules.proofs.Before.{Before, before_first, calls_counted, values_counted}
use Rattle.batch_rules.proofs.RanLaws.{ran_none}

either : (t : Bool) → ◌≡◌ {A = ℕ} (cond t 0 0) 0
either true = refl
either false = refl

module _ (l : List Access) (vs : List ℕ) (d : Directory) (m k : List ℕ) where
  abbrev cs : List Call
  cs = calls_of l

  abbrev pub fits : Bool
  fits = leb (length l) 65536 && leb (length l) (length vs)

  -- with room, and without
  pub is_made : fits ≡ true → batch_result l vs d m k ≡ made (none 0 d) vs m k (before d m k cs) (number d m k cs)
  unfolding batch_result ran opened none
  is_made e = rw e refl

  pub is_none : fits ≡ false → batch_result l vs d m k ≡ batch (none 9 d) vs m k
  unfolding batch_result ran opened none
  is_none e = rw e refl

  pub room : fits ≡ true → length l ≤ length vs
  room e = go (leb (length l) 65536) (leb (length l) (length vs)) refl e
    where
      go : (s t : Bool) → leb (length l) (length vs) ≡ t → (s && t) ≡ true → length l ≤ length vs
      go true true f z = leb-true _ _ f
      go true false f z = absurd (false≢true z)
      go false t f z = absurd (false≢true z)

  singly : (t : Bool) → fits ≡ t → Singly (take (batch_result l vs d m k).outcome.index cs) vs d m k (batch_result l vs d m k)
  unfolding made none answers after_all ready orders_given Each
  singly true e =
      let f : Before d m k cs = before_first d m k cs in
      let v : List ℕ = map (λ (r : Answer). r.value) (answers d m k (before d m k cs)) in
      let c : length v ≡ length (before d m k cs) = values_counted d m k (before d m k cs) in
      rw (is_made e, zero-add (length (before d m k cs)), ← f.taken)
      (record {
        index = refl;
        accepts = f.accepts;
        orders = zero-add _;
        directory = refl;
        memory = refl;
        cache = refl;
        values = sets-eq v vs 0 (omega (arith, c, f.few, calls_counted l, room e)) ∙ ap (λ (n : ℕ). v ++ drop n vs) (zero-add (length v) ∙ c);
      })
  singly false e = rw (is_none e) (record { index = refl; accepts = tt; orders = refl; directory = refl; memory = refl; cache = refl; values = refl })

  whole : (t : Bool) → fits ≡ t → (batch_result l vs d m k).outcome.refusal ≡ 0 → (batch_result l vs d m k).outcome.index ≡ length l
  unfolding made none
  whole true e z =
      let q : number d m k cs ≡ 0 = rw (is_made e) at z in
      rw (is_made e) (zero-add _ ∙ ap (λ (x : List Call). length x) ((before_first d m k cs).whole q) ∙ calls_counted l)
  whole false e z = let q : ◌≡◌ {A = ℕ} 9 0 = rw (is_none e) at z in absurd (omega (arith, q))

  stopped : fits ≡ true → ((batch_result l vs d m k).outcome.refusal ≡ 0 → ⊥)
      → (c : Call) × (rest : List Call) × (drop (batch_result l vs d m k).outcome.index cs ≡ c ∷ rest) × Stopped c (batch_result l vs d m k)
  unfolding made none answer
  stopped e h =
      let z : number d m k cs ≡ 0 → ⊥ = rw (is_made e) at h in
      let s = (before_first d m k cs).stops z in
      rw (is_made e)
      (s.0, s.1, ap (λ (n : ℕ). drop n cs) (zero-add (length (before d m k cs))) ∙ s.2, record { number = s.3; refused = refused _ _ _ s.0 (λ q. z (s.3 ∙ q)) })

pub sentences_hold : SentencesHold
unfolding SentencesHold
sentences_hold l vs d m k =
    record {
      long = λ h. is_none l vs d m k (rw (lt-leb _ _ h) refl);
      short = λ h. is_none l vs d m k (rw (lt-leb _ _ h) (and-false (leb (length l) 65536)));
      singly = singly l vs d m k _ refl;
      whole = whole l vs d m k _ refl;
      stopped = λ a b h. stopped l vs d m k (rw (le-leb _ _ a, le-leb _ _ b) refl) h;
    }

pub empty_accepted : EmptyAccepted
unfolding EmptyAccepted batch_result opened none
empty_accepted vs d m k = ran_none (opened d 0 (length vs)) vs m k ∙ rw (le-leb 0 (length vs) (omega arith)) refl

pub zero_values : ZeroValues
unfolding ZeroValues is_load answer value_of loaded
zero_values d m k (Load u a) h = absurd (omega (arith, h))
zero_values d m k (Store u a v) h = either (eqb (refusal d m k (Store u a v)) 0)
zero_values d m k (Flush u b) h = either (eqb (refusal d m k (Flush u b)) 0)
