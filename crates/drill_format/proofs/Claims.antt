-- The claims about the drill of every tape.
use Prim.Native.Nat.{ℕ, suc, ◌+◌}
use native.Mathlib.Omega.{arith}
use mathlib.Core.Path.{◌≡◌, refl, ap, ◌∙◌}
use mathlib.Core.Bool.{cond}
use mathlib.Core.List.{List, [], ◌∷◌, map}
use lib.Dec.{leb}
use lib.ListN.{length, length-replicate}
use borrow.Author.Tests.{eqb-true}
use Rattle.coherence.specs.declared.Call.{Call}
use Rattle.coherence.specs.declared.Directory.{Directory}
use Rattle.coherence.specs.Answer.{Answer}
use Rattle.coherence.specs.PlainMemory.{plain_reply, plain_after, plain_replies}
use Rattle.coherence.specs.Settings.{drill_settings}
use Rattle.coherence.specs.Calls.{answer, memory_after, cache_after, answers, answers_cold, start_answer}
use Rattle.coherence.specs.Demand3.{Demand3, Demand3Holds, per_store, orders_in, orders_given, reply, Each}
use Rattle.coherence.proofs.Sessions.{sessions}
use Rattle.coherence.proofs.Theorem.{demand3}
use Rattle.tape_format.specs.declared.Record.{Record}
use Rattle.tape_format.specs.declared.Record.TheVariants as rec
use Rattle.tape_format.specs.Record.{kind_of}
use Rattle.reading.specs.Reading.{Started, read_all, access_of, and_calls, calls_of}
use Rattle.reading.specs.Claims.{AllAccepted}
use Rattle.reading.proofs.ReadingLaws.{claims as reading}
use Rattle.drill_format.specs.Drill.{zero_store, calls_in, answers_in}
use Rattle.drill_format.specs.Claims.{accesses, shown, sum, Claims}

-- ---- counts

one_more : (r : Record) (cs : List Call) → length (and_calls (access_of r) cs) ≡ cond (leb (kind_of r) 2) 1 0 + length cs
unfolding and_calls access_of kind_of
one_more (rec.Load u a) cs = omega arith
one_more (rec.Store u a v) cs = omega arith
one_more (rec.Flush u b) cs = omega arith
one_more (rec.Order o) cs = omega arith
one_more (rec.Answer f t a c) cs = omega arith
one_more (rec.Register f t a w x b) cs = omega arith
one_more (rec.Loaded u v) cs = omega arith
one_more (rec.Stamp c) cs = omega arith

calls_counted : (ss : List Started) → length (calls_of ss) ≡ accesses ss
unfolding calls_of accesses
calls_counted [] = refl
calls_counted (s ∷ ss) = one_more s.item (calls_of ss) ∙ ap (λ (n : ℕ). cond (leb (kind_of s.item) 2) 1 0 + n) (calls_counted ss)

answers_counted : (d : Directory) (m k : List ℕ) (cs : List Call) → length (answers d m k cs) ≡ length cs
unfolding answers
answers_counted d m k [] = refl
answers_counted d m k (c ∷ cs) = ap suc (answers_counted (answer d m k c).directory (memory_after d m k c) (cache_after d m k c) cs)

orders_summed : (rs : List Answer) → orders_given rs ≡ sum (map shown rs)
unfolding orders_given sum shown
orders_summed [] = refl
orders_summed (r ∷ rs) = ap (λ (n : ℕ). length (orders_in r) + n) (orders_summed rs)

-- ---- no call is refused

all_accepted : (p : List ℕ) (cs : List Call) (rs : List Answer) → AllAccepted cs → map reply rs ≡ plain_replies p cs → Each (λ r. r.refusal ≡ 0) rs
unfolding plain_replies plain_reply reply Each AllAccepted
all_accepted p cs [] h e = tt
all_accepted p [] (r ∷ rs) h e = absurd (let z : ◌≡◌ {A = ℕ} 0 1 = cc in omega arith)
all_accepted p (c ∷ cs) (r ∷ rs) h e =
    let a : reply r ≡ plain_reply c p = cc in
    let b : map reply rs ≡ plain_replies (plain_after c p) cs = cc in
    (eqb-true r.refusal 0 (ap (λ x. x.accepted) a ∙ h.0), all_accepted (plain_after c p) cs rs h.1 b)

-- ---- demand 3 of the calls of a tape

zero_size : length zero_store ≡ 2048
unfolding zero_store
zero_size = length-replicate {A = ℕ} 2048 0

tape_demand3 : (cs : List Call) → Demand3 drill_settings zero_store (start_answer drill_settings zero_store zero_store) cs (answers_cold drill_settings zero_store cs)
unfolding Demand3Holds
tape_demand3 cs =
    demand3 drill_settings zero_store (start_answer drill_settings zero_store zero_store) cs (answers_cold drill_settings zero_store cs) _ _ _
    ((sessions drill_settings zero_store cs).some zero_store zero_size zero_size)

in_tape : (tape : List ℕ) → AllAccepted (calls_in tape)
unfolding calls_in
in_tape tape = (reading tape).accepts

answers_in_lem : (tape : List ℕ) → length (answers_in tape) ≡ length (calls_in tape)
unfolding answers_in answers_cold
answers_in_lem tape = answers_counted _ _ _ (calls_in tape)

calls_in_lem : (tape : List ℕ) → length (calls_in tape) ≡ accesses (read_all tape).records
unfolding calls_in
calls_in_lem tape = calls_counted (read_all tape).records

pub claims : (tape : List ℕ) → Claims tape
unfolding answers_in per_store drill_settings
claims tape =
    let d = tape_demand3 (calls_in tape) in
    record {
      calls = calls_in_lem tape;
      answered = answers_in_lem tape;
      accepts = all_accepted zero_store (calls_in tape) (answers_in tape) (in_tape tape) d.plain;
      plain = d.plain;
      total = orders_summed (answers_in tape);
      bill = d.bill;
    }
