-- A drill underway: what its loop keeps.
use Prim.Native.Nat.{ℕ, suc, ◌+◌, ◌*◌, ◌≤◌, ◌<◌}
use native.Mathlib.Nat.{add-zero}
use native.Mathlib.Omega.{arith}
use mathlib.Core.Path.{◌≡◌, refl, ◌∙◌}
use mathlib.Core.List.{List, [], ◌++◌, append_assoc}
use lib.ListN.{length}
use Rattle.tape_format.specs.declared.Record.{Record}
use Rattle.std.specs.Prelude.{Option, None, Some, Result, Ok, Err}
use Rattle.number.specs.declared.Refused.{Refused}
use Rattle.order.specs.Refusal.{refusal_number}
use Rattle.tape_format.specs.Record.{record_at}
use Rattle.coherence.specs.Calls.{answers}
use Rattle.coherence.specs.Demand3.{orders_given}
use Rattle.drill_text.specs.declared.run.Progress.{Progress}
use Rattle.reading.specs.Reading.{read_on, read_from, read_all, calls_of}
use Rattle.drill_format.specs.Line.{lines, total_line, refused_line}
use Rattle.drill_format.specs.Drill.{last_line}
use Rattle.drill_text.specs.Writing.{Puts, text_from, Took}
use Rattle.drill_text.proofs.WritingLaws.{both}
use Rattle.drill_text.proofs.StepLaws.{nothing}
use Rattle.reading.proofs.RecordLaws.{record_place}
use Rattle.reading.proofs.ReadingLaws.{next_read}
use Rattle.drill_text.proofs.RecordLaws.{record_line, record_short}

-- from the progress s₀ and the stores m₀ and k₀, with the text o₀, the records of the tape t up to a place have led to s, m, k and o. `past` is
-- what was put, and what is still to be read from the place gives the rest of the text
pub record Underway (t : List ℕ) (s₀ : Progress) (m₀ k₀ o₀ : List ℕ) (place : ℕ) (m k o : List ℕ) (s : Progress) : Type 0 where
  pub steps : ℕ
  pub enough : length t < steps + place
  pub within : place ≤ length t
  pub past : List ℕ
  pub text :
      text_from s₀.directory m₀ k₀ 0 0 (read_all t)
      ≡ past ++ text_from s.directory m k s.calls s.orders (read_from steps t place)
  pub put : Puts past o₀ 0 o s.at
  pub at : s.at ≤ 11 * place
  pub calls : s.calls ≤ place
  pub orders : s.orders ≤ 4 * place
  pub memory : length m ≡ length m₀
  pub cache : length k ≡ length k₀

pub begun : (t : List ℕ) (s : Progress) (m k o : List ℕ) → s.at ≡ 0 → s.calls ≡ 0 → s.orders ≡ 0 → Underway t s m k o 0 m k o s
unfolding read_all
begun t s m k o a n p =
    record {
      steps = suc (length t);
      enough = omega arith;
      within = omega arith;
      past = [];
      text = rw (n, p);
      put = rw a (nothing o 0);
      at = omega arith;
      calls = omega arith;
      orders = omega arith;
      memory = refl;
      cache = refl;
    }

-- a record is taken
module _ {t : List ℕ} {s₀ : Progress} {m₀ k₀ o₀ : List ℕ} {place : ℕ} {m k o : List ℕ} {s : Progress} (u : Underway t s₀ m₀ k₀ o₀ place m k o s) where
  pub onward : (i : Record) (next : ℕ) (m' k' o' : List ℕ) (r : Progress)
      → record_at t place ≡ Ok (Some (i, next)) → Took i s m k o r m' k' o' → length m' ≡ length m → length k' ≡ length k → Underway t s₀ m₀ k₀ o₀ next m' k' o' r
  unfolding read_on
  onward i next m' k' o' r e q lm lk =
      let x : (f : ℕ) × (length t < suc (f + place)) × (read_from u.steps t place ≡ read_on place (Ok (Some (i, next))) (read_from f t)) = next_read t u.steps place (Ok (Some (i, next))) u.enough u.within e in
      let p = record_place t place i next e in
      let h = q.short (record_short t place i next e) in
      record {
        steps = x.0;
        enough = omega (arith, x.1);
        within = p.1;
        past = u.past ++ q.part;
        text = u.text ∙ rw (x.2, q.rest, append_assoc);
        put = both u.put q.puts;
        at = omega (arith, u.at, record_line t place i next e);
        calls = omega (arith, u.calls, q.calls);
        orders = omega (arith, u.orders, q.orders);
        memory = lm ∙ u.memory;
        cache = lk ∙ u.cache;
      }

  -- the last line ends the text
  ended : (line : List ℕ) (x : Result (Option (Record × ℕ)) Refused) (o' : List ℕ) (r : ℕ) → record_at t place ≡ x
      → ((f : ℕ) → text_from s.directory m k s.calls s.orders (read_on place x (read_from f t)) ≡ line)
      → Puts line o s.at o' r → Puts (text_from s₀.directory m₀ k₀ 0 0 (read_all t)) o₀ 0 o' r
  ended line x o' r e l q =
      let y : (f : ℕ) × (length t < suc (f + place)) × (read_from u.steps t place ≡ read_on place x (read_from f t)) = next_read t u.steps place x u.enough u.within e in
      rw (u.text, y.2, l y.0) (both u.put q)

  pub finished_text : (o' : List ℕ) (r : ℕ) → record_at t place ≡ Ok None → Puts (total_line s.calls s.orders) o s.at o' r
      → Puts (text_from s₀.directory m₀ k₀ 0 0 (read_all t)) o₀ 0 o' r
  unfolding read_on text_from calls_of answers lines orders_given last_line
  finished_text o' r e q = ended (total_line s.calls s.orders) (Ok None) o' r e (λ f. simp add-zero) q

  pub refused_text : (e : Refused) (o' : List ℕ) (r : ℕ) → record_at t place ≡ Err e → Puts (refused_line (refusal_number e.refusal) e.place) o s.at o' r
      → Puts (text_from s₀.directory m₀ k₀ 0 0 (read_all t)) o₀ 0 o' r
  unfolding read_on text_from calls_of answers lines orders_given last_line
  refused_text e o' r h q = ended (refused_line (refusal_number e.refusal) e.place) (Err e) o' r h (λ f. refl) q
