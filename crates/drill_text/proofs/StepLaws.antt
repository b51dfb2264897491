-- What one record adds to the text.
use Prim.Native.Nat.{ℕ, suc, ◌+◌, ◌≤◌, ◌<◌}
use native.Mathlib.Nat.{add-zero}
use native.Mathlib.Omega.{arith}
use mathlib.Core.Path.{◌≡◌, refl, ap, sym, subst, ◌∙◌}
use mathlib.Core.List.{List, [], ◌++◌, append_assoc}
use lib.ListN.{length}
use Rattle.coherence.specs.declared.Call.{Call}
use Rattle.coherence.specs.declared.Directory.{Directory}
use Rattle.coherence.specs.Answer.{Answer}
use Rattle.coherence.specs.Calls.{answer, answers, memory_after, cache_after}
use Rattle.coherence.specs.Demand3.{orders_in, orders_given}
use Rattle.coherence.proofs.Counts.{answers_orders}
use Rattle.tape_format.specs.declared.Record.{Record}
use Rattle.std.specs.Prelude.{None, Some}
use Rattle.drill_text.specs.declared.run.Progress.{Progress}
use Rattle.reading.specs.Reading.{Ending, and_more, and_calls, calls_of, access_of}
use Rattle.drill_format.specs.Line.{access_part, orders_part, call_line, lines}
use Rattle.drill_format.specs.Drill.{last_line}
use Rattle.drill_text.specs.Writing.{Puts, text_from, Called, Short, Took, line_most}
use Rattle.drill_text.proofs.LineLaws.{line_short}

-- nothing is put
pub nothing : (o : List ℕ) (a : ℕ) → Puts [] o a o a
nothing o a = record { next = sym (add-zero a); room = refl; bytes = λ h. refl }

pub answered_few : (r : Answer) (d : Directory) (m k : List ℕ) (c : Call) → r ≡ answer d m k c → r.orders.count ≤ 4
answered_few r d m k c e = rw e (answers_orders d m k c).few

-- a call of the machine, and its line
pub called : (c : Call) (s : Progress) (r : Answer) (m k o o' m' k' : List ℕ) (v n t : ℕ) (d : Directory) (at : ℕ)
    → r ≡ answer s.directory m k c → m' ≡ memory_after s.directory m k c → k' ≡ cache_after s.directory m k c
    → (v ≡ r.value) × (n ≡ r.orders.count) × (d ≡ r.directory) → t ≡ s.orders + n
    → Puts (access_part c v ++ orders_part n) o s.at o' at → v < 4294967296
    → Called c s m k o (record { directory = d; at = at; calls = s.calls + 1; orders = t }) m' k' o'
unfolding call_line
called c s r m k o o' m' k' v n t d at e em ek f g p b =
    let w : v ≡ (answer s.directory m k c).value = f.0 ∙ ap (λ (x : Answer). x.value) e in
    let i : n ≡ length (orders_in (answer s.directory m k c)) = f.1 ∙ ap (λ (x : Answer). x.orders.count) e ∙ sym (answers_orders s.directory m k c).counted in
    record {
      directory = f.2 ∙ ap (λ (x : Answer). x.directory) e;
      memory = em;
      cache = ek;
      line = rw (i, w) at p;
      calls = refl;
      orders = g ∙ ap (λ (x : ℕ). s.orders + x) i;
      few = rw (answers_orders s.directory m k c).counted (answers_orders s.directory m k c).few;
      value = rw w at b;
    }

-- the last line counts a call and its orders before those that come later
later : (l : Ending) (a b c d e : ℕ) → last_line l (a + suc b) (c + (d + e)) ≡ last_line l (a + 1 + b) (c + d + e)
later l a b c d e =
    let p : a + suc b ≡ a + 1 + b = omega arith in
    let q : c + (d + e) ≡ c + d + e = omega arith in
    rw (p, q)

-- a record that asks a call adds the call's line
pub asked : (i : Record) (c : Call) (s r : Progress) (m k o m' k' o' : List ℕ) → access_of i ≡ Some c → Called c s m k o r m' k' o' → Took i s m k o r m' k' o'
unfolding text_from and_more calls_of and_calls answers lines orders_given line_most
asked i c s r m k o m' k' o' e q =
    record {
      part = call_line c (answer s.directory m k c);
      puts = q.line;
      rest = λ start g. rw (e, q.directory, q.memory, q.cache, q.calls, q.orders, append_assoc, later);
      calls = omega (arith, q.calls);
      orders = omega (arith, q.orders, q.few);
      short = λ h. rw e (omega (arith, q.line.next, line_short c (answer s.directory m k c) (subst Short e h) q.value q.few));
    }

-- any other record adds nothing
pub passed : (i : Record) (s : Progress) (m k o : List ℕ) → access_of i ≡ None → Took i s m k o s m k o
unfolding text_from and_more calls_of and_calls line_most
passed i s m k o e =
    record {
      part = [];
      puts = nothing o s.at;
      rest = λ start g. rw e;
      calls = omega arith;
      orders = omega arith;
      short = λ h. rw e (omega arith);
    }
