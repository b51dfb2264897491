-- The claims about the reading of every tape.
use Prim.Native.Nat.{ℕ, zero, suc, ◌+◌, ◌≤◌, ◌<◌}
use native.Mathlib.Omega.{arith}
use mathlib.Core.Path.{◌≡◌, refl}
use mathlib.Core.List.{List, [], ◌∷◌}
use lib.ListN.{length}
use Rattle.coherence.specs.declared.Call.{Call}
use Rattle.std.specs.Prelude.{Option, None, Some, Result, Ok, Err}
use Rattle.number.specs.declared.Refused.{Refused}
use Rattle.tape_format.specs.declared.Record.{Record}
use Rattle.tape_format.specs.Record.{record_at}
use Rattle.tape_format.specs.RoundTrip.{ReadsAs}
use Rattle.reading.specs.Reading.{Started, finished, and_more, read_on, read_from, read_all, access_of, and_calls, calls_of}
use Rattle.reading.specs.Claims.{ReadsTo, items, AllAccepted, Claims}
use Rattle.reading.proofs.RecordLaws.{Accepted, record_place, record_accepted}
use Rattle.reading.proofs.EndLaws.{ends_at}

-- ---- no call is refused

accepted_more : (a : Option Call) (cs : List Call) → Accepted a → AllAccepted cs → AllAccepted (and_calls a cs)
unfolding and_calls AllAccepted
accepted_more (Some c) cs h all = (h, all)
accepted_more None cs h all = all

tape_accepted : (n : ℕ) (t : List ℕ) (at : ℕ) → AllAccepted (calls_of (read_from n t at).records)
unfolding read_from read_on and_more calls_of AllAccepted
tape_accepted zero t at = tt
tape_accepted (suc n) t at = go (record_at t at) refl (λ next. tape_accepted n t next)
  where
    go : (x : Result (Option (Record × ℕ)) Refused) → record_at t at ≡ x → ((next : ℕ) → AllAccepted (calls_of (read_from n t next).records)) → AllAccepted (calls_of (read_on at x (read_from n t)).records)
    go (Ok (Some (r, next))) e more =
        accepted_more (access_of r) (calls_of (read_from n t next).records) (record_accepted t at r next e) (more next)
    go (Ok None) e more = tt
    go (Err r) e more = tt

-- ---- reading comes to its end

-- what is read next, where steps are left
pub next_read : (t : List ℕ) (n at : ℕ) (x : Result (Option (Record × ℕ)) Refused) → length t < n + at → at ≤ length t → record_at t at ≡ x → (f : ℕ) × (length t < suc (f + at)) × (read_from n t at ≡ read_on at x (read_from f t))
unfolding read_from
next_read t zero at x h w e = absurd (omega arith)
next_read t (suc f) at x h w e = (f, omega arith, rw e)

reads_from : (n : ℕ) (t : List ℕ) (at : ℕ) → length t < n + at → at ≤ length t → ReadsTo t at (read_from n t at).records (read_from n t at).ending
unfolding read_from read_on and_more ReadsTo
reads_from zero t at h l = absurd (omega arith)
reads_from (suc n) t at h l = go (record_at t at) refl (λ next. reads_from n t next)
  where
    go : (x : Result (Option (Record × ℕ)) Refused) → record_at t at ≡ x
        → ((next : ℕ) → length t < n + next → next ≤ length t → ReadsTo t next (read_from n t next).records (read_from n t next).ending)
        → ReadsTo t at (read_on at x (read_from n t)).records (read_on at x (read_from n t)).ending
    go (Ok (Some (r, next))) q more =
        let p = record_place t at r next q in
        (refl, next, q, more next (omega arith) p.1)
    go (Ok None) q more = q
    go (Err r) q more = q

reads_all : (tape : List ℕ) → ReadsTo tape 0 (read_all tape).records (read_all tape).ending
unfolding read_all
reads_all tape = reads_from (suc (length tape)) tape 0 (omega arith) (omega arith)

-- to its end, and so as its records
to_end : (ss : List Started) (tape : List ℕ) (at : ℕ) → ReadsTo tape at ss finished → ReadsAs tape at (items ss)
unfolding ReadsTo ReadsAs items
to_end [] tape at w = w
to_end (s ∷ ss) tape at w = let (b, next, e, u) = w in (next, e, to_end ss tape next u)

calls_accepted : (tape : List ℕ) → AllAccepted (calls_of (read_all tape).records)
unfolding read_all
calls_accepted tape = tape_accepted (suc (length tape)) tape 0

pub claims : (tape : List ℕ) → Claims tape
claims tape =
    record {
      reads = reads_all tape;
      whole = λ f. to_end (read_all tape).records tape 0 (rw f at (reads_all tape));
      ends = λ n h. ends_at n tape h;
      accepts = calls_accepted tape;
    }
