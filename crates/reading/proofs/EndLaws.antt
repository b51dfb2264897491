-- Reading ends: more steps than the tape has bytes read nothing more.
use Prim.Native.Nat.{ℕ, zero, suc, ◌+◌, ◌-◌, ◌≤◌, ◌<◌}
use native.Mathlib.Nat.{zero-add, suc-add}
use native.Mathlib.Omega.{arith}
use mathlib.Core.Path.{◌≡◌, refl, ap, sym, ◌∙◌}
use mathlib.Core.List.{List}
use lib.ListN.{length}
use Rattle.std.specs.Prelude.{Option, None, Some, Result, Ok, Err}
use Rattle.number.specs.declared.Refused.{Refused}
use Rattle.tape_format.specs.declared.Record.{Record}
use Rattle.tape_format.specs.Record.{record_at}
use Rattle.reading.specs.Reading.{and_more, read_on, read_from, read_all}
use Rattle.reading.proofs.RecordLaws.{record_place}

one_step : (n : ℕ) (t : List ℕ) (at : ℕ) → length t < n + at → at ≤ length t → read_from (suc n) t at ≡ read_from n t at
unfolding read_from read_on
one_step zero t at h l = absurd (omega arith)
one_step (suc n) t at h l = go (record_at t at) refl (λ next. one_step n t next)
  where
    go : (x : Result (Option (Record × ℕ)) Refused) → record_at t at ≡ x → ((next : ℕ) → length t < n + next → next ≤ length t → read_from (suc n) t next ≡ read_from n t next)
        → read_on at x (read_from (suc n) t) ≡ read_on at x (read_from n t)
    go (Ok (Some (r, next))) e more =
        let p = record_place t at r next e in
        ap (and_more at r) (more next (omega arith) p.1)
    go (Ok None) e more = refl
    go (Err r) e more = refl

many_steps : (k : ℕ) (t : List ℕ) → read_from (k + suc (length t)) t 0 ≡ read_all t
unfolding read_all
many_steps zero t = ap (λ (n : ℕ). read_from n t 0) (zero-add (suc (length t)))
many_steps (suc k) t = ap (λ (n : ℕ). read_from n t 0) (suc-add k (suc (length t))) ∙ one_step (k + suc (length t)) t 0 (omega arith) (omega arith) ∙ many_steps k t

pub ends_at : (n : ℕ) (t : List ℕ) → length t < n → read_from n t 0 ≡ read_all t
ends_at n t h =
    let k : (n - suc (length t)) + suc (length t) ≡ n = omega arith in
    ap (λ (i : ℕ). read_from i t 0) (sym k) ∙ many_steps (n - suc (length t)) t
