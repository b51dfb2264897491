-- The reader's loop: a number underway, and what each way on finds.
use Prim.Native.Nat.{ℕ, suc, ◌+◌, ◌*◌, ◌%◌, ◌-◌, ◌≤◌, ◌<◌, min}
use native.Mathlib.Omega.{arith}
use native.Mathlib.Nat.{mul_comm, mul_assoc, mul-le-mul_left}
use mathlib.Core.Path.{◌≡◌, refl, sym, ap, ◌∙◌}
use mathlib.Core.List.{List}
use lib.ListN.{length, get_or}
use Rattle.std.specs.Prelude.{Ok, Err}
use Rattle.order.specs.declared.Refusal.TheVariants as why
use Rattle.number.specs.Number.{groups, last, Bad, limit_of, carried, read_groups, refusing, number_at}
use Rattle.number.proofs.GroupLaws.{step_cut, step_ends, step_more, onto, onto_one, onto_value, onto_zero, onto_carried, top, top_above, limit_more, limit_top, below_top}

-- the number at `at`, underway at p: the groups before it mean v, the one at p counts w, and `left` more could follow it
pub record Underway (tape : List ℕ) (at v w left p : ℕ) : Type 0 where
  pub rest : number_at tape at ≡ refusing at (onto v w (read_groups last (suc left) tape p))
  pub less : v < w
  pub weight : w * top last left ≡ top last (groups - 1)

pub begun : (tape : List ℕ) (at b : ℕ) → at < length tape → b ≡ get_or tape at 0 → 127 < b → Underway tape at (b % 128) 128 (groups - 2) (at + 1)
unfolding number_at limit_of top
begun tape at b h e l =
    record {
      rest = ap (refusing at) (step_more last (groups - 1) tape at b h e l ∙ onto_one b (read_groups last (groups - 1) tape (at + 1)));
      less = omega arith;
      weight = refl;
    }

module _ (tape : List ℕ) (at v w left p : ℕ) (u : Underway tape at v w left p) where
  pub was_cut : length tape ≤ p → Err (record { refusal = why.Cut; place = at }) ≡ number_at tape at
  unfolding refusing onto
  was_cut h = sym (u.rest ∙ ap (λ g. refusing at (onto v w g)) (step_cut last left tape p h))

  module _ (b : ℕ) (h : p < length tape) (e : b ≡ get_or tape p 0) where
    pub was_zero : b ≡ 0 → Err (record { refusal = why.BadNumber; place = at }) ≡ number_at tape at
    unfolding refusing
    was_zero z = sym (u.rest ∙ ap (λ g. refusing at (onto v w g)) (step_ends last left tape p b h e (omega arith)) ∙ ap (refusing at) (onto_zero v w b (p + 1) z))

    pub ended : (b ≡ 0 → ⊥) → b ≤ limit_of last left → Ok (v + w * b, p + 1) ≡ number_at tape at
    unfolding refusing
    ended n l = sym (u.rest ∙ ap (λ g. refusing at (onto v w g)) (step_ends last left tape p b h e l) ∙ ap (refusing at) (onto_value v w b (p + 1) n))

    pub was_over : left ≡ 0 → limit_of last left < b → Err (record { refusal = why.BadNumber; place = at }) ≡ number_at tape at
    unfolding refusing onto carried read_groups
    was_over z l = let k : read_groups last left tape (p + 1) ≡ Bad = rw z in sym (u.rest ∙ ap (λ g. refusing at (onto v w g)) (step_more last left tape p b h e l ∙ ap (carried b) k))

    pub again : (left ≡ 0 → ⊥) → limit_of last left < b → Underway tape at (v + w * (b % 128)) (w * 128) (left - 1) (p + 1)
    unfolding top
    again n l =
        let k : left ≡ suc (left - 1) = omega arith in
        record {
          rest = u.rest ∙ ap (λ g. refusing at (onto v w g)) (step_more last left tape p b h e l) ∙ ap (refusing at) (onto_carried v w b (read_groups last left tape (p + 1))) ∙ ap (λ i. refusing at (onto (v + w * (b % 128)) (w * 128) (read_groups last i tape (p + 1)))) k;
          less = below_top v w (b % 128) 128 u.less (omega arith);
          weight = mul_assoc w 128 (top last (left - 1)) ∙ ap (λ (i : ℕ). w * i) (mul_comm 128 (top last (left - 1))) ∙ ap (λ (i : ℕ). w * top last i) (sym k) ∙ u.weight;
        }

  -- all of it fits 64 bits
  pub fits : (b : ℕ) → b ≤ limit_of last left → v + w * b < top last (groups - 1)
  fits b l = rw u.weight at (below_top v w b (top last left) u.less (omega (arith, limit_top last left)))

  module _ (n : left ≡ 0 → ⊥) where
    wide : 256 ≤ top last left
    unfolding top
    wide = let k : left ≡ suc (left - 1) = omega arith in rw k (omega (arith, top_above last (left - 1)))

    pub fits_more : (b : ℕ) → v + w * (b % 128) < top last (groups - 1)
    fits_more b = rw u.weight at (below_top v w (b % 128) (top last left) u.less (omega (arith, wide)))

    pub fits_weight : w * 256 ≤ top last (groups - 1)
    fits_weight = rw u.weight at (mul-le-mul_left {m = 256} {n = top last left} w wide)

-- all that can be spelled fits 64 bits
pub top_fits : top last (groups - 1) ≤ 18446744073709551616
unfolding top
top_fits = omega arith

-- the loop at p: a number underway whose last group, if it has so many, stands at `final`; the loop ends at `end`, which is that place or the tape's end
pub record Looping (tape : List ℕ) (at final end v w p : ℕ) : Type 0 where
  pub left : ℕ
  pub underway : Underway tape at v w left p
  pub place : p + left ≡ final
  pub before : p ≤ end
  pub ends : end ≡ min (length tape) final

pub started : (tape : List ℕ) (at b final end : ℕ) → at < length tape → b ≡ get_or tape at 0 → 127 < b → final ≡ at + (groups - 1)
    → end ≡ min (length tape) final → Looping tape at final end (b % 128) 128 (at + 1)
started tape at b final end h e l f d =
    record {
      left = groups - 2;
      underway = begun tape at b h e l;
      place = omega arith;
      before = omega arith;
      ends = d;
    }

module _ (tape : List ℕ) (at final end v w p : ℕ) (u : Looping tape at final end v w p) where
  -- in the loop a group can hold all seven bits
  module _ (h : p < end) where
    pub inside : p < length tape
    inside = omega (arith, u.ends)

    some : u.left ≡ 0 → ⊥
    some z = omega (arith, u.ends, u.place)

    seven : 127 ≡ limit_of last u.left
    seven = limit_more last u.left some

    pub in_fits : (b : ℕ) → b ≤ 127 → v + w * b < top last (groups - 1)
    in_fits b l = fits tape at v w u.left p u.underway b (rw (sym seven) l)

    pub in_more : (b : ℕ) → v + w * (b % 128) < top last (groups - 1)
    in_more b = fits_more tape at v w u.left p u.underway some b

    pub in_weight : w * 256 ≤ top last (groups - 1)
    in_weight = fits_weight tape at v w u.left p u.underway some

    module _ (b : ℕ) (e : b ≡ get_or tape p 0) where
      pub in_zero : b ≡ 0 → Err (record { refusal = why.BadNumber; place = at }) ≡ number_at tape at
      in_zero z = was_zero tape at v w u.left p u.underway b inside e z

      pub in_ended : (b ≡ 0 → ⊥) → b ≤ 127 → Ok (v + w * b, p + 1) ≡ number_at tape at
      in_ended n l = ended tape at v w u.left p u.underway b inside e n (rw (sym seven) l)

      pub in_again : 127 < b → Looping tape at final end (v + w * (b % 128)) (w * 128) (p + 1)
      in_again l =
          record {
            left = u.left - 1;
            underway = again tape at v w u.left p u.underway b inside e some (rw (sym seven) l);
            place = omega (arith, u.place, some);
            before = omega arith;
            ends = u.ends;
          }

  -- the loop ends at its end
  pub stopped : end ≤ p → Looping tape at final end v w end
  stopped h = let e : p ≡ end = omega (arith, u.before) in rw e at u

-- after it comes the tape's end or the last group
module _ (tape : List ℕ) (at final end v w : ℕ) (u : Looping tape at final end v w end) where
  pub after_cut : length tape ≤ end → Err (record { refusal = why.Cut; place = at }) ≡ number_at tape at
  after_cut l = was_cut tape at v w u.left end u.underway l

  module _ (l : end < length tape) where
    none : u.left ≡ 0
    none = omega (arith, u.ends, u.place)

    final_limit : last ≡ limit_of last u.left
    unfolding limit_of
    final_limit = rw none

    pub after_fits : (b : ℕ) → b ≤ last → v + w * b < top last (groups - 1)
    after_fits b m = fits tape at v w u.left end u.underway b (rw (sym final_limit) m)

    module _ (b : ℕ) (e : b ≡ get_or tape end 0) where
      pub after_zero : b ≡ 0 → Err (record { refusal = why.BadNumber; place = at }) ≡ number_at tape at
      after_zero z = was_zero tape at v w u.left end u.underway b l e z

      pub after_over : last < b → Err (record { refusal = why.BadNumber; place = at }) ≡ number_at tape at
      after_over m = was_over tape at v w u.left end u.underway b l e none (rw (sym final_limit) m)

      pub after_ended : (b ≡ 0 → ⊥) → b ≤ last → Ok (v + w * b, end + 1) ≡ number_at tape at
      after_ended n m = ended tape at v w u.left end u.underway b l e n (rw (sym final_limit) m)
