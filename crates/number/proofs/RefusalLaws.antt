-- A number is refused exactly where a byte breaks its spelling, or the tape ends before any does.
use Prim.Native.Nat.{ℕ, zero, suc, ◌+◌, ◌-◌, ◌≤◌, ◌<◌}
use native.Mathlib.Nat.{zero-add, add-zero, suc-add}
use native.Mathlib.Omega.{arith}
use mathlib.Core.Path.{◌≡◌, refl, sym, ap, ◌∙◌}
use mathlib.Core.Logic.{◌⊎◌, inl, inr, ⊎_elim}
use mathlib.Core.List.{List, [], ◌∷◌}
use mathlib.Core.Bool.{Bool, true, false, cond}
use lib.ListN.{length, get_or}
use lib.Dec.{ltb, leb}
use borrow.Author.Tests.{ltb-true, ltb-false, leb-false}
use Rattle.std.specs.Prelude.{Err}
use Rattle.order.specs.declared.Refusal.TheVariants as why
use Rattle.number.specs.declared.Refused.{Refused}
use Rattle.number.specs.Number.{groups, last, Groups, Value, Cut, Bad, limit_of, carried, read_groups, refusing, number_at, number_told}
use Rattle.number.specs.Spelling.{GoesOn, Breaks, EndsAfter, told_at, RefusesExactly}
use Rattle.number.proofs.GroupLaws.{limit_small, step_cut, step_ends, step_more}
use Rattle.number.proofs.NumberLaws.{inv_read}

-- ---- groups that go on, one more in front or one less

none_yet : (tape : List ℕ) (at : ℕ) → GoesOn tape at 0
none_yet tape at = record { there = λ i l. absurd (omega arith); high = λ i l. absurd (omega arith) }

one_more : (tape : List ℕ) (at k : ℕ) → at < length tape → 127 < get_or tape at 0 → GoesOn tape (at + 1) k → GoesOn tape at (suc k)
one_more tape at k h b g = record { there = there; high = high }
  where
    there : (i : ℕ) → i < suc k → at + i < length tape
    there zero l = rw add-zero h
    there (suc i) l = let e : at + suc i ≡ at + 1 + i = omega arith in rw e (g.there i (omega arith))

    high : (i : ℕ) → i < suc k → 127 < get_or tape (at + i) 0
    high zero l = rw add-zero b
    high (suc i) l = let e : at + suc i ≡ at + 1 + i = omega arith in rw e (g.high i (omega arith))

one_less : (tape : List ℕ) (at k : ℕ) → GoesOn tape at (suc k) → (at < length tape) × (127 < get_or tape at 0) × GoesOn tape (at + 1) k
one_less tape at k g = (
  rw add-zero at (g.there 0 (omega arith)),
  rw add-zero at (g.high 0 (omega arith)),
  record {
    there = λ i l. let e : at + suc i ≡ at + 1 + i = omega arith in rw e at (g.there (suc i) (omega arith));
    high = λ i l. let e : at + suc i ≡ at + 1 + i = omega arith in rw e at (g.high (suc i) (omega arith));
  },
)

-- ---- what stands after k groups decides

-- a refusal passes through the groups before it
module _ (tape : List ℕ) (x : Groups) (kept : (b : ℕ) → carried b x ≡ x) where
  through : (k n at : ℕ) → GoesOn tape at k → read_groups last (suc n) tape (at + k) ≡ x → read_groups last (k + suc n) tape at ≡ x
  through zero n at g e = rw (zero-add (suc n)) (rw add-zero at e)
  through (suc k) n at g e =
      let (h, b, r) = one_less tape at k g in
      let s : at + suc k ≡ at + 1 + k = omega arith in
      rw suc-add (step_more last (k + suc n) tape at _ h refl (omega (arith, limit_small last (k + suc n) (omega arith))) ∙ ap (carried (get_or tape at 0)) (through k n (at + 1) r (rw s at e)) ∙ kept (get_or tape at 0))

bad_kept : (b : ℕ) → carried b Bad ≡ Bad
unfolding carried
bad_kept b = refl

cut_kept : (b : ℕ) → carried b Cut ≡ Cut
unfolding carried
cut_kept b = refl

-- a last group of 0 after another
zero_after : (tape : List ℕ) (k n at : ℕ) → GoesOn tape at (suc k) → at + suc k < length tape → get_or tape (at + suc k) 0 ≡ 0 → read_groups last (suc k + suc n) tape at ≡ Bad
unfolding carried
zero_after tape k n at g h z =
    let e : at + suc k ≡ at + k + 1 = omega arith in
    let s : suc k + suc n ≡ k + suc (suc n) = omega arith in
    let r : read_groups last (suc n) tape (at + k + 1) ≡ Value 0 (at + k + 1 + 1) = step_ends last n tape (at + k + 1) 0 (rw e at h) (sym (rw e at z)) (omega arith) in
    rw s (through tape Bad bad_kept k (suc n) at (record { there = λ i l. g.there i (omega arith); high = λ i l. g.high i (omega arith) })
    (step_more last (suc n) tape (at + k) _ (g.there k (omega arith)) refl (omega (arith, limit_small last (suc n) (omega arith), g.high k (omega arith))) ∙ ap (carried (get_or tape (at + k) 0)) r))

breaks_bad : (n : ℕ) (tape : List ℕ) (at k : ℕ) → Breaks n tape at k → read_groups last n tape at ≡ Bad
unfolding limit_of read_groups
breaks_bad n tape at k q = ⊎_elim (λ w. zero_group k w.0 w.1 q.within q.before q.there) over q.broken
  where
    zero_group : (k : ℕ) → 0 < k → get_or tape (at + k) 0 ≡ 0 → k < n → GoesOn tape at k → at + k < length tape → read_groups last n tape at ≡ Bad
    zero_group zero p z w g h = absurd (omega arith)
    zero_group (suc k) p z w g h =
        let e : n ≡ suc k + suc (n - suc (suc k)) = omega arith in
        rw e (zero_after tape k (n - suc (suc k)) at g h z)

    over : (k + 1 ≡ n) × (last < get_or tape (at + k) 0) → read_groups last n tape at ≡ Bad
    over w = rw (sym w.0) (through tape Bad bad_kept k 0 at q.before (step_more last 0 tape (at + k) _ q.there refl w.1 ∙ bad_kept (get_or tape (at + k) 0)))

ends_cut : (n : ℕ) (tape : List ℕ) (at k : ℕ) → EndsAfter n tape at k → read_groups last n tape at ≡ Cut
ends_cut n tape at k q =
    let e : n ≡ k + suc (n - suc k) = let w = q.within in omega arith in
    rw e (through tape Cut cut_kept k (n - suc k) at q.before (step_cut last (n - suc k) tape (at + k) q.ends))

-- ---- and back

inv_step : (left : ℕ) (tape : List ℕ) (at : ℕ) (x : Groups) → read_groups last (suc left) tape at ≡ x
    → ((length tape ≤ at) × (Cut ≡ x)) ⊎ ((at < length tape) × (((q : ℕ) × (v : ℕ) × (Value v q ≡ x)) ⊎ ((limit_of last left < get_or tape at 0) × (carried (get_or tape at 0) (read_groups last left tape (at + 1)) ≡ x))))
unfolding read_groups
inv_step left tape at x e = go (ltb at (length tape)) (leb (get_or tape at 0) (limit_of last left)) refl refl e
  where
    go : (t u : Bool) → ltb at (length tape) ≡ t → leb (get_or tape at 0) (limit_of last left) ≡ u
        → cond t (cond u (Value (get_or tape at 0) (at + 1)) (carried (get_or tape at 0) (read_groups last left tape (at + 1)))) Cut ≡ x
        → ((length tape ≤ at) × (Cut ≡ x)) ⊎ ((at < length tape) × (((q : ℕ) × (v : ℕ) × (Value v q ≡ x)) ⊎ ((limit_of last left < get_or tape at 0) × (carried (get_or tape at 0) (read_groups last left tape (at + 1)) ≡ x))))
    go true true a b e = inr (ltb-true at (length tape) a, inl (at + 1, get_or tape at 0, e))
    go true false a b e = inr (ltb-true at (length tape) a, inr (leb-false (get_or tape at 0) (limit_of last left) b, e))
    go false u a b e = inl (ltb-false at (length tape) a, e)

carried_bad : (b : ℕ) (g : Groups) → carried b g ≡ Bad → (g ≡ Bad) ⊎ ((q : ℕ) × (g ≡ Value 0 q))
unfolding carried
carried_bad b (Value zero q) e = inr (q, refl)
carried_bad b (Value (suc v) q) e = absurd (let z : ◌≡◌ {A = ℕ} 0 1 = cc in omega arith)
carried_bad b Cut e = absurd (let z : ◌≡◌ {A = ℕ} 0 1 = cc in omega arith)
carried_bad b Bad e = inl refl

carried_cut : (b : ℕ) (g : Groups) → carried b g ≡ Cut → g ≡ Cut
unfolding carried
carried_cut b (Value zero q) e = absurd (let z : ◌≡◌ {A = ℕ} 0 1 = cc in omega arith)
carried_cut b (Value (suc v) q) e = absurd (let z : ◌≡◌ {A = ℕ} 0 1 = cc in omega arith)
carried_cut b Cut e = refl
carried_cut b Bad e = absurd (let z : ◌≡◌ {A = ℕ} 0 1 = cc in omega arith)

-- the number 0 is one byte
zero_byte : (left q : ℕ) (tape : List ℕ) (p : ℕ) → read_groups last (suc left) tape p ≡ Value 0 q → (p < length tape) × (get_or tape p 0 ≡ 0)
zero_byte left q tape p e =
    let i = inv_read last left 0 q tape p e in
    (i.0, ⊎_elim (λ w. sym w.1) (λ w. absurd (let z = w.1.2 in omega arith)) i.1)

bad_breaks : (left : ℕ) (tape : List ℕ) (at : ℕ) → read_groups last (suc left) tape at ≡ Bad → (k : ℕ) × Breaks (suc left) tape at k
unfolding limit_of read_groups
bad_breaks zero tape at e =
    ⊎_elim
    (λ w. absurd (let z : ◌≡◌ {A = ℕ} 0 1 = cc w.1 in omega arith))
    (λ w.
    ⊎_elim
    (λ v. absurd (let z : ◌≡◌ {A = ℕ} 0 1 = cc v.2 in omega arith))
    (λ v. (0, record { within = omega arith; before = none_yet tape at; there = rw add-zero w.0; broken = inr (omega arith, rw add-zero v.0) }))
    w.1)
    (inv_step zero tape at Bad e)
bad_breaks (suc left) tape at e =
    ⊎_elim
    (λ w. absurd (let z : ◌≡◌ {A = ℕ} 0 1 = cc w.1 in omega arith))
    (λ w.
    ⊎_elim
    (λ v. absurd (let z : ◌≡◌ {A = ℕ} 0 1 = cc v.2 in omega arith))
    (λ v.
    ⊎_elim
    (λ g. shifted w.0 v.0 (bad_breaks left tape (at + 1) g))
    (λ g. let y = zero_byte left g.0 tape (at + 1) g.1 in (1, record { within = omega arith; before = one_more tape at 0 w.0 v.0 (none_yet tape (at + 1)); there = y.0; broken = inl (omega arith, y.1) }))
    (carried_bad (get_or tape at 0) (read_groups last (suc left) tape (at + 1)) v.1))
    w.1)
    (inv_step (suc left) tape at Bad e)
  where
    shifted : at < length tape → 127 < get_or tape at 0 → (k : ℕ) × Breaks (suc left) tape (at + 1) k → (k : ℕ) × Breaks (suc (suc left)) tape at k
    shifted h b q =
        let (k, p) = q in
        let s : at + suc k ≡ at + 1 + k = omega arith in
        (suc k, record { within = omega (arith, p.within); before = one_more tape at k h b p.before; there = rw s p.there; broken = rw s (⊎_elim (λ y. inl (omega arith, y.1)) (λ y. inr (omega (arith, y.0), y.1)) p.broken) })

cut_ends : (left : ℕ) (tape : List ℕ) (at : ℕ) → read_groups last (suc left) tape at ≡ Cut → (k : ℕ) × EndsAfter (suc left) tape at k
unfolding limit_of read_groups carried
cut_ends zero tape at e =
    ⊎_elim
    (λ w. (0, record { within = omega arith; before = none_yet tape at; ends = rw add-zero w.0 }))
    (λ w. absurd (⊎_elim (λ v. let z : ◌≡◌ {A = ℕ} 0 1 = cc v.2 in omega arith) (λ v. let z : ◌≡◌ {A = ℕ} 0 1 = cc v.1 in omega arith) w.1))
    (inv_step zero tape at Cut e)
cut_ends (suc left) tape at e =
    ⊎_elim
    (λ w. (0, record { within = omega arith; before = none_yet tape at; ends = rw add-zero w.0 }))
    (λ w.
    ⊎_elim
    (λ v. absurd (let z : ◌≡◌ {A = ℕ} 0 1 = cc v.2 in omega arith))
    (λ v. shifted w.0 v.0 (cut_ends left tape (at + 1) (carried_cut (get_or tape at 0) (read_groups last (suc left) tape (at + 1)) v.1)))
    w.1)
    (inv_step (suc left) tape at Cut e)
  where
    shifted : at < length tape → 127 < get_or tape at 0 → (k : ℕ) × EndsAfter (suc left) tape (at + 1) k → (k : ℕ) × EndsAfter (suc (suc left)) tape at k
    shifted h b q =
        let (k, p) = q in
        let s : at + suc k ≡ at + 1 + k = omega arith in
        (suc k, record { within = omega (arith, p.within); before = one_more tape at k h b p.before; ends = rw s p.ends })

-- ---- the refusals

-- a refused number is refused with 5 or 6, at its start
pub refused_at_lem : (tape : List ℕ) (at : ℕ) (r : Refused) → number_at tape at ≡ Err r → r.place ≡ at
unfolding number_at refusing
refused_at_lem tape at r e = go (read_groups last groups tape at) e
  where
    go : (g : Groups) → refusing at g ≡ Err r → r.place ≡ at
    go (Value v q) e = absurd (let z : ◌≡◌ {A = ℕ} 0 1 = cc in omega arith)
    go Cut e = let z : record { refusal = why.Cut; place = at } ≡ r = cc in ap (λ (x : Refused). x.place) (sym z)
    go Bad e = let z : record { refusal = why.BadNumber; place = at } ≡ r = cc in ap (λ (x : Refused). x.place) (sym z)

told_bad : (at : ℕ) (g : Groups) → (number_told (refusing at g)).refusal ≡ 6 → g ≡ Bad
unfolding refusing number_told
told_bad at (Value v q) e = absurd (omega arith)
told_bad at Cut e = absurd (omega arith)
told_bad at Bad e = refl

told_cut : (at : ℕ) (g : Groups) → (number_told (refusing at g)).refusal ≡ 5 → g ≡ Cut
unfolding refusing number_told
told_cut at (Value v q) e = absurd (omega arith)
told_cut at Cut e = refl
told_cut at Bad e = absurd (omega arith)

told_only : (at : ℕ) (g : Groups)
    → ((v : ℕ) × (next : ℕ) × (number_told (refusing at g) ≡ record { refusal = 0; place = next; numbers = v ∷ [] }))
    ⊎ ((number_told (refusing at g) ≡ record { refusal = 6; place = at; numbers = [] }) ⊎ (number_told (refusing at g) ≡ record { refusal = 5; place = at; numbers = [] }))
unfolding refusing number_told
told_only at (Value v q) = inl (v, q, refl)
told_only at Cut = inr (inr refl)
told_only at Bad = inr (inl refl)

pub refuses_exactly : RefusesExactly
unfolding RefusesExactly told_at number_at refusing number_told
refuses_exactly tape at =
    record {
      bad = λ e. bad_breaks (groups - 1) tape at (told_bad at (read_groups last groups tape at) e);
      broken = λ k q. ap (λ (g : Groups). number_told (refusing at g)) (breaks_bad groups tape at k q);
      cuts = λ e. cut_ends (groups - 1) tape at (told_cut at (read_groups last groups tape at) e);
      ended = λ k q. ap (λ (g : Groups). number_told (refusing at g)) (ends_cut groups tape at k q);
      only = told_only at (read_groups last groups tape at);
    }
