-- A number's round trips: reading what was spelled gives the number, and what was read is its spelling.
use Prim.Native.Nat.{ℕ, zero, suc, ◌+◌, ◌*◌, ◌/◌, ◌%◌, ◌-◌, ◌≤◌, ◌<◌}
use native.Mathlib.Omega.{arith}
use mathlib.Core.Path.{◌≡◌, refl, sym, ap, ap₂, ◌∙◌}
use mathlib.Core.Logic.{◌⊎◌, inl, inr, ⊎_elim}
use mathlib.Core.List.{List, [], ◌∷◌, ◌++◌}
use mathlib.Core.Bool.{Bool, true, false, cond}
use lib.ListN.{length, get_or}
use lib.Dec.{ltb, leb}
use borrow.Author.Tests.{ltb-true, ltb-false, leb-true, leb-false, lt-ltb, le-ltb}
use Rattle.number.specs.Number.{groups, last, Groups, Value, Cut, Bad, limit_of, carried, read_groups, refusing, number_at, spell_groups, spell, Bytes}
use Rattle.std.specs.Prelude.{Ok}
use Rattle.number.specs.Spelling.{SpellsEach, SpellsOnly}
use Rattle.number.proofs.AnswerLaws.{ok_pair}
use Rattle.number.proofs.GroupLaws.{step_ends, step_more, top, top_above, limit_small}
use Rattle.number.proofs.StandsLaws.{Stands, stands_in, stands_take}

pub spell_one : (left n : ℕ) → n < 128 → spell_groups (suc left) n ≡ n ∷ []
unfolding spell_groups
spell_one left n h = rw (lt-ltb n 128 h)

pub spell_more : (left n : ℕ) → 128 ≤ n → spell_groups (suc left) n ≡ (n % 128 + 128) ∷ spell_groups left (n / 128)
unfolding spell_groups
spell_more left n h = rw (le-ltb n 128 h)

at_least : (n : ℕ) → 128 ≤ n → n / 128 ≡ suc (n / 128 - 1)
at_least n h = omega arith

module _ (most : ℕ) (small : most < 128) where
  -- a byte with its high bit set goes before the others
  more_step : (left b n q : ℕ) (tape : List ℕ) (p : ℕ) → limit_of most left < b → p < length tape → get_or tape p 0 ≡ b → read_groups most left tape (p + 1) ≡ Value (suc n) q → read_groups most (suc left) tape p ≡ Value (suc n * 128 + b % 128) q
  unfolding carried
  more_step left b n q tape p l h e r = step_more most left tape p b h (sym e) l ∙ ap (carried b) r

  read_one : (left n : ℕ) (tape : List ℕ) (p : ℕ) → n ≤ limit_of most left → n < 128 → Stands tape (spell_groups (suc left) n) p → read_groups most (suc left) tape p ≡ Value n (p + length (spell_groups (suc left) n))
  read_one left n tape p l h s =
      let u : Stands tape (n ∷ []) p = rw (spell_one left n h) at s in
      rw (spell_one left n h) (step_ends most left tape p n u.0 (sym u.1) l)

  pub read_spelled : (left n : ℕ) (tape : List ℕ) (p : ℕ) → n < top most left → Stands tape (spell_groups (suc left) n) p → read_groups most (suc left) tape p ≡ Value n (p + length (spell_groups (suc left) n))
  unfolding top limit_of
  read_spelled zero n tape p l s = read_one zero n tape p (omega arith) (omega arith) s
  read_spelled (suc left) n tape p l s = go (ltb n 128) refl (λ u. read_spelled left (n / 128) tape (p + 1) (omega arith) u)
    where
      go : (t : Bool) → ltb n 128 ≡ t → (Stands tape (spell_groups (suc left) (n / 128)) (p + 1) → read_groups most (suc left) tape (p + 1) ≡ Value (n / 128) (p + 1 + length (spell_groups (suc left) (n / 128))))
          → read_groups most (suc (suc left)) tape p ≡ Value n (p + length (spell_groups (suc (suc left)) n))
      go true e ih = read_one (suc left) n tape p (omega (arith, ltb-true n 128 e)) (ltb-true n 128 e) s
      go false e ih =
          let h : 128 ≤ n = ltb-false n 128 e in
          let u : Stands tape ((n % 128 + 128) ∷ spell_groups (suc left) (n / 128)) p = rw (spell_more (suc left) n h) at s in
          rw (spell_more (suc left) n h)
          (more_step (suc left) (n % 128 + 128) (n / 128 - 1) _ tape p (omega arith) u.0 u.1 (ih u.2 ∙ ap (λ (k : ℕ). Value k (p + 1 + length (spell_groups (suc left) (n / 128)))) (at_least n h))
          ∙ ap₂ Value (omega arith) (omega arith))

inv_carried : (b : ℕ) (g : Groups) (n q : ℕ) → carried b g ≡ Value n q → (v : ℕ) × (g ≡ Value (suc v) q) × (n ≡ suc v * 128 + b % 128)
unfolding carried
inv_carried b (Value zero r) n q e = absurd (let z : ◌≡◌ {A = ℕ} 0 1 = cc in omega arith)
inv_carried b (Value (suc v) r) n q e = (v, cc, cc)
inv_carried b Cut n q e = absurd (let z : ◌≡◌ {A = ℕ} 0 1 = cc in omega arith)
inv_carried b Bad n q e = absurd (let z : ◌≡◌ {A = ℕ} 0 1 = cc in omega arith)

inv_cond : (t u : Bool) (x r : ℕ) (g : Groups) (n q : ℕ) → cond t (cond u (Value x r) g) Cut ≡ Value n q
    → (t ≡ true) × (((u ≡ true) × (n ≡ x) × (q ≡ r)) ⊎ ((u ≡ false) × (g ≡ Value n q)))
inv_cond true true x r g n q e = (refl, inl (refl, cc, cc))
inv_cond true false x r g n q e = (refl, inr (refl, e))
inv_cond false u x r g n q e = absurd (let z : ◌≡◌ {A = ℕ} 0 1 = cc in omega arith)

-- the bytes that were read are the spelling
abbrev Was : ℕ → ℕ → ℕ → List ℕ → ℕ → Type 0
Was left n q tape p = Stands tape (spell_groups left n) p × (q ≡ p + length (spell_groups left n))

was_more : (left n q : ℕ) (tape : List ℕ) (p v : ℕ) → p < length tape → 127 < get_or tape p 0 → get_or tape p 0 < 256 → Was left (suc v) q tape (p + 1) → n ≡ suc v * 128 + get_or tape p 0 % 128 → Was (suc left) n q tape p
was_more left n q tape p v h l u w e =
    let d : n / 128 ≡ suc v = omega arith in
    let m : get_or tape p 0 ≡ n % 128 + 128 = omega arith in
    rw (spell_more left n (omega arith), d) ((h, m, w.0), omega (arith, w.1))

-- how a number was read
pub inv_read : (most left n q : ℕ) (tape : List ℕ) (p : ℕ) → read_groups most (suc left) tape p ≡ Value n q
    → (p < length tape) × (((n ≤ limit_of most left) × (n ≡ get_or tape p 0) × (q ≡ p + 1))
    ⊎ ((limit_of most left < get_or tape p 0) × ((v : ℕ) × (read_groups most left tape (p + 1) ≡ Value (suc v) q) × (n ≡ suc v * 128 + get_or tape p 0 % 128))))
unfolding read_groups
inv_read most left n q tape p e =
    let i = inv_cond (ltb p (length tape)) (leb (get_or tape p 0) (limit_of most left)) (get_or tape p 0) (p + 1) (carried (get_or tape p 0) (read_groups most left tape (p + 1))) n q e in (
      ltb-true p (length tape) i.0,
      ⊎_elim (λ w. inl (omega (arith, leb-true (get_or tape p 0) (limit_of most left) w.0), w.1, w.2))
          (λ w. inr (leb-false (get_or tape p 0) (limit_of most left) w.0, inv_carried (get_or tape p 0) (read_groups most left tape (p + 1)) n q w.1)) i.1,
    )

module _ (most : ℕ) (small : most < 128) where
  was_one : (left n q : ℕ) (tape : List ℕ) (p : ℕ) → p < length tape → n ≤ limit_of most left → n ≡ get_or tape p 0 → q ≡ p + 1 → Was (suc left) n q tape p
  was_one left n q tape p h l e r = rw (spell_one left n (omega (arith, limit_small most left small))) ((h, sym e, tt), r)

  pub spelled_read : (left n q : ℕ) (tape : List ℕ) (p : ℕ) → Bytes tape → read_groups most (suc left) tape p ≡ Value n q → Was (suc left) n q tape p
  unfolding Bytes read_groups limit_of
  spelled_read zero n q tape p all e =
      let i = inv_read most zero n q tape p e in
      ⊎_elim (λ w. was_one zero n q tape p i.0 w.0 w.1 w.2) (λ w. absurd (let z : ◌≡◌ {A = ℕ} 0 1 = cc w.1.1 in omega arith)) i.1
  spelled_read (suc left) n q tape p all e =
      let i = inv_read most (suc left) n q tape p e in
      ⊎_elim (λ w. was_one (suc left) n q tape p i.0 w.0 w.1 w.2)
      (λ w. was_more (suc left) n q tape p w.1.0 i.0 w.0 (all p) (spelled_read left (suc w.1.0) q tape (p + 1) all w.1.1) w.1.2) i.1

-- reading groups moves on, and stays on the tape
groups_move : (most left n q : ℕ) (tape : List ℕ) (p : ℕ) → read_groups most left tape p ≡ Value n q → (p < q) × (q ≤ length tape)
unfolding read_groups
groups_move most zero n q tape p e = absurd (let z : ◌≡◌ {A = ℕ} 0 1 = cc in omega arith)
groups_move most (suc left) n q tape p e =
    let i = inv_read most left n q tape p e in
    ⊎_elim (λ w. (omega arith, omega arith)) (λ w. let m = groups_move most left (suc w.1.0) q tape (p + 1) w.1.1 in (omega arith, m.1)) i.1

-- groups mean less than their top
groups_below : (most left n q : ℕ) (tape : List ℕ) (p : ℕ) → read_groups most (suc left) tape p ≡ Value n q → n < top most left
unfolding read_groups limit_of top
groups_below most zero n q tape p e =
    let i = inv_read most zero n q tape p e in
    ⊎_elim (λ w. omega (arith, w.0)) (λ w. absurd (let z : ◌≡◌ {A = ℕ} 0 1 = cc w.1.1 in omega arith)) i.1
groups_below most (suc left) n q tape p e =
    let i = inv_read most (suc left) n q tape p e in
    ⊎_elim (λ w. omega (arith, w.0, top_above most left)) (λ w. omega (arith, w.1.2, groups_below most left (suc w.1.0) q tape (p + 1) w.1.1)) i.1

-- the numbers that can be spelled are those below this: those of 64 bits
unfoldable pub limit : ℕ
limit = top last (groups - 1)

pub limit_64_bits : (n : ℕ) → n ≤ 18446744073709551615 → n < limit
unfolding limit top
limit_64_bits n h = omega arith

within_64_bits : (n : ℕ) → n < limit → n ≤ 18446744073709551615
unfolding limit top
within_64_bits n h = omega arith

-- the two laws of a number, and that reading moves on
pub number_of_spelled : (n : ℕ) (tape : List ℕ) (p : ℕ) → n < limit → Stands tape (spell n) p → number_at tape p ≡ Ok (n, p + length (spell n))
unfolding number_at spell limit refusing
number_of_spelled n tape p l s = ap (refusing p) (read_spelled last (omega arith) (groups - 1) n tape p l s)

inv_refusing : (p : ℕ) (g : Groups) (n q : ℕ) → refusing p g ≡ Ok (n, q) → g ≡ Value n q
unfolding refusing
inv_refusing p (Value v r) n q e = let (a, b) = ok_pair e in rw (a, b)
inv_refusing p Cut n q e = absurd (let z : ◌≡◌ {A = ℕ} 0 1 = cc in omega arith)
inv_refusing p Bad n q e = absurd (let z : ◌≡◌ {A = ℕ} 0 1 = cc in omega arith)

pub spelled_of_number : (n q : ℕ) (tape : List ℕ) (p : ℕ) → Bytes tape → number_at tape p ≡ Ok (n, q) → Stands tape (spell n) p × (q ≡ p + length (spell n))
unfolding number_at spell
spelled_of_number n q tape p all e = spelled_read last (omega arith) (groups - 1) n q tape p all (inv_refusing p (read_groups last groups tape p) n q e)

pub number_moves : (n q : ℕ) (tape : List ℕ) (p : ℕ) → number_at tape p ≡ Ok (n, q) → (p < q) × (q ≤ length tape)
unfolding number_at
number_moves n q tape p e = groups_move last groups n q tape p (inv_refusing p (read_groups last groups tape p) n q e)

-- ---- every 64-bit number has one spelling, and nothing else is read

pub spells_each : SpellsEach
unfolding SpellsEach
spells_each n h before after = number_of_spelled n (before ++ (spell n ++ after)) (length before) (limit_64_bits n h) (stands_in (spell n) before after)

pub spells_only : SpellsOnly
unfolding SpellsOnly number_at limit
spells_only tape at n next all e =
    let (s, d) = spelled_of_number n next tape at all e in
    let k : next - at ≡ length (spell n) = omega arith in
    (within_64_bits n (groups_below last (groups - 1) n next tape at (inv_refusing at (read_groups last groups tape at) n next e)), rw k (stands_take (spell n) tape at s))
