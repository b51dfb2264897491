-- The numbers of a record in an array of seven: no more than seven, and the first of the array.
use Prim.Native.Nat.{ℕ, ◌+◌, ◌-◌, ◌≤◌}
use native.Mathlib.Omega.{arith}
use mathlib.Core.Path.{◌≡◌, refl, sym, ap, ◌∙◌}
use mathlib.Core.List.{List, ◌∷◌, ◌++◌}
use lib.ListN.{length, take, drop, replicate, length-append, length-drop}
use lib.Seq.{take-append-add, take-append_seam}
use Rattle.std.proofs.lemmas.List.{take-replicate, drop-replicate}
use Rattle.tape_format.specs.declared.Record.{Record}
use Rattle.tape_format.specs.declared.Record.TheVariants as rec
use Rattle.tape_format.specs.Record.{kind_of, fields_of}
use Rattle.tape_writer.specs.Numbers.{padded}

-- seven places of 0, with numbers put into the first of them
pub padded_part : (ns : List ℕ) (n : ℕ) → length ns ≡ n → n ≤ 7 → ns ++ drop n (replicate 7 0) ≡ padded ns
unfolding padded
padded_part ns n e h =
    let k : 7 ≡ length ns + (7 - n) = omega arith in
    let rest : drop n (replicate 7 0) ≡ take (7 - n) (replicate 7 0) = drop-replicate n 7 0 ∙ sym (take-replicate (7 - n) 7 0 (omega arith)) in
    ap (λ (t : List ℕ). ns ++ t) rest ∙ sym (take-append-add ns (replicate 7 0) (7 - n)) ∙ ap (λ (m : ℕ). take m (ns ++ replicate 7 0)) (sym k)

pub few : (r : Record) → length (kind_of r ∷ fields_of r) ≤ 7
unfolding kind_of fields_of
few (rec.Load u a) = omega arith
few (rec.Store u a v) = omega arith
few (rec.Flush u b) = omega arith
few (rec.Order o) = omega arith
few (rec.Answer f t a c) = omega arith
few (rec.Register f t a w x b) = omega arith
few (rec.Loaded u v) = omega arith
few (rec.Stamp c) = omega arith

pub record Spells (ns : List ℕ) (count : ℕ) (values : List ℕ) : Type 0 where
  pub few : count ≤ 7
  pub long : length values ≡ 7
  pub same : take count values ≡ ns

pub numbers_spell : (r : Record) (count : ℕ) (values : List ℕ)
    → (count ≡ length (kind_of r ∷ fields_of r)) × (values ≡ padded (kind_of r ∷ fields_of r)) → Spells (kind_of r ∷ fields_of r) count values
numbers_spell r count values e =
    let ns : List ℕ = kind_of r ∷ fields_of r in
    let padding : List ℕ = drop (length ns) (replicate 7 0) in
    let p : padded ns ≡ ns ++ padding = sym (padded_part ns (length ns) refl (few r)) in
    record {
      few = omega (arith, e.0, few r);
      long = rw (e.1, p) (length-append ns padding ∙ (let z : List ℕ = replicate 7 0 in let d : length padding ≡ 7 - length ns = length-drop (length ns) z in omega (arith, few r)));
      same = rw (e.0, e.1, p) (take-append_seam ns padding);
    }
