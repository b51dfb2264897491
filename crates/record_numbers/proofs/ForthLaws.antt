-- Numbers that name a record in range begin with that record's own.
use Prim.Native.Nat.{ℕ}
use native.Mathlib.Omega.{arith}
use mathlib.Core.Path.{◌≡◌, refl, sym, subst, ◌∙◌}
use mathlib.Core.Bool.{Bool, true, false, cond}
use mathlib.Core.List.{List, ◌∷◌, ◌++◌}
use lib.ListN.{length, get_or}
use lib.Dec.{eqb}
use borrow.Author.Tests.{eqb-true}
use Rattle.std.specs.Prelude.{Ok, Err}
use Rattle.order.specs.declared.Refusal.TheVariants.{FieldRange}
use Rattle.tape_format.specs.Record.{kind_of, fields_of}
use Rattle.record_numbers.proofs.SevenLaws.{seven}
use Rattle.record_numbers.proofs.NamesLaws.{Begins, Names, l, of_kind}
use Rattle.record_numbers.specs.Entry.{kind_from, record_from, Forth}

pub forth : Forth
unfolding Forth record_from Names Begins l
forth numbers r e h = go (eqb (length numbers) 7) refl e
  where
    go : (t : Bool) → eqb (length numbers) 7 ≡ t → cond t (kind_from (get_or numbers 0 0) (get_or numbers 1 0) (get_or numbers 2 0) (get_or numbers 3 0) (get_or numbers 4 0) (get_or numbers 5 0) (get_or numbers 6 0)) (Err FieldRange) ≡ Ok r
        → (behind : List ℕ) × (numbers ≡ (kind_of r ∷ fields_of r) ++ behind)
    go true t x =
        let n = of_kind (get_or numbers 0 0) (get_or numbers 1 0) (get_or numbers 2 0) (get_or numbers 3 0) (get_or numbers 4 0) (get_or numbers 5 0) (get_or numbers 6 0) in
        let (behind, q) = subst (Names _) x n h in
        (behind, sym (seven numbers (eqb-true (length numbers) 7 t)) ∙ q)
    go false t x = absurd (let z : ◌≡◌ {A = ℕ} 0 1 = cc in omega arith)
