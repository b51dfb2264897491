-- A record is refused at the start of the refused number.
use Prim.Native.Nat.{ℕ}
use native.Mathlib.Omega.{arith}
use mathlib.Core.Path.{◌≡◌, refl, sym}
use mathlib.Core.Logic.{◌⊎◌, inl, inr, ⊎_elim}
use mathlib.Core.List.{List, [], ◌∷◌}
use mathlib.Core.Bool.{Bool, true, false, cond}
use lib.Dec.{eqb}
use lib.ListN.{length}
use Rattle.order.specs.declared.Command.{Command}
use Rattle.order.specs.Command.{command_of}
use Rattle.order.specs.declared.Refusal.TheVariants as why
use Rattle.std.specs.Prelude.{Option, None, Some, Result, Ok, Err}
use Rattle.std.specs.Option.{option_map_or}
use Rattle.number.specs.declared.Refused.{Refused}
use Rattle.number.proofs.AnswerLaws.{err_parts}
use Rattle.number.specs.Number.{number_at}
use Rattle.number.proofs.RefusalLaws.{refused_at_lem}
use Rattle.tape_format.specs.declared.Rule.{Rule}
use Rattle.tape_format.specs.declared.Record.{Record}
use Rattle.tape_format.specs.Field.{allowed, ruled, field_at}
use Rattle.tape_format.specs.Record.{Layout, field, command, end, layout_of, and_then, and_command, fields_at, kind_at, record_at}
use Rattle.tape_format.specs.Refused.{Reads, Bans, Refuses, RefusedAt, RefusedPlace}
use Rattle.tape_format.proofs.FieldLaws.{field_number}

module _ (r : Refused) where
  inv_then : (f : Result (ℕ × ℕ) Refused) (step : ℕ → ℕ → Result (Option (Record × ℕ)) Refused) → and_then f step ≡ Err r → (f ≡ Err r) ⊎ ((v : ℕ) × (q : ℕ) × (f ≡ Ok (v, q)) × (step v q ≡ Err r))
  unfolding and_then
  inv_then (Ok (v, q)) step e = inr (v, q, refl, e)
  inv_then (Err x) step e = inl cc

  inv_command : (f : Option Command) (at : ℕ) (step : Command → Result (Option (Record × ℕ)) Refused) → and_command f at step ≡ Err r → ((f ≡ None) × (r.refusal ≡ why.FieldRange) × (at ≡ r.place)) ⊎ ((c : Command) × (f ≡ Some c) × (step c ≡ Err r))
  unfolding and_command
  inv_command (Some c) at step e = inr (c, refl, e)
  inv_command None at step e = let (a, b) = err_parts e in inl (refl, sym a, b)

  inv_ruled : (rule : Rule) (at : ℕ) (f : Result (ℕ × ℕ) Refused) → ruled rule at f ≡ Err r → (f ≡ Err r) ⊎ ((v : ℕ) × (q : ℕ) × (f ≡ Ok (v, q)) × (allowed rule v ≡ false) × (r.refusal ≡ why.FieldRange) × (at ≡ r.place))
  unfolding ruled
  inv_ruled rule at (Ok (v, q)) e = go (allowed rule v) refl e
    where
      go : (t : Bool) → allowed rule v ≡ t → cond {A = Result (ℕ × ℕ) Refused} t (Ok (v, q)) (Err (record { refusal = why.FieldRange; place = at })) ≡ Err r
          → (◌≡◌ {A = Result (ℕ × ℕ) Refused} (Ok (v, q)) (Err r)) ⊎ ((w : ℕ) × (p : ℕ) × (◌≡◌ {A = Result (ℕ × ℕ) Refused} (Ok (v, q)) (Ok (w, p))) × (allowed rule w ≡ false) × (r.refusal ≡ why.FieldRange) × (at ≡ r.place))
      go true t e = inl e
      go false t e = let (a, b) = err_parts e in inr (v, q, refl, t, sym a, b)
  inv_ruled rule at (Err x) e = inl e

-- the field that is refused, and those before it
abbrev Fields : Layout → List ℕ → ℕ → Refused → Type 0
Fields l tape at r =
    (ns : List ℕ) × Reads tape at ns r.place × ((number_at tape r.place ≡ Err r) ⊎ ((v : ℕ) × (next : ℕ) × (number_at tape r.place ≡ Ok (v, next)) × Bans l ns v × (r.refusal ≡ why.FieldRange)))

-- the first of them
itself : (l : Layout) (tape : List ℕ) (at : ℕ) (r : Refused) → number_at tape at ≡ Err r → Fields l tape at r
itself l tape at r e = let p : r.place ≡ at = refused_at_lem tape at r e in ([], sym p, inl (rw (sym p) at e))

fields_refused : (l : Layout) (tape : List ℕ) (at : ℕ) (r : Refused) → fields_at l tape at ≡ Err r → Fields l tape at r
unfolding fields_at field_at Bans
fields_refused (field rule more) tape at r e =
    ⊎_elim
    (λ (f : field_at rule tape at ≡ Err r).
    ⊎_elim (itself (field rule more) tape at r)
    (λ w. let (v, q, n, a, m, p) = w in ([], p, inr (v, q, rw p at n, a, m))) (inv_ruled r rule at (number_at tape at) f))
    (λ w.
    let (v, q, f, g) = w in
    let (n, a) = field_number rule tape at v q f in
    let (ns, s, h) = fields_refused (more v) tape q r g in
    (v ∷ ns, (q, n, s), ⊎_elim inl (λ b. inr (b.0, b.1, b.2, (a, b.3), b.4)) h))
    (inv_then r (field_at rule tape at) _ e)
fields_refused (command more) tape at r e =
    ⊎_elim (itself (command more) tape at r)
    (λ w.
    let (v, q, n, g) = w in
    ⊎_elim (λ u. ([], u.2, inr (v, q, rw u.2 at n, u.0, u.1)))
    (λ u.
    let (c, k, i) = u in
    let (ns, s, h) = fields_refused (more c) tape q r i in
    (v ∷ ns, (q, n, s), ⊎_elim inl (λ b. inr (b.0, b.1, b.2, (c, k, b.3), b.4)) h))
    (inv_command r (command_of v) at _ g))
    (inv_then r (number_at tape at) _ e)
fields_refused (end x) tape at r e = absurd (let z : ◌≡◌ {A = ℕ} 0 1 = cc in omega arith)

kind_refused : (tape : List ℕ) (at kind first : ℕ) (r : Refused) (o : Option Layout) → layout_of kind ≡ o → number_at tape at ≡ Ok (kind, first)
    → option_map_or (λ l. fields_at l tape first) o (Err (record { refusal = why.UnknownKind; place = at })) ≡ Err r → RefusedAt tape at r
unfolding Refuses
kind_refused tape at kind first r None l n e =
    let (a, p) = err_parts e in
    record { numbers = []; before = p; refused = inr (kind, first, rw p at n, (l, sym a)) }
kind_refused tape at kind first r (Some layout) l n e =
    let (ns, s, h) = fields_refused layout tape first r e in
    record { numbers = kind ∷ ns; before = (first, n, s); refused = ⊎_elim inl (λ b. inr (b.0, b.1, b.2, (layout, l, b.3, b.4))) h }

pub refused_place : RefusedPlace
unfolding RefusedPlace record_at kind_at
refused_place tape at r e = go (eqb at (length tape)) e
  where
    go : (t : Bool) → cond t (Ok None) (and_then (number_at tape at) λ kind first. kind_at tape at kind first) ≡ Err r → RefusedAt tape at r
    go true e = absurd (let z : ◌≡◌ {A = ℕ} 0 1 = cc in omega arith)
    go false e =
        ⊎_elim
        (λ (n : number_at tape at ≡ Err r). let p : r.place ≡ at = refused_at_lem tape at r n in record { numbers = []; before = sym p; refused = inl (rw (sym p) at n) })
        (λ w. kind_refused tape at w.0 w.1 r (layout_of w.0) refl w.2 w.3)
        (inv_then r (number_at tape at) (λ (kind first : ℕ). kind_at tape at kind first) e)
