-- Reading by a layout, backwards and forwards: a record was read exactly where its kind and fields stand on the tape as numbers that the layout allows.
use Prim.Native.Nat.{ℕ, zero, suc, ◌≤◌, ◌<◌}
use native.Mathlib.Omega.{arith}
use mathlib.Core.Path.{◌≡◌, refl, sym, ap, ◌∙◌}
use mathlib.Core.Logic.{◌⊎◌, inl, inr}
use mathlib.Core.List.{List, [], ◌∷◌}
use mathlib.Core.Bool.{Bool, true, false, cond}
use lib.Dec.{eqb}
use lib.ListN.{length}
use borrow.Author.Tests.{eqb-true, ne_eqb}
use Rattle.order.specs.declared.Command.{Command}
use Rattle.order.specs.Command.{command_number, command_of}
use Rattle.order.specs.declared.Refusal.TheVariants as why
use Rattle.std.specs.Prelude.{Option, None, Some, Result, Ok, Err}
use Rattle.std.specs.Option.{option_map_or}
use Rattle.number.specs.declared.Refused.{Refused}
use Rattle.order.proofs.CommandLaws.{command_of_number, number_of_command, command_small}
use Rattle.tape_format.specs.declared.Rule.TheVariants.{Retried, Flag}
use Rattle.tape_format.specs.declared.Record.{Record}
use Rattle.tape_format.specs.declared.Record.TheVariants as rec
use Rattle.number.specs.Number.{number_at}
use Rattle.tape_format.specs.Field.{allowed, field_at}
use Rattle.order.specs.Flag.{flag}
use Rattle.tape_format.specs.Record.{Layout, field, command, end, load, store, flush, order, answer, register, loaded, stamp, layout_of, and_then, and_command, fields_at, kind_at, record_at, kind_of, fields_of, fits, fits_command}
use Rattle.tape_format.specs.Refused.{Reads}
use Rattle.tape_format.specs.Write.{valid}
use Rattle.number.proofs.NumberLaws.{limit, limit_64_bits, number_moves}
use Rattle.tape_format.proofs.FieldLaws.{both_true, field_number, field_allowed, allowed_most, allowed_64_bits}
use Rattle.tape_format.proofs.ReadLaws.{then, of_kind}

-- the numbers ns, put into a layout's fields, make the record r
abbrev Makes : Layout → List ℕ → Record → Type 0
Makes (field rule more) (n ∷ ns) r = Makes (more n) ns r
Makes (field rule more) [] r = ⊥
Makes (command more) (n ∷ ns) r = (c : Command) × (command_of n ≡ Some c) × Makes (more c) ns r
Makes (command more) [] r = ⊥
Makes (end x) (n ∷ ns) r = ⊥
Makes (end x) [] r = x ≡ r

record_pair : {r s : Record} {p q : ℕ} → ◌≡◌ {A = Result (Option (Record × ℕ)) Refused} (Ok (Some (r, p))) (Ok (Some (s, q))) → (r ≡ s) × (p ≡ q)
record_pair {r} {s} {p} {q} e = let z : (r, p) ≡ (s, q) = cc in (ap (λ (x : Record × ℕ). x.0) z, ap (λ (x : Record × ℕ). x.1) z)

inv_then : (f : Result (ℕ × ℕ) Refused) (step : ℕ → ℕ → Result (Option (Record × ℕ)) Refused) (r : Record) (q : ℕ) → and_then f step ≡ Ok (Some (r, q)) → (v : ℕ) × (p : ℕ) × (f ≡ Ok (v, p)) × (step v p ≡ Ok (Some (r, q)))
unfolding and_then
inv_then (Ok (v, p)) step r q e = (v, p, refl, e)
inv_then (Err x) step r q e = absurd (let z : ◌≡◌ {A = ℕ} 0 1 = cc in omega arith)

inv_command : (f : Option Command) (at : ℕ) (step : Command → Result (Option (Record × ℕ)) Refused) (r : Record) (q : ℕ) → and_command f at step ≡ Ok (Some (r, q)) → (c : Command) × (f ≡ Some c) × (step c ≡ Ok (Some (r, q)))
unfolding and_command
inv_command (Some c) at step r q e = (c, refl, e)
inv_command None at step r q e = absurd (let z : ◌≡◌ {A = ℕ} 0 1 = cc in omega arith)

pub inv_fits : (f : Option Command) (rest : Command → Bool) → fits_command f rest ≡ true → (c : Command) × (f ≡ Some c) × (rest c ≡ true)
unfolding fits_command
inv_fits (Some c) rest e = (c, refl, e)
inv_fits None rest e = absurd (let z : ◌≡◌ {A = ℕ} 0 1 = cc in omega arith)

fits_known : (more : Command → Layout) (n : ℕ) (ns : List ℕ) (c : Command) → command_of n ≡ Some c → fits (more c) ns ≡ true → fits (command more) (n ∷ ns) ≡ true
unfolding fits fits_command
fits_known more n ns c k h = rw k h

-- what was read by a layout
taken : (l : Layout) (tape : List ℕ) (at : ℕ) (r : Record) (q : ℕ) → fields_at l tape at ≡ Ok (Some (r, q)) → (ns : List ℕ) × Reads tape at ns q × (fits l ns ≡ true) × Makes l ns r
unfolding fields_at fits fits_command
taken (field rule more) tape at r q e =
    let (v, p, f, g) = inv_then (field_at rule tape at) _ r q e in
    let (n, a) = field_number rule tape at v p f in
    let (ns, s, h, m) = taken (more v) tape p r q g in
    (v ∷ ns, (p, n, s), rw a h, m)
taken (command more) tape at r q e =
    let (v, p, n, g) = inv_then (number_at tape at) _ r q e in
    let (c, k, i) = inv_command (command_of v) at _ r q g in
    let (ns, s, h, m) = taken (more c) tape p r q i in
    (v ∷ ns, (p, n, s), fits_known more v ns c k h, (c, k, m))
taken (end x) tape at r q e = let (a, b) = record_pair e in ([], b, refl, a)

-- what a layout reads
given : (l : Layout) (ns : List ℕ) (tape : List ℕ) (at : ℕ) (r : Record) (q : ℕ) → Reads tape at ns q → fits l ns ≡ true → Makes l ns r → fields_at l tape at ≡ Ok (Some (r, q))
unfolding fields_at fits fits_command and_command
given (field rule more) (n ∷ ns) tape at r q s h m =
    let (a, g) = both_true (allowed rule n) _ h in
    sym (then _ (field_allowed rule tape at refl s.1 a) refl (sym (given (more n) ns tape s.0 r q s.2 g m)))
given (field rule more) [] tape at r q s h m = absurd m
given (command more) (n ∷ ns) tape at r q s h m =
    let (c, k, i) = m in
    let g : fits (more c) ns ≡ true = rw k at h in
    sym (then _ refl s.1 (sym (rw k (given (more c) ns tape s.0 r q s.2 g i))))
given (command more) [] tape at r q s h m = absurd m
given (end x) (n ∷ ns) tape at r q s h m = absurd m
given (end x) [] tape at r q s h m = rw (m, s)

-- a layout's numbers are its record's numbers: pre has the kind and the fields before
abbrev Faithful : (List ℕ → List ℕ) → Layout → Type 0
Faithful pre (field rule more) = (n : ℕ) → allowed rule n ≡ true → Faithful (λ ns. pre (n ∷ ns)) (more n)
Faithful pre (command more) = (c : Command) → Faithful (λ ns. pre (command_number c ∷ ns)) (more c)
Faithful pre (end r) = kind_of r ∷ fields_of r ≡ pre []

faithful_numbers : (pre : List ℕ → List ℕ) (l : Layout) (ns : List ℕ) (r : Record) → Faithful pre l → fits l ns ≡ true → Makes l ns r → kind_of r ∷ fields_of r ≡ pre ns
unfolding fits fits_command
faithful_numbers pre (field rule more) (n ∷ ns) r f h m =
    let (a, g) = both_true (allowed rule n) _ h in
    faithful_numbers (λ s. pre (n ∷ s)) (more n) ns r (f n a) g m
faithful_numbers pre (field rule more) [] r f h m = absurd m
faithful_numbers pre (command more) (n ∷ ns) r f h m =
    let (c, k, i) = m in
    let g : fits (more c) ns ≡ true = rw k at h in
    faithful_numbers (λ s. pre (command_number c ∷ s)) (more c) ns r (f c) g i ∙ ap (λ (x : ℕ). pre (x ∷ ns)) (number_of_command n c k)
faithful_numbers pre (command more) [] r f h m = absurd m
faithful_numbers pre (end x) (n ∷ ns) r f h m = absurd m
faithful_numbers pre (end x) [] r f h m = rw m at f

-- the table, kind by kind
case : (P : ℕ → Layout → Type 0) (k i : ℕ) (a : Layout) (rest : Option Layout) (l : Layout) → P i a → (rest ≡ Some l → P k l) → cond (eqb k i) (Some a) rest ≡ Some l → P k l
case P k i a rest l p other e = go (eqb k i) refl e
  where
    go : (t : Bool) → eqb k i ≡ t → cond t (Some a) rest ≡ Some l → P k l
    go true t e =
        let x : a ≡ l = cc in
        let y : k ≡ i = eqb-true k i t in
        rw (y, ← x) p
    go false t e = other e

pub by_kind : (P : ℕ → Layout → Type 0) → P 0 load → P 1 store → P 2 flush → P 3 order → P 4 answer → P 5 register → P 6 loaded → P 8 stamp → (k : ℕ) (l : Layout) → layout_of k ≡ Some l → P k l
unfolding layout_of
by_kind P p₀ p₁ p₂ p₃ p₄ p₅ p₆ p₈ k l e =
    case P k 0 load _ l p₀
    (case P k 1 store _ l p₁
    (case P k 2 flush _ l p₂
    (case P k 3 order _ l p₃
    (case P k 4 answer _ l p₄
    (case P k 5 register _ l p₅
    (case P k 6 loaded _ l p₆
    (case P k 8 stamp _ l p₈ (λ u. absurd (let z : ◌≡◌ {A = ℕ} 0 1 = cc in omega arith)))))))))
    e

pub flag_back : (n : ℕ) → n ≤ 1 → flag (eqb n 1) ≡ n
unfolding flag
flag_back zero h = refl
flag_back (suc zero) h = refl
flag_back (suc (suc n)) h = absurd (omega arith)

flag_forth : (b : Bool) → eqb (flag b) 1 ≡ b
unfolding flag
flag_forth true = refl
flag_forth false = refl

faithful : (k : ℕ) (l : Layout) → layout_of k ≡ Some l → Faithful (λ ns. k ∷ ns) l
unfolding load store flush order answer register loaded stamp kind_of fields_of
faithful =
    by_kind (λ k l. Faithful (λ ns. k ∷ ns) l)
    (λ u hu a ha. refl)
    (λ u hu a ha v hv. refl)
    (λ u hu b hb. refl)
    (λ u hu c b hb t ht. rw (flag_back t (allowed_most (Retried c) t ht)))
    (λ f hf t ht a ha c hc. refl)
    (λ f hf t ht a ha w hw x hx b hb. rw (flag_back w (allowed_most Flag w hw)))
    (λ u hu v hv. refl)
    (λ c hc. refl)

-- a record's own layout makes it of its fields
pub known : (r : Record) → (l : Layout) × (layout_of (kind_of r) ≡ Some l) × Makes l (fields_of r) r
unfolding load store flush order answer register loaded stamp kind_of fields_of layout_of
known (rec.Load u a) = (load, refl, refl)
known (rec.Store u a v) = (store, refl, refl)
known (rec.Flush u b) = (flush, refl, refl)
known (rec.Order o) = (order, refl, (o.command, command_of_number o.command, ap (λ (b : Bool). rec.Order (record { unit = o.unit; command = o.command; block = o.block; retried = b })) (flag_forth o.retried)))
known (rec.Answer f t a c) = (answer, refl, refl)
known (rec.Register f t a w x b) = (register, refl, ap (λ (g : Bool). rec.Register f t a g x b) (flag_forth w))
known (rec.Loaded u v) = (loaded, refl, refl)
known (rec.Stamp c) = (stamp, refl, refl)

inv_kind : (o : Option Layout) (at : ℕ) (tape : List ℕ) (p : ℕ) (r : Record) (q : ℕ) → option_map_or (λ l. fields_at l tape p) o (Err (record { refusal = why.UnknownKind; place = at })) ≡ Ok (Some (r, q)) → (l : Layout) × (o ≡ Some l) × (fields_at l tape p ≡ Ok (Some (r, q)))
inv_kind None at tape p r q e = absurd (let z : ◌≡◌ {A = ℕ} 0 1 = cc in omega arith)
inv_kind (Some l) at tape p r q e = (l, refl, e)

inv_record : (t : Bool) (x : Result (Option (Record × ℕ)) Refused) (r : Record) (q : ℕ) → cond t (Ok None) x ≡ Ok (Some (r, q)) → x ≡ Ok (Some (r, q))
inv_record true x r q e = absurd (let z : ◌≡◌ {A = ℕ} 0 1 = cc in omega arith)
inv_record false x r q e = e

-- the numbers of a record that was read stand on the tape, and the record is valid
pub record_taken : (tape : List ℕ) (at : ℕ) (r : Record) (q : ℕ) → record_at tape at ≡ Ok (Some (r, q)) → Reads tape at (kind_of r ∷ fields_of r) q × (valid r ≡ true)
unfolding record_at kind_at valid
record_taken tape at r q e =
    let (k, p, f, g) = inv_then (number_at tape at) (λ (kind first : ℕ). kind_at tape at kind first) r q (inv_record (eqb at (length tape)) _ r q e) in
    let (l, o, i) = inv_kind (layout_of k) at tape p r q g in
    let (ns, s, h, m) = taken l tape p r q i in
    let w : kind_of r ∷ fields_of r ≡ k ∷ ns = faithful_numbers (λ s. k ∷ s) l ns r (faithful k l o) h m in
    let x : kind_of r ≡ k = cc in
    let y : fields_of r ≡ ns = cc in
    (rw (x, y) (p, f, s), rw (x, o, y) h)

pub valid_fits : (r : Record) (l : Layout) → layout_of (kind_of r) ≡ Some l → valid r ≡ true → fits l (fields_of r) ≡ true
unfolding valid
valid_fits r l o v = rw o at v

-- a valid record whose numbers stand on the tape is read there
pub record_given : (tape : List ℕ) (at : ℕ) (r : Record) (q : ℕ) → Reads tape at (kind_of r ∷ fields_of r) q → valid r ≡ true → record_at tape at ≡ Ok (Some (r, q))
unfolding record_at
record_given tape at r q s v =
    let (l, o, m) = known r in
    let (p, n, i) = s in
    let t = number_moves (kind_of r) p tape at n in
    rw (ne_eqb at (length tape) (λ w. omega arith))
    (sym (then _ refl n (of_kind tape at (kind_of r) p l o (sym (given l (fields_of r) tape p r q i (valid_fits r l o v) m)))))

-- "finished" is read at the tape's end alone
then_goes_on : (f : Result (ℕ × ℕ) Refused) (step : ℕ → ℕ → Result (Option (Record × ℕ)) Refused) → ((v p : ℕ) → step v p ≡ Ok None → ⊥) → and_then f step ≡ Ok None → ⊥
unfolding and_then
then_goes_on (Ok (v, p)) step h e = h v p e
then_goes_on (Err x) step h e = let z : ◌≡◌ {A = ℕ} 0 1 = cc in omega arith

command_goes_on : (f : Option Command) (at : ℕ) (step : Command → Result (Option (Record × ℕ)) Refused) → ((c : Command) → step c ≡ Ok None → ⊥) → and_command f at step ≡ Ok None → ⊥
unfolding and_command
command_goes_on (Some c) at step h e = h c e
command_goes_on None at step h e = let z : ◌≡◌ {A = ℕ} 0 1 = cc in omega arith

fields_go_on : (l : Layout) (tape : List ℕ) (at : ℕ) → fields_at l tape at ≡ Ok None → ⊥
unfolding fields_at
fields_go_on (field rule more) tape at e = then_goes_on (field_at rule tape at) _ (λ v p. fields_go_on (more v) tape p) e
fields_go_on (command more) tape at e = then_goes_on (number_at tape at) _ (λ v p. command_goes_on (command_of v) at _ (λ c. fields_go_on (more c) tape p)) e
fields_go_on (end r) tape at e = let z : ◌≡◌ {A = ℕ} 0 1 = cc in omega arith

kind_goes_on : (o : Option Layout) (at : ℕ) (tape : List ℕ) (p : ℕ) → option_map_or (λ l. fields_at l tape p) o (Err (record { refusal = why.UnknownKind; place = at })) ≡ Ok None → ⊥
kind_goes_on None at tape p e = let z : ◌≡◌ {A = ℕ} 0 1 = cc in omega arith
kind_goes_on (Some l) at tape p e = fields_go_on l tape p e

pub finished_at_end : (tape : List ℕ) (at : ℕ) → record_at tape at ≡ Ok None → at ≡ length tape
unfolding record_at kind_at
finished_at_end tape at e = go (eqb at (length tape)) refl e
  where
    go : (t : Bool) → eqb at (length tape) ≡ t → cond t (Ok None) (and_then (number_at tape at) λ kind first. kind_at tape at kind first) ≡ Ok None → at ≡ length tape
    go true t e = eqb-true at (length tape) t
    go false t e = absurd (then_goes_on (number_at tape at) _ (λ k p. kind_goes_on (layout_of k) at tape p) e)

-- the numbers of a valid record can be spelled
abbrev pub Small : List ℕ → Type 0
Small [] = Unit {0}
Small (n ∷ ns) = (n < limit) × Small ns

fits_small : (l : Layout) (ns : List ℕ) → fits l ns ≡ true → Small ns
unfolding fits
fits_small (field rule more) (n ∷ ns) h =
    let (a, g) = both_true (allowed rule n) _ h in
    (limit_64_bits n (allowed_64_bits rule n a), fits_small (more n) ns g)
fits_small (field rule more) [] h = tt
fits_small (command more) (n ∷ ns) h =
    let (c, k, g) = inv_fits (command_of n) _ h in
    let e : command_number c ≡ n = number_of_command n c k in
    (limit_64_bits n (omega (arith, command_small c)), fits_small (more c) ns g)
fits_small (command more) [] h = tt
fits_small (end x) (n ∷ ns) h = absurd (let z : ◌≡◌ {A = ℕ} 0 1 = cc in omega arith)
fits_small (end x) [] h = tt

-- the kinds of the table are 0 to 6 and 8
pub in_table : (k : ℕ) (l : Layout) → layout_of k ≡ Some l → (k < 7) ⊎ (k ≡ 8)
in_table =
    by_kind (λ k l. (k < 7) ⊎ (k ≡ 8)) (inl (omega arith)) (inl (omega arith)) (inl (omega arith)) (inl (omega arith)) (inl (omega arith)) (inl (omega arith)) (inl (omega arith)) (inr refl)

-- and so none is above 8
kind_small : (k : ℕ) (l : Layout) → layout_of k ≡ Some l → k ≤ 8
kind_small = by_kind (λ k l. k ≤ 8) (omega arith) (omega arith) (omega arith) (omega arith) (omega arith) (omega arith) (omega arith) (omega arith)

pub valid_small : (r : Record) → valid r ≡ true → Small (kind_of r ∷ fields_of r)
valid_small r v =
    let (l, o, m) = known r in
    (limit_64_bits (kind_of r) (omega (arith, kind_small (kind_of r) l o)), fits_small l (fields_of r) (valid_fits r l o v))
