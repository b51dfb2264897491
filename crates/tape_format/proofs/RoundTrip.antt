-- Demand 2 for the tape: reading and writing are inverse. The statements are those of `specs/RoundTrip.antt`.
use Prim.Native.Nat.{ℕ, ◌+◌, ◌-◌, ◌≤◌, ◌<◌}
use native.Mathlib.Nat.{le_refl}
use native.Mathlib.Omega.{arith}
use mathlib.Core.Path.{◌≡◌, refl, sym, ap, ap₂, ◌∙◌, subst}
use mathlib.Core.List.{List, [], ◌∷◌, ◌++◌, append_assoc}
use mathlib.Core.Bool.{Bool, true, false, cond}
use lib.ListN.{length, take, drop, length-append, take-append-drop}
use lib.Seq.{take-append_seam, drop-length, drop-drop}
use lib.Dec.{leb}
use borrow.Author.Tests.{le-leb, lt-leb, eq-eqb}
use Rattle.order.specs.declared.Refusal.TheVariants as why
use Rattle.std.specs.Prelude.{None, Some, Ok, Err}
use Rattle.tape_format.specs.declared.Record.{Record}
use Rattle.number.specs.Number.{spell, spell_all, filled, Bytes}
use Rattle.tape_format.specs.Record.{kind_of, fields_of, record_at}
use Rattle.tape_format.specs.Refused.{Reads}
use Rattle.tape_format.specs.Write.{valid, bytes_of, written_of, space_after}
use Rattle.tape_format.specs.RoundTrip.{ReadsBack, WritesBack, MovesOn, WrittenAs, ReadsAs, TapeReadsBack, TapeWritesBack}
use Rattle.number.proofs.StandsLaws.{Stands, stands_cut, stands_join, stands_in, stands_take}
use Rattle.number.proofs.NumberLaws.{number_of_spelled, spelled_of_number, number_moves}
use Rattle.tape_format.proofs.LayoutLaws.{Small, record_taken, record_given, finished_at_end, valid_small}

-- numbers that can be spelled are read from their spellings, and numbers that were read stand there spelled
reads_of_stands : (ns tape : List ℕ) (p : ℕ) → Small ns → Stands tape (spell_all ns) p → Reads tape p ns (p + length (spell_all ns))
unfolding spell_all
reads_of_stands [] tape p l s = omega arith
reads_of_stands (n ∷ ns) tape p l s =
    let c = stands_cut (spell n) (spell_all ns) tape p s in
    let e : p + length (spell n) + length (spell_all ns) ≡ p + length (spell n ++ spell_all ns) = simp length-append (omega arith) in
    (p + length (spell n), number_of_spelled n tape p l.0 c.0, rw e at (reads_of_stands ns tape (p + length (spell n)) l.1 c.1))

stands_of_reads : (ns tape : List ℕ) (p q : ℕ) → Bytes tape → Reads tape p ns q → Stands tape (spell_all ns) p × (q ≡ p + length (spell_all ns))
unfolding spell_all
stands_of_reads [] tape p q all w = (tt, omega arith)
stands_of_reads (n ∷ ns) tape p q all w =
    let (m, e, u) = w in
    let (s, d) = spelled_of_number n m tape p all e in
    let (t, g) = stands_of_reads ns tape m q all u in
    (stands_join (spell n) (spell_all ns) tape p s (rw d at t), g ∙ simp (d, length-append) (omega arith))

-- a valid record is read from its bytes, and a record that was read is valid and stands there as its bytes
pub read_of_bytes : (r : Record) (before after : List ℕ) → valid r ≡ true → record_at (before ++ (bytes_of r ++ after)) (length before) ≡ Ok (Some (r, length before + length (bytes_of r)))
unfolding bytes_of
read_of_bytes r before after v =
    record_given (before ++ (bytes_of r ++ after)) (length before) r (length before + length (bytes_of r)) (reads_of_stands (kind_of r ∷ fields_of r) _ _ (valid_small r v) (stands_in (bytes_of r) before after)) v

pub bytes_of_read : (tape : List ℕ) (at : ℕ) (r : Record) (q : ℕ) → Bytes tape → record_at tape at ≡ Ok (Some (r, q))
    → (valid r ≡ true) × (q ≡ at + length (bytes_of r)) × (take (length (bytes_of r)) (drop at tape) ≡ bytes_of r)
unfolding bytes_of
bytes_of_read tape at r q all e =
    let (w, v) = record_taken tape at r q e in
    let (s, d) = stands_of_reads (kind_of r ∷ fields_of r) tape at q all w in
    (v, d, stands_take (bytes_of r) tape at s)

-- what writing answers and leaves where it accepts, and where it has no room
pub wrote_bytes : (r : Record) (space : List ℕ) (n : ℕ) → written_of r (length space) ≡ Ok n → (valid r ≡ true) × (n ≡ length (bytes_of r)) × (take n (space_after r space) ≡ bytes_of r)
unfolding written_of space_after filled
wrote_bytes r space n e = go (valid r) (leb (length (bytes_of r)) (length space)) refl refl e
  where
    go : (t u : Bool) → valid r ≡ t → leb (length (bytes_of r)) (length space) ≡ u → cond t (cond u (Ok (length (bytes_of r))) (Err why.NoRoom)) (Err why.FieldRange) ≡ Ok n
        → (valid r ≡ true) × (n ≡ length (bytes_of r)) × (take n (cond (valid r) (cond (leb (length (bytes_of r)) (length space)) (bytes_of r ++ drop (length (bytes_of r)) space) space) space) ≡ bytes_of r)
    go true true a b e =
        let z : n ≡ length (bytes_of r) = cc in
        (a, z, rw (a, b, z) (take-append_seam (bytes_of r) (drop (length (bytes_of r)) space)))
    go true false a b e = absurd (let z : ◌≡◌ {A = ℕ} 0 1 = cc in omega arith)
    go false u a b e = absurd (let z : ◌≡◌ {A = ℕ} 0 1 = cc in omega arith)

module _ (r : Record) (space : List ℕ) (v : valid r ≡ true) where
  pub writes : length (bytes_of r) ≤ length space → (written_of r (length space) ≡ Ok (length (bytes_of r))) × (take (length (bytes_of r)) (space_after r space) ≡ bytes_of r)
  unfolding written_of space_after filled
  writes h = rw (v, le-leb (length (bytes_of r)) (length space) h) (refl, take-append_seam (bytes_of r) (drop (length (bytes_of r)) space))

  pub no_room_lem : length space < length (bytes_of r) → written_of r (length space) ≡ Err why.NoRoom
  unfolding written_of
  no_room_lem h = rw (v, lt-leb (length (bytes_of r)) (length space) h)

-- ---- the laws

pub reads_back : ReadsBack
unfolding ReadsBack
reads_back r space n e before after =
    let (v, l, b) = wrote_bytes r space n e in
    rw (b, l) (read_of_bytes r before after v)

pub writes_back : WritesBack
unfolding WritesBack
writes_back tape at next r space all e =
    let (v, d, b) = bytes_of_read tape at r next all e in
    let k : next - at ≡ length (bytes_of r) = omega arith in (
      λ h. rw (k, b) (writes r space v (rw k at h)),
      λ h. no_room_lem r space v (rw k at h),
    )

reads_move : (ns tape : List ℕ) (p q : ℕ) → Reads tape p ns q → p ≤ length tape → (p ≤ q) × (q ≤ length tape)
reads_move [] tape p q w h = (omega arith, omega arith)
reads_move (n ∷ ns) tape p q w h =
    let m = number_moves n w.0 tape p w.1 in
    let r = reads_move ns tape w.0 q w.2 m.1 in
    (omega arith, r.1)

pub moves_on : MovesOn
unfolding MovesOn
moves_on tape at next r e =
    let (p, f, s) = (record_taken tape at r next e).0 in
    let m = number_moves (kind_of r) p tape at f in
    let n = reads_move (fields_of r) tape p next s m.1 in
    (omega arith, n.1)

-- ---- a whole tape

at_end : (tape : List ℕ) (at : ℕ) → at ≡ length tape → record_at tape at ≡ Ok None
unfolding record_at
at_end tape at e = rw (eq-eqb at (length tape) e)

reads_from : (rs : List Record) (before bytes : List ℕ) → WrittenAs rs bytes → ReadsAs (before ++ bytes) (length before) rs
unfolding WrittenAs ReadsAs
reads_from [] before bytes w = at_end (before ++ bytes) (length before) (rw w (simp length-append (omega arith)))
reads_from (r ∷ rs) before bytes w =
    let (space, n, rest, e, b, u) = w in
    let (v, l, c) = wrote_bytes r space n e in
    let d : bytes ≡ bytes_of r ++ rest = b ∙ ap (λ (s : List ℕ). s ++ rest) c in
    let g : before ++ (bytes_of r ++ rest) ≡ (before ++ bytes_of r) ++ rest = sym (append_assoc before (bytes_of r) rest) in
    let k : length (before ++ bytes_of r) ≡ length before + length (bytes_of r) = simp length-append in
    (length before + length (bytes_of r), rw d (read_of_bytes r before rest v), subst (λ (p : ℕ). ReadsAs (before ++ bytes) p rs) k (rw (d, g) (reads_from rs (before ++ bytes_of r) rest u)))

pub tape_reads_back : TapeReadsBack
unfolding TapeReadsBack
tape_reads_back rs tape w = reads_from rs [] tape w

writes_from : (rs : List Record) (tape : List ℕ) (at : ℕ) → Bytes tape → ReadsAs tape at rs → WrittenAs rs (drop at tape)
unfolding WrittenAs ReadsAs
writes_from [] tape at all w = rw (finished_at_end tape at w) (drop-length tape)
writes_from (r ∷ rs) tape at all w =
    let (next, e, u) = w in
    let (v, d, t) = bytes_of_read tape at r next all e in
    let (a, b) = writes r (bytes_of r) v (le_refl (length (bytes_of r))) in
    let k : drop (length (bytes_of r)) (drop at tape) ≡ drop next tape = drop-drop (length (bytes_of r)) at tape ∙ ap (λ (i : ℕ). drop i tape) (sym d) in
    let g : drop at tape ≡ bytes_of r ++ drop next tape = sym (take-append-drop (length (bytes_of r)) (drop at tape)) ∙ ap₂ (λ (x y : List ℕ). x ++ y) t k in
    (bytes_of r, length (bytes_of r), drop next tape, a, g ∙ ap (λ (x : List ℕ). x ++ drop next tape) (sym b), writes_from rs tape next all u)

pub tape_writes_back : TapeWritesBack
unfolding TapeWritesBack
tape_writes_back rs tape all w = writes_from rs tape 0 all w
