-- The directory's bytes: one turn of the loops that write and read them, and the slot of a pair.
use mathlib.Core.Path.{◌≡◌, refl, sym, ap, ◌∙◌}
use mathlib.Core.Bool.{Bool, true, false}
use mathlib.Core.List.{List, [], ◌∷◌, ◌++◌, append_assoc}
use mathlib.Core.Logic.{⊎_elim}
use Prim.Native.Nat.{ℕ, zero, suc, ◌+◌, ◌*◌, ◌/◌, ◌%◌, ◌≤◌, ◌<◌}
use native.Mathlib.Omega.{arith}
use native.Mathlib.Nat.{eq-or-lt_of_le}
use native.Mathlib.Numerals.{add-one}
use lib.Dec.{leb, eqb}
use lib.ListN.{length, get_or, take, drop, set, length-append, length-drop}
use lib.Seq.{sets, sets-eq, take-suc-set, take_all, take-append-add, drop-append-add, drop-drop, length-take-le, take_at, drop_at, get_or-set_same, get_or-set_other}
use borrow.Author.Tests.{eqb-true, eqb-false, leb-true, le-leb, lt-leb, ne_eqb}
use Rattle.order.specs.Flag.{flag}
use Rattle.coherence.specs.declared.Slot.TheVariants.{Invalid, Shared, Modified}
use Rattle.coherence.specs.declared.Entry.{Entry}
use Rattle.coherence.specs.declared.Directory.{Directory}
use Rattle.coherence.specs.Slots.{state_number, slot_at, block_of}
use borrow.Rule.Slice.PartMut.{put_mid}
use Rattle.std.proofs.lemmas.Slice.{put_mid-paste}
use Rattle.coherence.specs.declared.Slot.{Slot}
use Rattle.slots.specs.Directory.{of_slots, block_or}
use Rattle.slots.proofs.OfSlots.{of_slot}
use Rattle.crossing.proofs.Spaces.{put_behind}
use Rattle.boards.specs.Boards.{set_of}
use Rattle.layout.specs.Directory.{directory_size, slot_bytes, settings_bytes, front_bytes, encoded, slots_put, sets_put, left_put, directory_put, Paired, block_spelled, slot_spelled, slots_spelled}

pub length_slot_bytes : (n : ℕ) (d : Directory) → length (slot_bytes n d) ≡ 2 * n
unfolding slot_bytes
length_slot_bytes zero d = refl
length_slot_bytes (suc n) d =
    length-append (slot_bytes n d) (state_number (slot_at d n) ∷ block_of (slot_at d n) ∷ [])
    ∙ ap (λ (k : ℕ). k + 2) (length_slot_bytes n d)
    ∙ (omega arith)

-- the bytes of slots do not depend on the settings
pub bytes_of : (d : Directory) (n : ℕ) → slot_bytes n (of_slots d.slots) ≡ slot_bytes n d
unfolding slot_bytes
bytes_of d zero = refl
bytes_of d (suc n) = rw (bytes_of d n, of_slot d n) refl

pub put_slot : (d : Directory) (o : List ℕ) (n : ℕ) → 2 * n + 2 ≤ length o
    → set (set (slot_bytes n d ++ drop (2 * n) o) (2 * n) (state_number (slot_at d n))) (2 * n + 1) (block_of (slot_at d n))
    ≡ slot_bytes (n + 1) d ++ drop (2 * (n + 1)) o
unfolding slot_bytes
put_slot d o n h =
    let next : 2 * n + 2 ≡ 2 * (n + 1) = omega arith in
    rw (add-one (2 * n))
    (put_behind (slot_bytes n d) o (state_number (slot_at d n) ∷ block_of (slot_at d n) ∷ []) (2 * n) (length_slot_bytes n d) h
    ∙ ap (λ (k : ℕ). slot_bytes (suc n) d ++ drop k o) next
    ∙ ap (λ (k : ℕ). slot_bytes k d ++ drop (2 * (n + 1)) o) (sym (add-one n)))

-- the sets put over 64 bytes of a space that has the slots' bytes
pub put_sets : (d : Directory) (o p : List ℕ) (m : ℕ) → directory_size ≤ length o → m ≡ 64 → length d.holders ≡ 64 → p ≡ slot_bytes 64 d ++ drop 128 o
    → put_mid 130 m p d.holders ≡ left_put d o
unfolding left_put sets_put slots_put
put_sets d o p m h q e f =
    let l : length p ≡ length o = ap length f ∙ simp (length-append, length-drop, length_slot_bytes 64 d) (omega arith) in
    let n : leb directory_size (length p) ≡ true = le-leb directory_size (length p) (omega arith) in
    put_mid-paste 130 m p d.holders d.holders 64 refl (sym q) (sym e)
    ∙ ap (λ (x : List ℕ). take 130 p ++ x ++ drop directory_size p) (take_all 64 d.holders (omega arith))
    ∙ (rw (le-leb directory_size (length o) h, ← f, n) refl)

pub left_none : (d : Directory) (o : List ℕ) → length o < directory_size → o ≡ left_put d o
unfolding left_put sets_put slots_put
left_none d o h = let n : leb directory_size (length o) ≡ false = lt-leb directory_size (length o) h in rw (n, n) refl

-- the sets in their places, and what stands between
pub left_is : (d : Directory) (o : List ℕ) → directory_size ≤ length o
    → left_put d o ≡ slot_bytes 64 d ++ take 2 (drop 128 o) ++ d.holders ++ drop directory_size o
unfolding left_put sets_put slots_put
left_is d o h =
    let s : List ℕ = slot_bytes 64 d in
    let l : length s ≡ 128 = length_slot_bytes 64 d in
    let z : length (s ++ drop 128 o) ≡ length o = simp (length-append, length-drop) (omega arith) in
    let i : 130 ≡ length s + 2 = omega arith in
    let j : directory_size ≡ length s + 66 = omega arith in
    let p : take 130 (s ++ drop 128 o) ≡ s ++ take 2 (drop 128 o) = ap (λ (n : ℕ). take n (s ++ drop 128 o)) i ∙ take-append-add s (drop 128 o) 2 in
    let q : drop directory_size (s ++ drop 128 o) ≡ drop directory_size o =
    ap (λ (n : ℕ). drop n (s ++ drop 128 o)) j ∙ drop-append-add s (drop 128 o) 66 ∙ drop-drop 66 128 o in
    rw (le-leb directory_size (length o) h, z, le-leb directory_size (length o) h, p, q) refl

-- and the settings there
pub put_settings : (d : Directory) (o : List ℕ) → directory_size ≤ length o
    → set (set (left_put d o) 128 (set_of d.settings)) 129 (flag d.settings.steal) ≡ directory_put d o
unfolding directory_put encoded front_bytes settings_bytes
put_settings d o h =
    let s : List ℕ = slot_bytes 64 d in
    let t : List ℕ = take 2 (drop 128 o) in
    let r : List ℕ = drop directory_size o in
    let vs : List ℕ = settings_bytes d.settings in
    let l : length s ≡ 128 = length_slot_bytes 64 d in
    let lt : length t ≡ 2 = length-take-le 2 (drop 128 o) (simp length-drop (omega arith)) in
    let f : length (s ++ t) ≡ 130 = length-append s t ∙ (omega arith) in
    let y : s ++ t ++ d.holders ++ r ≡ (s ++ t) ++ (d.holders ++ r) = append_assoc (s ++ t) d.holders r in
    let fits : 128 + length vs ≤ length ((s ++ t) ++ (d.holders ++ r)) = simp length-append (omega arith) in
    rw (le-leb directory_size (length o) h)
    (ap (λ (x : List ℕ). sets x 128 vs) (left_is d o h ∙ y)
    ∙ sets-eq vs ((s ++ t) ++ (d.holders ++ r)) 128 fits
    ∙ ap (λ (x : List ℕ). x ++ vs ++ drop 130 ((s ++ t) ++ (d.holders ++ r))) (ap (take 128) (append_assoc s t (d.holders ++ r)) ∙ take_at s (t ++ (d.holders ++ r)) 128 l)
    ∙ ap (λ (x : List ℕ). s ++ vs ++ x) (drop_at (s ++ t) (d.holders ++ r) 130 f)
    ∙ sym (append_assoc (s ++ vs) d.holders r))

pub put_none : (d : Directory) (o : List ℕ) → length o < directory_size → left_put d o ≡ directory_put d o
unfolding left_put sets_put slots_put directory_put
put_none d o h = let n : leb directory_size (length o) ≡ false = lt-leb directory_size (length o) h in rw (n, n) refl

pub take_slot : (l : List ℕ) (a : List Entry) (n : ℕ) → n < length a → take n a ≡ slots_spelled n l
    → take (n + 1) (set a n (record { slot = slot_spelled (get_or l (2 * n) 0) (get_or l (2 * n + 1) 0) })) ≡ slots_spelled (n + 1) l
unfolding slots_spelled
take_slot l a n h e =
    let s : Entry = record { slot = slot_spelled (get_or l (2 * n) 0) (get_or l (2 * n + 1) 0) } in
    ap (λ (k : ℕ). take k (set a n s)) (add-one n)
    ∙ take-suc-set a n s h
    ∙ ap (λ (t : List Entry). t ++ (s ∷ [])) e
    ∙ ap (λ (k : ℕ). slots_spelled k l) (sym (add-one n))

-- one pair more
pub pair_next : (l w : List ℕ) (n x : ℕ) → n < length w → Paired l n w → (x % 256 ≡ get_or l (2 * n) 0) × (x / 256 ≡ get_or l (2 * n + 1) 0) → Paired l (n + 1) (set w n x)
unfolding Paired
pair_next l w n x h p e i k =
    ⊎_elim
    (λ (q : i ≡ n).
    let same : get_or (set w n x) n 0 ≡ x = get_or-set_same w n x 0 h in
    rw (q, same) e)
    (λ (q : i < n).
    let other : get_or (set w n x) i 0 ≡ get_or w i 0 = get_or-set_other w n i x 0 (λ z. omega arith) in
    rw other (p i q))
    (eq-or-lt_of_le (omega arith))

-- the block of an invalid slot counts as 0
pub or_zero : (x : Slot) → block_or x 0 ≡ block_of x
unfolding block_or block_of
or_zero Invalid = refl
or_zero (Shared b) = refl
or_zero (Modified b) = refl

-- ---- the slot of a pair, for each way through the tests

pub invalid_spelled : (x : ℕ) → x ≡ 0 → Invalid ≡ slot_spelled (x % 256) (x / 256)
unfolding slot_spelled
invalid_spelled x e = rw e

pub modified_spelled : (t b : ℕ) → t ≡ 2 → Modified (block_spelled t b) ≡ slot_spelled t b
unfolding slot_spelled block_spelled
modified_spelled t b e = rw e

pub shared_spelled : (t b : ℕ) → (t ≡ 0 → b ≡ 0 → ⊥) → (t ≡ 2 → ⊥) → Shared (block_spelled t b) ≡ slot_spelled t b
unfolding slot_spelled block_spelled
shared_spelled t b h k = go (eqb t 0) (eqb t 1) (leb t 2) refl refl refl
  where
    go : (p q r : Bool) → eqb t 0 ≡ p → eqb t 1 ≡ q → leb t 2 ≡ r → Shared (block_spelled t b) ≡ slot_spelled t b
    go true q r e f g = rw (e, ne_eqb b 0 (h (eqb-true t 0 e)))
    go false true r e f g = rw (e, f, le-leb t 2 (let one = eqb-true t 1 f in omega arith))
    go false false true e f g =
        let zero? = eqb-false t 0 e in
        let one? = eqb-false t 1 f in
        let few = leb-true t 2 g in
        absurd (k (omega arith))
    go false false false e f g = rw (e, f, g, ne_eqb t 2 k)
