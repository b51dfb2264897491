-- The directory's bytes and the directory determine each other.
use mathlib.Core.Path.{◌≡◌, refl, sym, ap, ◌∙◌}
use mathlib.Core.Bool.{Bool, true, false, cond, ◌&&◌, false≢true}
use mathlib.Core.List.{List, [], ◌∷◌, ◌++◌, append_assoc}
use mathlib.Core.Logic.{⊎_elim}
use Prim.Native.Nat.{ℕ, zero, suc, ◌+◌, ◌*◌, ◌≤◌, ◌<◌}
use native.Mathlib.Omega.{arith}
use native.Mathlib.Nat.{le_of_suc-le-suc, eq-or-lt_of_le, not-suc-le-zero}
use lib.Dec.{leb, eqb}
use lib.ListN.{length, get_or, take, drop, replicate, length-append, length-drop, length-replicate, get_or-append}
use lib.Seq.{take-suc, take_all, take_at, take-add, length-take-le, drop_at, get_or-append-add}
use borrow.Author.Tests.{eqb-true, eqb-false, eq-eqb, leb-true, le-leb}
use Rattle.order.specs.Flag.{flag}
use Rattle.coherence.specs.declared.Slot.{Slot}
use Rattle.coherence.specs.declared.Slot.TheVariants.{Invalid, Shared, Modified}
use Rattle.coherence.specs.declared.Entry.{Entry}
use Rattle.coherence.specs.declared.Directory.{Directory}
use Rattle.coherence.specs.Slots.{state_number, empty_entry, slot_at, block_of, fits, slot_rule, sound_slots, sound_kinds, sound_sets, sound}
use Rattle.coherence.proofs.Below.{both, below_at}
use Rattle.boards.specs.Boards.{settings_of, set_of}
use Rattle.layout.specs.Directory.{directory_size, slot_bytes, settings_bytes, front_bytes, encoded, no_slot, slot_spelled, slots_spelled, set_in, steal_in, sets_in, spells_slots, decoded, Inverse}
use Rattle.boards.proofs.BoardLaws.{sets, set_small}
use Rattle.layout.proofs.DirectoryLaws.{length_slot_bytes}

-- an element of a list that was made by adding at the end
pub get_d_last : {A : Type 0} (xs ys : List A) (i k : ℕ) (e : A) → i ≡ length xs + k → get_or (xs ++ ys) i e ≡ get_or ys k e
get_d_last xs ys i k e h = ap (λ (j : ℕ). get_or (xs ++ ys) j e) h ∙ get_or-append-add xs ys k e

-- ---- a directory's bytes

byte_of : (d : Directory) (n i : ℕ) → i < n
    → (get_or (slot_bytes n d) (2 * i) 0 ≡ state_number (slot_at d i)) × (get_or (slot_bytes n d) (2 * i + 1) 0 ≡ block_of (slot_at d i))
unfolding slot_bytes
byte_of d zero i h = absurd (not-suc-le-zero h)
byte_of d (suc n) i h =
    let xs : List ℕ = slot_bytes n d in
    let ys : List ℕ = state_number (slot_at d n) ∷ block_of (slot_at d n) ∷ [] in
    let l : length xs ≡ 2 * n = length_slot_bytes n d in
    ⊎_elim
    (λ (q : i ≡ n).
    let a : 2 * i ≡ length xs + 0 = omega arith in
    let b : 2 * i + 1 ≡ length xs + 1 = omega arith in (
      get_d_last xs ys (2 * i) 0 0 a ∙ ap (λ (j : ℕ). state_number (slot_at d j)) (sym q),
      get_d_last xs ys (2 * i + 1) 1 0 b ∙ ap (λ (j : ℕ). block_of (slot_at d j)) (sym q),
    ))
    (λ (q : i < n).
    let a : 2 * i < length xs = omega arith in
    let b : 2 * i + 1 < length xs = omega arith in
    (get_or-append xs ys 0 (2 * i) a ∙ (byte_of d n i q).0, get_or-append xs ys 0 (2 * i + 1) b ∙ (byte_of d n i q).1))
    (eq-or-lt_of_le (le_of_suc-le-suc h))

slot_back : (x : Slot) → slot_spelled (state_number x) (block_of x) ≡ x
unfolding slot_spelled state_number block_of
slot_back Invalid = refl
slot_back (Shared b) = refl
slot_back (Modified b) = refl

length_front : (d : Directory) → length (front_bytes d) ≡ 130
unfolding front_bytes settings_bytes
length_front d = length-append (slot_bytes 64 d) (settings_bytes d.settings) ∙ ap (λ (k : ℕ). k + 2) (length_slot_bytes 64 d)

-- the bytes before the sets
front_at : (d : Directory) (i : ℕ) → i < 130 → get_or (encoded d) i 0 ≡ get_or (front_bytes d) i 0
unfolding encoded
front_at d i h = get_or-append (front_bytes d) d.holders 0 i (rw (length_front d) h)

byte_in : (d : Directory) (i : ℕ) → i < 64
    → (get_or (encoded d) (2 * i) 0 ≡ state_number (slot_at d i)) × (get_or (encoded d) (2 * i + 1) 0 ≡ block_of (slot_at d i))
unfolding front_bytes
byte_in d i h =
    let xs : List ℕ = slot_bytes 64 d in
    let ys : List ℕ = settings_bytes d.settings in
    let l : length xs ≡ 128 = length_slot_bytes 64 d in
    let b = byte_of d 64 i h in (
      front_at d (2 * i) (omega arith) ∙ get_or-append xs ys 0 (2 * i) (omega arith) ∙ b.0,
      front_at d (2 * i + 1) (omega arith) ∙ get_or-append xs ys 0 (2 * i + 1) (omega arith) ∙ b.1,
    )

slots_back : (d : Directory) (n : ℕ) → length d.slots ≡ 64 → n ≤ 64 → slots_spelled n (encoded d) ≡ take n d.slots
unfolding slots_spelled slot_at
slots_back d zero e h = refl
slots_back d (suc n) e h =
    let l : n < 64 = omega arith in
    let b = byte_in d n l in
    rw (slots_back d n e (omega arith), b.0, b.1, slot_back (slot_at d n))
    (sym (take-suc d.slots n empty_entry (omega arith)))

pub length_encoded : (d : Directory) → length d.holders ≡ 64 → length (encoded d) ≡ directory_size
unfolding encoded
length_encoded d h = length-append (front_bytes d) d.holders ∙ (omega (arith, length_front d))

settings_back : (d : Directory) → (set_in (encoded d) ≡ set_of d.settings) × (steal_in (encoded d) ≡ flag d.settings.steal)
unfolding set_in steal_in front_bytes settings_bytes
settings_back d =
    let l : length (slot_bytes 64 d) ≡ 128 = length_slot_bytes 64 d in
    let ys : List ℕ = settings_bytes d.settings in (
      front_at d 128 (omega arith) ∙ get_d_last (slot_bytes 64 d) ys 128 0 0 (omega arith),
      front_at d 129 (omega arith) ∙ get_d_last (slot_bytes 64 d) ys 129 1 0 (omega arith),
    )

sets_back : (d : Directory) → length d.holders ≡ 64 → sets_in (encoded d) ≡ d.holders
unfolding sets_in encoded
sets_back d h =
    rw (eq-eqb (length (encoded d)) directory_size (length_encoded d h))
    (ap (take 64) (drop_at (front_bytes d) d.holders 130 (length_front d)) ∙ take_all 64 d.holders (omega arith))

flag_back : (t : Bool) → (leb (flag t) 1 ≡ true) × (eqb (flag t) 1 ≡ t)
unfolding flag
flag_back true = (refl, refl)
flag_back false = (refl, refl)

back : (d : Directory) → length d.slots ≡ 64 → length d.settings.boards ≡ 4 → length d.holders ≡ 64 → decoded (encoded d) ≡ d
unfolding decoded spells_slots
back d e f z =
    let l : length (encoded d) ≡ directory_size = length_encoded d z in
    let g = settings_back d in
    let h = flag_back d.settings.steal in
    rw (l, g.0, g.1, le-leb (set_of d.settings) 15 (set_small d.settings), h.0, h.1, slots_back d 64 e (omega arith), take_all 64 d.slots (omega arith), sets.back d.settings f, sets_back d z)

-- ---- bytes that spell a directory

length_slots : (n : ℕ) (l : List ℕ) → length (slots_spelled n l) ≡ n
unfolding slots_spelled
length_slots zero l = refl
length_slots (suc n) l = length-append (slots_spelled n l) _ ∙ ap (λ (k : ℕ). k + 1) (length_slots n l) ∙ (omega arith)

pub length_decoded : (l : List ℕ) → length (decoded l).slots ≡ 64
unfolding decoded
length_decoded l = go (spells_slots l)
  where
    go : (t : Bool) → length (cond t (slots_spelled 64 l) (replicate 64 (record { slot = no_slot }))) ≡ 64
    go true = length_slots 64 l
    go false = refl

pub sets_decoded : (l : List ℕ) → length (decoded l).holders ≡ 64
unfolding decoded sets_in
sets_decoded l = go (eqb (length l) directory_size) refl
  where
    go : (t : Bool) → eqb (length l) directory_size ≡ t → length (cond t (take 64 (drop 130 l)) (replicate 64 0)) ≡ 64
    go true e = let n : length l ≡ directory_size = eqb-true (length l) directory_size e in length-take-le 64 (drop 130 l) (simp length-drop (omega arith))
    go false e = length-replicate {A = ℕ} 64 0

slot_of : (l : List ℕ) (n i : ℕ) → i < n
    → get_or (slots_spelled n l) i empty_entry ≡ record { slot = slot_spelled (get_or l (2 * i) 0) (get_or l (2 * i + 1) 0) }
unfolding slots_spelled
slot_of l zero i h = absurd (not-suc-le-zero h)
slot_of l (suc n) i h =
    let s : ℕ → Entry = λ k. record { slot = slot_spelled (get_or l (2 * k) 0) (get_or l (2 * k + 1) 0) } in
    let xs : List Entry = slots_spelled n l in
    let e : length xs ≡ n = length_slots n l in
    ⊎_elim
    (λ (q : i ≡ n). let a : i ≡ length xs + 0 = omega arith in get_d_last xs (s n ∷ []) i 0 empty_entry a ∙ ap s (sym q))
    (λ (q : i < n). let a : i < length xs = omega arith in get_or-append xs (s n ∷ []) empty_entry i a ∙ slot_of l n i q)
    (eq-or-lt_of_le (le_of_suc-le-suc h))

-- a pair of bytes that is taken for a slot that its rule allows is that slot's
pair_forth : (d : Directory) (n s b : ℕ) → slot_rule d n (slot_spelled s b) ≡ true
    → (state_number (slot_spelled s b) ≡ s) × (block_of (slot_spelled s b) ≡ b)
unfolding slot_spelled slot_rule fits state_number block_of
pair_forth d n s b = go (eqb s 0) (eqb s 1) (eqb s 2) (eqb b 0) refl refl refl refl
  where
    go : (p q r z : Bool) → eqb s 0 ≡ p → eqb s 1 ≡ q → eqb s 2 ≡ r → eqb b 0 ≡ z
        → let x : Slot = cond p (cond z Invalid no_slot) (cond q (Shared b) (cond r (Modified b) no_slot)) in
        slot_rule d n x ≡ true → (state_number x ≡ s) × (block_of x ≡ b)
    go true q r true e f g h t = (sym (eqb-true s 0 e), sym (eqb-true b 0 h))
    go true q r false e f g h t = absurd (false≢true t)
    go false true r z e f g h t = (sym (eqb-true s 1 f), refl)
    go false false true z e f g h t = (sym (eqb-true s 2 g), refl)
    go false false false z e f g h t = absurd (false≢true t)

pub boards_decoded : (l : List ℕ) → length (decoded l).settings.boards ≡ 4
unfolding decoded settings_of
boards_decoded l = refl

slot_at_lem : (l : List ℕ) (i : ℕ) → spells_slots l ≡ true → i < 64
    → slot_at (decoded l) i ≡ slot_spelled (get_or l (2 * i) 0) (get_or l (2 * i + 1) 0)
unfolding slot_at decoded
slot_at_lem l i e h = rw e (ap (λ (x : Entry). x.slot) (slot_of l 64 i h))

-- the rule of slot i, of a directory that is sound
rule_at : (d : Directory) (i : ℕ) → sound d ≡ true → i < 64 → slot_rule d i (slot_at d i) ≡ true
unfolding sound sound_slots
rule_at d i t h =
    below_at (λ n. slot_rule d n (slot_at d n)) 64 i (both (sound_slots d) (sound_kinds d) (both (sound_slots d && sound_kinds d) (sound_sets d) t).0).0 h

-- two bytes more
take_two : (l : List ℕ) (n : ℕ) → n + 2 ≤ length l → take n l ++ (get_or l n 0 ∷ get_or l (n + 1) 0 ∷ []) ≡ take (n + 2) l
take_two l n h =
    let k : n + 2 ≡ suc (suc n) = omega arith in
    let k₁ : n + 1 ≡ suc n = omega arith in
    rw (k, k₁)
    (sym (take-suc l (suc n) 0 (omega arith)
    ∙ ap (λ (x : List ℕ). x ++ (get_or l (suc n) 0 ∷ [])) (take-suc l n 0 (omega arith))
    ∙ append_assoc (take n l) (get_or l n 0 ∷ []) (get_or l (suc n) 0 ∷ [])))

bytes_forth : (l : List ℕ) (n : ℕ) → length l ≡ directory_size → spells_slots l ≡ true → sound (decoded l) ≡ true → n ≤ 64 → slot_bytes n (decoded l) ≡ take (2 * n) l
unfolding slot_bytes
bytes_forth l zero e g t h = refl
bytes_forth l (suc n) e g t h =
    let i : n < 64 = omega arith in
    let s : slot_at (decoded l) n ≡ slot_spelled (get_or l (2 * n) 0) (get_or l (2 * n + 1) 0) = slot_at_lem l n g i in
    let p : (state_number (slot_at (decoded l) n) ≡ get_or l (2 * n) 0) × (block_of (slot_at (decoded l) n) ≡ get_or l (2 * n + 1) 0) =
    rw s (pair_forth (decoded l) n (get_or l (2 * n) 0) (get_or l (2 * n + 1) 0) (rw s at (rule_at (decoded l) n t i))) in
    let k : 2 * suc n ≡ 2 * n + 2 = omega arith in
    rw (p.0, p.1, bytes_forth l n e g t (omega arith), k) (take_two l (2 * n) (omega arith))

no_slots_lem : (l : List ℕ) → spells_slots l ≡ false → slot_at (decoded l) 0 ≡ no_slot
unfolding slot_at decoded
no_slots_lem l e = rw e

broken : (d : Directory) → slot_rule d 0 no_slot ≡ true → ⊥
unfolding slot_rule fits
broken d e = false≢true e

flag_forth : (n : ℕ) → n ≤ 1 → flag (eqb n 1) ≡ n
unfolding flag
flag_forth n h = go (eqb n 1) refl
  where
    go : (t : Bool) → eqb n 1 ≡ t → flag t ≡ n
    go true e = sym (eqb-true n 1 e)
    go false e = let q : n ≡ 1 → ⊥ = eqb-false n 1 e in let z : 0 ≡ n = omega arith in z

settings_forth : (l : List ℕ) → set_in l ≤ 15 → steal_in l ≤ 1 → settings_bytes (decoded l).settings ≡ get_or l 128 0 ∷ get_or l 129 0 ∷ []
unfolding settings_bytes decoded set_in steal_in
settings_forth l h g =
    let f = sets.forth (set_in l) (eqb (steal_in l) 1) h in
    rw (f.0, f.1, flag_forth (steal_in l) g)

sets_forth : (l : List ℕ) → length l ≡ directory_size → (decoded l).holders ≡ take 64 (drop 130 l)
unfolding decoded sets_in
sets_forth l e = rw (eq-eqb (length l) directory_size e) refl

forth : (l : List ℕ) → sound (decoded l) ≡ true → encoded (decoded l) ≡ l
unfolding encoded front_bytes spells_slots
forth l t = go (spells_slots l) refl
  where
    go : (p : Bool) → spells_slots l ≡ p → slot_bytes 64 (decoded l) ++ settings_bytes (decoded l).settings ++ (decoded l).holders ≡ l
    go true e =
        let q = both (eqb (length l) directory_size && leb (set_in l) 15) (leb (steal_in l) 1) e in
        let r = both (eqb (length l) directory_size) (leb (set_in l) 15) q.0 in
        let n : length l ≡ directory_size = eqb-true (length l) directory_size r.0 in
        rw (bytes_forth l 64 n e t (omega arith), settings_forth l (leb-true (set_in l) 15 r.1) (leb-true (steal_in l) 1 q.1), sets_forth l n)
        (ap (λ (x : List ℕ). x ++ take 64 (drop 130 l)) (take_two l 128 (omega arith)) ∙ sym (take-add 130 64 l) ∙ take_all directory_size l (omega arith))
    go false e = absurd (broken (decoded l) (rw (no_slots_lem l e) at (rule_at (decoded l) 0 t (omega arith))))

-- what stands behind the slots in sound bytes are the settings that they spell
pub settings_kept : (l : List ℕ) → sound (decoded l) ≡ true → take 2 (drop 128 l) ≡ settings_bytes (decoded l).settings
unfolding encoded front_bytes settings_bytes
settings_kept l t =
    let s : List ℕ = slot_bytes 64 (decoded l) in
    let g : List ℕ = settings_bytes (decoded l).settings in
    ap (λ (x : List ℕ). take 2 (drop 128 x)) (sym (forth l t) ∙ append_assoc s g (decoded l).holders)
    ∙ ap (take 2) (drop_at s (g ++ (decoded l).holders) 128 (length_slot_bytes 64 (decoded l)))
    ∙ take_at g (decoded l).holders 2 refl

pub inverse : Inverse
inverse = record { back = back; forth = forth }
