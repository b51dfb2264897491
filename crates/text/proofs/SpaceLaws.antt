-- Laws of bytes put into a space.
use Prim.Native.Nat.{ℕ, suc, ◌+◌, ◌≤◌, ◌<◌}
use native.Mathlib.Nat.{add-zero, add-suc, suc-add}
use native.Mathlib.Numerals.{add-one}
use native.Mathlib.Omega.{arith}
use mathlib.Core.Path.{◌≡◌, refl, sym, ◌∙◌}
use mathlib.Core.List.{List, [], ◌∷◌, ◌++◌, append_assoc}
use lib.ListN.{length, set, get_or, take}
use lib.Seq.{sets, sets-eq, take-suc, length-take-le, drop-drop}
use mathlib.Core.Bool.{Bool, true, false}
use lib.Dec.{leb}
use borrow.Author.Tests.{leb-true}
use borrow.Rule.Slice.PartMut.{put_mid}
use Rattle.text.specs.Space.{placed}

-- one run of bytes after another is both at once
pub sets_append : (a xs b : List ℕ) (at : ℕ) → sets xs at (a ++ b) ≡ sets (sets xs at a) (at + length a) b
sets_append [] xs b at = simp add-zero
sets_append (x ∷ a) xs b at = sets_append a (set xs at x) b (suc at) ∙ simp (add-suc, suc-add)

pub sets_snoc : (l xs : List ℕ) (at b : ℕ) → sets xs at (l ++ (b ∷ [])) ≡ set (sets xs at l) (at + length l) b
sets_snoc l xs at b = sets_append l xs (b ∷ []) at

-- one byte more of a word, behind those before it
pub sets_next : (word xs : List ℕ) (at i : ℕ) → i < length word → set (sets xs at (take i word)) (at + i) (get_or word i 0) ≡ sets xs at (take (i + 1) word)
sets_next word xs at i h = sym (rw (add-one, take-suc word i 0 h, sets_snoc, length-take-le i word (omega arith)) refl)

-- where the bytes have room they are put, and else none is
pub placed_room : (xs : List ℕ) (at : ℕ) (s : List ℕ) → leb (at + length s) (length xs) ≡ true → placed xs at s ≡ sets xs at s
unfolding placed
placed_room xs at s h = rw h

pub placed_none : (xs : List ℕ) (at : ℕ) (s : List ℕ) → leb (at + length s) (length xs) ≡ false → placed xs at s ≡ xs
unfolding placed
placed_none xs at s h = rw h

-- a part of the space that has the place and the length of the bytes, when it holds them
pub part_sets : (xs s t : List ℕ) (at n : ℕ) → at + length s ≤ length xs → n ≡ length s → t ≡ s → put_mid at n xs t ≡ sets xs at s
part_sets xs s t at n h e f = rw (sets-eq s xs at h, e, f, drop-drop, append_assoc)

pub part_placed : (xs s t : List ℕ) (at n : ℕ) (b : Bool) → b ≡ leb (at + length s) (length xs) → b ≡ true → n ≡ length s → t ≡ s
    → put_mid at n xs t ≡ placed xs at s
part_placed xs s t at n b r h e f =
    let room : leb (at + length s) (length xs) ≡ true = sym r ∙ h in
    part_sets xs s t at n (leb-true _ _ room) e f ∙ sym (placed_room xs at s room)
