-- A block or a word that is in the store, and the length of a store after a move.
use mathlib.Core.Path.{◌≡◌, refl, ◌∙◌}
use mathlib.Core.Bool.{Bool, true, false, cond, ◌&&◌}
use mathlib.Core.List.{List}
use Prim.Native.Nat.{ℕ, ◌+◌, ◌/◌, ◌≤◌, ◌<◌}
use native.Mathlib.Omega.{arith}
use lib.Dec.{ltb}
use lib.ListN.{length}
use borrow.Author.Tests.{lt-ltb, ltb-true, le-leb}
use Rattle.coherence.specs.declared.Slot.{Slot}
use Rattle.coherence.specs.declared.Slot.TheVariants.{Invalid, Shared, Modified}
use Rattle.coherence.specs.Bytes.{block_at, put_block, word_at, put_word}
use Rattle.coherence.specs.Slots.{place}
use Rattle.coherence.proofs.ByteLaws.{length_block, length_put_block}
use Rattle.blocks.specs.Moves.{has_block, copied, has_word, word_in, word_put, evicted_memory, yielded_memory, fetched_memory, fetched_cache}

pub copied_is : (s t : List ℕ) (i j : ℕ) → i < length s / 32 → j < length t / 32 → copied s i t j ≡ put_block t j (block_at s i)
unfolding copied has_block
copied_is s t i j p q = rw (lt-ltb i (length s / 32) p, lt-ltb j (length t / 32) q) refl

pub word_is : (l : List ℕ) (a : ℕ) → a + 4 ≤ length l → word_in l a ≡ word_at l a
unfolding word_in has_word
word_is l a h = rw (le-leb (a + 4) (length l) h) refl

pub put_is : (l : List ℕ) (a v : ℕ) → a + 4 ≤ length l → word_put l a v ≡ put_word l a v
unfolding word_put has_word
put_is l a v h = rw (le-leb (a + 4) (length l) h) refl

-- ---- a store keeps its length
length_copied : (s t : List ℕ) (i j : ℕ) → length (copied s i t j) ≡ length t
unfolding copied has_block
length_copied s t i j = go (ltb i (length s / 32)) (ltb j (length t / 32)) refl refl
  where
    go : (p q : Bool) → ltb i (length s / 32) ≡ p → ltb j (length t / 32) ≡ q → length (cond (p && q) (put_block t j (block_at s i)) t) ≡ length t
    go true true e f =
        let g : i < length s / 32 = ltb-true _ _ e in
        let h : j < length t / 32 = ltb-true _ _ f in
        length_put_block t j (block_at s i) (omega arith) (length_block s i (omega arith))
    go true false e f = refl
    go false q e f = refl

pub length_evicted : (n : ℕ) (x : Slot) (m c : List ℕ) → length (evicted_memory n x m c) ≡ length m
unfolding evicted_memory
length_evicted n Invalid m c = refl
length_evicted n (Shared b) m c = refl
length_evicted n (Modified b) m c = length_copied c m n b

pub length_yielded : (b v : ℕ) (m c : List ℕ) → length (yielded_memory b v m c) ≡ length m
unfolding yielded_memory
length_yielded b v m c = go (ltb v 4)
  where
    go : (t : Bool) → length (cond t (copied c (place v b) m b) m) ≡ length m
    go true = length_copied c m (place v b) b
    go false = refl

pub length_fetched : (n b : ℕ) (x : Slot) (v : ℕ) (m c : List ℕ)
    → (length (fetched_memory n b x v m c) ≡ length m) × (length (fetched_cache n b x v m c) ≡ length c)
unfolding fetched_memory fetched_cache
length_fetched n b x v m c =
    (length_yielded b v (evicted_memory n x m c) c ∙ length_evicted n x m c, length_copied (fetched_memory n b x v m c) c b n)
