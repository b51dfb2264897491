-- Laws of blocks and words in a store.
use mathlib.Core.Path.{◌≡◌, sym, ap, ◌∙◌}
use mathlib.Core.List.{List, ◌++◌, append_assoc}
use mathlib.Core.Logic.{◌⊎◌, inl, inr, ⊎_elim}
use Prim.Native.Nat.{ℕ, ◌+◌, ◌*◌, ◌-◌, ◌/◌, ◌%◌, ◌≤◌, ◌<◌}
use native.Mathlib.Omega.{arith}
use native.Mathlib.Nat.{add_assoc}
use lib.ListN.{length, get_or, take, drop, set, length-append, length-take, length-drop, length-set, get_or-append}
use lib.Seq.{drop_at, take_at, ext_get_or, get_or-take, get_or-drop, get_or-append-add, length-take-le, drop-set-lt, drop-set-add, take-set-le, take-set-lt}
use Rattle.coherence.specs.Bytes.{block_at, put_block, word_at, put_word}
use Rattle.coherence.proofs.Cases.{lt_or_le}

pub length_block : (l : List ℕ) (k : ℕ) → 32 * k + 32 ≤ length l → length (block_at l k) ≡ 32
unfolding block_at
length_block l k h = simp (length-take, length-drop) (omega arith)

pub length_put_block : (l : List ℕ) (k : ℕ) (x : List ℕ) → 32 * k + 32 ≤ length l → length x ≡ 32 → length (put_block l k x) ≡ length l
unfolding put_block
length_put_block l k x h e = simp (length-append, length-take, length-drop) (omega arith)

-- a block that was put is there
pub block_same : (l : List ℕ) (k : ℕ) (x : List ℕ) → 32 * k + 32 ≤ length l → length x ≡ 32 → block_at (put_block l k x) k ≡ x
unfolding block_at put_block
block_same l k x h e =
    ap (take 32) (ap (drop (32 * k)) (append_assoc (take (32 * k) l) x (drop (32 * k + 32) l))
    ∙ drop_at (take (32 * k) l) (x ++ drop (32 * k + 32) l) (32 * k) (length-take-le (32 * k) l (omega arith)))
    ∙ take_at x (drop (32 * k + 32) l) 32 e

-- a byte outside of a block that was put
byte_other : (l : List ℕ) (k : ℕ) (x : List ℕ) (i : ℕ) → 32 * k + 32 ≤ length l → length x ≡ 32 → (i < 32 * k) ⊎ (32 * k + 32 ≤ i)
    → get_or (put_block l k x) i 0 ≡ get_or l i 0
unfolding put_block
byte_other l k x i h e (inl a) =
    let t : i < length (take (32 * k) l) = simp length-take (omega arith) in
    ap (λ (r : List ℕ). get_or r i 0) (append_assoc (take (32 * k) l) x (drop (32 * k + 32) l))
    ∙ get_or-append (take (32 * k) l) (x ++ drop (32 * k + 32) l) 0 i t
    ∙ get_or-take (32 * k) l i 0 a
byte_other l k x i h e (inr a) =
    let n : ℕ = i - (32 * k + 32) in
    let f : i ≡ length (take (32 * k) l ++ x) + n = simp (length-append, length-take) (omega arith) in
    ap (λ (m : ℕ). get_or (take (32 * k) l ++ x ++ drop (32 * k + 32) l) m 0) f
    ∙ get_or-append-add (take (32 * k) l ++ x) (drop (32 * k + 32) l) n 0
    ∙ get_or-drop (32 * k + 32) l n 0
    ∙ ap (λ (m : ℕ). get_or l m 0) (omega arith)

-- two stores of one length have the same block where they have the same bytes
block_ext : (l r : List ℕ) (j : ℕ) → length l ≡ length r → ((i : ℕ) → i < 32 → get_or l (32 * j + i) 0 ≡ get_or r (32 * j + i) 0)
    → block_at l j ≡ block_at r j
unfolding block_at
block_ext l r j e f =
    ext_get_or 0 (take 32 (drop (32 * j) l)) (take 32 (drop (32 * j) r)) (simp (length-take, length-drop, e))
    (λ i h.
    let b : i < 32 = omega (arith, length-take 32 (drop (32 * j) l)) in
    get_or-take 32 (drop (32 * j) l) i 0 b
    ∙ get_or-drop (32 * j) l i 0
    ∙ f i b
    ∙ sym (get_or-take 32 (drop (32 * j) r) i 0 b ∙ get_or-drop (32 * j) r i 0))

-- the other blocks stay
pub block_other : (l : List ℕ) (k j : ℕ) (x : List ℕ) → 32 * k + 32 ≤ length l → length x ≡ 32 → (j ≡ k → ⊥)
    → block_at (put_block l k x) j ≡ block_at l j
block_other l k j x h e d =
    block_ext (put_block l k x) l j (length_put_block l k x h e)
    (λ i a. byte_other l k x (32 * j + i) h e
    (⊎_elim
    (λ b. inl (omega arith))
    (λ b. inr (let c : k < j = omega arith in omega arith))
    (lt_or_le j k)))

-- a byte that was set, and blocks
block_set_same : (l : List ℕ) (k o a : ℕ) → o < 32 → block_at (set l (32 * k + o) a) k ≡ set (block_at l k) o a
unfolding block_at
block_set_same l k o a h = rw (drop-set-add, take-set-lt)

block_set_other : (l : List ℕ) (i j a : ℕ) → (i < 32 * j) ⊎ (32 * j + 32 ≤ i) → block_at (set l i a) j ≡ block_at l j
unfolding block_at
block_set_other l i j a (inl h) = ap (take 32) (drop-set-lt (32 * j) l i a h)
block_set_other l i j a (inr h) =
    let e : i ≡ 32 * j + (i - 32 * j) = omega arith in
    ap (λ (m : ℕ). take 32 (drop (32 * j) (set l m a))) e
    ∙ ap (take 32) (drop-set-add (32 * j) l (i - 32 * j) a)
    ∙ take-set-le 32 (drop (32 * j) l) (i - 32 * j) a (omega arith)

pub length_put_word : (l : List ℕ) (a v : ℕ) → length (put_word l a v) ≡ length l
unfolding put_word
length_put_word l a v = simp length-set

pub word_same : (l : List ℕ) (k o v : ℕ) → o + 4 ≤ 32 → block_at (put_word l (32 * k + o) v) k ≡ put_word (block_at l k) o v
unfolding put_word
word_same l k o v h =
    let h₀ : o < 32 = omega arith in
    let h₁ : o + 1 < 32 = omega arith in
    let h₂ : o + 2 < 32 = omega arith in
    let h₃ : o + 3 < 32 = omega arith in
    simp (add_assoc, block_set_same)

pub word_other : (l : List ℕ) (k j o v : ℕ) → o + 4 ≤ 32 → (j ≡ k → ⊥) → block_at (put_word l (32 * k + o) v) j ≡ block_at l j
unfolding put_word
word_other l k j o v h d =
    let away : (i : ℕ) → 32 * k + o ≤ i → i < 32 * k + o + 4 → (i < 32 * j) ⊎ (32 * j + 32 ≤ i) =
    λ i p q. ⊎_elim (λ b. inr (omega arith)) (λ b. inl (let c : k < j = omega arith in omega arith)) (lt_or_le j k) in
    block_set_other _ (32 * k + o + 3) j _ (away (32 * k + o + 3) (omega arith) (omega arith))
    ∙ block_set_other _ (32 * k + o + 2) j _ (away (32 * k + o + 2) (omega arith) (omega arith))
    ∙ block_set_other _ (32 * k + o + 1) j _ (away (32 * k + o + 1) (omega arith) (omega arith))
    ∙ block_set_other _ (32 * k + o) j _ (away (32 * k + o) (omega arith) (omega arith))

pub word_block : (l : List ℕ) (k o : ℕ) → o + 4 ≤ 32 → word_at l (32 * k + o) ≡ word_at (block_at l k) o
unfolding word_at block_at
word_block l k o h =
    let at : (i : ℕ) → i < 32 → get_or (take 32 (drop (32 * k) l)) i 0 ≡ get_or l (32 * k + i) 0 =
    λ i b. get_or-take 32 (drop (32 * k) l) i 0 b ∙ get_or-drop (32 * k) l i 0 in
    simp (at o (omega arith), at (o + 1) (omega arith), at (o + 2) (omega arith), at (o + 3) (omega arith), add_assoc)

-- ---- words at aligned addresses
address : (a : ℕ) → a ≡ 32 * (a / 32) + a % 32
address a = omega arith

-- a word is in one block, and a word that is put changes that block alone
pub word_in_block : (l : List ℕ) (a : ℕ) → a % 4 ≡ 0 → word_at l a ≡ word_at (block_at l (a / 32)) (a % 32)
word_in_block l a h = ap (word_at l) (address a) ∙ word_block l (a / 32) (a % 32) (omega arith)

pub word_elsewhere : (l : List ℕ) (a v : ℕ) → a % 4 ≡ 0
    → (block_at (put_word l a v) (a / 32) ≡ put_word (block_at l (a / 32)) (a % 32) v)
    × ((b : ℕ) → (b ≡ a / 32 → ⊥) → block_at (put_word l a v) b ≡ block_at l b)
word_elsewhere l a v h = (
  ap (λ (x : ℕ). block_at (put_word l x v) (a / 32)) (address a) ∙ word_same l (a / 32) (a % 32) v (omega arith),
  λ b d. ap (λ (x : ℕ). block_at (put_word l x v) b) (address a) ∙ word_other l (a / 32) b (a % 32) v (omega arith) d,
)
