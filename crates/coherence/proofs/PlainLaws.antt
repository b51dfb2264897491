-- The plain memory: it accepts what the machine's tests of unit and address accept, and it is a memory.
use mathlib.Core.Path.{◌≡◌, refl, ◌∙◌}
use mathlib.Core.Bool.{Bool, true, false, ◌&&◌}
use mathlib.Core.List.{List}
use mathlib.Core.Logic.{◌⊎◌, inl, inr, ⊎_elim}
use Prim.Native.Nat.{ℕ, ◌+◌, ◌*◌, ◌/◌, ◌%◌, ◌≤◌, ◌<◌}
use native.Mathlib.Omega.{arith}
use lib.ListN.{length, get_or, set, length-set}
use lib.Seq.{get_or-set_same, get_or-set_other}
use lib.Dec.{leb, eqb}
use borrow.Author.Tests.{eqb-true, leb-true}
use Rattle.coherence.specs.declared.Call.{Call}
use Rattle.coherence.specs.declared.Call.TheVariants.{Load, Store, Flush}
use Rattle.coherence.specs.Bytes.{word_at, put_word}
use Rattle.coherence.specs.Refusal.{is_unit, is_address, is_block}
use Rattle.coherence.specs.Calls.{unit_of, is_target}
use Rattle.coherence.specs.PlainMemory.{plain_accepts, Memory}
use Rattle.coherence.proofs.Cases.{lt_or_le, eq_or_ne}
use Rattle.coherence.proofs.Below.{both}

-- ---- its tests and the machine's
and_assoc : (r s t : Bool) → (r && (s && t)) ≡ (r && s && t)
and_assoc true s t = refl
and_assoc false s t = refl

pub own_words : (c : Call) → (is_unit (unit_of c) && is_target c) ≡ plain_accepts c
unfolding is_unit unit_of is_target is_address is_block plain_accepts
own_words (Load u a) = and_assoc (leb u 3) (eqb (a % 4) 0) (leb a 2044)
own_words (Store u a v) = and_assoc (leb u 3) (eqb (a % 4) 0) (leb a 2044)
own_words (Flush u b) = refl

three : (u a : ℕ) → (leb u 3 && eqb (a % 4) 0 && leb a 2044) ≡ true → (u ≤ 3) × (a % 4 ≡ 0) × (a ≤ 2044)
three u a e =
    let q : ((leb u 3 && eqb (a % 4) 0) ≡ true) × (leb a 2044 ≡ true) = both _ _ e in
    let r : (leb u 3 ≡ true) × (eqb (a % 4) 0 ≡ true) = both _ _ q.0 in
    (leb-true u 3 r.0, eqb-true (a % 4) 0 r.1, leb-true a 2044 q.1)

pub load_accepted : (u a : ℕ) → plain_accepts (Load u a) ≡ true → (u ≤ 3) × (a % 4 ≡ 0) × (a ≤ 2044)
unfolding plain_accepts
load_accepted u a e = three u a e

pub store_accepted : (u a v : ℕ) → plain_accepts (Store u a v) ≡ true → (u ≤ 3) × (a % 4 ≡ 0) × (a ≤ 2044)
unfolding plain_accepts
store_accepted u a v e = three u a e

pub flush_accepted : (u b : ℕ) → plain_accepts (Flush u b) ≡ true → (u ≤ 3) × (b ≤ 63)
unfolding plain_accepts
flush_accepted u b e =
    let q : (leb u 3 ≡ true) × (leb b 63 ≡ true) = both _ _ e in
    (leb-true u 3 q.0, leb-true b 63 q.1)

-- ---- words
joined : (v x y a b c d : ℕ) → v ≡ 256 * x + d → x ≡ 256 * y + c → y ≡ 256 * a + b → a * 16777216 + b * 65536 + c * 256 + d ≡ v
joined v x y a b c d e f g = omega arith

digits : (v : ℕ) → v < 4294967296 → v / 16777216 % 256 * 16777216 + v / 65536 % 256 * 65536 + v / 256 % 256 * 256 + v % 256 ≡ v
digits v l =
    let x : v / 65536 ≡ v / 256 / 256 = omega arith in
    let y : v / 16777216 ≡ v / 65536 / 256 = omega arith in
    joined v (v / 256) (v / 65536) (v / 16777216 % 256) (v / 65536 % 256) (v / 256 % 256) (v % 256) (omega arith) (omega arith) (omega arith)

read_back : (p : List ℕ) (a v : ℕ) → a + 4 ≤ length p → v < 4294967296 → word_at (put_word p a v) a ≡ v
unfolding word_at put_word
read_back p a v h l =
    let l₁ : List ℕ = set p a (v / 16777216 % 256) in
    let l₂ : List ℕ = set l₁ (a + 1) (v / 65536 % 256) in
    let l₃ : List ℕ = set l₂ (a + 2) (v / 256 % 256) in
    let n₁ : length l₁ ≡ length p = length-set p a _ in
    let n₂ : length l₂ ≡ length l₁ = length-set l₁ (a + 1) _ in
    let n₃ : length l₃ ≡ length l₂ = length-set l₂ (a + 2) _ in
    let b₀ : get_or (set l₃ (a + 3) (v % 256)) a 0 ≡ v / 16777216 % 256 =
    get_or-set_other l₃ (a + 3) a _ 0 (λ e. omega arith) ∙ get_or-set_other l₂ (a + 2) a _ 0 (λ e. omega arith)
    ∙ get_or-set_other l₁ (a + 1) a _ 0 (λ e. omega arith) ∙ get_or-set_same p a _ 0 (omega arith) in
    let b₁ : get_or (set l₃ (a + 3) (v % 256)) (a + 1) 0 ≡ v / 65536 % 256 =
    get_or-set_other l₃ (a + 3) (a + 1) _ 0 (λ e. omega arith) ∙ get_or-set_other l₂ (a + 2) (a + 1) _ 0 (λ e. omega arith)
    ∙ get_or-set_same l₁ (a + 1) _ 0 (omega arith) in
    let b₂ : get_or (set l₃ (a + 3) (v % 256)) (a + 2) 0 ≡ v / 256 % 256 =
    get_or-set_other l₃ (a + 3) (a + 2) _ 0 (λ e. omega arith) ∙ get_or-set_same l₂ (a + 2) _ 0 (omega arith) in
    let b₃ : get_or (set l₃ (a + 3) (v % 256)) (a + 3) 0 ≡ v % 256 = get_or-set_same l₃ (a + 3) _ 0 (omega arith) in
    rw (b₀, b₁, b₂, b₃) (digits v l)

-- a byte outside of a word that was put
byte_other : (p : List ℕ) (a v i : ℕ) → (i < a) ⊎ (a + 4 ≤ i) → get_or (put_word p a v) i 0 ≡ get_or p i 0
unfolding put_word
byte_other p a v i h =
    let l₁ : List ℕ = set p a (v / 16777216 % 256) in
    let l₂ : List ℕ = set l₁ (a + 1) (v / 65536 % 256) in
    let l₃ : List ℕ = set l₂ (a + 2) (v / 256 % 256) in
    let away : (j : ℕ) → j < 4 → i ≡ a + j → ⊥ = λ j k e. ⊎_elim (λ (g : i < a). omega arith) (λ (g : a + 4 ≤ i). omega arith) h in
    get_or-set_other l₃ (a + 3) i _ 0 (away 3 (omega arith))
    ∙ get_or-set_other l₂ (a + 2) i _ 0 (away 2 (omega arith))
    ∙ get_or-set_other l₁ (a + 1) i _ 0 (away 1 (omega arith))
    ∙ get_or-set_other p a i _ 0 (λ (e : i ≡ a). away 0 (omega arith) (omega arith))

read_other : (p : List ℕ) (a b v : ℕ) → a % 4 ≡ 0 → b % 4 ≡ 0 → (a ≡ b → ⊥) → word_at (put_word p a v) b ≡ word_at p b
unfolding word_at
read_other p a b v g h d =
    rw (
      o b (far b (omega arith) (omega arith)),
      o (b + 1) (far (b + 1) (omega arith) (omega arith)),
      o (b + 2) (far (b + 2) (omega arith) (omega arith)),
      o (b + 3) (far (b + 3) (omega arith) (omega arith)),
    ) refl
  where
    o : (i : ℕ) → (i < a) ⊎ (a + 4 ≤ i) → get_or (put_word p a v) i 0 ≡ get_or p i 0
    o = byte_other p a v

    far : (i : ℕ) → b ≤ i → i < b + 4 → (i < a) ⊎ (a + 4 ≤ i)
    far i k l = ⊎_elim (λ (q : b < a). inl (omega arith)) (λ (q : a < b). inr (omega arith)) (apart (lt_or_le b a) (eq_or_ne a b))
      where
        apart : (b < a) ⊎ (a ≤ b) → (a ≡ b) ⊎ (a ≡ b → ⊥) → (b < a) ⊎ (a < b)
        apart (inl q) r = inl q
        apart (inr q) (inl r) = absurd (d r)
        apart (inr q) (inr r) = inr (omega arith)

pub is_memory : Memory
is_memory = record { same = read_back; other = read_other }
