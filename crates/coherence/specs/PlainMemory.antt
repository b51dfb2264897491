-- Document 01, "Plain memory", in its own words. It shares nothing with the machine but the calls that it is fed and words in bytes.
use Rattle.std.specs.Prelude.{ℕ, ◌+◌, ◌%◌, ◌≤◌, ◌<◌, ◌≡◌, Bool, cond, ◌&&◌, List, [], ◌∷◌, length, leb, eqb}
use Rattle.coherence.specs.declared.Call.{Call}
use Rattle.coherence.specs.declared.Call.TheVariants.{Load, Store, Flush}
use Rattle.coherence.specs.Bytes.{word_at, put_word}

-- "A load or store is accepted exactly when its unit is at most 3 and its address a multiple of 4 up to 2,044; a flush, when its unit is at most 3
-- and its block at most 63."
unfoldable pub plain_accepts : Call → Bool
plain_accepts (Load u a) = leb u 3 && eqb (a % 4) 0 && leb a 2044
plain_accepts (Store u a v) = leb u 3 && eqb (a % 4) 0 && leb a 2044
plain_accepts (Flush u b) = leb u 3 && leb b 63

-- "An accepted store at a puts its value into bytes a to a + 3, most significant first." The bytes after an accepted call
unfoldable pub plain_put : Call → List ℕ → List ℕ
plain_put (Load u a) p = p
plain_put (Store u a v) p = put_word p a v
plain_put (Flush u b) p = p

-- "An accepted load at a gives those four bytes as a number, read likewise." The number of an accepted call
unfoldable pub plain_number : Call → List ℕ → ℕ
plain_number (Load u a) p = word_at p a
plain_number (Store u a v) p = 0
plain_number (Flush u b) p = 0

-- whether a call is accepted, and the number that it gives
pub record Reply : Type 0 where
  pub accepted : Bool
  pub number : ℕ

-- "Nothing else changes a byte or gives a value."
unfoldable pub plain_after : Call → List ℕ → List ℕ
plain_after c p = cond (plain_accepts c) (plain_put c p) p

unfoldable pub plain_reply : Call → List ℕ → Reply
plain_reply c p = record { accepted = plain_accepts c; number = cond (plain_accepts c) (plain_number c p) 0 }

-- a list of calls, in order
unfoldable pub plain_replies : List ℕ → List Call → List Reply
plain_replies p [] = []
plain_replies p (c ∷ cs) = plain_reply c p ∷ plain_replies (plain_after c p) cs

unfoldable pub plain_after_all : List ℕ → List Call → List ℕ
plain_after_all p [] = p
plain_after_all p (c ∷ cs) = plain_after_all (plain_after c p) cs

-- ---- what makes it a memory

pub record Memory : Type 0 where
  -- a word that was put is read back, for every 32-bit value
  pub same : (p : List ℕ) (a v : ℕ) → a + 4 ≤ length p → v < 4294967296 → word_at (put_word p a v) a ≡ v
  -- a word put at another aligned address leaves it
  pub other : (p : List ℕ) (a b v : ℕ) → a % 4 ≡ 0 → b % 4 ≡ 0 → (a ≡ b → ⊥) → word_at (put_word p a v) b ≡ word_at p b
