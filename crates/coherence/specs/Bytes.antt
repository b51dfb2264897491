-- The two lent stores as lists of bytes: blocks of 32 bytes, and words of 4 bytes, most significant first (document 01, "The directory").
use Rattle.std.specs.Prelude.{ℕ, ◌+◌, ◌*◌, ◌/◌, ◌%◌, List, ◌++◌, get_or, take, drop, set}

-- the bytes of the memory store, and of the cache store
abbrev pub store_size : ℕ
store_size = 2048

-- "Block b lies at 32 b in memory." A slot's part of the cache store is counted in blocks too: see `place`.
unfoldable pub block_at : List ℕ → ℕ → List ℕ
block_at l b = take 32 (drop (32 * b) l)

-- the store with the 32 bytes x as its block b
unfoldable pub put_block : List ℕ → ℕ → List ℕ → List ℕ
put_block l b x = take (32 * b) l ++ x ++ drop (32 * b + 32) l

-- "Words are 4 bytes, most significant first": the word at a, as a number
unfoldable pub word_at : List ℕ → ℕ → ℕ
word_at l a = get_or l a 0 * 16777216 + get_or l (a + 1) 0 * 65536 + get_or l (a + 2) 0 * 256 + get_or l (a + 3) 0

-- the store with the word v at a
unfoldable pub put_word : List ℕ → ℕ → ℕ → List ℕ
put_word l a v =
    set (set (set (set l a (v / 16777216 % 256)) (a + 1) (v / 65536 % 256)) (a + 2) (v / 256 % 256)) (a + 3) (v % 256)
