-- Document 01's example of a drill, byte for byte, and the other texts that it gives word for word.
use Rattle.std.specs.Prelude.{ℕ, ◌≤◌, ◌<◌, ◌≡◌, None, Some, List, [], ◌∷◌, ◌++◌, length, replicate}
use Rattle.text.specs.Space.{ascii}
use Rattle.coherence.specs.Demand3.{orders_given}
use Rattle.reading.specs.Reading.{read_all}
use Rattle.drill_format.specs.Line.{lines}
use Rattle.drill_format.specs.Drill.{calls_in, answers_in, last_line, drill_text, printed}

unfoldable pub example_tape : List ℕ
example_tape =
    0x01 ∷ 0x00 ∷ 0x48 ∷ 0x09 ∷ 0x00 ∷ 0x01 ∷ 0x48 ∷ 0x01 ∷ 0x01 ∷ 0x48 ∷ 0x0A ∷ 0x00 ∷ 0x00 ∷ 0xC8 ∷ 0x04 ∷ 0x00 ∷ 0x01 ∷ 0xC8 ∷ 0x04 ∷ 0x02 ∷ 0x01 ∷ 0x02 ∷ []

pub record Examples : Type 0 where
  pub whole :
      drill_text example_tape
      ≡ ascii "store 0 72 9 orders 1\nload 1 72 9 orders 3\nstore 1 72 10 orders 1\nload 0 584 0 orders 1\nload 1 584 0 orders 2\nflush 1 2 orders 0\ntotal 6 calls 8 orders\n"
  -- "tape of 0 bytes (`total 0 calls 0 orders`)"
  pub empty : drill_text [] ≡ ascii "total 0 calls 0 orders\n"
  -- "other kinds print nothing": an order, a loaded value, and a stamp of 300
  pub others : drill_text (0x03 ∷ 0x02 ∷ 0x00 ∷ 0x28 ∷ 0x01 ∷ 0x06 ∷ 0x03 ∷ 0x05 ∷ 0x08 ∷ 0xAC ∷ 0x02 ∷ []) ≡ ascii "total 0 calls 0 orders\n"
  -- stamps before, between and after accesses, the last of them 2^64 - 1
  pub stamps :
      drill_text (0x08 ∷ 0x00 ∷ 0x02 ∷ 0x03 ∷ 0x3F ∷ 0x08 ∷ 0xAC ∷ 0x02 ∷ 0x02 ∷ 0x03 ∷ 0x3E ∷ 0x08 ∷ replicate 9 0xFF ++ (0x01 ∷ []))
      ≡ ascii "flush 3 63 orders 0\nflush 3 62 orders 0\ntotal 2 calls 0 orders\n"
  -- "A reading refusal prints `refused N at P` and ends, with no total": after a flush, a flush of block 64
  pub refused : drill_text (0x02 ∷ 0x03 ∷ 0x3F ∷ 0x02 ∷ 0x03 ∷ 0x40 ∷ []) ≡ ascii "flush 3 63 orders 0\nrefused 8 at 5\n"
  -- "a tape of up to 65,536 bytes"; "A longer tape prints only `refused 9 at 65536`."
  pub longer : (tape : List ℕ) → 65536 < length tape → drill_text tape ≡ ascii "refused 9 at 65536\n"
  pub up_to :
      (tape : List ℕ) → length tape ≤ 65536
      → drill_text tape ≡ lines (calls_in tape) (answers_in tape) ++ last_line (read_all tape).ending (length (calls_in tape)) (orders_given (answers_in tape))
  -- an input that can't be read, and one that was read
  pub unreadable : printed None ≡ ascii "refused 18 at 0\n"
  pub readable : (tape : List ℕ) → printed (Some tape) ≡ drill_text tape
