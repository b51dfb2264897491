-- What the functions that write the text, part after part, promise one another.
use Rattle.std.specs.Prelude.{ℕ, ◌+◌, ◌^◌, ◌≤◌, ◌<◌, ◌≡◌, Option, None, Some, List, ◌++◌, length}
use Rattle.std.proofs.lemmas.List.Edits.{sets}
use Rattle.coherence.specs.declared.Call.{Call}
use Rattle.coherence.specs.declared.Call.TheVariants.{Load, Store, Flush}
use Rattle.coherence.specs.declared.Directory.{Directory}
use Rattle.coherence.specs.Calls.{answer, answers, memory_after, cache_after}
use Rattle.coherence.specs.Demand3.{orders_in, orders_given}
use Rattle.tape_format.specs.declared.Record.{Record}
use Rattle.drill_text.specs.declared.run.Progress.{Progress}
use Rattle.reading.specs.Reading.{Reading, and_more, calls_of, access_of}
use Rattle.drill_format.specs.Line.{call_line, lines}
use Rattle.drill_format.specs.Drill.{last_line}

-- the bytes s are put into the space o at the place a, if they have room, which leaves o'; r is the place after them, in any case
pub record Puts (s o : List ℕ) (a : ℕ) (o' : List ℕ) (r : ℕ) : Type 0 where
  pub next : r ≡ a + length s
  pub room : length o' ≡ length o
  pub bytes : r ≤ length o → o' ≡ sets o a s

-- a record's line, its call and its orders can be counted on
pub record Within (s : Progress) : Type 0 where
  pub at : s.at < 2 ^ 36
  pub calls : s.calls < 2 ^ 36
  pub orders : s.orders < 2 ^ 36

-- the text of what is still to be read, with the machine at d, m and k after so many calls and orders
unfoldable pub text_from : Directory → List ℕ → List ℕ → ℕ → ℕ → Reading → List ℕ
text_from d m k calls orders g =
    lines (calls_of g.records) (answers d m k (calls_of g.records))
    ++ last_line g.ending (calls + length (calls_of g.records)) (orders + orders_given (answers d m k (calls_of g.records)))

-- a call, from the progress s with the stores m and k and the text o
pub record Called (c : Call) (s : Progress) (m k o : List ℕ) (r : Progress) (m' k' o' : List ℕ) : Type 0 where
  pub directory : r.directory ≡ (answer s.directory m k c).directory
  pub memory : m' ≡ memory_after s.directory m k c
  pub cache : k' ≡ cache_after s.directory m k c
  pub line : Puts (call_line c (answer s.directory m k c)) o s.at o' r.at
  pub calls : r.calls ≡ s.calls + 1
  pub orders : r.orders ≡ s.orders + length (orders_in (answer s.directory m k c))
  pub few : length (orders_in (answer s.directory m k c)) ≤ 4
  pub value : (answer s.directory m k c).value < 4294967296

-- the numbers of a call are as short as a tape's record can have them
unfoldable pub Short : Option Call → Type 0
Short (Some (Load unit address)) = (unit < 10) × (address < 10000)
Short (Some (Store unit address value)) = (unit < 10) × (address < 10000) × (value < 4294967296)
Short (Some (Flush unit block)) = (unit < 10) × (block < 10000)
Short None = Unit {0}

-- the most that a record's line takes
unfoldable pub line_most : Option Call → ℕ
line_most (Some c) = 33
line_most None = 0

-- a record, from the progress s: `part` is what it adds to the text
pub record Took (i : Record) (s : Progress) (m k o : List ℕ) (r : Progress) (m' k' o' : List ℕ) : Type 0 where
  pub part : List ℕ
  pub puts : Puts part o s.at o' r.at
  pub rest :
      (start : ℕ) (g : Reading)
      → text_from s.directory m k s.calls s.orders (and_more start i g)
      ≡ part ++ text_from r.directory m' k' r.calls r.orders g
  pub calls : r.calls ≤ s.calls + 1
  pub orders : r.orders ≤ s.orders + 4
  pub short : Short (access_of i) → r.at ≤ s.at + line_most (access_of i)
