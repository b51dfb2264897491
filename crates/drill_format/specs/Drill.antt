-- What a drill prints for a tape, and what `drill` answers and leaves in the lent space (document 01, "Drill").
use Rattle.std.specs.Prelude.{ℕ, Option, None, Some, Result, Ok, Err, cond, List, ◌++◌, leb, length, replicate}
use Rattle.order.specs.declared.Refusal.{Refusal}
use Rattle.order.specs.declared.Refusal.TheVariants.{NoRoom}
use Rattle.order.specs.Refusal.{refusal_number, no_room, unreadable}
use Rattle.coherence.specs.declared.Call.{Call}
use Rattle.coherence.specs.Answer.{Answer}
use Rattle.coherence.specs.Bytes.{store_size}
use Rattle.coherence.specs.Settings.{drill_settings}
use Rattle.coherence.specs.Calls.{answers_cold}
use Rattle.coherence.specs.Demand3.{orders_given}
use Rattle.reading.specs.Reading.{Ending, finished, refused, read_all, calls_of}
use Rattle.drill_format.specs.Line.{lines, total_line, refused_line}

-- "a tape of up to 65,536 bytes"
abbrev pub tape_most : ℕ
tape_most = 65536

-- a space that is long enough for the text of any tape (`drill`'s contract): 11 bytes for each byte of the longest tape, and 64 for the last line
abbrev pub text_most : ℕ
text_most = 720960

-- a store of zeros
unfoldable pub zero_store : List ℕ
zero_store = replicate store_size 0

-- the calls of a tape
unfoldable pub calls_in : List ℕ → List Call
calls_in tape = calls_of (read_all tape).records

-- "starts cold on zero memory", and "Drill keeps copyback boards" (document 02, T-05): the machine's answers to the calls of a tape
unfoldable pub answers_in : List ℕ → List Answer
answers_in tape = answers_cold drill_settings zero_store (calls_in tape)

-- the total, or for a reading refusal "`refused N at P` .. with no total"
unfoldable pub last_line : Ending → ℕ → ℕ → List ℕ
last_line finished calls orders = total_line calls orders
last_line (refused e) calls orders = refused_line (refusal_number e.refusal) e.place

-- what a drill prints: "A longer tape prints only `refused 9 at 65536`."
unfoldable pub drill_text : List ℕ → List ℕ
drill_text tape =
    cond (leb (length tape) tape_most)
    (lines (calls_in tape) (answers_in tape)
    ++ last_line (read_all tape).ending (length (calls_in tape)) (orders_given (answers_in tape)))
    (refused_line no_room tape_most)

-- what the program prints for its standard input: a tape's text, and `refused 18 at 0` where reading failed, whatever came before (document 02, T-12, has 18
-- for what can't be read)
unfoldable pub printed : Option (List ℕ) → List ℕ
printed None = refused_line unreadable 0
printed (Some tape) = drill_text tape

-- the answer for a space of so many bytes: how many the text has; refusal 9 where it has no room
unfoldable pub drilled_in : List ℕ → ℕ → Result ℕ Refusal
drilled_in text room = cond (leb (length text) room) (Ok (length text)) (Err NoRoom)
