-- What is chosen at cold start and kept (document 02, T-05: "The directory gains a kind for each unit, chosen at cold start"; T-13: "steal .., chosen at cold
-- start and kept like the boards' kinds").
use Rattle.std.specs.Prelude.{ℕ, Bool, true, false, get_or, replicate}
use Rattle.coherence.specs.declared.Kind.{Kind}
use Rattle.coherence.specs.declared.Kind.TheVariants.{Copyback, WriteThrough}
use Rattle.coherence.specs.declared.Board.{Board}
use Rattle.coherence.specs.declared.Settings.{Settings}

abbrev pub copyback_board : Board
copyback_board = record { kind = Copyback }

abbrev pub through_board : Board
through_board = record { kind = WriteThrough }

unfoldable pub is_through : Kind → Bool
is_through Copyback = false
is_through WriteThrough = true

-- unit u has a write-through board
unfoldable pub through : Settings → ℕ → Bool
through g u = is_through (get_or g.boards u copyback_board).kind

-- "Drill keeps copyback boards"; "With steal off, as in drill".
unfoldable pub drill_settings : Settings
drill_settings = record { boards = replicate 4 copyback_board; steal = false }
