-- What a drill through the C interface leaves in the number `written`; the rest of its contract is that of the drill's text.
use Rattle.std.specs.Prelude.{ℕ, List, length}
use Rattle.std.specs.Result.{result_unwrap_or}
use Rattle.drill_format.specs.Drill.{drill_text, drilled_in}

-- how many bytes of the text's space the output takes; a refusal leaves the number w
unfoldable pub drill_written : List ℕ → List ℕ → ℕ → ℕ
drill_written tape text w = result_unwrap_or (drilled_in (drill_text tape) (length text)) w
