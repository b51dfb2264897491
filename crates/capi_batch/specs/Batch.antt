-- What a list of accesses through the C interface answers and leaves, from the directory's bytes d, the memory store m, the cache store k, the accesses'
-- numbers ns and the space for values vs.
use Rattle.std.specs.Prelude.{ℕ, ◌≡◌, cond, List, eqb}
use Rattle.batch_rules.specs.Outcome.{Outcome}
use Rattle.batch_rules.specs.Batch.{Batch}
use Rattle.batch_rules.specs.Numbers.{numbers_result}
use Rattle.layout.specs.Directory.{decoded, encoded}

-- the list on the directory that the bytes spell
abbrev pub called : List ℕ → List ℕ → List ℕ → List ℕ → List ℕ → Batch
called d m k ns vs = numbers_result ns vs (decoded d) m k

-- the directory's bytes; where no access was made they stay, whatever they are
unfoldable pub directory_left : List ℕ → Outcome → List ℕ
directory_left d r = cond (eqb r.index 0) d (encoded r.directory)

-- The bytes that are left spell the directory that the accesses leave, so calls follow on each other as those of the machine do: "Each call gets directory,
-- memory store and cache store as the one before left them."
unfoldable pub LeavesDirectory : Type 0
LeavesDirectory =
    (d m k ns vs : List ℕ)
    → decoded (directory_left d (called d m k ns vs).outcome) ≡ (called d m k ns vs).outcome.directory
