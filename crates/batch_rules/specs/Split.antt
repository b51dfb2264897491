-- A list split in two anywhere gives the same as the two parts one after the other: the second goes on with what the first left, and with the rest of the
-- values space.
use Rattle.std.specs.Prelude.{ℕ, ◌+◌, ◌≤◌, ◌≡◌, cond, List, ◌++◌, eqb, length, take, drop}
use Rattle.order.specs.Refusal.{accepted}
use Rattle.coherence.specs.declared.Directory.{Directory}
use Rattle.batch_rules.specs.declared.Access.{Access}
use Rattle.batch_rules.specs.Batch.{Batch, batch, batch_result}

-- the outcome v of a second call, counted on from the first call's w
unfoldable pub joined : Batch → Batch → Batch
joined w v =
    batch
    (record {
      refusal = v.outcome.refusal;
      index = w.outcome.index + v.outcome.index;
      orders = w.outcome.orders + v.outcome.orders;
      directory = v.outcome.directory;
    })
    (take w.outcome.index w.values ++ v.values)
    v.memory
    v.cache

-- after w, a call with the list l, if nothing was refused
unfoldable pub continued : Batch → List Access → Batch
continued w l =
    cond
    (eqb w.outcome.refusal accepted)
    (joined w (batch_result l (drop w.outcome.index w.values) w.outcome.directory w.memory w.cache))
    w

unfoldable pub SplitsAnywhere : Type 0
SplitsAnywhere =
    (l l' : List Access) (vs : List ℕ) (d : Directory) (m k : List ℕ) → length (l ++ l') ≤ 65536 → length (l ++ l') ≤ length vs
    → batch_result (l ++ l') vs d m k ≡ continued (batch_result l vs d m k) l'
