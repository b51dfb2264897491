-- What one part of a list promises to the loop over the parts.
use Rattle.std.specs.Prelude.{ℕ, ◌*◌, ◌≤◌, ◌<◌, ◌≡◌, Option, None, Some, cond, List}
use Rattle.order.specs.Refusal.{accepted}
use Rattle.batch_rules.specs.declared.Access.{Access}
use Rattle.batch_rules.specs.Outcome.{Outcome}
use Rattle.batch_rules.specs.Batch.{most_accesses}
use Rattle.batch_rules.specs.Numbers.{is_kind, call_from, kind_at, access_at, count_of, ran_numbers}

-- the access of four numbers, if its kind is known
unfoldable pub access_from : ℕ → ℕ → ℕ → ℕ → Option Access
access_from kind unit at value = cond (is_kind kind) (Some (record { call = call_from kind unit at value })) None

-- access i of the numbers ns, if its kind is known
unfoldable pub access_known : List ℕ → ℕ → Option Access
access_known ns i = cond (is_kind (kind_at ns i)) (Some (access_at ns i)) None

-- nothing is refused yet, there are accesses left and places for all values, and the orders can be counted on
unfoldable pub Room : Outcome → List ℕ → ℕ → Type 0
Room s ns room =
    (s.refusal ≡ accepted) × (s.index < count_of ns) × (count_of ns ≤ room) × (count_of ns ≤ most_accesses) × (s.orders ≤ 4 * s.index)

-- a part of the numbers ns, with s and the spaces vs, m and k before it: what it leaves is such that the rest of the list comes to the same
pub record Parted (s : Outcome) (ns vs m k : List ℕ) (r : Outcome) (vs' m' k' : List ℕ) : Type 0 where
  pub rest : ran_numbers s vs m k ns ≡ ran_numbers r vs' m' k' ns
  pub goes : r.refusal ≡ accepted → (s.index < r.index) × (r.index ≤ count_of ns) × (r.orders ≤ 4 * r.index)
