-- A list of accesses as numbers, as it crosses to programs in other languages: four for each access, its kind (0 load, 1 store, 2 flush, as on a tape), its
-- unit, its address or block, and its value. A load's and a flush's value is not looked at.
use Rattle.std.specs.Prelude.{ℕ, zero, suc, ◌+◌, ◌-◌, ◌*◌, ◌/◌, ◌%◌, ◌≤◌, ◌<◌, ◌≡◌, Bool, cond, List, [], ◌∷◌, ◌++◌, eqb, leb, length, get_or}
use Rattle.order.specs.Refusal.{accepted, unknown_kind, field_range, no_room}
use Rattle.coherence.specs.declared.Directory.{Directory}
use Rattle.coherence.specs.declared.Call.{Call}
use Rattle.coherence.specs.declared.Call.TheVariants.{Load, Store, Flush}
use Rattle.crossing.specs.Capped.{capped}
use Rattle.batch_rules.specs.declared.Access.{Access}
use Rattle.batch_rules.specs.Outcome.{Outcome}
use Rattle.batch_rules.specs.Batch.{Batch, batch, ran, none, opened, batch_result}

-- the kinds that there are
unfoldable pub is_kind : ℕ → Bool
is_kind kind = leb kind 2

-- the call of such a kind. A unit or a block above 255 counts as 255, which is no unit and no block.
unfoldable pub call_from : ℕ → ℕ → ℕ → ℕ → Call
call_from kind unit at value =
    cond (eqb kind 0) (Load (capped 255 unit) at)
    (cond (eqb kind 1) (Store (capped 255 unit) at value)
    (Flush (capped 255 unit) (capped 255 at)))

-- access i of the numbers ns
unfoldable pub kind_at : List ℕ → ℕ → ℕ
kind_at ns i = get_or ns (4 * i) 0

unfoldable pub access_at : List ℕ → ℕ → Access
access_at ns i = record { call = call_from (kind_at ns i) (get_or ns (4 * i + 1) 0) (get_or ns (4 * i + 2) 0) (get_or ns (4 * i + 3) 0) }

-- how many whole accesses they are
unfoldable pub count_of : List ℕ → ℕ
count_of ns = length ns / 4

-- of the t accesses from i on, those before the first of unknown kind
unfoldable pub known : List ℕ → ℕ → ℕ → List Access
known ns i zero = []
known ns i (suc t) = cond (is_kind (kind_at ns i)) (access_at ns i ∷ known ns (suc i) t) []

-- "then each access's own": the number of that one's refusal, 7; 0 if there is none
unfoldable pub unknown : List ℕ → ℕ → ℕ → ℕ
unknown ns i zero = accepted
unknown ns i (suc t) = cond (is_kind (kind_at ns i)) (unknown ns (suc i) t) unknown_kind

-- the outcome s, refused with the number n where nothing is refused before
unfoldable pub refused_by : ℕ → Outcome → Outcome
refused_by n s =
    record {
      refusal = cond (eqb s.refusal accepted) n s.refusal;
      index = s.index;
      orders = s.orders;
      directory = s.directory;
    }

-- what is left of the list makes of the outcome s: the accesses up to the first of unknown kind are made, and that one is refused
unfoldable pub ran_numbers : Outcome → List ℕ → List ℕ → List ℕ → List ℕ → Batch
ran_numbers s vs m k ns =
    let t : ℕ = count_of ns - s.index in
    let w : Batch = ran s vs m k (known ns s.index t) in
    batch (refused_by (unknown ns s.index t) w.outcome) w.values w.memory w.cache

-- 9 first, as of any list; then 8, at index 0, if the last access lacks a number
unfoldable pub opened_numbers : Directory → ℕ → ℕ → Outcome
opened_numbers d numbers room = refused_by (cond (eqb (numbers % 4) 0) accepted field_range) (opened d (numbers / 4) room)

-- ---- what the contract cites

unfoldable pub numbers_result : List ℕ → List ℕ → Directory → List ℕ → List ℕ → Batch
numbers_result ns vs d m k = ran_numbers (opened_numbers d (length ns) (length vs)) vs m k ns

-- ---- what holds of it

-- the numbers of a list; 0 where a load and a flush have no value
unfoldable pub access_numbers : Call → List ℕ
access_numbers (Load unit address) = 0 ∷ unit ∷ address ∷ 0 ∷ []
access_numbers (Store unit address value) = 1 ∷ unit ∷ address ∷ value ∷ []
access_numbers (Flush unit block) = 2 ∷ unit ∷ block ∷ 0 ∷ []

unfoldable pub numbers_of : List Access → List ℕ
numbers_of [] = []
numbers_of (a ∷ l) = access_numbers a.call ++ numbers_of l

-- units and blocks are bytes
unfoldable pub Fit : Call → Type 0
Fit (Load unit address) = unit ≤ 255
Fit (Store unit address value) = unit ≤ 255
Fit (Flush unit block) = (unit ≤ 255) × (block ≤ 255)

unfoldable pub AllFit : List Access → Type 0
AllFit [] = Unit {0}
AllFit (a ∷ l) = Fit a.call × AllFit l

pub record NumbersSay (vs : List ℕ) (d : Directory) (m k : List ℕ) : Type 0 where
  -- the numbers of a list give what the list gives
  pub list : (l : List Access) → AllFit l → numbers_result (numbers_of l) vs d m k ≡ batch_result l vs d m k
  -- 9 first, at index 0, and nothing is changed
  pub long : (ns : List ℕ) → 65536 < count_of ns → numbers_result ns vs d m k ≡ batch (none no_room d) vs m k
  pub short : (ns : List ℕ) → length vs < count_of ns → numbers_result ns vs d m k ≡ batch (none no_room d) vs m k
  -- then 8, likewise
  pub cut : (ns : List ℕ) → count_of ns ≤ 65536 → count_of ns ≤ length vs → (length ns % 4 ≡ 0 → ⊥)
      → numbers_result ns vs d m k ≡ batch (none field_range d) vs m k
