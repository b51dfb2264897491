-- Where reading a record is refused (document 01, "Numbers of refusal": "A reading refusal also gives the place where the refused number starts"; "The tape":
-- "A record is taken apart number by number, and the first bad number ends it").
use Rattle.std.specs.Prelude.{ℕ, ◌≡◌, ◌⊎◌, List, [], ◌∷◌, true, false, None, Some, Ok, Err}
use Rattle.order.specs.declared.Command.{Command}
use Rattle.order.specs.Command.{command_of}
use Rattle.order.specs.declared.Refusal.{Refusal}
use Rattle.order.specs.declared.Refusal.TheVariants as why
use Rattle.number.specs.declared.Refused.{Refused}
use Rattle.number.specs.Number.{number_at}
use Rattle.tape_format.specs.Field.{allowed}
use Rattle.tape_format.specs.Record.{Layout, field, command, end, layout_of, record_at}

-- the numbers ns stand on the tape from at up to q
abbrev pub Reads : List ℕ → ℕ → List ℕ → ℕ → Type 0
Reads tape at [] q = at ≡ q
Reads tape at (n ∷ ns) q = (p : ℕ) × (number_at tape at ≡ Ok (n, p)) × Reads tape p ns q

-- after the fields ns, which the layout takes, it does not take the number v
unfoldable pub Bans : Layout → List ℕ → ℕ → Type 0
Bans (field rule more) [] v = allowed rule v ≡ false
Bans (field rule more) (n ∷ ns) v = (allowed rule n ≡ true) × Bans (more n) ns v
Bans (command more) [] v = command_of v ≡ None
Bans (command more) (n ∷ ns) v = (c : Command) × (command_of n ≡ Some c) × Bans (more c) ns v
Bans (end r) ns v = ⊥

-- the number v, which is spelled well, is refused after the numbers ns: a kind that the table lacks, or a field that its kind's layout does not take
unfoldable pub Refuses : List ℕ → ℕ → Refusal → Type 0
Refuses [] v refusal = (layout_of v ≡ None) × (refusal ≡ why.UnknownKind)
Refuses (kind ∷ fields) v refusal = (layout : Layout) × (layout_of kind ≡ Some layout) × Bans layout fields v × (refusal ≡ why.FieldRange)

-- the place is the start of the number that is refused: the numbers before it were read, and it is refused itself, or after them
pub record RefusedAt (tape : List ℕ) (at : ℕ) (e : Refused) : Type 0 where
  pub numbers : List ℕ
  pub before : Reads tape at numbers e.place
  pub refused : (number_at tape e.place ≡ Err e) ⊎ ((v : ℕ) × (next : ℕ) × (number_at tape e.place ≡ Ok (v, next)) × Refuses numbers v e.refusal)

unfoldable pub RefusedPlace : Type 0
RefusedPlace = (tape : List ℕ) (at : ℕ) (e : Refused) → record_at tape at ≡ Err e → RefusedAt tape at e
