-- What a list of accesses answers: the definitions and theorems speak of this record.
use Rattle.std.specs.Prelude.{ℕ, ◌≡◌, Option, None, Some}
use Rattle.order.specs.Refusal.{accepted, refusal_number}
use Rattle.order.specs.declared.Refusal.{Refusal}
use Rattle.coherence.specs.declared.Directory.{Directory}
use Rattle.batch_rules.specs.declared.Outcome.{Outcome as Answered}

-- `refusal` is 0 if the whole list was accepted
pub record Outcome : Type 0 where
  pub refusal : ℕ
  pub index : ℕ
  pub orders : ℕ
  pub directory : Directory

-- the number of a refusal; 0 where there is none
abbrev pub refusal_told : Option Refusal → ℕ
refusal_told None = accepted
refusal_told (Some refusal) = refusal_number refusal

-- what the code answers, read as that record
unfoldable pub told : Answered → Outcome
told s = record { refusal = s.refusal; index = s.index; orders = s.orders; directory = s.directory }

-- it loses nothing
unfoldable pub ToldApart : Type 0
ToldApart = (r s : Answered) → told r ≡ told s → r ≡ s
