-- The steps by which a layout's fields are taken one after another.
use Prim.Native.Nat.{ℕ}
use mathlib.Core.Path.{◌≡◌}
use mathlib.Core.List.{List}
use Rattle.order.specs.declared.Command.{Command}
use Rattle.order.specs.Command.{command_of}
use Rattle.order.specs.declared.Refusal.TheVariants as why
use Rattle.std.specs.Prelude.{Option, None, Some, Result, Ok, Err}
use Rattle.number.specs.declared.Refused.{Refused}
use Rattle.tape_format.specs.declared.Rule.{Rule}
use Rattle.tape_format.specs.declared.Record.{Record}
use Rattle.number.specs.Number.{number_at}
use Rattle.tape_format.specs.Field.{field_at}
use Rattle.tape_format.specs.Record.{Layout, field, command, and_then, and_command, fields_at, layout_of, kind_at}

-- the number is there, and the step goes on with it; or it is refused, and so is the record
pub then : (step : ℕ → ℕ → Result (Option (Record × ℕ)) Refused) {f e : Result (ℕ × ℕ) Refused} {v q : ℕ} {x : Result (Option (Record × ℕ)) Refused} → f ≡ e → f ≡ Ok (v, q) → x ≡ step v q → x ≡ and_then e step
unfolding and_then
then step a b h = rw (← a, b) h

pub ended : (step : ℕ → ℕ → Result (Option (Record × ℕ)) Refused) {f e : Result (ℕ × ℕ) Refused} {r : Refused} → f ≡ e → f ≡ Err r → Err r ≡ and_then e step
unfolding and_then
ended step a b = rw (← a, b)

module _ (rule : Rule) (more : ℕ → Layout) (tape : List ℕ) (at : ℕ) where
  pub on : {f : Result (ℕ × ℕ) Refused} {v q : ℕ} {x : Result (Option (Record × ℕ)) Refused} → f ≡ field_at rule tape at → f ≡ Ok (v, q) → x ≡ fields_at (more v) tape q → x ≡ fields_at (field rule more) tape at
  unfolding fields_at
  on a b h = then _ a b h

  pub stop : {f : Result (ℕ × ℕ) Refused} {r : Refused} → f ≡ field_at rule tape at → f ≡ Err r → Err r ≡ fields_at (field rule more) tape at
  unfolding fields_at
  stop a b = ended _ a b

-- a command's number is taken and is one, or no command has it
module _ (more : Command → Layout) (tape : List ℕ) (at : ℕ) where
  pub on_command : {f : Result (ℕ × ℕ) Refused} {v q : ℕ} {g : Option Command} {c : Command} {x : Result (Option (Record × ℕ)) Refused} → f ≡ number_at tape at → f ≡ Ok (v, q) → g ≡ command_of v → g ≡ Some c
      → x ≡ fields_at (more c) tape q → x ≡ fields_at (command more) tape at
  unfolding fields_at and_command
  on_command a b d e h = then _ a b (rw (← d, e) h)

  pub no_command : {f : Result (ℕ × ℕ) Refused} {v q : ℕ} {g : Option Command} → f ≡ number_at tape at → f ≡ Ok (v, q) → g ≡ command_of v → g ≡ None → Err (record { refusal = why.FieldRange; place = at }) ≡ fields_at (command more) tape at
  unfolding fields_at and_command
  no_command a b d e = then _ a b (rw (← d, e))

-- the kind that a number has, or none
pub of_kind : (tape : List ℕ) (start kind at : ℕ) (layout : Layout) {x : Result (Option (Record × ℕ)) Refused} → layout_of kind ≡ Some layout → x ≡ fields_at layout tape at → x ≡ kind_at tape start kind at
unfolding kind_at
of_kind tape start kind at layout e h = rw e h

pub of_no_kind : (tape : List ℕ) (start kind at : ℕ) → layout_of kind ≡ None → Err (record { refusal = why.UnknownKind; place = start }) ≡ kind_at tape start kind at
unfolding kind_at
of_no_kind tape start kind at e = rw e
