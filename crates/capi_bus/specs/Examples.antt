-- The numbers of the bus as include/trainer.h tells them, computed, and what the lent numbers become.
use Rattle.std.specs.Prelude.{ℕ, ◌≡◌, true, false, Ok, Err, List, [], ◌∷◌, map}
use Rattle.order.specs.Flag.{flag}
use Rattle.order.specs.declared.Refusal.TheVariants.{FieldRange}
use Rattle.order.specs.Refusal.{number_of}
use Rattle.bus.specs.Transfer.{plan_of}
use Rattle.bus.specs.Answer.{class_of, is_error}
use Rattle.capi_bus.specs.Bus.{left, left_of, most, plan_from}
use Rattle.capi_bus.specs.Class.{class_number, carried_of, class_from, code_asked}

-- a code's class, the number that it carries, and whether it is an error
unfoldable pub told : ℕ → List ℕ
told c = class_number (class_of c) ∷ carried_of (class_of c) ∷ flag (is_error c) ∷ []

pub record Examples : Type 0 where
  -- a code of each row of document 01's table
  pub classes : map told (0 ∷ 1 ∷ 63 ∷ 127 ∷ 128 ∷ 129 ∷ 130 ∷ 190 ∷ 255 ∷ []) ≡ (0 ∷ 0 ∷ 0 ∷ []) ∷ (1 ∷ 0 ∷ 0 ∷ []) ∷ (2 ∷ 63 ∷ 0 ∷ []) ∷ (3 ∷ 63 ∷ 0 ∷ []) ∷ (4 ∷ 0 ∷ 1 ∷ []) ∷ (5 ∷ 0 ∷ 1 ∷ []) ∷ (6 ∷ 0 ∷ 1 ∷ []) ∷ (7 ∷ 190 ∷ 1 ∷ []) ∷ (8 ∷ 63 ∷ 1 ∷ []) ∷ []
  -- and back; a class that there is not, a number beside a class that carries none, and a number that is not of its row
  pub code : code_asked (class_from 8 63) ≡ Ok 255
  pub no_class : (code_asked (class_from 9 0) ≡ Err FieldRange) × (number_of (code_asked (class_from 9 0)) ≡ 8)
  pub not_carried : (code_asked (class_from 4 1) ≡ Err FieldRange) × (number_of (code_asked (class_from 4 1)) ≡ 8)
  pub other_row : (code_asked (class_from 3 256) ≡ Err FieldRange) × (number_of (code_asked (class_from 3 256)) ≡ 8)
  -- 8 for a number above 255
  pub most : (most 255 255 ≡ 0) × (most 255 256 ≡ 8)
  -- a refused call leaves a lent number
  pub left : (v x : ℕ) → (left 0 v x ≡ v) × (left 8 v x ≡ x)
  pub left_of : (v x : ℕ) → (left_of (Ok v) (λ n. n) x ≡ v) × (left_of {T = ℕ} (Err FieldRange) (λ n. n) x ≡ x)
  -- locked is 1, and not locked 0
  pub unlocked : (n cycle : ℕ) → plan_from n cycle 0 ≡ plan_of n cycle false
  pub locked : (n cycle : ℕ) → plan_from n cycle 1 ≡ plan_of n cycle true
  pub neither : (n cycle : ℕ) → number_of (plan_from n cycle 2) ≡ 8
