-- The numbers of an answer as include/trainer.h tells them, computed; all fields are different.
use Rattle.std.specs.Prelude.{◌≡◌, true, false, [], ◌∷◌, ◌++◌, replicate}
use Rattle.order.specs.declared.Command.TheVariants.{ModifiedRead, Copyback}
use Rattle.coherence.specs.Answer.{Answer}
use Rattle.coherence.specs.Settings.{drill_settings}
use Rattle.coherence.specs.Slots.{cold_directory}
use Rattle.coherence.specs.Calls.{packed}
use Rattle.answer_layout.specs.Answer.{answer_numbers, answer_put}

unfoldable pub two_orders : Answer
two_orders =
    record {
      refusal = 0;
      value = 77;
      orders =
          packed
          (record { unit = 1; command = Copyback; block = 33; retried = false } ∷ record { unit = 2; command = ModifiedRead; block = 47; retried = true } ∷ []);
      directory = cold_directory drill_settings;
    }

pub record Examples : Type 0 where
  -- "the loaded value, how many orders were given, and four orders: unit, command, block, retried"
  pub answer : answer_numbers two_orders ≡ 77 ∷ 2 ∷ 1 ∷ 3 ∷ 33 ∷ 0 ∷ 2 ∷ 1 ∷ 47 ∷ 1 ∷ replicate 8 0
  -- what lies behind stays, and so does a space that is too small
  pub answer_behind : answer_put two_orders (replicate 19 9) ≡ answer_numbers two_orders ++ (9 ∷ [])
  pub answer_short : answer_put two_orders (replicate 17 9) ≡ replicate 17 9
