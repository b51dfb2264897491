-- What calls and a cold start answer, in document 01's numbers, as the laws speak of it. `Calls` says how the code's answers are read so.
use Rattle.std.specs.Prelude.{ℕ}
use Rattle.coherence.specs.declared.Directory.{Directory}
use Rattle.coherence.specs.declared.Orders.{Orders}

-- `refusal` is 0 if the call was accepted; `directory` is the one that it leaves
pub record Answer : Type 0 where
  pub refusal : ℕ
  pub value : ℕ
  pub orders : Orders
  pub directory : Directory

pub record Start : Type 0 where
  pub refusal : ℕ
  pub directory : Directory
