-- Sizes of records in the numbers of include/trainer.h, computed.
use Rattle.std.specs.Prelude.{ℕ, ◌≡◌, List, [], ◌∷◌, replicate}
use Rattle.record_numbers.specs.Entry.{record_from}
use Rattle.capi_size.specs.Calls.{size_returned, size_left}

-- what asking returns, and the size (66 before)
unfoldable pub sized : List ℕ → List ℕ
sized l = size_returned (record_from l) ∷ size_left (record_from l) 66 ∷ []

pub record Examples : Type 0 where
  -- a load from 2,044; a store of 300 at 72; a register access with an AID of 200 and an RA of 70,000; stamps of 0 and 2^64 - 1
  pub load : sized (0 ∷ 3 ∷ 2044 ∷ replicate 4 0) ≡ 0 ∷ 4 ∷ []
  pub store : sized (1 ∷ 2 ∷ 72 ∷ 300 ∷ replicate 3 0) ≡ 0 ∷ 5 ∷ []
  pub register : sized (5 ∷ 1 ∷ 2 ∷ 200 ∷ 1 ∷ 70000 ∷ 6 ∷ []) ≡ 0 ∷ 10 ∷ []
  pub least : sized (8 ∷ replicate 6 0) ≡ 0 ∷ 2 ∷ []
  pub most : sized (8 ∷ 18446744073709551615 ∷ replicate 5 0) ≡ 0 ∷ 11 ∷ []
  -- numbers behind the last field do not count
  pub behind : sized (2 ∷ 3 ∷ 63 ∷ replicate 4 300) ≡ 0 ∷ 3 ∷ []
  -- refused, and the size stays: kinds 7 and 9, six numbers, and fields out of their ranges, of which the first would be in range if it wrapped
  pub kind7 : sized (7 ∷ replicate 6 0) ≡ 7 ∷ 66 ∷ []
  pub kind9 : sized (9 ∷ replicate 6 0) ≡ 7 ∷ 66 ∷ []
  pub six : sized (replicate 6 0) ≡ 8 ∷ 66 ∷ []
  pub unit256 : sized (0 ∷ 256 ∷ replicate 5 0) ≡ 8 ∷ 66 ∷ []
  pub unit4 : sized (0 ∷ 4 ∷ replicate 5 0) ≡ 8 ∷ 66 ∷ []
