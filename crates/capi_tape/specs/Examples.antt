-- Records in the numbers of include/trainer.h, computed; all fields are different.
use Rattle.std.specs.Prelude.{ℕ, ◌≡◌, List, [], ◌∷◌, ◌++◌, replicate}
use Rattle.record_numbers.specs.Entry.{record_from}
use Rattle.capi_tape.specs.Calls.{read_returned, numbers_left, next_left, write_returned, space_left, written_left}

-- a register access: from 1 to 2, AID 200, a write, RA 70,000, BCT 6; and its bytes
abbrev numbers : List ℕ
numbers = 5 ∷ 1 ∷ 2 ∷ 200 ∷ 1 ∷ 70000 ∷ 6 ∷ []

abbrev bytes : List ℕ
bytes = 5 ∷ 1 ∷ 2 ∷ 200 ∷ 1 ∷ 1 ∷ 240 ∷ 162 ∷ 4 ∷ 6 ∷ []

-- what a write returns, how many bytes it tells (77 before), and the space (12 bytes of 9 before)
unfoldable pub wrote : List ℕ → List ℕ
wrote l =
    write_returned (record_from l) (replicate 12 9)
    ∷ written_left (record_from l) (replicate 12 9) 77
    ∷ space_left (record_from l) (replicate 12 9)

-- what a read returns, the next place (88 before), and so many numbers of space (all 9 before)
unfoldable pub read : List ℕ → ℕ → ℕ → List ℕ
read tape at room =
    read_returned tape at (replicate room 9) ∷ next_left tape at (replicate room 9) 88 ∷ numbers_left tape at (replicate room 9)

pub record Examples : Type 0 where
  pub written : wrote numbers ≡ 0 ∷ 10 ∷ bytes ++ (9 ∷ 9 ∷ [])
  pub reading : read (3 ∷ bytes) 1 8 ≡ 0 ∷ 11 ∷ numbers ++ (9 ∷ [])
  -- a load has two fields, and 0 behind them
  pub load : read (0 ∷ 3 ∷ 36 ∷ []) 0 7 ≡ 0 ∷ 3 ∷ 0 ∷ 3 ∷ 36 ∷ 0 ∷ 0 ∷ 0 ∷ 0 ∷ []
  -- a stamp has one, of 64 bits
  pub stamp : read (8 ∷ replicate 9 255 ++ (1 ∷ [])) 0 7 ≡ 0 ∷ 11 ∷ 8 ∷ 18446744073709551615 ∷ replicate 5 0
  pub stamp_written : wrote (8 ∷ 18446744073709551615 ∷ replicate 5 0) ≡ 0 ∷ 11 ∷ 8 ∷ replicate 9 255 ++ (1 ∷ 9 ∷ [])
  -- the end of the tape; a kind of 7; too little space
  pub finished : read (0 ∷ 3 ∷ 36 ∷ []) 3 7 ≡ 0 ∷ 3 ∷ replicate 7 9
  pub unknown_kind : read (7 ∷ []) 0 7 ≡ 7 ∷ 0 ∷ replicate 7 9
  pub short : read (3 ∷ bytes) 1 6 ≡ 9 ∷ 88 ∷ replicate 6 9
  -- refused, and all stays: a kind of 7, of 9 and of 264, which would be 8 if it wrapped, six numbers, and fields that would be in range if they wrapped
  pub no_kind : wrote (7 ∷ replicate 6 0) ≡ 7 ∷ 77 ∷ replicate 12 9
  pub kind9 : wrote (9 ∷ replicate 6 0) ≡ 7 ∷ 77 ∷ replicate 12 9
  pub kind264 : wrote (264 ∷ replicate 6 0) ≡ 7 ∷ 77 ∷ replicate 12 9
  pub six : wrote (replicate 6 0) ≡ 8 ∷ 77 ∷ replicate 12 9
  pub unit256 : wrote (0 ∷ 256 ∷ replicate 5 0) ≡ 8 ∷ 77 ∷ replicate 12 9
  pub address : wrote (0 ∷ 0 ∷ 4294967296 ∷ replicate 4 0) ≡ 8 ∷ 77 ∷ replicate 12 9
  pub block256 : wrote (2 ∷ 0 ∷ 256 ∷ replicate 4 0) ≡ 8 ∷ 77 ∷ replicate 12 9
  pub value : wrote (1 ∷ 0 ∷ 0 ∷ 4294967296 ∷ replicate 3 0) ≡ 8 ∷ 77 ∷ replicate 12 9
  pub aid256 : wrote (4 ∷ 1 ∷ 2 ∷ 256 ∷ replicate 3 0) ≡ 8 ∷ 77 ∷ replicate 12 9
  pub write2 : wrote (5 ∷ 1 ∷ 2 ∷ 200 ∷ 2 ∷ 0 ∷ 0 ∷ []) ≡ 8 ∷ 77 ∷ replicate 12 9
  pub bct256 : wrote (5 ∷ 1 ∷ 2 ∷ 200 ∷ 1 ∷ 0 ∷ 256 ∷ []) ≡ 8 ∷ 77 ∷ replicate 12 9
