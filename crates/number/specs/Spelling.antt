-- Which bytes spell a number, and when a number is refused (document 01, "Numbers of refusal"): "6 at the first byte that breaks the spelling, even if the tape
-- ends right after it; 5 if the tape ends and no byte broke it". The refusal's place is where the number starts.
use Rattle.std.specs.Prelude.{ℕ, ◌+◌, ◌-◌, ◌≤◌, ◌<◌, ◌≡◌, ◌⊎◌, Ok, List, [], ◌∷◌, ◌++◌, length, get_or, take, drop}
use Rattle.number.specs.Number.{number_at, Told, number_told, spell, Bytes}

-- the k bytes from a place on are on the tape, each with its high bit set
pub record GoesOn (tape : List ℕ) (at k : ℕ) : Type 0 where
  pub there : (i : ℕ) → i < k → at + i < length tape
  pub high : (i : ℕ) → i < k → 127 < get_or tape (at + i) 0

-- of a number of at most n groups, the byte after k breaks the spelling: "a last group of 0 is allowed only as the sole group", "the tenth at most 1"
pub record Breaks (n : ℕ) (tape : List ℕ) (at k : ℕ) : Type 0 where
  pub within : k < n
  pub before : GoesOn tape at k
  pub there : at + k < length tape
  pub broken : ((0 < k) × (get_or tape (at + k) 0 ≡ 0)) ⊎ ((k + 1 ≡ n) × (1 < get_or tape (at + k) 0))

-- the tape ends after k groups, and none of them was the last
pub record EndsAfter (n : ℕ) (tape : List ℕ) (at k : ℕ) : Type 0 where
  pub within : k < n
  pub before : GoesOn tape at k
  pub ends : length tape ≤ at + k

-- the number that starts at a place, in document 01's numbers
unfoldable pub told_at : List ℕ → ℕ → Told
told_at tape at = number_told (number_at tape at)

-- "Numbers run to ten groups"
pub record RefusedExactly (tape : List ℕ) (at : ℕ) : Type 0 where
  pub bad : (told_at tape at).refusal ≡ 6 → (k : ℕ) × Breaks 10 tape at k
  pub broken : (k : ℕ) → Breaks 10 tape at k → told_at tape at ≡ record { refusal = 6; place = at; numbers = [] }
  pub cuts : (told_at tape at).refusal ≡ 5 → (k : ℕ) × EndsAfter 10 tape at k
  pub ended : (k : ℕ) → EndsAfter 10 tape at k → told_at tape at ≡ record { refusal = 5; place = at; numbers = [] }
  -- there is no other refusal, and no other place
  pub only :
      ((v : ℕ) × (next : ℕ) × (told_at tape at ≡ record { refusal = 0; place = next; numbers = v ∷ [] }))
      ⊎ ((told_at tape at ≡ record { refusal = 6; place = at; numbers = [] }) ⊎ (told_at tape at ≡ record { refusal = 5; place = at; numbers = [] }))

unfoldable pub RefusesExactly : Type 0
RefusesExactly = (tape : List ℕ) (at : ℕ) → RefusedExactly tape at

-- "Numbers run to ten groups, the tenth at most 1" (document 02, T-04), so that every 64-bit number has one spelling: it is read from it, whatever stands before
-- and after it
unfoldable pub SpellsEach : Type 0
SpellsEach =
    (n : ℕ) → n ≤ 0xFFFF_FFFF_FFFF_FFFF
    → (before after : List ℕ) → number_at (before ++ (spell n ++ after)) (length before) ≡ Ok (n, length before + length (spell n))

-- and nothing else is read: a number that was read is a 64-bit number, and the bytes between the two places are its spelling
unfoldable pub SpellsOnly : Type 0
SpellsOnly =
    (tape : List ℕ) (at n next : ℕ) → Bytes tape → number_at tape at ≡ Ok (n, next)
    → (n ≤ 0xFFFF_FFFF_FFFF_FFFF) × (take (next - at) (drop at tape) ≡ spell n)
