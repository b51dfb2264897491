-- Numbers on the tape (document 01, "The tape"; document 02, T-04): groups of seven bits, low group first, the high bit set on all but the last; the shortest
-- spelling only.
use Rattle.std.specs.Prelude.{ℕ, zero, suc, ◌+◌, ◌*◌, ◌%◌, ◌/◌, ◌<◌, List, [], ◌∷◌, ◌++◌, Result, Ok, Err, cond, length, get_or, drop, ltb, leb}
use Rattle.order.specs.declared.Refusal.TheVariants as why
use Rattle.order.specs.Refusal.{accepted, refusal_number}
use Rattle.number.specs.declared.Refused.{Refused}

-- "Numbers run to ten groups, the tenth at most 1": the most groups, and the most that the last of so many can hold
abbrev pub groups : ℕ
groups = 10

abbrev pub last : ℕ
last = 1

-- what a run of groups spells: a value with the place after it, a number that the tape's end cuts, or a bad spelling
pub data Groups : Type 0 where
  Value : ℕ → ℕ → Groups
  Cut : Groups
  Bad : Groups

-- the most that a group which ends a number can hold, where `left` more could follow it
unfoldable pub limit_of : ℕ → ℕ → ℕ
limit_of last zero = last
limit_of last (suc left) = 127

-- the byte b in front of what follows: "a last group of 0 is allowed only as the sole group"
unfoldable pub carried : ℕ → Groups → Groups
carried b (Value zero next) = Bad
carried b (Value (suc v) next) = Value (suc v * 128 + b % 128) next
carried b Cut = Cut
carried b Bad = Bad

-- the number of at most so many groups that starts at a place
unfoldable pub read_groups : ℕ → ℕ → List ℕ → ℕ → Groups
read_groups last zero tape at = Bad
read_groups last (suc left) tape at =
    cond (ltb at (length tape))
    (cond (leb (get_or tape at 0) (limit_of last left))
    (Value (get_or tape at 0) (at + 1))
    (carried (get_or tape at 0) (read_groups last left tape (at + 1))))
    Cut

-- document 01, "Numbers of refusal": 6 where a byte breaks the spelling, 5 where the tape ends and no byte broke it, at the number's start
unfoldable pub refusing : ℕ → Groups → Result (ℕ × ℕ) Refused
refusing at (Value v next) = Ok (v, next)
refusing at Cut = Err (record { refusal = why.Cut; place = at })
refusing at Bad = Err (record { refusal = why.BadNumber; place = at })

-- the number that starts at a place, with the place after it
unfoldable pub number_at : List ℕ → ℕ → Result (ℕ × ℕ) Refused
number_at tape at = refusing at (read_groups last groups tape at)

-- what reading answers, in document 01's numbers: the number of refusal, 0 for none; the place after what was read, or that of the refusal; the numbers read
pub record Told : Type 0 where
  pub refusal : ℕ
  pub place : ℕ
  pub numbers : List ℕ

unfoldable pub number_told : Result (ℕ × ℕ) Refused → Told
number_told (Ok (v, next)) = record { refusal = accepted; place = next; numbers = v ∷ [] }
number_told (Err e) = record { refusal = refusal_number e.refusal; place = e.place; numbers = [] }

-- the shortest spelling, of at most so many groups
unfoldable pub spell_groups : ℕ → ℕ → List ℕ
spell_groups zero n = []
spell_groups (suc left) n = cond (ltb n 128) (n ∷ []) ((n % 128 + 128) ∷ spell_groups left (n / 128))

unfoldable pub spell : ℕ → List ℕ
spell n = spell_groups groups n

-- the spellings of several numbers, one after the other
unfoldable pub spell_all : List ℕ → List ℕ
spell_all [] = []
spell_all (n ∷ ns) = spell n ++ spell_all ns

-- a space with the bytes s put at its start: "it fills the first bytes of the lent space .. and the rest of the space stays"; without room all of it stays
unfoldable pub filled : List ℕ → List ℕ → List ℕ
filled s space = cond (leb (length s) (length space)) (s ++ drop (length s) space) space

-- each element is a byte
unfoldable pub Bytes : List ℕ → Type 0
Bytes tape = (i : ℕ) → get_or tape i 0 < 256
