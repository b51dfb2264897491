-- How the code tests the directory, by the block and the rank (0 invalid, 1 shared, 2 modified) of each slot: the faults of the four units' slots of one
-- slot number; and the EM slots of a write-through unit. The sets of holders are `set_test`'s. The rules themselves are `coherence`'s; the proofs show that
-- these come to the same.
use Rattle.std.specs.Prelude.{ℕ, ◌+◌, ◌*◌, ◌%◌, Bool, true, cond, not, List, get_or, ltb, eqb}
use Rattle.coherence.specs.declared.Settings.{Settings}
use Rattle.coherence.specs.Settings.{through}
use Rattle.coherence.specs.Slots.{all_below}

-- ---- the slots

-- 1 where block b may not stand in slot s of a unit, whose rank is t, else 0
unfoldable pub misplaced_in : ℕ → ℕ → ℕ → ℕ
misplaced_in b t s = cond (eqb t 0) 0 (cond (ltb b 64) (cond (eqb (b % 16) s) 0 1) 1)

-- 1 where two slots with the ranks t and v have one block, and one is modified and the other valid, else 0
unfoldable pub conflict_of : ℕ → ℕ → ℕ → ℕ → ℕ
conflict_of b t c v = cond (eqb b c) (cond (ltb (t + v) 3) 0 1) 0

-- how many rules the slots s of the four units break, which have the blocks bw to bz and the ranks rw to rz
unfoldable pub faults_of : ℕ → ℕ → ℕ → ℕ → ℕ → ℕ → ℕ → ℕ → ℕ → ℕ
faults_of s bw bx by bz rw rx ry rz =
    misplaced_in bw rw s + misplaced_in bx rx s + misplaced_in by ry s + misplaced_in bz rz s
    + conflict_of bw rw bx rx + conflict_of bw rw by ry + conflict_of bw rw bz rz + conflict_of bx rx by ry + conflict_of bx rx bz rz + conflict_of by ry bz rz

-- the same of the lists of blocks and of ranks
unfoldable pub faults_at : List ℕ → List ℕ → ℕ → ℕ
faults_at b r s =
    faults_of s (get_or b s 0) (get_or b (16 + s) 0) (get_or b (32 + s) 0) (get_or b (48 + s) 0)
    (get_or r s 0) (get_or r (16 + s) 0) (get_or r (32 + s) 0) (get_or r (48 + s) 0)

-- the first n slot numbers have no fault
unfoldable pub faultless : ℕ → List ℕ → List ℕ → Bool
faultless n b r = all_below n (λ s. eqb (faults_at b r s) 0)

-- ---- the boards' kinds

-- a slot of rank t is not EM
unfoldable pub not_modified : ℕ → Bool
not_modified t = not (eqb t 2)

-- none of the first n slots of unit u is EM
unfoldable pub none_modified : ℕ → List ℕ → ℕ → Bool
none_modified n r u = all_below n (λ s. not_modified (get_or r (16 * u + s) 0))

-- unit u has a copyback board, or no slot EM
unfoldable pub keeps_kind : List ℕ → Settings → ℕ → Bool
keeps_kind r g u = cond (through g u) (none_modified 16 r u) true

-- each of the first n units
unfoldable pub kinds_kept : ℕ → List ℕ → Settings → Bool
kinds_kept n r g = all_below n (λ u. keeps_kind r g u)
