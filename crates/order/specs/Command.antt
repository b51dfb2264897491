-- The commands of an order by their numbers (document 01, "The tape": 0 read, 1 modified read, 2 invalidate, 3 copyback; document 02, T-05:
-- "memory write, command 4").
use Rattle.std.specs.Prelude.{ℕ, ◌≡◌, Option, None, Some, cond, [], ◌∷◌, map, eqb}
use Rattle.order.specs.declared.Command.{Command}
use Rattle.order.specs.declared.Command.TheVariants.{Read, ModifiedRead, Invalidate, Copyback, MemoryWrite}

unfoldable pub command_number : Command → ℕ
command_number Read = 0
command_number ModifiedRead = 1
command_number Invalidate = 2
command_number Copyback = 3
command_number MemoryWrite = 4

-- the command that has the number n
unfoldable pub command_of : ℕ → Option Command
command_of n =
    cond (eqb n 0) (Some Read)
    (cond (eqb n 1) (Some ModifiedRead)
    (cond (eqb n 2) (Some Invalidate)
    (cond (eqb n 3) (Some Copyback)
    (cond (eqb n 4) (Some MemoryWrite) None))))

-- "Commands: 0 read, 1 modified read, 2 invalidate, 3 copyback" and "memory write, command 4", both ways
pub record CommandNumbers : Type 0 where
  pub numbers : map command_number (Read ∷ ModifiedRead ∷ Invalidate ∷ Copyback ∷ MemoryWrite ∷ []) ≡ 0 ∷ 1 ∷ 2 ∷ 3 ∷ 4 ∷ []
  pub commands : map command_of (0 ∷ 1 ∷ 2 ∷ 3 ∷ 4 ∷ 5 ∷ []) ≡ Some Read ∷ Some ModifiedRead ∷ Some Invalidate ∷ Some Copyback ∷ Some MemoryWrite ∷ None ∷ []
