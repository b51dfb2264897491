-- A command's number gives the command back, and a command that a number has has that number; the numbers are the papers'.
use mathlib.Core.Path.{◌≡◌, refl, sym}
use mathlib.Core.Bool.{Bool, true, false, cond}
use Prim.Native.Nat.{ℕ, ◌≤◌}
use native.Mathlib.Omega.{arith}
use lib.Dec.{eqb}
use borrow.Author.Tests.{eqb-true}
use Rattle.order.specs.declared.Command.{Command}
use Rattle.order.specs.declared.Command.TheVariants.{Read, ModifiedRead, Invalidate, Copyback, MemoryWrite}
use Rattle.std.specs.Prelude.{None, Some}
use Rattle.order.specs.Command.{command_number, command_of, CommandNumbers}

pub command_of_number : (c : Command) → command_of (command_number c) ≡ Some c
unfolding command_number command_of
command_of_number Read = refl
command_of_number ModifiedRead = refl
command_of_number Invalidate = refl
command_of_number Copyback = refl
command_of_number MemoryWrite = refl

pub number_of_command : (n : ℕ) (c : Command) → command_of n ≡ Some c → command_number c ≡ n
unfolding command_of command_number
number_of_command n c e = go (eqb n 0) refl (eqb n 1) refl (eqb n 2) refl (eqb n 3) refl (eqb n 4) refl e
  where
    go : (t₀ : Bool) → eqb n 0 ≡ t₀ → (t₁ : Bool) → eqb n 1 ≡ t₁ → (t₂ : Bool) → eqb n 2 ≡ t₂ → (t₃ : Bool) → eqb n 3 ≡ t₃ → (t₄ : Bool) → eqb n 4 ≡ t₄
        → cond t₀ (Some Read) (cond t₁ (Some ModifiedRead) (cond t₂ (Some Invalidate) (cond t₃ (Some Copyback) (cond t₄ (Some MemoryWrite) None)))) ≡ Some c
        → command_number c ≡ n
    go true a t₁ b t₂ d t₃ f t₄ g e = let x : Read ≡ c = cc in rw (← x) (sym (eqb-true n 0 a))
    go false a true b t₂ d t₃ f t₄ g e = let x : ModifiedRead ≡ c = cc in rw (← x) (sym (eqb-true n 1 b))
    go false a false b true d t₃ f t₄ g e = let x : Invalidate ≡ c = cc in rw (← x) (sym (eqb-true n 2 d))
    go false a false b false d true f t₄ g e = let x : Copyback ≡ c = cc in rw (← x) (sym (eqb-true n 3 f))
    go false a false b false d false f true g e = let x : MemoryWrite ≡ c = cc in rw (← x) (sym (eqb-true n 4 g))
    go false a false b false d false f false g e = absurd (let z : ◌≡◌ {A = ℕ} 0 1 = cc in omega arith)

pub command_small : (c : Command) → command_number c ≤ 4
unfolding command_number
command_small Read = omega arith
command_small ModifiedRead = omega arith
command_small Invalidate = omega arith
command_small Copyback = omega arith
command_small MemoryWrite = omega arith

pub command_numbers : CommandNumbers
unfolding command_number command_of
command_numbers = record { numbers = refl; commands = refl }
