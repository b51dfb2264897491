-- The numbers of a class and the class determine each other.
use Prim.Native.Nat.{ℕ, ◌-◌, ◌≤◌}
use mathlib.Core.Path.{◌≡◌, refl, ◌∙◌, ap}
use mathlib.Core.Bool.{Bool, true, false, cond}
use native.Mathlib.Omega.{arith}
use lib.Dec.{leb, eqb}
use Rattle.bus.specs.declared.answer.Class.{Class}
use Rattle.bus.specs.declared.answer.Class.TheVariants.{NoError, NoErrorLock, ReservedNoError, UserNoError, HardwareError, IllegalCommand, BusSequenceError, ReservedError, UserError}
use Rattle.bus.specs.Answer.{class_of}
use Rattle.bus.proofs.AnswerLaws.{code_of_class}
use Rattle.crossing.proofs.CappedLaws.{caps}
use Rattle.std.specs.Prelude.{Some}
use Rattle.capi_bus.specs.Class.{class_number, carried_of, plain_class, class_from, code_asked, Inverse}

back : (k : Class) → carried_of k ≤ 255 → class_from (class_number k) (carried_of k) ≡ Some k
unfolding class_from plain_class class_number carried_of
back NoError h = refl
back NoErrorLock h = refl
back (ReservedNoError n) h = rw ((caps 255).keeps n h)
back (UserNoError n) h = rw ((caps 255).keeps n h)
back HardwareError h = refl
back IllegalCommand h = refl
back BusSequenceError h = refl
back (ReservedError n) h = rw ((caps 255).keeps n h)
back (UserError n) h = rw ((caps 255).keeps n h)

-- the class of a code carries a number that its type holds
pick : (t : Bool) (a b : Class) → carried_of a ≤ 255 → carried_of b ≤ 255 → carried_of (cond t a b) ≤ 255
pick true a b p q = p
pick false a b p q = q

small : (c : ℕ) → c ≤ 255 → carried_of (class_of c) ≤ 255
unfolding class_of carried_of
small c h =
    pick (eqb c 0) NoError _ (omega arith)
    (pick (eqb c 1) NoErrorLock _ (omega arith)
    (pick (leb c 63) (ReservedNoError c) _ h
    (pick (leb c 127) (UserNoError (c - 64)) _ (omega arith)
    (pick (eqb c 128) HardwareError _ (omega arith)
    (pick (eqb c 129) IllegalCommand _ (omega arith)
    (pick (eqb c 130) BusSequenceError _ (omega arith)
    (pick (leb c 191) (ReservedError c) (UserError (c - 192)) h (omega arith))))))))

pub inverse : Inverse
unfolding code_asked
inverse =
    record {
      back = back;
      code = λ c h. ap code_asked (back (class_of c) (small c h)) ∙ code_of_class c (omega arith);
    }
