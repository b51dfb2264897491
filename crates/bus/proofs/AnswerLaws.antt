-- Laws of answer codes: a code's class gives the code back, an accepted class is the class of its code, and the codes from 128 on are
-- those whose row says "error".
use Prim.Native.Nat.{ℕ, ◌+◌, ◌-◌, ◌≤◌, ◌<◌}
use mathlib.Core.Bool.{Bool, true, false, cond}
use mathlib.Core.Logic.{⊎_elim}
use mathlib.Core.Path.{◌≡◌, refl, sym, ap, ◌∙◌}
use native.Mathlib.Nat.{sub-add_cancel}
use native.Mathlib.Omega.{arith}
use lib.Dec.{leb, eqb}
use borrow.Author.Tests.{le-leb, lt-leb, ne_eqb}
use Rattle.std.specs.Prelude.{Ok, Err}
use Rattle.order.specs.Refusal.{accepted, field_range, number_of}
use Rattle.order.specs.declared.Refusal.TheVariants.{FieldRange}
use Rattle.bus.specs.declared.answer.Class.{Class}
use Rattle.bus.specs.declared.answer.Class.TheVariants.{NoError, NoErrorLock, ReservedNoError, UserNoError, HardwareError, IllegalCommand, BusSequenceError, ReservedError, UserError}
use Rattle.numeric.specs.Range.{within}
use Rattle.bus.specs.Answer.{class_of, code_number, in_row, code_of, code_found, is_error, error_row, Rows}
use Rattle.numeric.proofs.Cases.{le_or_lt, eq_or_ne}
use Rattle.numeric.proofs.RangeLaws.{within_in, within_true}

-- ---- the four ranges

other : (c k : ℕ) → k < c → eqb c k ≡ false
other c k l = ne_eqb c k (λ (e : c ≡ k). omega arith)

pub class_reserved : (c : ℕ) → 2 ≤ c → c ≤ 63 → class_of c ≡ ReservedNoError c
unfolding class_of
class_reserved c l u = rw (other c 0 (omega arith), other c 1 (omega arith), le-leb c 63 u)

pub class_user : (c : ℕ) → 64 ≤ c → c ≤ 127 → class_of c ≡ UserNoError (c - 64)
unfolding class_of
class_user c l u = rw (other c 0 (omega arith), other c 1 (omega arith), lt-leb c 63 l, le-leb c 127 u)

above : (c : ℕ) → 131 ≤ c → class_of c ≡ cond (leb c 191) (ReservedError c) (UserError (c - 192))
unfolding class_of
above c l =
    rw (other c 0 (omega arith), other c 1 (omega arith), lt-leb c 63 (omega arith), lt-leb c 127 (omega arith))
    (rw (other c 128 (omega arith), other c 129 (omega arith), other c 130 (omega arith)))

pub class_reserved_error : (c : ℕ) → 131 ≤ c → c ≤ 191 → class_of c ≡ ReservedError c
class_reserved_error c l u = above c l ∙ rw (le-leb c 191 u)

pub class_user_error : (c : ℕ) → 192 ≤ c → class_of c ≡ UserError (c - 192)
class_user_error c l = above c (omega arith) ∙ rw (lt-leb c 191 l)

-- ---- there and back

-- what holds in each of the nine rows holds of each code
by_rows : (P : ℕ → Type 0) → P 0 → P 1 → ((c : ℕ) → 2 ≤ c → c ≤ 63 → P c) → ((c : ℕ) → 64 ≤ c → c ≤ 127 → P c)
    → P 128 → P 129 → P 130 → ((c : ℕ) → 131 ≤ c → c ≤ 191 → P c) → ((c : ℕ) → 192 ≤ c → P c) → (c : ℕ) → P c
by_rows P none lock reserved user hardware illegal sequence reserved_error userError c =
    at 0 none (λ d. at 1 lock (λ e. up_to 63 (reserved c (omega arith)) (λ f. up_to 127 (user c f)
    (λ g. at 128 hardware (λ h. at 129 illegal (λ i. at 130 sequence (λ j.
    up_to 191 (reserved_error c (omega arith)) (userError c))))))))
  where
    at : (n : ℕ) → P n → ((c ≡ n → ⊥) → P c) → P c
    at n p rest = ⊎_elim (λ (e : c ≡ n). rw e p) rest (eq_or_ne c n)

    up_to : (n : ℕ) → (c ≤ n → P c) → (n < c → P c) → P c
    up_to n below rest = ⊎_elim below rest (le_or_lt c n)

-- the code of the class of a code is the code
pub code_of_class : (c : ℕ) → c < 256 → code_of (class_of c) ≡ Ok c
unfolding code_of code_number in_row class_of
code_of_class =
    by_rows (λ c. c < 256 → code_of (class_of c) ≡ Ok c)
    (λ _. refl)
    (λ _. refl)
    (λ c l u _. ap code_of (class_reserved c l u) ∙ rw (within_in 2 63 c l u))
    (λ c l u _. ap code_of (class_user c l u) ∙ rw (sub-add_cancel l, within_in 64 127 c l u))
    (λ _. refl)
    (λ _. refl)
    (λ _. refl)
    (λ c l u _. ap code_of (class_reserved_error c l u) ∙ rw (within_in 131 191 c l u))
    (λ c l u. ap code_of (class_user_error c l) ∙ rw (sub-add_cancel l, within_in 192 255 c l (omega arith)))

-- a class whose carried number is in its row is the class of its code
class_of_number : (k : Class) → in_row k ≡ true → class_of (code_number k) ≡ k
unfolding code_number in_row class_of
class_of_number NoError e = refl
class_of_number NoErrorLock e = refl
class_of_number (ReservedNoError n) e = class_reserved n (within_true 2 63 n e).0 (within_true 2 63 n e).1
class_of_number (UserNoError n) e =
    class_user (n + 64) (within_true 64 127 (n + 64) e).0 (within_true 64 127 (n + 64) e).1 ∙ ap UserNoError (omega arith)
class_of_number HardwareError e = refl
class_of_number IllegalCommand e = refl
class_of_number BusSequenceError e = refl
class_of_number (ReservedError n) e = class_reserved_error n (within_true 131 191 n e).0 (within_true 131 191 n e).1
class_of_number (UserError n) e = class_user_error (n + 192) (within_true 192 255 (n + 192) e).0 ∙ ap UserError (omega arith)

-- the class of the code of a class is the class, where the class is accepted
pub class_of_code : (k : Class) (c : ℕ) → code_of k ≡ Ok c → class_of c ≡ k
unfolding code_of
class_of_code k c = go (in_row k) refl
  where
    go : (t : Bool) → in_row k ≡ t → cond t (Ok (code_number k)) (Err FieldRange) ≡ Ok c → class_of c ≡ k
    go true e h = let same : c ≡ code_number k = cc in ap class_of same ∙ class_of_number k e
    go false e h = absurd (let z : ◌≡◌ {A = ℕ} 0 1 = cc in omega arith)

-- what is answered of a class, in numbers: refused, the code is 0
pub code_numbers : (k : Class)
    → (number_of (code_of k) ≡ cond (in_row k) accepted field_range) × (code_found (code_of k) ≡ cond (in_row k) (code_number k) 0)
unfolding code_of code_found
code_numbers k = go (in_row k) (code_number k)
  where
    go : (t : Bool) (c : ℕ)
        → (number_of (cond t (Ok c) (Err FieldRange)) ≡ cond t accepted field_range)
        × (code_found (cond t (Ok c) (Err FieldRange)) ≡ cond t c 0)
    go true c = (refl, refl)
    go false c = (refl, refl)

-- a code is an error exactly where its class's row says so
pub error_of_row : (c : ℕ) → is_error c ≡ error_row (class_of c)
unfolding is_error error_row class_of
error_of_row =
    by_rows (λ c. is_error c ≡ error_row (class_of c))
    refl
    refl
    (λ c l u. lt-leb 128 c (omega arith) ∙ ap error_row (sym (class_reserved c l u)))
    (λ c l u. lt-leb 128 c (omega arith) ∙ ap error_row (sym (class_user c l u)))
    refl
    refl
    refl
    (λ c l u. le-leb 128 c (omega arith) ∙ ap error_row (sym (class_reserved_error c l u)))
    (λ c l. le-leb 128 c (omega arith) ∙ ap error_row (sym (class_user_error c l)))

-- the rows by computing the definitions
pub rows : Rows
unfolding within class_of code_number in_row code_of
rows = record {
  no_error = (refl, refl);
  no_error_lock = (refl, refl);
  reserved_no_error = (refl, refl);
  hardware_error = (refl, refl);
  illegal_command = (refl, refl);
  bus_sequence_error = (refl, refl);
  reserved_error = (refl, refl);
}
