-- Laws of decimal text: one digit, one digit more; it means its number, has no zero in front, and is short.
use Prim.Native.Nat.{ℕ, zero, suc, ◌+◌, ◌-◌, ◌*◌, ◌/◌, ◌%◌, ◌^◌, ◌<◌, ◌≤◌}
use native.Mathlib.Nat.{div-lt_iff_lt-mul, pow-suc}
use native.Mathlib.Omega.{arith}
use mathlib.Core.Path.{◌≡◌, refl, sym, ap, subst, ◌∙◌}
use mathlib.Core.Logic.{◌⊎◌, inl, inr, ⊎_elim}
use mathlib.Core.Bool.{Bool, true, false}
use lib.Dec.{ltb, lit<}
use mathlib.Core.List.{List, [], ◌∷◌, ◌++◌}
use borrow.Author.Tests.{lt-ltb, le-ltb, ltb-true, ltb-false}
use lib.ListN.{length, get_or, set, drop, length-drop, length-append, get_or-append}
use Rattle.std.proofs.lemmas.List.{set-append_right}
use Rattle.text.specs.Decimal.{digits_in, decimal, meaning_after, meaning, Digits, Spelling}

lt_or_le : (a b : ℕ) → (a < b) ⊎ (b ≤ a)
lt_or_le a b = go (ltb a b) refl
  where
    go : (t : Bool) → ltb a b ≡ t → (a < b) ⊎ (b ≤ a)
    go true e = inl (ltb-true a b e)
    go false e = inr (ltb-false a b e)

tenth : (f n : ℕ) → n < 10 ^ suc (suc f) → n / 10 < 10 ^ suc f
tenth f n h = (div-lt_iff_lt-mul {k = 10} (lit< tt)).1 (subst (λ (k : ℕ). n < k) (pow-suc 10 (suc f)) h)

-- room beyond its digits changes nothing
stable : (f n : ℕ) → n < 10 ^ suc f → digits_in (suc f) n ≡ digits_in (suc (suc f)) n
unfolding digits_in
stable zero n h = simp (lt-ltb n 10 h)
stable (suc f) n h =
    ⊎_elim
    (λ l. simp (lt-ltb n 10 l))
    (λ l. simp (le-ltb n 10 l, stable f (n / 10) (tenth f n h)))
    (lt_or_le n 10)

pub one_digit : (n : ℕ) → n < 10 → decimal n ≡ (48 + n) ∷ []
unfolding decimal digits_in
one_digit n h = simp (lt-ltb n 10 h)

pub more_digits : (n : ℕ) → 10 ≤ n → n < 2 ^ 64 → decimal n ≡ decimal (n / 10) ++ ((48 + n % 10) ∷ [])
unfolding decimal digits_in
more_digits n h f = rw (le-ltb n 10 h, stable 18 (n / 10) (omega arith))

pub length_one : (n : ℕ) → n < 10 → length (decimal n) ≡ 1
length_one n h = ap length (one_digit n h)

pub length_more : (n : ℕ) → 10 ≤ n → n < 2 ^ 64 → length (decimal n) ≡ length (decimal (n / 10)) + 1
length_more n h f = ap length (more_digits n h f) ∙ length-append (decimal (n / 10)) ((48 + n % 10) ∷ [])

-- ---- a space of as many bytes as the number has digits, with the last of them put in

set_one : (l : List ℕ) (k a : ℕ) → length l ≡ 1 → k ≡ 0 → set l k a ≡ a ∷ []
set_one [] k a e f = absurd (omega arith)
set_one (x ∷ []) k a e f = rw f refl
set_one (x ∷ (y ∷ l)) k a e f = absurd (omega arith)

set_last : (front xs : List ℕ) (n a : ℕ) → length xs ≡ n + 1 → length front ≡ n → set (front ++ drop n xs) n a ≡ front ++ (a ∷ [])
set_last front xs n a e f =
    set-append_right front (drop n xs) n n a f (omega arith)
    ∙ ap (λ (t : List ℕ). front ++ t) (set_one (drop n xs) (n - n) a (omega (arith, length-drop n xs)) (omega arith))

-- behind the digits of n / 10, where n has more than one
pub last_digit : (front xs : List ℕ) (n : ℕ) → 10 ≤ n → n < 2 ^ 64 → length xs ≡ length (decimal n) → front ≡ decimal (n / 10)
    → set (front ++ drop (length xs - 1) xs) (length xs - 1) (48 + n % 10) ≡ decimal n
last_digit front xs n h f e d =
    set_last front xs (length xs - 1) (48 + n % 10) (omega (arith, length_more n h f)) (omega (arith, length_more n h f, ap length d))
    ∙ ap (λ (t : List ℕ). t ++ ((48 + n % 10) ∷ [])) d ∙ sym (more_digits n h f)

-- alone
pub only_digit : (xs : List ℕ) (n : ℕ) → n < 10 → length xs ≡ length (decimal n) → set xs 0 (48 + n) ≡ decimal n
only_digit xs n h e = set_one xs 0 (48 + n) (e ∙ length_one n h) refl ∙ sym (one_digit n h)

-- a number below 10 ^ suc k has at most suc k digits
short : (f k n : ℕ) → n < 10 ^ suc k → length (digits_in f n) ≤ suc k
unfolding digits_in
short zero k n h = omega arith
short (suc f) zero n h = rw (lt-ltb n 10 h) (omega arith)
short (suc f) (suc k) n h =
    ⊎_elim
    (λ l. rw (lt-ltb n 10 l) (omega arith))
    (λ l. rw (le-ltb n 10 l, length-append) (let i = short f k (n / 10) (tenth k n h) in omega arith))
    (lt_or_le n 10)

pub at_most : (k n : ℕ) → n < 10 ^ suc k → length (decimal n) ≤ suc k
unfolding decimal
at_most k n h = short 20 k n h

pub at_most_20 : (n : ℕ) → n < 2 ^ 64 → length (decimal n) ≤ 20
at_most_20 n h = at_most 19 n (omega arith)

-- one digit more means ten times as much, and the digit
meaning_snoc : (s : List ℕ) (v d : ℕ) → meaning_after v (s ++ (d ∷ [])) ≡ 10 * meaning_after v s + (d - 48)
unfolding meaning_after
meaning_snoc [] v d = refl
meaning_snoc (x ∷ s) v d = meaning_snoc s (10 * v + (x - 48)) d

digits_mean : (f n : ℕ) → n < 10 ^ suc f → meaning (digits_in (suc f) n) ≡ n
unfolding digits_in meaning meaning_after
digits_mean zero n h = rw (lt-ltb n 10 h) (omega arith)
digits_mean (suc f) n h =
    ⊎_elim
    (λ l. rw (lt-ltb n 10 l) (omega arith))
    (λ l. rw (le-ltb n 10 l, meaning_snoc (digits_in (suc f) (n / 10)) 0 (48 + n % 10)) (let i = digits_mean f (n / 10) (tenth f n h) in rw i (omega arith)))
    (lt_or_le n 10)

some_digit : (f n : ℕ) → 0 < length (digits_in (suc f) n)
unfolding digits_in
some_digit f n =
    ⊎_elim
    (λ l. rw (lt-ltb n 10 l) (omega arith))
    (λ l. rw (le-ltb n 10 l, length-append) (omega arith))
    (lt_or_le n 10)

first_digit : (f n : ℕ) → n < 10 ^ suc f → 0 < n → 48 < get_or (digits_in (suc f) n) 0 0
unfolding digits_in
first_digit zero n h p = rw (lt-ltb n 10 h) (omega arith)
first_digit (suc f) n h p =
    ⊎_elim
    (λ l. rw (lt-ltb n 10 l) (omega arith))
    (λ l. rw (le-ltb n 10 l, get_or-append (digits_in (suc f) (n / 10)) ((48 + n % 10) ∷ []) 0 0 (some_digit f (n / 10))) (first_digit f (n / 10) (tenth f n h) (omega arith)))
    (lt_or_le n 10)

digits_snoc : (s : List ℕ) (d : ℕ) → Digits s → d < 10 → Digits (s ++ ((48 + d) ∷ []))
unfolding Digits
digits_snoc [] d a h = ((omega arith, omega arith), tt)
digits_snoc (x ∷ s) d a h = (a.0, digits_snoc s d a.1 h)

all_digits : (f n : ℕ) → Digits (digits_in f n)
unfolding digits_in Digits
all_digits zero n = tt
all_digits (suc f) n =
    ⊎_elim
    (λ l. rw (lt-ltb n 10 l) ((omega arith, omega arith), tt))
    (λ l. rw (le-ltb n 10 l) (digits_snoc (digits_in f (n / 10)) (n % 10) (all_digits f (n / 10)) (omega arith)))
    (lt_or_le n 10)

pub spelling : (n : ℕ) → n < 2 ^ 64 → Spelling n
unfolding decimal
spelling n h =
    let small : n < 10 ^ 20 = omega arith in
    record {
      means = digits_mean 19 n small;
      digits = all_digits 20 n;
      first = λ p. first_digit 19 n small p;
      naught = λ e. ap decimal e ∙ one_digit 0 (lit< tt);
      some = some_digit 19 n;
      most = at_most_20 n h;
      short = λ w. at_most 9 n (omega arith);
    }
