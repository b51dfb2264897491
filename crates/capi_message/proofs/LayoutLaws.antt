-- A receiver and its numbers, and a sequence and its number, determine each other.
use mathlib.Core.Path.{◌≡◌, refl, sym, ap, ◌∙◌}
use mathlib.Core.Bool.{Bool, true, false, cond, ◌&&◌, false≢true, and-eq-true_iff}
use mathlib.Core.List.{List, [], ◌∷◌, ◌++◌}
use Prim.Native.Nat.{ℕ, zero, suc, ◌≤◌, ◌<◌}
use native.Mathlib.Omega.{arith}
use lib.Dec.{eqb, leb}
use lib.ListN.{length, take}
use borrow.Author.Tests.{eqb-true, leb-true, lt-leb}
use Rattle.crossing.specs.Capped.{capped}
use Rattle.crossing.proofs.CappedLaws.{caps}
use Rattle.message_rules.specs.declared.Sequence.{Sequence}
use Rattle.message_rules.specs.declared.Sequence.TheVariants.{Single, First, Middle, Last}
use Rattle.std.specs.Prelude.{Some, None}
use Rattle.message_rules.specs.Operation.{is_source, sequence_number}
use Rattle.message_rules.specs.Receiver.{Receiver, brought, state_allowed}
use Rattle.capi_message.specs.Layout.{no_receiver, receiver_numbers, receiver_of, receiver_from, Fits, Inverse, Narrows}
use Rattle.capi_message.specs.Operation.{sequence_from, operation_sender, Numbered}

pub narrows : Narrows
unfolding Narrows is_source
narrows s a = rw ((caps 255).tested 7 s (omega arith), (caps 65535).tested 255 a (omega arith))

-- what is capped to at most a limit below the most was not capped
uncapped : (most limit n : ℕ) → limit < most → leb (capped most n) limit ≡ true → capped most n ≡ n
uncapped most limit n h e =
    let l : n ≤ limit = leb-true n limit (sym ((caps most).tested limit n h) ∙ e) in
    (caps most).keeps n (omega arith)

back : (r : Receiver) (t : List ℕ) → Fits r → receiver_from (receiver_numbers r ++ t) ≡ r
unfolding receiver_from receiver_of receiver_numbers Fits
back None t f = refl
back (Some m) t f =
    ap (λ (x : ℕ). Some (brought x (capped 65535 m.source.aid) m.count)) ((caps 255).keeps m.source.sender f.0)
    ∙ ap (λ (x : ℕ). Some (brought m.source.sender x m.count)) ((caps 65535).keeps m.source.aid f.1)

-- numbers whose receiver is allowed are that receiver's
forth_of : (k s a n : ℕ) → state_allowed (receiver_of k s a n) ≡ true → receiver_numbers (receiver_of k s a n) ≡ k ∷ s ∷ a ∷ n ∷ []
unfolding receiver_numbers receiver_of state_allowed is_source
forth_of k s a n = go (eqb k 0) (eqb k 1) (eqb s 0) (eqb a 0) (eqb n 0) refl refl refl refl refl
  where
    go : (p q x y z : Bool) → eqb k 0 ≡ p → eqb k 1 ≡ q → eqb s 0 ≡ x → eqb a 0 ≡ y → eqb n 0 ≡ z
        → let r : Receiver = cond p (cond (x && (y && z)) None no_receiver) (cond q (Some (brought (capped 255 s) (capped 65535 a) n)) no_receiver) in
        state_allowed r ≡ true → receiver_numbers r ≡ k ∷ s ∷ a ∷ n ∷ []
    go true q true true true e f g h i t = rw (eqb-true k 0 e, eqb-true s 0 g, eqb-true a 0 h, eqb-true n 0 i)
    go true q false y z e f g h i t = absurd (false≢true t)
    go true q true false z e f g h i t = absurd (false≢true t)
    go true q true true false e f g h i t = absurd (false≢true t)
    go false true x y z e f g h i t =
        let u : (leb (capped 255 s) 7 ≡ true) × (leb (capped 65535 a) 255 ≡ true) = (and-eq-true_iff (leb (capped 255 s) 7) _).0 ((and-eq-true_iff (leb (capped 255 s) 7 && leb (capped 65535 a) 255) _).0 t).0 in
        let s₁ : capped 255 s ≡ s = uncapped 255 7 s (omega arith) u.0 in
        let a₁ : capped 65535 a ≡ a = uncapped 65535 255 a (omega arith) u.1 in
        rw (eqb-true k 1 f, s₁, a₁)
    go false false x y z e f g h i t = absurd (false≢true t)

forth : (l : List ℕ) → 4 ≤ length l → state_allowed (receiver_from l) ≡ true → receiver_numbers (receiver_from l) ≡ take 4 l
unfolding receiver_from
forth (k ∷ s ∷ a ∷ n ∷ l) h t = forth_of k s a n t
forth [] h t = absurd (omega arith)
forth (k ∷ []) h t = absurd (omega arith)
forth (k ∷ s ∷ []) h t = absurd (omega arith)
forth (k ∷ s ∷ a ∷ []) h t = absurd (omega arith)

pub inverse : Inverse
inverse = record { back = back; forth = forth }

sequence_back : (q : Sequence) → sequence_from (sequence_number q) ≡ q
unfolding sequence_from sequence_number
sequence_back Single = refl
sequence_back First = refl
sequence_back Middle = refl
sequence_back Last = refl

sequence_forth : (n : ℕ) → n ≤ 3 → sequence_number (sequence_from n) ≡ n
unfolding sequence_from sequence_number
sequence_forth zero h = refl
sequence_forth (suc zero) h = refl
sequence_forth (suc (suc zero)) h = refl
sequence_forth (suc (suc (suc zero))) h = refl
sequence_forth (suc (suc (suc (suc n)))) h = absurd (omega arith)

sequence_none : (n s a : ℕ) → 3 < n → is_source (operation_sender n s) (capped 65535 a) ≡ false
unfolding is_source operation_sender
sequence_none n s a h = rw (lt-leb n 3 h)

pub numbered : Numbered
numbered = record { back = sequence_back; forth = sequence_forth; none = sequence_none }
