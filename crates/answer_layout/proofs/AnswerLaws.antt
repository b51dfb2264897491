-- An answer's numbers, one order at a time.
use mathlib.Core.Path.{◌≡◌, refl, sym, ap, ◌∙◌}
use mathlib.Core.List.{List, [], ◌∷◌, ◌++◌, append_assoc}
use Prim.Native.Nat.{ℕ, zero, suc, ◌+◌, ◌*◌, ◌≤◌}
use native.Mathlib.Omega.{arith}
use native.Mathlib.Numerals.{add-one}
use lib.ListN.{length, get_or, drop, length-append, length-drop}
use lib.Seq.{sets, sets-eq, drop-drop}
use Rattle.order.specs.declared.Order.{Order}
use Rattle.coherence.specs.Answer.{Answer}
use Rattle.coherence.specs.Calls.{no_order}
use Rattle.answer_layout.specs.Answer.{order_numbers, orders_numbers, answer_numbers}
use borrow.Rule.Slice.PartMut.{put_mid}
use Rattle.crossing.proofs.Spaces.{put_behind}

length_order : (o : Order) → length (order_numbers o) ≡ 4
unfolding order_numbers
length_order o = refl

length_orders : (n : ℕ) (os : List Order) → length (orders_numbers n os) ≡ 4 * n
unfolding orders_numbers
length_orders zero os = refl
length_orders (suc n) os =
    length-append (orders_numbers n os) (order_numbers (get_or os n no_order))
    ∙ (let l = length_orders n os in let o = length_order (get_or os n no_order) in omega arith)

pub length_answer : (a : Answer) → length (answer_numbers a) ≡ 18
unfolding answer_numbers
length_answer a = length-append (a.value ∷ a.orders.count ∷ []) (orders_numbers 4 a.orders.list) ∙ (let l = length_orders 4 a.orders.list in omega arith)

-- order n stored behind the two numbers p and the orders before it
pub put_next : (p o : List ℕ) (os : List Order) (n : ℕ) → length p ≡ 2 → 2 + 4 * n + 4 ≤ length o
    → sets ((p ++ orders_numbers n os) ++ drop (2 + 4 * n) o) (2 + 4 * n) (order_numbers (get_or os n no_order))
    ≡ (p ++ orders_numbers (n + 1) os) ++ drop (2 + 4 * (n + 1)) o
unfolding orders_numbers
put_next p o os n e h =
    let vs : List ℕ = order_numbers (get_or os n no_order) in
    let four : length vs ≡ 4 = length_order (get_or os n no_order) in
    let x : length (p ++ orders_numbers n os) ≡ 2 + 4 * n =
    length-append p (orders_numbers n os) ∙ (let l = length_orders n os in omega arith) in
    let k : 2 + 4 * n + length vs ≡ 2 + 4 * (n + 1) = omega arith in
    put_behind (p ++ orders_numbers n os) o vs (2 + 4 * n) x (omega arith)
    ∙ ap (λ (t : List ℕ). t ++ drop (2 + 4 * n + length vs) o) (append_assoc p (orders_numbers n os) vs)
    ∙ ap (λ (i : ℕ). (p ++ orders_numbers (suc n) os) ++ drop i o) k
    ∙ ap (λ (i : ℕ). (p ++ orders_numbers i os) ++ drop (2 + 4 * (n + 1)) o) (sym (add-one n))

-- the same, where the order's place in the space s is a part that holds its numbers
pub put_part : (p o v s : List ℕ) (os : List Order) (n k : ℕ) → length p ≡ 2 → 2 + 4 * n + 4 ≤ length o → s ≡ (p ++ orders_numbers n os) ++ drop (2 + 4 * n) o
    → k ≡ 4 → v ≡ order_numbers (get_or os n no_order) → put_mid (2 + 4 * n) k s v ≡ (p ++ orders_numbers (n + 1) os) ++ drop (2 + 4 * (n + 1)) o
put_part p o v s os n k e h q f g =
    let vs : List ℕ = order_numbers (get_or os n no_order) in
    let four : length vs ≡ 4 = length_order (get_or os n no_order) in
    let ks : k ≡ length vs = f ∙ sym four in
    let l = length_orders n os in
    let long : length s ≡ length o = ap length q ∙ simp (length-append, length-drop) (omega arith) in
    let stored : put_mid (2 + 4 * n) k s v ≡ sets s (2 + 4 * n) vs = rw (sets-eq vs s (2 + 4 * n) (omega arith), ks, g, drop-drop, append_assoc) in
    stored ∙ ap (λ (t : List ℕ). sets t (2 + 4 * n) vs) q ∙ put_next p o os n e h
