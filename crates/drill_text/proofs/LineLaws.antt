-- How long a line is at most.
use Prim.Native.Nat.{ℕ, suc, ◌^◌, ◌≤◌, ◌<◌}
use native.Mathlib.Omega.{arith}
use lib.ListN.{length, length-append}
use Rattle.coherence.specs.declared.Call.{Call}
use Rattle.coherence.specs.declared.Call.TheVariants.{Load, Store, Flush}
use Rattle.coherence.specs.Answer.{Answer}
use Rattle.coherence.specs.Demand3.{orders_in}
use Rattle.text.specs.Space.{ascii}
use Rattle.text.proofs.DecimalLaws.{at_most}
use Rattle.std.specs.Prelude.{Some}
use Rattle.drill_format.specs.Line.{field, access_part, orders_part, call_line}
use Rattle.drill_text.specs.Writing.{Short}

pub field_short : (k n : ℕ) → n < 10 ^ suc k → length (field n) ≤ suc (suc k)
unfolding field ascii
field_short k n h = let d = at_most k n h in omega arith

orders_short : (n : ℕ) → n ≤ 4 → length (orders_part n) ≤ 10
unfolding orders_part ascii
orders_short n h = let f = field_short 0 n (omega arith) in simp length-append (omega arith)

access_short : (c : Call) (v : ℕ) → Short (Some c) → v < 4294967296 → length (access_part c v) ≤ 23
unfolding access_part ascii Short
access_short (Load u a) v h l =
    let fu = field_short 0 u h.0 in
    let fa = field_short 3 a h.1 in
    let fv = field_short 9 v (omega arith) in
    simp length-append (omega arith)
access_short (Store u a x) v h l =
    let fu = field_short 0 u h.0 in
    let fa = field_short 3 a h.1 in
    let fx = field_short 9 x (omega arith) in
    simp length-append (omega arith)
access_short (Flush u b) v h l =
    let fu = field_short 0 u h.0 in
    let fb = field_short 3 b h.1 in
    simp length-append (omega arith)

-- a call's line has at most 33 bytes
pub line_short : (c : Call) (r : Answer) → Short (Some c) → r.value < 4294967296 → length (orders_in r) ≤ 4 → length (call_line c r) ≤ 33
unfolding call_line
line_short c r h v n =
    let a = access_short c r.value h v in
    let o = orders_short (length (orders_in r)) n in
    simp length-append (omega arith)
