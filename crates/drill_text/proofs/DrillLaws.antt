-- From the parts of a drill to its whole text, and to what `drill` answers.
use Prim.Native.Nat.{ℕ, ◌+◌, ◌≤◌, ◌<◌}
use native.Mathlib.Nat.{zero-add}
use native.Mathlib.Omega.{arith}
use mathlib.Core.Path.{◌≡◌, refl, sym, ◌∙◌}
use mathlib.Core.Bool.{Bool, true, false, cond}
use mathlib.Core.List.{List}
use lib.Dec.{leb}
use lib.ListN.{length}
use borrow.Author.Tests.{leb-true, le-leb, lt-leb}
use Rattle.std.specs.Prelude.{Result, Ok, Err}
use Rattle.order.specs.declared.Refusal.{Refusal}
use Rattle.order.specs.declared.Refusal.TheVariants.{NoRoom}
use Rattle.std.specs.Result.{IsOk}
use Rattle.order.specs.Refusal.{accepted, no_room, number_of}
use Rattle.coherence.specs.declared.Call.{Call}
use Rattle.coherence.specs.declared.Directory.{Directory}
use Rattle.coherence.specs.declared.Settings.{Settings}
use Rattle.coherence.specs.Settings.{drill_settings}
use Rattle.coherence.specs.Slots.{cold_directory}
use Rattle.order.specs.Refusal.{first_refusal}
use Rattle.coherence.specs.Refusal.{start_refusal, size_test, sized}
use Rattle.coherence.specs.Calls.{started, start_answer, cache_started, answers, answers_cold}
use Rattle.coherence.proofs.AnswerLaws.{tells_apart}
use Rattle.machine.specs.declared.StartRefused.{StartRefused}
use Rattle.machine.specs.Start.{refusal_alone}
use Rattle.text.specs.Space.{placed}
use Rattle.text.proofs.SpaceLaws.{placed_room, placed_none}
use Rattle.reading.specs.Reading.{read_all}
use Rattle.drill_format.specs.Line.{refused_line}
use Rattle.drill_format.specs.Drill.{tape_most, text_most, zero_store, calls_in, answers_in, drill_text, drilled_in}
use Rattle.drill_text.specs.Writing.{Puts, text_from}

-- ---- the text

pub long_text : (t : List ℕ) → tape_most < length t → drill_text t ≡ refused_line 9 tape_most
unfolding drill_text
long_text t h = rw (lt-leb (length t) tape_most h)

-- a cold start on stores of zeros
cleared : cache_started zero_store zero_store ≡ zero_store
unfolding cache_started start_refusal first_refusal size_test sized zero_store
cleared = refl

pub started_cache : (m k k' : List ℕ) → m ≡ zero_store → k ≡ zero_store → k' ≡ cache_started m k → k' ≡ zero_store
started_cache m k k' em ek e = e ∙ rw (em, ek) cleared

alone_accepted : (r : Result Directory StartRefused) (d : Directory) → refusal_alone r ≡ Ok d → r ≡ Ok d
alone_accepted (Ok x) d e = cc
alone_accepted (Err x) d e = cc

pub started_directory : (g : Settings) (r : Result Directory StartRefused) (m k : List ℕ) → started g (refusal_alone r) ≡ start_answer g m k → m ≡ zero_store → k ≡ zero_store
    → r ≡ Ok (cold_directory g)
unfolding start_answer start_refusal first_refusal size_test sized zero_store
started_directory g r m k e em ek = alone_accepted r (cold_directory g) (tells_apart.starts g (refusal_alone r) (Ok (cold_directory g)) (e ∙ rw (em, ek)))

cold_answers : (cs : List Call) → answers_cold drill_settings zero_store cs ≡ answers (cold_directory drill_settings) zero_store zero_store cs
unfolding answers_cold zero_store
cold_answers cs = refl

pub whole_text : (t : List ℕ) (d : Directory) (m k : List ℕ) → length t ≤ tape_most → d ≡ cold_directory drill_settings → m ≡ zero_store → k ≡ zero_store
    → text_from d m k 0 0 (read_all t) ≡ drill_text t
unfolding text_from drill_text calls_in answers_in
whole_text t d m k h ed em ek = rw (le-leb (length t) tape_most h, cold_answers, ed, em, ek, zero-add, zero-add)

-- ---- the answer

-- the space is too small for a text that was put into a space o₁, and has n bytes
pub small : (text o o₁ o' : List ℕ) (n : ℕ) → Puts text o₁ 0 o' n → length o < n → n ≤ text_most
    → (Err NoRoom ≡ drilled_in text (length o)) × (o ≡ placed o 0 text) × (text_most ≤ length o → no_room ≡ accepted)
unfolding drilled_in
small text o o₁ o' n p h b =
    let e : n ≡ length text = p.next ∙ zero-add (length text) in
    (rw (lt-leb (length text) (length o) (omega arith)), sym (placed_none o 0 text (lt-leb (0 + length text) (length o) (omega arith))), λ k. absurd (omega arith))

pub large : (text o o' : List ℕ) (r : ℕ) → Puts text o 0 o' r → r ≤ length o
    → (Ok r ≡ drilled_in text (length o)) × (o' ≡ placed o 0 text) × (text_most ≤ length o → ◌≡◌ {A = ℕ} 0 accepted)
unfolding drilled_in
large text o o' r p h =
    let m : r ≡ length text = p.next ∙ zero-add (length text) in
    (rw (le-leb (length text) (length o) (omega arith), m), p.bytes h ∙ sym (placed_room o 0 text (le-leb (0 + length text) (length o) (omega arith))), λ k. refl)

-- ---- for a caller: the answer for a large space, and that the count lies within the space

pub drilled_sure : (r : Result ℕ Refusal) (text : List ℕ) (room : ℕ) → r ≡ drilled_in text room → number_of r ≡ accepted → IsOk r
unfolding drilled_in
drilled_sure r text room e = rw e (go (leb (length text) room))
  where
    go : (t : Bool) → number_of (cond t (Ok (length text)) (Err NoRoom)) ≡ accepted → IsOk (cond t (Ok (length text)) (Err NoRoom))
    go true z = refl
    go false z = absurd (omega (arith, z))

pub count_within : (r : Result ℕ Refusal) (text : List ℕ) (room count n : ℕ) → r ≡ drilled_in text room → r ≡ Ok count → n ≡ room → count ≤ n
unfolding drilled_in
count_within r text room count n e f k = rw k (go (leb (length text) room) refl (sym f ∙ e))
  where
    go : (t : Bool) → leb (length text) room ≡ t → Ok count ≡ cond t (Ok (length text)) (Err NoRoom) → count ≤ room
    go true l z = let m : count ≡ length text = cc in rw m (leb-true (length text) room l)
    go false l z = cc

pub large_space : (n : ℕ) → n ≡ text_most → text_most ≤ n
large_space n e = omega arith
