-- The receiver's answer to an operation that is accepted, and to one that is not.
use Prim.Native.Nat.{ℕ, ◌+◌, ◌≤◌}
use native.Mathlib.Omega.{arith}
use mathlib.Core.Path.{◌≡◌, refl, sym, ap, ◌∙◌}
use mathlib.Core.Logic.{◌≢◌, ◌⊎◌, inl, inr, ⊎_elim}
use mathlib.Core.Bool.{Bool, true, false, not, cond, ◌&&◌, and-eq-true_iff, false≢true}
use mathlib.Core.List.{List, [], ◌∷◌}
use lib.Dec.{eqb, leb}
use lib.ListN.{length}
use lib.Seq.{sets}
use borrow.Author.Tests.{eq-eqb, ne_eqb, le-leb, eqb-true, eqb-false, leb-true, not-true}
use Rattle.message_rules.specs.declared.Sequence.{Sequence}
use Rattle.message_rules.specs.declared.Sequence.TheVariants.{Single, First, Middle, Last}
use Rattle.std.specs.Prelude.{Some, None}
use Rattle.message_rules.specs.Operation.{Operation, is_source, starts, ends}
use Rattle.message_rules.specs.Receiver.{brought, Receiver, Receipt, state_allowed, in_range, in_turn, is_expected, start_of, receive_refusal, accepts, Follows, Acceptable, AcceptsExactly, refused, taken, receipt, store_after, completion_told, AcceptedTells, RefusedKeeps}
use Rattle.message_rules.proofs.ReceiverTests.{receive_tests, accepted_tests}

-- ---- which operations are accepted

pub source_true : (s a : ℕ) → s ≤ 7 → a ≤ 255 → is_source s a ≡ true
unfolding is_source
source_true s a h l = rw (le-leb s 7 h, le-leb a 255 l)

pub source_within : (s a : ℕ) → is_source s a ≡ true → (s ≤ 7) × (a ≤ 255)
unfolding is_source
source_within s a e =
    let h : (leb s 7 ≡ true) × (leb a 255 ≡ true) = (and-eq-true_iff (leb s 7) (leb a 255)).0 e in
    (leb-true s 7 h.0, leb-true a 255 h.1)

pub range_of : (s a n : ℕ) → s ≤ 7 → a ≤ 255 → 1 ≤ n → n ≤ 256 → in_range s a n ≡ true
unfolding in_range
range_of s a n b c l h = rw (source_true s a b c, le-leb 1 n l, le-leb n 256 h)

-- an operation that passes every test
pub passes_all : (r : Receiver) (st : List ℕ) (o : Operation)
    → length st ≡ 4096 → state_allowed r ≡ true → in_range o.sender o.aid (length o.bytes) ≡ true → in_turn r o.sequence ≡ true
    → is_expected r o.sender o.aid ≡ true → start_of r + length o.bytes ≤ 4096 → receive_refusal r st o ≡ 0
passes_all r st o size state range turn source room =
    rw (receive_tests r st o, eq-eqb (length st) 4096 size, state, range, turn, source, le-leb (start_of r + length o.bytes) 4096 room)

accepts_all : (r : Receiver) (st : List ℕ) (o : Operation) → Acceptable r st o → receive_refusal r st o ≡ 0
unfolding state_allowed in_turn is_expected start_of Follows starts
accepts_all None st o h =
    passes_all None st o h.size refl (range_of o.sender o.aid (length o.bytes) h.sender h.aid h.least h.most)
    (⊎_elim (λ (q : o.sequence ≡ Single). rw q) (λ (q : o.sequence ≡ First). rw q) h.follows)
    refl
    (let m = h.most in omega arith)
accepts_all (Some m) st o h =
    let s = m.source.sender in
    let a = m.source.aid in
    let n = m.count in
    let f : ((o.sequence ≡ Middle) ⊎ (o.sequence ≡ Last)) × (o.sender ≡ s) × (o.aid ≡ a) × (1 ≤ n) × (n + length o.bytes ≤ 4096) = h.follows in
    let u = h.sender in
    let v = h.aid in
    passes_all (Some m) st o h.size
    (rw (source_true s a (omega arith) (omega arith), le-leb 1 n f.3, le-leb n 4096 (omega arith)))
    (range_of o.sender o.aid (length o.bytes) h.sender h.aid h.least h.most)
    (⊎_elim (λ (q : o.sequence ≡ Middle). rw q) (λ (q : o.sequence ≡ Last). rw q) f.0)
    ((and-eq-true_iff (eqb o.sender s) (eqb o.aid a)).1 (eq-eqb o.sender s f.1, eq-eqb o.aid a f.2))
    f.4

starting : (q : Sequence) → starts q ≡ true → (q ≡ Single) ⊎ (q ≡ First)
unfolding starts
starting Single e = inl refl
starting First e = inr refl
starting Middle e = absurd (false≢true e)
starting Last e = absurd (false≢true e)

continues : (q : Sequence) → starts q ≡ false → (q ≡ Middle) ⊎ (q ≡ Last)
unfolding starts
continues Single e = absurd (false≢true (sym e))
continues First e = absurd (false≢true (sym e))
continues Middle e = inl refl
continues Last e = inr refl

follows : (r : Receiver) (o : Operation) → state_allowed r ≡ true → in_turn r o.sequence ≡ true → is_expected r o.sender o.aid ≡ true
    → start_of r + length o.bytes ≤ 4096 → Follows r o
unfolding state_allowed in_turn is_expected start_of Follows
follows None o state turn source room = starting o.sequence turn
follows (Some m) o state turn source room =
    let s = m.source.sender in
    let a = m.source.aid in
    let n = m.count in
    let t : (is_source s a ≡ true) × ((leb 1 n && leb n 4096) ≡ true) = (and-eq-true_iff (is_source s a) (leb 1 n && leb n 4096)).0 state in
    let u : (leb 1 n ≡ true) × (leb n 4096 ≡ true) = (and-eq-true_iff (leb 1 n) (leb n 4096)).0 t.1 in
    let v : (eqb o.sender s ≡ true) × (eqb o.aid a ≡ true) = (and-eq-true_iff (eqb o.sender s) (eqb o.aid a)).0 source in
    (continues o.sequence (not-true _ turn), eqb-true o.sender s v.0, eqb-true o.aid a v.1, leb-true 1 n u.0, room)

accepts_only : (r : Receiver) (st : List ℕ) (o : Operation) → receive_refusal r st o ≡ 0 → Acceptable r st o
unfolding in_range
accepts_only r st o e =
    let p = accepted_tests r st o e in
    let f : (is_source o.sender o.aid ≡ true) × ((leb 1 (length o.bytes) && leb (length o.bytes) 256) ≡ true) = (and-eq-true_iff (is_source o.sender o.aid) _).0 p.range in
    let l : (leb 1 (length o.bytes) ≡ true) × (leb (length o.bytes) 256 ≡ true) = (and-eq-true_iff (leb 1 (length o.bytes)) _).0 f.1 in
    let w : (o.sender ≤ 7) × (o.aid ≤ 255) = source_within o.sender o.aid f.0 in
    record {
      size = p.size;
      sender = w.0;
      aid = w.1;
      least = leb-true 1 (length o.bytes) l.0;
      most = leb-true (length o.bytes) 256 l.1;
      follows = follows r o p.state p.turn p.source p.room;
    }

pub accepts_exactly : (r : Receiver) (st : List ℕ) (o : Operation) → AcceptsExactly r st o
accepts_exactly r st o = record { all = accepts_all r st o; only = accepts_only r st o }

-- ---- the answer

pub accepted_answer : (r : Receiver) (st : List ℕ) (o : Operation) → receive_refusal r st o ≡ 0
    → receipt r st o ≡ taken o.sequence o.sender o.aid (start_of r + length o.bytes)
unfolding receipt accepts
accepted_answer r st o h = rw (eq-eqb (receive_refusal r st o) 0 h)

pub accepted_store : (r : Receiver) (st : List ℕ) (o : Operation) → receive_refusal r st o ≡ 0
    → store_after r st o ≡ sets st (start_of r) o.bytes
unfolding store_after accepts
accepted_store r st o h = rw (eq-eqb (receive_refusal r st o) 0 h)

-- "A refusal keeps the receiver's state and store."
pub refused_answer : (r : Receiver) (st : List ℕ) (o : Operation) → receive_refusal r st o ≢ 0
    → receipt r st o ≡ refused (receive_refusal r st o) r
unfolding receipt accepts
refused_answer r st o h = rw (ne_eqb (receive_refusal r st o) 0 h)

pub refused_store : (r : Receiver) (st : List ℕ) (o : Operation) → receive_refusal r st o ≢ 0 → store_after r st o ≡ st
unfolding store_after accepts
refused_store r st o h = rw (ne_eqb (receive_refusal r st o) 0 h)

zero_or_not : (n : ℕ) → (n ≡ 0) ⊎ (n ≢ 0)
zero_or_not n = go (eqb n 0) refl
  where
    go : (t : Bool) → eqb n 0 ≡ t → (n ≡ 0) ⊎ (n ≢ 0)
    go true e = inl (eqb-true n 0 e)
    go false e = inr (eqb-false n 0 e)

-- the number in the answer is the number of the refusal
taken_accepted : (q : Sequence) (s a n : ℕ) → (taken q s a n).refusal ≡ 0
unfolding taken
taken_accepted q s a n = go (ends q)
  where
    go : (t : Bool) → (cond {A = Receipt} t (record { refusal = 0; receiver = None; completion = Some (brought s a n) }) (record { refusal = 0; receiver = Some (brought s a n); completion = None })).refusal ≡ 0
    go true = refl
    go false = refl

pub answer_refusal : (r : Receiver) (st : List ℕ) (o : Operation) → (receipt r st o).refusal ≡ receive_refusal r st o
unfolding refused
answer_refusal r st o = ⊎_elim
    (λ (e : receive_refusal r st o ≡ 0). ap (λ (x : Receipt). x.refusal) (accepted_answer r st o e) ∙ taken_accepted o.sequence o.sender o.aid _ ∙ sym e)
    (λ (h : receive_refusal r st o ≢ 0). ap (λ (x : Receipt). x.refusal) (refused_answer r st o h))
    (zero_or_not (receive_refusal r st o))

-- from a receiver that is not refused with 10 only such receivers follow
taken_allowed : (q : Sequence) (s a n : ℕ) → is_source s a ≡ true → 1 ≤ n → n ≤ 4096 → state_allowed (taken q s a n).receiver ≡ true
unfolding taken state_allowed
taken_allowed q s a n e l m = go (ends q) refl
  where
    go : (t : Bool) → ends q ≡ t → state_allowed (taken q s a n).receiver ≡ true
    go true k = rw k
    go false k = rw (k, e, le-leb 1 n l, le-leb n 4096 m)

pub stays_allowed : (r : Receiver) (st : List ℕ) (o : Operation) → state_allowed r ≡ true → state_allowed (receipt r st o).receiver ≡ true
unfolding refused
stays_allowed r st o h = ⊎_elim on (λ (n : receive_refusal r st o ≢ 0). rw (refused_answer r st o n) h) (zero_or_not (receive_refusal r st o))
  where
    on : receive_refusal r st o ≡ 0 → state_allowed (receipt r st o).receiver ≡ true
    on e =
        let a = accepts_only r st o e in
        let p = accepted_tests r st o e in
        let l = a.least in
        rw (accepted_answer r st o e) (taken_allowed o.sequence o.sender o.aid (start_of r + length o.bytes) (source_true o.sender o.aid a.sender a.aid) (omega arith) p.room)

-- what it tells, and the receiver that it leaves

completed : (q : Sequence) (s a n : ℕ) → (q ≡ Single) ⊎ (q ≡ Last)
    → (completion_told (taken q s a n).completion ≡ s ∷ a ∷ n ∷ []) × ((taken q s a n).receiver ≡ None)
unfolding taken ends completion_told
completed q s a n = ⊎_elim (λ (e : q ≡ Single). rw e (refl, refl)) (λ (e : q ≡ Last). rw e (refl, refl))

left_pending : (q : Sequence) (s a n : ℕ) → (q ≡ First) ⊎ (q ≡ Middle)
    → (completion_told (taken q s a n).completion ≡ []) × ((taken q s a n).receiver ≡ Some (brought s a n))
unfolding taken ends completion_told
left_pending q s a n = ⊎_elim (λ (e : q ≡ First). rw e (refl, refl)) (λ (e : q ≡ Middle). rw e (refl, refl))

pub accepted_tells : (r : Receiver) (st : List ℕ) (o : Operation) → AcceptedTells r st o
accepted_tells r st o = record {
  complete = λ e h. rw (accepted_answer r st o e) (completed o.sequence o.sender o.aid (start_of r + length o.bytes) h);
  pending = λ e h. rw (accepted_answer r st o e) (left_pending o.sequence o.sender o.aid (start_of r + length o.bytes) h);
}

-- while a message is being received, an operation in range of another sender or with another AID gets 12 where it would start one, and else 11
pub other_refused : (s a n : ℕ) (st : List ℕ) (o : Operation)
    → length st ≡ 4096 → state_allowed (Some (brought s a n)) ≡ true → in_range o.sender o.aid (length o.bytes) ≡ true
    → is_expected (Some (brought s a n)) o.sender o.aid ≡ false → receive_refusal (Some (brought s a n)) st o ≡ cond (starts o.sequence) 12 11
unfolding in_turn
other_refused s a n st o size state range source =
    rw (receive_tests (Some (brought s a n)) st o, eq-eqb (length st) 4096 size, state, range, source) (turn (starts o.sequence))
  where
    turn : (t : Bool) → ◌≡◌ {A = ℕ} (cond (not t) (cond false (cond (leb (start_of (Some (brought s a n)) + length o.bytes) 4096) 0 9) 11) 12) (cond t 12 11)
    turn true = refl
    turn false = refl

-- ---- refused operations, in the paper's own numbers

pub refused_keeps : (r : Receiver) (st : List ℕ) (o : Operation) → RefusedKeeps r st o
unfolding refused completion_told
refused_keeps r st o = record { told = λ h. ap (λ (x : Receipt). completion_told x.completion) (refused_answer r st o h); answer = refused_answer r st o; kept = refused_store r st o }
