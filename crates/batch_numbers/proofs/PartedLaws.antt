-- One part of a list keeps `run_part`'s promise.
use Prim.Native.Nat.{ℕ, ◌+◌, ◌-◌, ◌*◌, ◌≤◌, ◌<◌, min}
use native.Mathlib.Omega.{arith}
use mathlib.Core.Path.{◌≡◌, refl, ap, sym, ◌∙◌}
use mathlib.Core.Bool.{Bool, true, false, cond}
use mathlib.Core.List.{List, ◌++◌, append-nil}
use lib.Dec.{eqb, ltb}
use lib.ListN.{length, take, drop, length-drop, drop_of_length-le as drop_all}
use lib.Seq.{take_all}
use borrow.Author.Tests.{eqb-true, eqb-false, ltb-true, ltb-false}
use Rattle.batch_rules.specs.declared.Access.{Access}
use Rattle.batch_rules.specs.Outcome.{Outcome}
use Rattle.batch_rules.specs.Batch.{Batch, batch, ran, none, batch_result}
use Rattle.batch_rules.specs.Split.{joined}
use Rattle.batch_rules.specs.Numbers.{count_of, known, unknown, refused_by, ran_numbers}
use Rattle.batch_rules.proofs.RanLaws.{ran_still}
use Rattle.batch_rules.proofs.SplitLaws.{ran_split, ran_shift, fits_result, ran_index, ran_orders, ran_whole}
use Rattle.batch_rules.proofs.NumbersLaws.{known_few, refused_still, refused_none, numbers_still}
use Rattle.batch_numbers.specs.Part.{Room, Parted}
use Rattle.batch_numbers.proofs.PartLaws.{Whole, known_whole, Cut, known_cut}

below : (a b : ℕ) → a ≤ b → (a ≡ b → ⊥) → a < b
below a b h e = go (ltb a b) refl
  where
    go : (t : Bool) → ltb a b ≡ t → a < b
    go true f = ltb-true a b f
    go false f = absurd (e (let l = ltb-false a b f in omega (arith, h, l)))

module _ (s : Outcome) (ns vs m k : List ℕ) (room : Room s ns (length vs)) (most count : ℕ) (list : List Access) (p : Outcome) (vs'' m' k' : List ℕ)
    (em : most ≡ min (count_of ns - s.index) 64) (el : (take count list ≡ known ns s.index most) × (count ≡ length (known ns s.index most)))
    (er : batch p vs'' m' k' ≡ batch_result (take count list) (take (length vs - s.index) (drop s.index vs)) s.directory m k) where
  abbrev i : ℕ
  i = s.index

  abbrev n : ℕ
  n = count_of ns

  abbrev l : List Access
  l = known ns i most

  fresh : s.refusal ≡ 0
  unfolding Room
  fresh = room.0

  bounds : (i < n) × (n ≤ length vs) × (n ≤ 65536) × (s.orders ≤ 4 * i)
  unfolding Room
  bounds = (room.1, room.2, room.3, room.4)

  mosts : (0 < most) × (most ≤ 64) × (most ≤ n - i)
  mosts = (omega (arith, em, bounds), omega (arith, em), omega (arith, em))

  few : length l ≤ most
  few = known_few ns i most

  taken : take count list ≡ l
  taken = el.0

  ec : count ≡ length l
  ec = el.1

  -- the part by itself
  abbrev alone : Batch
  alone = ran (none 0 s.directory) (drop i vs) m k l

  dropped : length (drop i vs) + i ≡ length vs
  dropped = simp length-drop (omega (arith, bounds))

  lent : take (length vs - i) (drop i vs) ≡ drop i vs
  lent = take_all (length vs - i) (drop i vs) (omega (arith, dropped))

  part_is : batch p vs'' m' k' ≡ alone
  part_is =
      er
      ∙ ap (λ (x : List ℕ). batch_result (take count list) x s.directory m k) lent
      ∙ ap (λ (x : List Access). batch_result x (drop i vs) s.directory m k) taken
      ∙ fits_result l (drop i vs) s.directory m k (omega (arith, few, mosts)) (omega (arith, few, mosts, bounds, dropped))

  outcome_is : p ≡ alone.outcome
  outcome_is = ap (λ (w : Batch). w.outcome) part_is

  pub part_index : (p.index ≤ length l) × (p.orders ≤ 4 * p.index)
  part_index = rw outcome_is (ran_index (drop i vs) s.directory m k l, ran_orders (drop i vs) s.directory m k l)

  pub part_fits : (i + p.index ≤ 65536) × (s.orders + p.orders ≤ 262144)
  part_fits = (omega (arith, part_index, few, mosts, bounds), omega (arith, part_index, few, mosts, bounds))

  whole : p.refusal ≡ 0 → p.index ≡ length l
  whole e = ap (λ (x : Outcome). x.index) outcome_is ∙ ran_whole (drop i vs) s.directory m k l (ap (λ (x : Outcome). x.refusal) (sym outcome_is) ∙ e)

  -- the part after what came before it
  abbrev o : Outcome
  o = record { refusal = p.refusal; index = i + p.index; orders = s.orders + p.orders; directory = p.directory }

  -- the values, with the part of their space that was lent put back
  abbrev v : List ℕ
  v = take i vs ++ (vs'' ++ drop (length vs - i) (drop i vs))

  back : take i vs ++ vs'' ≡ v
  back = ap (λ (x : List ℕ). take i vs ++ x) (sym (ap (λ (x : List ℕ). vs'' ++ x) (drop_all (drop i vs) {i = length vs - i} (omega (arith, dropped))) ∙ append-nil vs''))

  ran_part : ran s vs m k l ≡ batch o v m' k'
  unfolding joined
  ran_part = ran_shift s vs m k l fresh (omega (arith, few, mosts, bounds)) ∙ ap (joined (batch s vs m k)) (sym part_is) ∙ ap (λ (x : List ℕ). batch o x m' k') back

  abbrev left : ℕ
  left = n - i - most

  split : n - i ≡ most + left
  split = omega (arith, mosts)

  -- the outcome and the spaces of a batch, refused by a number
  abbrev ended : ℕ → Batch → Batch
  ended x w = batch (refused_by x w.outcome) w.values w.memory w.cache

  -- all accesses of the part are of known kind
  rest_whole : count ≡ most → ran_numbers s vs m k ns ≡ ran_numbers o v m' k' ns
  unfolding ran_numbers
  rest_whole e =
      let w : Whole ns i most left = known_whole ns i most left (sym ec ∙ e) in
      rw (split, w.accesses, w.refusal, ran_split l (known ns (i + most) left) s vs m k, ran_part) (go (eqb p.refusal 0) refl)
    where
      go : (t : Bool) → eqb p.refusal 0 ≡ t
          → ended (unknown ns (i + most) left) (ran o v m' k' (known ns (i + most) left))
          ≡ ended (unknown ns o.index (n - o.index)) (ran o v m' k' (known ns o.index (n - o.index)))
      go true f =
          let j : o.index ≡ i + most = ap (λ (x : ℕ). i + x) (whole (eqb-true _ _ f) ∙ sym ec ∙ e) in
          let h : n - o.index ≡ left = omega (arith, j, mosts) in
          rw (h, j) refl
      go false f =
          let h : o.refusal ≡ 0 → ⊥ = eqb-false _ _ f in
          rw (ran_still o v m' k' (known ns (i + most) left) h, ran_still o v m' k' (known ns o.index (n - o.index)) h)
          (ap (λ (x : Outcome). batch x v m' k') (refused_still _ o h ∙ sym (refused_still _ o h)))

  refused : (refused_by 7 o).refusal ≡ 0 → ⊥
  unfolding refused_by
  refused = go (eqb p.refusal 0) refl
    where
      go : (t : Bool) → eqb p.refusal 0 ≡ t → cond t 7 p.refusal ≡ 0 → ⊥
      go true f z = omega (arith, z)
      go false f z = eqb-false _ _ f z

  -- one of them is not
  ended_cut : (count ≡ most → ⊥) → ran_numbers s vs m k ns ≡ batch (refused_by 7 o) v m' k'
  unfolding ran_numbers
  ended_cut e =
      let w : Cut ns i most left = known_cut ns i most left (below (length l) most few (λ z. e (ec ∙ z))) in
      rw (split, w.accesses, w.refusal, ran_part) refl

  rest_cut : (count ≡ most → ⊥) → ran_numbers s vs m k ns ≡ ran_numbers (refused_by 7 o) v m' k' ns
  rest_cut e = ended_cut e ∙ sym (numbers_still (refused_by 7 o) v m' k' ns refused)

  pub parted : Parted s ns vs m k (refused_by (cond (eqb count most) 0 7) o) v m' k'
  parted = go (eqb count most) refl
    where
      go : (t : Bool) → eqb count most ≡ t → Parted s ns vs m k (refused_by (cond t 0 7) o) v m' k'
      go true e =
          let c : count ≡ most = eqb-true _ _ e in
          rw (refused_none o)
          (record {
            rest = rest_whole c;
            goes = λ z.
                let j : p.index ≡ most = whole z ∙ sym ec ∙ c in
                (omega (arith, j, mosts), omega (arith, j, mosts), omega (arith, part_index, bounds));
          })
      go false e = record { rest = rest_cut (eqb-false _ _ e); goes = λ z. absurd (refused z) }
