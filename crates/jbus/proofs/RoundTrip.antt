-- Which cycles are read and which numbers are written, and that reading and writing undo each other.
use Prim.Native.Nat.{ℕ, ◌%◌, ◌^◌, ◌<◌, ◌≤◌}
use mathlib.Core.Path.{◌≡◌, refl, sym, ap, ◌∙◌}
use mathlib.Core.Bool.{Bool, true, false, cond, ◌&&◌, and-eq-true_iff}
use Rattle.std.specs.Prelude.{Ok, Err}
use Rattle.order.specs.declared.Refusal.TheVariants.{UnknownKind, FieldRange, HalvesDiffer}
use lib.Dec.{eqb, leb}
use borrow.Author.Tests.{eqb-true, eq-eqb, leb-true, le-leb}
use Rattle.jbus.specs.declared.interrupt.AddressCycle.{AddressCycle}
use Rattle.jbus.specs.declared.interrupt.Interrupt.{Interrupt}
use Rattle.jbus.specs.Device.{device_of}
use Rattle.jbus.specs.Interrupt.{transaction_of, reserved_of, target_of, agent_of, low_reserved_of, interrupt_of, interrupt_read, read_told, cycle_of, cycle_written, written_told}
use Rattle.jbus.specs.RoundTrip.{Readable, ReadsExactly, WritesExactly, cleared, RoundTrip}
use Rattle.jbus.proofs.InterruptLaws.{read_first, write_first, half_read, read_tests, write_tests, readable_written, interrupt_written, half_small, target_small, agent_small, half_of_fields, half_cleared}

through : {A B : Type 0} (f : A → B) (b : Bool) (x y : A) → f (cond b x y) ≡ cond b (f x) (f y)
through f true x y = refl
through f false x y = refl

-- ---- reading

reads_equal : (c : AddressCycle) → c.upper ≡ c.lower → interrupt_read c ≡ half_read c.lower
reads_equal c e = read_tests c ∙ rw (eq-eqb c.upper c.lower e)

reads_all : (c : AddressCycle) → Readable c → interrupt_read c ≡ Ok (interrupt_of c.lower)
unfolding half_read
reads_all c r = reads_equal c r.equal ∙ rw (eq-eqb _ _ r.transaction, eq-eqb _ _ r.reserved, eq-eqb _ _ r.low_reserved)

reads_only : (c : AddressCycle) (i : Interrupt) → interrupt_read c ≡ Ok i → Readable c
unfolding half_read
reads_only c i e =
    on (eqb c.upper c.lower) refl (eqb (transaction_of c.lower) 0x14) refl
    (eqb (reserved_of c.lower) 0 && eqb (low_reserved_of c.lower) 0) refl (sym (read_tests c) ∙ e)
  where
    on : (h : Bool) → eqb c.upper c.lower ≡ h
        → (t : Bool) → eqb (transaction_of c.lower) 0x14 ≡ t
        → (z : Bool) → (eqb (reserved_of c.lower) 0 && eqb (low_reserved_of c.lower) 0) ≡ z
        → cond h (cond t (cond z (Ok (interrupt_of c.lower)) (Err FieldRange)) (Err UnknownKind)) (Err HalvesDiffer) ≡ Ok i
        → Readable c
    on true eh true et true ez q =
        let zeros : (eqb (reserved_of c.lower) 0 ≡ true) × (eqb (low_reserved_of c.lower) 0 ≡ true) = (and-eq-true_iff _ _).0 ez in
        record { equal = eqb-true _ _ eh; transaction = eqb-true _ _ et; reserved = eqb-true _ _ zeros.0; low_reserved = eqb-true _ _ zeros.1 }
    on true eh true et false ez q = cc
    on true eh false et z ez q = cc
    on false eh t et z ez q = cc

pub reads_exactly : (c : AddressCycle) → ReadsExactly c
unfolding read_told interrupt_of half_read
reads_exactly c = record { all = reads_all c; only = reads_only c; first = read_first c; told = ap read_told (read_tests c) ∙ simp (through read_told) }

-- ---- writing

module _ (t a : ℕ) where
  writes_all : t ≤ 31 → a ≤ 31 → cycle_written t a ≡ Ok (cycle_of t a)
  writes_all ht ha = write_tests t a ∙ rw (le-leb t 31 ht, le-leb a 31 ha)

  writes_only : (c : AddressCycle) → cycle_written t a ≡ Ok c → (t ≤ 31) × (a ≤ 31)
  writes_only c e = on (leb t 31 && leb a 31) refl (sym (write_tests t a) ∙ e)
    where
      on : (b : Bool) → (leb t 31 && leb a 31) ≡ b → cond b (Ok (cycle_of t a)) (Err FieldRange) ≡ Ok c → (t ≤ 31) × (a ≤ 31)
      on true eb q =
          let both : (leb t 31 ≡ true) × (leb a 31 ≡ true) = (and-eq-true_iff _ _).0 eb in
          (leb-true t 31 both.0, leb-true a 31 both.1)
      on false eb q = cc

  pub writes_exactly : WritesExactly t a
  unfolding written_told cycle_of
  writes_exactly = record { all = writes_all; only = writes_only; first = write_first t a; told = ap written_told (write_tests t a) ∙ simp (through written_told) }

-- ---- reading what was written

module _ (t a : ℕ) (c : AddressCycle) (e : cycle_written t a ≡ Ok c) where
  in_range_lem : (t ≤ 31) × (a ≤ 31)
  in_range_lem = writes_only t a c e

  its_cycle : c ≡ cycle_of t a
  its_cycle = let whole : cycle_written t a ≡ Ok (cycle_of t a) = writes_all t a in_range_lem.0 in_range_lem.1 in cc

  back : interrupt_read c ≡ Ok (record { target = t; agent = a; device = device_of a })
  unfolding cycle_of
  back =
      ap interrupt_read its_cycle
      ∙ reads_all (cycle_of t a) (readable_written t a in_range_lem.0 in_range_lem.1)
      ∙ ap Ok (interrupt_written t a in_range_lem.0 in_range_lem.1)

  well_formed_lem : (c.upper ≡ c.lower) × (c.lower < 2 ^ 48)
  unfolding cycle_of
  well_formed_lem = rw its_cycle (refl, half_small t a in_range_lem.0 in_range_lem.1)

-- ---- writing what was read

forth : (c : AddressCycle) (i : Interrupt) → interrupt_read c ≡ Ok i → cycle_written i.target i.agent ≡ Ok (cleared c)
unfolding interrupt_of cycle_of cleared
forth c i e =
    let r : Readable c = reads_only c i e in
    let whole : interrupt_read c ≡ Ok (interrupt_of c.lower) = reads_all c r in
    let its : i ≡ interrupt_of c.lower = cc in
    rw its
    (writes_all (target_of c.lower) (agent_of c.lower) (target_small c.lower) (agent_small c.lower)
    ∙ rw (r.equal, half_of_fields c.lower r.transaction r.reserved r.low_reserved))

ignored : (c : AddressCycle) → c.upper ≡ c.lower → interrupt_read (cleared c) ≡ interrupt_read c
unfolding cleared
ignored c e = reads_equal (cleared c) (ap (λ (w : ℕ). w % 2 ^ 48) e) ∙ half_cleared c.lower ∙ sym (reads_equal c e)

pub round_trip : RoundTrip
round_trip = record { back = back; forth = forth; well_formed = well_formed_lem; ignored = ignored }
