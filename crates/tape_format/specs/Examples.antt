-- Records in their bytes, both ways: each kind with fields that differ from one another, so that none can stand for another; an order with each command, each
-- flag as 0 and as 1. Then each field at its limit and one above it, and the other refusals, with their places.
use Rattle.std.specs.Prelude.{ℕ, ◌≡◌, Bool, true, false, Some, Ok, Err, List, [], ◌∷◌, ◌++◌, map, length, replicate}
use Rattle.order.specs.declared.Command.{Command}
use Rattle.order.specs.declared.Refusal.TheVariants as why
use Rattle.order.specs.declared.Command.TheVariants.{Read, ModifiedRead, Invalidate, Copyback, MemoryWrite}
use Rattle.number.specs.Number.{Told}
use Rattle.tape_format.specs.declared.Record.{Record}
use Rattle.tape_format.specs.declared.Record.TheVariants as rec
use Rattle.tape_format.specs.Record.{record_at, record_told}
use Rattle.tape_format.specs.Write.{written_of, space_after}
use Rattle.tape_format.specs.Size.{size_told}

-- the bytes are read as the record, the record takes so many, and it is written as the bytes
unfoldable pub Spelled : List ℕ → Record → Type 0
Spelled bytes r =
    (record_at bytes 0 ≡ Ok (Some (r, length bytes)))
    × (size_told r ≡ Ok (length bytes))
    × (written_of r (length bytes) ≡ Ok (length bytes))
    × (space_after r (replicate (length bytes) 0) ≡ bytes)

unfoldable pub ordered : ℕ → Command → ℕ → Bool → Record
ordered unit command block retried = rec.Order (record { unit = unit; command = command; block = block; retried = retried })

-- reading from the first byte on, in document 01's numbers
unfoldable pub told_of : List ℕ → Told
told_of bytes = record_told 0 (record_at bytes 0)

unfoldable pub refused_at : ℕ → ℕ → Told
refused_at number place = record { refusal = number; place = place; numbers = [] }

-- 4,294,967,296, which is 2^32
unfoldable pub two_to32 : List ℕ
two_to32 = 0x80 ∷ 0x80 ∷ 0x80 ∷ 0x80 ∷ 0x10 ∷ []

pub record Examples : Type 0 where
  pub kind0 : Spelled (0x00 ∷ 0x01 ∷ 0x48 ∷ []) (rec.Load 1 72)
  pub kind1 : Spelled (0x01 ∷ 0x02 ∷ 0x48 ∷ 0xAC ∷ 0x02 ∷ []) (rec.Store 2 72 300)
  pub kind2 : Spelled (0x02 ∷ 0x03 ∷ 0x3F ∷ []) (rec.Flush 3 63)
  pub kind3 : Spelled (0x03 ∷ 0x02 ∷ 0x00 ∷ 0x28 ∷ 0x01 ∷ []) (ordered 2 Read 40 true)
  pub not_retried : Spelled (0x03 ∷ 0x02 ∷ 0x01 ∷ 0x28 ∷ 0x00 ∷ []) (ordered 2 ModifiedRead 40 false)
  pub modified_read : Spelled (0x03 ∷ 0x00 ∷ 0x01 ∷ 0x28 ∷ 0x01 ∷ []) (ordered 0 ModifiedRead 40 true)
  pub invalidate : Spelled (0x03 ∷ 0x01 ∷ 0x02 ∷ 0x28 ∷ 0x00 ∷ []) (ordered 1 Invalidate 40 false)
  pub copyback : Spelled (0x03 ∷ 0x02 ∷ 0x03 ∷ 0x28 ∷ 0x00 ∷ []) (ordered 2 Copyback 40 false)
  pub memory_write : Spelled (0x03 ∷ 0x01 ∷ 0x04 ∷ 0x28 ∷ 0x00 ∷ []) (ordered 1 MemoryWrite 40 false)
  pub write_retried : Spelled (0x03 ∷ 0x01 ∷ 0x04 ∷ 0x28 ∷ 0x01 ∷ []) (ordered 1 MemoryWrite 40 true)
  pub kind4 : Spelled (0x04 ∷ 0x01 ∷ 0x02 ∷ 0xC8 ∷ 0x01 ∷ 0x83 ∷ 0x01 ∷ []) (rec.Answer 1 2 200 131)
  pub kind5 : Spelled (0x05 ∷ 0x07 ∷ 0x06 ∷ 0x09 ∷ 0x01 ∷ 0xAC ∷ 0x02 ∷ 0x04 ∷ []) (rec.Register 7 6 9 true 300 4)
  pub register_read : Spelled (0x05 ∷ 0x01 ∷ 0x03 ∷ 0x09 ∷ 0x00 ∷ 0xAC ∷ 0x02 ∷ 0x04 ∷ []) (rec.Register 1 3 9 false 300 4)
  pub kind6 : Spelled (0x06 ∷ 0x03 ∷ 0xAC ∷ 0x02 ∷ []) (rec.Loaded 3 300)
  pub kind8 : Spelled (0x08 ∷ 0xAC ∷ 0x02 ∷ []) (rec.Stamp 300)
  pub most8 : Spelled (0x08 ∷ replicate 9 0xFF ++ (0x01 ∷ [])) (rec.Stamp 0xFFFF_FFFF_FFFF_FFFF)
  -- each field at its limit
  pub limits :
      map (λ bytes. (told_of bytes).refusal)
      ((0x00 ∷ 0x03 ∷ 0xFC ∷ 0x0F ∷ [])
      ∷ (0x01 ∷ 0x03 ∷ 0xFC ∷ 0x0F ∷ 0xFF ∷ 0xFF ∷ 0xFF ∷ 0xFF ∷ 0x0F ∷ [])
      ∷ (0x02 ∷ 0x03 ∷ 0x3F ∷ [])
      ∷ (0x03 ∷ 0x03 ∷ 0x01 ∷ 0x3F ∷ 0x01 ∷ [])
      ∷ (0x03 ∷ 0x03 ∷ 0x03 ∷ 0x3F ∷ 0x00 ∷ [])
      ∷ (0x03 ∷ 0x03 ∷ 0x04 ∷ 0x3F ∷ 0x01 ∷ [])
      ∷ (0x04 ∷ 0x07 ∷ 0x06 ∷ 0xFF ∷ 0x01 ∷ 0xFF ∷ 0x01 ∷ [])
      ∷ (0x05 ∷ 0x06 ∷ 0x07 ∷ 0xFF ∷ 0x01 ∷ 0x01 ∷ 0xFF ∷ 0xFF ∷ 0xFF ∷ 0xFF ∷ 0x0F ∷ 0x07 ∷ [])
      ∷ (0x06 ∷ 0x03 ∷ 0xFF ∷ 0xFF ∷ 0xFF ∷ 0xFF ∷ 0x0F ∷ [])
      ∷ [])
      ≡ replicate 9 0
  -- and one above it, field by field: refusal 8 "where the refused number starts". Unit, address (and one that is no multiple of 4)
  pub above0 : map told_of ((0x00 ∷ 0x04 ∷ 0x00 ∷ []) ∷ (0x00 ∷ 0x00 ∷ 0x80 ∷ 0x10 ∷ []) ∷ (0x00 ∷ 0x00 ∷ 0x02 ∷ []) ∷ []) ≡ map (refused_at 8) (1 ∷ 2 ∷ 2 ∷ [])
  pub above1 : map told_of ((0x01 ∷ 0x04 ∷ 0x00 ∷ 0x00 ∷ []) ∷ (0x01 ∷ 0x00 ∷ 0x80 ∷ 0x10 ∷ 0x00 ∷ []) ∷ (0x01 ∷ 0x00 ∷ 0x02 ∷ 0x00 ∷ []) ∷ []) ≡ map (refused_at 8) (1 ∷ 2 ∷ 2 ∷ [])
  -- unit, block
  pub above2 : map told_of ((0x02 ∷ 0x04 ∷ 0x00 ∷ []) ∷ (0x02 ∷ 0x00 ∷ 0x40 ∷ []) ∷ []) ≡ map (refused_at 8) (1 ∷ 2 ∷ [])
  -- unit, command, block, retried; and "the later if two clash": an invalidate, and a copyback, that was retried
  pub above3 :
      map told_of
      ((0x03 ∷ 0x04 ∷ 0x00 ∷ 0x00 ∷ 0x00 ∷ [])
      ∷ (0x03 ∷ 0x00 ∷ 0x05 ∷ 0x00 ∷ 0x00 ∷ [])
      ∷ (0x03 ∷ 0x00 ∷ 0x00 ∷ 0x40 ∷ 0x00 ∷ [])
      ∷ (0x03 ∷ 0x00 ∷ 0x00 ∷ 0x00 ∷ 0x02 ∷ [])
      ∷ (0x03 ∷ 0x00 ∷ 0x02 ∷ 0x00 ∷ 0x01 ∷ [])
      ∷ (0x03 ∷ 0x00 ∷ 0x03 ∷ 0x00 ∷ 0x01 ∷ [])
      ∷ (0x03 ∷ 0x00 ∷ 0x04 ∷ 0x00 ∷ 0x02 ∷ [])
      ∷ [])
      ≡ map (refused_at 8) (1 ∷ 2 ∷ 3 ∷ 4 ∷ 4 ∷ 4 ∷ 4 ∷ [])
  -- from, to, a `to` that clashes with `from`, AID, code
  pub above4 :
      map told_of
      ((0x04 ∷ 0x08 ∷ 0x00 ∷ 0x00 ∷ 0x00 ∷ [])
      ∷ (0x04 ∷ 0x00 ∷ 0x08 ∷ 0x00 ∷ 0x00 ∷ [])
      ∷ (0x04 ∷ 0x05 ∷ 0x05 ∷ 0x00 ∷ 0x00 ∷ [])
      ∷ (0x04 ∷ 0x00 ∷ 0x01 ∷ 0x80 ∷ 0x02 ∷ 0x00 ∷ [])
      ∷ (0x04 ∷ 0x00 ∷ 0x01 ∷ 0x00 ∷ 0x80 ∷ 0x02 ∷ [])
      ∷ [])
      ≡ map (refused_at 8) (1 ∷ 2 ∷ 2 ∷ 3 ∷ 4 ∷ [])
  -- from, to, a `to` that clashes with `from`, AID, write, BCT
  pub above5 :
      map told_of
      ((0x05 ∷ 0x08 ∷ 0x00 ∷ 0x00 ∷ 0x00 ∷ 0x00 ∷ 0x00 ∷ [])
      ∷ (0x05 ∷ 0x00 ∷ 0x08 ∷ 0x00 ∷ 0x00 ∷ 0x00 ∷ 0x00 ∷ [])
      ∷ (0x05 ∷ 0x05 ∷ 0x05 ∷ 0x00 ∷ 0x00 ∷ 0x00 ∷ 0x00 ∷ [])
      ∷ (0x05 ∷ 0x00 ∷ 0x01 ∷ 0x80 ∷ 0x02 ∷ 0x00 ∷ 0x00 ∷ 0x00 ∷ [])
      ∷ (0x05 ∷ 0x00 ∷ 0x01 ∷ 0x00 ∷ 0x02 ∷ 0x00 ∷ 0x00 ∷ [])
      ∷ (0x05 ∷ 0x00 ∷ 0x01 ∷ 0x00 ∷ 0x00 ∷ 0x00 ∷ 0x08 ∷ [])
      ∷ [])
      ≡ map (refused_at 8) (1 ∷ 2 ∷ 2 ∷ 3 ∷ 4 ∷ 6 ∷ [])
  -- unit
  pub above6 : told_of (0x06 ∷ 0x04 ∷ 0x00 ∷ []) ≡ refused_at 8 1
  -- "a well-spelled number above 2^32 - 1 is now refusal 8 in every older field": 2^32 as each field of the seven kinds, after fields of 0 (a `to` of 1)
  pub long :
      map told_of
      (map (λ before. before ++ two_to32)
      ((0x00 ∷ []) ∷ (0x00 ∷ 0x00 ∷ [])
      ∷ (0x01 ∷ []) ∷ (0x01 ∷ 0x00 ∷ []) ∷ (0x01 ∷ 0x00 ∷ 0x00 ∷ [])
      ∷ (0x02 ∷ []) ∷ (0x02 ∷ 0x00 ∷ [])
      ∷ (0x03 ∷ []) ∷ (0x03 ∷ 0x00 ∷ []) ∷ (0x03 ∷ 0x00 ∷ 0x00 ∷ []) ∷ (0x03 ∷ 0x00 ∷ 0x00 ∷ 0x00 ∷ [])
      ∷ (0x04 ∷ []) ∷ (0x04 ∷ 0x00 ∷ []) ∷ (0x04 ∷ 0x00 ∷ 0x01 ∷ []) ∷ (0x04 ∷ 0x00 ∷ 0x01 ∷ 0x00 ∷ [])
      ∷ (0x05 ∷ []) ∷ (0x05 ∷ 0x00 ∷ []) ∷ (0x05 ∷ 0x00 ∷ 0x01 ∷ []) ∷ (0x05 ∷ 0x00 ∷ 0x01 ∷ 0x00 ∷ []) ∷ (0x05 ∷ 0x00 ∷ 0x01 ∷ 0x00 ∷ 0x00 ∷ []) ∷ (0x05 ∷ 0x00 ∷ 0x01 ∷ 0x00 ∷ 0x00 ∷ 0x00 ∷ [])
      ∷ (0x06 ∷ []) ∷ (0x06 ∷ 0x00 ∷ [])
      ∷ []))
      ≡ map (refused_at 8) (1 ∷ 2 ∷ 1 ∷ 2 ∷ 3 ∷ 1 ∷ 2 ∷ 1 ∷ 2 ∷ 3 ∷ 4 ∷ 1 ∷ 2 ∷ 3 ∷ 4 ∷ 1 ∷ 2 ∷ 3 ∷ 4 ∷ 5 ∷ 6 ∷ 1 ∷ 2 ∷ [])
  -- "7 as a kind"; "7 for 7 and for 9 and above"
  pub unknown : map told_of ((0x07 ∷ 0x00 ∷ []) ∷ (0x09 ∷ 0x00 ∷ []) ∷ (0x0A ∷ 0x00 ∷ []) ∷ (0x88 ∷ 0x01 ∷ 0x00 ∷ []) ∷ two_to32 ∷ []) ≡ replicate 5 (refused_at 7 0)
  -- a stamp whose tenth group is 2; an address spelled badly; a value that is missing
  pub stamp_over : told_of (0x08 ∷ replicate 9 0xFF ++ (0x02 ∷ [])) ≡ refused_at 6 1
  pub spelling : told_of (0x00 ∷ 0x00 ∷ 0xC8 ∷ 0x84 ∷ 0x00 ∷ []) ≡ refused_at 6 2
  pub missing : told_of (0x01 ∷ 0x00 ∷ 0xC8 ∷ 0x04 ∷ []) ≡ refused_at 5 4
  -- "or the given place if that lies past the end. A place exactly at the end of the tape means finished and is no refusal."
  pub past_end : record_told 3 (record_at (0x00 ∷ 0x00 ∷ []) 3) ≡ refused_at 5 3
  pub finished : record_told 2 (record_at (0x00 ∷ 0x00 ∷ []) 2) ≡ record { refusal = 0; place = 2; numbers = [] }
  pub told : told_of (0x01 ∷ 0x02 ∷ 0x48 ∷ 0xAC ∷ 0x02 ∷ []) ≡ record { refusal = 0; place = 5; numbers = 1 ∷ 2 ∷ 72 ∷ 300 ∷ [] }
  -- a unit of 4 and a retried copyback have no size
  pub no_size : map size_told (rec.Load 4 0 ∷ ordered 0 Copyback 0 true ∷ []) ≡ replicate 2 (Err why.FieldRange)
