-- How many bits, groups and bytes, computed.
use Rattle.std.specs.Prelude.{◌≡◌, [], ◌∷◌, map}
use Rattle.number_writer.specs.GroupCount.{significant_bits, group_count, size_of}

pub record Examples : Type 0 where
  -- "significant bits divided by seven, rounded up; one group for zero": each limit of one, two and three groups, of 32 bits, of nine groups and of 64 bits
  pub bits : map significant_bits (0 ∷ 1 ∷ 127 ∷ 128 ∷ 300 ∷ 0xFFFF_FFFF ∷ 0x7FFF_FFFF_FFFF_FFFF ∷ 0xFFFF_FFFF_FFFF_FFFF ∷ []) ≡ 0 ∷ 1 ∷ 7 ∷ 8 ∷ 9 ∷ 32 ∷ 63 ∷ 64 ∷ []
  pub counts :
      map group_count (0 ∷ 1 ∷ 127 ∷ 128 ∷ 16383 ∷ 16384 ∷ 2097151 ∷ 2097152 ∷ 0xFFFF_FFFF ∷ 0x7FFF_FFFF_FFFF_FFFF ∷ 0x8000_0000_0000_0000 ∷ 0xFFFF_FFFF_FFFF_FFFF ∷ [])
      ≡ 1 ∷ 1 ∷ 1 ∷ 2 ∷ 2 ∷ 3 ∷ 3 ∷ 4 ∷ 5 ∷ 9 ∷ 10 ∷ 10 ∷ []
  -- `01 02 C8 04 Ac 02`, a store by unit 2 of 300 at 584
  pub size : size_of (1 ∷ 2 ∷ 584 ∷ 300 ∷ []) ≡ 6
