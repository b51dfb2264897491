-- Numbers in their bytes, both ways, and the spellings that are refused (document 01, "The tape", "Values to try" and "Errors that look reasonable"; document 02,
-- T-04).
use Rattle.std.specs.Prelude.{ℕ, ◌≡◌, List, [], ◌∷◌, ◌++◌, length, replicate}
use Rattle.number.specs.Number.{Told, spell}
use Rattle.number.specs.Spelling.{told_at}

-- the bytes are read as the number, and the number is spelled as the bytes
unfoldable pub Spelled : List ℕ → ℕ → Type 0
Spelled bytes n = (told_at bytes 0 ≡ record { refusal = 0; place = length bytes; numbers = n ∷ [] }) × (spell n ≡ bytes)

-- refused with a number, at the start
unfoldable pub refused_with : ℕ → Told
refused_with number = record { refusal = number; place = 0; numbers = [] }

pub record Examples : Type 0 where
  pub zero : Spelled (0x00 ∷ []) 0
  pub one_group : Spelled (0x7F ∷ []) 127
  pub two_groups : Spelled (0xAC ∷ 0x02 ∷ []) 300
  pub address : Spelled (0xC8 ∷ 0x04 ∷ []) 584
  pub five_groups : Spelled (0x81 ∷ 0x82 ∷ 0x83 ∷ 0x84 ∷ 0x05 ∷ []) 0x5080_C101
  pub word : Spelled (0xFF ∷ 0xFF ∷ 0xFF ∷ 0xFF ∷ 0x0F ∷ []) 0xFFFF_FFFF
  pub above_word : Spelled (0x80 ∷ 0x80 ∷ 0x80 ∷ 0x80 ∷ 0x10 ∷ []) 0x1_0000_0000
  pub nine_groups : Spelled (replicate 8 0xFF ++ (0x7F ∷ [])) 0x7FFF_FFFF_FFFF_FFFF
  pub ten_groups : Spelled (0x81 ∷ 0x82 ∷ 0x83 ∷ 0x84 ∷ 0x85 ∷ 0x86 ∷ 0x87 ∷ 0x88 ∷ 0x89 ∷ 0x01 ∷ []) 0x8910_1C30_5080_C101
  pub most : Spelled (replicate 9 0xFF ++ (0x01 ∷ [])) 0xFFFF_FFFF_FFFF_FFFF
  -- "Numbers run to ten groups, the tenth at most 1."
  pub tenth_of2 : told_at (replicate 9 0xFF ++ (0x02 ∷ [])) 0 ≡ refused_with 6
  pub ten_bytes : told_at (replicate 10 0x80) 0 ≡ refused_with 6
  pub eleven_groups : told_at (replicate 10 0x81 ++ (0x01 ∷ [])) 0 ≡ refused_with 6
  -- "five bytes 80 and then the end are now refusal 5"; "`80 80` and then the end: refusal 5 at 0."
  pub nine_bytes : told_at (replicate 9 0x80) 0 ≡ refused_with 5
  pub five_bytes : told_at (replicate 5 0x80) 0 ≡ refused_with 5
  pub ends : told_at (0x80 ∷ 0x80 ∷ []) 0 ≡ refused_with 5
  -- "Reading `C8 84 00` as 584: that is refusal 6."
  pub zero_last : told_at (0xC8 ∷ 0x84 ∷ 0x00 ∷ []) 0 ≡ refused_with 6
  -- "or the given place if that lies past the end"
  pub past_end : told_at (0x00 ∷ []) 3 ≡ record { refusal = 5; place = 3; numbers = [] }
