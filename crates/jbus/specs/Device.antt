-- What an agent ID stands for (document 02, T-14; source document 000, Table 5-3).
use Rattle.std.specs.Prelude.{ℕ, ◌%◌, ◌^◌, ◌≡◌, Bool, true, cond, ◌&&◌, ◌||◌, [], ◌∷◌, map, leb}
use Rattle.jbus.specs.declared.device.Device.{Device}
use Rattle.jbus.specs.declared.device.Device.TheVariants.{Processor, NotSupported, Illegal, Bridge0, Bridge1}

-- "An agent's low four bits name its device by the OpenSPARC T1 table"
unfoldable pub low_bits : ℕ → ℕ
low_bits agent = agent % 2 ^ 4

-- whether the low four bits n stand in the row of a device: "0-3 processor, 4-5 and 8-11 not supported, 6-7 illegal, 12-13 bridge 0, 14-15 bridge 1"
unfoldable pub in_row : Device → ℕ → Bool
in_row Processor n = leb n 3
in_row NotSupported n = (leb 4 n && leb n 5) || (leb 8 n && leb n 11)
in_row Illegal n = leb 6 n && leb n 7
in_row Bridge0 n = leb 12 n && leb n 13
in_row Bridge1 n = leb 14 n && leb n 15

-- the device whose row has the low four bits n; the last row is what remains
unfoldable pub by_row : ℕ → Device
by_row n =
    cond (in_row Processor n) Processor
    (cond (in_row NotSupported n) NotSupported
    (cond (in_row Illegal n) Illegal
    (cond (in_row Bridge0 n) Bridge0 Bridge1)))

unfoldable pub device_of : ℕ → Device
device_of agent = by_row (low_bits agent)

-- the devices by number, in the order of document 02's list; the numbers are ours
unfoldable pub device_number : Device → ℕ
device_number Processor = 0
device_number NotSupported = 1
device_number Illegal = 2
device_number Bridge0 = 3
device_number Bridge1 = 4

unfoldable pub DevicesNumbered : Type 0
DevicesNumbered = map device_number (Processor ∷ NotSupported ∷ Illegal ∷ Bridge0 ∷ Bridge1 ∷ []) ≡ 0 ∷ 1 ∷ 2 ∷ 3 ∷ 4 ∷ []

-- every agent has exactly one device
pub record OneDevice (agent : ℕ) : Type 0 where
  pub its : in_row (device_of agent) (low_bits agent) ≡ true
  pub no_other : (d : Device) → in_row d (low_bits agent) ≡ true → d ≡ device_of agent
