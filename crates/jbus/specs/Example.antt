-- Document 02, T-14: "Target 3 from agent 28 is 0x0000A03E00000000". Agent 28 is bridge 0 (1110y in Table 5-3).
use Rattle.std.specs.Prelude.{◌≡◌, Ok, [], ◌∷◌}
use Rattle.jbus.specs.declared.device.Device.TheVariants.{Processor, NotSupported, Illegal, Bridge0, Bridge1}
use Rattle.jbus.specs.declared.interrupt.AddressCycle.{AddressCycle}
use Rattle.jbus.specs.Device.{device_of}
use Rattle.jbus.specs.Interrupt.{interrupt_read, read_told, cycle_written}

unfoldable pub cycle : AddressCycle
cycle = record { upper = 0x0000_A03E_0000_0000; lower = 0x0000_A03E_0000_0000 }

pub record Example : Type 0 where
  pub written : cycle_written 3 28 ≡ Ok cycle
  -- an interrupt of an illegal agent is read as such
  pub read_illegal : interrupt_read (record { upper = 0x0000_A033_0000_0000; lower = 0x0000_A033_0000_0000 })
      ≡ Ok (record { target = 3; agent = 6; device = Illegal })
  pub read : interrupt_read cycle ≡ Ok (record { target = 3; agent = 28; device = Bridge0 })
  pub told : read_told (interrupt_read cycle) ≡ 0 ∷ 3 ∷ 28 ∷ 3 ∷ []
  -- the first and the last agent of each row, in the paper's words: "0-3 processor, 4-5 and 8-11 not supported, 6-7 illegal, 12-13 bridge 0, 14-15 bridge 1"
  pub processor : (device_of 0 ≡ Processor) × (device_of 3 ≡ Processor)
  pub not_supported : (device_of 4 ≡ NotSupported) × (device_of 5 ≡ NotSupported)
  pub illegal : (device_of 6 ≡ Illegal) × (device_of 7 ≡ Illegal)
  pub not_supported_above : (device_of 8 ≡ NotSupported) × (device_of 11 ≡ NotSupported)
  pub bridge0 : (device_of 12 ≡ Bridge0) × (device_of 13 ≡ Bridge0)
  pub bridge1 : (device_of 14 ≡ Bridge1) × (device_of 15 ≡ Bridge1)
  -- "low four bits": agents from 16 on are named again from the start
  pub processor_again : (device_of 16 ≡ Processor) × (device_of 19 ≡ Processor)
  pub illegal_again : (device_of 22 ≡ Illegal) × (device_of 23 ≡ Illegal)
