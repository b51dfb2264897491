use mathlib.Core.Path.{refl}
use Rattle.jbus.specs.declared.device.TheConstants.{DEVICES}
use Rattle.jbus.specs.Device.{in_row, by_row}
use Rattle.jbus.proofs.DeviceLaws.{every, least, entry, in_table}
use Rattle.jbus.proofs.device.device_of.Goals as goal

pub returns : goal.returns
unfolding every entry least by_row in_row
returns c = in_table DEVICES refl _
