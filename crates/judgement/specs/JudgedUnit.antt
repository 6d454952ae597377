-- What commands are judged by.
use Rattle.device_server.specs.View.{DeviceView}
use Rattle.judgement.specs.UnitStateView.{UnitStateView}

-- a device, and what its unit keeps beside it: what commands are judged by
pub record JudgedUnit : Type 0 where
  pub device : DeviceView
  pub state : UnitStateView
