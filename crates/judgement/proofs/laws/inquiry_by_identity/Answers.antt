use Rattle.std.proofs.Common.{◌≡◌, ℕ, Bool, List, Option, Some, None, refl, ap}
use Rattle.inquiry_data.specs.declared.unit_identity.UnitIdentity.{UnitIdentity}
use Rattle.device_server.specs.View.{DeviceView, kind_of}
use Rattle.judgement.specs.UnitData.{inquiry_data, context_of, identified_inquiry}
use Rattle.judgement.proofs.laws.inquiry_by_identity.Goals as goal

by_identity : DeviceView → (lun port : ℕ) → (evpd : Bool) → (page : ℕ) → Option UnitIdentity → Option (List ℕ)
by_identity device lun port evpd page None = inquiry_data (kind_of device) lun evpd page
by_identity device lun port evpd page (Some identity) = identified_inquiry (kind_of device) (context_of identity lun port) evpd page

pub returns : goal.returns
unfolding by_identity
returns c = record {
  drive = refl;
  first_address = refl;
  fourth_address = refl;
  page_without_evpd = refl;
  another_page = refl;
  without = λ device lun port evpd page none. ap (by_identity device lun port evpd page) none;
}
