-- Worked nexuses and TransportIDs.
use Rattle.std.specs.Prelude.{◌≡◌, ◌≢◌, ℕ, true, false, [], ◌∷◌, length, replicate, codes}
use Rattle.std.specs.declared.cmp.Ordering.TheVariants.{Less, Equal, Greater}
use Rattle.scsi_nexus.specs.declared.nexus.Nexus.{Nexus}
use Rattle.scsi_nexus.specs.Order.{nexus_cmp, same_nexus}
use Rattle.scsi_nexus.specs.TransportId.{IsOtherFormat, transport_id, sas_address}
use Rattle.scsi_nexus.specs.Limits.{list_limit}
use Rattle.scsi_nexus.specs.Ports.{is_target_port}
use Rattle.scsi_nexus.specs.Text.{nexus_text}

abbrev pub nexus : (sas port : ℕ) → Nexus
nexus sas port = record { sas = sas; port = port }

pub record NexusRows : Type 0 where
  -- the address decides before the port, and both tell nexuses apart
  pub lower_address : nexus_cmp (nexus 0x500000000000000A 4) (nexus 0x500000000000000B 1) ≡ Less
  pub address_first : nexus_cmp (nexus 1 255) (nexus 2 1) ≡ Less
  pub higher_port : nexus_cmp (nexus 0x500000000000000A 2) (nexus 0x500000000000000A 1) ≡ Greater
  pub itself : nexus_cmp (nexus 0x500000000000000A 2) (nexus 0x500000000000000A 2) ≡ Equal
  pub other_port : same_nexus (nexus 0x500000000000000A 1) (nexus 0x500000000000000A 2) ≡ false
  pub other_address : same_nexus (nexus 0x500000000000000A 1) (nexus 0x500000000000000B 1) ≡ false
  pub same : same_nexus (nexus 0x500000000000000A 1) (nexus 0x500000000000000A 1) ≡ true
  pub limit : list_limit ≡ 256

-- the ports of the target, and how a nexus is written
pub record PortRows : Type 0 where
  pub none : is_target_port 0 ≡ false
  pub first : is_target_port 1 ≡ true
  pub last : is_target_port 4 ≡ true
  pub fifth : is_target_port 5 ≡ false
  pub written : nexus_text (nexus 0x500000000000000A 1) ≡ codes "500000000000000a.1"
  pub padded : nexus_text (nexus 0xAF 4) ≡ codes "00000000000000af.4"

pub record TransportIdRows : Type 0 where
  pub written : transport_id 0x5000C500112233FF
      ≡ 0x06 ∷ 0 ∷ 0 ∷ 0 ∷ 0x50 ∷ 0x00 ∷ 0xC5 ∷ 0x00 ∷ 0x11 ∷ 0x22 ∷ 0x33 ∷ 0xFF ∷ 0 ∷ 0 ∷ 0 ∷ 0 ∷ 0 ∷ 0 ∷ 0 ∷ 0 ∷ 0 ∷ 0 ∷ 0 ∷ 0 ∷ []
  -- whatever the reserved bytes are
  pub read : sas_address (0x06 ∷ 1 ∷ 2 ∷ 3 ∷ 0x50 ∷ 0x00 ∷ 0xC5 ∷ 0x00 ∷ 0x11 ∷ 0x22 ∷ 0x33 ∷ 0xFF ∷ replicate 12 9) ≡ 0x5000C500112233FF
  -- another length is refused before another format: short and not SAS, not SAS, long
  pub short : length {A = ℕ} (replicate 23 5) ≢ 24
  pub not_sas : IsOtherFormat (replicate 24 0x46)
  pub long : length {A = ℕ} (replicate 25 6) ≢ 24
