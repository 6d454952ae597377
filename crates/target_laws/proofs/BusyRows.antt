-- The rows on BUSY.
use Rattle.std.proofs.Common.{◌≡◌, ℕ, ◌+◌, ◌^◌, Bool, true, false, inl, inr, refl, arith}
use Rattle.std.specs.Prelude.{◌⊎◌}
use Rattle.scsi_cdb.specs.Commands as commands
use Rattle.device_server.specs.View.{profile_of}
use Rattle.target_laws.specs.BusyRows.{WhenBusy}

-- neither memory nor a slot, nor room, nor a number is wanted
none_wanted : (last : ℕ) → last ≡ 0 → (◌≡◌ {A = Bool} false true) ⊎ ((◌≡◌ {A = Bool} true false) ⊎ ((◌≡◌ {A = ℕ} 1 0) ⊎ (last + 1 ≡ 2 ^ 64))) → ⊥
none_wanted last start (inl e) = cc
none_wanted last start (inr (inl e)) = cc
none_wanted last start (inr (inr (inl e))) = cc
none_wanted last start (inr (inr (inr e))) = absurd (omega (arith, start, e))

pub when_busy : WhenBusy
unfolding commands.command_of profile_of
when_busy = record {
  never = λ h. none_wanted 0 refl (h refl);
  never_at_the_changer = λ h. none_wanted 0 refl (h refl);
  no_room = λ is. inr (inr (inl refl));
  no_number = λ is. inr (inr (inr refl));
  no_slot = λ is. inr (inl refl);
  with_data = λ is. inl refl;
  never_absent = λ h. let e = h refl in absurd cc;
  absent_with_data = λ is. refl;
  never_lost = λ h. none_wanted 0 refl (inr (inr (h refl)));
  no_room_for_the_loss = λ is. inl refl;
  no_number_for_the_loss = λ is. inr refl;
  never_lost_absent = λ h. h refl;
}
