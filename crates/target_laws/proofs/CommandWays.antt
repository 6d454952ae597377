-- A command to a target goes to one of its drives, to the changer alone, to the changer with the drives that it names, which are there, or to
-- no unit.
use Rattle.std.proofs.Common.{◌≡◌, ◌<◌, ◌≤◌, ℕ, zero, suc, List, [], ◌∷◌, length, Option, Some, None, refl, sym, subst, inl, inr, arith}
use Rattle.std.specs.Prelude.{◌⊎◌, slice_get}
use Rattle.scsi_nexus.specs.declared.nexus.Nexus.{Nexus}
use Rattle.device_server.specs.View.{commands_of, drives_of}
use Rattle.judgement.specs.Replies.{AnswersAbsent}
use Rattle.judgement.specs.declared.reply.Reply.{Reply}
use Rattle.logical_unit.specs.Move.{TwoDrives, MovesOne, MovesTwo}
use Rattle.logical_unit.specs.Route.{named}
use Rattle.logical_unit.specs.Step.{Executes}
use Rattle.logical_unit.specs.UnitView.{UnitView}
use Rattle.target_core.proofs.Places.{same_some}
use Rattle.target_core.specs.Run.{AtUnit, AtDrive, AtDrives, MovesWith, MovesBetween, CommandsNaming, CommandsAt}
use Rattle.target_core.proofs.Ordered.{IsOrdered, has_drives, one_named, two_named}

-- a drive that is among so many is there
missing : (ds : List UnitView) (k : ℕ) → slice_get ds k ≡ None → k < length ds → ⊥
missing [] k h within = absurd (omega (arith, within))
missing (d ∷ ds) zero h within = cc
missing (d ∷ ds) (suc k) h within = missing ds k h (omega (arith, within))

module _ (c : UnitView) (ds : List UnitView) (n : Nexus) (cdb bytes : List ℕ) (ms : List UnitView) (r : Reply) where
  pub record ToNone (at : ℕ) : Type 0 where
    pub gone : slice_get (c ∷ ds) at ≡ None
    pub units : ms ≡ c ∷ ds
    pub answer : AnswersAbsent cdb r

  pub record ToDrive (at : ℕ) : Type 0 where
    pub place : ℕ
    pub drive : UnitView
    pub lun : at ≡ suc place
    pub there : slice_get ds place ≡ Some drive
    pub step : AtUnit (c ∷ ds) (suc place) (Executes drive n cdb bytes) (ms, r)

  pub record ToChanger (at : ℕ) : Type 0 where
    pub lun : at ≡ 0
    pub names : named (commands_of c.device) (drives_of c.device) cdb ≡ []
    pub step : AtUnit (c ∷ ds) 0 (Executes c n cdb bytes) (ms, r)

  pub record WithOne (at : ℕ) : Type 0 where
    pub lun : at ≡ 0
    pub place : ℕ
    pub drive : UnitView
    pub there : slice_get ds place ≡ Some drive
    pub names : named (commands_of c.device) (drives_of c.device) cdb ≡ suc place ∷ []
    pub step : AtDrive (c ∷ ds) (suc place) (MovesOne c drive n cdb bytes) (ms, r)

  pub record WithTwo (at : ℕ) : Type 0 where
    pub lun : at ≡ 0
    pub low : ℕ
    pub high : ℕ
    pub more : List ℕ
    pub drives : TwoDrives
    pub low_there : slice_get ds low ≡ Some drives.low
    pub high_there : slice_get ds high ≡ Some drives.high
    pub names : named (commands_of c.device) (drives_of c.device) cdb ≡ suc low ∷ suc high ∷ more
    pub step : AtDrives (c ∷ ds) (suc low) (suc high) (MovesTwo c drives n cdb bytes) (ms, r)

  abbrev pub Goes : (at : ℕ) → Type 0
  Goes at = ToNone at ⊎ (ToDrive at ⊎ (ToChanger at ⊎ (WithOne at ⊎ WithTwo at)))

  module _ (o : IsOrdered c ds) where
    with_one : (l : ℕ) (d : Option UnitView) → slice_get (c ∷ ds) l ≡ d → named (commands_of c.device) (drives_of c.device) cdb ≡ l ∷ [] → MovesWith (c ∷ ds) c l d n cdb bytes (ms, r) → Goes 0
    with_one zero d there names step = let w = one_named c.device cdb zero names in absurd (omega (arith, w.0))
    with_one (suc k) (Some d) there names step = inr (inr (inr (inl (record { lun = refl; place = k; drive = d; there = there; names = names; step = step }))))
    with_one (suc k) None there names step =
        let w = one_named c.device cdb (suc k) names in
        let within : suc k ≤ length ds = subst (λ i. suc k ≤ i) (has_drives c ds o) w.1 in
        absurd (missing ds k there (omega (arith, within)))

    with_two : (l m : ℕ) (more : List ℕ) (d e : Option UnitView) → slice_get (c ∷ ds) l ≡ d → slice_get (c ∷ ds) m ≡ e → named (commands_of c.device) (drives_of c.device) cdb ≡ l ∷ m ∷ more → MovesBetween (c ∷ ds) c l m d e n cdb bytes (ms, r) → Goes 0
    with_two zero m more d e first second names step = let w = two_named c.device cdb zero m more names in absurd (omega (arith, w.0))
    with_two (suc i) zero more d e first second names step = let w = two_named c.device cdb (suc i) zero more names in absurd (omega (arith, w.1))
    with_two (suc i) (suc j) more (Some d) (Some e) first second names step =
        inr (inr (inr (inr (record { lun = refl; low = i; high = j; more = more; drives = record { low = d; high = e }; low_there = first; high_there = second; names = names; step = step }))))
    with_two (suc i) (suc j) more None e first second names step =
        let w = two_named c.device cdb (suc i) (suc j) more names in
        let within : suc j ≤ length ds = subst (λ k. suc j ≤ k) (has_drives c ds o) w.2 in
        let rising = w.1 in
        absurd (missing ds i first (omega (arith, within, rising)))
    with_two (suc i) (suc j) more (Some d) None first second names step =
        let w = two_named c.device cdb (suc i) (suc j) more names in
        let within : suc j ≤ length ds = subst (λ k. suc j ≤ k) (has_drives c ds o) w.2 in
        absurd (missing ds j second (omega (arith, within)))

    naming : (names : List ℕ) → named (commands_of c.device) (drives_of c.device) cdb ≡ names → CommandsNaming (c ∷ ds) c names n cdb bytes (ms, r) → Goes 0
    naming [] is step = inr (inr (inl (record { lun = refl; names = is; step = step })))
    naming (l ∷ []) is step = with_one l (slice_get (c ∷ ds) l) refl is step
    naming (l ∷ m ∷ more) is step = with_two l m more (slice_get (c ∷ ds) l) (slice_get (c ∷ ds) m) refl refl is step

    pub goes : (at : ℕ) (w : Option UnitView) → slice_get (c ∷ ds) at ≡ w → CommandsAt (c ∷ ds) at w n cdb bytes (ms, r) → Goes at
    goes at None there step = inl (record { gone = there; units = step.0; answer = step.1 })
    goes zero (Some w) there step =
        let is : w ≡ c = same_some w c (sym there) in
        naming (named (commands_of c.device) (drives_of c.device) cdb) refl (subst (λ (u : UnitView). CommandsNaming (c ∷ ds) u (named (commands_of u.device) (drives_of u.device) cdb) n cdb bytes (ms, r)) is step)
    goes (suc k) (Some w) there step = inr (inl (record { place = k; drive = w; lun = refl; there = there; step = step }))
