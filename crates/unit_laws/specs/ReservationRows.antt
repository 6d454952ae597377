-- Worked cases of reservations: A, B and C at port 1, from power on.
use Rattle.std.specs.Prelude.{◌≡◌, ℕ, Bool, true, false, List, [], ◌∷◌, None, Some}
use Rattle.scsi_cdb.specs.declared.classes.Class.TheVariants as class
use Rattle.scsi_cdb.specs.declared.service_action.OutServiceAction.{OutServiceAction}
use Rattle.scsi_cdb.specs.declared.service_action.OutServiceAction.TheVariants as out
use Rattle.scsi_nexus.specs.declared.nexus.Nexus.{Nexus}
use Rattle.permit_tables.specs.declared.res_type.ResType.{ResType}
use Rattle.permit_tables.specs.declared.res_type.ResType.TheVariants.{We, Ea, Wero, Earo, Wear, Eaar}
use Rattle.permit_tables.specs.declared.role.Role.TheVariants.{Holder, Registered, Other}
use Rattle.unit_attention.specs.declared.kind.Kind.TheVariants.{ReservationsPreempted, ReservationsReleased, RegistrationsPreempted}
use Rattle.permit_tables.specs.declared.out_params.OutParams.{OutParams}
use Rattle.pr_core.specs.Acts.{Act, Register, Reserve, Release, Clear, Preempt, Move}
use Rattle.permit_tables.specs.declared.key_rule.KeyRule.TheVariants.{K1, K2, K3, K4, K5, K6}
use Rattle.permit_tables.specs.declared.pr_fault.PrFault.TheVariants.{InvalidField, InvalidParam, InvalidRelease}
use Rattle.pr_core.specs.declared.verdict.Verdict.TheVariants.{Allowed, Denied, Rule}
use Rattle.permit_tables.specs.declared.list_defect.ListDefect.TheVariants.{Field}
use Rattle.pr_core.specs.Targets.{targets}
use Rattle.pr_core.specs.State.{State, power_on, role, after, after_all}
use Rattle.pr_core.specs.Judge.{verdict}
use Rattle.pr_core.specs.Outcome.{refusal, act_of, applied, raised, removed}

abbrev pub a : Nexus
a = record { sas = 0x500000000000000A; port = 1 }

abbrev pub b : Nexus
b = record { sas = 0x500000000000000B; port = 1 }

abbrev pub c : Nexus
c = record { sas = 0x500000000000000C; port = 1 }

-- a REGISTER that names its sender alone
abbrev pub registers : Nexus → ℕ → Nexus × Act
registers n k = (n, Register k (n ∷ []))

abbrev pub history : List (Nexus × Act) → State
history = after_all power_on

-- a command with nothing but an act, its keys and a byte of scope and type
abbrev pub command : OutServiceAction → (rk sark code : ℕ) → OutParams
command act rk sark code = record { act = act; rk = rk; sark = sark; scope_type = code; dest = None; unreg = false; defect = None; all_ports = false; listed = false; targets = record { items = [] } }

-- REGISTER AND MOVE
abbrev pub moving : (rk sark : ℕ) → Nexus → Bool → OutParams
moving rk sark d unreg = record { act = out.RegisterAndMove; rk = rk; sark = sark; scope_type = 0; dest = Some d; unreg = unreg; defect = None; all_ports = false; listed = false; targets = record { items = [] } }

-- A's SAS address at another port
abbrev pub a_at : ℕ → Nexus
a_at port = record { sas = 0x500000000000000A; port = port }

-- either REGISTER at every port, and with these listed addresses
abbrev pub at_every_port : (rk sark : ℕ) → OutParams
at_every_port rk sark = record (command out.Register rk sark 0) { all_ports = true }

abbrev pub listing : (rk sark : ℕ) → List ℕ → OutParams
listing rk sark addresses = record (command out.Register rk sark 0) { listed = true; targets = record { items = addresses } }

-- A has key 1 at every port
abbrev pub everywhere : State
everywhere = applied power_on a (at_every_port 0 1)

-- that, and A holds WERO beside B
abbrev pub everywhere_held : State
everywhere_held = after_all everywhere ((a, Reserve Wero) ∷ registers b 2 ∷ [])

-- B listed C
abbrev pub by_list : State
by_list = applied power_on b (listing 0 7 (0x500000000000000C ∷ []))

-- A and B share key 7, and A holds EA
abbrev pub shared : State
shared = history (registers a 7 ∷ registers b 7 ∷ (a, Reserve Ea) ∷ [])

-- A made WEAR and is unregistered
abbrev pub outlived : State
outlived = history (registers a 1 ∷ registers b 2 ∷ (a, Reserve Wear) ∷ registers a 0 ∷ [])

-- A, B and C hold EAAR
abbrev pub three_hold : State
three_hold = history (registers a 1 ∷ registers b 2 ∷ registers c 3 ∷ (a, Reserve Eaar) ∷ [])

-- A alone is registered
abbrev pub alone : State
alone = history (registers a 1 ∷ [])

-- A holds WE
abbrev pub held : State
held = history (registers a 1 ∷ (a, Reserve We) ∷ [])

-- A holds WERO beside B
abbrev pub registrants_only : State
registrants_only = history (registers a 1 ∷ registers b 2 ∷ (a, Reserve Wero) ∷ [])

-- A and B hold WEAR
abbrev pub two_hold : State
two_hold = history (registers a 1 ∷ registers b 2 ∷ (a, Reserve Wear) ∷ [])

-- A holds WERO, B and C share key 2
abbrev pub not_taken : State
not_taken = history (registers a 1 ∷ registers b 2 ∷ registers c 2 ∷ (a, Reserve Wero) ∷ [])

pub record WorkedRows : Type 0 where
  -- two registrations, in order whichever came first
  pub in_order : (history (registers b 2 ∷ registers a 1 ∷ [])).keys ≡ (a, 1) ∷ (b, 2) ∷ []
  -- REGISTER with 0 and 0 by an unregistered nexus is allowed and no act; with a wrong key it breaks K1, and then K2
  pub register_zero : verdict power_on a (command out.Register 0 0 0) ≡ Allowed
  pub register_zero_is_no_act : act_of power_on a (command out.Register 0 0 0) ≡ None
  pub register_wrong_key : verdict power_on a (command out.Register 5 6 0) ≡ Rule K1
  pub register_other_key : verdict alone a (command out.Register 5 6 0) ≡ Rule K2
  -- under WE a registered nexus may not reserve; an outsider may not clear
  pub reserve_denied : verdict (after held b (Register 2 (b ∷ []))) b (command out.Reserve 2 0 1) ≡ Denied (record { class = class.Reserve; res_type = We; role = Registered })
  pub clear_denied : verdict held b (command out.Clear 0 0 0) ≡ Denied (record { class = class.Clear; res_type = We; role = Other })
  -- B's preemption of the key that it shares with the holder keeps B
  pub preempt_shared_key_allowed : verdict shared b (command out.Preempt 7 7 5) ≡ Allowed
  pub preempt_shared_key : applied shared b (command out.Preempt 7 7 5) ≡ record { keys = (b, 7) ∷ []; reservation = Some (Wero, b); generation = 3 }
  pub preempt_shared_key_raised : raised shared b (Preempt 7 5) ≡ (a, RegistrationsPreempted) ∷ []
  pub preempt_shared_key_removed : removed shared b (Preempt 7 5) ≡ a ∷ []
  -- WEAR stays with B when its maker A unregisters, and ends with the last
  pub outlives_maker : outlived ≡ record { keys = (b, 2) ∷ []; reservation = Some (Wear, a); generation = 3 }
  pub outlives_maker_role : role outlived b ≡ Holder
  pub ends_with_the_last : after outlived b (Register 0 (b ∷ [])) ≡ record { keys = []; reservation = None; generation = 4 }
  -- EAAR taken by 0 under another type: all others lose their keys
  pub preempt_zero_takes : applied three_hold a (command out.Preempt 1 0 1) ≡ record { keys = (a, 1) ∷ []; reservation = Some (We, a); generation = 4 }
  pub preempt_zero_takes_raised : raised three_hold a (Preempt 0 1) ≡ (b, RegistrationsPreempted) ∷ (c, RegistrationsPreempted) ∷ []
  -- a preemption by 0 of another type is allowed, and refused
  pub preempt_zero_allowed : verdict held a (command out.Preempt 1 0 1) ≡ Allowed
  pub preempt_zero_refused : refusal held a (command out.Preempt 1 0 1) ≡ Some InvalidParam
  -- a preemption of a key that nobody has, and a taking one with an unknown type
  pub preempt_nobody : verdict held a (command out.Preempt 1 9 1) ≡ Rule K5
  pub preempt_unknown_type : refusal held a (command out.Preempt 1 1 2) ≡ Some InvalidField
  -- WERO released by its holder, by another type and its own
  pub release_other_type : refusal registrants_only a (command out.Release 1 0 1) ≡ Some InvalidRelease
  pub release : applied registrants_only a (command out.Release 1 0 5) ≡ record { keys = (a, 1) ∷ (b, 2) ∷ []; reservation = None; generation = 2 }
  pub release_raised : raised registrants_only a (Release 5) ≡ (b, ReservationsReleased) ∷ []
  -- WERO whose holder unregisters ends, and the others are told
  pub unregister : after registrants_only a (Register 0 (a ∷ [])) ≡ record { keys = (b, 2) ∷ []; reservation = None; generation = 3 }
  pub unregister_raised : raised registrants_only a (Register 0 (a ∷ [])) ≡ (b, ReservationsReleased) ∷ []
  -- a move to a nexus that never made contact, and one that keeps the sender
  pub register_and_move : applied held a (moving 1 9 b true) ≡ record { keys = (b, 9) ∷ []; reservation = Some (We, b); generation = 2 }
  pub register_and_move_unregisters : applied (after held b (Register 2 (b ∷ []))) a (moving 1 9 b false) ≡ record { keys = (a, 1) ∷ (b, 9) ∷ []; reservation = Some (We, b); generation = 3 }
  pub register_and_move_all : verdict two_hold a (moving 1 9 b true) ≡ Rule K6
  pub register_and_move_itself : refusal held a (moving 1 9 a true) ≡ Some InvalidParam
  pub register_and_move_nothing : refusal alone a (moving 1 9 b true) ≡ Some InvalidField
  -- a type that is unknown, where nothing is held and where the sender holds
  pub reserve_unknown : refusal alone a (command out.Reserve 1 0 2) ≡ Some InvalidField
  pub reserve_again : verdict held a (command out.Reserve 1 0 2) ≡ Rule K4
  -- WEAR taken by 0 by one of its holders
  pub preempt_zero_same_type : applied two_hold a (command out.Preempt 1 0 7) ≡ record { keys = (a, 1) ∷ []; reservation = Some (Wear, a); generation = 3 }
  pub preempt_zero_same_type_raised : raised two_hold a (Preempt 0 7) ≡ (b, RegistrationsPreempted) ∷ []
  -- a preemption of the sender's own shared key that takes nothing
  pub preempt_not_taking : applied not_taken b (command out.Preempt 2 2 6) ≡ record { keys = (a, 1) ∷ []; reservation = Some (Wero, a); generation = 4 }
  pub preempt_not_taking_raised : raised not_taken b (Preempt 2 6) ≡ (c, RegistrationsPreempted) ∷ []
  -- CLEAR, and then K1 before what is told
  pub clear_raised : raised not_taken a Clear ≡ (b, ReservationsPreempted) ∷ (c, ReservationsPreempted) ∷ []
  pub after_clear : verdict (after not_taken a Clear) b (command out.Register 9 4 0) ≡ Rule K1
  -- a registration at every port, and one that takes it away at one; a key that isn't that of all ports breaks K2
  pub all_ports : everywhere ≡ record { keys = (a, 1) ∷ (a_at 2, 1) ∷ (a_at 3, 1) ∷ (a_at 4, 1) ∷ []; reservation = None; generation = 1 }
  pub one_port_less : (applied everywhere a (command out.Register 1 0 0)).keys ≡ (a_at 2, 1) ∷ (a_at 3, 1) ∷ (a_at 4, 1) ∷ []
  pub unregistered_at_one_port : verdict (applied everywhere a (command out.Register 1 0 0)) a (at_every_port 0 5) ≡ Rule K2
  pub registered_at_one_port : verdict alone a (at_every_port 1 5) ≡ Rule K1
  -- B lists C, who needs no contact, and itself; a registered nexus may not list
  pub listed : by_list ≡ record { keys = (b, 7) ∷ (c, 7) ∷ []; reservation = None; generation = 1 }
  pub listed_twice : (applied power_on b (listing 0 7 (0x500000000000000B ∷ 0x500000000000000C ∷ 0x500000000000000C ∷ []))).keys ≡ (b, 7) ∷ (c, 7) ∷ []
  pub listed_nobody : (applied power_on b (listing 0 7 [])).keys ≡ (b, 7) ∷ []
  pub listed_from_registered : verdict by_list b (listing 7 7 (0x500000000000000C ∷ [])) ≡ Allowed
  pub listed_from_registered_refused : refusal by_list b (listing 7 7 (0x500000000000000C ∷ [])) ≡ Some InvalidParam
  -- with both bits each address stands at every port
  pub listed_at_all_ports : targets b (record (listing 0 7 (0x500000000000000A ∷ [])) { all_ports = true })
      ≡ b ∷ b ∷ record b { port = 2 } ∷ record b { port = 3 } ∷ record b { port = 4 } ∷ a ∷ a_at 2 ∷ a_at 3 ∷ a_at 4 ∷ []
  -- a defect is refused once the keys of the sender alone were looked at
  pub defect_names_the_sender : verdict by_list a (record (at_every_port 0 3) { defect = Some Field }) ≡ Allowed
  pub defect_refused : refusal by_list a (record (at_every_port 0 3) { defect = Some Field }) ≡ Some InvalidParam
  -- WERO ends when its holder is among those unregistered: who still has a key is told, and A's other ports aren't
  pub all_ports_release : applied everywhere_held a (at_every_port 1 0) ≡ record { keys = (b, 2) ∷ []; reservation = None; generation = 3 }
  pub all_ports_release_raised : raised everywhere_held a (Register 0 (targets a (at_every_port 1 0))) ≡ (b, ReservationsReleased) ∷ []
  pub all_ports_release_removed : removed everywhere_held a (Register 0 (targets a (at_every_port 1 0))) ≡ a_at 2 ∷ a_at 3 ∷ a_at 4 ∷ []

-- A, B and C are registered with keys 1, 2 and 3, and then A reserves this type
abbrev pub three_and : ResType → State
three_and t = history (registers a 1 ∷ registers b 2 ∷ registers c 3 ∷ (a, Reserve t) ∷ [])

-- what the acts tell the others
pub record ToldRows : Type 0 where
  -- RELEASE of an all registrants type, by any of its holders
  pub release_wear : raised two_hold a (Release 7) ≡ (b, ReservationsReleased) ∷ []
  pub release_eaar : raised three_hold b (Release 8) ≡ (a, ReservationsReleased) ∷ (c, ReservationsReleased) ∷ []
  -- RELEASE of WE or EA tells nobody
  pub release_we : raised (three_and We) a (Release 1) ≡ []
  pub release_ea : raised (three_and Ea) a (Release 3) ≡ []
  -- a holder of WE or EA that unregisters ends the reservation and tells nobody
  pub unregister_we : after (three_and We) a (Register 0 (a ∷ [])) ≡ record { keys = (b, 2) ∷ (c, 3) ∷ []; reservation = None; generation = 4 }
  pub unregister_we_raised : raised (three_and We) a (Register 0 (a ∷ [])) ≡ []
  pub unregister_ea_raised : raised (three_and Ea) a (Register 0 (a ∷ [])) ≡ []
  -- another than the holder of WERO that unregisters tells nobody
  pub unregister_other_raised : raised (three_and Wero) b (Register 0 (b ∷ [])) ≡ []
  -- EARO is registrants only
  pub unregister_earo_raised : raised (three_and Earo) a (Register 0 (a ∷ [])) ≡ (b, ReservationsReleased) ∷ (c, ReservationsReleased) ∷ []
  -- a PREEMPT that changes the type tells those who remain, and one that doesn't only those that it removes
  pub preempt_other_type : raised (three_and Wero) c (Preempt 1 6) ≡ (a, RegistrationsPreempted) ∷ (b, ReservationsReleased) ∷ []
  pub preempt_same_type : raised (three_and Wero) c (Preempt 1 5) ≡ (a, RegistrationsPreempted) ∷ []
  -- REGISTER AND MOVE tells nobody, though it unregisters
  pub move_raised : raised (three_and Wero) a (Move 9 b true) ≡ []
  -- CLEAR with nothing reserved takes all keys, and tells the others
  pub clear_unreserved : applied by_list b (command out.Clear 7 0 0) ≡ record { keys = []; reservation = None; generation = 2 }
  pub clear_unreserved_raised : raised by_list b Clear ≡ (c, ReservationsPreempted) ∷ []
  -- PREEMPT AND ABORT is the act that PREEMPT is
  pub preempt_and_abort : act_of (three_and We) b (command out.PreemptAndAbort 2 1 3) ≡ Some (Preempt 1 3)

-- how commands are judged and refused
pub record RefusalRows : Type 0 where
  -- REGISTER AND IGNORE EXISTING KEY by a registered nexus with another key
  pub ignore_other_key : verdict alone a (command out.RegisterAndIgnoreExistingKey 5 6 0) ≡ Allowed
  pub ignore_other_key_registers : applied alone a (command out.RegisterAndIgnoreExistingKey 5 6 0) ≡ record { keys = (a, 6) ∷ []; reservation = None; generation = 2 }
  -- a registered sender with a wrong key, and PREEMPT AND ABORT of a key that nobody has
  pub clear_wrong_key : verdict alone a (command out.Clear 5 0 0) ≡ Rule K3
  pub reserve_unregistered : verdict alone b (command out.Reserve 0 0 1) ≡ Rule K3
  pub preempt_and_abort_nobody : verdict held a (command out.PreemptAndAbort 1 9 1) ≡ Rule K5
  -- REGISTER AND MOVE: no reservation comes before key 0, and that before the port, which is 1 to 4
  pub move_nothing : refusal alone a (moving 1 0 b true) ≡ Some InvalidField
  pub move_zero : refusal held a (moving 1 0 b true) ≡ Some InvalidParam
  pub move_to_port_0 : refusal held a (moving 1 9 (a_at 0) true) ≡ Some InvalidParam
  pub move_to_port_4 : refusal held a (moving 1 9 (a_at 4) true) ≡ None
  pub move_to_port_5 : refusal held a (moving 1 9 (a_at 5) true) ≡ Some InvalidParam
  pub move_to_nobody : refusal held a (record (moving 1 9 b true) { dest = None }) ≡ Some InvalidParam
  -- RELEASE by a registered nexus that doesn't hold, of another type: nothing changes
  pub release_by_another : verdict (three_and We) b (command out.Release 2 0 5) ≡ Allowed
  pub release_by_another_accepted : refusal (three_and We) b (command out.Release 2 0 5) ≡ None
  pub release_by_another_changes_nothing : applied (three_and We) b (command out.Release 2 0 5) ≡ three_and We
  pub release_nothing : applied alone a (command out.Release 1 0 9) ≡ alone
  -- a scope other than 0
  pub reserve_scope : refusal alone a (command out.Reserve 1 0 0x11) ≡ Some InvalidField
  pub reserve_scope_again : verdict held a (command out.Reserve 1 0 0x11) ≡ Rule K4
  pub release_scope : refusal held a (command out.Release 1 0 0x11) ≡ Some InvalidRelease
  pub preempt_scope : refusal held a (command out.Preempt 1 1 0x11) ≡ Some InvalidField
  pub preempt_scope_ignored : refusal (three_and We) b (command out.Preempt 2 3 0x11) ≡ None
  -- RESERVE again by a holder of the same type changes nothing
  pub reserve_same : applied held a (command out.Reserve 1 0 1) ≡ held
  -- PRGENERATION goes from FFFFFFFFh to 0
  pub generation_wraps : (after (record alone { generation = 4294967295 }) a Clear).generation ≡ 0
