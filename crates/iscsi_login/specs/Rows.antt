-- Worked rows: what no portal shows of logins.
use Rattle.std.specs.Prelude.{◌≡◌, ℕ, true, false, List, [], ◌∷◌, ◌++◌, Some, None, Err, codes}
use Rattle.iscsi_pdu.specs.declared.login_request.LoginRequest.{LoginRequest}
use Rattle.iscsi_pdu.specs.declared.login_status.LoginStatus.TheVariants as status
use Rattle.iscsi_pdu.specs.declared.stage.Stage.{Stage}
use Rattle.iscsi_pdu.specs.declared.stage.Stage.TheVariants as stage
use Rattle.iscsi_chap.specs.Accesses.{admitted_among}
use Rattle.iscsi_chap.specs.Algorithms.{chosen_algorithm}
use Rattle.iscsi_chap.specs.declared.algorithm.ChapAlgorithm.TheVariants.{Sha256}
use Rattle.iscsi_chap.specs.declared.algorithm.ChapDigests.TheVariants as taken
use Rattle.iscsi_chap.specs.declared.challenge.Challenge.{Challenge}
use Rattle.iscsi_chap.specs.declared.access.Host.{Host}
use Rattle.iscsi_chap.specs.declared.access.Admission.TheVariants.{Listed}
use Rattle.iscsi_login.specs.Chaps.{asked}
use Rattle.iscsi_login.specs.ExchangeRuns.{first_offer}
use Rattle.iscsi_login.specs.Logins.{begun, stepped, step_of}
use Rattle.iscsi_login.specs.declared.login.Login.{Login}
use Rattle.iscsi_login.specs.declared.login.LoginEnd.TheVariants as ends
use Rattle.iscsi_login.specs.declared.login.LoginStep.TheVariants.{Ends}
use Rattle.iscsi_login.specs.declared.target.LoginTarget.{LoginTarget}

-- a request with T from one stage to another
abbrev pub request : (current next : Stage) → LoginRequest
request current next = record {
  transit = true;
  continues = false;
  current_stage = current;
  next_stage = next;
  version_max = 0;
  version_min = 0;
  isid = 0x00023D000001;
  tsih = 0;
  initiator_task_tag = 0;
  cid = 0;
  cmd_sn = record { number = 1 };
  exp_stat_sn = record { number = 0 };
}

-- one that leads back to security negotiation, and one from there on
abbrev pub back : LoginRequest
back = request stage.LoginOperationalNegotiation stage.SecurityNegotiation

abbrev pub on : LoginRequest
on = request stage.SecurityNegotiation stage.LoginOperationalNegotiation

abbrev pub behind_back : LoginTarget → (text : List ℕ) → Login
behind_back target text = stepped (begun 1) target back text

-- a text of one item
abbrev pub offer : (item : List ℕ) → List ℕ
offer item = item ++ 0 ∷ []

pub record LoginsNoPortalShows (target : LoginTarget) (text : List ℕ) : Type 0 where
  -- a login that has ended stays so
  pub refused : step_of (behind_back target text) back ≡ Ends (ends.Refused status.InitiatorError)
  pub refused_again : step_of (stepped (behind_back target text) target on text) on ≡ Ends (ends.Refused status.InitiatorError)
  -- without a challenge nobody is let in
  pub without_a_challenge : asked taken.Sha256AndMd5 None true (codes "CHAP_A=7" ++ 0 ∷ []) ≡ Err status.TargetError
  -- nor is who offers MD5 alone to a target that doesn't take it
  pub md5_alone : (challenge : Challenge) → asked taken.Sha256 (Some challenge) true (codes "CHAP_A=5" ++ 0 ∷ []) ≡ Err status.AuthenticationFailure
  -- a host that is named twice is the first
  pub named_twice : (first second : Host) → first.name.items ≡ codes "iqn.a" → second.name.items ≡ codes "iqn.a"
      → admitted_among false (first ∷ second ∷ []) (codes "iqn.a") ≡ Some (Listed first.sas)
  -- of what is offered the first text counts, and of its algorithms SHA-256, whatever comes later
  pub offered_first : first_offer (offer (codes "CHAP_N=a") ∷ (offer (codes "CHAP_A=5,7") ∷ (offer (codes "CHAP_A=5") ∷ []))) ≡ Some (codes "5,7")
  pub no_offer : first_offer (offer (codes "AuthMethod=CHAP,None") ∷ []) ≡ None
  pub of_both : chosen_algorithm taken.Sha256AndMd5 (codes "5,7") ≡ Some Sha256
