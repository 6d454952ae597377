-- Terms, and offers as they come.
use Rattle.std.specs.Prelude.{ℕ, true, false, List, [], ◌∷◌, codes}
use Rattle.scsi_cdb.specs.declared.profile.Profile.TheVariants.{Spec, Hosts}
use Rattle.iscsi_keys.specs.Answers.{answer_to}
use Rattle.iscsi_keys.specs.Negotiations.{Offer}
use Rattle.iscsi_keys.specs.declared.key.Key.{Key}
use Rattle.iscsi_keys.specs.declared.word.Word.TheVariants as word
use Rattle.iscsi_keys.specs.declared.answer.KeyAnswer.{KeyAnswer}
use Rattle.iscsi_keys.specs.declared.answer.Terms.{Terms}

abbrev pub normal : Terms
normal = record { discovery = false; method = word.None; profile = Spec }

abbrev pub by_chap : Terms
by_chap = record { discovery = false; method = word.Chap; profile = Spec }

abbrev pub discovery : Terms
discovery = record { discovery = true; method = word.None; profile = Spec }

-- of a library of the hosts' profile
abbrev pub for_hosts : Terms
for_hosts = record normal { profile = Hosts }

-- the answer in a normal session, where bursts are those of the default
abbrev pub answer_for : Key → List ℕ → KeyAnswer
answer_for key value = answer_to normal 262144 key value

abbrev pub offered : (name value : List ℕ) → Offer
offered name value = record { name = name; value = value }

-- those of open-iscsi, in its order
abbrev pub initiator_offers : List Offer
initiator_offers =
    offered (codes "HeaderDigest") (codes "None")
    ∷ offered (codes "DataDigest") (codes "None")
    ∷ offered (codes "DefaultTime2Wait") (codes "2")
    ∷ offered (codes "DefaultTime2Retain") (codes "0")
    ∷ offered (codes "IFMarker") (codes "No")
    ∷ offered (codes "OFMarker") (codes "No")
    ∷ offered (codes "ErrorRecoveryLevel") (codes "0")
    ∷ offered (codes "InitialR2T") (codes "No")
    ∷ offered (codes "ImmediateData") (codes "Yes")
    ∷ offered (codes "MaxBurstLength") (codes "16776192")
    ∷ offered (codes "FirstBurstLength") (codes "262144")
    ∷ offered (codes "MaxOutstandingR2T") (codes "1")
    ∷ offered (codes "MaxConnections") (codes "1")
    ∷ offered (codes "DataPDUInOrder") (codes "Yes")
    ∷ offered (codes "DataSequenceInOrder") (codes "Yes")
    ∷ offered (codes "MaxRecvDataSegmentLength") (codes "262144")
    ∷ []
