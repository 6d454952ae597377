-- One item of a text after another.
use Rattle.std.proofs.Common.{◌≡◌, ℕ, ◌+◌, ◌-◌, ◌<◌, suc, true, false, cond, Bool, List, Some, Result, Ok, Err, sym, ap, ◌∙◌, arith}
use Rattle.std.specs.Str.{bytes_eq}
use Rattle.iscsi_keys.specs.Texts.{ItemValue, Pair, first_item}
use Rattle.iscsi_keys.specs.Negotiations.{answered, negotiated}
use Rattle.iscsi_keys.specs.declared.answer.KeyAnswer.{KeyAnswer}
use Rattle.iscsi_keys.specs.declared.fault.NegotiationFault.{NegotiationFault}
use Rattle.iscsi_keys.specs.declared.negotiation.Negotiation.{Negotiation}
use Rattle.iscsi_login.specs.Names.{declared_within, declared_at}
use Rattle.iscsi_login.specs.Offers.{negotiated_within, negotiated_at, unless_ended, fault_status}

one_fewer : (most i : ℕ) → i < most → most - i ≡ suc (most - (i + 1))
one_fewer most i h = omega arith

declared_item : (most i : ℕ) (wanted text : List ℕ) (item : ItemValue) → i < most → item ≡ first_item text
    → declared_within (most - i) wanted text ≡ declared_at (declared_within (most - (i + 1)) wanted) wanted item
declared_item most i wanted text item h e =
    ap (λ n. declared_within n wanted text) (one_fewer most i h) ∙ ap (declared_at (declared_within (most - (i + 1)) wanted) wanted) (sym e)

-- the key is there
pub declared_here : (most i : ℕ) (wanted text name value rest : List ℕ) → i < most → Pair name value rest ≡ first_item text → bytes_eq name wanted ≡ true
    → declared_within (most - i) wanted text ≡ Some value
declared_here most i wanted text name value rest h e same =
    declared_item most i wanted text (Pair name value rest) h e ∙ ap (λ (b : Bool). cond b (Some value) (declared_within (most - (i + 1)) wanted rest)) same

-- it may be behind
pub declared_behind : (most i : ℕ) (wanted text name value rest : List ℕ) → i < most → Pair name value rest ≡ first_item text → bytes_eq name wanted ≡ false
    → declared_within (most - i) wanted text ≡ declared_within (most - (i + 1)) wanted rest
declared_behind most i wanted text name value rest h e other =
    declared_item most i wanted text (Pair name value rest) h e ∙ ap (λ (b : Bool). cond b (Some value) (declared_within (most - (i + 1)) wanted rest)) other

pub negotiated_item : (most i : ℕ) (n : Negotiation) (text : List ℕ) (item : ItemValue) → i < most → item ≡ first_item text
    → negotiated_within (most - i) n text ≡ negotiated_at (negotiated_within (most - (i + 1))) n item
negotiated_item most i n text item h e =
    ap (λ k. negotiated_within k n text) (one_fewer most i h) ∙ ap (negotiated_at (negotiated_within (most - (i + 1))) n) (sym e)

-- the answer to an item lets the login go on
pub negotiated_behind : (most i : ℕ) (n : Negotiation) (text name value rest : List ℕ) (a : KeyAnswer) → i < most → Pair name value rest ≡ first_item text → answered n name value ≡ Ok a
    → negotiated_within (most - i) n text ≡ negotiated_within (most - (i + 1)) (negotiated n name value) rest
negotiated_behind most i n text name value rest a h e ok =
    negotiated_item most i n text (Pair name value rest) h e
    ∙ ap (λ (r : Result KeyAnswer NegotiationFault). unless_ended r (negotiated_within (most - (i + 1)) (negotiated n name value) rest)) ok

-- it ends the login
pub negotiated_ends : (most i : ℕ) (n : Negotiation) (text name value rest : List ℕ) (f : NegotiationFault) → i < most → Pair name value rest ≡ first_item text → answered n name value ≡ Err f
    → negotiated_within (most - i) n text ≡ Err (fault_status f)
negotiated_ends most i n text name value rest f h e ends =
    negotiated_item most i n text (Pair name value rest) h e
    ∙ ap (λ (r : Result KeyAnswer NegotiationFault). unless_ended r (negotiated_within (most - (i + 1)) (negotiated n name value) rest)) ends
