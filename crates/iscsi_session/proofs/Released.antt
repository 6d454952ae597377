-- Replies that are released, one ticket after another.
use Rattle.std.proofs.Common.{◌≡◌, ◌∙◌, ℕ, ◌+◌, ◌<◌, ◌≤◌, List, [], ◌∷◌, ◌++◌, length, drop, get_or, refl, sym, ap, subst, append_assoc, append-nil}
use Rattle.std.proofs.Math.ListN.{drop_of_length-le}
use Rattle.std.proofs.lemmas.List.{drop_more}
use Rattle.std.proofs.lemmas.List.Elements.{All-append, All-cons, All-nil}
use Rattle.iscsi_pdu.specs.Pdus.{TargetPduValue}
use Rattle.iscsi_pdu.specs.declared.serial_number.SerialNumber.{SerialNumber}
use Rattle.iscsi_tasks.specs.Holding.{answers_due}
use Rattle.iscsi_tasks.specs.Next.{next_of}
use Rattle.iscsi_tasks.specs.Runs.{Settled, stepped}
use Rattle.iscsi_tasks.specs.Values.{TasksValue}
use Rattle.iscsi_tasks.specs.declared.held_reply.DueAnswer.{DueAnswer}
use Rattle.tickets.specs.declared.ticket.ReplyTicket.{ReplyTicket}
use Rattle.tickets.specs.declared.ticket.Outcome.{Outcome}
use Rattle.iscsi_session.specs.Releasing.{Releases, ReleasesAll, SaysDue, Settlement, response_to}

-- some PDUs are always an answer to them
pub says_something : (k : TasksValue) (stat_sn : SerialNumber) (due : List DueAnswer)
    → (said : List TargetPduValue) × SaysDue k due said
says_something k stat_sn [] = ([], refl)
says_something k stat_sn (answer ∷ due) =
    let others = says_something k stat_sn due in (
      response_to k stat_sn answer.command answer.response ++ others.0,
      (stat_sn, others.0, refl, others.1),
    )

-- an answer more, in front of those that are left
pub due_more : (k k1 : TasksValue) (stat_sn : SerialNumber) (due : List DueAnswer) (i : ℕ) (d : DueAnswer)
    (said : List TargetPduValue) → i < length due → k1 ≡ k
    → ((others : List TargetPduValue) → SaysDue k (drop i due) others → SaysDue k due (said ++ others))
    → (others : List TargetPduValue) → SaysDue k (drop (i + 1) due) others
    → SaysDue k due ((said ++ response_to k1 stat_sn (get_or due i d).command (get_or due i d).response) ++ others)
due_more k k1 stat_sn due i d said within same so others rest =
    let a : DueAnswer = get_or due i d in
    let first : List TargetPduValue = response_to k stat_sn a.command a.response in
    subst (λ (v : TasksValue). SaysDue k due ((said ++ response_to v stat_sn a.command a.response) ++ others)) (sym same)
    (subst (λ (l : List TargetPduValue). SaysDue k due l) (sym (append_assoc said first others))
    (so (first ++ others) (subst (λ (l : List DueAnswer). SaysDue k l (first ++ others)) (sym (drop_more due i d within))
    (stat_sn, others, refl, rest))))

pub due_all : (k : TasksValue) (due : List DueAnswer) (i : ℕ) (said : List TargetPduValue) → length due ≤ i
    → ((others : List TargetPduValue) → SaysDue k (drop i due) others → SaysDue k due (said ++ others)) → SaysDue k due said
due_all k due i said past so =
    subst (λ (l : List TargetPduValue). SaysDue k due l) (append-nil said)
    (so [] (subst (λ (l : List DueAnswer). SaysDue k l []) (sym (drop_of_length-le due past)) refl))

-- where tasks and answers are known by other names
pub due_as : (k k1 : TasksValue) (due is : List DueAnswer) (said : List TargetPduValue) → k1 ≡ k → due ≡ is → SaysDue k due said
    → SaysDue k1 is said
due_as k k1 due is said same named so =
    subst (λ (v : TasksValue). SaysDue v is said) (sym same) (subst (λ (l : List DueAnswer). SaysDue k l said) named so)

all_append : (xs ys : List Settlement) (k k1 k' : TasksValue) (a b : List TargetPduValue) → ReleasesAll xs k a k1 → ReleasesAll ys k1 b k'
    → ReleasesAll (xs ++ ys) k (a ++ b) k'
all_append [] ys k k1 k' a b one two =
    subst (λ (v : TasksValue). ReleasesAll ys v (a ++ b) k') one.1
    (subst (λ (l : List TargetPduValue). ReleasesAll ys k1 (l ++ b) k') (sym one.0) two)
all_append (x ∷ xs) ys k k1 k' a b one two = (
  one.0,
  one.1 ++ b,
  ap (λ (l : List TargetPduValue). l ++ b) one.2 ∙ append_assoc one.0 one.1 b,
  one.3,
  all_append xs ys (stepped k (Settled x.ticket x.outcome)) k1 k' one.1 b one.4 two,
)

pub releases_then : (settles : ReplyTicket → Outcome → Type 0) (k k1 k' : TasksValue) (a b : List TargetPduValue) → Releases settles k a k1
    → Releases settles k1 b k' → Releases settles k (a ++ b) k'
releases_then settles k k1 k' a b one two = (
  one.0 ++ two.0,
  All-append (λ (x : Settlement). settles x.ticket x.outcome) one.0 two.0 one.1 two.1,
  all_append one.0 two.0 k k1 k' a b one.2 two.2,
)

-- one ticket
pub releases_one : (settles : ReplyTicket → Outcome → Type 0) (k k' : TasksValue) (ticket : ReplyTicket) (outcome : Outcome)
    (said : List TargetPduValue) → settles ticket outcome → k' ≡ stepped k (Settled ticket outcome)
    → SaysDue k' (answers_due ticket outcome k.replies) said → Releases settles k said k'
releases_one settles k k' ticket outcome said told steps due =
    let x : Settlement = record { ticket = ticket; outcome = outcome } in
    let holds = λ (y : Settlement). settles y.ticket y.outcome in (
      x ∷ [],
      All-cons holds x [] told (All-nil holds),
      (
        said,
        [],
        sym (append-nil said),
        subst (λ (v : TasksValue). SaysDue v (answers_due ticket outcome k.replies) said) steps due,
        (refl, steps),
      ),
    )

pub releases_none : (settles : ReplyTicket → Outcome → Type 0) (k : TasksValue) → Releases settles k [] k
releases_none settles k = ([], All-nil (λ (y : Settlement). settles y.ticket y.outcome), (refl, refl))

-- what is to be done next stays
all_next : (xs : List Settlement) (k k' : TasksValue) (said : List TargetPduValue) → ReleasesAll xs k said k' → next_of k' ≡ next_of k
all_next [] k k' said so = ap next_of so.1
all_next (x ∷ xs) k k' said so = all_next xs (stepped k (Settled x.ticket x.outcome)) k' so.1 so.4

pub releases_next : (settles : ReplyTicket → Outcome → Type 0) (k k' : TasksValue) (said : List TargetPduValue) → Releases settles k said k'
    → next_of k' ≡ next_of k
releases_next settles k k' said so = all_next so.0 k k' said so.2
