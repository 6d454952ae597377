-- What the server writes is read again by a client.
use Rattle.std.proofs.Common.{◌≡◌, ℕ, ◌+◌, ◌-◌, ◌^◌, ◌≤◌, ◌<◌, ltb, leb, eqb, true, false, List, ◌∷◌, ◌++◌, length, take, drop, Option, None, Some, Result, refl, sym, ap, ◌∙◌, length-append, arith}
use Rattle.std.proofs.lemmas.Bool.{le-ltb, le-leb, ne_eqb}
use Rattle.scsi_cdb.specs.declared.profile.Profile.{Profile}
use Rattle.scsi_cdb.specs.declared.profile.Profile.TheVariants.{Spec, Hosts}
use Rattle.byteorder.specs.Endian.{big_bytes, big_number}
use Rattle.byteorder.specs.Numbers.{big_number-reads_back}
use Rattle.scsi_sense.specs.declared.fault.SenseFault.{SenseFault}
use Rattle.scsi_sense.specs.declared.sense.Sense.{Sense}
use Rattle.scsi_sense.specs.declared.status.Status.{Status}
use Rattle.scsi_sense.specs.declared.status.Status.TheVariants.{Good, CheckCondition, Busy, ReservationConflict}
use Rattle.scsi_sense.specs.Status.{status_code}
use Rattle.scsi_sense.specs.FixedSense.{IsWritable, ReadsBack, fixed_sense, decoded_sense}
use Rattle.frames.specs.declared.reply_frame.LoginAnswer.{LoginAnswer}
use Rattle.frames.specs.declared.reply_frame.LoginAnswer.TheVariants.{Accepted, AlreadyConnected}
use Rattle.frames.specs.Limits.{reply_data_limit, reply_limit}
use Rattle.frames.specs.Replies.{ReplyFrameValue, LoginReply, CommandReply, ResetReply, LogoutReply, IsShort, reply_body, reply_bytes}
use Rattle.frames.specs.ParsedReplies.{Complete, IsTellable, coded_status, parsed_reset_status, parsed_numbered, parsed_with_sense, parsed_sense, parsed_status, parsed_reply_body, parsed_sized_reply, parsed_reply}
use Rattle.frames.proofs.WrittenFrames.{take_seam, length_read, body_behind, long_enough, length_whole}

pub parsed_reply_is : (pr : Profile) (b : List ℕ) → 4 ≤ length b → parsed_reply pr b ≡ parsed_sized_reply pr (big_number 4 b) (drop 4 b)
unfolding parsed_reply
parsed_reply_is pr b four = let here : ltb (length b) 4 ≡ false = le-ltb _ _ four in rw here refl

parsed_reply_of_body : (pr : Profile) (body rest : List ℕ) → length body < 2 ^ 32
    → parsed_reply pr ((big_bytes 4 (length body) ++ body) ++ rest) ≡ parsed_sized_reply pr (length body) (body ++ rest)
parsed_reply_of_body pr body rest h =
    parsed_reply_is pr ((big_bytes 4 (length body) ++ body) ++ rest) (long_enough body rest)
    ∙ ap (λ (n : ℕ). parsed_sized_reply pr n (drop 4 ((big_bytes 4 (length body) ++ body) ++ rest))) (length_read body rest h)
    ∙ ap (λ (xs : List ℕ). parsed_sized_reply pr (length body) xs) (body_behind body rest)

coded_again : (status : Status) → coded_status (status_code status) ≡ Some status
coded_again Good = refl
coded_again CheckCondition = refl
coded_again Busy = refl
coded_again ReservationConflict = refl

-- the number of the record and the data
numbered_again : (status : Status) (sense : Option Sense) (before size number : ℕ) (payload rest : List ℕ) → number < 2 ^ 64 → size ≡ 8 +
    length payload
    → parsed_numbered status sense before size (big_bytes 8 number ++ (payload ++ rest)) ≡ Complete
    (CommandReply status sense number payload) (before + size)
numbered_again status sense before size number payload rest wide is =
    let whole : ltb (length (big_bytes 8 number ++ (payload ++ rest))) size ≡ false = le-ltb _ _ (omega (arith, length-append payload rest))
    in
    let found : parsed_numbered status sense before size (big_bytes 8 number ++ (payload ++ rest))
    ≡ Complete (CommandReply status sense (big_number 8 (big_bytes 8 number ++ (payload ++ rest))) (take (size - 8) (payload ++ rest)))
    (before + size) = rw whole refl in
    found
    ∙ ap (λ (n : ℕ). Complete (CommandReply status sense n (take (size - 8) (payload ++ rest))) (before + size))
    (big_number-reads_back 8 number (payload ++ rest) wide)
    ∙ ap (λ (xs : List ℕ). Complete (CommandReply status sense number xs) (before + size)) (take_seam payload rest (size - 8) (omega arith))

-- the sense data, and what follows them
sensed_again : ReadsBack → (status : Status) (sense : Sense) (size : ℕ) (left : List ℕ) → IsWritable sense → 29 ≤ size
    → parsed_sense status size (fixed_sense sense ++ left) ≡ parsed_numbered status (Some sense) 25 (size - 21) left
sensed_again reads status sense size left can least =
    let long : ltb size 29 ≡ false = le-ltb _ _ least in
    let there : ltb (length (fixed_sense sense ++ left)) 18 ≡ false = le-ltb _ _ (omega arith) in
    let found : parsed_sense status size (fixed_sense sense ++ left) ≡ parsed_with_sense status size (fixed_sense sense ++ left)
    (decoded_sense (fixed_sense sense)) =
    rw (long, there) refl in
    found ∙ ap (λ (r : Result Sense SenseFault). parsed_with_sense status size (fixed_sense sense ++ left) r) (reads sense can)

sized_command_reply : (pr : Profile) (status : Status) (size : ℕ) (fields : List ℕ) → 11 ≤ size → size ≤ reply_limit pr
    → parsed_sized_reply pr size (0x82 ∷ status_code status ∷ fields) ≡ parsed_status (Some status) size fields
unfolding parsed_reply_body
sized_command_reply pr status size fields least most =
    let some : eqb size 0 ≡ false = ne_eqb _ _ (λ e. omega (arith, e)) in
    let short : ltb (reply_limit pr) size ≡ false = le-ltb _ _ most in
    let enough : leb 11 size ≡ true = le-leb _ _ least in
    let found : parsed_sized_reply pr size (0x82 ∷ status_code status ∷ fields) ≡ parsed_status (coded_status (status_code status)) size fields
    = rw (some, short, enough) refl in
    found ∙ ap (λ (o : Option Status). parsed_status o size fields) (coded_again status)

plain_again : (pr : Profile) (status : Status) (size number : ℕ) (payload rest : List ℕ) → number < 2 ^ 64 → size ≡ 11 + length payload → length payload ≤
    reply_data_limit pr
    → parsed_sized_reply pr size (0x82 ∷ status_code status ∷ 0 ∷ (big_bytes 8 number ++ (payload ++ rest))) ≡ Complete
    (CommandReply status None number payload) (4 + size)
plain_again pr status size number payload rest wide is short =
    let count : 7 + (size - 3) ≡ 4 + size = omega arith in
    sized_command_reply pr status size _ (omega arith) (omega arith)
    ∙ numbered_again status None 7 (size - 3) number payload rest wide (omega arith)
    ∙ ap (λ (n : ℕ). Complete (CommandReply status None number payload) n) count

with_sense_again : (pr : Profile) → ReadsBack → (status : Status) (sense : Sense) (size number : ℕ) (payload rest : List ℕ) → IsWritable sense → number < 2 ^
    64
    → size ≡ 29 + length payload → length payload ≤ reply_data_limit pr
    → parsed_sized_reply pr size (0x82 ∷ status_code status ∷ 0x12 ∷ (fixed_sense sense ++ (big_bytes 8 number ++ (payload ++ rest))))
    ≡ Complete (CommandReply status (Some sense) number payload) (4 + size)
with_sense_again pr reads status sense size number payload rest can wide is short =
    let count : 25 + (size - 21) ≡ 4 + size = omega arith in
    sized_command_reply pr status size _ (omega arith) (omega arith)
    ∙ sensed_again reads status sense size (big_bytes 8 number ++ (payload ++ rest)) can (omega arith)
    ∙ numbered_again status (Some sense) 25 (size - 21) number payload rest wide (omega arith)
    ∙ ap (λ (n : ℕ). Complete (CommandReply status (Some sense) number payload) n) count

login_reply_again : (pr : Profile) (answer : LoginAnswer) (rest : List ℕ) → parsed_sized_reply pr 2 (reply_body (LoginReply answer) ++ rest) ≡ Complete
    (LoginReply answer) 6
unfolding parsed_reply_body
login_reply_again Spec Accepted rest = refl
login_reply_again Spec AlreadyConnected rest = refl
login_reply_again Hosts Accepted rest = refl
login_reply_again Hosts AlreadyConnected rest = refl

reset_reply_again : (pr : Profile) (status : Status) (rest : List ℕ)
    → parsed_sized_reply pr 2 (reply_body (ResetReply status) ++ rest) ≡ Complete (ResetReply status) 6
unfolding parsed_reply_body
reset_reply_again Spec status rest = ap parsed_reset_status (coded_again status)
reset_reply_again Hosts status rest = ap parsed_reset_status (coded_again status)

logout_reply_again : (pr : Profile) (rest : List ℕ) → parsed_sized_reply pr 1 (reply_body LogoutReply ++ rest) ≡ Complete LogoutReply 5
unfolding parsed_reply_body
logout_reply_again Spec rest = refl
logout_reply_again Hosts rest = refl

-- a whole body
reply_body_again : (pr : Profile) → ReadsBack → (r : ReplyFrameValue) (rest : List ℕ) → IsShort pr r → IsTellable r
    → parsed_sized_reply pr (length (reply_body r)) (reply_body r ++ rest) ≡ Complete r (4 + length (reply_body r))
unfolding parsed_reply_body
reply_body_again pr reads (LoginReply answer) rest short can = login_reply_again pr answer rest
reply_body_again pr reads (CommandReply status None number payload) rest short can =
    plain_again pr status (length (reply_body (CommandReply status None number payload))) number payload rest can.0 (omega arith) short
reply_body_again pr reads (CommandReply status (Some sense) number payload) rest short can =
    with_sense_again pr reads status sense (length (reply_body (CommandReply status (Some sense) number payload))) number payload rest can.1
    can.0 (omega arith) short
reply_body_again pr reads (ResetReply status) rest short can = reset_reply_again pr status rest
reply_body_again pr reads LogoutReply rest short can = logout_reply_again pr rest

reply_data_bound : (pr : Profile) → reply_data_limit pr ≤ 1048576
reply_data_bound Spec = omega arith
reply_data_bound Hosts = omega arith

reply_fits : (pr : Profile) (r : ReplyFrameValue) → IsShort pr r → length (reply_body r) < 2 ^ 32
reply_fits pr (LoginReply answer) short = omega arith
reply_fits pr (CommandReply status None number payload) short = omega (arith, short, reply_data_bound pr)
reply_fits pr (CommandReply status (Some sense) number payload) short = omega (arith, short, reply_data_bound pr)
reply_fits pr (ResetReply status) short = omega arith
reply_fits pr LogoutReply short = omega arith

pub reply_again : (pr : Profile) → ReadsBack → (r : ReplyFrameValue) (rest : List ℕ) → IsShort pr r → IsTellable r → parsed_reply pr (reply_bytes r ++ rest) ≡
    Complete r (length (reply_bytes r))
reply_again pr reads r rest short can =
    parsed_reply_of_body pr (reply_body r) rest (reply_fits pr r short) ∙ reply_body_again pr reads r rest short can
    ∙ ap (λ (n : ℕ). Complete r n) (sym (length_whole (reply_body r)))
