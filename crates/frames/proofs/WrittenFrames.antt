-- What a client writes is read again.
use Rattle.std.proofs.Common.{◌≡◌, ℕ, ◌+◌, ◌-◌, ◌^◌, ◌≤◌, ◌<◌, ltb, leb, eqb, Bool, true, false, List, ◌∷◌, ◌++◌, length, take, drop, refl, sym, ap, ◌∙◌, append_assoc, length-append, arith}
use Rattle.std.proofs.lemmas.Bool.{le-ltb, le-leb, ne_eqb}
use Rattle.std.proofs.lemmas.List.{drop-drop}
use Rattle.std.proofs.Math.Seq.{take-append_seam, drop-append_seam}
use Rattle.scsi_cdb.specs.declared.profile.Profile.{Profile}
use Rattle.scsi_cdb.specs.declared.profile.Profile.TheVariants.{Spec, Hosts}
use Rattle.byteorder.specs.Endian.{big_bytes, big_number}
use Rattle.byteorder.specs.Numbers.{big_number-reads_back, length-bytes_high_first}
use Rattle.scsi_nexus.specs.declared.nexus.Nexus.{Nexus}
use Rattle.frames.specs.Limits.{frame_limit}
use Rattle.frames.specs.Frames.{FrameValue, Login, Command, Reset, Logout, Complete, named_login, parsed_login, whole_command, parsed_command, parsed_body, parsed_sized, parsed_frame}
use Rattle.frames.specs.Sending.{IsSendable, HasWidth, is_behind_login, frame_body, frame_bytes}
use Rattle.frames.specs.Stream.{Stop, Reads, frame}
use Rattle.frames.proofs.Streams.{parsed_is}

-- what stands before a known seam, and behind it
pub take_seam : (xs ys : List ℕ) (n : ℕ) → n ≡ length xs → take n (xs ++ ys) ≡ xs
take_seam xs ys n e = ap (λ (k : ℕ). take k (xs ++ ys)) e ∙ take-append_seam xs ys

pub drop_seam : (xs ys : List ℕ) (n : ℕ) → n ≡ length xs → drop n (xs ++ ys) ≡ ys
drop_seam xs ys n e = ap (λ (k : ℕ). drop k (xs ++ ys)) e ∙ drop-append_seam xs ys

-- four bytes of length, and then a body and a rest: the length is read, and the body and the rest lie behind it
pub length_read : (body rest : List ℕ) → length body < 2 ^ 32 → big_number 4 ((big_bytes 4 (length body) ++ body) ++ rest) ≡ length body
length_read body rest h =
    ap (big_number 4) (append_assoc (big_bytes 4 (length body)) body rest) ∙ big_number-reads_back 4 (length body) (body ++ rest) h

pub body_behind : (body rest : List ℕ) → drop 4 ((big_bytes 4 (length body) ++ body) ++ rest) ≡ body ++ rest
body_behind body rest =
    ap (drop 4) (append_assoc (big_bytes 4 (length body)) body rest)
    ∙ drop_seam (big_bytes 4 (length body)) (body ++ rest) 4 (sym (length-bytes_high_first 4 (length body)))

pub long_enough : (body rest : List ℕ) → 4 ≤ length ((big_bytes 4 (length body) ++ body) ++ rest)
long_enough body rest =
    omega (
      arith,
      length-append (big_bytes 4 (length body) ++ body) rest,
      length-append (big_bytes 4 (length body)) body,
      length-bytes_high_first 4 (length body),
    )

parsed_frame_of_body : (pr : Profile) (l : Bool) (body rest : List ℕ) → length body < 2 ^ 32
    → parsed_frame pr l ((big_bytes 4 (length body) ++ body) ++ rest) ≡ parsed_sized pr l (length body) (body ++ rest)
parsed_frame_of_body pr l body rest h =
    parsed_is pr l ((big_bytes 4 (length body) ++ body) ++ rest) (long_enough body rest)
    ∙ ap (λ (n : ℕ). parsed_sized pr l n (drop 4 ((big_bytes 4 (length body) ++ body) ++ rest))) (length_read body rest h)
    ∙ ap (λ (xs : List ℕ). parsed_sized pr l (length body) xs) (body_behind body rest)

login_named : (nexus : Nexus) → 1 ≤ nexus.port → nexus.port ≤ 4 → named_login nexus ≡ Complete (Login nexus) 15
login_named nexus least most = grind arith

-- the fields of a LOGIN
login_fields : (nexus : Nexus) (fields : List ℕ) → 10 ≤ length fields → big_number 8 fields ≡ nexus.sas → big_number 2 (drop 8 fields) ≡
    nexus.port
    → 1 ≤ nexus.port → nexus.port ≤ 4 → parsed_login fields ≡ Complete (Login nexus) 15
login_fields nexus fields long sas port least most =
    let here : ltb (length fields) 10 ≡ false = le-ltb _ _ long in
    let found : parsed_login fields ≡ named_login (record { sas = big_number 8 fields; port = big_number 2 (drop 8 fields) }) = rw here refl
    in
    found
    ∙ ap (λ (n : ℕ). named_login (record { sas = n; port = big_number 2 (drop 8 fields) })) sas
    ∙ ap (λ (n : ℕ). named_login (record { sas = nexus.sas; port = n })) port
    ∙ login_named nexus least most

login_again : (nexus : Nexus) (rest : List ℕ) → nexus.sas < 2 ^ 64 → 1 ≤ nexus.port → nexus.port ≤ 4
    → parsed_login ((big_bytes 8 nexus.sas ++ big_bytes 2 nexus.port) ++ rest) ≡ Complete (Login nexus) 15
login_again nexus rest wide least most =
    login_fields nexus ((big_bytes 8 nexus.sas ++ big_bytes 2 nexus.port) ++ rest) (omega arith)
    (big_number-reads_back 8 nexus.sas (big_bytes 2 nexus.port ++ rest) wide) (big_number-reads_back 2 nexus.port rest (omega arith)) least
    most

-- the fields of a COMMAND
command_tests : (lun size count : ℕ) (more : List ℕ) → 1 ≤ count → count ≤ 16 → 3 + count ≤ size → size ≤ 3 + length more
    → parsed_command size (lun ∷ count ∷ more) ≡ Complete (whole_command size count (lun ∷ count ∷ more)) (4 + size)
command_tests lun size count more least most fits long =
    let two : ltb (length (lun ∷ count ∷ more)) 2 ≡ false = le-ltb _ _ (omega arith) in
    let some : eqb count 0 ≡ false = ne_eqb _ _ (λ e. omega (arith, e)) in
    let short : ltb 16 count ≡ false = le-ltb _ _ most in
    let within : ltb size (3 + count) ≡ false = le-ltb _ _ fits in
    let whole : ltb (length (lun ∷ count ∷ more)) (size - 1) ≡ false = le-ltb _ _ (omega arith) in
    rw (two, some, short, within, whole) refl

command_cut : (lun size : ℕ) (cdb bytes rest : List ℕ) → size ≡ 3 + length cdb + length bytes
    → whole_command size (length cdb) (lun ∷ length cdb ∷ ((cdb ++ bytes) ++ rest)) ≡ Command lun cdb bytes
command_cut lun size cdb bytes rest is =
    let fields : List ℕ = lun ∷ length cdb ∷ ((cdb ++ bytes) ++ rest) in
    let joined : (cdb ++ bytes) ++ rest ≡ cdb ++ (bytes ++ rest) = append_assoc cdb bytes rest in
    let first : take (length cdb) ((cdb ++ bytes) ++ rest) ≡ cdb = ap (take (length cdb)) joined ∙ take-append_seam cdb (bytes ++ rest) in
    let behind : drop (2 + length cdb) (lun ∷ length cdb ∷ ((cdb ++ bytes) ++ rest)) ≡ bytes ++ rest =
    sym (drop-drop (length cdb) 2 (lun ∷ length cdb ∷ ((cdb ++ bytes) ++ rest))) ∙ ap (drop (length cdb)) joined ∙ drop-append_seam cdb
    (bytes ++ rest) in
    let sent : take (size - 3 - length cdb) (drop (2 + length cdb) (lun ∷ length cdb ∷ ((cdb ++ bytes) ++ rest))) ≡ bytes =
    ap (take (size - 3 - length cdb)) behind ∙ take_seam bytes rest (size - 3 - length cdb) (omega arith) in
    ap (λ (xs : List ℕ). Command lun xs (take (size - 3 - length cdb) (drop (2 + length cdb)
    (lun ∷ length cdb ∷ ((cdb ++ bytes) ++ rest))))) first
    ∙ ap (λ (xs : List ℕ). Command lun cdb xs) sent

command_again : (lun size : ℕ) (cdb bytes rest : List ℕ) → 1 ≤ length cdb → length cdb ≤ 16 → size ≡ 3 + length cdb + length bytes
    → parsed_command size (lun ∷ length cdb ∷ ((cdb ++ bytes) ++ rest)) ≡ Complete (Command lun cdb bytes) (4 + size)
command_again lun size cdb bytes rest least most is =
    command_tests lun size (length cdb) ((cdb ++ bytes) ++ rest) least most (omega arith)
    (omega (arith, length-append (cdb ++ bytes) rest, length-append cdb bytes))
    ∙ ap (λ (s : FrameValue). Complete s (4 + size)) (command_cut lun size cdb bytes rest is)

sized_command_body : (pr : Profile) (size : ℕ) (fields : List ℕ) → 4 ≤ size → size ≤ frame_limit pr → parsed_sized pr true size (0x02 ∷ fields) ≡ parsed_command
    size fields
unfolding parsed_body
sized_command_body pr size fields least most =
    let some : eqb size 0 ≡ false = ne_eqb _ _ (λ e. omega (arith, e)) in
    let short : ltb (frame_limit pr) size ≡ false = le-ltb _ _ most in
    let four : leb 4 size ≡ true = le-leb _ _ least in
    rw (some, short, four) refl

-- a whole body
login_body_again : (pr : Profile) (nexus : Nexus) (rest : List ℕ) → nexus.sas < 2 ^ 64 → 1 ≤ nexus.port → nexus.port ≤ 4
    → parsed_sized pr false 11 (frame_body (Login nexus) ++ rest) ≡ Complete (Login nexus) 15
unfolding parsed_body
login_body_again Spec nexus rest wide least most = login_again nexus rest wide least most
login_body_again Hosts nexus rest wide least most = login_again nexus rest wide least most

reset_body_again : (pr : Profile) (lun : ℕ) (rest : List ℕ) → parsed_sized pr true 2 (frame_body (Reset lun) ++ rest) ≡ Complete (Reset lun) 6
unfolding parsed_body
reset_body_again Spec lun rest = refl
reset_body_again Hosts lun rest = refl

logout_body_again : (pr : Profile) (rest : List ℕ) → parsed_sized pr true 1 (frame_body Logout ++ rest) ≡ Complete Logout 5
unfolding parsed_body
logout_body_again Spec rest = refl
logout_body_again Hosts rest = refl

body_again : (pr : Profile) (f : FrameValue) (rest : List ℕ) → IsSendable pr f → HasWidth f
    → parsed_sized pr (is_behind_login f) (length (frame_body f)) (frame_body f ++ rest) ≡ Complete f (4 + length (frame_body f))
body_again pr (Login nexus) rest can wide = login_body_again pr nexus rest wide can.0 can.1
body_again pr (Command lun cdb bytes) rest can wide =
    let size : length (frame_body (Command lun cdb bytes)) ≡ 3 + length cdb + length bytes = omega (arith, length-append cdb bytes) in
    sized_command_body pr (length (frame_body (Command lun cdb bytes))) (lun ∷ length cdb ∷ ((cdb ++ bytes) ++ rest))
    (omega (arith, size, can.0)) (omega (arith, size, can.2))
    ∙ command_again lun (length (frame_body (Command lun cdb bytes))) cdb bytes rest can.0 can.1 size
body_again pr (Reset lun) rest can wide = reset_body_again pr lun rest
body_again pr Logout rest can wide = logout_body_again pr rest

frame_bound : (pr : Profile) → frame_limit pr ≤ 1114112
frame_bound Spec = omega arith
frame_bound Hosts = omega arith

body_fits : (pr : Profile) (f : FrameValue) → IsSendable pr f → length (frame_body f) < 2 ^ 32
body_fits pr (Login nexus) can = omega arith
body_fits pr (Command lun cdb bytes) can = omega (arith, length-append cdb bytes, can.2, frame_bound pr)
body_fits pr (Reset lun) can = omega arith
body_fits pr Logout can = omega arith

pub length_whole : (body : List ℕ) → length (big_bytes 4 (length body) ++ body) ≡ 4 + length body
length_whole body = omega (arith, length-append (big_bytes 4 (length body)) body, length-bytes_high_first 4 (length body))

pub frame_again : (pr : Profile) (f : FrameValue) (rest : List ℕ) → IsSendable pr f → HasWidth f → parsed_frame pr (is_behind_login f) (frame_bytes f ++ rest) ≡
    Complete f (length (frame_bytes f))
frame_again pr f rest can wide =
    parsed_frame_of_body pr (is_behind_login f) (frame_body f) rest (body_fits pr f can) ∙ body_again pr f rest can wide
    ∙ ap (λ (n : ℕ). Complete f n) (sym (length_whole (frame_body f)))

pub sent_in_stream : (pr : Profile) (f : FrameValue) (rest : List ℕ) (others : List FrameValue) (stop : Stop) → IsSendable pr f → HasWidth f
    → Reads pr true rest others stop → Reads pr (is_behind_login f) (frame_bytes f ++ rest) (f ∷ others) stop
sent_in_stream pr f rest others stop can wide more =
    frame (is_behind_login f) (frame_bytes f ++ rest) f (length (frame_bytes f)) others stop (frame_again pr f rest can wide)
    (rw (drop-append_seam (frame_bytes f) rest) more)
