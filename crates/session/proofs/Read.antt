-- What several reads take, one after another.
use Rattle.std.proofs.Common.{false, ◌⊎◌, inl, inr, ◌≡◌, ◌≤◌, ◌<◌, ◌+◌, ◌-◌, ◌*◌, ℕ, Option, Some, None, List, [], ◌∷◌, ◌++◌, length, length-append}
use Rattle.std.proofs.Common.{refl, sym, ap, subst, ◌∙◌, append_assoc, append-nil, arith}
use Rattle.std.specs.Prelude.{Result, Ok, Err, IfOk, IfErr}
use Rattle.std.specs.Io.KnownBytes.{Consumes, Keeps}
use Rattle.scsi_cdb.specs.declared.profile.Profile.{Profile}
use Rattle.scsi_cdb.specs.declared.profile.Profile.TheVariants.{Spec, Hosts}
use Rattle.frames.specs.Limits.{frame_size_limit, frame_buffer_size}
use Rattle.frames.specs.Frames.{Invalid, parsed_frame}
use Rattle.read_buffer.specs.Reading.{Filled}
use Rattle.frames.specs.declared.fault.FrameFault.{FrameFault}
use Rattle.frames.specs.declared.fault.FrameFault.TheVariants.{BadFrame, TooLong}
use Rattle.session.specs.Faults.{of_frame}
use Rattle.scsi_nexus.specs.declared.nexus.Nexus.{Nexus}
use Rattle.session.specs.declared.fault.SessionFault.{SessionFault}
use Rattle.session.specs.declared.fault.SessionFault.TheVariants as session
use Rattle.session.specs.declared.login.LoginWait.TheVariants.{Login}
use Rattle.session.specs.Login.{Awaits, IsKeptOutBy, KeepsOut, ReadsAtMost, fault_before_login}

pub consumes_none : (left : Option (List ℕ)) → Consumes left left []
consumes_none None = tt
consumes_none (Some xs) = refl

pub consumes_more : (a b c : Option (List ℕ)) (xs ys : List ℕ) → Consumes a b xs → Consumes b c ys → Consumes a c (xs ++ ys)
consumes_more None b c xs ys one two = tt
consumes_more (Some us) None c xs ys one two = absurd one
consumes_more (Some us) (Some vs) None xs ys one two = absurd two
consumes_more (Some us) (Some vs) (Some ws) xs ys one two = one ∙ ap (λ (l : List ℕ). xs ++ l) two ∙ sym (append_assoc xs ys ws)

empty : (xs : List ℕ) → length xs ≡ 0 → xs ≡ []
empty [] e = refl
empty (x ∷ xs) e = absurd cc

-- a read of nothing
pub nothing_more : (read_buffer inbox' : List ℕ) (n : ℕ) (left left' : Option (List ℕ)) → Filled n read_buffer inbox' left left' → n ≡ 0 →
    inbox' ≡ read_buffer
nothing_more read_buffer inbox' n left left' got none =
    got.1 ∙ ap (λ (xs : List ℕ). read_buffer ++ xs) (empty got.0 (got.2 ∙ none)) ∙ append-nil read_buffer

-- there is room for more than a part of a frame
pub room_for_frame : (pr : Profile) → frame_size_limit pr ≤ frame_buffer_size pr
room_for_frame Spec = omega arith
room_for_frame Hosts = omega arith

-- no read at all
pub reads_none : (most : ℕ) (left : Option (List ℕ)) → ReadsAtMost most left left
reads_none most left = ([], consumes_none left, omega arith)

-- one read more
pub reads_more : (pr : Profile) (turn count : ℕ) (pending pending' : List ℕ) (a b c : Option (List ℕ)) → ReadsAtMost (turn * frame_buffer_size pr) a b
    → Filled count pending pending' b c → count ≤ frame_buffer_size pr → ReadsAtMost ((turn + 1) * frame_buffer_size pr) a c
reads_more pr turn count pending pending' a b c so got most =
    (so.0 ++ got.0, consumes_more a b c so.0 got.0 so.1 got.3, omega (arith, so.2, got.2, length-append so.0 got.0))

-- a read that failed took nothing
pub reads_kept : (most : ℕ) (a b c : Option (List ℕ)) → ReadsAtMost most a b → Keeps b c → ReadsAtMost most a c
reads_kept most None b c so kept = (so.0, tt, so.2)
reads_kept most (Some xs) None c so kept = absurd so.1
reads_kept most (Some xs) (Some ys) None so kept = absurd kept
reads_kept most (Some xs) (Some ys) (Some zs) so kept = (so.0, subst (λ (l : List ℕ). xs ≡ so.0 ++ l) (sym kept) so.1, so.2)

-- fewer reads are no more
pub reads_within : (pr : Profile) (few most : ℕ) (a b : Option (List ℕ)) → few ≤ most → ReadsAtMost (few * frame_buffer_size pr) a b → ReadsAtMost
    (most * frame_buffer_size pr) a b
reads_within Spec few most a b le so = (so.0, so.1, omega (arith, so.2))
reads_within Hosts few most a b le so = (so.0, so.1, omega (arith, so.2))

-- the reads up to a LOGIN, and those behind it
pub reads_then : (pr : Profile) (turns others : ℕ) (a b c : Option (List ℕ)) → others ≤ turns → ReadsAtMost ((turns - others) * frame_buffer_size pr) a b
    → ReadsAtMost (others * frame_buffer_size pr) b c → ReadsAtMost (turns * frame_buffer_size pr) a c
reads_then Spec turns others a b c le first rest =
    (first.0 ++ rest.0, consumes_more a b c first.0 rest.0 first.1 rest.1, omega (arith, first.2, rest.2, length-append first.0 rest.0))
reads_then Hosts turns others a b c le first rest =
    (first.0 ++ rest.0, consumes_more a b c first.0 rest.0 first.1 rest.1, omega (arith, first.2, rest.2, length-append first.0 rest.0))

-- one read more, of those that there may be
pub reads_on : (pr : Profile) (turn turns count : ℕ) (pending pending' : List ℕ) (a b c : Option (List ℕ)) → turn < turns → ReadsAtMost
    (turn * frame_buffer_size pr) a b
    → Filled count pending pending' b c → count ≤ frame_buffer_size pr → ReadsAtMost (turns * frame_buffer_size pr) a c
reads_on pr turn turns count pending pending' a b c lt so got most =
    reads_within pr (turn + 1) turns a c (omega arith) (reads_more pr turn count pending pending' a b c so got most)

-- one read more of all that is pending
pub consumes_filled : (count : ℕ) (pending pending' : List ℕ) (a b c : Option (List ℕ)) → Consumes a b pending
    → Filled count pending pending' b c → Consumes a c pending'
consumes_filled count pending pending' a b c so got = subst (λ (xs : List ℕ). Consumes a c xs) (sym got.1)
    (consumes_more a b c pending got.0 so got.3)

-- what is no frame keeps out
pub keeps_out : (pr : Profile) (fault : FrameFault) (read : List ℕ) → parsed_frame pr false read ≡ Invalid fault → KeepsOut pr (of_frame fault) read
keeps_out pr BadFrame read e = ap fault_before_login e
keeps_out pr TooLong read e = ap fault_before_login e

-- a LOGIN whose nexus isn't taken
pub kept_out : (pr : Profile) (fault : SessionFault) (turns others : ℕ) (nexus : Nexus) (left left' : Option (List ℕ)) (pending : List ℕ)
    → (fault ≡ session.AlreadyConnected) ⊎ (fault ≡ session.NoMemory) → Awaits pr turns left left' pending (Login nexus others) → IsKeptOutBy pr
    fault left left'
kept_out pr fault turns others nexus left left' pending (inl e) came = rw e (record {
  read = came.0;
  consumed = came.2;
  shown =
      (nexus, came.1, came.3);
})
kept_out pr fault turns others nexus left left' pending (inr e) came = rw e (record { read = came.0; consumed = came.2; shown = tt })

-- and one of which the host couldn't be told so
pub kept_untold : (pr : Profile) (fault : SessionFault) (turns others : ℕ) (nexus : Nexus) (left left' : Option (List ℕ)) (pending : List ℕ) → fault ≡
    session.Write
    → Awaits pr turns left left' pending (Login nexus others) → IsKeptOutBy pr fault left left'
kept_untold pr fault turns others nexus left left' pending e came = rw e (record {
  read = came.0;
  consumed = came.2;
  shown =
      (nexus, came.1, came.3);
})

-- what follows from a value, and from an error
pub if_ok : {T E : Type 0} (r : Result T E) (P Q : T → Type 0) → ((x : T) → P x → Q x) → IfOk r P → IfOk r Q
if_ok (Ok x) P Q f h = f x h
if_ok (Err e) P Q f h = tt

pub if_err : {T E : Type 0} (r : Result T E) (P Q : E → Type 0) → ((e : E) → P e → Q e) → IfErr r P → IfErr r Q
if_err (Ok x) P Q f h = tt
if_err (Err e) P Q f h = f e h
