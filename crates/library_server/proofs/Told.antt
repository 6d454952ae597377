-- Which fault is told, and what holds of it.
use Rattle.std.proofs.Common.{◌≡◌, ℕ, refl, sym, subst, Bool, true, false, Option, Some, None, inl, inr, Ok, Err, OnOk}
use Rattle.std.specs.Prelude.{◌⊎◌, IfErr, IfSome, Result, if◌then◌else◌}
use Rattle.lun_router.specs.declared.closing.CloseFault.TheVariants as close
use Rattle.library_service.specs.ClosingFaults.{MayEndWith}
use Rattle.library_service.specs.declared.closing_fault.ClosingFault.{ClosingFault}
use Rattle.library_service.specs.declared.closing_fault.ClosingFault.TheVariants as closing
use Rattle.server.specs.declared.acceptor.ServeTerm.{ServeTerm}
use Rattle.server.specs.declared.acceptor.ServeTerm.TheVariants as term
use Rattle.server.specs.declared.faulty_session.FaultySession.{FaultySession}
use Rattle.library_server.specs.declared.server_fault.ServerFault.{ServerFault}
use Rattle.library_server.specs.declared.server_fault.ServerFault.TheVariants as fault
use Rattle.library_server.specs.ServerFaults.{MayTell, closing_fault, earlier, fault_of_closing, is_before, own_fault, told_of}

-- how it went that ends without a fault, or with one
abbrev End : Type 0
End = Result (Unit {0}) ServerFault

-- how closing went
abbrev Closed : Type 0
Closed = Result (Unit {0}) ClosingFault

-- of one fault or another, whichever is told
some_of : (P : ServerFault → Type 0) (c : Bool) (a b : ServerFault) → P a → P b → IfSome (if c then Some a else Some b) P
some_of P true a b one other = one
some_of P false a b one other = other

pub earlier_keeps : (P : ServerFault → Type 0) (a b : Option ServerFault) → IfSome a P → IfSome b P → IfSome (earlier a b) P
earlier_keeps P None b one other = other
earlier_keeps P (Some a) None one other = one
earlier_keeps P (Some a) (Some b) one other = some_of P (is_before b a) b a other one

told_keeps : (P : ServerFault → Type 0) (o : Option ServerFault) → IfSome o P → IfErr (told_of o) P
told_keeps P None holds = tt
told_keeps P (Some f) holds = holds

closing_keeps : (P : ServerFault → Type 0) (r : Closed) → IfErr r (λ f. P (fault_of_closing f)) → IfSome (closing_fault r) P
closing_keeps P (Ok u) holds = tt
closing_keeps P (Err f) holds = holds

-- what holds of each fault holds of the one that is told
pub first_keeps : (P : ServerFault → Type 0) (first left : Option ServerFault) (closed : Closed) (result : End) → result ≡ told_of (earlier first (earlier left (closing_fault closed))) → IfSome first P
    → IfSome left P → IfErr closed (λ f. P (fault_of_closing f)) → IfErr result P
first_keeps P first left closed result is of_serving of_writing of_closing =
    let at_the_end = earlier_keeps P left (closing_fault closed) of_writing (closing_keeps P closed of_closing) in
    let told = earlier_keeps P first (earlier left (closing_fault closed)) of_serving at_the_end in
    subst (λ (r : End). IfErr r P) (sym is) (told_keeps P (earlier first (earlier left (closing_fault closed))) told)

one_told : (Q : Type 0) (c : Bool) (a b : ServerFault) → OnOk (told_of (if c then Some a else Some b)) Q
one_told Q true a b = tt
one_told Q false a b = tt

told_with : (Q : Type 0) (a : Option ServerFault) (f : ServerFault) → OnOk (told_of (earlier a (Some f))) Q
told_with Q None f = tt
told_with Q (Some a) f = one_told Q (is_before f a) f a

told_with_one : (Q : Type 0) (o : Option ServerFault) (c : Bool) (a b : ServerFault) → OnOk (told_of (earlier o (if c then Some a else Some b))) Q
told_with_one Q o true a b = told_with Q o a
told_with_one Q o false a b = told_with Q o b

told_where : (Q : Type 0) (o : Option ServerFault) → Q → OnOk (told_of o) Q
told_where Q None q = q
told_where Q (Some f) q = tt

end_went : {O P Q : Type 0} (first left : Option ServerFault) (closed : Closed) → (O → P → Q) → (left ≡ None → O) → OnOk closed P → OnOk (told_of (earlier first (earlier left (closing_fault closed)))) Q
end_went {O} {P} {Q} first None (Ok u) so o p = told_where Q (earlier first None) (so (o refl) p)
end_went {O} {P} {Q} first None (Err f) so o p = told_with Q first (fault_of_closing f)
end_went {O} {P} {Q} first (Some a) (Ok u) so o p = told_with Q first a
end_went {O} {P} {Q} first (Some a) (Err f) so o p = told_with_one Q first (is_before (fault_of_closing f) a) (fault_of_closing f) a

-- where no fault is told, neither writing what was left nor closing had one
pub all_went : {O P Q : Type 0} (first left : Option ServerFault) (closed : Closed) (result : End) → result ≡ told_of (earlier first (earlier left (closing_fault closed))) → (O → P → Q)
    → (left ≡ None → O) → OnOk closed P → OnOk result Q
all_went {O} {P} {Q} first left closed result is so o p = subst (λ (r : End). OnOk r Q) (sym is) (end_went first left closed so o p)

-- ---- which faults these may be

pub own_may : (term : ServeTerm) (session : Option FaultySession) → IfSome (own_fault term session) (MayTell term)
own_may term None = tt
own_may (term.Sessions count) (Some s) = refl
own_may term.UntilClosed (Some s) = tt

pub media_may : (term : ServeTerm) (kept : Option ServerFault) → IfSome kept (λ f. f ≡ fault.Media) → IfSome kept (MayTell term)
media_may term None is = tt
media_may term (Some f) is = subst (λ (g : ServerFault). MayTell term g) (sym is) tt

-- of writing what was left
pub left_may : (term : ServeTerm) (left : Option ServerFault) → IfSome left (λ f. (f ≡ fault.Write) ⊎ (f ≡ fault.NoMemory)) → IfSome left (MayTell term)
left_may term None is = tt
left_may term (Some f) (inl is) = subst (λ (g : ServerFault). MayTell term g) (sym is) tt
left_may term (Some f) (inr is) = subst (λ (g : ServerFault). MayTell term g) (sym is) tt

none_missing : (term : ServeTerm) (made seats : ℕ) (f : ClosingFault) → seats ≡ made → MayEndWith made seats f → MayTell term (fault_of_closing f)
none_missing term made seats (closing.Close close.Mismatch) same may = tt
none_missing term made seats (closing.Close close.SeatMissing) same may = absurd (may same)
none_missing term made seats (closing.Close close.NoMemory) same may = tt
none_missing term made seats closing.Write same may = tt
none_missing term made seats closing.NoMemory same may = tt

-- of closing a library with as many seats as were made
pub closed_may : (term : ServeTerm) (made seats : ℕ) (closed : Closed) → seats ≡ made → IfErr closed (λ f. MayEndWith made seats f) → IfErr closed (λ f. MayTell term (fault_of_closing f))
closed_may term made seats (Ok u) same may = tt
closed_may term made seats (Err f) same may = none_missing term made seats f same may
