-- Allowed calls, one after another.
use Rattle.std.proofs.Common.{◌≡◌, true, false, sym, ap, subst, ◌∙◌, arith}
use Rattle.tape_flush.specs.declared.known.Known.{Known}
use Rattle.tape_flush.specs.Stores.{StoreCall, Truncate, Append, Sync, Note}
use Rattle.tape_flush.specs.Careful.{after, Allowed, GoesOn, stays, calls, IsInOrder}
use Rattle.tape_flush.specs.Watched.{WatchedValue}

pub one_call : {S : Type 0} (did : S → StoreCall → S → Type 0) (file file' : S) (known known' : Known) (call : StoreCall) → Allowed known call → did file call file'
    → known' ≡ after known call → GoesOn did file known file' known'
one_call did file file' known known' call allowed done is =
    subst (λ (k : Known). GoesOn did file known file' k) (sym is) (calls file file file' known known call (stays file known) allowed done)

pub joined : {S : Type 0} (did : S → StoreCall → S → Type 0) (a b c : S) (k l m : Known) → GoesOn did a k b l → GoesOn did b l c m → GoesOn did a k c m
joined did a _ _ k _ _ before (stays b l) = before
joined did a _ _ k _ _ before (calls b p c l q call more allowed done) =
    calls a p c k q call (joined did a b p k l q before more) allowed done

order_stays : (k : Known) (call : StoreCall) → IsInOrder k → Allowed k call → IsInOrder (after k call)
order_stays k (Truncate size true) o a = (omega arith, omega arith, o.2)
order_stays k (Truncate size false) o a = (omega arith, omega arith, o.2)
order_stays k (Append offset bytes true) o a = (o.0, omega arith, o.2)
order_stays k (Append offset bytes false) o a = o
order_stays k (Sync true) o a = (omega arith, omega arith, o.2)
order_stays k (Sync false) o a = (o.0, omega arith, o.2)
order_stays k (Note size true) o a = (a, o.1, omega arith)
order_stays k (Note size false) o a = (omega arith, o.1, omega arith)

pub in_order : {S : Type 0} (did : S → StoreCall → S → Type 0) (a b : S) (k l : Known) → IsInOrder k → GoesOn did a k b l → IsInOrder l
in_order did _ _ _ _ o (stays a k) = o
in_order did _ _ _ _ o (calls a b c k l call before allowed done) = order_stays l call (in_order did a b k l o before) allowed

-- a call at a file that is seen with what is known of it
pub called : {S : Type 0} (did : S → StoreCall → S → Type 0) (inside watched : WatchedValue S) (file' : S) (known' : Known) (call : StoreCall) → inside ≡ watched → Allowed watched.known call
    → did inside.store call file' → known' ≡ after inside.known call → GoesOn did watched.store watched.known file' known'
called did inside watched file' known' call same allowed done is =
    one_call did watched.store file' watched.known known' call allowed (subst (λ (w : WatchedValue _). did w.store call file') same done)
    (is ∙ ap (λ (w : WatchedValue _). after w.known call) same)
