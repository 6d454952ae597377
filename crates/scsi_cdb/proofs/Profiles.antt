-- The hosts' profile decodes what the default one decodes: it has each of its commands, with the same fields where that has any.
use Rattle.std.proofs.Common.{◌≡◌, ◌==◌, ◌-◌, ◌&&◌, ℕ, Bool, true, false, cond, List, [], ◌∷◌, length, Option, Some, None, Result, Ok, Err, refl, sym, ap, ◌∙◌}
use Rattle.std.specs.Prelude.{nat_lt}
use Rattle.scsi_cdb.specs.Bits.{bit, bits, byte}
use Rattle.scsi_cdb.specs.Commands.{Row, Units, table, command_of, had, has, naca, checked, read_as, read_position, decoded}
use Rattle.scsi_cdb.specs.Profiles.{HostsDecodeWhatSpecDecodes}
use Rattle.scsi_cdb.specs.declared.fault.CdbFault.{CdbFault}
use Rattle.scsi_cdb.specs.declared.fault.CdbFault.TheVariants.{ShortCdb}
use Rattle.scsi_cdb.specs.declared.kind.Kind.{Kind}
use Rattle.scsi_cdb.specs.declared.profile.Profile.TheVariants.{Spec, Hosts}
use Rattle.scsi_cdb.specs.declared.request.Request.{Request}
use Rattle.scsi_cdb.specs.declared.request.Request.TheVariants.{ReadPosition}

-- A ROW that reads what another one reads
record Reads (a b : Row) : Type 0 where
  opcode : b.opcode ≡ a.opcode
  size : b.length ≡ a.length
  units : b.units ≡ a.units
  fields : (c : List ℕ) (q : Request) → a.fields c ≡ Some q → b.fields c ≡ Some q

same : (r : Row) → Reads r r
same r = record { opcode = refl; size = refl; units = refl; fields = λ c q h. h }

more_positions : (b c : Bool) (q : Request) → cond b (Some ReadPosition) None ≡ Some q → cond b (Some ReadPosition) (cond c (Some ReadPosition) None) ≡ Some q
more_positions true c q h = h
more_positions false c q h = absurd cc

positions : (code : ℕ) (q : Request) → read_position Spec code ≡ Some q → read_position Hosts code ≡ Some q
positions code q h = more_positions (code == 0x00) (code == 0x01) q h

-- ROWS in the same order, and more behind them
abbrev AllRead : List Row → List Row → Type 0
AllRead [] ys = Unit {0}
AllRead (x ∷ xs) [] = ⊥
AllRead (x ∷ xs) (y ∷ ys) = Reads x y × AllRead xs ys

abbrev ReadsIf : Option Row → Option Row → Type 0
ReadsIf None p = Unit {0}
ReadsIf (Some a) None = ⊥
ReadsIf (Some a) (Some b) = Reads a b

by_test : (x y : Row) (o p : Option Row) (b c : Bool) → c ≡ b → Reads x y → ReadsIf o p → ReadsIf (cond b (Some x) o) (cond c (Some y) p)
by_test x y o p true true e here rest = here
by_test x y o p false false e here rest = rest
by_test x y o p true false e here rest = absurd cc
by_test x y o p false true e here rest = absurd cc

found : (xs ys : List Row) (kind : Kind) (code : ℕ) → AllRead xs ys → ReadsIf (had kind code xs) (had kind code ys)
found [] ys kind code all = tt
found (x ∷ xs) [] kind code all = absurd all
found (x ∷ xs) (y ∷ ys) kind code all =
    by_test x y (had kind code xs) (had kind code ys) (x.opcode == code && has x.units kind) (y.opcode == code && has y.units kind)
    (ap (λ (k : ℕ). k == code && has y.units kind) all.0.opcode ∙ ap (λ (u : Units). x.opcode == code && has u kind) all.0.units) all.0
    (found xs ys kind code all.1)

-- the two tables
each_row : AllRead (table Spec) (table Hosts)
each_row = (same _, (same _, (same _, (same _, (same _, (same _, (same _, (same _, (same _, (same _, (same _, (same _, (same _, (same _, (same _, (same _, (record { opcode = refl; size = refl; units = refl; fields = λ c q h. positions (bits c 1 4 0) q h }, (same _, (same _, (same _, (same _, (same _, tt))))))))))))))))))))))

of_command : (kind : Kind) (code : ℕ) → ReadsIf (command_of Spec kind code) (command_of Hosts kind code)
unfolding command_of
of_command kind code = found (table Spec) (table Hosts) kind code each_row

-- WHAT IS READ by a row that is found
check : (x y : Bool) (o p : Option Request) (r : Request) → y ≡ x → ((q : Request) → o ≡ Some q → p ≡ Some q) → checked x o ≡ Ok r → checked y p ≡ Ok r
check x y None p r e more h = absurd cc
check true true (Some q) p r e more h = absurd cc
check false false (Some q) p r e more h = ap (checked false) (more q refl) ∙ h
check true false (Some q) p r e more h = absurd cc
check false true (Some q) p r e more h = absurd cc

abbrev read_by : (short : Bool) → Row → List ℕ → Result Request CdbFault
read_by short a cdb = cond short (Err ShortCdb) (checked (naca a cdb) (a.fields cdb))

long : (x y : Bool) (a b : Row) (cdb : List ℕ) (r : Request) → y ≡ x → Reads a b → read_by x a cdb ≡ Ok r → read_by y b cdb ≡ Ok r
long true true a b cdb r e reads h = absurd cc
long false false a b cdb r e reads h =
    check (naca a cdb) (naca b cdb) (a.fields cdb) (b.fields cdb) r (ap (λ (n : ℕ). bit cdb (n - 1) 2) reads.size) (λ q. reads.fields cdb q) h
long true false a b cdb r e reads h = absurd cc
long false true a b cdb r e reads h = absurd cc

read : (o p : Option Row) (cdb : List ℕ) (r : Request) → ReadsIf o p → read_as o cdb ≡ Ok r → read_as p cdb ≡ Ok r
read None p cdb r reads h = absurd cc
read (Some a) None cdb r reads h = absurd reads
read (Some a) (Some b) cdb r reads h =
    long (nat_lt (length cdb) a.length) (nat_lt (length cdb) b.length) a b cdb r (ap (λ (n : ℕ). nat_lt (length cdb) n) reads.size) reads h

any : (none : Bool) (x y : Result Request CdbFault) (r : Request) → (x ≡ Ok r → y ≡ Ok r) → cond none (Err ShortCdb) x ≡ Ok r → cond none (Err ShortCdb) y ≡ Ok r
any true x y r both h = absurd cc
any false x y r both h = both h

pub hosts_decode : HostsDecodeWhatSpecDecodes
hosts_decode kind cdb r h =
    any (length cdb == 0) (read_as (command_of Spec kind (byte cdb 0)) cdb) (read_as (command_of Hosts kind (byte cdb 0)) cdb) r
    (read (command_of Spec kind (byte cdb 0)) (command_of Hosts kind (byte cdb 0)) cdb r (of_command kind (byte cdb 0))) h
