use Rattle.std.proofs.Common.{◌∷◌, [], codes, refl, arith, inl, inr}
use Rattle.std.specs.Net.Grammar.{IsElided}
use Rattle.std.specs.declared.net.ipv6_addr.Ipv6Addr.{Ipv6Addr}
use Rattle.hex.specs.Hex.{decode_pairs}
use Rattle.sha2.specs.Sha256.{sha256, digest_bytes, hash_after, compress, rounds, schedule, first_words}
use Rattle.program_options.specs.Profiles.{number_of_target}
use Rattle.program_options.proofs.laws.worked_rows.Goals as goal

pub returns-clause-addresses : goal.returns-clause-addresses
unfolding decode_pairs
returns-clause-addresses c = record {
  small_letters = refl;
  capital_letters = refl;
  too_few_digits = refl;
  too_many_digits = refl;
  no_digit = refl;
  prefix = refl;
  nexus = refl;
  no_nexus = refl;
}

pub returns-clause-hosts : goal.returns-clause-hosts
unfolding decode_pairs
returns-clause-hosts c = record { host = refl; no_sign = refl; short_address = refl; two_signs = refl; no_name = refl }

-- `::1`
abbrev loopback : Ipv6Addr
loopback = record { segments = 0 ∷ 0 ∷ 0 ∷ 0 ∷ 0 ∷ 0 ∷ 0 ∷ 1 ∷ [] }

elided : IsElided (codes "::1") (0 ∷ 0 ∷ 0 ∷ 0 ∷ 0 ∷ 0 ∷ 0 ∷ 1 ∷ [])
elided = record {
  head_text = [];
  tail_text = codes "1";
  head = [];
  tail = 1 ∷ [];
  spelled = refl;
  head_groups = refl;
  tail_groups = inl (codes "1", [], refl, (((omega arith, (omega arith, tt)), refl), omega arith), refl);
  room = omega arith;
  value = refl;
}

pub returns-clause-portals : goal.returns-clause-portals
returns-clause-portals c = record {
  listened = refl;
  told = refl;
  listened_alone = refl;
  nothing_told = refl;
  told_nothing = refl;
  two_signs = refl;
  name = refl;
  ipv4 = refl;
  ipv6 = inr (refl, ((loopback, inr elided), refl));
  one_letter = refl;
  last_port = refl;
  longest_name = refl;
  too_long_name = refl;
  no_port = refl;
  empty_port = refl;
  port_zero = refl;
  port_of_17_bits = refl;
  leading_zero = refl;
  signed_port = refl;
  no_host = refl;
  first_hyphen = refl;
  last_dot = refl;
  underscore = refl;
  comma = refl;
  bare_ipv6 = refl;
  port_behind = refl;
  no_port_behind = refl;
  no_colon_behind = refl;
}

pub returns-clause-profiles : goal.returns-clause-profiles
unfolding decode_pairs
returns-clause-profiles c = record {
  default_profile = refl;
  hosts_profile = refl;
  capital_letters = refl;
  nothing = refl;
  number = refl;
  small_letters = refl;
  short_number = refl;
  long_number = refl;
  no_digit = refl;
  usual = refl;
  hosts = refl;
  numbered = refl;
  number_for_hosts = refl;
  number_alone = refl;
  number_for_default = refl;
  no_number = refl;
}

pub returns-clause-targets : goal.returns-clause-targets
unfolding number_of_target sha256 digest_bytes hash_after compress rounds schedule first_words
returns-clause-targets c = record { usual = refl; other = refl }
