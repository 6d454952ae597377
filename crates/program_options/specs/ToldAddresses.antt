-- Addresses that initiators are told for a portal: a host, a colon and a port (RFC 7143, "TargetAddress").
use Rattle.std.specs.Prelude.{ℕ, ◌≡◌, ◌+◌, ◌-◌, ◌==◌, ◌&&◌, ◌||◌, ◌⊎◌, nat_lt, nat_le, Bool, true, false, List, length, take, drop, position, slice_index, Option, Some, None}
use Rattle.std.specs.Char.{is_ascii_alphanumeric}
use Rattle.std.specs.List.{list_all}
use Rattle.std.specs.Net.Grammar.{IsIpv6Text}
use Rattle.std.specs.declared.net.ipv6_addr.Ipv6Addr.{Ipv6Addr}
use Rattle.program_options.specs.Sizes.{number_in}

-- a letter, a digit, "-" or "."
abbrev pub is_host_byte : ℕ → Bool
is_host_byte b = is_ascii_alphanumeric b || (b == 45 || b == 46)

-- 1 to 253 of them, with a letter or a digit at both ends. The text of an IPv4 address is such a name, too.
abbrev pub is_host_name : List ℕ → Bool
is_host_name name =
    nat_lt 0 (length name) && (nat_le (length name) 253 && (list_all is_host_byte name
    && (is_ascii_alphanumeric (slice_index name 0) && is_ascii_alphanumeric (slice_index name (length name - 1)))))

abbrev pub is_port_number : Option ℕ → Bool
is_port_number None = false
is_port_number (Some number) = nat_le number 65535

-- from 1 to 65535, in decimal, of which the first digit isn't 0
abbrev pub is_port : List ℕ → Bool
is_port digits = is_port_number (number_in digits)

abbrev pub is_named_at : Option ℕ → List ℕ → Bool
is_named_at None text = false
is_named_at (Some place) text = is_host_name (take place text) && is_port (drop (place + 1) text)

-- a host name and a port stand on the two sides of the first colon
abbrev pub is_named : List ℕ → Bool
is_named text = is_named_at (position (λ b. b == 58) text) text

abbrev pub IsIpv6 : List ℕ → Type 0
IsIpv6 text = (address : Ipv6Addr) × IsIpv6Text text address

abbrev pub is_port_behind : List ℕ → Bool
is_port_behind text = slice_index text 0 == 58 && is_port (drop 1 text)

abbrev pub IsClosedAt : Option ℕ → List ℕ → Type 0
IsClosedAt None rest = ⊥
IsClosedAt (Some place) rest = IsIpv6 (take place rest) × (is_port_behind (drop (place + 1) rest) ≡ true)

-- behind "[" an IPv6 address stands before the first "]", and a colon and a port behind that
abbrev pub IsBehindBracket : List ℕ → Type 0
IsBehindBracket rest = IsClosedAt (position (λ b. b == 93) rest) rest

abbrev pub IsBracketed : List ℕ → Type 0
IsBracketed text = (slice_index text 0 ≡ 91) × IsBehindBracket (drop 1 text)

abbrev pub IsToldAddress : List ℕ → Type 0
IsToldAddress text = (is_named text ≡ true) ⊎ IsBracketed text
