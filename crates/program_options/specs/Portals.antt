-- Where initiators of iSCSI may come in, and what address they are told for it (profile).
use Rattle.std.specs.Prelude.{ℕ, ◌+◌, ◌==◌, Bool, true, ◌≡◌, ◌⊎◌, List, drop, position, Option}
use Rattle.std.specs.List.{before_first}
use Rattle.std.specs.Option.{option_map}
use Rattle.std.specs.Net.Addr.{IsLoopbackV4, IsLoopbackV6, MatchIp}
use Rattle.std.specs.Net.Socket.{socket_ip}
use Rattle.std.specs.declared.net.socket_addr.SocketAddr.{SocketAddr}

-- none but programs of the same machine reach it
abbrev pub IsLoopback : SocketAddr → Type 0
IsLoopback address = MatchIp (socket_ip address) IsLoopbackV4 IsLoopbackV6

-- who reaches it from elsewhere must show who he is, unless it was said that nobody must
abbrev pub IsGuarded : (is_said : Bool) → SocketAddr → Type 0
IsGuarded is_said address = (is_said ≡ true) ⊎ IsLoopback address

-- what stands before the first "=" of a portal's text
abbrev pub listened_in : List ℕ → List ℕ
listened_in text = before_first (λ b. b == 61) text

-- and behind it, if it is there
abbrev pub told_in : List ℕ → Option (List ℕ)
told_in text = option_map (λ place. drop (place + 1) text) (position (λ b. b == 61) text)
