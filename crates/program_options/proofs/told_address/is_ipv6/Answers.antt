use Rattle.std.proofs.Common.{false, refl}
use Rattle.std.proofs.lemmas.Bool.{both_ways}
use Rattle.program_options.proofs.told_address.is_ipv6.Goals as goal

pub returns-in-Err : goal.returns-in-Err
returns-in-Err c = (λ same. absurd (both_ways false refl same), λ ip. absurd (c.in-Err.ensures ip.0 ip.1))
