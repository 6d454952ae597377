use Rattle.std.proofs.Common.{◌≤◌, sym, subst, arith}
use Rattle.scsi_cdb.specs.declared.profile.Profile.{Profile}
use Rattle.frames.specs.Limits.{reply_size_limit}
use Rattle.client_session.proofs.Sessions.{each_within}
use Rattle.client_session.proofs.host_session.run_session.Goals as goal

pub send_requests-requires : goal.send_requests-requires
send_requests-requires g c = (
  omega arith,
  (
    c.requires.first_port,
    (
      c.requires.last_port,
      (
        rw c.as_slice-asked.ensures.value (each_within c.args.settings.profile c.in_ok-requests.requests.items c.in_ok-requests.ensures.within),
        (c.in_ok-read_buffer-in-Spec.ensures, subst (λ (p : Profile). reply_size_limit p ≤ 262144) (sym c.in-Spec.is) (omega arith)),
      ),
    ),
  ),
)

pub send_requests-requires-in-Hosts : goal.send_requests-requires-in-Hosts
send_requests-requires-in-Hosts g c = (
  omega arith,
  (
    c.requires.first_port,
    (
      c.requires.last_port,
      (
        rw c.as_slice-asked.ensures.value (each_within c.args.settings.profile c.in_ok-requests.requests.items c.in_ok-requests.ensures.within),
        (c.in_ok-read_buffer-in-Hosts.ensures, subst (λ (p : Profile). reply_size_limit p ≤ 2228224) (sym c.in-Hosts.is) (omega arith)),
      ),
    ),
  ),
)
