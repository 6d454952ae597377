-- The longest frames and replies of sessions of libraries of a profile (profile).
use Rattle.std.specs.Prelude.{ℕ, ◌+◌, ◌-◌, ◌*◌}
use Rattle.scsi_cdb.specs.declared.profile.Profile.{Profile}
use Rattle.scsi_cdb.specs.declared.profile.Profile.TheVariants.{Spec, Hosts}

-- the most bytes of a frame's body
abbrev pub frame_limit : Profile → ℕ
frame_limit Spec = 131072
frame_limit Hosts = 1114112

-- the same in any profile
abbrev pub longest_frame : ℕ
longest_frame = 1114112

-- the most bytes of a frame: its body behind the four bytes of its length
abbrev pub frame_size_limit : Profile → ℕ
frame_size_limit profile = 4 + frame_limit profile

-- the most data of a COMMAND with any CDB: its kind, its unit and the length of the CDB come before, and a CDB of 16 bytes
abbrev pub command_data_limit : Profile → ℕ
command_data_limit profile = frame_limit profile - 19

-- the most data of an answer that a reply carries
abbrev pub reply_data_limit : Profile → ℕ
reply_data_limit Spec = 65536
reply_data_limit Hosts = 1048576

-- the most bytes of a reply's body: kind, status, length of the sense data, 18 bytes of sense data, the record's number in eight, and
-- the data of an answer
abbrev pub reply_limit : Profile → ℕ
reply_limit profile = 29 + reply_data_limit profile

-- the same in any profile
abbrev pub longest_reply : ℕ
longest_reply = 1048605

-- the most bytes of a reply: its body behind the four bytes of its length
abbrev pub reply_size_limit : Profile → ℕ
reply_size_limit profile = 4 + reply_limit profile

-- room for what was read of a stream, some twice the longest frame
abbrev pub frame_buffer_size : Profile → ℕ
frame_buffer_size profile = 2 * frame_limit profile
