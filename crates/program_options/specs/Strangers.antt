-- How many nexuses of hosts that no name lets in may be let in (profile).
use Rattle.std.specs.Prelude.{ℕ, ◌*◌, ◌-◌, nat_lt, Bool, true, false, Result, Ok, Err, if◌then◌else◌}
use Rattle.unit_attention.specs.Queues.{slot_limit}
use Rattle.program_options.specs.declared.option_fault.OptionFault.{OptionFault}
use Rattle.program_options.specs.declared.option_fault.OptionFault.TheVariants.{NoSlotForOthers}

-- each host that is let in by name has a slot of a unit at each portal, and the others have the rest
abbrev pub most_strangers : (any_host : Bool) → (hosts portals : ℕ) → Result ℕ OptionFault
most_strangers false hosts portals = Ok 0
most_strangers true hosts portals = if nat_lt (hosts * portals) slot_limit then Ok (slot_limit - hosts * portals) else Err NoSlotForOthers
