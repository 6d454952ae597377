-- How many objects of a tape count as unchanged is noted for a program that keeps a copy of the tape; no command looks at it.
use Rattle.std.specs.Prelude.{◌≡◌, ℕ, ◌==◌, if◌then◌else◌}
use Rattle.std.specs.Option.{option_map}
use Rattle.tape_medium.specs.Settling.{settled_to, settles, unsettled_place, unsettled_elements}
use Rattle.device_server.specs.View.{DeviceView, Drive, Changer}
use Rattle.device_server.specs.Ends.{IsSameDevice}

-- from now on the first so many objects of the volume at a place count as unchanged, or all where it has fewer
abbrev pub settled_at : DeviceView → (place objects : ℕ) → DeviceView
settled_at (Drive d) place objects = if place == 0 then Drive (record d { bay = option_map (settled_to objects) d.bay }) else Drive d
settled_at (Changer c) place objects = Changer (record c { elements = settles c.elements place objects })

-- as if no object of any tape counted as unchanged
abbrev pub unsettled : DeviceView → DeviceView
unsettled (Drive d) = Drive (record d { bay = unsettled_place d.bay })
unsettled (Changer c) = Changer (record c { elements = unsettled_elements c.elements })

-- the same device, but for how many objects of each tape count as unchanged
abbrev pub SameButSettled : (before after : DeviceView) → Type 0
SameButSettled before after = unsettled before ≡ unsettled after

-- which is what settling a volume leaves
abbrev pub SettlingChangesNothingElse : Type 0
SettlingChangesNothingElse = (device : DeviceView) (place objects : ℕ) → SameButSettled device (settled_at device place objects)

-- and such a device is of the same kind, profile and identity, with as many data transfer elements
abbrev pub StaysTheSameWhenSettled : Type 0
StaysTheSameWhenSettled = (before after : DeviceView) → SameButSettled before after → IsSameDevice before after
