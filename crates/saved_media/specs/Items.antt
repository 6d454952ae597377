-- The numbers of what a keeper is asked to keep, in a library of so many images (profile).
use Rattle.std.specs.Prelude.{ℕ, min, ◌+◌, ◌*◌, ◌-◌, ◌/◌, ◌%◌, ◌==◌, ◌&&◌, nat_lt, nat_le, Option, Some, None, if◌then◌else◌}
use Rattle.saved_media.specs.declared.item.KeptItem.{KeptItem}
use Rattle.saved_media.specs.declared.item.KeptItem.TheVariants.{Tape, Moved, Inventory, Backlog}

-- so many images have items at most
abbrev pub most_images : ℕ
most_images = 1000000

-- so many images of a library have items: the first ones
abbrev pub numbered : (images : ℕ) → ℕ
numbered images = min images most_images

-- two of each image, one of the inventory, and one of each drive, by its LUN
abbrev pub number_of : (images : ℕ) → KeptItem → Option ℕ
number_of images (Tape image) = if nat_lt image images then Some (2 * image) else None
number_of images (Moved image) = if nat_lt image images then Some (2 * image + 1) else None
number_of images Inventory = Some (2 * images)
number_of images (Backlog lun) = if nat_le 1 lun && nat_le lun 4 then Some (2 * images + lun) else None

-- that of a number among those of the images
abbrev pub item_of_image : (number : ℕ) → KeptItem
item_of_image number = if number % 2 == 0 then Tape (number / 2) else Moved (number / 2)

-- that of a number behind those of the images
abbrev pub item_behind : (number : ℕ) → Option KeptItem
item_behind number = if number == 0 then Some Inventory else if nat_le number 4 then Some (Backlog number) else None

abbrev pub item_at : (images number : ℕ) → Option KeptItem
item_at images number = if nat_lt number (2 * images) then Some (item_of_image number) else item_behind (number - 2 * images)
