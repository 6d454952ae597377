use Rattle.std.specs.Prelude.{◌<◌, length}
use Rattle.tape_medium.specs.Elements.{Elements, Element, Transport, DataTransfer, ImportExport, Storage, Nowhere}
use Rattle.element_map.specs.declared.address.Element.{Element as Found}
use Rattle.element_map.specs.declared.address.Element.TheVariants as found

-- the element that is found
abbrev pub named : Found → Element
named found.Transport = Transport
named (found.DataTransfer i) = DataTransfer i
named (found.ImportExport i) = ImportExport i
named (found.Storage i) = Storage i
named found.Nowhere = Nowhere

-- its number is one of its type's
abbrev pub IsWithin : Elements → Found → Type 0
IsWithin e found.Transport = Unit {0}
IsWithin e (found.DataTransfer i) = i < length e.data_transfer
IsWithin e (found.ImportExport i) = i < length e.import_export
IsWithin e (found.Storage i) = i < length e.storage
IsWithin e found.Nowhere = Unit {0}
