-- The information elements of the profile's table, by the names that code has for them.
use Rattle.message_defs.specs.profile_defs.Elements.{Element}
use Rattle.message_defs.specs.profile_defs.Elements as ies
use Rattle.message_defs.specs.profile_defs.Tables.{mandatory, optional}
use Rattle.message_defs.specs.profile_defs.Tables as tables
use Rattle.message_values.specs.declared.elements.ElementName.{ElementName}
use Rattle.message_values.specs.declared.elements.ElementName.TheVariants as names
use Rattle.message_values.specs.declared.elements.Use.{Use}
use Rattle.message_values.specs.declared.elements.Use.TheVariants as uses

abbrev pub element_named : ElementName → Element
element_named names.Ue = ies.ue
element_named names.Instance = ies.instance
element_named names.Epoch = ies.epoch
element_named names.Bearers = ies.bearers
element_named names.Uplinks = ies.uplinks
element_named names.Downlinks = ies.downlinks
element_named names.Container = ies.container
element_named names.Cause = ies.cause
element_named names.Sn = ies.sn
element_named names.Quota = ies.quota
element_named names.Mode = ies.mode
element_named names.Peer = ies.peer
element_named names.N3 = ies.n3
element_named names.ForwardDown = ies.forward_down
element_named names.ForwardUp = ies.forward_up
element_named names.Statuses = ies.statuses
element_named names.Name = ies.name
element_named names.Forward = ies.forward
element_named names.Du = ies.du
element_named names.Final = ies.is_final

abbrev pub use_of : Use → tables.Use
use_of (uses.Mandatory name) = mandatory (element_named name)
use_of (uses.Optional name) = optional (element_named name)
