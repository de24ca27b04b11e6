-- The information elements of the profile's messages: of each its id and its type.
use Rattle.std.specs.Prelude.{ℕ}
use Rattle.message_defs.specs.profile_defs.Forms.{Form}
use Rattle.message_defs.specs.profile_defs.BaseTypes as types
use Rattle.message_defs.specs.profile_defs.Compounds as compounds

pub record Element : Type 0 where
  pub id : ℕ
  pub form : Form

abbrev pub an_element : ℕ → Form → Element
an_element id form = record { id = id; form = form }

abbrev pub ue : Element
ue = an_element 1 types.ue

abbrev pub instance : Element
instance = an_element 2 types.word

abbrev pub epoch : Element
epoch = an_element 3 types.word

abbrev pub bearers : Element
bearers = an_element 4 types.bearer

abbrev pub uplinks : Element
uplinks = an_element 5 compounds.tunnels

abbrev pub downlinks : Element
downlinks = an_element 6 compounds.tunnels

abbrev pub container : Element
container = an_element 7 types.container

abbrev pub cause : Element
cause = an_element 8 types.cause

abbrev pub sn : Element
sn = an_element 9 types.sn_bits

abbrev pub quota : Element
quota = an_element 10 types.quota

abbrev pub mode : Element
mode = an_element 11 types.mode

abbrev pub peer : Element
peer = an_element 12 compounds.peer

abbrev pub n3 : Element
n3 = an_element 13 compounds.tunnels

abbrev pub forward_down : Element
forward_down = an_element 14 compounds.tunnels

abbrev pub forward_up : Element
forward_up = an_element 15 compounds.tunnels

abbrev pub statuses : Element
statuses = an_element 16 compounds.statuses

abbrev pub name : Element
name = an_element 17 types.name

abbrev pub forward : Element
forward = an_element 18 types.flag

abbrev pub du : Element
du = an_element 19 types.unit

abbrev pub is_final : Element
is_final = an_element 20 types.flag
