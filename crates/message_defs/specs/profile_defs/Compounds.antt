-- The profile's types of tunnels and of SN statuses.
use Rattle.std.specs.Prelude.{true, false, codes}
use Rattle.message_defs.specs.profile_defs.Forms.{Form, bit_string, sequence, sequence_of, no_components, component, named, sized}
use Rattle.message_defs.specs.profile_defs.BaseTypes.{bearer, word, unit, gnb}

-- UP Transport Layer Information of a bearer (TS 38.473, 9.3.2.1)
abbrev pub tunnel : Form
tunnel = named (codes "Tunnel") (sequence
    (component (codes "bearer") false bearer
    (component (codes "teid") false word
    no_components)) no_components)

abbrev pub tunnels : Form
tunnels = named (codes "Tunnels") (sequence_of (sized 1 8) tunnel)

-- a CU-UP of a gNB, in place of the transport layer address (TS 38.473, 9.3.2.3)
abbrev pub peer : Form
peer = named (codes "Peer") (sequence
    (component (codes "gnb") false gnb
    (component (codes "up") false unit
    no_components)) no_components)

-- DRBs Subject To Status Transfer (TS 38.423, 9.2.1.14): the next COUNT of the downlink, the first COUNT of the uplink that is missing,
-- and which of those after it were received
abbrev pub status : Form
status = named (codes "Status") (sequence
    (component (codes "bearer") false bearer
    (component (codes "dlNext") false word
    (component (codes "ulFirst") false word
    (component (codes "ulReceived") true (bit_string (sized 1 4096))
    no_components)))) no_components)

abbrev pub statuses : Form
statuses = named (codes "Statuses") (sequence_of (sized 1 8) status)
