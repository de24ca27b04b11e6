-- The tokens that stand for messages of RRC (TS 38.331, 6.2.2), between a terminal and its CU-CP.
use Rattle.std.specs.Prelude.{false, codes}
use Rattle.message_defs.specs.profile_defs.Forms.{Form, sequence, choice, no_components, component, named}
use Rattle.message_defs.specs.profile_defs.BaseTypes.{ue, word, unit, gnb}

abbrev pub mark : Form
mark = named (codes "Mark") (sequence
    (component (codes "ue") false ue
    (component (codes "epoch") false word
    no_components)) no_components)

abbrev pub command : Form
command = named (codes "Command") (sequence
    (component (codes "ue") false ue
    (component (codes "epoch") false word
    (component (codes "gnb") false gnb
    (component (codes "du") false unit
    no_components)))) no_components)

-- RRCReconfiguration with synchronisation, RRCReconfigurationComplete, RRCReestablishmentRequest, and what accepts an epoch
abbrev pub rrc_token : Form
rrc_token = named (codes "RrcToken") (choice
    (component (codes "command") false command
    (component (codes "complete") false mark
    (component (codes "reestablish") false mark
    (component (codes "accepted") false mark
    no_components)))))
