-- The profile's plain types. Each stands for a type of the standards, with the bounds that this project's networks have.
use Rattle.std.specs.Prelude.{[], ◌∷◌, true, false, None, pos, codes}
use Rattle.message_defs.specs.profile_defs.Forms.{Form, boolean, integer, enumerated, octet_string, printable_string, named, sized_extensible}

-- ---- what is numbered
-- a terminal, in place of gNB-CU UE F1AP ID (TS 38.473, 9.3.1.4) and its fellows
abbrev pub ue : Form
ue = named (codes "UE") (integer (pos 1) (pos 16))

-- DRB ID (TS 38.473, 9.3.1.8; TS 37.483, 9.3.1.16); also how many there are, from 1 on
abbrev pub bearer : Form
bearer = named (codes "Bearer") (integer (pos 1) (pos 8))

-- a number of 32 bits: a GTP-TEID (TS 38.473, 9.3.2.2), a COUNT (TS 38.323, 6.3.5), an instance, an epoch
abbrev pub word : Form
word = named (codes "Word") (integer (pos 0) (pos 4294967295))

-- a CU-UP or a DU of a gNB, in place of gNB-CU-UP ID and gNB-DU ID (TS 37.483, 9.3.1.15; TS 38.473, 9.3.1.9)
abbrev pub unit : Form
unit = named (codes "Unit") (integer (pos 1) (pos 2))

-- how many packets a bearer may hold in each direction; the profile's own
abbrev pub quota : Form
quota = named (codes "Quota") (integer (pos 4) (pos 4096))

-- ---- what is one of a few
abbrev pub flag : Form
flag = named (codes "Flag") boolean

-- Global gNB ID (TS 38.423, 9.2.2.1)
abbrev pub gnb : Form
gnb = named (codes "Gnb") (enumerated (codes "a" ∷ codes "b" ∷ []) false)

-- how many bits a PDCP SN has (TS 38.323, 6.3.2)
abbrev pub sn_bits : Form
sn_bits = named (codes "SnBits") (enumerated (codes "len12" ∷ codes "len18" ∷ []) false)

-- Cause (TS 37.483, 9.3.1.2; TS 38.423, 9.2.3.2)
abbrev pub cause : Form
cause = named (codes "Cause") (enumerated (codes "quota" ∷ codes "busy" ∷ codes "unit" ∷ []) true)

-- what a Bearer Context Modification is for (TS 37.483, 8.3.2); the profile's own
abbrev pub mode : Form
mode = named (codes "Mode") (enumerated (codes "uplinks" ∷ codes "switch" ∷ codes "freeze" ∷ codes "status" ∷ codes "resume" ∷ []) true)

-- ---- strings
-- gNB-DU Name and gNB-CU-UP Name, of the two setup requests (TS 38.473, 9.2.1.4; TS 37.483, 9.2.1.4)
abbrev pub name : Form
name = named (codes "Name") (printable_string (sized_extensible 1 150))

-- RRC-Container (TS 38.473, 9.3.1.6)
abbrev pub container : Form
container = named (codes "Container") (octet_string None)
