-- The profile's module: its PDUs, and all its types, in version 1 and in version 2, which adds the name of the source to
-- HandoverRequest.
use Rattle.std.specs.Prelude.{ℕ, List, [], ◌∷◌, ◌++◌, map, codes}
use Rattle.aper_defs.specs.Trees.{Tree}
use Rattle.message_defs.specs.profile_defs.Forms.{Form, tree}
use Rattle.message_defs.specs.profile_defs.BaseTypes as types
use Rattle.message_defs.specs.profile_defs.Compounds as compounds
use Rattle.message_defs.specs.profile_defs.Tokens as tokens
use Rattle.message_defs.specs.profile_defs.Tables.{message_form, pdu_form}
use Rattle.message_defs.specs.profile_defs.Messages.{f1_messages, e1_messages, xn_messages, core_messages}

-- ---- the PDUs
abbrev pub f1ap_pdu : Form
f1ap_pdu = pdu_form (codes "F1AP-PDU") f1_messages

abbrev pub e1ap_pdu : Form
e1ap_pdu = pdu_form (codes "E1AP-PDU") e1_messages

abbrev pub xnap_pdu : (version : ℕ) → Form
xnap_pdu version = pdu_form (codes "XnAP-PDU") (xn_messages version)

abbrev pub core_pdu : Form
core_pdu = pdu_form (codes "Core-PDU") core_messages

-- ---- the module
abbrev pub module_name : List ℕ
module_name = codes "SplitGNB"

abbrev pub base_types : List Form
base_types = types.ue ∷ types.bearer ∷ types.word ∷ types.unit ∷ types.flag ∷ types.gnb ∷ types.sn_bits ∷ types.quota ∷ types.cause
    ∷ types.mode ∷ types.name ∷ types.container ∷ []

abbrev pub compound_types : List Form
compound_types = compounds.tunnel ∷ compounds.tunnels ∷ compounds.peer ∷ compounds.status ∷ compounds.statuses
    ∷ tokens.mark ∷ tokens.command ∷ tokens.rrc_token ∷ []

abbrev pub pdu_types : ℕ → List Form
pdu_types version = f1ap_pdu ∷ e1ap_pdu ∷ xnap_pdu version ∷ core_pdu ∷ []

abbrev pub message_types : ℕ → List Form
message_types version = map message_form (f1_messages ++ e1_messages ++ xn_messages version ++ core_messages)

-- the 53 types of a version, each with its name
unfoldable pub profile_types : (version : ℕ) → List Form
profile_types version = base_types ++ compound_types ++ pdu_types version ++ message_types version

-- ---- what is spelled
unfoldable pub f1_type : Tree
f1_type = tree f1ap_pdu

unfoldable pub e1_type : Tree
e1_type = tree e1ap_pdu

unfoldable pub xn_type : (version : ℕ) → Tree
xn_type version = tree (xnap_pdu version)

unfoldable pub core_type : Tree
core_type = tree core_pdu

unfoldable pub token_type : Tree
token_type = tree tokens.rrc_token
