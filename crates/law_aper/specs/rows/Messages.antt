-- Messages of the split base station: types of its module, and spellings that were worked out.
use Rattle.std.specs.Prelude.{List, [], ◌∷◌, Some, None, true, false, pos, codes}
use Rattle.aper_defs.specs.Trees.{Tree, integer, enumerated, octet_string, printable_string, sequence, choice, sequence_of, container, pdu, no_parts, part, no_rows, row, no_procedures, procedure, no_outcome, outcome}
use Rattle.aper_defs.specs.Values.{number, enumeral, octets, components, chosen, elements, message, raw, no_options, present, no_ies, ie}
use Rattle.law_aper.specs.rows.Row.{Row, size, spells}

abbrev pub ue : Tree
ue = (integer (pos 1) (pos 16) false)

abbrev pub bearer : Tree
bearer = (integer (pos 1) (pos 8) false)

abbrev pub word : Tree
word = (integer (pos 0) (pos 4294967295) false)

abbrev pub unit : Tree
unit = (integer (pos 1) (pos 2) false)

abbrev pub gnb : Tree
gnb = (enumerated 2 false)

abbrev pub sn_bits : Tree
sn_bits = (enumerated 2 false)

abbrev pub name : Tree
name = (printable_string (Some (size 1 150 true)))

abbrev pub octets_as_they_are : Tree
octets_as_they_are = (octet_string None)

abbrev pub tunnel : Tree
tunnel = (sequence true (part (codes "bearer") false bearer (part (codes "teid") false word no_parts)) no_parts)

abbrev pub tunnels : Tree
tunnels = (sequence_of (Some (size 1 8 false)) tunnel)

abbrev pub peer : Tree
peer = (sequence true (part (codes "gnb") false gnb (part (codes "up") false unit no_parts)) no_parts)

abbrev pub mark : Tree
mark = (sequence true (part (codes "ue") false ue (part (codes "epoch") false word no_parts)) no_parts)

abbrev pub command : Tree
command = (sequence true (part (codes "ue") false ue (part (codes "epoch") false word (part (codes "gnb") false gnb
    (part (codes "du") false unit no_parts)))) no_parts)

abbrev pub rrc_token : Tree
rrc_token = (choice true (part (codes "command") false command (part (codes "complete") false mark (part (codes
    "reestablish") false mark (part (codes "accepted") false mark no_parts)))) no_parts)

abbrev pub f1_setup_request : Tree
f1_setup_request = (sequence true (part (codes "protocolIEs") false (container (row 2 true word (row 17 true name
    no_rows))) no_parts) no_parts)

abbrev pub f1_setup_response : Tree
f1_setup_response = (sequence true (part (codes "protocolIEs") false (container (row 2 true word no_rows)) no_parts)
    no_parts)

abbrev pub ue_context_setup_request : Tree
ue_context_setup_request = (sequence true (part (codes "protocolIEs") false (container (row 1 true ue (row 2 true
    word (row 3 true word (row 5 true tunnels (row 9 true sn_bits (row 12 true peer no_rows))))))) no_parts)
    no_parts)

abbrev pub ue_context_setup_response : Tree
ue_context_setup_response = (sequence true (part (codes "protocolIEs") false (container (row 1 true ue (row 2 true
    word (row 6 true tunnels no_rows)))) no_parts) no_parts)

abbrev pub ue_context_modification_request : Tree
ue_context_modification_request = (sequence true (part (codes "protocolIEs") false (container (row 1 true ue (row 2
    true word (row 3 true word no_rows)))) no_parts) no_parts)

abbrev pub ue_context_modification_response : Tree
ue_context_modification_response = (sequence true (part (codes "protocolIEs") false (container (row 1 true ue (row 2
    true word (row 6 true tunnels no_rows)))) no_parts) no_parts)

abbrev pub ue_context_release_command : Tree
ue_context_release_command = (sequence true (part (codes "protocolIEs") false (container (row 1 true ue (row 2 true
    word no_rows))) no_parts) no_parts)

abbrev pub ue_context_release_complete : Tree
ue_context_release_complete = (sequence true (part (codes "protocolIEs") false (container (row 1 true ue (row 2 true
    word no_rows))) no_parts) no_parts)

abbrev pub dlrrc_message_transfer : Tree
dlrrc_message_transfer = (sequence true (part (codes "protocolIEs") false (container (row 1 true ue (row 7 true
    octets_as_they_are no_rows))) no_parts) no_parts)

abbrev pub ulrrc_message_transfer : Tree
ulrrc_message_transfer = (sequence true (part (codes "protocolIEs") false (container (row 1 true ue (row 7 true
    octets_as_they_are no_rows))) no_parts) no_parts)

abbrev pub f1ap_pdu : Tree
f1ap_pdu = (pdu (procedure 1 (outcome f1_setup_request) (outcome f1_setup_response) no_outcome (procedure 2 (outcome
    ue_context_setup_request) (outcome ue_context_setup_response) no_outcome (procedure 3 (outcome
    ue_context_modification_request) (outcome ue_context_modification_response) no_outcome (procedure 4 (outcome
    ue_context_release_command) (outcome ue_context_release_complete) no_outcome (procedure 5 (outcome
    dlrrc_message_transfer) no_outcome no_outcome (procedure 6 (outcome ulrrc_message_transfer) no_outcome
    no_outcome no_procedures)))))))

abbrev pub messages : List Row
messages =
    spells rrc_token (chosen 1 (components (present (number (pos 1)) (present (number (pos 1)) no_options)) no_options))
    (0x20 ∷ 0x00 ∷ 0x01 ∷ []) ∷
    spells rrc_token (chosen 2 (components (present (number (pos 1)) (present (number (pos 2)) no_options)) no_options))
    (0x40 ∷ 0x00 ∷ 0x02 ∷ []) ∷
    spells rrc_token (chosen 3 (components (present (number (pos 1)) (present (number (pos 2)) no_options)) no_options))
    (0x60 ∷ 0x00 ∷ 0x02 ∷ []) ∷
    spells rrc_token (chosen 0 (components (present (number (pos 1)) (present (number (pos 1)) (present (enumeral 0)
    (present (number (pos 2)) no_options)))) no_options)) (0x00 ∷ 0x00 ∷ 0x01 ∷ 0x40 ∷ []) ∷
    spells f1ap_pdu (message 0 6 0 (components (present (elements (ie 1 0 (number (pos 1)) (ie 7 0 (octets (64 ∷ 0 ∷ 2 ∷
    [])) no_ies))) no_options) no_options)) (0x00 ∷ 0x06 ∷ 0x00 ∷ 0x10 ∷ 0x00 ∷ 0x00 ∷ 0x02 ∷ 0x00 ∷ 0x01 ∷ 0x00
    ∷ 0x01 ∷ 0x00 ∷ 0x00 ∷ 0x07 ∷ 0x00 ∷ 0x04 ∷ 0x03 ∷ 0x40 ∷ 0x00 ∷ 0x02 ∷ []) ∷
    spells f1ap_pdu (message 0 6 0 (components (present (elements (ie 1 0 (number (pos 1)) (ie 7 0 (octets (64 ∷ 0 ∷ 2 ∷
    [])) (ie 99 1 (raw (170 ∷ [])) no_ies)))) no_options) no_options)) (0x00 ∷ 0x06 ∷ 0x00 ∷ 0x15 ∷ 0x00 ∷ 0x00
    ∷ 0x03 ∷ 0x00 ∷ 0x01 ∷ 0x00 ∷ 0x01 ∷ 0x00 ∷ 0x00 ∷ 0x07 ∷ 0x00 ∷ 0x04 ∷ 0x03 ∷ 0x40 ∷ 0x00 ∷ 0x02 ∷ 0x00 ∷
    0x63 ∷ 0x40 ∷ 0x01 ∷ 0xaa ∷ []) ∷
    []
