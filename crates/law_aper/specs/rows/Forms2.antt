-- Each form of type, continued.
use Rattle.std.specs.Prelude.{List, [], ◌∷◌, Some, None, true, false, pos, codes}
use Rattle.aper_defs.specs.Trees.{boolean, integer, octet_string, sequence, choice, sequence_of, container, pdu, no_parts, part, no_rows, row, no_procedures, procedure, no_outcome, outcome}
use Rattle.aper_defs.specs.Values.{truth, number, octets, components, chosen, list, elements, message, raw, no_values, value, no_options, absent, present, no_ies, ie}
use Rattle.law_aper.specs.rows.Row.{Row, size, spells}

abbrev pub more_forms : List Row
more_forms =
    -- T ::= SEQUENCE {a BOOLEAN OPTIONAL, b BOOLEAN OPTIONAL, c INTEGER (0..3)}: {"b":true,"c":2}
    spells (sequence false (part (codes "a") true boolean (part (codes "b") true boolean (part (codes "c") false
    (integer (pos 0) (pos 3) false) no_parts))) no_parts) (components (absent (present (truth true) (present
    (number (pos 2)) no_options))) no_options) (0x70 ∷ []) ∷
    -- T ::= SEQUENCE {a BOOLEAN, ..., b BOOLEAN, c INTEGER (0..255)}: {"a":true,"...":[null,7,null,"FF00"]}
    spells (sequence true (part (codes "a") false boolean no_parts) (part (codes "b") false boolean (part (codes "c")
    false (integer (pos 0) (pos 255) false) no_parts))) (components (present (truth true) no_options) (absent
    (present (number (pos 7)) (absent (present (raw (255 ∷ 0 ∷ [])) no_options))))) (0xc1 ∷ 0xa8 ∷ 0x01 ∷ 0x07 ∷
    0x02 ∷ 0xff ∷ 0x00 ∷ []) ∷
    -- T ::= CHOICE {a BOOLEAN, ..., c SEQUENCE {}}: {"c":{}}
    spells (choice true (part (codes "a") false boolean no_parts) (part (codes "c") false (sequence false no_parts
    no_parts) no_parts)) (chosen 1 (components no_options no_options)) (0x80 ∷ 0x01 ∷ 0x00 ∷ []) ∷
    -- T ::= SEQUENCE (SIZE (1..8)) OF INTEGER (1..16): [1,16,7]
    spells (sequence_of (Some (size 1 8 false)) (integer (pos 1) (pos 16) false)) (list (value (number (pos 1)) (value
    (number (pos 16)) (value (number (pos 7)) no_values)))) (0x41 ∷ 0xec ∷ []) ∷
    -- T ::= SEQUENCE (SIZE (2, ...)) OF BOOLEAN: [true,true]
    spells (sequence_of (Some (size 2 2 true)) boolean) (list (value (truth true) (value (truth true) no_values))) (0x60
    ∷ []) ∷
    -- T ::= SEQUENCE (SIZE (2, ...)) OF BOOLEAN: [true,true,false]
    spells (sequence_of (Some (size 2 2 true)) boolean) (list (value (truth true) (value (truth true) (value (truth
    false) no_values)))) (0x80 ∷ 0x03 ∷ 0xc0 ∷ []) ∷
    -- T ::= SEQUENCE (SIZE (3)) OF BOOLEAN: [true,true,false]
    spells (sequence_of (Some (size 3 3 false)) boolean) (list (value (truth true) (value (truth true) (value (truth
    false) no_values)))) (0xc0 ∷ []) ∷
    -- T ::= Protocol-PDU {{P}}: {"initiatingMessage":{"criticality":"notify","procedureCode":7,"value":true}}
    spells (pdu (procedure 7 (outcome boolean) (outcome (integer (pos 5) (pos 5) false)) no_outcome no_procedures))
    (message 0 7 2 (truth true)) (0x00 ∷ 0x07 ∷ 0x80 ∷ 0x01 ∷ 0x80 ∷ []) ∷
    -- T ::= Protocol-PDU {{P}}: {"successfulOutcome":{"criticality":"reject","procedureCode":7,"value":5}}
    spells (pdu (procedure 7 (outcome boolean) (outcome (integer (pos 5) (pos 5) false)) no_outcome no_procedures))
    (message 1 7 0 (number (pos 5))) (0x20 ∷ 0x07 ∷ 0x00 ∷ 0x01 ∷ 0x00 ∷ []) ∷
    -- T ::= Protocol-PDU {{P}}: {"unsuccessfulOutcome":{"criticality":"ignore","procedureCode":7,"raw":"0102"}}
    spells (pdu (procedure 7 (outcome boolean) (outcome (integer (pos 5) (pos 5) false)) no_outcome no_procedures))
    (message 2 7 1 (raw (1 ∷ 2 ∷ []))) (0x40 ∷ 0x07 ∷ 0x40 ∷ 0x02 ∷ 0x01 ∷ 0x02 ∷ []) ∷
    -- T ::= Protocol-PDU {{P}}: {"...":[2,"0102"]}
    spells (pdu (procedure 7 (outcome boolean) (outcome (integer (pos 5) (pos 5) false)) no_outcome no_procedures))
    (message 5 0 0 (raw (1 ∷ 2 ∷ []))) (0x82 ∷ 0x02 ∷ 0x01 ∷ 0x02 ∷ []) ∷
    -- T ::= ProtocolIE-Container {{S}}: [{"criticality":"ignore","id":9,"raw":"00"},{"criticality":"reject","id":1,"val ..
    spells (container (row 1 true boolean no_rows)) (elements (ie 9 1 (raw (0 ∷ [])) (ie 1 0 (truth false) (ie 65535 2
    (raw (170 ∷ 187 ∷ [])) no_ies)))) (0x00 ∷ 0x03 ∷ 0x00 ∷ 0x09 ∷ 0x40 ∷ 0x01 ∷ 0x00 ∷ 0x00 ∷ 0x01 ∷ 0x00 ∷
    0x01 ∷ 0x00 ∷ 0xff ∷ 0xff ∷ 0x80 ∷ 0x02 ∷ 0xaa ∷ 0xbb ∷ []) ∷
    -- T ::= OCTET STRING: "5A5A5A5A5A5A5A5A5A5A5A5A5A5A5A5A5A5A5A5A5A5A5A5A5A5A5A5A5A5A5A5A5A5A5A5A5A5A5A5A5A5A5A5A5A5A ..
    spells (octet_string None) (octets (90 ∷ 90 ∷ 90 ∷ 90 ∷ 90 ∷ 90 ∷ 90 ∷ 90 ∷ 90 ∷ 90 ∷ 90 ∷ 90 ∷ 90 ∷ 90 ∷ 90 ∷ 90 ∷
    90 ∷ 90 ∷ 90 ∷ 90 ∷ 90 ∷ 90 ∷ 90 ∷ 90 ∷ 90 ∷ 90 ∷ 90 ∷ 90 ∷ 90 ∷ 90 ∷ 90 ∷ 90 ∷ 90 ∷ 90 ∷ 90 ∷ 90 ∷ 90 ∷ 90
    ∷ 90 ∷ 90 ∷ 90 ∷ 90 ∷ 90 ∷ 90 ∷ 90 ∷ 90 ∷ 90 ∷ 90 ∷ 90 ∷ 90 ∷ 90 ∷ 90 ∷ 90 ∷ 90 ∷ 90 ∷ 90 ∷ 90 ∷ 90 ∷ 90 ∷
    90 ∷ 90 ∷ 90 ∷ 90 ∷ 90 ∷ 90 ∷ 90 ∷ 90 ∷ 90 ∷ 90 ∷ 90 ∷ 90 ∷ 90 ∷ 90 ∷ 90 ∷ 90 ∷ 90 ∷ 90 ∷ 90 ∷ 90 ∷ 90 ∷ 90
    ∷ 90 ∷ 90 ∷ 90 ∷ 90 ∷ 90 ∷ 90 ∷ 90 ∷ 90 ∷ 90 ∷ 90 ∷ 90 ∷ 90 ∷ 90 ∷ 90 ∷ 90 ∷ 90 ∷ 90 ∷ 90 ∷ 90 ∷ 90 ∷ 90 ∷
    90 ∷ 90 ∷ 90 ∷ 90 ∷ 90 ∷ 90 ∷ 90 ∷ 90 ∷ 90 ∷ 90 ∷ 90 ∷ 90 ∷ 90 ∷ 90 ∷ 90 ∷ 90 ∷ 90 ∷ 90 ∷ 90 ∷ 90 ∷ 90 ∷ 90
    ∷ 90 ∷ 90 ∷ 90 ∷ 90 ∷ 90 ∷ 90 ∷ [])) (0x80 ∷ 0x82 ∷ 0x5a ∷ 0x5a ∷ 0x5a ∷ 0x5a ∷ 0x5a ∷ 0x5a ∷ 0x5a ∷ 0x5a ∷
    0x5a ∷ 0x5a ∷ 0x5a ∷ 0x5a ∷ 0x5a ∷ 0x5a ∷ 0x5a ∷ 0x5a ∷ 0x5a ∷ 0x5a ∷ 0x5a ∷ 0x5a ∷ 0x5a ∷ 0x5a ∷ 0x5a ∷
    0x5a ∷ 0x5a ∷ 0x5a ∷ 0x5a ∷ 0x5a ∷ 0x5a ∷ 0x5a ∷ 0x5a ∷ 0x5a ∷ 0x5a ∷ 0x5a ∷ 0x5a ∷ 0x5a ∷ 0x5a ∷ 0x5a ∷
    0x5a ∷ 0x5a ∷ 0x5a ∷ 0x5a ∷ 0x5a ∷ 0x5a ∷ 0x5a ∷ 0x5a ∷ 0x5a ∷ 0x5a ∷ 0x5a ∷ 0x5a ∷ 0x5a ∷ 0x5a ∷ 0x5a ∷
    0x5a ∷ 0x5a ∷ 0x5a ∷ 0x5a ∷ 0x5a ∷ 0x5a ∷ 0x5a ∷ 0x5a ∷ 0x5a ∷ 0x5a ∷ 0x5a ∷ 0x5a ∷ 0x5a ∷ 0x5a ∷ 0x5a ∷
    0x5a ∷ 0x5a ∷ 0x5a ∷ 0x5a ∷ 0x5a ∷ 0x5a ∷ 0x5a ∷ 0x5a ∷ 0x5a ∷ 0x5a ∷ 0x5a ∷ 0x5a ∷ 0x5a ∷ 0x5a ∷ 0x5a ∷
    0x5a ∷ 0x5a ∷ 0x5a ∷ 0x5a ∷ 0x5a ∷ 0x5a ∷ 0x5a ∷ 0x5a ∷ 0x5a ∷ 0x5a ∷ 0x5a ∷ 0x5a ∷ 0x5a ∷ 0x5a ∷ 0x5a ∷
    0x5a ∷ 0x5a ∷ 0x5a ∷ 0x5a ∷ 0x5a ∷ 0x5a ∷ 0x5a ∷ 0x5a ∷ 0x5a ∷ 0x5a ∷ 0x5a ∷ 0x5a ∷ 0x5a ∷ 0x5a ∷ 0x5a ∷
    0x5a ∷ 0x5a ∷ 0x5a ∷ 0x5a ∷ 0x5a ∷ 0x5a ∷ 0x5a ∷ 0x5a ∷ 0x5a ∷ 0x5a ∷ 0x5a ∷ 0x5a ∷ 0x5a ∷ 0x5a ∷ 0x5a ∷
    0x5a ∷ 0x5a ∷ []) ∷
    []
