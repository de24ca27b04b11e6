-- Worked spellings of small types.
use Rattle.std.specs.Prelude.{List, [], ◌∷◌, Some, None, true, false, pos, codes}
use Rattle.aper_defs.specs.Trees.{boolean, integer, enumerated, printable_string, sequence, choice, sequence_of, container, no_parts, part, no_rows, row}
use Rattle.aper_defs.specs.Values.{truth, number, enumeral, text, components, chosen, list, elements, raw, no_values, value, no_options, present, no_ies, ie}
use Rattle.law_aper.specs.rows.Row.{Row, size, spells}

abbrev pub worked : List Row
worked =
    -- T ::= BOOLEAN: true
    spells boolean (truth true) (0x80 ∷ []) ∷
    -- T ::= BOOLEAN: false
    spells boolean (truth false) (0x00 ∷ []) ∷
    -- T ::= SEQUENCE {a BOOLEAN, b INTEGER (0..255)}: {"a":true,"b":200}
    spells (sequence false (part (codes "a") false boolean (part (codes "b") false (integer (pos 0) (pos 255) false)
    no_parts)) no_parts) (components (present (truth true) (present (number (pos 200)) no_options)) no_options)
    (0x80 ∷ 0xc8 ∷ []) ∷
    -- T ::= INTEGER (0..65536): 0
    spells (integer (pos 0) (pos 65536) false) (number (pos 0)) (0x00 ∷ 0x00 ∷ []) ∷
    -- T ::= INTEGER (0..65536): 65536
    spells (integer (pos 0) (pos 65536) false) (number (pos 65536)) (0x80 ∷ 0x01 ∷ 0x00 ∷ 0x00 ∷ []) ∷
    -- T ::= INTEGER (0..68719476735): 1
    spells (integer (pos 0) (pos 68719476735) false) (number (pos 1)) (0x00 ∷ 0x01 ∷ []) ∷
    -- T ::= INTEGER (0..68719476735): 68719476735
    spells (integer (pos 0) (pos 68719476735) false) (number (pos 68719476735)) (0x80 ∷ 0x0f ∷ 0xff ∷ 0xff ∷ 0xff ∷ 0xff
    ∷ []) ∷
    -- T ::= PrintableString (SIZE (1..150, ...)): "du1"
    spells (printable_string (Some (size 1 150 true))) (text (codes "du1")) (0x01 ∷ 0x00 ∷ 0x64 ∷ 0x75 ∷ 0x31 ∷ []) ∷
    -- T ::= SEQUENCE {}: {}
    spells (sequence false no_parts no_parts) (components no_options no_options) (0x00 ∷ []) ∷
    -- T ::= ENUMERATED {a, b, ...}: "b"
    spells (enumerated 2 true) (enumeral 1) (0x40 ∷ []) ∷
    -- T ::= ENUMERATED {a, b, ...}: {"unknown":2}
    spells (enumerated 2 true) (enumeral 4) (0x82 ∷ []) ∷
    -- T ::= INTEGER (0..10, ...): 5
    spells (integer (pos 0) (pos 10) true) (number (pos 5)) (0x28 ∷ []) ∷
    -- T ::= INTEGER (0..10, ...): 300
    spells (integer (pos 0) (pos 10) true) (number (pos 300)) (0x80 ∷ 0x02 ∷ 0x01 ∷ 0x2c ∷ []) ∷
    -- T ::= SEQUENCE OF BOOLEAN: [true,false]
    spells (sequence_of None boolean) (list (value (truth true) (value (truth false) no_values))) (0x02 ∷ 0x80 ∷ []) ∷
    -- T ::= CHOICE {a BOOLEAN, b INTEGER (0..255), ...}: {"b":7}
    spells (choice true (part (codes "a") false boolean (part (codes "b") false (integer (pos 0) (pos 255) false)
    no_parts)) no_parts) (chosen 1 (number (pos 7))) (0x40 ∷ 0x07 ∷ []) ∷
    -- T ::= CHOICE {a BOOLEAN, b INTEGER (0..255), ...}: {"...":[1,"AA"]}
    spells (choice true (part (codes "a") false boolean (part (codes "b") false (integer (pos 0) (pos 255) false)
    no_parts)) no_parts) (chosen 3 (raw (170 ∷ []))) (0x81 ∷ 0x01 ∷ 0xaa ∷ []) ∷
    -- T ::= ProtocolIE-Container {{S}}: [{"criticality":"reject","id":1,"value":true}]
    spells (container (row 1 true boolean no_rows)) (elements (ie 1 0 (truth true) no_ies)) (0x00 ∷ 0x01 ∷ 0x00 ∷ 0x01 ∷
    0x00 ∷ 0x01 ∷ 0x80 ∷ []) ∷
    -- T ::= SEQUENCE {a BOOLEAN, ..., b BOOLEAN}: {"...":[true],"a":true}
    spells (sequence true (part (codes "a") false boolean no_parts) (part (codes "b") false boolean no_parts))
    (components (present (truth true) no_options) (present (truth true) no_options)) (0xc0 ∷ 0x40 ∷ 0x01 ∷ 0x80
    ∷ []) ∷
    -- T ::= SEQUENCE {a BOOLEAN, ...}: {"...":["80"],"a":true}
    spells (sequence true (part (codes "a") false boolean no_parts) no_parts) (components (present (truth true)
    no_options) (present (raw (128 ∷ [])) no_options)) (0xc0 ∷ 0x40 ∷ 0x01 ∷ 0x80 ∷ []) ∷
    -- T ::= SEQUENCE {a BOOLEAN, ...}: {"...":["81"],"a":true}
    spells (sequence true (part (codes "a") false boolean no_parts) no_parts) (components (present (truth true)
    no_options) (present (raw (129 ∷ [])) no_options)) (0xc0 ∷ 0x40 ∷ 0x01 ∷ 0x81 ∷ []) ∷
    []
