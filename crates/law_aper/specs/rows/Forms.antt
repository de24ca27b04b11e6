-- Each form of type, with numbers and lengths at the ends of their forms.
use Rattle.std.specs.Prelude.{List, [], ◌∷◌, Some, None, true, false, pos, negsuc, codes}
use Rattle.aper_defs.specs.Trees.{boolean, integer, bit_string, octet_string, printable_string, sequence, no_parts, part}
use Rattle.aper_defs.specs.Values.{truth, number, bits, octets, text, components, no_options, present}
use Rattle.law_aper.specs.rows.Row.{Row, size, spells}

abbrev pub forms : List Row
forms =
    -- T ::= SEQUENCE {a BOOLEAN, b INTEGER (0..254)}: {"a":true,"b":200}
    spells (sequence false (part (codes "a") false boolean (part (codes "b") false (integer (pos 0) (pos 254) false)
    no_parts)) no_parts) (components (present (truth true) (present (number (pos 200)) no_options)) no_options)
    (0xe4 ∷ 0x00 ∷ []) ∷
    -- T ::= INTEGER (5..5): 5
    spells (integer (pos 5) (pos 5) false) (number (pos 5)) (0x00 ∷ []) ∷
    -- T ::= INTEGER (-1..254): 254
    spells (integer (negsuc 0) (pos 254) false) (number (pos 254)) (0xff ∷ []) ∷
    -- T ::= SEQUENCE {a BOOLEAN, b INTEGER (1..65536)}: {"a":false,"b":65536}
    spells (sequence false (part (codes "a") false boolean (part (codes "b") false (integer (pos 1) (pos 65536) false)
    no_parts)) no_parts) (components (present (truth false) (present (number (pos 65536)) no_options))
    no_options) (0x00 ∷ 0xff ∷ 0xff ∷ []) ∷
    -- T ::= INTEGER (-9223372036854775808..9223372036854775807): -9223372036854775808
    spells (integer (negsuc 9223372036854775807) (pos 9223372036854775807) false) (number (negsuc 9223372036854775807))
    (0x00 ∷ 0x00 ∷ []) ∷
    -- T ::= INTEGER (-9223372036854775808..9223372036854775807): 9223372036854775807
    spells (integer (negsuc 9223372036854775807) (pos 9223372036854775807) false) (number (pos 9223372036854775807))
    (0xe0 ∷ 0xff ∷ 0xff ∷ 0xff ∷ 0xff ∷ 0xff ∷ 0xff ∷ 0xff ∷ 0xff ∷ []) ∷
    -- T ::= INTEGER (0..10, ...): -1
    spells (integer (pos 0) (pos 10) true) (number (negsuc 0)) (0x80 ∷ 0x01 ∷ 0xff ∷ []) ∷
    -- T ::= INTEGER (0..10, ...): -129
    spells (integer (pos 0) (pos 10) true) (number (negsuc 128)) (0x80 ∷ 0x02 ∷ 0xff ∷ 0x7f ∷ []) ∷
    -- T ::= INTEGER (0..10, ...): 128
    spells (integer (pos 0) (pos 10) true) (number (pos 128)) (0x80 ∷ 0x02 ∷ 0x00 ∷ 0x80 ∷ []) ∷
    -- T ::= INTEGER (0..10, ...): -9223372036854775808
    spells (integer (pos 0) (pos 10) true) (number (negsuc 9223372036854775807)) (0x80 ∷ 0x08 ∷ 0x80 ∷ 0x00 ∷ 0x00 ∷
    0x00 ∷ 0x00 ∷ 0x00 ∷ 0x00 ∷ 0x00 ∷ []) ∷
    -- T ::= SEQUENCE {a BOOLEAN, b BIT STRING (SIZE (16))}: {"a":true,"b":"1010101010101011"}
    spells (sequence false (part (codes "a") false boolean (part (codes "b") false (bit_string (Some (size 16 16
    false))) no_parts)) no_parts) (components (present (truth true) (present (bits (true ∷ false ∷ true ∷ false
    ∷ true ∷ false ∷ true ∷ false ∷ true ∷ false ∷ true ∷ false ∷ true ∷ false ∷ true ∷ true ∷ [])) no_options))
    no_options) (0xd5 ∷ 0x55 ∷ 0x80 ∷ []) ∷
    -- T ::= SEQUENCE {a BOOLEAN, b BIT STRING (SIZE (17))}: {"a":true,"b":"10101010101010111"}
    spells (sequence false (part (codes "a") false boolean (part (codes "b") false (bit_string (Some (size 17 17
    false))) no_parts)) no_parts) (components (present (truth true) (present (bits (true ∷ false ∷ true ∷ false
    ∷ true ∷ false ∷ true ∷ false ∷ true ∷ false ∷ true ∷ false ∷ true ∷ false ∷ true ∷ true ∷ true ∷ []))
    no_options)) no_options) (0x80 ∷ 0xaa ∷ 0xab ∷ 0x80 ∷ []) ∷
    -- T ::= BIT STRING (SIZE (1..4)): "101"
    spells (bit_string (Some (size 1 4 false))) (bits (true ∷ false ∷ true ∷ [])) (0x80 ∷ 0xa0 ∷ []) ∷
    -- T ::= BIT STRING: "101"
    spells (bit_string None) (bits (true ∷ false ∷ true ∷ [])) (0x03 ∷ 0xa0 ∷ []) ∷
    -- T ::= BIT STRING (SIZE (2, ...)): "101"
    spells (bit_string (Some (size 2 2 true))) (bits (true ∷ false ∷ true ∷ [])) (0x80 ∷ 0x03 ∷ 0xa0 ∷ []) ∷
    -- T ::= SEQUENCE {a BOOLEAN, b OCTET STRING (SIZE (2))}: {"a":true,"b":"ABCD"}
    spells (sequence false (part (codes "a") false boolean (part (codes "b") false (octet_string (Some (size 2 2
    false))) no_parts)) no_parts) (components (present (truth true) (present (octets (171 ∷ 205 ∷ []))
    no_options)) no_options) (0xd5 ∷ 0xe6 ∷ 0x80 ∷ []) ∷
    -- T ::= SEQUENCE {a BOOLEAN, b OCTET STRING (SIZE (3))}: {"a":true,"b":"ABCDEF"}
    spells (sequence false (part (codes "a") false boolean (part (codes "b") false (octet_string (Some (size 3 3
    false))) no_parts)) no_parts) (components (present (truth true) (present (octets (171 ∷ 205 ∷ 239 ∷ []))
    no_options)) no_options) (0x80 ∷ 0xab ∷ 0xcd ∷ 0xef ∷ []) ∷
    -- T ::= OCTET STRING: ""
    spells (octet_string None) (octets []) (0x00 ∷ []) ∷
    -- T ::= OCTET STRING (SIZE (1..2, ...)): "010203"
    spells (octet_string (Some (size 1 2 true))) (octets (1 ∷ 2 ∷ 3 ∷ [])) (0x80 ∷ 0x03 ∷ 0x01 ∷ 0x02 ∷ 0x03 ∷ []) ∷
    -- T ::= PrintableString: "it's 1+1=2?"
    spells (printable_string None) (text (codes "it's 1+1=2?")) (0x0b ∷ 0x69 ∷ 0x74 ∷ 0x27 ∷ 0x73 ∷ 0x20 ∷ 0x31 ∷ 0x2b ∷
    0x31 ∷ 0x3d ∷ 0x32 ∷ 0x3f ∷ []) ∷
    []
