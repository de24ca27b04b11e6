-- Octets that spell nothing: the first wrong bit, why, and the way to it.
use Rattle.std.specs.Prelude.{List, [], ◌∷◌, Some, None, true, false, pos, codes}
use Rattle.aper_defs.specs.Trees.{boolean, integer, enumerated, octet_string, printable_string, sequence, choice, sequence_of, container, no_parts, part, no_rows, row}
use Rattle.aper_defs.specs.declared.reason.Reason.TheVariants.{Truncated, Padding, Range, NotMinimal, Index, Length, Character, Overrun, Tail, Required, Order, EmptyAdditions}
use Rattle.aper_defs.specs.Fields.{component, member, element}
use Rattle.law_aper.specs.rows.Row.{Refusal, size, wrong}

abbrev pub refusals : List Refusal
refusals =
    -- T ::= SEQUENCE OF BOOLEAN: 83
    wrong (sequence_of None boolean) (0x83 ∷ []) 0 Truncated [] ∷
    -- T ::= SEQUENCE OF BOOLEAN: 8003
    wrong (sequence_of None boolean) (0x80 ∷ 0x03 ∷ []) 0 NotMinimal [] ∷
    -- T ::= SEQUENCE OF BOOLEAN: C1
    wrong (sequence_of None boolean) (0xc1 ∷ []) 0 Length [] ∷
    -- T ::= OCTET STRING: C5
    wrong (octet_string None) (0xc5 ∷ []) 0 Length [] ∷
    -- T ::= OCTET STRING: C0
    wrong (octet_string None) (0xc0 ∷ []) 0 Length [] ∷
    -- T ::= INTEGER (0..10, ...): 80010A
    wrong (integer (pos 0) (pos 10) true) (0x80 ∷ 0x01 ∷ 0x0a ∷ []) 16 NotMinimal [] ∷
    -- T ::= INTEGER (0..10, ...): 8002000B
    wrong (integer (pos 0) (pos 10) true) (0x80 ∷ 0x02 ∷ 0x00 ∷ 0x0b ∷ []) 16 NotMinimal [] ∷
    -- T ::= INTEGER (0..10, ...): 8000
    wrong (integer (pos 0) (pos 10) true) (0x80 ∷ 0x00 ∷ []) 8 Length [] ∷
    -- T ::= INTEGER (0..10, ...): 8009
    wrong (integer (pos 0) (pos 10) true) (0x80 ∷ 0x09 ∷ []) 8 Length [] ∷
    -- T ::= INTEGER (0..10, ...): 58
    wrong (integer (pos 0) (pos 10) true) (0x58 ∷ []) 1 Range [] ∷
    -- T ::= INTEGER (0..65536): 80020000
    wrong (integer (pos 0) (pos 65536) false) (0x80 ∷ 0x02 ∷ 0x00 ∷ 0x00 ∷ []) 8 Range [] ∷
    -- T ::= INTEGER (0..65536): C0000000
    wrong (integer (pos 0) (pos 65536) false) (0xc0 ∷ 0x00 ∷ 0x00 ∷ 0x00 ∷ []) 0 Range [] ∷
    -- T ::= ENUMERATED {a, b, c}: C0
    wrong (enumerated 3 false) (0xc0 ∷ []) 0 Index [] ∷
    -- T ::= ENUMERATED {a, ...}: C0
    wrong (enumerated 1 true) (0xc0 ∷ []) 1 Index [] ∷
    -- T ::= OCTET STRING (SIZE (3..5)): C0
    wrong (octet_string (Some (size 3 5 false))) (0xc0 ∷ []) 0 Length [] ∷
    -- T ::= PrintableString: 0241FF
    wrong (printable_string None) (0x02 ∷ 0x41 ∷ 0xff ∷ []) 16 Character [] ∷
    -- T ::= SEQUENCE {a BOOLEAN, ...}: C000
    wrong (sequence true (part (codes "a") false boolean no_parts) no_parts) (0xc0 ∷ 0x00 ∷ []) 9 EmptyAdditions [] ∷
    -- T ::= SEQUENCE {a BOOLEAN, ...}: E000
    wrong (sequence true (part (codes "a") false boolean no_parts) no_parts) (0xe0 ∷ 0x00 ∷ []) 2 Length [] ∷
    -- T ::= SEQUENCE {a SEQUENCE OF INTEGER (1..200)}: 0205C8
    wrong (sequence false (part (codes "a") false (sequence_of None (integer (pos 1) (pos 200) false)) no_parts)
    no_parts) (0x02 ∷ 0x05 ∷ 0xc8 ∷ []) 16 Range ((member 1) ∷ ((component (codes "a")) ∷ [])) ∷
    -- T ::= CHOICE {a BOOLEAN, ...}: 8100
    wrong (choice true (part (codes "a") false boolean no_parts) no_parts) (0x81 ∷ 0x00 ∷ []) 8 Length [] ∷
    -- a container: 0001
    wrong (container (row 1 true boolean (row 2 false (octet_string None) (row 3 true (enumerated 3 false) no_rows))))
    (0x00 ∷ 0x01 ∷ []) 0 Required [] ∷
    -- a container: 0002000300
    wrong (container (row 1 true boolean (row 2 false (octet_string None) (row 3 true (enumerated 3 false) no_rows))))
    (0x00 ∷ 0x02 ∷ 0x00 ∷ 0x03 ∷ 0x00 ∷ []) 16 Required [] ∷
    -- a container: 000300010001800001
    wrong (container (row 1 true boolean (row 2 false (octet_string None) (row 3 true (enumerated 3 false) no_rows))))
    (0x00 ∷ 0x03 ∷ 0x00 ∷ 0x01 ∷ 0x00 ∷ 0x01 ∷ 0x80 ∷ 0x00 ∷ 0x01 ∷ []) 56 Order [] ∷
    -- a container: 0002000100018000020001
    wrong (container (row 1 true boolean (row 2 false (octet_string None) (row 3 true (enumerated 3 false) no_rows))))
    (0x00 ∷ 0x02 ∷ 0x00 ∷ 0x01 ∷ 0x00 ∷ 0x01 ∷ 0x80 ∷ 0x00 ∷ 0x02 ∷ 0x00 ∷ 0x01 ∷ []) 56 Required [] ∷
    -- a container: 00020001C0018000
    wrong (container (row 1 true boolean (row 2 false (octet_string None) (row 3 true (enumerated 3 false) no_rows))))
    (0x00 ∷ 0x02 ∷ 0x00 ∷ 0x01 ∷ 0xc0 ∷ 0x01 ∷ 0x80 ∷ 0x00 ∷ []) 32 Index [] ∷
    -- a container: 00020001000180000340014000
    wrong (container (row 1 true boolean (row 2 false (octet_string None) (row 3 true (enumerated 3 false) no_rows))))
    (0x00 ∷ 0x02 ∷ 0x00 ∷ 0x01 ∷ 0x00 ∷ 0x01 ∷ 0x80 ∷ 0x00 ∷ 0x03 ∷ 0x40 ∷ 0x01 ∷ 0x40 ∷ 0x00 ∷ []) 96 Tail [] ∷
    -- a container: 0002000100018000034001C0
    wrong (container (row 1 true boolean (row 2 false (octet_string None) (row 3 true (enumerated 3 false) no_rows))))
    (0x00 ∷ 0x02 ∷ 0x00 ∷ 0x01 ∷ 0x00 ∷ 0x01 ∷ 0x80 ∷ 0x00 ∷ 0x03 ∷ 0x40 ∷ 0x01 ∷ 0xc0 ∷ []) 88 Index ((element
    3) ∷ []) ∷
    -- T ::= SEQUENCE {..., x OCTET STRING}: 80800205AABBCCDDEE
    wrong (sequence true no_parts (part (codes "x") false (octet_string None) no_parts)) (0x80 ∷ 0x80 ∷ 0x02 ∷ 0x05 ∷
    0xaa ∷ 0xbb ∷ 0xcc ∷ 0xdd ∷ 0xee ∷ []) 32 Overrun ((component (codes "x")) ∷ []) ∷
    -- T ::= BOOLEAN: 81
    wrong boolean (0x81 ∷ []) 1 Padding [] ∷
    -- T ::= INTEGER (0..65536): 400000
    wrong (integer (pos 0) (pos 65536) false) (0x40 ∷ 0x00 ∷ 0x00 ∷ []) 8 NotMinimal [] ∷
    -- a container: 0000
    wrong (container (row 1 true boolean no_rows)) (0x00 ∷ 0x00 ∷ []) 0 Required [] ∷
    -- a container: 0001000100028000
    wrong (container (row 1 true boolean no_rows)) (0x00 ∷ 0x01 ∷ 0x00 ∷ 0x01 ∷ 0x00 ∷ 0x02 ∷ 0x80 ∷ 0x00 ∷ []) 56 Tail
    ((element 1) ∷ []) ∷
    -- a container: 00010001000180
    wrong (container (row 1 true (integer (pos 0) (pos 65535) false) no_rows)) (0x00 ∷ 0x01 ∷ 0x00 ∷ 0x01 ∷ 0x00 ∷ 0x01
    ∷ 0x80 ∷ []) 48 Overrun ((element 1) ∷ []) ∷
    -- T ::= SEQUENCE {a BOOLEAN, ..., b BOOLEAN}: C0400181
    wrong (sequence true (part (codes "a") false boolean no_parts) (part (codes "b") false boolean no_parts)) (0xc0 ∷
    0x40 ∷ 0x01 ∷ 0x81 ∷ []) 25 Padding ((component (codes "b")) ∷ []) ∷
    -- T ::= SEQUENCE {}:
    wrong (sequence false no_parts no_parts) ([]) 0 Truncated [] ∷
    []
