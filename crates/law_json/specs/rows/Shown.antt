-- JSON of values, of each form of type.
use Rattle.std.specs.Prelude.{List, [], ◌∷◌, Some, true, false, pos, negsuc, codes}
use Rattle.serde_json.specs.Data.{unsigned, negative, null, boolean as truth_value, number, string, array, object, no_items, item, no_members, member}
use Rattle.aper_defs.specs.Values as values
use Rattle.aper_defs.specs.Values.{truth, enumeral, bits, octets, text, components, chosen, list, elements, message, raw, no_values, value, no_options, absent, present, no_ies, ie}
use Rattle.json_defs.specs.Named.{boolean, integer, enumerated, bit_string, octet_string, printable_string, sequence, choice, sequence_of, container, pdu, no_parts, part, no_rows, row, no_procedures, procedure, no_outcome, outcome}
use Rattle.law_json.specs.rows.Row.{ShownRow, shows, size}

abbrev pub shown : List ShownRow
shown =
    -- B: true
    shows boolean (truth_value true)
    (truth true) ∷
    -- I: 255
    shows (integer (pos 0) (pos 255) false) (number (unsigned 255))
    (values.number (pos 255)) ∷
    -- X: -5
    shows (integer (negsuc 4) (pos 10) true) (number (negative (negsuc 4)))
    (values.number (negsuc 4)) ∷
    -- X: 11
    shows (integer (negsuc 4) (pos 10) true) (number (unsigned 11))
    (values.number (pos 11)) ∷
    -- X: -9223372036854775808
    shows (integer (negsuc 4) (pos 10) true) (number (negative (negsuc 9223372036854775807)))
    (values.number (negsuc 9223372036854775807)) ∷
    -- E: "red"
    shows (enumerated (codes "red" ∷ codes "green" ∷ []) (codes "blue" ∷ []) true) (string (codes "red"))
    (enumeral 0) ∷
    -- E: "blue"
    shows (enumerated (codes "red" ∷ codes "green" ∷ []) (codes "blue" ∷ []) true) (string (codes "blue"))
    (enumeral 2) ∷
    -- E: {"unknown":0}
    shows (enumerated (codes "red" ∷ codes "green" ∷ []) (codes "blue" ∷ []) true) (object (member (codes "unknown") (number (unsigned 0)) no_members))
    (enumeral 3) ∷
    -- E: {"unknown":62}
    shows (enumerated (codes "red" ∷ codes "green" ∷ []) (codes "blue" ∷ []) true) (object (member (codes "unknown") (number (unsigned 62)) no_members))
    (enumeral 65) ∷
    -- S: "101"
    shows (bit_string (Some (size 1 4 false))) (string (codes "101"))
    (bits (true ∷ false ∷ true ∷ [])) ∷
    -- O: "aB"
    shows (octet_string (Some (size 1 3 true))) (string (codes "aB"))
    (octets (171 ∷ [])) ∷
    -- O: ""
    shows (octet_string (Some (size 1 3 true))) (string (codes ""))
    (octets ([])) ∷
    -- O: "0001020304"
    shows (octet_string (Some (size 1 3 true))) (string (codes "0001020304"))
    (octets (0 ∷ 1 ∷ 2 ∷ 3 ∷ 4 ∷ [])) ∷
    -- P: "du1"
    shows (printable_string (Some (size 1 4 false))) (string (codes "du1"))
    (text (codes "du1")) ∷
    -- Q: {"a":true,"b":200}
    shows (sequence false (part (codes "a") false boolean (part (codes "b") true (integer (pos 0) (pos 255) false) no_parts)) no_parts) (object (member (codes "a") (truth_value true) (member (codes "b") (number (unsigned 200)) no_members)))
    (components (present (truth true) (present (values.number (pos 200)) no_options)) no_options) ∷
    -- Q: {"a":true}
    shows (sequence false (part (codes "a") false boolean (part (codes "b") true (integer (pos 0) (pos 255) false) no_parts)) no_parts) (object (member (codes "a") (truth_value true) no_members))
    (components (present (truth true) (absent no_options)) no_options) ∷
    -- R: {"a":true}
    shows (sequence true (part (codes "a") false boolean no_parts) (part (codes "c") false (integer (pos 0) (pos 7) false) (part (codes "d") false boolean no_parts))) (object (member (codes "a") (truth_value true) no_members))
    (components (present (truth true) no_options) no_options) ∷
    -- R: {"a":true,"...":[5]}
    shows (sequence true (part (codes "a") false boolean no_parts) (part (codes "c") false (integer (pos 0) (pos 7) false) (part (codes "d") false boolean no_parts))) (object (member (codes "...") (array (item (number (unsigned 5)) no_items)) (member (codes "a") (truth_value true) no_members)))
    (components (present (truth true) no_options) (present (values.number (pos 5)) no_options)) ∷
    -- R: {"a":true,"...":[null,true,"AB"]}
    shows (sequence true (part (codes "a") false boolean no_parts) (part (codes "c") false (integer (pos 0) (pos 7) false) (part (codes "d") false boolean no_parts))) (object (member (codes "...") (array (item null (item (truth_value true) (item (string (codes "AB")) no_items)))) (member (codes "a") (truth_value true) no_members)))
    (components (present (truth true) no_options) (absent (present (truth true) (present (raw (171 ∷ [])) no_options)))) ∷
    -- C: {"x":true}
    shows (choice true (part (codes "x") false boolean (part (codes "y") false (integer (pos 0) (pos 7) false) no_parts)) (part (codes "z") false (bit_string (Some (size 2 2 false))) no_parts)) (object (member (codes "x") (truth_value true) no_members))
    (chosen 0 (truth true)) ∷
    -- C: {"z":"10"}
    shows (choice true (part (codes "x") false boolean (part (codes "y") false (integer (pos 0) (pos 7) false) no_parts)) (part (codes "z") false (bit_string (Some (size 2 2 false))) no_parts)) (object (member (codes "z") (string (codes "10")) no_members))
    (chosen 2 (bits (true ∷ false ∷ []))) ∷
    -- C: {"...":[0,"AB"]}
    shows (choice true (part (codes "x") false boolean (part (codes "y") false (integer (pos 0) (pos 7) false) no_parts)) (part (codes "z") false (bit_string (Some (size 2 2 false))) no_parts)) (object (member (codes "...") (array (item (number (unsigned 0)) (item (string (codes "AB")) no_items))) no_members))
    (chosen 3 (raw (171 ∷ []))) ∷
    -- C: {"...":[62,"AB"]}
    shows (choice true (part (codes "x") false boolean (part (codes "y") false (integer (pos 0) (pos 7) false) no_parts)) (part (codes "z") false (bit_string (Some (size 2 2 false))) no_parts)) (object (member (codes "...") (array (item (number (unsigned 62)) (item (string (codes "AB")) no_items))) no_members))
    (chosen 65 (raw (171 ∷ []))) ∷
    -- L: [1,2]
    shows (sequence_of (Some (size 1 3 false)) (integer (pos 0) (pos 7) false)) (array (item (number (unsigned 1)) (item (number (unsigned 2)) no_items)))
    (list (value (values.number (pos 1)) (value (values.number (pos 2)) no_values))) ∷
    -- G: [{"criticality":"reject","id":1,"value":true}]
    shows (container (row 1 true boolean (row 4 false (integer (pos 0) (pos 255) false) no_rows))) (array (item (object (member (codes "criticality") (string (codes "reject")) (member (codes "id") (number (unsigned 1)) (member (codes "value") (truth_value true) no_members)))) no_items))
    (elements (ie 1 0 (truth true) no_ies)) ∷
    -- G: [{"criticality":"reject","id":1,"value":true},{"criticality":"ignore","id":4,"value":7},{"criticality":"notify","id":9,"raw":"aa"}]
    shows (container (row 1 true boolean (row 4 false (integer (pos 0) (pos 255) false) no_rows))) (array (item (object (member (codes "criticality") (string (codes "reject")) (member (codes "id") (number (unsigned 1)) (member (codes "value") (truth_value true) no_members)))) (item (object (member (codes "criticality") (string (codes "ignore")) (member (codes "id") (number (unsigned 4)) (member (codes "value") (number (unsigned 7)) no_members)))) (item (object (member (codes "criticality") (string (codes "notify")) (member (codes "id") (number (unsigned 9)) (member (codes "raw") (string (codes "aa")) no_members)))) no_items))))
    (elements (ie 1 0 (truth true) (ie 4 1 (values.number (pos 7)) (ie 9 2 (raw (170 ∷ [])) no_ies)))) ∷
    -- U: {"initiatingMessage":{"criticality":"reject","procedureCode":7,"value":{"ies":[{"criticality":"reject","id":1,"value":true}]}}}
    shows (pdu (procedure 7 (outcome (sequence false (part (codes "ies") false (container (row 1 true boolean (row 4 false (integer (pos 0) (pos 255) false) no_rows))) no_parts) no_parts)) (outcome (sequence false (part (codes "a") false boolean (part (codes "b") true (integer (pos 0) (pos 255) false) no_parts)) no_parts)) no_outcome no_procedures)) (object (member (codes "initiatingMessage") (object (member (codes "criticality") (string (codes "reject")) (member (codes "procedureCode") (number (unsigned 7)) (member (codes "value") (object (member (codes "ies") (array (item (object (member (codes "criticality") (string (codes "reject")) (member (codes "id") (number (unsigned 1)) (member (codes "value") (truth_value true) no_members)))) no_items)) no_members)) no_members)))) no_members))
    (message 0 7 0 (components (present (elements (ie 1 0 (truth true) no_ies)) no_options) no_options)) ∷
    -- U: {"successfulOutcome":{"criticality":"reject","procedureCode":7,"value":{"a":true}}}
    shows (pdu (procedure 7 (outcome (sequence false (part (codes "ies") false (container (row 1 true boolean (row 4 false (integer (pos 0) (pos 255) false) no_rows))) no_parts) no_parts)) (outcome (sequence false (part (codes "a") false boolean (part (codes "b") true (integer (pos 0) (pos 255) false) no_parts)) no_parts)) no_outcome no_procedures)) (object (member (codes "successfulOutcome") (object (member (codes "criticality") (string (codes "reject")) (member (codes "procedureCode") (number (unsigned 7)) (member (codes "value") (object (member (codes "a") (truth_value true) no_members)) no_members)))) no_members))
    (message 1 7 0 (components (present (truth true) (absent no_options)) no_options)) ∷
    -- U: {"unsuccessfulOutcome":{"criticality":"reject","procedureCode":7,"raw":"00"}}
    shows (pdu (procedure 7 (outcome (sequence false (part (codes "ies") false (container (row 1 true boolean (row 4 false (integer (pos 0) (pos 255) false) no_rows))) no_parts) no_parts)) (outcome (sequence false (part (codes "a") false boolean (part (codes "b") true (integer (pos 0) (pos 255) false) no_parts)) no_parts)) no_outcome no_procedures)) (object (member (codes "unsuccessfulOutcome") (object (member (codes "criticality") (string (codes "reject")) (member (codes "procedureCode") (number (unsigned 7)) (member (codes "raw") (string (codes "00")) no_members)))) no_members))
    (message 2 7 0 (raw (0 ∷ []))) ∷
    -- U: {"initiatingMessage":{"criticality":"reject","procedureCode":8,"raw":"0102"}}
    shows (pdu (procedure 7 (outcome (sequence false (part (codes "ies") false (container (row 1 true boolean (row 4 false (integer (pos 0) (pos 255) false) no_rows))) no_parts) no_parts)) (outcome (sequence false (part (codes "a") false boolean (part (codes "b") true (integer (pos 0) (pos 255) false) no_parts)) no_parts)) no_outcome no_procedures)) (object (member (codes "initiatingMessage") (object (member (codes "criticality") (string (codes "reject")) (member (codes "procedureCode") (number (unsigned 8)) (member (codes "raw") (string (codes "0102")) no_members)))) no_members))
    (message 0 8 0 (raw (1 ∷ 2 ∷ []))) ∷
    -- U: {"...":[63,"00"]}
    shows (pdu (procedure 7 (outcome (sequence false (part (codes "ies") false (container (row 1 true boolean (row 4 false (integer (pos 0) (pos 255) false) no_rows))) no_parts) no_parts)) (outcome (sequence false (part (codes "a") false boolean (part (codes "b") true (integer (pos 0) (pos 255) false) no_parts)) no_parts)) no_outcome no_procedures)) (object (member (codes "...") (array (item (number (unsigned 63)) (item (string (codes "00")) no_items))) no_members))
    (message 66 0 0 (raw (0 ∷ []))) ∷
    []
