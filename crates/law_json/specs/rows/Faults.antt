-- JSON of no value, with its first fault: the form of a member, or its bounds.
use Rattle.std.specs.Prelude.{List, [], ◌∷◌, Some, true, false, pos, negsuc, codes}
use Rattle.serde_json.specs.Data.{unsigned, negative, null, boolean as truth_value, number, string, array, object, no_items, item, no_members, member}
use Rattle.aper_defs.specs.Fields as ways
use Rattle.json_defs.specs.declared.fault.JsonFault.TheVariants.{Shape, Range}
use Rattle.json_defs.specs.Named.{boolean, integer, enumerated, bit_string, octet_string, printable_string, sequence, choice, sequence_of, container, pdu, no_parts, part, no_rows, row, no_procedures, procedure, no_outcome, outcome}
use Rattle.law_json.specs.rows.Row.{FaultRow, fails, size}

abbrev pub faults : List FaultRow
faults =
    -- B: 1
    fails boolean (number (unsigned 1))
    Shape ([]) ∷
    -- I: 256
    fails (integer (pos 0) (pos 255) false) (number (unsigned 256))
    Range ([]) ∷
    -- I: -1
    fails (integer (pos 0) (pos 255) false) (number (negative (negsuc 0)))
    Range ([]) ∷
    -- I: "1"
    fails (integer (pos 0) (pos 255) false) (string (codes "1"))
    Shape ([]) ∷
    -- X: 9223372036854775808
    fails (integer (negsuc 4) (pos 10) true) (number (unsigned 9223372036854775808))
    Range ([]) ∷
    -- E: "pink"
    fails (enumerated (codes "red" ∷ codes "green" ∷ []) (codes "blue" ∷ []) true) (string (codes "pink"))
    Shape ([]) ∷
    -- E: {"unknown":63}
    fails (enumerated (codes "red" ∷ codes "green" ∷ []) (codes "blue" ∷ []) true) (object (member (codes "unknown") (number (unsigned 63)) no_members))
    Shape ([]) ∷
    -- N: {"unknown":0}
    fails (enumerated (codes "red" ∷ codes "green" ∷ []) ([]) false) (object (member (codes "unknown") (number (unsigned 0)) no_members))
    Shape ([]) ∷
    -- E: {"unknown":0,"x":1}
    fails (enumerated (codes "red" ∷ codes "green" ∷ []) (codes "blue" ∷ []) true) (object (member (codes "unknown") (number (unsigned 0)) (member (codes "x") (number (unsigned 1)) no_members)))
    Shape ([]) ∷
    -- E: {"x":0}
    fails (enumerated (codes "red" ∷ codes "green" ∷ []) (codes "blue" ∷ []) true) (object (member (codes "x") (number (unsigned 0)) no_members))
    Shape ([]) ∷
    -- E: a tree with one member twice, which no text gives
    fails (enumerated (codes "red" ∷ codes "green" ∷ []) (codes "blue" ∷ []) true) (object (member (codes "unknown") (number (unsigned 0)) (member (codes "unknown") (number (unsigned 0)) no_members)))
    Shape ([]) ∷
    -- S: ""
    fails (bit_string (Some (size 1 4 false))) (string (codes ""))
    Range ([]) ∷
    -- S: "12"
    fails (bit_string (Some (size 1 4 false))) (string (codes "12"))
    Shape ([]) ∷
    -- S: "10101"
    fails (bit_string (Some (size 1 4 false))) (string (codes "10101"))
    Range ([]) ∷
    -- O: "ABC"
    fails (octet_string (Some (size 1 3 true))) (string (codes "ABC"))
    Shape ([]) ∷
    -- P: "d*"
    fails (printable_string (Some (size 1 4 false))) (string (codes "d*"))
    Range ([]) ∷
    -- P: "12345"
    fails (printable_string (Some (size 1 4 false))) (string (codes "12345"))
    Range ([]) ∷
    -- P: 7
    fails (printable_string (Some (size 1 4 false))) (number (unsigned 7))
    Shape ([]) ∷
    -- Q: {"b":200}
    fails (sequence false (part (codes "a") false boolean (part (codes "b") true (integer (pos 0) (pos 255) false) no_parts)) no_parts) (object (member (codes "b") (number (unsigned 200)) no_members))
    Shape (ways.component (codes "a") ∷ []) ∷
    -- Q: {"a":1,"b":300}
    fails (sequence false (part (codes "a") false boolean (part (codes "b") true (integer (pos 0) (pos 255) false) no_parts)) no_parts) (object (member (codes "a") (number (unsigned 1)) (member (codes "b") (number (unsigned 300)) no_members)))
    Shape (ways.component (codes "a") ∷ []) ∷
    -- Q: {"a":true,"b":300}
    fails (sequence false (part (codes "a") false boolean (part (codes "b") true (integer (pos 0) (pos 255) false) no_parts)) no_parts) (object (member (codes "a") (truth_value true) (member (codes "b") (number (unsigned 300)) no_members)))
    Range (ways.component (codes "b") ∷ []) ∷
    -- Q: {"a":true,"c":1}
    fails (sequence false (part (codes "a") false boolean (part (codes "b") true (integer (pos 0) (pos 255) false) no_parts)) no_parts) (object (member (codes "a") (truth_value true) (member (codes "c") (number (unsigned 1)) no_members)))
    Shape ([]) ∷
    -- Q: {"a":true,"...":[]}
    fails (sequence false (part (codes "a") false boolean (part (codes "b") true (integer (pos 0) (pos 255) false) no_parts)) no_parts) (object (member (codes "...") (array no_items) (member (codes "a") (truth_value true) no_members)))
    Shape ([]) ∷
    -- Q: []
    fails (sequence false (part (codes "a") false boolean (part (codes "b") true (integer (pos 0) (pos 255) false) no_parts)) no_parts) (array no_items)
    Shape ([]) ∷
    -- R: {"a":true,"...":[]}
    fails (sequence true (part (codes "a") false boolean no_parts) (part (codes "c") false (integer (pos 0) (pos 7) false) (part (codes "d") false boolean no_parts))) (object (member (codes "...") (array no_items) (member (codes "a") (truth_value true) no_members)))
    Range ([]) ∷
    -- R: {"a":true,"...":[null]}
    fails (sequence true (part (codes "a") false boolean no_parts) (part (codes "c") false (integer (pos 0) (pos 7) false) (part (codes "d") false boolean no_parts))) (object (member (codes "...") (array (item null no_items)) (member (codes "a") (truth_value true) no_members)))
    Range ([]) ∷
    -- R: {"a":true,"...":[9,1]}
    fails (sequence true (part (codes "a") false boolean no_parts) (part (codes "c") false (integer (pos 0) (pos 7) false) (part (codes "d") false boolean no_parts))) (object (member (codes "...") (array (item (number (unsigned 9)) (item (number (unsigned 1)) no_items))) (member (codes "a") (truth_value true) no_members)))
    Range (ways.component (codes "c") ∷ []) ∷
    -- R: {"a":true,"...":5,"q":1}
    fails (sequence true (part (codes "a") false boolean no_parts) (part (codes "c") false (integer (pos 0) (pos 7) false) (part (codes "d") false boolean no_parts))) (object (member (codes "...") (number (unsigned 5)) (member (codes "a") (truth_value true) (member (codes "q") (number (unsigned 1)) no_members))))
    Shape ([]) ∷
    -- R: {"a":true,"...":[null,null,"A"]}
    fails (sequence true (part (codes "a") false boolean no_parts) (part (codes "c") false (integer (pos 0) (pos 7) false) (part (codes "d") false boolean no_parts))) (object (member (codes "...") (array (item null (item null (item (string (codes "A")) no_items)))) (member (codes "a") (truth_value true) no_members)))
    Shape ([]) ∷
    -- R: {"a":true,"...":[null,null,""]}
    fails (sequence true (part (codes "a") false boolean no_parts) (part (codes "c") false (integer (pos 0) (pos 7) false) (part (codes "d") false boolean no_parts))) (object (member (codes "...") (array (item null (item null (item (string (codes "")) no_items)))) (member (codes "a") (truth_value true) no_members)))
    Range ([]) ∷
    -- C: {"z":"1"}
    fails (choice true (part (codes "x") false boolean (part (codes "y") false (integer (pos 0) (pos 7) false) no_parts)) (part (codes "z") false (bit_string (Some (size 2 2 false))) no_parts)) (object (member (codes "z") (string (codes "1")) no_members))
    Range (ways.component (codes "z") ∷ []) ∷
    -- C: {"...":[63,"AB"]}
    fails (choice true (part (codes "x") false boolean (part (codes "y") false (integer (pos 0) (pos 7) false) no_parts)) (part (codes "z") false (bit_string (Some (size 2 2 false))) no_parts)) (object (member (codes "...") (array (item (number (unsigned 63)) (item (string (codes "AB")) no_items))) no_members))
    Shape ([]) ∷
    -- C: {"...":[0,""]}
    fails (choice true (part (codes "x") false boolean (part (codes "y") false (integer (pos 0) (pos 7) false) no_parts)) (part (codes "z") false (bit_string (Some (size 2 2 false))) no_parts)) (object (member (codes "...") (array (item (number (unsigned 0)) (item (string (codes "")) no_items))) no_members))
    Range ([]) ∷
    -- C: {"...":[0]}
    fails (choice true (part (codes "x") false boolean (part (codes "y") false (integer (pos 0) (pos 7) false) no_parts)) (part (codes "z") false (bit_string (Some (size 2 2 false))) no_parts)) (object (member (codes "...") (array (item (number (unsigned 0)) no_items)) no_members))
    Shape ([]) ∷
    -- C: {"x":true,"y":9}
    fails (choice true (part (codes "x") false boolean (part (codes "y") false (integer (pos 0) (pos 7) false) no_parts)) (part (codes "z") false (bit_string (Some (size 2 2 false))) no_parts)) (object (member (codes "x") (truth_value true) (member (codes "y") (number (unsigned 9)) no_members)))
    Shape ([]) ∷
    -- C: {"y":1,"x":true}
    fails (choice true (part (codes "x") false boolean (part (codes "y") false (integer (pos 0) (pos 7) false) no_parts)) (part (codes "z") false (bit_string (Some (size 2 2 false))) no_parts)) (object (member (codes "x") (truth_value true) (member (codes "y") (number (unsigned 1)) no_members)))
    Shape ([]) ∷
    -- C: {"w":1}
    fails (choice true (part (codes "x") false boolean (part (codes "y") false (integer (pos 0) (pos 7) false) no_parts)) (part (codes "z") false (bit_string (Some (size 2 2 false))) no_parts)) (object (member (codes "w") (number (unsigned 1)) no_members))
    Shape ([]) ∷
    -- C: {}
    fails (choice true (part (codes "x") false boolean (part (codes "y") false (integer (pos 0) (pos 7) false) no_parts)) (part (codes "z") false (bit_string (Some (size 2 2 false))) no_parts)) (object no_members)
    Shape ([]) ∷
    -- D: {"...":[0,"AB"]}
    fails (choice false (part (codes "x") false boolean no_parts) no_parts) (object (member (codes "...") (array (item (number (unsigned 0)) (item (string (codes "AB")) no_items))) no_members))
    Shape ([]) ∷
    -- C: {"...":[0,"AB"],"q":1}
    fails (choice true (part (codes "x") false boolean (part (codes "y") false (integer (pos 0) (pos 7) false) no_parts)) (part (codes "z") false (bit_string (Some (size 2 2 false))) no_parts)) (object (member (codes "...") (array (item (number (unsigned 0)) (item (string (codes "AB")) no_items))) (member (codes "q") (number (unsigned 1)) no_members)))
    Shape ([]) ∷
    -- L: []
    fails (sequence_of (Some (size 1 3 false)) (integer (pos 0) (pos 7) false)) (array no_items)
    Range ([]) ∷
    -- L: [1,9,"a"]
    fails (sequence_of (Some (size 1 3 false)) (integer (pos 0) (pos 7) false)) (array (item (number (unsigned 1)) (item (number (unsigned 9)) (item (string (codes "a")) no_items))))
    Range (ways.member 1 ∷ []) ∷
    -- L: {}
    fails (sequence_of (Some (size 1 3 false)) (integer (pos 0) (pos 7) false)) (object no_members)
    Shape ([]) ∷
    -- G: []
    fails (container (row 1 true boolean (row 4 false (integer (pos 0) (pos 255) false) no_rows))) (array no_items)
    Range ([]) ∷
    -- G: [{"criticality":"ignore","id":4,"value":7},{"criticality":"reject","id":1,"value":true}]
    fails (container (row 1 true boolean (row 4 false (integer (pos 0) (pos 255) false) no_rows))) (array (item (object (member (codes "criticality") (string (codes "ignore")) (member (codes "id") (number (unsigned 4)) (member (codes "value") (number (unsigned 7)) no_members)))) (item (object (member (codes "criticality") (string (codes "reject")) (member (codes "id") (number (unsigned 1)) (member (codes "value") (truth_value true) no_members)))) no_items)))
    Range ([]) ∷
    -- G: [{"criticality":"reject","id":1,"value":true},{"criticality":"reject","id":1,"value":true}]
    fails (container (row 1 true boolean (row 4 false (integer (pos 0) (pos 255) false) no_rows))) (array (item (object (member (codes "criticality") (string (codes "reject")) (member (codes "id") (number (unsigned 1)) (member (codes "value") (truth_value true) no_members)))) (item (object (member (codes "criticality") (string (codes "reject")) (member (codes "id") (number (unsigned 1)) (member (codes "value") (truth_value true) no_members)))) no_items)))
    Range ([]) ∷
    -- G: [{"criticality":"x","id":1,"value":true}]
    fails (container (row 1 true boolean (row 4 false (integer (pos 0) (pos 255) false) no_rows))) (array (item (object (member (codes "criticality") (string (codes "x")) (member (codes "id") (number (unsigned 1)) (member (codes "value") (truth_value true) no_members)))) no_items))
    Shape (ways.element 1 ∷ []) ∷
    -- G: [{"criticality":"reject","id":1,"raw":"00"}]
    fails (container (row 1 true boolean (row 4 false (integer (pos 0) (pos 255) false) no_rows))) (array (item (object (member (codes "criticality") (string (codes "reject")) (member (codes "id") (number (unsigned 1)) (member (codes "raw") (string (codes "00")) no_members)))) no_items))
    Shape (ways.element 1 ∷ []) ∷
    -- G: [{"criticality":"reject","id":9,"value":true}]
    fails (container (row 1 true boolean (row 4 false (integer (pos 0) (pos 255) false) no_rows))) (array (item (object (member (codes "criticality") (string (codes "reject")) (member (codes "id") (number (unsigned 9)) (member (codes "value") (truth_value true) no_members)))) no_items))
    Shape (ways.element 9 ∷ []) ∷
    -- G: [{"criticality":"reject","id":70000,"raw":"00"}]
    fails (container (row 1 true boolean (row 4 false (integer (pos 0) (pos 255) false) no_rows))) (array (item (object (member (codes "criticality") (string (codes "reject")) (member (codes "id") (number (unsigned 70000)) (member (codes "raw") (string (codes "00")) no_members)))) no_items))
    Range ([]) ∷
    -- G: [{"criticality":"reject"}]
    fails (container (row 1 true boolean (row 4 false (integer (pos 0) (pos 255) false) no_rows))) (array (item (object (member (codes "criticality") (string (codes "reject")) no_members)) no_items))
    Shape ([]) ∷
    -- G: [{"criticality":"reject","id":1,"value":1}]
    fails (container (row 1 true boolean (row 4 false (integer (pos 0) (pos 255) false) no_rows))) (array (item (object (member (codes "criticality") (string (codes "reject")) (member (codes "id") (number (unsigned 1)) (member (codes "value") (number (unsigned 1)) no_members)))) no_items))
    Shape (ways.element 1 ∷ []) ∷
    -- G: [{"criticality":"reject","id":1,"value":true,"q":1}]
    fails (container (row 1 true boolean (row 4 false (integer (pos 0) (pos 255) false) no_rows))) (array (item (object (member (codes "criticality") (string (codes "reject")) (member (codes "id") (number (unsigned 1)) (member (codes "q") (number (unsigned 1)) (member (codes "value") (truth_value true) no_members))))) no_items))
    Shape (ways.element 1 ∷ []) ∷
    -- G: [5]
    fails (container (row 1 true boolean (row 4 false (integer (pos 0) (pos 255) false) no_rows))) (array (item (number (unsigned 5)) no_items))
    Shape ([]) ∷
    -- G: [{"criticality":"reject","id":-1,"raw":"00"}]
    fails (container (row 1 true boolean (row 4 false (integer (pos 0) (pos 255) false) no_rows))) (array (item (object (member (codes "criticality") (string (codes "reject")) (member (codes "id") (number (negative (negsuc 0))) (member (codes "raw") (string (codes "00")) no_members)))) no_items))
    Range ([]) ∷
    -- U: {"unsuccessfulOutcome":{"criticality":"reject","procedureCode":7,"value":true}}
    fails (pdu (procedure 7 (outcome (sequence false (part (codes "ies") false (container (row 1 true boolean (row 4 false (integer (pos 0) (pos 255) false) no_rows))) no_parts) no_parts)) (outcome (sequence false (part (codes "a") false boolean (part (codes "b") true (integer (pos 0) (pos 255) false) no_parts)) no_parts)) no_outcome no_procedures)) (object (member (codes "unsuccessfulOutcome") (object (member (codes "criticality") (string (codes "reject")) (member (codes "procedureCode") (number (unsigned 7)) (member (codes "value") (truth_value true) no_members)))) no_members))
    Shape (ways.outcome 2 ∷ []) ∷
    -- U: {"initiatingMessage":{"criticality":"reject","procedureCode":256,"raw":"0102"}}
    fails (pdu (procedure 7 (outcome (sequence false (part (codes "ies") false (container (row 1 true boolean (row 4 false (integer (pos 0) (pos 255) false) no_rows))) no_parts) no_parts)) (outcome (sequence false (part (codes "a") false boolean (part (codes "b") true (integer (pos 0) (pos 255) false) no_parts)) no_parts)) no_outcome no_procedures)) (object (member (codes "initiatingMessage") (object (member (codes "criticality") (string (codes "reject")) (member (codes "procedureCode") (number (unsigned 256)) (member (codes "raw") (string (codes "0102")) no_members)))) no_members))
    Range (ways.outcome 0 ∷ []) ∷
    -- U: {"initiatingMessage":{"procedureCode":7,"raw":"0102"}}
    fails (pdu (procedure 7 (outcome (sequence false (part (codes "ies") false (container (row 1 true boolean (row 4 false (integer (pos 0) (pos 255) false) no_rows))) no_parts) no_parts)) (outcome (sequence false (part (codes "a") false boolean (part (codes "b") true (integer (pos 0) (pos 255) false) no_parts)) no_parts)) no_outcome no_procedures)) (object (member (codes "initiatingMessage") (object (member (codes "procedureCode") (number (unsigned 7)) (member (codes "raw") (string (codes "0102")) no_members))) no_members))
    Shape (ways.outcome 0 ∷ []) ∷
    -- U: {"...":[64,"00"]}
    fails (pdu (procedure 7 (outcome (sequence false (part (codes "ies") false (container (row 1 true boolean (row 4 false (integer (pos 0) (pos 255) false) no_rows))) no_parts) no_parts)) (outcome (sequence false (part (codes "a") false boolean (part (codes "b") true (integer (pos 0) (pos 255) false) no_parts)) no_parts)) no_outcome no_procedures)) (object (member (codes "...") (array (item (number (unsigned 64)) (item (string (codes "00")) no_items))) no_members))
    Shape ([]) ∷
    -- U: {}
    fails (pdu (procedure 7 (outcome (sequence false (part (codes "ies") false (container (row 1 true boolean (row 4 false (integer (pos 0) (pos 255) false) no_rows))) no_parts) no_parts)) (outcome (sequence false (part (codes "a") false boolean (part (codes "b") true (integer (pos 0) (pos 255) false) no_parts)) no_parts)) no_outcome no_procedures)) (object no_members)
    Shape ([]) ∷
    -- U: {"initiatingMessage":{"criticality":"reject","procedureCode":7,"value":{"ies":[]}}}
    fails (pdu (procedure 7 (outcome (sequence false (part (codes "ies") false (container (row 1 true boolean (row 4 false (integer (pos 0) (pos 255) false) no_rows))) no_parts) no_parts)) (outcome (sequence false (part (codes "a") false boolean (part (codes "b") true (integer (pos 0) (pos 255) false) no_parts)) no_parts)) no_outcome no_procedures)) (object (member (codes "initiatingMessage") (object (member (codes "criticality") (string (codes "reject")) (member (codes "procedureCode") (number (unsigned 7)) (member (codes "value") (object (member (codes "ies") (array no_items) no_members)) no_members)))) no_members))
    Range (ways.component (codes "ies") ∷ ways.outcome 0 ∷ []) ∷
    -- U: {"initiatingMessage":{"criticality":"reject","procedureCode":8,"raw":"0102"},"q":1}
    fails (pdu (procedure 7 (outcome (sequence false (part (codes "ies") false (container (row 1 true boolean (row 4 false (integer (pos 0) (pos 255) false) no_rows))) no_parts) no_parts)) (outcome (sequence false (part (codes "a") false boolean (part (codes "b") true (integer (pos 0) (pos 255) false) no_parts)) no_parts)) no_outcome no_procedures)) (object (member (codes "initiatingMessage") (object (member (codes "criticality") (string (codes "reject")) (member (codes "procedureCode") (number (unsigned 8)) (member (codes "raw") (string (codes "0102")) no_members)))) (member (codes "q") (number (unsigned 1)) no_members)))
    Shape ([]) ∷
    -- U: {"initiatingMessage":5}
    fails (pdu (procedure 7 (outcome (sequence false (part (codes "ies") false (container (row 1 true boolean (row 4 false (integer (pos 0) (pos 255) false) no_rows))) no_parts) no_parts)) (outcome (sequence false (part (codes "a") false boolean (part (codes "b") true (integer (pos 0) (pos 255) false) no_parts)) no_parts)) no_outcome no_procedures)) (object (member (codes "initiatingMessage") (number (unsigned 5)) no_members))
    Shape (ways.outcome 0 ∷ []) ∷
    []
