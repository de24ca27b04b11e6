-- The JSON text of each value of the worked rows, in their order, as another reading of the specification prints it.
use Rattle.std.specs.Prelude.{List, [], ◌∷◌, codes}
use Rattle.serde_json.specs.Written.{compact_text}
use Rattle.json_defs.specs.Members.{Text}
use Rattle.law_json.specs.rows.Row.{ShownRow}
use Rattle.json_defs.specs.shown_defs.Printed.{shown_as}

-- what a value is printed as
abbrev pub printed : ShownRow → Text
printed row = compact_text (shown_as row.t row.v)

abbrev pub texts : List Text
texts =
    codes "true" ∷
    codes "255" ∷
    codes "-5" ∷
    codes "11" ∷
    codes "-9223372036854775808" ∷
    codes "\"red\"" ∷
    codes "\"blue\"" ∷
    codes "{\"unknown\":0}" ∷
    codes "{\"unknown\":62}" ∷
    codes "\"101\"" ∷
    codes "\"AB\"" ∷
    codes "\"\"" ∷
    codes "\"0001020304\"" ∷
    codes "\"du1\"" ∷
    codes "{\"a\":true,\"b\":200}" ∷
    codes "{\"a\":true}" ∷
    codes "{\"a\":true}" ∷
    codes "{\"...\":[5],\"a\":true}" ∷
    codes "{\"...\":[null,true,\"AB\"],\"a\":true}" ∷
    codes "{\"x\":true}" ∷
    codes "{\"z\":\"10\"}" ∷
    codes "{\"...\":[0,\"AB\"]}" ∷
    codes "{\"...\":[62,\"AB\"]}" ∷
    codes "[1,2]" ∷
    codes "[{\"criticality\":\"reject\",\"id\":1,\"value\":true}]" ∷
    codes "[{\"criticality\":\"reject\",\"id\":1,\"value\":true},{\"criticality\":\"ignore\",\"id\":4,\"value\":7},{\"criticality\":\"notify\",\"id\":9,\"raw\":\"AA\"}]" ∷
    codes "{\"initiatingMessage\":{\"criticality\":\"reject\",\"procedureCode\":7,\"value\":{\"ies\":[{\"criticality\":\"reject\",\"id\":1,\"value\":true}]}}}" ∷
    codes "{\"successfulOutcome\":{\"criticality\":\"reject\",\"procedureCode\":7,\"value\":{\"a\":true}}}" ∷
    codes "{\"unsuccessfulOutcome\":{\"criticality\":\"reject\",\"procedureCode\":7,\"raw\":\"00\"}}" ∷
    codes "{\"initiatingMessage\":{\"criticality\":\"reject\",\"procedureCode\":8,\"raw\":\"0102\"}}" ∷
    codes "{\"...\":[63,\"00\"]}" ∷
    []
