-- Internal: what is so of a terminal that no error ended.
use Rattle.std.specs.Prelude.{Option, Some, None}
use Rattle.unit_messages.specs.declared.steps.StepError.{StepError}
use Rattle.ue_node.specs.rows.Records.{IsRecord}
use Rattle.ue_node.specs.declared.rows.record.UeRecord.{UeRecord}

abbrev pub IsSoundUnlessFailed : Option StepError → UeRecord → Type 0
IsSoundUnlessFailed None r = IsRecord r
IsSoundUnlessFailed (Some error) r = Unit {0}
