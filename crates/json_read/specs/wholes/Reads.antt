-- Internal: what readers of JSON answer that go on with what others answered.
use Rattle.std.specs.Prelude.{◌≡◌, List, [], Option, Some, None, Result, IfOk, ◌∷◌}
use Rattle.aper_defs.specs.Trees.{Tree}
use Rattle.aper_defs.specs.Fields.{Path}
use Rattle.aper_defs.specs.Values as seen
use Rattle.aper_defs.specs.Membership.{Has}
use Rattle.aper_frames.specs.Paths.{step_view}
use Rattle.aper_frames.specs.declared.path.Step.{Step}
use Rattle.aper_values.specs.Views.{view, options_view}
use Rattle.aper_values.specs.declared.value.Value.{Value}
use Rattle.aper_values.specs.declared.value.Element.{Element}
use Rattle.json_defs.specs.declared.fault.JsonFault.{JsonFault}
use Rattle.json_defs.specs.declared.fault.JsonFault.TheVariants.{Range}
use Rattle.json_defs.specs.Demands.{Demand, first_fault}
use Rattle.json_fields.specs.declared.simple.refusal.Refusal.{Refusal}
use Rattle.json_fields.specs.simple.Answers.{Reads}
use Rattle.json_read.specs.declared.wholes.heads.ElementHead.{ElementHead}
use Rattle.json_read.specs.declared.wholes.wholes.Additions.{Additions}

-- no demand fails and this value was read, or the first that fails is told
abbrev pub ReadsAs : (Path → List Demand) → seen.Value → Result Value Refusal → Type 0
ReadsAs of v answer = Reads of (λ x. view x ≡ v) answer

-- what was read is a value of the type
abbrev pub HasAsked : Tree → Result Value Refusal → Type 0
HasAsked t answer = IfOk answer (λ v. Has [] t (view v))

abbrev pub element_of : ElementHead → seen.Value → Element seen.Value
element_of head v = record { id = head.id; criticality = head.criticality; body = v }

-- the fault of the first addition that no open type holds
abbrev pub unfit_at : Path → Option Step → Option (JsonFault × Path)
unfit_at p None = None
unfit_at p (Some step) = Some (Range, step_view step ∷ p)

-- additions that were read, and what open types demand of them later
abbrev pub ReadsAdditions : (Path → List Demand) → (Path → List Demand) → seen.Options → Result Additions Refusal → Type 0
ReadsAdditions listed opens more answer = Reads listed
    (λ added. (options_view added.values.items ≡ more) × ((p : Path) → first_fault (opens p) ≡ unfit_at p added.unfit)) answer
