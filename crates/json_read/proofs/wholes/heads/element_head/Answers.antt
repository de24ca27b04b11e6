use Rattle.std.proofs.Common.{◌≡◌, ℕ, List, [], ◌∷◌, ◌++◌, Bool, sym, ap, subst, ◌∙◌}
use Rattle.std.specs.Prelude.{is_some}
use Rattle.std.proofs.lemmas.Result.{err_from_is_err_and}
use Rattle.serde_json.specs.Data.{Data}
use Rattle.serde_json.specs.Find.{as_object}
use Rattle.serde_json.specs.View.{view as json}
use Rattle.aper_defs.specs.Fields.{Path}
use Rattle.aper_defs.specs.Fields as ways
use Rattle.json_defs.specs.declared.fault.JsonFault.TheVariants.{Shape}
use Rattle.json_defs.specs.Members.{members_in, member_of, criticality_key, criticality_in}
use Rattle.json_defs.specs.Demands.{Demand, shape, id_in}
use Rattle.json_fields.specs.simple.Answers.{Tells}
use Rattle.json_read.specs.wholes.Heads.{element_id_demands}
use Rattle.json_read.proofs.wholes.Demanded.{both_none, one_none, told_first, told_later}
use Rattle.json_read.proofs.wholes.Passed.{here_told}
use Rattle.json_read.proofs.wholes.heads.element_head.Goals as goal

-- whether it has a criticality
abbrev told : Data → Bool
told d = is_some (criticality_in (member_of criticality_key (members_in (as_object d))))

abbrev last : Data → Path → List Demand
last d p = shape (ways.element (id_in d) ∷ p) (told d) ∷ []

pub returns-in_err-id : goal.returns-in_err-id
returns-in_err-id c =
    let d : Data = json c.args.d.now in
    let p = err_from_is_err_and c.from_residual.result c.from_residual.ensures.1 in
    rw (p.1, p.2) (told_first (λ q. element_id_demands q d) (last d) c.in_err-id.field-0.0 c.in_err-id.ensures)

pub returns-in_default : goal.returns-in_default
returns-in_default c =
    let d : Data = json c.args.d.now in
    told_later (λ q. element_id_demands q d) (last d) c.under.result c.in_ok-id.ensures.0
    (subst (λ (n : ℕ). Tells (λ q. shape (ways.element n ∷ q) (told d) ∷ []) c.under.result) c.in_ok-id.ensures.1.1
    (c.under.ensures (λ q. shape q (told d) ∷ [])
    (here_told Shape c.shape.result (λ q. told d) c.shape.ensures (λ q. ap told c.in_ok-id.ensures.1.0 ∙ ap is_some (sym c.in_default.ensures)))))

pub returns : goal.returns
returns c =
    let d : Data = json c.args.d.now in (
      both_none (λ q. element_id_demands q d) (last d) c.in_ok-id.ensures.0
          (λ q. one_none (ways.element (id_in d) ∷ q) Shape (told d) (ap told c.in_ok-id.ensures.1.0 ∙ ap is_some (sym c.in-Some.ensures))),
      record { is = c.in_ok-id.ensures.1.0; id = c.in_ok-id.ensures.1.1; criticality = c.in-Some.ensures },
    )
