use Rattle.std.proofs.Common.{◌≡◌, Result, Bool, true, sym, subst}
use Rattle.std.specs.Prelude.{IfOk}
use Rattle.aper_values.specs.types.Types.{tree}
use Rattle.aper_values.specs.declared.value.Value.{Value}
use Rattle.aper_values.specs.Views.{view}
use Rattle.json_defs.specs.Readings.{value_of}
use Rattle.json_defs.specs.Demands.{fits_open}
use Rattle.json_defs.specs.type_defs.Types.{named}
use Rattle.json_fields.specs.declared.simple.refusal.Refusal.{Refusal}
use Rattle.json_read.specs.wholes.Reads.{HasAsked}
use Rattle.json_read.proofs.wholes.contents.is_fitting.Goals as goal

pub is_held-requires-clause-member : goal.is_held-requires-clause-member
is_held-requires-clause-member c =
    subst (λ (r : Result Value Refusal). HasAsked (tree c.args.m.now c.args.id.number) r) c.in-Ok.is c.requires.member

pub returns-in-Ok : goal.returns-in-Ok
returns-in-Ok c =
    λ d p. subst (λ (r : Result Value Refusal). IfOk r (λ v. view v ≡ value_of (named c.args.m.now c.args.id.number) d
    → c.is_held.result ≡ fits_open p (named c.args.m.now c.args.id.number) d)) (sym c.in-Ok.is) (λ e. c.is_held.ensures d p e)

pub returns-in-Err : goal.returns-in-Err
returns-in-Err c =
    λ d p. subst (λ (r : Result Value Refusal). IfOk r (λ v. view v ≡ value_of (named c.args.m.now c.args.id.number) d
    → true ≡ fits_open p (named c.args.m.now c.args.id.number) d)) (sym c.in-Err.is) tt
