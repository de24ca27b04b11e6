use Rattle.std.proofs.Common.{◌∙◌, ◌<◌, length, rules}
use Rattle.asn1_module.proofs.NamesByNumber.{targets_long, body_here}
use Rattle.asn1_module.proofs.module.Module.body_of.Goals as goal

pub offset_bounds-as_slice-id : goal.offset_bounds-as_slice-id
offset_bounds-as_slice-id c =
    let lt : c.args.id.number < length c.as_slice.result.now =
    targets_long c.self.inside.syntax c.args.self.now c.as_slice.result.now c.args.id.number c.self.view_is
    (c.as_slice.ensures.value ∙ c.self.invariant.1) c.requires in
    search rules

pub bounds-as_slice-id : goal.bounds-as_slice-id
bounds-as_slice-id c =
    targets_long c.self.inside.syntax c.args.self.now c.as_slice.result.now c.args.id.number c.self.view_is
    (c.as_slice.ensures.value ∙ c.self.invariant.1) c.requires

pub returns : goal.returns
returns c =
    c.body_at.ensures
    ∙ body_here c.self.inside.syntax c.args.self.now c.as_slice.result.now c.as_slice-2.result.now c.args.id.number _ c.self.view_is
    (c.as_slice.ensures.value ∙ c.self.invariant.1) c.as_slice-2.ensures c.requires
