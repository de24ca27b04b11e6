use Rattle.std.proofs.Common.{ap, sym, subst, ◌∙◌, ◌≡◌}
use Rattle.gnb_types.specs.declared.names.UeId.{UeId}
use Rattle.gnb_types.specs.declared.names.BearerId.{BearerId}
use Rattle.proof_unit_steps.specs.tunnel_frames.OneTunnel.{BearersInOrder}
use Rattle.proof_cu_up_orders.specs.context_orders.Orders.{model_of as up_model_of}
use Rattle.proof_node_orders.specs.du_inputs.Changes.{model_of}
use Rattle.run_defs.specs.Units.{cu_up_of, du_of}
use Rattle.proof_bearer_refinement.specs.run_unit_inputs.Happenings.{CuUpRecord, DuRecord}
use Rattle.proof_bearer_refinement.specs.run_unit_inputs.Ups.{all_carried, up_changes, IsLeft}
use Rattle.proof_bearer_refinement.proofs.run_unit_inputs.Runs.{units_go}
use Rattle.proof_bearer_refinement.proofs.run_unit_inputs.Dus.{models_change}
use Rattle.proof_bearer_refinement.proofs.run_unit_inputs.Ups.{all_go}
use Rattle.proof_bearer_refinement.proofs.run_unit_inputs.a_run_is_lists_of_orders.Goals as goal

pub returns : goal.returns
returns c = record {
  ups = λ reading events s t is gnb number order.
      let happened = (units_go reading events s t is).0 gnb number in
      let r : CuUpRecord = cu_up_of s.units gnb number in (
        happened.0,
        happened.1,
        subst (λ (x : CuUpRecord). BearersInOrder x) (sym happened.1) (all_go (record { 0 = 0 }) (record { 0 = 0 }) r happened.0 order).0,
        λ ue bearer. subst (λ (x : CuUpRecord). IsLeft (up_model_of x ue bearer) (all_carried ue bearer (up_changes ue bearer r happened.0) (up_model_of r ue bearer)))
            (sym happened.1) (all_go ue bearer r happened.0 order).1,
      );
  dus = λ reading events s t is gnb number.
      let happened = (units_go reading events s t is).1 gnb number in
      let r : DuRecord = du_of s.units gnb number in (
        happened.0,
        happened.1,
        λ ue bearer. ap (λ (x : DuRecord). model_of x ue bearer) happened.1 ∙ models_change ue bearer r happened.0,
      );
}
