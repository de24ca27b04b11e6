-- A step of a CU-UP keeps the refinement, and is orders of the models that ask what they do.
use Rattle.std.proofs.Common.{◌≡◌, ℕ, List, sym, subst, ◌∙◌}
use Rattle.gnb_types.specs.declared.names.SnBits.{SnBits}
use Rattle.gnb_types.specs.declared.names.UeId.{UeId}
use Rattle.gnb_types.specs.declared.names.BearerId.{BearerId}
use Rattle.unit_defs.specs.Ways.{Pdu}
use Rattle.run_defs.specs.Runs.{Reading, plain_way}
use Rattle.bearer_defs.specs.chain_defs.Models as down_models
use Rattle.bearer_defs.specs.uplink_defs.Models as up_models
use Rattle.proof_cu_up_orders.specs.bearer_orders.Happenings.{Contexts, Happening}
use Rattle.proof_cu_up_orders.specs.bearer_orders.Down as downs
use Rattle.proof_cu_up_orders.specs.bearer_orders.Up as ups
use Rattle.proof_bearer_refinement.specs.run_bearers.Bearers.{Numbering, contexts_of}
use Rattle.proof_bearer_refinement.specs.refinement_facts.Asked.{Refines, AreSound, down_after, up_after, step_asks}
use Rattle.proof_bearer_refinement.proofs.cu_up_step.Runs.{down_runs, up_runs}
use Rattle.proof_bearer_refinement.proofs.cu_up_opens.Ups as of_cu_ups
use Rattle.proof_bearer_refinement.specs.runs.Steps.{Point, IsRefined, CuUpActs, AreOrders}

module _ (reading : Reading) (n : Numbering) (ue : UeId) (bearer : BearerId) (sn : SnBits) (quota : ℕ) (p q : Point) (sound : AreSound p.state q.state)
    (refined : IsRefined reading n ue bearer sn quota p) (a : CuUpActs reading n ue bearer sn quota p q) where
  abbrev cs : Contexts
  cs = contexts_of n ue bearer p.state.units

  abbrev hs : List (Happening Pdu)
  hs = step_asks n ue bearer p.state a.gnb a.number a.cause a.input a.beside

  pub up_refined : IsRefined reading n ue bearer sn quota q
  up_refined =
      subst (λ (w : down_models.Model). Refines n ue bearer sn quota q.state w q.up) (sym a.down)
      (subst (λ (w : up_models.Model). Refines n ue bearer sn quota q.state (down_after n ue bearer p.state.units sn quota p.down cs hs) w) (sym a.up)
      (of_cu_ups.up_refined reading n ue bearer sn quota p.state q.state a.gnb a.number a.cause a.input a.outputs a.left a.beside a.acts sound p.down p.up
      refined a.asks a.fresh))

  pub up_orders : AreOrders reading n ue bearer sn quota p q
  up_orders = record {
    downs = downs.all_orders plain_way ue bearer sn quota cs hs;
    ups = ups.all_orders plain_way ue bearer cs hs;
    down = a.down ∙ down_runs n ue bearer p.state.units sn quota p.down cs hs;
    up = a.up ∙ up_runs n ue bearer p.state.units sn quota p.up cs hs;
    down_kept = of_cu_ups.down_kept reading n ue bearer sn quota p.state q.state a.gnb a.number a.cause a.input a.outputs a.left a.beside a.acts sound
        p.down p.up refined a.asks;
    up_kept = of_cu_ups.up_kept reading n ue bearer sn quota p.state q.state a.gnb a.number a.cause a.input a.outputs a.left a.beside a.acts sound
        p.down p.up refined a.asks;
  }
