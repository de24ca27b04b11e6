-- Steps of DUs, of the core and of all else leave a bearer's contexts well-linked.
use Rattle.std.proofs.Common.{◌≡◌, ℕ, [], ◌∷◌, map, None, refl, sym, ap, subst, ◌∙◌}
use Rattle.gnb_types.specs.declared.names.NodeId.TheVariants.{Core}
use Rattle.gnb_types.specs.declared.names.SnBits.{SnBits}
use Rattle.gnb_types.specs.declared.names.UeId.{UeId}
use Rattle.gnb_types.specs.declared.names.BearerId.{BearerId}
use Rattle.gnb_types.specs.declared.names.Dir.TheVariants.{Dl}
use Rattle.gnb_types.specs.declared.keys.TunnelEnd.{TunnelEnd}
use Rattle.message_types.specs.declared.rrc.Token.{Token}
use Rattle.unit_defs.specs.Ways.{Message, fresh, packet}
use Rattle.unit_defs.specs.Messages.{teid_of}
use Rattle.gnb_types.specs.declared.outputs.Tag.TheVariants.{Absent}
use Rattle.run_defs.specs.Lines.{RunLine, got_message}
use Rattle.run_defs.specs.Units.{with_du}
use Rattle.run_defs.specs.Written.{written_put}
use Rattle.run_defs.specs.States.{entity, sn_of, ◌next◌}
use Rattle.run_defs.specs.Steps.{check_spans, put_on_tunnel, put_out_all}
use Rattle.run_defs.specs.Events.{offered}
use Rattle.run_defs.specs.Runs.{Reading, plain_world}
use Rattle.proof_run_steps.specs.teids.Given.{GiveOnce}
use Rattle.transport_defs.specs.Links.{landed}
use Rattle.proof_run_steps.proofs.steps.Frames.{HasUnits, units_by, act_units}
use Rattle.bearer_defs.specs.chain_defs.Models as down_models
use Rattle.bearer_defs.specs.chain_defs.Orders as down
use Rattle.bearer_defs.specs.uplink_defs.Models as up_models
use Rattle.bearer_defs.specs.uplink_defs.Orders as up
use Rattle.proof_cu_up_orders.specs.bearer_orders.Happenings.{Contexts}
use Rattle.proof_bearer_refinement.specs.run_bearers.Things.{PlainUnits}
use Rattle.proof_bearer_refinement.specs.run_bearers.Bearers.{Numbering, contexts_of}
use Rattle.proof_bearer_refinement.specs.refinement_facts.Refinements.{RunState, owned_at}
use Rattle.proof_bearer_refinement.proofs.refinement_facts.Puts.{Outs}
use Rattle.proof_bearer_refinement.specs.du_puts.Puts.{orders_up, puts_of}
use Rattle.proof_bearer_refinement.proofs.du_puts.Apart.{on_same, contexts_same}
use Rattle.proof_bearer_refinement.proofs.du_puts.Stands.{Ends, after_told, and_no_more, units_put, ups_stay}
use Rattle.proof_node_orders.specs.core_rows.Shown.{goal_by}
use Rattle.proof_bearer_refinement.specs.core_step.Core.{orders_offered, places_of, orders_told}
use Rattle.proof_bearer_refinement.specs.runs.Steps.{Point, DuActs, CoreOffers, CoreTakes, StaysInFrame}
use Rattle.law_handover_delivers.proofs.unused_uplinks.Hops.{SameDown, SameUp, offered_same, told_same, puts_same, radio_same, terminal_same}
use Rattle.law_handover_delivers.specs.assumed_runs.Assuming.{IsWellLinkedAt}
use Rattle.law_handover_delivers.proofs.assumed_runs.Grows.{well_linked_by, well_linked_later}

-- ---- where the contexts stay, and whose their tunnels are

module _ (reading : Reading) (n : Numbering) (ue : UeId) (bearer : BearerId) (sn : SnBits) (quota : ℕ) (p q : Point)
    (gives : GiveOnce p.state.units q.state.units) (well_linked : IsWellLinkedAt reading n ue bearer sn quota p) where
  by_same : contexts_of n ue bearer q.state.units ≡ contexts_of n ue bearer p.state.units
      → ((end : TunnelEnd) → owned_at n ue bearer q.state.units end ≡ owned_at n ue bearer p.state.units end)
      → (d : down_models.Model) → q.down ≡ d → SameDown p.down d → (u : up_models.Model) → q.up ≡ u → SameUp p.up u → IsWellLinkedAt reading n ue bearer sn quota q
  by_same contexts owners d down_is same_down u up_is same_up y w there =
      well_linked_by n ue bearer q.state.units y (p.down.members y) (p.up.members y) w (q.down.members y) (q.up.members y)
      (ap (λ (k : down_models.Model). (k.members y).next_hop) down_is ∙ same_down y) (ap (λ (k : up_models.Model). (k.members y).next_hop) up_is ∙ same_up y)
      (well_linked_later n ue bearer p.state.units q.state.units gives y (p.down.members y) (p.up.members y) w
      (λ leads end o is. leads end o (sym (owners end) ∙ is))
      (well_linked y w (ap (λ (c : Contexts). c y) (sym contexts) ∙ there)))

  by_ups : q.state.units.ups ≡ p.state.units.ups → (d : down_models.Model) → q.down ≡ d → SameDown p.down d → (u : up_models.Model) → q.up ≡ u → SameUp p.up u
      → IsWellLinkedAt reading n ue bearer sn quota q
  by_ups ups d down_is same_down u up_is same_up =
      by_same (contexts_same n ue bearer p.state.units q.state.units ups) (λ end. on_same n ue bearer p.state.units q.state.units ups end.node end.teid)
      d down_is same_down u up_is same_up

  pub du_well_linked : DuActs reading n ue bearer sn quota p q → IsWellLinkedAt reading n ue bearer sn quota q
  du_well_linked a =
      by_ups (ap (λ (w : PlainUnits). w.ups) units_then ∙ ups_stay (plain_world reading) a.cause (with_du p.state.units a.gnb a.number a.left))
      p.down a.down (λ y. refl)
      (up.run p.up (orders_up n ue bearer p.state.units p.up (puts_of ue bearer p.state.units a.gnb a.number a.input))) a.up
      (puts_same n ue bearer p.state.units p.up (puts_of ue bearer p.state.units a.gnb a.number a.input))
    where
      units_then : q.state.units ≡ units_by (plain_world reading) a.cause (with_du p.state.units a.gnb a.number a.left)
      units_then =
          subst (HasUnits (plain_world reading) {X = RunLine (Message Token)} (units_by (plain_world reading) a.cause (with_du p.state.units a.gnb a.number a.left)))
          a.acts.goes_on
          (act_units (plain_world reading) a.cause (map (written_put (sn_of p.state)) a.outputs) (with_du p.state.units a.gnb a.number a.left) p.state)

  module _ (a : CoreOffers reading n ue bearer sn quota p q) where
    abbrev outputs : Outs
    outputs = packet a.path.up (teid_of a.path.n3 a.which) a.who a.which Dl Absent (fresh a.packet) ∷ []

    abbrev its_noted : RunState
    its_noted = offered (plain_world reading) (entity a.who a.which Dl) p.state

    went : Ends (plain_world reading) (put_out_all (plain_world reading) Core None (map (written_put (sn_of p.state)) outputs) its_noted next check_spans) q.state
    unfolding put_out_all
    went =
        and_no_more (plain_world reading) Core None
        (put_on_tunnel (plain_world reading) (record { node = a.path.up; teid = teid_of a.path.n3 a.which })
        (record { key = entity a.who a.which Dl; count = None; content = (plain_world reading).lay_n3 (teid_of a.path.n3 a.which) a.packet }) its_noted)
        q.state a.offers.lines a.offers.goes_on

    pub offer_well_linked : IsWellLinkedAt reading n ue bearer sn quota q
    offer_well_linked =
        by_ups (ap (λ (w : PlainUnits). w.ups) (units_put (plain_world reading) Core None (map (written_put (sn_of p.state)) outputs) its_noted q.state went))
        (down.run p.down (orders_offered ue bearer a.who a.which a.packet)) a.down (offered_same p.down ue bearer a.who a.which a.packet) p.up a.up (λ y. refl)

  pub message_well_linked : CoreTakes reading n ue bearer sn quota p q → IsWellLinkedAt reading n ue bearer sn quota q
  message_well_linked a =
      by_ups (ap (λ (w : PlainUnits). w.ups) units_same) (down.run p.down (orders_told n ue bearer p.state a.control_message)) a.down
      (told_same p.down (places_of n ue bearer p.state.units) (goal_by ue bearer p.state.core a.control_message.from a.control_message.message)) p.up a.up (λ y. refl)
    where
      at_core : RunState
      at_core = record p.state { core = a.core; bag = landed p.state.bag a.number }

      units_same : q.state.units ≡ p.state.units
      units_same =
          units_put (plain_world reading) Core None (map (written_put (sn_of p.state)) a.outputs) at_core q.state
          (after_told (plain_world reading) (got_message a.number a.control_message ∷ [])
          (put_out_all (plain_world reading) Core None (map (written_put (sn_of p.state)) a.outputs) at_core) q.state a.takes.lines a.takes.goes_on)

  pub beside_well_linked : StaysInFrame reading n ue bearer sn quota p q → IsWellLinkedAt reading n ue bearer sn quota q
  beside_well_linked a =
      by_same a.rest.contexts a.rest.owners (down.run p.down a.radio) a.down (radio_same p.down a.radio a.of_radio) (up.run p.up a.terminal) a.up
      (terminal_same p.up a.terminal a.of_terminal)
