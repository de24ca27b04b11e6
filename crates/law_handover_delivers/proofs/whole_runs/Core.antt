-- What the core puts leaves what a terminal shows: no radio, no terminal and no plan changes.
use Rattle.std.proofs.Common.{◌≡◌, ◌≢◌, ℕ, List, [], ◌∷◌, map, None, refl, ap, subst, ◌∙◌}
use Rattle.std.specs.Prelude.{is_some}
use Rattle.gnb_types.specs.declared.names.Gnb.{Gnb}
use Rattle.gnb_types.specs.declared.names.Gnb.TheVariants.{A, B}
use Rattle.gnb_types.specs.declared.names.NodeId.TheVariants.{Core}
use Rattle.gnb_types.specs.declared.names.Dir.TheVariants.{Dl}
use Rattle.gnb_types.specs.declared.names.UeId.{UeId}
use Rattle.gnb_types.specs.declared.names.BearerId.{BearerId}
use Rattle.gnb_types.specs.declared.plans.Plan.{Plan}
use Rattle.gnb_types.specs.declared.outputs.Tag.TheVariants.{Absent}
use Rattle.gnb_types.specs.Orders.{ue_cmp}
use Rattle.gnb_types.proofs.OrderLemmas.{ue_total}
use Rattle.tables.specs.Tables.{find}
use Rattle.tables.proofs.TableLaws.{find-put-other}
use Rattle.message_types.specs.declared.rrc.Token.{Token}
use Rattle.unit_defs.specs.Ways.{Message, Pdu, Load, fresh, control, packet, radio, deliver, dropped, held, opened, closed, failed, no, Output}
use Rattle.unit_defs.specs.Messages.{teid_of}
use Rattle.unit_defs.specs.Core.{CorePath, CoreRecord}
use Rattle.transport_defs.specs.declared.ControlMessage.{ControlMessage}
use Rattle.transport_defs.specs.Links.{landed}
use Rattle.run_defs.specs.Lines.{RunLine, got_message}
use Rattle.unit_defs.specs.CuCpRecords.{CuCpRecord}
use Rattle.unit_defs.specs.Ue.{UeNode, new_ue, placed}
use Rattle.run_defs.specs.Units.{ue_of, with_cu_cp}
use Rattle.proof_bearer_refinement.specs.run_bearers.Things.{PlainUnits}
use Rattle.run_defs.specs.Written.{Written, written_put}
use Rattle.run_defs.specs.States.{CoreStepped, core_stepped, control_message_for, entity, sn_of, ◌next◌}
use Rattle.run_defs.specs.Steps.{check_spans, put_on_tunnel, put_out_all}
use Rattle.run_defs.specs.Conditions.{statically}
use Rattle.run_defs.specs.Events.{offered}
use Rattle.run_defs.specs.Runs.{Reading, plain_world, core_done}
use Rattle.proof_run_steps.proofs.plans.Frames.{HasPlans, then_plans, keep_put_all, keep_checked}
use Rattle.proof_run_steps.specs.facts.Facts.{Hold, PutsFit}
use Rattle.proof_run_steps.specs.facts.UnitFacts.{written_facts}
use Rattle.proof_run_steps.proofs.facts.Plain.{plain_kept}
use Rattle.law_tunnels_are_owned.proofs.link_items.Names.{link_items}
use Rattle.law_tunnels_are_owned.proofs.link_items.Links.{items_keep}
use Rattle.law_terminals_are_isolated.proofs.projections.Tables.{apart_ues}
use Rattle.proof_bearer_refinement.proofs.du_puts.Stands.{Ends, after_told, and_no_more, units_put}
use Rattle.proof_bearer_refinement.specs.core_step.Core.{IsCoreStep, IsOffer}
use Rattle.proof_run_steps.specs.radio_steps.Radios.{OnAir, on_air, after_puts}
use Rattle.proof_run_steps.proofs.radio_steps.Tracks.{puts_so}
use Rattle.proof_node_orders.specs.terminal_inputs.Inputs.{Models}
use Rattle.proof_bearer_refinement.specs.uplink_radio.Radio.{RunState, up_key, IsAtTerminal}
use Rattle.proof_bearer_refinement.specs.runs.Fair.{IsFair}
use Rattle.proof_bearer_refinement.proofs.uplink_radio.Others.{stays_at}
use Rattle.law_handover_delivers.specs.report_links.Reports.{RunPut}
use Rattle.law_handover_delivers.specs.report_runs.Steps.{CoreReads}

module _ (reading : Reading) (ue : UeId) (bearer : BearerId) where
  -- ---- no radio

  none_on_air : (outputs : List RunPut) → PutsFit (written_facts link_items) Core None outputs → (a : OnAir (Written Pdu))
      → after_puts (up_key ue bearer) None outputs a ≡ a
  none_on_air [] fit a = refl
  none_on_air (radio who q dir epoch tag pdu ∷ outputs) fit a = absurd fit.0.0
  none_on_air (packet to teid who q dir tag load ∷ outputs) fit a = none_on_air outputs fit.1 a
  none_on_air (control to u m ∷ outputs) fit a = none_on_air outputs fit.1 a
  none_on_air (deliver u b dir count x ∷ outputs) fit a = none_on_air outputs fit.1 a
  none_on_air (dropped reason ∷ outputs) fit a = none_on_air outputs fit.1 a
  none_on_air (held reason ∷ outputs) fit a = none_on_air outputs fit.1 a
  none_on_air (opened teid ∷ outputs) fit a = none_on_air outputs fit.1 a
  none_on_air (closed teid ∷ outputs) fit a = none_on_air outputs fit.1 a
  none_on_air (failed u cause ∷ outputs) fit a = none_on_air outputs fit.1 a
  none_on_air (no reason ∷ outputs) fit a = none_on_air outputs fit.1 a

  -- ---- what it puts

  plans_then : (outputs : List RunPut) (s t : RunState)
      → Ends (plain_world reading) (put_out_all (plain_world reading) Core None outputs s next check_spans) t → t.plans ≡ s.plans
  plans_then outputs s t is =
      subst (HasPlans (plain_world reading) {X = RunLine (Message Token)} s.plans) is.1
      (then_plans (plain_world reading) s.plans (put_out_all (plain_world reading) Core None outputs s) check_spans
      (keep_put_all (plain_world reading) Core None outputs s) (keep_checked (plain_world reading)))

  puts_shown : (b : Models) (outputs : List RunPut) (s t : RunState)
      → ((a : OnAir (Written Pdu)) → after_puts (up_key ue bearer) None outputs a ≡ a)
      → Ends (plain_world reading) (put_out_all (plain_world reading) Core None outputs s next check_spans) t
      → IsAtTerminal reading ue bearer s b → IsAtTerminal reading ue bearer t b
  puts_shown b outputs s t quiet is refinement =
      stays_at reading s t ue bearer b refinement
      (puts_so (plain_world reading) (up_key ue bearer) Core None outputs s t is.0 is.1 ∙ quiet (on_air s (up_key ue bearer)))
      (ap (λ units. ue_of units ue) (units_put (plain_world reading) Core None outputs s t is))
      (ap (λ (plans : List (UeId × Plan)). is_some (find ue_cmp plans ue)) (plans_then outputs s t is))

  module _ (b : Models) (s t : RunState) where
    pub message_shown : IsFair s → (number : ℕ) (l : ControlMessage (Message Token)) (outputs : List (Output (Message Token) Pdu))
        (core : CoreRecord (Message Token) Token) → IsCoreStep reading s t number l outputs core
        → IsAtTerminal reading ue bearer s b → IsAtTerminal reading ue bearer t b
    message_shown fair number l outputs core step refinement =
        let puts : List RunPut = map (written_put (sn_of s)) outputs in
        let holds : Hold (written_facts link_items) s = fair.items in
        let fit : PutsFit (written_facts link_items) Core None puts
        = ((plain_kept link_items items_keep reading).core_answers (sn_of s) s.core core (control_message_for l.from l.message) puts holds.core (0, tt)
        (ap (core_done reading (sn_of s) s.core) step.answers)).1 in
        let at_core : RunState = record s { core = core; bag = landed s.bag number } in
        puts_shown b puts at_core t (none_on_air puts fit)
        (after_told (plain_world reading) (got_message number l ∷ []) (put_out_all (plain_world reading) Core None puts at_core) t step.lines step.goes_on)
        (stays_at reading s at_core ue bearer b refinement refl refl refl)

    puts_of : CoreStepped (Message Token) Token (Written (Load Pdu)) (Written Pdu) → List RunPut
    puts_of (core_stepped outputs core) = outputs

    pub octets_shown : CoreReads reading s t → IsAtTerminal reading ue bearer s b → IsAtTerminal reading ue bearer t b
    unfolding puts_of
    octets_shown reads refinement =
        let at_core : RunState = record s { core = reads.core } in
        puts_shown b reads.outputs at_core t
        (subst (λ (outputs : List RunPut). (a : OnAir (Written Pdu)) → after_puts (up_key ue bearer) None outputs a ≡ a) (ap puts_of reads.answers) (λ a. refl))
        (reads.lines, reads.goes_on) (stays_at reading s at_core ue bearer b refinement refl refl refl)

    module _ (who : UeId) (which : BearerId) (sdu : List ℕ) (path : CorePath) (step : IsOffer reading s t who which sdu path) where
      abbrev its_teid : ℕ
      its_teid = teid_of path.n3 which

      abbrev outputs : List (Output (Message Token) Pdu)
      outputs = packet path.up its_teid who which Dl Absent (fresh sdu) ∷ []

      abbrev noted : RunState
      noted = offered (plain_world reading) (entity who which Dl) s

      went : Ends (plain_world reading) (put_out_all (plain_world reading) Core None (map (written_put (sn_of s)) outputs) noted next check_spans) t
      unfolding put_out_all
      went =
          and_no_more (plain_world reading) Core None
          (put_on_tunnel (plain_world reading) (record { node = path.up; teid = its_teid })
          (record { key = entity who which Dl; count = None; content = (plain_world reading).lay_n3 its_teid sdu }) noted)
          t step.lines step.goes_on

      pub offer_shown : IsAtTerminal reading ue bearer s b → IsAtTerminal reading ue bearer t b
      offer_shown refinement =
          puts_shown b (map (written_put (sn_of s)) outputs) noted t (λ a. refl) went (stays_at reading s noted ue bearer b refinement refl refl refl)

  -- ---- another terminal is set up

  cp_ues : (u : PlainUnits) (g : Gnb) (r : CuCpRecord (Message Token) Token) → (with_cu_cp u g r).ues ≡ u.ues
  cp_ues u A r = refl
  cp_ues u B r = refl

  pub set_up_shown : (b : Models) (s : RunState) (plan : Plan) → ue ≢ plan.ue → IsAtTerminal reading ue bearer s b
      → IsAtTerminal reading ue bearer (statically plan s) b
  set_up_shown b s plan apart refinement =
      stays_at reading s (statically plan s) ue bearer b refinement
      (ap (λ epoch. record { epoch = epoch; radio = (on_air s (up_key ue bearer)).radio }) (find-put-other ue_total s.connected plan.ue 1 ue (apart_ues ue plan.ue apart)))
      (ap (λ (us : List (UeId × UeNode)). find ue_cmp us ue) (cp_ues _ plan.gnb _)
      ∙ find-put-other ue_total s.units.ues plan.ue (placed (new_ue plan)) ue (apart_ues ue plan.ue apart))
      (ap is_some (find-put-other ue_total s.plans plan.ue plan ue (apart_ues ue plan.ue apart)))
