-- The step of a context is that of the record in which it stands.
use Rattle.std.proofs.Common.{◌≡◌, ℕ, List, Option, Some, refl, sym, ap, ◌∙◌, subst}
use Rattle.std.specs.Prelude.{Result}
use Rattle.gnb_types.specs.declared.names.UeId.{UeId}
use Rattle.gnb_types.specs.declared.outputs.Output.{Output}
use Rattle.gnb_types.specs.Orders.{ue_cmp}
use Rattle.tables.specs.Tables.{find, put}
use Rattle.unit_defs.specs.CuUpRecords.{CuUpContext, CuUpTunnel}
use Rattle.unit_defs.specs.CuUp.{UpStep, steps, stops, answer_with, with_context}
use Rattle.unit_defs.specs.octet_defs.Codec.{Codec, octet_way}
use Rattle.unit_defs.specs.octet_defs.Units.{OctetAnswer}
use Rattle.unit_messages.specs.declared.steps.StepError.{StepError}
use Rattle.unit_messages.specs.steps.Steps.{Step, step_after, IsStep}
use Rattle.cu_up_contexts.specs.bearer_context.Orders.{context_after}
use Rattle.cu_up_contexts.proofs.bearer_context.Steps.{map_step, mapped}
use Rattle.cu_up_contexts.specs.contexts.Tables.{OctetUp, CuUpTables, with_tables}

module _ (codec : Codec) (ue : UeId) (before after : List Output) where
  answer_is : (r : OctetUp) (on : CuUpContext) (s : UpStep (octet_way codec))
      → step_after before (answer_with (octet_way codec) r ue on s) ≡ map_step (λ (c : CuUpContext). with_context ue r c) (context_after codec before on s)
  answer_is r on (steps outputs bearers) = refl
  answer_is r on (stops counter) = refl

  pub answered : {X : Type 0} (r : OctetUp) (on d : CuUpContext) (s : UpStep (octet_way codec)) (result : Result X StepError)
      → IsStep (context_after codec before on s) after d result
      → IsStep (step_after before (answer_with (octet_way codec) r ue on s)) after (with_context ue r d) result
  answered r on d s result step =
      subst (λ (t : Step OctetUp). IsStep t after (with_context ue r d) result) (sym (answer_is r on s))
      (mapped (λ (c : CuUpContext). with_context ue r c) (context_after codec before on s) after d result step)

  -- an order to the context of a terminal
  pub order_step : {X : Type 0} (r : OctetUp) (row : OctetUp → Option CuUpContext → OctetAnswer OctetUp) (n : ℕ) (ts : List (ℕ × CuUpTunnel))
      (cs : List (UeId × CuUpContext)) (t : CuUpTables) (c on d : CuUpContext) (s : UpStep (octet_way codec)) (result : Result X StepError)
      → record { next_teid = n; tunnels = ts; contexts = cs } ≡ t
      → find ue_cmp cs ue ≡ Some c
      → row (with_tables r (record { next_teid = n; tunnels = ts; contexts = cs })) (Some c)
      ≡ answer_with (octet_way codec) (with_tables r (record { next_teid = n; tunnels = ts; contexts = cs })) ue on s
      → IsStep (context_after codec before on s) after d result
      → IsStep (step_after before (row (with_tables r t) (find ue_cmp t.contexts ue))) after
      (with_tables r (record { next_teid = n; tunnels = ts; contexts = put ue_cmp cs ue d })) result
  order_step r row n ts cs t c on d s result seen found row_is step =
      let whole : OctetUp = with_tables r (record { next_teid = n; tunnels = ts; contexts = cs }) in
      let now : OctetUp = with_tables r (record { next_teid = n; tunnels = ts; contexts = put ue_cmp cs ue d }) in
      subst (λ (u : CuUpTables). IsStep (step_after before (row (with_tables r u) (find ue_cmp u.contexts ue))) after now result) seen
      (subst (λ (a : OctetAnswer OctetUp). IsStep (step_after before a) after now result)
      (sym (ap (λ (o : Option CuUpContext). row whole o) found ∙ row_is))
      (answered whole on d s result step))
