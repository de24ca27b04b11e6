-- A poll, as a step of the whole record.
use Rattle.std.proofs.Common.{◌≡◌, ◌==◌, ℕ, ◌+◌, ◌&&◌, Bool, true, false, cond, not, ◌||◌, nat_lt, List, [], ◌∷◌, ◌++◌, length, Option, Some, None, refl, sym, ap, ◌∙◌, subst}
use Rattle.std.specs.Prelude.{Result}
use Rattle.gnb_types.specs.declared.names.UeId.{UeId}
use Rattle.gnb_types.specs.declared.names.BearerId.{BearerId}
use Rattle.gnb_types.specs.declared.names.Dir.TheVariants.{Dl}
use Rattle.gnb_types.specs.declared.outputs.Output.{Output}
use Rattle.gnb_types.specs.declared.outputs.Output.TheVariants as outs
use Rattle.gnb_types.specs.declared.outputs.Tag.TheVariants.{Absent}
use Rattle.gnb_types.specs.declared.reasons.RefuseReason.TheVariants.{Empty, NoRadio}
use Rattle.gnb_types.specs.Orders.{ue_cmp, bearer_cmp}
use Rattle.tables.specs.Tables.{find, put}
use Rattle.unit_defs.specs.Ways.{spent, packet, frame, no, nothing, puts, ◌then◌, frames_spent}
use Rattle.unit_defs.specs.CuUpRecords.{DownlinkTunnel, CuUpBearer, CuUpContext, CuUpTunnel, cu_up_scope}
use Rattle.unit_defs.specs.CuUpBearers.{last_frame, has_downlink, framed, framed_on}
use Rattle.unit_defs.specs.CuUp.{with_context, with_bearer, poll_bearer, poll_on, poll}
use Rattle.unit_defs.specs.octet_defs.Codec.{Codec, octet_way}
use Rattle.unit_messages.specs.declared.steps.StepError.{StepError}
use Rattle.unit_messages.specs.steps.Steps.{Step, stepped, step_after, IsStep}
use Rattle.cu_up_contexts.specs.bearer_context.Contexts.{with_one}
use Rattle.cu_up_contexts.specs.bearer_context.Items.{polled}
use Rattle.cu_up_contexts.proofs.bearer_context.Steps.{map_step, mapped}
use Rattle.cu_up_contexts.specs.contexts.Tables.{OctetUp, CuUpTables, with_tables}

module _ (codec : Codec) (before : List Output) (r : OctetUp) (ue : UeId) (c : CuUpContext) (id : BearerId) where
  abbrev whole : CuUpContext → OctetUp
  whole d = with_context ue r d

  -- a polling frame closes no tunnel
  frames_as : (b : CuUpBearer)
      → step_after before (with_bearer (octet_way codec) r ue c id (framed (octet_way codec) (cu_up_scope ue c id) true false None Absent b))
      ≡ map_step whole (step_after before (framed (octet_way codec) (cu_up_scope ue c id) true false None Absent b then (λ d. nothing (with_one c id d))))
  unfolding framed
  frames_as b = by b.downlink
    where
      by_left : (d : DownlinkTunnel) (none : Bool)
          → step_after before (with_bearer (octet_way codec) r ue c id (cond none (spent frames_spent)
          (puts (packet d.du d.teid ue id Dl Absent (frame true false d.next None)) (record b { downlink = Some (record d { next = d.next + 1 }); restart = b.restart && not false }))))
          ≡ map_step whole (step_after before (cond none (spent frames_spent)
          (puts (packet d.du d.teid ue id Dl Absent (frame true false d.next None)) (record b { downlink = Some (record d { next = d.next + 1 }); restart = b.restart && not false }))
          then (λ e. nothing (with_one c id e))))
      by_left d true = refl
      by_left d false = refl

      by : (o : Option DownlinkTunnel)
          → step_after before (with_bearer (octet_way codec) r ue c id (framed_on (octet_way codec) (cu_up_scope ue c id) b true false None Absent o))
          ≡ map_step whole (step_after before (framed_on (octet_way codec) (cu_up_scope ue c id) b true false None Absent o then (λ d. nothing (with_one c id d))))
      by None = refl
      by (Some d) = by_left d (nat_lt last_frame d.next)

  module _ (back : whole c ≡ r) where
    polled_as : (o : Option CuUpBearer) → step_after before (poll_bearer (octet_way codec) r ue c id o) ≡ map_step whole (step_after before (polled codec ue c id o))
    polled_as None = ap (λ (s : OctetUp). stepped (before ++ outs.No Empty ∷ []) s) (sym back)
    polled_as (Some b) = by (length b.sender.unconfirmed == 0) (c.flags.frozen || not (has_downlink b.downlink))
      where
        by : (none unserved : Bool)
            → step_after before (cond none (puts (no Empty) r) (cond unserved (puts (no NoRadio) r)
            (with_bearer (octet_way codec) r ue c id (framed (octet_way codec) (cu_up_scope ue c id) true false None Absent b))))
            ≡ map_step whole (step_after before (cond none (puts (no Empty) c) (cond unserved (puts (no NoRadio) c)
            (framed (octet_way codec) (cu_up_scope ue c id) true false None Absent b then (λ d. nothing (with_one c id d))))))
        by true unserved = ap (λ (s : OctetUp). stepped (before ++ outs.No Empty ∷ []) s) (sym back)
        by false true = ap (λ (s : OctetUp). stepped (before ++ outs.No NoRadio ∷ []) s) (sym back)
        by false false = frames_as b

module _ (codec : Codec) (before : List Output) (r : OctetUp) (ue : UeId) (id : BearerId) where
  pub polled_nowhere : (t : CuUpTables) → find ue_cmp t.contexts ue ≡ None
      → step_after before (poll (octet_way codec) ue id (with_tables r t)) ≡ stepped (before ++ outs.No Empty ∷ []) (with_tables r t)
  unfolding poll
  polled_nowhere t none = ap (λ (o : Option CuUpContext). step_after before (poll_on (octet_way codec) (with_tables r t) ue id o)) none

  pub polled_step : {X : Type 0} (n : ℕ) (ts : List (ℕ × CuUpTunnel)) (cs : List (UeId × CuUpContext)) (t : CuUpTables) (c d : CuUpContext) (after : List Output)
      (result : Result X StepError)
      → record { next_teid = n; tunnels = ts; contexts = cs } ≡ t → find ue_cmp cs ue ≡ Some c → put ue_cmp cs ue c ≡ cs
      → IsStep (step_after before (polled codec ue c id (find bearer_cmp c.bearers id))) after d result
      → IsStep (step_after before (poll (octet_way codec) ue id (with_tables r t))) after
      (with_tables r (record { next_teid = n; tunnels = ts; contexts = put ue_cmp cs ue d })) result
  unfolding poll
  polled_step n ts cs t c d after result seen found same step =
      let here : OctetUp = with_tables r (record { next_teid = n; tunnels = ts; contexts = cs }) in
      let now : OctetUp = with_tables r (record { next_teid = n; tunnels = ts; contexts = put ue_cmp cs ue d }) in
      let back : with_context ue here c ≡ here = ap (λ (es : List (UeId × CuUpContext)). record here { contexts = es }) same in
      let row : map_step (λ (x : CuUpContext). with_context ue here x) (step_after before (polled codec ue c id (find bearer_cmp c.bearers id)))
      ≡ step_after before (poll_on (octet_way codec) here ue id (find ue_cmp cs ue)) =
      sym
      (ap (λ (o : Option CuUpContext). step_after before (poll_on (octet_way codec) here ue id o)) found
      ∙ polled_as codec before here ue c id back (find bearer_cmp c.bearers id)) in
      subst (λ (u : CuUpTables). IsStep (step_after before (poll (octet_way codec) ue id (with_tables r u))) after now result) seen
      (subst (λ (s : Step OctetUp). IsStep s after now result) row
      (mapped (λ (x : CuUpContext). with_context ue here x) (step_after before (polled codec ue c id (find bearer_cmp c.bearers id))) after d result step))
