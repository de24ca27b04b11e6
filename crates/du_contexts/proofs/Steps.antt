-- Steps of the rows on packets, over plain values.
use Rattle.std.proofs.Common.{◌≡◌, ℕ, ◌+◌, Bool, List, ◌++◌, Option, Some, sym, ap, ◌∙◌, subst}
use Rattle.std.specs.Prelude.{Result}
use Rattle.gnb_types.specs.declared.names.UeId.{UeId}
use Rattle.gnb_types.specs.declared.names.BearerId.{BearerId}
use Rattle.gnb_types.specs.declared.names.SnBits.{SnBits}
use Rattle.gnb_types.specs.declared.outputs.Output.{Output}
use Rattle.gnb_types.specs.Orders.{ue_cmp, bearer_cmp}
use Rattle.tables.specs.Tables.{find, put}
use Rattle.pdcp.specs.Pdus.{Content}
use Rattle.link_defs.specs.Decoding.{CarriesPdu}
use Rattle.unit_defs.specs.Ways.{frame_item}
use Rattle.unit_defs.specs.Du.{DuBearer, DuContext, DuTunnel, told, gap_after, carried, taken_of, taken_in, frame_received}
use Rattle.unit_defs.specs.octet_defs.Codec.{Codec, octet_way}
use Rattle.unit_defs.specs.octet_defs.Units.{OctetAnswer}
use Rattle.unit_defs.specs.octet_defs.Writing.{outputs_of}
use Rattle.unit_messages.specs.declared.steps.StepError.{StepError}
use Rattle.unit_messages.specs.steps.Steps.{Step, IsStep, step_after}
use Rattle.unit_messages.proofs.steps.StepLaws.{step_with}
use Rattle.du_contexts.specs.Tables.{OctetDu, DuTables, with_tables}
use Rattle.du_contexts.specs.RadioPdus.{SaysNothing}

-- an answer that is another one
pub step_as : (before outputs : List Output) (after : OctetDu) (result : Result (Unit {0}) StepError) (s t : OctetAnswer OctetDu) → s ≡ t
    → IsStep (step_after before t) outputs after result → IsStep (step_after before s) outputs after result
step_as before outputs after result s t e h =
    subst (λ (a : OctetAnswer OctetDu). IsStep (step_after before a) outputs after result) (sym e) h

pub says_nothing : (t : DuTables) (ue : UeId) (octets : List ℕ) (context : DuContext) (sn : SnBits) → find ue_cmp t.contexts ue ≡ Some context
    → sn ≡ context.sn → ((content : Content) → CarriesPdu sn content octets → ⊥) → SaysNothing t ue octets
says_nothing t ue octets context sn found same none = record {
  context = context;
  has_context = found;
  none = subst (λ (s : SnBits). (content : Content) → CarriesPdu s content octets → ⊥) same none;
}

module _ (codec : Codec) (r : OctetDu) (ue : UeId) (bearer : BearerId) (before mid outputs : List Output)
    (result : Result (Unit {0}) StepError) where
  -- a frame of a bearer of a context
  at_bearer : (n : ℕ) (ts : List (ℕ × DuTunnel)) (cs : List (UeId × DuContext)) (c : DuContext) (b after : DuBearer)
      (polls restart : Bool) (number : ℕ) (pdu : Option (List ℕ)) (gap : Bool)
      → after ≡ record b { awaited = number + 1; gap = gap }
      → gap ≡ gap_after (octet_way codec) b number restart pdu
      → mid ≡ before ++ outputs_of (told (octet_way codec) ue bearer b polls number)
      → IsStep (step_after mid (carried (octet_way codec) ue bearer c gap pdu
      (with_tables r (record { next_teid = n; tunnels = ts; contexts = put ue_cmp cs ue (record c { bearers = put bearer_cmp c.bearers bearer after }) }))))
      outputs (with_tables r (record { next_teid = n; tunnels = ts; contexts = put ue_cmp cs ue (record c { bearers = put bearer_cmp c.bearers bearer after }) })) result
      → IsStep (step_after before (frame_received (octet_way codec) ue bearer c b (frame_item polls restart number pdu)
      (with_tables r (record { next_teid = n; tunnels = ts; contexts = cs }))))
      outputs (with_tables r (record { next_teid = n; tunnels = ts; contexts = put ue_cmp cs ue (record c { bearers = put bearer_cmp c.bearers bearer after }) })) result
  at_bearer n ts cs c b after polls restart number pdu gap after_is gap_is told_is carries =
      let kept : DuBearer → OctetDu = λ d. with_tables r (record { next_teid = n; tunnels = ts; contexts = put ue_cmp cs ue (record c { bearers = put bearer_cmp c.bearers bearer d }) }) in
      let said : List Output = before ++ outputs_of (told (octet_way codec) ue bearer b polls number) in
      let goes : Bool → OctetDu → OctetAnswer OctetDu = λ g s. carried (octet_way codec) ue bearer c g pdu s in
      let now : Bool = gap_after (octet_way codec) b number restart pdu in
      let is : after ≡ record b { awaited = number + 1; gap = now } = after_is ∙ ap (λ (g : Bool). record b { awaited = number + 1; gap = g }) gap_is in
      let steps : step_after before (frame_received (octet_way codec) ue bearer c b (frame_item polls restart number pdu)
      (with_tables r (record { next_teid = n; tunnels = ts; contexts = cs }))) ≡ step_after mid (goes gap (kept after)) =
      step_with before (told (octet_way codec) ue bearer b polls number) (goes now (kept (record b { awaited = number + 1; gap = now })))
      ∙ ap (λ (os : List Output). step_after os (goes now (kept (record b { awaited = number + 1; gap = now })))) (sym told_is)
      ∙ ap (λ (d : DuBearer). step_after mid (goes now (kept d))) (sym is)
      ∙ ap (λ (g : Bool). step_after mid (goes g (kept after))) (sym gap_is) in
      subst (λ (s : Step OctetDu). IsStep s outputs (kept after) result) (sym steps) carries

  pub frame_step : (n : ℕ) (ts : List (ℕ × DuTunnel)) (cs : List (UeId × DuContext)) (t : DuTables) (c : DuContext) (b after : DuBearer)
      (polls restart : Bool) (number : ℕ) (pdu : Option (List ℕ)) (gap : Bool)
      → record { next_teid = n; tunnels = ts; contexts = cs } ≡ t
      → find ue_cmp cs ue ≡ Some c
      → find bearer_cmp c.bearers bearer ≡ Some b
      → after ≡ record b { awaited = number + 1; gap = gap }
      → gap ≡ gap_after (octet_way codec) b number restart pdu
      → mid ≡ before ++ outputs_of (told (octet_way codec) ue bearer b polls number)
      → IsStep (step_after mid (carried (octet_way codec) ue bearer c gap pdu
      (with_tables r (record { next_teid = n; tunnels = ts; contexts = put ue_cmp cs ue (record c { bearers = put bearer_cmp c.bearers bearer after }) }))))
      outputs (with_tables r (record { next_teid = n; tunnels = ts; contexts = put ue_cmp cs ue (record c { bearers = put bearer_cmp c.bearers bearer after }) })) result
      → IsStep (step_after before (taken_of (octet_way codec) ue bearer (frame_item polls restart number pdu) (with_tables r t) (find ue_cmp t.contexts ue)))
      outputs (with_tables r (record { next_teid = n; tunnels = ts; contexts = put ue_cmp cs ue (record c { bearers = put bearer_cmp c.bearers bearer after }) })) result
  frame_step n ts cs t c b after polls restart number pdu gap seen found has after_is gap_is told_is carries =
      let kept : OctetDu = with_tables r (record { next_teid = n; tunnels = ts; contexts = put ue_cmp cs ue (record c { bearers = put bearer_cmp c.bearers bearer after }) }) in
      let whole : OctetDu = with_tables r (record { next_teid = n; tunnels = ts; contexts = cs }) in
      let row : taken_of (octet_way codec) ue bearer (frame_item polls restart number pdu) whole (find ue_cmp cs ue)
      ≡ frame_received (octet_way codec) ue bearer c b (frame_item polls restart number pdu) whole =
      ap (λ (o : Option DuContext). taken_of (octet_way codec) ue bearer (frame_item polls restart number pdu) whole o) found
      ∙ ap (λ (o : Option DuBearer). taken_in (octet_way codec) ue bearer c (frame_item polls restart number pdu) whole o) has in
      subst (λ (s : DuTables). IsStep (step_after before (taken_of (octet_way codec) ue bearer (frame_item polls restart number pdu) (with_tables r s) (find ue_cmp s.contexts ue))) outputs kept result)
      seen
      (step_as before outputs kept result _ _ row
      (at_bearer n ts cs c b after polls restart number pdu gap after_is gap_is told_is carries))
