-- Rows at a bearer that stands at an index, and rows at one that isn't there.
use Rattle.std.proofs.Common.{◌≡◌, ◌==◌, ◌&&◌, ℕ, ◌+◌, ◌<◌, ◌++◌, ◌∷◌, [], true, List, length, get_or, Option, Some, None, Ok, Err, sym, ap, ◌∙◌, subst, append-nil, arith}
use Rattle.std.specs.Prelude.{Result, OnOk, IfErr}
use Rattle.std.specs.Vec.{with_item}
use Rattle.std.proofs.Math.ListN.{set}
use Rattle.std.proofs.lemmas.List.{set-get_or}
use Rattle.std.proofs.lemmas.Bool.Decides.{nat_tests}
use Rattle.gnb_types.specs.declared.names.BearerId.{BearerId}
use Rattle.gnb_types.specs.declared.outputs.Output.{Output}
use Rattle.gnb_types.specs.declared.outputs.Output.TheVariants as outs
use Rattle.gnb_types.specs.declared.reasons.DropReason.{DropReason}
use Rattle.gnb_types.specs.declared.reasons.DropReason.TheVariants.{NoContext}
use Rattle.gnb_types.specs.Orders.{bearer_cmp}
use Rattle.tables.specs.Tables.{find, put}
use Rattle.pdcp.specs.Pdus.{Content as PduContent, data_pdu, status_report}
use Rattle.pdcp_defs.specs.Counts.{near_count, count_below}
use Rattle.unit_defs.specs.Accessors.{ue_bearer_rests, ue_rests}
use Rattle.unit_defs.specs.Ways.{Content, packet_content, report_content, drops}
use Rattle.unit_defs.specs.Ue.{UeBearer, UeNode, offered, offer, take, confirm, took, confirmed, of_bearer, with_bearer}
use Rattle.unit_defs.specs.octet_defs.Codec.{Codec, octet_way}
use Rattle.unit_defs.specs.octet_defs.Reading.{bits_of, content_by, count_received_in, count_confirmed_in, bearer_at}
use Rattle.unit_defs.specs.octet_defs.Units.{OctetAnswer}
use Rattle.unit_messages.specs.declared.steps.StepError.{StepError}
use Rattle.unit_messages.specs.declared.steps.StepError.TheVariants as errors
use Rattle.unit_messages.specs.steps.Steps.{stepped, step_after, IsStep}
use Rattle.pdcp_bearers.specs.ue_bearers.Senders.{used}
use Rattle.pdcp_bearers.specs.ue_packets.Bearers.{kept, terminal_of, offered_at, IsOf}
use Rattle.pdcp_bearers.specs.declared.ue_packets.bearer.Bearer.{Bearer}
use Rattle.pdcp_bearers.specs.declared.ue_packets.terminal.Terminal.{Terminal}
use Rattle.ue_node.specs.rows.Records.{numbered, record_of, terminal_in, IsPlanned, IsRecord, IsOutside}
use Rattle.ue_node.specs.declared.rows.record.UeRecord.{UeRecord}
use Rattle.ue_node.proofs.rows.BearerLemmas.{find_numbered, none_outside, put_numbered, each_at, planned_of, planned_set}
use Rattle.ue_node.proofs.rows.RowSteps.{bare, took_same, confirmed_same, row_step, offer_step}

-- what a row drops
pub drops_step : (before after : List Output) (reason : DropReason) (u : UeNode) (result : Result (Unit {0}) StepError)
    → OnOk result (after ≡ before ++ outs.Drop reason ∷ []) → IfErr result (λ e. e ≡ errors.Memory)
    → IsStep (step_after before (drops reason u)) after u result
drops_step before after reason u (Ok x) puts fails = ap (λ (os : List Output). stepped os u) (sym puts)
drops_step before after reason u (Err (errors.Spent counter)) puts fails = cc
drops_step before after reason u (Err errors.Memory) puts fails = tt

rests_both : (m n : ℕ) → (m + n == 0) ≡ (m == 0 && n == 0)
rests_both m n = grind (arith, nat_tests)

-- ---- no bearer has the number

module _ (r : UeRecord) (id : BearerId) (count : ℕ) (count_is : count ≡ length r.bearers.items) (outside : IsOutside id.0 count) where
  no_bearer : find bearer_cmp (numbered 1 r.bearers.items) id ≡ None
  no_bearer = none_outside r.bearers.items id count count_is outside

  pub none_rests : true ≡ ue_rests (record_of r) id
  none_rests = sym (ap ue_bearer_rests no_bearer)

  module _ (codec : Codec) (before after : List Output) (result : Result (Unit {0}) StepError) (puts : OnOk result (after ≡ before ++ outs.Drop NoContext ∷ []))
      (fails : IfErr result (λ e. e ≡ errors.Memory)) where
    dropped_as : (a : OctetAnswer UeNode) → a ≡ drops NoContext (record_of r) → IsStep (step_after before a) after (record_of r) result
    dropped_as a is =
        subst (λ (x : OctetAnswer UeNode). IsStep (step_after before x) after (record_of r) result) (sym is)
        (drops_step before after NoContext (record_of r) result puts fails)

    pub offer_none : (packet : List ℕ) → IsStep (step_after before (offer (octet_way codec) id packet (record_of r))) after (record_of r) result
    unfolding offer
    offer_none packet =
        dropped_as (offer (octet_way codec) id packet (record_of r)) (ap (λ (o : Option UeBearer). offered (octet_way codec) (record_of r) id packet o) no_bearer)

    pub take_none : (content : Content) → IsStep (step_after before (take (octet_way codec) id content (record_of r))) after (record_of r) result
    unfolding take
    take_none content =
        dropped_as (take (octet_way codec) id content (record_of r))
        (ap (λ (o : Option UeBearer). of_bearer (octet_way codec) (record_of r) id (took (octet_way codec) (record_of r) id content) o) no_bearer)

    pub confirm_none : (content : Content) → IsStep (step_after before (confirm (octet_way codec) id content (record_of r))) after (record_of r) result
    unfolding confirm
    confirm_none content =
        dropped_as (confirm (octet_way codec) id content (record_of r))
        (ap (λ (o : Option UeBearer). of_bearer (octet_way codec) (record_of r) id (confirmed (octet_way codec) (record_of r) id content) o) no_bearer)

-- ---- a bearer at an index

module _ (r : UeRecord) (id : BearerId) (i : ℕ) (b : Bearer) (within : i < length r.bearers.items) (number_is : i + 1 ≡ id.0)
    (at : b ≡ get_or r.bearers.items i b) where
  found_at : find bearer_cmp (numbered 1 r.bearers.items) id ≡ Some (kept b)
  found_at =
      let place : id.0 ≡ 1 + i = omega (arith, number_is) in
      find_numbered b r.bearers.items 1 i id within place ∙ ap (λ (x : Bearer). Some (kept x)) (sym at)

  put_there : (c : Bearer) → put bearer_cmp (numbered 1 r.bearers.items) id (kept c) ≡ numbered 1 (set r.bearers.items i c)
  put_there c =
      let place : id.0 ≡ 1 + i = omega (arith, number_is) in
      put_numbered c r.bearers.items 1 i id within place

  put_back : put bearer_cmp (numbered 1 r.bearers.items) id (kept b) ≡ numbered 1 r.bearers.items
  put_back =
      put_there b
      ∙ ap (λ (bs : List Bearer). numbered 1 bs) (ap (λ (x : Bearer). set r.bearers.items i x) at ∙ set-get_or r.bearers.items i b)

  pub bearer_rests : (used b.uplink == 0) ≡ ue_rests (record_of r) id
  bearer_rests = rests_both (length b.uplink.sender.unconfirmed) (length b.uplink.waiting) ∙ sym (ap ue_bearer_rests found_at)

  pub is_of : (t : Terminal) → t ≡ terminal_in r → IsRecord r → IsOf t b
  is_of t t_is sound =
      let planned : IsPlanned r.plan b =
      subst (λ (x : Bearer). IsPlanned r.plan x) (sym at) (each_at (λ x. IsPlanned r.plan x) r.bearers.items i b within sound.all) in
      subst (λ (s : Terminal). IsOf s b) (sym t_is) (planned r.state r.epoch)

  -- the record with another bearer there
  abbrev with_one : Bearer → UeRecord
  with_one c = record r { bearers = with_item r.bearers i c }

  module _ (t : Terminal) (t_is : t ≡ terminal_in r) (c : Bearer) where
    pub sound_with : IsRecord r → IsOf t c → IsRecord (with_one c)
    sound_with sound of =
        planned_set r.plan r.bearers.items i c sound (planned_of (terminal_in r) c (subst (λ (s : Terminal). IsOf s c) t_is of))

    pub sound_step : (result : Result (Unit {0}) StepError) → IsRecord r → OnOk result (IsOf t c) → OnOk result (IsRecord (with_one c))
    sound_step (Ok x) sound of = sound_with sound of
    sound_step (Err e) sound of = tt

    module _ (codec : Codec) (before after : List Output) (result : Result (Unit {0}) StepError) where
      kept_there : with_bearer (octet_way codec) (record_of r) id (kept c) ≡ record_of (with_one c)
      kept_there = ap (λ (es : List (BearerId × UeBearer)). record (record_of r) { bearers = es }) (put_there c)

      pub offer_there : (packet : List ℕ)
          → IsStep (step_after before (offered_at (octet_way codec) (terminal_of t) id packet (kept b))) after (kept c) result
          → IsStep (step_after before (offer (octet_way codec) id packet (record_of r))) after (record_of (with_one c)) result
      offer_there packet step =
          offer_step codec before after (record_of r) (record_of (with_one c)) id packet (kept b) (kept c) result found_at
          (ap (λ (es : List (BearerId × UeBearer)). record (record_of r) { bearers = es }) put_back)
          kept_there
          (subst (λ (s : Terminal). IsStep (step_after before (offered_at (octet_way codec) (terminal_of s) id packet (kept b))) after (kept c) result) t_is step)

      -- a PDU, with the COUNT that was found
      received_is : (content : PduContent)
          → content_by (count_received_in r.plan.sn (bearer_at codec (record_of r) id)) content
          ≡ content_by (count_received_in r.plan.sn (Some (kept b))) content
      received_is content = ap (λ (o : Option UeBearer). content_by (count_received_in r.plan.sn o) content) found_at

      took_there : (pdu content : PduContent) → pdu ≡ content
          → IsStep (step_after before (took (octet_way codec) (terminal_of t) id (content_by (count_received_in t.plan.sn (Some (kept b))) content) (kept b))) after (kept c) result
          → IsStep (step_after before (take (octet_way codec) id (content_by (count_received_in r.plan.sn (bearer_at codec (record_of r) id)) pdu) (record_of r)))
          after (record_of (with_one c)) result
      unfolding take
      took_there pdu content pdu_is step =
          let whole : Content = content_by (count_received_in r.plan.sn (Some (kept b))) content in
          let same : content_by (count_received_in r.plan.sn (bearer_at codec (record_of r) id)) pdu ≡ whole =
          ap (λ (x : PduContent). content_by (count_received_in r.plan.sn (bearer_at codec (record_of r) id)) x) pdu_is ∙ received_is content in
          subst (λ (x : Content). IsStep (step_after before (take (octet_way codec) id x (record_of r))) after (record_of (with_one c)) result) (sym same)
          (row_step codec before after (record_of r) (record_of (with_one c)) id (took (octet_way codec) (record_of r) id whole)
          (took (octet_way codec) (bare (record_of r)) id whole (kept b)) (kept b) (kept c) result found_at (took_same codec (record_of r) id whole (kept b)) kept_there
          (subst
          (λ (s : Terminal). IsStep (step_after before (took (octet_way codec) (terminal_of s) id (content_by (count_received_in s.plan.sn (Some (kept b))) content) (kept b))) after (kept c) result)
          t_is step))

      pub take_packet_there : (pdu : PduContent) (number : ℕ) (packet : List ℕ) → pdu ≡ data_pdu number packet
          → IsStep (step_after before (took (octet_way codec) (terminal_of t) id (packet_content (near_count t.plan.sn (kept b).receiver.deliv number) packet) (kept b)))
          after (kept c) result
          → IsStep (step_after before (take (octet_way codec) id (content_by (count_received_in r.plan.sn (bearer_at codec (record_of r) id)) pdu) (record_of r)))
          after (record_of (with_one c)) result
      take_packet_there pdu number packet pdu_is step = took_there pdu (data_pdu number packet) pdu_is step

      pub take_report_there : (pdu : PduContent) (fmc : ℕ) (bits : List ℕ) → pdu ≡ status_report fmc bits
          → IsStep (step_after before (took (octet_way codec) (terminal_of t) id (report_content fmc (bits_of bits)) (kept b))) after (kept c) result
          → IsStep (step_after before (take (octet_way codec) id (content_by (count_received_in r.plan.sn (bearer_at codec (record_of r) id)) pdu) (record_of r)))
          after (record_of (with_one c)) result
      take_report_there pdu fmc bits pdu_is step = took_there pdu (status_report fmc bits) pdu_is step

      -- a PDU that was confirmed
      confirmed_is : (pdu content : PduContent) → pdu ≡ content
          → content_by (count_confirmed_in r.plan.sn (bearer_at codec (record_of r) id)) pdu
          ≡ content_by (count_confirmed_in r.plan.sn (Some (kept b))) content
      confirmed_is pdu content pdu_is =
          ap (λ (x : PduContent). content_by (count_confirmed_in r.plan.sn (bearer_at codec (record_of r) id)) x) pdu_is
          ∙ ap (λ (o : Option UeBearer). content_by (count_confirmed_in r.plan.sn o) content) found_at

      pub confirm_there : (pdu : PduContent) (number : ℕ) (packet : List ℕ) → pdu ≡ data_pdu number packet
          → IsStep (step_after before (confirmed (octet_way codec) (terminal_of t) id (packet_content (count_below t.plan.sn (kept b).sender.next number) packet) (kept b)))
          after (kept c) result
          → IsStep (step_after before (confirm (octet_way codec) id (content_by (count_confirmed_in r.plan.sn (bearer_at codec (record_of r) id)) pdu) (record_of r)))
          after (record_of (with_one c)) result
      unfolding confirm
      confirm_there pdu number packet pdu_is step =
          let whole : Content = content_by (count_confirmed_in r.plan.sn (Some (kept b))) (data_pdu number packet) in
          subst (λ (x : Content). IsStep (step_after before (confirm (octet_way codec) id x (record_of r))) after (record_of (with_one c)) result)
          (sym (confirmed_is pdu (data_pdu number packet) pdu_is))
          (row_step codec before after (record_of r) (record_of (with_one c)) id (confirmed (octet_way codec) (record_of r) id whole)
          (confirmed (octet_way codec) (bare (record_of r)) id whole (kept b)) (kept b) (kept c) result found_at (confirmed_same codec (record_of r) id whole (kept b)) kept_there
          (subst
          (λ (s : Terminal). IsStep
          (step_after before (confirmed (octet_way codec) (terminal_of s) id (packet_content (count_below s.plan.sn (kept b).sender.next number) packet) (kept b))) after (kept c) result)
          t_is step))

  -- a report's confirmation changes nothing
  pub confirm_report_there : (codec : Codec) (before : List Output) (pdu : PduContent) (fmc : ℕ) (bits : List ℕ) → pdu ≡ status_report fmc bits
      → step_after before (confirm (octet_way codec) id (content_by (count_confirmed_in r.plan.sn (bearer_at codec (record_of r) id)) pdu) (record_of r))
      ≡ stepped before (record_of r)
  unfolding confirm
  confirm_report_there codec before pdu fmc bits pdu_is =
      ap
      (λ (x : PduContent). step_after before (confirm (octet_way codec) id (content_by (count_confirmed_in r.plan.sn (bearer_at codec (record_of r) id)) x) (record_of r)))
      pdu_is
      ∙ ap
      (λ (o : Option UeBearer). step_after before
      (of_bearer (octet_way codec) (record_of r) id (confirmed (octet_way codec) (record_of r) id (report_content fmc (bits_of bits))) o))
      found_at
      ∙ (λ k. stepped (append-nil before k) (record (record_of r) { bearers = put_back k }))

  -- the same, where the bearer was looked at
  pub unchanged : record_of (with_one b) ≡ record_of r
  unchanged =
      ap (λ (bs : List Bearer). record (record_of r) { bearers = numbered 1 bs })
      (ap (λ (x : Bearer). set r.bearers.items i x) at ∙ set-get_or r.bearers.items i b)
