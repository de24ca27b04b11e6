-- A poll of a bearer that a context has.
use Rattle.std.proofs.Common.{◌≡◌, ℕ, ◌+◌, ◌<◌, Bool, true, false, not, ◌||◌, List, ◌∷◌, ◌++◌, [], length, get_or, Option, Some, None, Ok, Err, refl, sym, ap, ◌∙◌, subst}
use Rattle.std.specs.Prelude.{Result, OnOk, IfErr}
use Rattle.std.specs.Borrow.{Bor}
use Rattle.std.proofs.Math.ListN.{set}
use Rattle.gnb_types.specs.declared.outputs.Output.{Output}
use Rattle.gnb_types.specs.declared.outputs.Output.TheVariants as outs
use Rattle.gnb_types.specs.declared.outputs.Tag.TheVariants.{Absent}
use Rattle.gnb_types.specs.declared.reasons.RefuseReason.{RefuseReason}
use Rattle.gnb_types.specs.declared.reasons.RefuseReason.TheVariants.{Empty, NoRadio}
use Rattle.gnb_types.specs.Orders.{bearer_cmp}
use Rattle.tables.specs.Tables.{find}
use Rattle.unit_defs.specs.Ways.{no, puts}
use Rattle.unit_defs.specs.CuUpRecords.{CuUpBearer, CuUpContext}
use Rattle.unit_defs.specs.CuUpBearers.{has_downlink, framed}
use Rattle.unit_defs.specs.octet_defs.Codec.{Codec, octet_way}
use Rattle.unit_defs.specs.octet_defs.Units.{OctetAnswer}
use Rattle.unit_messages.specs.declared.steps.StepError.{StepError}
use Rattle.unit_messages.specs.declared.steps.StepError.TheVariants as errors
use Rattle.unit_messages.specs.steps.Steps.{step_after, IsStep}
use Rattle.pdcp_bearers.specs.ue_bearers.Senders.{from_on, IsLeastFrom}
use Rattle.cu_up_bearer.specs.declared.tunnels.at.Scope.{Scope}
use Rattle.cu_up_bearer.specs.declared.tunnels.frames.Frames.{Frames}
use Rattle.cu_up_bearer.specs.tunnels.Tunnels.{at_as, with_frames}
use Rattle.cu_up_bearer.proofs.downlink.Resends.{all_from}
use Rattle.cu_up_bearer.specs.bearers.Bearers.{kept}
use Rattle.cu_up_bearer.specs.declared.bearers.bearer.Bearer.{Bearer}
use Rattle.cu_up_contexts.specs.bearer_context.Bearers.{context_as}
use Rattle.cu_up_contexts.specs.bearer_context.Items.{polled}
use Rattle.cu_up_contexts.proofs.bearer_context.Found.{found, with_there, with_back}
use Rattle.cu_up_contexts.proofs.bearer_context.Polls.{refuses, polled_empty, polled_served, one_step}

or_turned : (x y : Bool) → (x || y) ≡ (y || x)
or_turned true true = refl
or_turned true false = refl
or_turned false true = refl
or_turned false false = refl

always : {X A : Type 0} (result : Result X StepError) → A → OnOk result A
always (Ok x) a = a
always (Err e) a = tt

module _ (instance : ℕ) (bs : List Bearer) (a : Scope) (i : ℕ) (b : Bearer) (within : i < length bs) (number_is : i + 1 ≡ a.bearer.0)
    (at : b ≡ get_or bs i b) (codec : Codec) (before after : List Output) (result : Result (Unit {0}) StepError) where
  abbrev pub whole : List Bearer → CuUpContext
  whole xs = context_as instance a.sn a.quota a.flags xs

  abbrev polls : CuUpContext → OctetAnswer CuUpContext
  polls x = polled codec a.ue x a.bearer (find bearer_cmp x.bearers a.bearer)

  abbrev polled_here : OctetAnswer CuUpContext
  polled_here = polled codec a.ue (whole bs) a.bearer (Some (kept b))

  found_is : polls (whole bs) ≡ polled_here
  found_is = ap (λ (o : Option CuUpBearer). polled codec a.ue (whole bs) a.bearer o) (found instance a.sn a.quota a.flags bs a.bearer i b within number_is at)

  same_is : whole (set bs i b) ≡ whole bs
  same_is =
      sym (with_there instance a.sn a.quota a.flags bs a.bearer i b within number_is at b)
      ∙ with_back instance a.sn a.quota a.flags bs a.bearer i b within number_is at

  module _ (reason : RefuseReason) (out : OnOk result (after ≡ before ++ outs.No reason ∷ [])) (fails : IfErr result (λ e. e ≡ errors.Memory)) where
    refused_there : polled_here ≡ puts (no reason) (whole bs) → IsStep (step_after before (polls (whole bs))) after (whole (set bs i b)) result
    refused_there is =
        subst (λ (x : OctetAnswer CuUpContext). IsStep (step_after before x) after (whole (set bs i b)) result) (sym (found_is ∙ is))
        (subst (λ (d : CuUpContext). IsStep (step_after before (puts (no reason) (whole bs))) after d result) (sym same_is)
        (refuses before after reason (whole bs) result out fails))

  pub polls_none : OnOk result (after ≡ before ++ outs.No Empty ∷ []) → IfErr result (λ e. e ≡ errors.Memory)
      → IsLeastFrom 0 b.down.sending.sender.unconfirmed None → IsStep (step_after before (polls (whole bs))) after (whole (set bs i b)) result
  polls_none out fails none =
      refused_there Empty out fails (polled_empty codec a.ue (whole bs) a.bearer (kept b) (sym (all_from b.down.sending.sender.unconfirmed) ∙ none))

  module _ (e : ℕ × Bor (List ℕ)) (least : IsLeastFrom 0 b.down.sending.sender.unconfirmed (Some e)) (refused : Bool)
      (is : refused ≡ (not (has_downlink (kept b).downlink) || a.flags.frozen)) where
    tested : (t : Bool) → refused ≡ t → (a.flags.frozen || not (has_downlink (kept b).downlink)) ≡ t
    tested t e = or_turned a.flags.frozen (not (has_downlink (kept b).downlink)) ∙ sym is ∙ e

    some_is : b.down.sending.sender.unconfirmed ≡ (e.0, e.1.now) ∷ from_on (e.0 + 1) b.down.sending.sender.unconfirmed
    some_is = sym (all_from b.down.sending.sender.unconfirmed) ∙ least.0

    pub polls_unserved : refused ≡ true → OnOk result (after ≡ before ++ outs.No NoRadio ∷ []) → IfErr result (λ e. e ≡ errors.Memory)
        → IsStep (step_after before (polls (whole bs))) after (whole (set bs i b)) result
    polls_unserved unserved out fails =
        refused_there NoRadio out fails
        (polled_served codec a.ue (whole bs) a.bearer (kept b) (e.0, e.1.now) (from_on (e.0 + 1) b.down.sending.sender.unconfirmed) some_is true (tested true unserved))

    pub polls_goes : refused ≡ false → (f : Frames)
        → IsStep (step_after before (framed (octet_way codec) (at_as a) true false None Absent (with_frames (kept b) b.down.frames))) after (with_frames (kept b) f) result
        → IsStep (step_after before (polls (whole bs))) after (whole (set bs i (record b { down = record b.down { frames = f } }))) result
    polls_goes none f step =
        let next : Bearer = record b { down = record b.down { frames = f } } in
        subst (λ (x : OctetAnswer CuUpContext). IsStep (step_after before x) after (whole (set bs i next)) result)
        (sym
        (found_is
        ∙ polled_served codec a.ue (whole bs) a.bearer (kept b) (e.0, e.1.now) (from_on (e.0 + 1) b.down.sending.sender.unconfirmed) some_is false (tested false none)))
        (one_step before after (whole bs) (whole (set bs i next)) a.bearer
        (framed (octet_way codec) (at_as a) true false None Absent (kept b)) (kept next) result
        (always result (sym (with_there instance a.sn a.quota a.flags bs a.bearer i b within number_is at next))) step)
