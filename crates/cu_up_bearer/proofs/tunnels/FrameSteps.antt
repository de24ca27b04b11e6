-- What a frame on the downlink tunnel comes to.
use Rattle.std.proofs.Common.{◌≡◌, ℕ, ◌+◌, ◌<◌, ◌≤◌, Bool, true, false, cond, not, nat_lt, ◌&&◌, List, [], ◌∷◌, ◌++◌, Option, Some, None, Ok, Err, refl, sym, ap, ◌∙◌, subst, arith, append-nil}
use Rattle.std.specs.Prelude.{Result}
use Rattle.std.specs.Result.{IsErrAnd}
use Rattle.std.proofs.lemmas.Result.{err_from_is_err_and}
use Rattle.std.proofs.lemmas.Bool.Decides.{nat_tests}
use Rattle.gnb_types.specs.declared.names.Dir.TheVariants.{Dl}
use Rattle.gnb_types.specs.declared.outputs.Output.{Output}
use Rattle.gnb_types.specs.declared.outputs.Tag.{Tag}
use Rattle.gnb_types.specs.declared.names.SnBits.{SnBits}
use Rattle.pdcp.specs.Pdus.{radio_data, report_octets}
use Rattle.link_defs.specs.Layouts.{f1u_downlink_packet, f1u_downlink_report, f1u_downlink_poll}
use Rattle.unit_defs.specs.CuUpRecords.{CuUpBearer}
use Rattle.unit_defs.specs.CuUpBearers.{framed, framed_on, last_frame}
use Rattle.unit_defs.specs.Ways.{frames_spent, spent, puts, packet, frame}
use Rattle.unit_defs.specs.octet_defs.Codec.{Codec, octet_way}
use Rattle.unit_defs.specs.octet_defs.Units.{OctetAnswer}
use Rattle.unit_defs.specs.octet_defs.Writing.{frame_octets}
use Rattle.unit_messages.specs.declared.steps.StepError.{StepError}
use Rattle.unit_messages.specs.declared.steps.StepError.TheVariants as errors
use Rattle.unit_messages.specs.steps.Steps.{Step, IsStep, stepped, stopped, step_after}
use Rattle.cu_up_bearer.specs.declared.tunnels.at.Scope.{Scope}
use Rattle.cu_up_bearer.specs.declared.tunnels.frames.DownlinkTunnel.{DownlinkTunnel}
use Rattle.cu_up_bearer.specs.declared.tunnels.frames.Frames.{Frames}
use Rattle.cu_up_bearer.specs.tunnels.Tunnels.{at_as, downlink_as, with_frames, frame_output, IsNumber}

module _ (codec : Codec) (a : Scope) (f : Frames) (b : CuUpBearer) (before : List Output) (poll restart : Bool) (pdu : Option (List ℕ)) (tag : Tag) where
  abbrev pub step_at : Option DownlinkTunnel → Step CuUpBearer
  step_at o = step_after before (framed_on (octet_way codec) (at_as a) (with_frames b f) poll restart pdu tag (downlink_as o))

  abbrev pub step_of : Step CuUpBearer
  step_of = step_after before (framed (octet_way codec) (at_as a) poll restart pdu tag (with_frames b f))

  at_downlink : (o : Option DownlinkTunnel) → f.downlink ≡ o → step_of ≡ step_at o
  unfolding framed
  at_downlink o is = ap (λ (x : Option DownlinkTunnel). step_at x) is

  -- without a tunnel nothing goes out
  pub frames_nothing : f.downlink ≡ None → step_of ≡ stepped before (with_frames b f)
  frames_nothing is = at_downlink None is ∙ ap (λ (os : List Output). stepped os (with_frames b f)) (append-nil before)

  -- all numbers were used
  pub frames_spend : (d : DownlinkTunnel) → f.downlink ≡ Some d → last_frame < d.next → step_of ≡ stopped frames_spent
  frames_spend d is less =
      let over : nat_lt last_frame d.next ≡ true = grind (arith, nat_tests) in
      at_downlink (Some d) is
      ∙ ap (λ (t : Bool). step_after before (cond t (spent frames_spent)
      (puts (packet d.du d.teid a.ue a.bearer Dl tag (frame poll restart d.next pdu))
      (record b { downlink = Some (record { du = d.du; teid = d.teid; next = d.next + 1 }); restart = f.restart && not restart })))) over

  -- a frame with the next number
  pub frames_put : (d after : DownlinkTunnel) (number : ℕ) (bytes : List ℕ) (new : List Output) → f.downlink ≡ Some d → number ≡ d.next → number ≤ last_frame
      → bytes ≡ frame_octets d.teid poll restart number pdu → new ≡ before ++ frame_output d a tag bytes ∷ [] → after ≡ record d { next = d.next + 1 }
      → (r : Bool) → f.restart && not restart ≡ r
      → step_of ≡ stepped new (with_frames b (record { downlink = Some after; restart = r }))
  frames_put d after number bytes new is number_is less bytes_is new_is after_is r r_is =
      let under : nat_lt last_frame d.next ≡ false = grind (arith, nat_tests) in
      let kept : DownlinkTunnel → Bool → CuUpBearer = λ e t. with_frames b (record { downlink = Some e; restart = t }) in
      let next : DownlinkTunnel = record d { next = d.next + 1 } in
      let bytes_now : bytes ≡ frame_octets d.teid poll restart d.next pdu = bytes_is ∙ ap (λ (n : ℕ). frame_octets d.teid poll restart n pdu) number_is in
      at_downlink (Some d) is
      ∙ ap (λ (t : Bool). step_after before (cond t (spent frames_spent)
      (puts (packet d.du d.teid a.ue a.bearer Dl tag (frame poll restart d.next pdu))
      (record b { downlink = Some (record { du = d.du; teid = d.teid; next = d.next + 1 }); restart = f.restart && not restart })))) under
      ∙ ap (λ (o : Output). stepped (before ++ o ∷ []) (kept next (f.restart && not restart))) (ap (λ (x : List ℕ). frame_output d a tag x) (sym bytes_now))
      ∙ ap (λ (os : List Output). stepped os (kept next (f.restart && not restart))) (sym new_is)
      ∙ ap (λ (e : DownlinkTunnel). stepped new (kept e (f.restart && not restart))) (sym after_is)
      ∙ ap (λ (t : Bool). stepped new (kept after t)) r_is

fails_as : {R : Type 0} (X : Type 0) (d : DownlinkTunnel) (e : StepError) → IsNumber d (Err e) → (s : Step R) → (last_frame < d.next → s ≡ stopped frames_spent)
    → (out : List Output) (b : R) → IsStep {X = X} s out b (Err e)
fails_as X d (errors.Spent counter) says s spent_is out b = spent_is says.0 ∙ ap (λ (k : ℕ). stopped k) (sym says.1)
fails_as X d errors.Memory says s spent_is out b = tt

pub frames_fail : {X R : Type 0} (d : DownlinkTunnel) (e : StepError) → IsNumber d (Err e) → (s : Step R) → (last_frame < d.next → s ≡ stopped frames_spent)
    → (out : List Output) (b : R) (result : Result X StepError) → IsErrAnd result (λ y. y ≡ e) → IsStep s out b result
frames_fail {X} {R} d e says s spent_is out b result err =
    let p = err_from_is_err_and result err in
    subst (λ (r : Result X StepError). IsStep s out b r) (sym p.1)
    (subst (λ (y : StepError). IsStep {X = X} s out b (Err y)) (sym p.2) (fails_as X d e says s spent_is out b))

-- the mark ends with the frame that has it, and stays on one that doesn't
pub mark_ends : (r : Bool) → r && not r ≡ false
mark_ends true = refl
mark_ends false = refl

pub mark_stays : (r : Bool) → r && not false ≡ r
mark_stays true = refl
mark_stays false = refl

-- ---- the octets that are written are those of the frame

pub packet_is : (restart : Bool) (sn : SnBits) (teid number count : ℕ) (p : List ℕ)
    → f1u_downlink_packet restart sn teid number count p ≡ frame_octets teid false restart number (Some (radio_data sn count p))
unfolding f1u_downlink_packet
packet_is restart sn teid number count p = refl

pub report_is : (teid number fmc : ℕ) (bits : List Bool)
    → f1u_downlink_report teid number fmc bits ≡ frame_octets teid false false number (Some (report_octets fmc bits))
unfolding f1u_downlink_report
report_is teid number fmc bits = refl

pub poll_is : (teid number : ℕ) → f1u_downlink_poll teid number ≡ frame_octets teid true false number None
unfolding f1u_downlink_poll
poll_is teid number = refl
