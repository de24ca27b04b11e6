-- The rows of a CU-UP and of a DU put, and take, the frames of the steps.
use Rattle.std.proofs.Common.{◌≡◌, ℕ, ◌+◌, Bool, true, false, not, ◌&&◌, ◌||◌, if◌then◌else◌, nat_lt, List, [], ◌∷◌, ◌++◌, Option, Some, None, refl, sym, ap, ◌∙◌}
use Rattle.std.proofs.lemmas.List.{map-append}
use Rattle.gnb_types.specs.declared.names.UeId.{UeId}
use Rattle.gnb_types.specs.declared.names.BearerId.{BearerId}
use Rattle.gnb_types.specs.declared.names.Dir.TheVariants.{Dl}
use Rattle.gnb_types.specs.declared.outputs.Tag.{Tag}
use Rattle.gnb_types.specs.declared.outputs.Tag.TheVariants.{Own, Absent, Same}
use Rattle.gnb_types.specs.declared.reasons.DropReason.TheVariants.{Gap}
use Rattle.unit_defs.specs.Ways.{Pdu, packet_pdu, report_pdu, frame, Output, packet, radio, dropped, frame_item, status, Way, Answer, gives, spent, with_outputs, ◌then◌}
use Rattle.unit_defs.specs.CuUpRecords.{CuUpBearer, CuUpScope, DownlinkTunnel}
use Rattle.unit_defs.specs.CuUpBearers.{framed, framed_on, sent, sent_again as row_sends, last_frame}
use Rattle.unit_defs.specs.CuUpItems.{lost_frames}
use Rattle.unit_defs.specs.Du.{Du, DuBearer, DuContext, frame_received, with_bearer, told, missing, is_missing}
use Rattle.law_downlink_order.specs.path.Paths.{Frame, Sending, frame_on, packets_sent, gap_after, taken_by}
use Rattle.law_downlink_order.specs.path.Steps.{sent_again, sent_anew}
use Rattle.law_downlink_order.specs.path.Shown.{pdu_written, written, loads_of, PutsFrames, radio_of, goes_on, Carries}

loads-append : {M P : Type 0} (xs ys : List (Output M P)) → loads_of (xs ++ ys) ≡ loads_of xs ++ loads_of ys
unfolding loads_of
loads-append [] ys = refl
loads-append (packet to teid ue bearer Dl tag load ∷ xs) ys = ap (λ zs. load ∷ zs) (loads-append xs ys)
loads-append (_ ∷ xs) ys = loads-append xs ys

radio-append : {M P : Type 0} (xs ys : List (Output M P)) → radio_of (xs ++ ys) ≡ radio_of xs ++ radio_of ys
unfolding radio_of
radio-append [] ys = refl
radio-append (radio ue bearer Dl epoch tag pdu ∷ xs) ys = ap (λ zs. pdu ∷ zs) (radio-append xs ys)
radio-append (_ ∷ xs) ys = radio-append xs ys

module _ {M C P : Type 0} (way : Way M C P) (at : CuUpScope) where
  on_tunnel : (poll restart : Bool) (pdu : Option Pdu) (tag : Tag) (b : CuUpBearer) (d : Option DownlinkTunnel)
      → PutsFrames way at.sn (frame_on poll restart pdu b d) (framed_on way at b poll restart (pdu_written way at.sn pdu) tag d)
  unfolding PutsFrames loads_of
  on_tunnel poll restart pdu tag b None = (refl, refl)
  on_tunnel poll restart pdu tag b (Some d) = by (nat_lt last_frame d.next)
    where
      by : (t : Bool) → PutsFrames way at.sn (frame_on poll restart pdu b (Some d))
          (if t then spent 6
          else gives (packet d.du d.teid at.ue at.bearer Dl tag (frame poll restart d.next (pdu_written way at.sn pdu)) ∷ [])
          (record b { downlink = Some (record d { next = d.next + 1 }); restart = b.restart && not restart }))
      by true = tt
      by false = (refl, refl)

  pub puts_a_frame : (poll restart : Bool) (pdu : Option Pdu) (tag : Tag) (b : CuUpBearer)
      → PutsFrames way at.sn (frame_on poll restart pdu b b.downlink) (framed way at poll restart (pdu_written way at.sn pdu) tag b)
  unfolding framed
  puts_a_frame poll restart pdu tag b = on_tunnel poll restart pdu tag b b.downlink

  -- frames, and then others
  and_then : (one : Sending) (x : Answer M P CuUpBearer) (more : CuUpBearer → Sending) (row : CuUpBearer → Answer M P CuUpBearer)
      → PutsFrames way at.sn one x → ((b : CuUpBearer) → PutsFrames way at.sn (more b) (row b))
      → PutsFrames way at.sn (record { frames = one.frames ++ (more one.bearer).frames; bearer = (more one.bearer).bearer }) (x then row)
  unfolding PutsFrames
  and_then one (spent counter) more row h k = tt
  and_then one (gives outputs b) more row h k = rw h.1 (by (row one.bearer) (k one.bearer))
    where
      by : (y : Answer M P CuUpBearer) → PutsFrames way at.sn (more one.bearer) y
          → PutsFrames way at.sn (record { frames = one.frames ++ (more one.bearer).frames; bearer = (more one.bearer).bearer })
          (with_outputs outputs y)
      by (spent counter) i = tt
      by (gives others c) i =
          (loads-append outputs others ∙ rw (h.0, i.0) (sym (map-append (written way at.sn) one.frames (more one.bearer).frames)), i.1)

  pub sends_packets : (es : List (ℕ × List ℕ)) (b : CuUpBearer) → PutsFrames way at.sn (packets_sent es b) (row_sends way at es b)
  unfolding row_sends packets_sent sent PutsFrames loads_of
  sends_packets [] b = (refl, refl)
  sends_packets (e ∷ es) b = and_then (frame_on false b.restart (Some (packet_pdu e.0 e.1)) b b.downlink)
      (framed way at false b.restart (Some (way.write at.sn (packet_pdu e.0 e.1))) (Own e.0) b) (λ c. packets_sent es c)
      (λ c. row_sends way at es c)
      (puts_a_frame false b.restart (Some (packet_pdu e.0 e.1)) (Own e.0) b) (λ c. sends_packets es c)

  pub sends_anew : (fmc : ℕ) (bits : List Bool) (b : CuUpBearer)
      → PutsFrames way at.sn (sent_anew fmc bits b)
      (framed way at false false (Some (way.write at.sn (report_pdu fmc bits))) Absent b then (λ c. row_sends way at c.sender.unconfirmed c))
  sends_anew fmc bits b = and_then (frame_on false false (Some (report_pdu fmc bits)) b b.downlink)
      (framed way at false false (Some (way.write at.sn (report_pdu fmc bits))) Absent b) (λ c. packets_sent c.sender.unconfirmed c)
      (λ c. row_sends way at c.sender.unconfirmed c) (puts_a_frame false false (Some (report_pdu fmc bits)) Absent b)
      (λ c. sends_packets c.sender.unconfirmed c)

  pub sends_after_a_loss : (lost : List (ℕ × ℕ)) (b : CuUpBearer)
      → PutsFrames way at.sn (sent_again at.flags.frozen lost b) (lost_frames way at lost b)
  unfolding PutsFrames loads_of
  sends_after_a_loss [] b = by at.flags.frozen
    where
      by : (t : Bool) → PutsFrames way at.sn (sent_again t [] b) (gives [] b)
      by t = (refl, refl)
  sends_after_a_loss (range ∷ ranges) b = by at.flags.frozen
    where
      by : (t : Bool) → PutsFrames way at.sn (sent_again t (range ∷ ranges) b)
          (if t then gives [] (record b { restart = true; loss_while_frozen = true })
          else row_sends way at b.sender.unconfirmed (record b { restart = true }))
      by true = (refl, refl)
      by false = sends_packets b.sender.unconfirmed (record b { restart = true })

no_radio : {M P : Type 0} (t : Bool) (o : Output M P) → radio_of (o ∷ []) ≡ [] → radio_of (if t then o ∷ [] else []) ≡ []
unfolding radio_of
no_radio true o h = h
no_radio false o h = refl

no_pdu : {P : Type 0} (g : Bool) → goes_on {P = P} g None ≡ []
no_pdu true = refl
no_pdu false = refl

module _ {M C P : Type 0} (way : Way M C P) (ue : UeId) (bearer : BearerId) (c : DuContext) (b : DuBearer) (r : Du M C) where
  none_told : (poll : Bool) (number : ℕ) → radio_of (told way ue bearer b poll number) ≡ []
  unfolding radio_of
  none_told poll number = no_radio (is_missing way b number || poll)
      (packet b.up b.uplink ue bearer Dl Absent (status (missing way b number) None)) refl

  after_told : (poll : Bool) (number : ℕ) (outputs : List (Output M P))
      → radio_of (told way ue bearer b poll number ++ outputs) ≡ radio_of outputs
  after_told poll number outputs =
      radio-append (told way ue bearer b poll number) outputs ∙ ap (λ xs. xs ++ radio_of outputs) (none_told poll number)

  by_gap : (g : Bool) (poll : Bool) (number : ℕ) (pdu : P) (after : Du M C)
      → Carries (goes_on g (Some pdu)) after (with_outputs (told way ue bearer b poll number)
      (if g then gives (dropped Gap ∷ []) after else gives (radio ue bearer Dl c.epoch Same pdu ∷ []) after))
  unfolding Carries radio_of
  by_gap true poll number pdu after = (after_told poll number (dropped Gap ∷ []), refl)
  by_gap false poll number pdu after = (after_told poll number (radio ue bearer Dl c.epoch Same pdu ∷ []), refl)

  pub takes_a_frame : (f : Frame)
      → Carries (goes_on (gap_after b f f.pdu) (pdu_written way c.sn f.pdu)) (with_bearer way ue bearer c (taken_by b f) r)
      (frame_received way ue bearer c b (frame_item f.poll f.restart f.number (pdu_written way c.sn f.pdu)) r)
  unfolding Carries radio_of
  takes_a_frame f = by f.pdu
    where
      by : (pdu : Option Pdu)
          → Carries (goes_on (gap_after b f pdu) (pdu_written way c.sn pdu))
          (with_bearer way ue bearer c (record b { awaited = f.number + 1; gap = gap_after b f pdu }) r)
          (frame_received way ue bearer c b (frame_item f.poll f.restart f.number (pdu_written way c.sn pdu)) r)
      by None = (after_told f.poll f.number [] ∙ sym (no_pdu (gap_after b f None)), refl)
      by (Some pdu) = by_gap (gap_after b f (Some pdu)) f.poll f.number (way.write c.sn pdu)
          (with_bearer way ue bearer c (record b { awaited = f.number + 1; gap = gap_after b f (Some pdu) }) r)
