-- What the orders of a CU-UP do to the packets of one bearer, in octets.
use Rattle.std.proofs.Common.{◌≡◌, ℕ, ◌+◌, Bool, true, false, not, ◌&&◌, ◌||◌, List, [], ◌∷◌, ◌++◌, Option, Some, None, refl, ap, ◌∙◌}
use Rattle.std.specs.Prelude.{if◌then◌else◌, nat_lt}
use Rattle.gnb_types.specs.declared.names.SnBits.{SnBits}
use Rattle.gnb_types.specs.declared.names.Dir.TheVariants.{Dl}
use Rattle.gnb_types.specs.declared.outputs.Tag.{Tag}
use Rattle.gnb_types.specs.declared.outputs.Tag.TheVariants.{Absent, Own}
use Rattle.message_types.specs.declared.rrc.Token.{Token}
use Rattle.pdcp.specs.Near.{last_count}
use Rattle.pdcp_defs.specs.Senders.{numbered as with_next, has_room, confirmed_to}
use Rattle.unit_defs.specs.Ways.{Message, Pdu, fresh, frame, packet, packet_pdu, Answer, ◌then◌, nothing, puts, spent, counts_spent, frames_spent}
use Rattle.unit_defs.specs.CuUpRecords.{DownlinkTunnel, SourceHop, CuUpBearer, CuUpScope}
use Rattle.unit_defs.specs.CuUpBearers.{last_frame, has_downlink, framed_on, framed, sent, sent_again, number_each, number_waiting, put_down, forwarded_down}
use Rattle.unit_defs.specs.CuUpItems.{lost_frames, took_fresh, took_delivery_status}
use Rattle.unit_defs.specs.octet_defs.Codec.{Codec, octet_way}
use Rattle.unit_defs.specs.octet_defs.Writing.{on_option, pdu_octets}
use Rattle.run_defs.specs.States.{Lengths}
use Rattle.run_defs.specs.Runs.{plain_way}
use Rattle.law_octets_say_the_same.specs.octet_rows.Octets.{answer_again}
use Rattle.law_octets_say_the_same.proofs.octet_rows.Answers.{then_again, if_again}

abbrev pub itself : CuUpBearer → CuUpBearer
itself b = b

module _ (codec : Codec) (spelled : Message Token → List ℕ) (sn : Lengths) (at : CuUpScope) where
  abbrev pub Again : Answer (List ℕ) (List ℕ) CuUpBearer → Answer (Message Token) Pdu CuUpBearer → Type 0
  Again x a = x ≡ answer_again spelled sn itself a

  framed_by : (poll restart : Bool) (pdu : Option Pdu) (tag : Tag) (b : CuUpBearer) (o : Option DownlinkTunnel)
      → Again (framed_on (octet_way codec) at b poll restart (on_option (pdu_octets (sn at.ue)) pdu) tag o) (framed_on plain_way at b poll restart pdu tag o)
  framed_by poll restart pdu tag b None = refl
  framed_by poll restart pdu tag b (Some d) =
      if_again spelled sn itself (nat_lt last_frame d.next) (spent frames_spent)
      (puts (packet d.du d.teid at.ue at.bearer Dl tag (frame poll restart d.next pdu)) after) (spent frames_spent)
      (puts (packet d.du d.teid at.ue at.bearer Dl tag (frame poll restart d.next (on_option (pdu_octets (sn at.ue)) pdu))) after) refl refl
    where
      after : CuUpBearer
      after = record b { downlink = Some (record d { next = d.next + 1 }); restart = b.restart && not restart }

  module _ (long : at.sn ≡ sn at.ue) where
    sent_as : (count : ℕ) (p : List ℕ) (tag : Tag) (b : CuUpBearer) → Again (sent (octet_way codec) at count p tag b) (sent plain_way at count p tag b)
    unfolding sent framed
    sent_as count p tag b =
        ap (λ (bits : SnBits). framed_on (octet_way codec) at b false b.restart (Some (pdu_octets bits (packet_pdu count p))) tag b.downlink) long
        ∙ framed_by false b.restart (Some (packet_pdu count p)) tag b b.downlink

    sent_again_as : (es : List (ℕ × List ℕ)) (b : CuUpBearer) → Again (sent_again (octet_way codec) at es b) (sent_again plain_way at es b)
    unfolding sent_again
    sent_again_as [] b = refl
    sent_again_as (e ∷ es) b =
        ap (λ a. a then sent_again (octet_way codec) at es) (sent_as e.0 e.1 (Own e.0) b)
        ∙ then_again spelled sn itself itself (sent plain_way at e.0 e.1 (Own e.0) b) (sent_again plain_way at es) (sent_again (octet_way codec) at es) (sent_again_as es)

    each_as : (ps : List (List ℕ)) (b : CuUpBearer) → Again (number_each (octet_way codec) at ps b) (number_each plain_way at ps b)
    unfolding number_each
    each_as [] b = refl
    each_as (p ∷ ps) b =
        if_again spelled sn itself (not (has_room at.sn at.quota b.sender)) (nothing b) (numbers then number_each plain_way at ps)
        (nothing b) (numbers_here then number_each (octet_way codec) at ps) refl
        (ap (λ a. a then number_each (octet_way codec) at ps)
        (if_again spelled sn itself (nat_lt last_count b.sender.next) (spent counts_spent) (sent plain_way at b.sender.next p (Own b.sender.next) begun)
        (spent counts_spent) (sent (octet_way codec) at b.sender.next p (Own b.sender.next) begun) refl (sent_as b.sender.next p (Own b.sender.next) begun))
        ∙ then_again spelled sn itself itself numbers (number_each plain_way at ps) (number_each (octet_way codec) at ps) (each_as ps))
      where
        begun : CuUpBearer
        begun = record b { sender = with_next b.sender p; waiting = ps }

        numbers : Answer (Message Token) Pdu CuUpBearer
        numbers = if nat_lt last_count b.sender.next then spent counts_spent else sent plain_way at b.sender.next p (Own b.sender.next) begun

        numbers_here : Answer (List ℕ) (List ℕ) CuUpBearer
        numbers_here = if nat_lt last_count b.sender.next then spent counts_spent else sent (octet_way codec) at b.sender.next p (Own b.sender.next) begun

    waiting_as : (b : CuUpBearer) → Again (number_waiting (octet_way codec) at b) (number_waiting plain_way at b)
    unfolding number_waiting
    waiting_as b =
        if_again spelled sn itself (at.flags.frozen || at.flags.released || not (has_downlink b.downlink)) (nothing b) (number_each plain_way at b.waiting b)
        (nothing b) (number_each (octet_way codec) at b.waiting b) refl (each_as b.waiting b)

    -- ---- a packet of N3, and a delivery status

    passed_on : (p : List ℕ) (b : CuUpBearer)
        → Again (forwarded_down (octet_way codec) at Absent (fresh p) b) (forwarded_down plain_way at Absent (fresh p) b)
    unfolding forwarded_down
    passed_on p b = by b.hop
      where
        by : (o : Option SourceHop) → Again (put_down (octet_way codec) at Absent (fresh p) b o) (put_down plain_way at Absent (fresh p) b o)
        by None = refl
        by (Some hop) = refl

    pub fresh_as : (p : List ℕ) (b : CuUpBearer) → Again (took_fresh (octet_way codec) at p b) (took_fresh plain_way at p b)
    unfolding took_fresh
    fresh_as p b =
        if_again spelled sn itself at.flags.released (forwarded_down plain_way at Absent (fresh p) b)
        (if at.flags.frozen then forwarded_down plain_way at Absent (fresh p) waits else number_waiting plain_way at waits)
        (forwarded_down (octet_way codec) at Absent (fresh p) b)
        (if at.flags.frozen then forwarded_down (octet_way codec) at Absent (fresh p) waits else number_waiting (octet_way codec) at waits)
        (passed_on p b)
        (if_again spelled sn itself at.flags.frozen (forwarded_down plain_way at Absent (fresh p) waits) (number_waiting plain_way at waits)
        (forwarded_down (octet_way codec) at Absent (fresh p) waits) (number_waiting (octet_way codec) at waits) (passed_on p waits) (waiting_as waits))
      where
        waits : CuUpBearer
        waits = record b { waiting = b.waiting ++ p ∷ [] }

    lost_as : (lost : List (ℕ × ℕ)) (b : CuUpBearer) → Again (lost_frames (octet_way codec) at lost b) (lost_frames plain_way at lost b)
    lost_as [] b = refl
    lost_as (range ∷ ranges) b =
        if_again spelled sn itself at.flags.frozen (nothing (record b { restart = true; loss_while_frozen = true }))
        (sent_again plain_way at b.sender.unconfirmed (record b { restart = true })) (nothing (record b { restart = true; loss_while_frozen = true }))
        (sent_again (octet_way codec) at b.sender.unconfirmed (record b { restart = true })) refl (sent_again_as b.sender.unconfirmed (record b { restart = true }))

    then_waits : (lost : List (ℕ × ℕ)) (b : CuUpBearer)
        → Again (lost_frames (octet_way codec) at lost b then number_waiting (octet_way codec) at) (lost_frames plain_way at lost b then number_waiting plain_way at)
    then_waits lost b =
        ap (λ a. a then number_waiting (octet_way codec) at) (lost_as lost b)
        ∙ then_again spelled sn itself itself (lost_frames plain_way at lost b) (number_waiting plain_way at) (number_waiting (octet_way codec) at) waiting_as

    pub status_as : (lost : List (ℕ × ℕ)) (delivered : Option ℕ) (b : CuUpBearer)
        → Again (took_delivery_status (octet_way codec) at lost delivered b) (took_delivery_status plain_way at lost delivered b)
    unfolding took_delivery_status
    status_as lost None b = then_waits lost b
    status_as lost (Some count) b = then_waits lost (record b { sender = confirmed_to b.sender count })
