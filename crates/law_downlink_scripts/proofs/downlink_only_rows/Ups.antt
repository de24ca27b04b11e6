-- What a CU-UP does to the downlink of a bearer that serves.
use Rattle.std.proofs.Common.{◌≡◌, ℕ, ◌+◌, Bool, true, false, not, ◌&&◌, ◌||◌, List, [], ◌∷◌, ◌++◌, length, Option, Some, None, refl, sym, ap, ◌∙◌, subst, arith}
use Rattle.std.specs.Prelude.{if◌then◌else◌, nat_lt}
use Rattle.gnb_types.specs.declared.names.Dir.TheVariants.{Dl}
use Rattle.gnb_types.specs.declared.outputs.Tag.TheVariants.{Absent, Own}
use Rattle.pdcp.specs.Near.{last_count}
use Rattle.pdcp_defs.specs.Senders.{numbered as with_next, has_room, confirmed_to}
use Rattle.unit_defs.specs.Ways.{packet_pdu, fresh, frame, Output, packet, Way, Answer, gives, spent, with_outputs, ◌then◌, nothing, puts, counts_spent, frames_spent}
use Rattle.unit_defs.specs.CuUpRecords.{DownlinkTunnel, CuUpBearer, CuUpScope}
use Rattle.unit_defs.specs.CuUpBearers.{last_frame, has_downlink, framed_on, framed, sent, number_each, number_waiting, forwarded_down}
use Rattle.unit_defs.specs.CuUpItems.{took_fresh, took_delivery_status}
use Rattle.law_downlink_scripts.specs.downlink_only_rows.DownlinkOnly.{serving, next_on, IsNumbered, Numbers}

module _ {M C P : Type 0} (way : Way M C P) where
  -- ---- what waits is numbered

  module _ (at : CuUpScope) where
    same_place : (d : DownlinkTunnel) → record d { next = d.next + 0 } ≡ d
    same_place d = let e : d.next + 0 ≡ d.next = omega arith in ap (λ (n : ℕ). record d { next = n }) e

    none_numbered : (d : DownlinkTunnel) (b : CuUpBearer) → b.downlink ≡ Some d → b.restart ≡ false → IsNumbered way at d b b []
    none_numbered d b on calm = record {
      packets = [];
      waited = refl;
      sent = refl;
      counts = omega arith;
      frames = on ∙ ap Some (sym (same_place d));
      restart = calm;
      ends = refl;
    }

    module _ (p : List ℕ) (ps : List (List ℕ)) (d : DownlinkTunnel) (b : CuUpBearer) where
      begun : CuUpBearer
      begun = record b { sender = with_next b.sender p; waiting = ps }

      after_one : CuUpBearer
      after_one = record b { sender = with_next b.sender p; waiting = ps; downlink = Some (next_on d); restart = false }

      one : Output M P
      one = packet d.du d.teid at.ue at.bearer Dl (Own b.sender.next) (frame false false d.next (Some (way.write at.sn (packet_pdu b.sender.next p))))

      SendsOne : Answer M P CuUpBearer → Type 0
      SendsOne (gives outputs c) = (outputs ≡ one ∷ []) × (c ≡ after_one)
      SendsOne (spent counter) = Unit {0}

      sent_one : b.downlink ≡ Some d → b.restart ≡ false → SendsOne (sent way at b.sender.next p (Own b.sender.next) begun)
      unfolding sent framed SendsOne begun after_one one
      sent_one on calm =
          subst (λ (o : Option DownlinkTunnel). SendsOne (framed_on way at begun false begun.restart (Some (way.write at.sn (packet_pdu b.sender.next p))) (Own b.sender.next) o)) (sym on)
          (by (nat_lt last_frame d.next) b.restart calm)
        where
          by : (t r : Bool) → r ≡ false → SendsOne (if t then spent frames_spent
              else puts (packet d.du d.teid at.ue at.bearer Dl (Own b.sender.next) (frame false r d.next (Some (way.write at.sn (packet_pdu b.sender.next p)))))
              (record begun { downlink = Some (next_on d); restart = r && not r }))
          by true r e = tt
          by false true e = absurd cc
          by false false e = (refl, refl)

      one_more : (c : CuUpBearer) (outputs : List (Output M P)) → b.waiting ≡ p ∷ ps → IsNumbered way at (next_on d) after_one c outputs
          → IsNumbered way at d b c (one ∷ outputs)
      unfolding after_one one with_next
      one_more c outputs waits n = record {
        packets = p ∷ n.packets;
        waited = waits ∙ ap (λ (qs : List (List ℕ)). p ∷ qs) n.waited;
        sent = ap (λ (os : List (Output M P)). one ∷ os) n.sent;
        counts = omega (arith, n.counts);
        frames = n.frames ∙ ap (λ (k : ℕ). Some (record d { next = k })) further;
        restart = n.restart;
        ends = n.ends;
      }
        where
          further : d.next + 1 + length n.packets ≡ d.next + length (p ∷ n.packets)
          further = omega arith

    each_numbered : (ps : List (List ℕ)) (d : DownlinkTunnel) (b : CuUpBearer) → b.waiting ≡ ps → b.downlink ≡ Some d → b.restart ≡ false
        → Numbers way at d b (number_each way at ps b)
    unfolding number_each SendsOne after_one begun
    each_numbered [] d b waits on calm = none_numbered d b on calm
    each_numbered (p ∷ ps) d b waits on calm =
        room (each_numbered ps (next_on d) (after_one p ps d b) refl refl refl) (not (has_room at.sn at.quota b.sender)) (nat_lt last_count b.sender.next)
      where
        more : (a : Answer M P CuUpBearer) → Numbers way at (next_on d) (after_one p ps d b) a → Numbers way at d b (with_outputs (one p ps d b ∷ []) a)
        more (gives outputs c) n = one_more p ps d b c outputs waits n
        more (spent counter) n = tt

        Rest : Type 0
        Rest = Numbers way at (next_on d) (after_one p ps d b) (number_each way at ps (after_one p ps d b))

        then_each : Rest → (a : Answer M P CuUpBearer) → SendsOne p ps d b a → Numbers way at d b (a then number_each way at ps)
        then_each rest (gives outputs c) s =
            subst (λ (os : List (Output M P)). Numbers way at d b (with_outputs os (number_each way at ps c))) (sym s.0)
            (subst (λ (x : CuUpBearer). Numbers way at d b (with_outputs (one p ps d b ∷ []) (number_each way at ps x))) (sym s.1)
            (more (number_each way at ps (after_one p ps d b)) rest))
        then_each rest (spent counter) s = tt

        counted : Rest → (t : Bool) → Numbers way at d b ((if t then spent counts_spent
            else sent way at b.sender.next p (Own b.sender.next) (record b { sender = with_next b.sender p; waiting = ps })) then number_each way at ps)
        counted rest true = tt
        counted rest false = then_each rest (sent way at b.sender.next p (Own b.sender.next) (begun p ps d b)) (sent_one p ps d b on calm)

        room : Rest → (t u : Bool) → Numbers way at d b (if t then nothing b else
            ((if u then spent counts_spent
            else sent way at b.sender.next p (Own b.sender.next) (record b { sender = with_next b.sender p; waiting = ps })) then number_each way at ps))
        room rest true u = none_numbered d b on calm
        room rest false u = counted rest u

    waiting_numbered : (d : DownlinkTunnel) (b : CuUpBearer) → b.downlink ≡ Some d → b.restart ≡ false → Numbers way at d b (number_waiting way at b)
    unfolding number_waiting
    waiting_numbered d b on calm = by (at.flags.frozen || at.flags.released || not (has_downlink b.downlink))
      where
        by : (t : Bool) → Numbers way at d b (if t then nothing b else number_each way at b.waiting b)
        by true = none_numbered d b on calm
        by false = each_numbered b.waiting d b refl on calm

    -- ---- a packet of N3, and what confirms

    pub fresh_numbered : (d : DownlinkTunnel) (b : CuUpBearer) (p : List ℕ) → at.flags ≡ serving → b.downlink ≡ Some d → b.restart ≡ false
        → Numbers way at d (record b { waiting = b.waiting ++ p ∷ [] }) (took_fresh way at p b)
    unfolding took_fresh
    fresh_numbered d b p serves on calm =
        by at.flags.released at.flags.frozen (ap (λ f. f.released) serves) (ap (λ f. f.frozen) serves)
      where
        waits : CuUpBearer
        waits = record b { waiting = b.waiting ++ p ∷ [] }

        by : (t u : Bool) → t ≡ false → u ≡ false → Numbers way at d (record b { waiting = b.waiting ++ p ∷ [] })
            (if t then forwarded_down way at Absent (fresh p) b else
            (let waits : CuUpBearer = record b { waiting = b.waiting ++ p ∷ [] } in
            if u then forwarded_down way at Absent (fresh p) waits else number_waiting way at waits))
        by true u e f = absurd cc
        by false true e f = absurd cc
        by false false e f = waiting_numbered d (record b { waiting = b.waiting ++ p ∷ [] }) on calm

    pub confirms_numbered : (d : DownlinkTunnel) (b : CuUpBearer) (delivered : Option ℕ) → b.downlink ≡ Some d → b.restart ≡ false
        → Numbers way at d b (took_delivery_status way at [] delivered b)
    unfolding took_delivery_status confirmed_to
    confirms_numbered d b None on calm = by (number_waiting way at b) (waiting_numbered d b on calm)
      where
        by : (a : Answer M P CuUpBearer) → Numbers way at d b a → Numbers way at d b (with_outputs [] a)
        by (gives outputs c) n = n
        by (spent counter) n = tt
    confirms_numbered d b (Some count) on calm =
        let known : CuUpBearer = record b { sender = confirmed_to b.sender count } in
        by (number_waiting way at known) (waiting_numbered d known on calm)
      where
        by : (a : Answer M P CuUpBearer) → Numbers way at d (record b { sender = confirmed_to b.sender count }) a → Numbers way at d b (with_outputs [] a)
        by (gives outputs c) n = record {
          packets = n.packets;
          waited = n.waited;
          sent = n.sent;
          counts = n.counts;
          frames = n.frames;
          restart = n.restart;
          ends = n.ends;
        }
        by (spent counter) n = tt
