-- What a CU-UP does to the downlink of a bearer keeps its counts in range.
use Rattle.std.proofs.Common.{◌≡◌, ℕ, ◌+◌, ◌≤◌, Bool, true, false, not, ◌&&◌, ◌||◌, List, [], ◌∷◌, ◌++◌, Option, Some, None, refl, sym, subst, arith}
use Rattle.std.specs.Prelude.{if◌then◌else◌, nat_lt}
use Rattle.std.proofs.lemmas.Bool.Decides.{nat_tests}
use Rattle.gnb_types.specs.declared.names.Dir.TheVariants.{Dl}
use Rattle.gnb_types.specs.declared.outputs.Tag.{Tag}
use Rattle.gnb_types.specs.declared.outputs.Tag.TheVariants.{Absent, Own}
use Rattle.pdcp.specs.Near.{last_count}
use Rattle.pdcp_defs.specs.Senders.{numbered as with_next, has_room, confirmed_to}
use Rattle.unit_defs.specs.Ways.{fresh, frame, packet, packet_pdu, Output, Way, Answer, gives, spent, with_outputs, ◌then◌, nothing, puts, counts_spent, frames_spent}
use Rattle.unit_defs.specs.CuUpRecords.{DownlinkTunnel, SourceHop, CuUpBearer, CuUpScope}
use Rattle.unit_defs.specs.CuUpBearers.{last_frame, has_downlink, framed_on, framed, sent, sent_again, number_each, number_waiting, put_down, forwarded_down}
use Rattle.unit_defs.specs.CuUpItems.{lost_frames, took_fresh, took_delivery_status}
use Rattle.proof_unit_steps.specs.count_ranges.Ranges.{IsNextFrame, CountsInRange, EndsInRange}

not_above : (a b : ℕ) → nat_lt a b ≡ false → b + 1 ≤ a + 1
not_above a b e = grind (arith, nat_tests)

module _ {M C P : Type 0} (way : Way M C P) (at : CuUpScope) where
  abbrev InHere : Answer M P CuUpBearer → Type 0
  InHere a = EndsInRange a

  with_in : (os : List (Output M P)) (a : Answer M P CuUpBearer) → InHere a → InHere (with_outputs os a)
  with_in os (gives more b) h = h
  with_in os (spent counter) h = tt

  then_in : (a : Answer M P CuUpBearer) (f : CuUpBearer → Answer M P CuUpBearer) → InHere a → ((b : CuUpBearer) → CountsInRange b → InHere (f b))
      → InHere (a then f)
  then_in (gives os b) f h more = with_in os (f b) (more b h)
  then_in (spent counter) f h more = tt

  either : (t : Bool) (a b : Answer M P CuUpBearer) → InHere a → InHere b → InHere (if t then a else b)
  either true a b p q = p
  either false a b p q = q

  framed_in : (poll restart : Bool) (pdu : Option P) (tag : Tag) (b : CuUpBearer) (o : Option DownlinkTunnel) → b.sender.next ≤ last_count + 1 → IsNextFrame o
      → b.downlink ≡ o → InHere (framed_on way at b poll restart pdu tag o)
  framed_in poll restart pdu tag b None counts frames is = (counts, subst IsNextFrame (sym is) frames)
  framed_in poll restart pdu tag b (Some d) counts frames is = by (nat_lt last_frame d.next) refl
    where
      by : (t : Bool) → nat_lt last_frame d.next ≡ t → InHere (if t then spent frames_spent
          else puts (packet d.du d.teid at.ue at.bearer Dl tag (frame poll restart d.next pdu))
          (record b { downlink = Some (record d { next = d.next + 1 }); restart = b.restart && not restart }))
      by true e = tt
      by false e = (counts, not_above last_frame d.next e)

  sent_in : (count : ℕ) (p : List ℕ) (tag : Tag) (b : CuUpBearer) → CountsInRange b → InHere (sent way at count p tag b)
  unfolding sent framed
  sent_in count p tag b h = framed_in false b.restart (Some (way.write at.sn (packet_pdu count p))) tag b b.downlink h.0 h.1 refl

  sent_again_in : (es : List (ℕ × List ℕ)) (b : CuUpBearer) → CountsInRange b → InHere (sent_again way at es b)
  unfolding sent_again
  sent_again_in [] b h = h
  sent_again_in (e ∷ es) b h = then_in (sent way at e.0 e.1 (Own e.0) b) (sent_again way at es) (sent_in e.0 e.1 (Own e.0) b h) (sent_again_in es)

  each_in : (ps : List (List ℕ)) (b : CuUpBearer) → CountsInRange b → InHere (number_each way at ps b)
  unfolding number_each with_next
  each_in [] b h = h
  each_in (p ∷ ps) b h =
      either (not (has_room at.sn at.quota b.sender)) (nothing b) (begins then number_each way at ps) h
      (then_in begins (number_each way at ps) (by (nat_lt last_count b.sender.next) refl) (each_in ps))
    where
      begins : Answer M P CuUpBearer
      begins = if nat_lt last_count b.sender.next then spent counts_spent
          else sent way at b.sender.next p (Own b.sender.next) (record b { sender = with_next b.sender p; waiting = ps })

      by : (t : Bool) → nat_lt last_count b.sender.next ≡ t → InHere (if t then spent counts_spent
          else sent way at b.sender.next p (Own b.sender.next) (record b { sender = with_next b.sender p; waiting = ps }))
      by true e = tt
      by false e =
          sent_in b.sender.next p (Own b.sender.next) (record b { sender = with_next b.sender p; waiting = ps }) (not_above last_count b.sender.next e, h.1)

  waiting_in : (b : CuUpBearer) → CountsInRange b → InHere (number_waiting way at b)
  unfolding number_waiting
  waiting_in b h =
      either (at.flags.frozen || at.flags.released || not (has_downlink b.downlink)) (nothing b) (number_each way at b.waiting b) h (each_in b.waiting b h)

  passed_in : (p : List ℕ) (b : CuUpBearer) → CountsInRange b → InHere (forwarded_down way at Absent (fresh p) b)
  unfolding forwarded_down
  passed_in p b h = by b.hop
    where
      by : (o : Option SourceHop) → InHere (put_down way at Absent (fresh p) b o)
      by None = h
      by (Some hop) = h

  pub fresh_in : (p : List ℕ) (b : CuUpBearer) → CountsInRange b → InHere (took_fresh way at p b)
  unfolding took_fresh
  fresh_in p b h =
      either at.flags.released (forwarded_down way at Absent (fresh p) b)
      (if at.flags.frozen then forwarded_down way at Absent (fresh p) waits else number_waiting way at waits) (passed_in p b h)
      (either at.flags.frozen (forwarded_down way at Absent (fresh p) waits) (number_waiting way at waits) (passed_in p waits h) (waiting_in waits h))
    where
      waits : CuUpBearer
      waits = record b { waiting = b.waiting ++ p ∷ [] }

  lost_in : (lost : List (ℕ × ℕ)) (b : CuUpBearer) → CountsInRange b → InHere (lost_frames way at lost b)
  lost_in [] b h = h
  lost_in (range ∷ ranges) b h =
      either at.flags.frozen (nothing (record b { restart = true; loss_while_frozen = true })) (sent_again way at b.sender.unconfirmed (record b { restart = true })) h
      (sent_again_in b.sender.unconfirmed (record b { restart = true }) h)

  pub status_in : (lost : List (ℕ × ℕ)) (delivered : Option ℕ) (b : CuUpBearer) → CountsInRange b → InHere (took_delivery_status way at lost delivered b)
  unfolding took_delivery_status confirmed_to
  status_in lost None b h = then_in (lost_frames way at lost b) (number_waiting way at) (lost_in lost b h) waiting_in
  status_in lost (Some count) b h =
      let known : CuUpBearer = record b { sender = confirmed_to b.sender count } in
      then_in (lost_frames way at lost known) (number_waiting way at) (lost_in lost known h) waiting_in
