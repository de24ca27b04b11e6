-- What a CU-UP does with an item of a tunnel: when it holds it, and what it does to the bearer. Packets down, packets up, and
-- what a context passes on that was frozen or released (TS 38.300, 9.2.3.2; TS 38.425, 5.4; TS 38.323, 5.2).
use Rattle.std.specs.Prelude.{◌==◌, ℕ, Bool, true, false, not, ◌&&◌, ◌||◌, nat_lt, nat_le, if◌then◌else◌, List, [], ◌∷◌, ◌++◌, length, filter, Option, Some, None}
use Rattle.gnb_types.specs.declared.reasons.DropReason.TheVariants.{Duplicate, Unexpected}
use Rattle.gnb_types.specs.declared.reasons.HeldReason.{HeldReason}
use Rattle.gnb_types.specs.declared.reasons.HeldReason.TheVariants.{Quota, Ahead, NoStatus, NotArrived, Early}
use Rattle.gnb_types.specs.declared.outputs.Tag.TheVariants.{Absent, Same}
use Rattle.pdcp_defs.specs.Senders.{may_restore, restored, confirmed_to, confirmed_by}
use Rattle.pdcp_defs.specs.Receivers.{is_duplicate, is_ahead, stored}
use Rattle.unit_defs.specs.Ways.{Content, packet_content, report_content, fresh, numbered, end_marker, Taken, fresh_item, numbered_item, uplink_item, status_item, end_item, closed, Way, Answer, ◌then◌, nothing, puts, drops}
use Rattle.unit_defs.specs.CuUpRecords.{SourceHop, CuUpBearer, CuUpFlags, TunnelKind, n3, f1u_uplink, forwarding_down, forwarding_up, CuUpScope}
use Rattle.unit_defs.specs.CuUpBearers.{used_downlink, sent, sent_again, number_waiting, deliver_stored, forwarded_down, forwarded_up, no_uplink}

-- ---- an item is held at the head of its tunnel, in this order

-- the tests with their reasons; the first that holds decides
abbrev pub first_held : List (Bool × HeldReason) → Option HeldReason
first_held [] = None
first_held (test ∷ tests) = if test.0 then Some test.1 else first_held tests

-- a target knows neither its COUNTs before the SN status, nor where to send before the terminal arrived; and its own N3 is
-- after what the source still forwards
abbrev pub is_n3 : TunnelKind → Bool
is_n3 n3 = true
is_n3 f1u_uplink = false
is_n3 forwarding_down = false
is_n3 forwarding_up = false

abbrev pub held_as_target : CuUpFlags → TunnelKind → CuUpBearer → List (Bool × HeldReason)
held_as_target flags kind b =
    (not flags.may_serve, NoStatus)
    ∷ (not flags.arrived, NotArrived)
    ∷ (is_n3 kind && flags.target && not b.down_ended, Early)
    ∷ []

-- A downlink packet needs a block of the quota. So does an uplink packet, and its COUNT must lie in the window of the quota;
-- one whose COUNT isn't found is dropped.
abbrev pub held_downlink : CuUpScope → CuUpBearer → List (Bool × HeldReason)
held_downlink at b = (nat_le at.quota (used_downlink b), Quota) ∷ []

abbrev pub is_ahead_if : CuUpScope → CuUpBearer → Option ℕ → Bool
is_ahead_if at b None = false
is_ahead_if at b (Some count) = is_ahead at.quota b.receiver count

abbrev pub held_uplink : CuUpScope → CuUpBearer → Option ℕ → List (Bool × HeldReason)
held_uplink at b count = (nat_le at.quota (length b.receiver.stored), Quota) ∷ (is_ahead_if at b count, Ahead) ∷ []

abbrev pub held_content : CuUpScope → CuUpBearer → Content → List (Bool × HeldReason)
held_content at b (packet_content count p) = held_uplink at b count
held_content at b (report_content fmc bits) = []

abbrev pub held_item : {P : Type 0} → CuUpScope → CuUpBearer → TunnelKind → Taken P → List (Bool × HeldReason)
held_item at b n3 (fresh_item p) = held_downlink at b
held_item at b forwarding_down (fresh_item p) = held_downlink at b
held_item at b forwarding_down (numbered_item count p) = held_downlink at b
held_item at b forwarding_up (numbered_item count p) = held_uplink at b count
held_item at b f1u_uplink (uplink_item content) = held_content at b content
held_item at b kind item = []

-- a released context keeps no packet, so it needs no room
abbrev pub held_by_room : {P : Type 0} → CuUpScope → CuUpBearer → TunnelKind → Taken P → List (Bool × HeldReason)
held_by_room at b kind item = if at.flags.released then [] else held_item at b kind item

unfoldable pub held_reason : {P : Type 0} → CuUpScope → CuUpBearer → TunnelKind → Taken P → Option HeldReason
held_reason at b kind item = first_held (held_as_target at.flags kind b ++ held_by_room at b kind item)

module _ {M C P : Type 0} (way : Way M C P) where
  -- ---- packets down

  -- a packet without a number: it waits, and is numbered; while frozen it goes on as well, and a released context passes it on
  unfoldable pub took_fresh : CuUpScope → List ℕ → CuUpBearer → Answer M P CuUpBearer
  took_fresh at p b =
      if at.flags.released then forwarded_down way at Absent (fresh p) b else
      (let waits : CuUpBearer = record b { waiting = b.waiting ++ p ∷ [] } in
      if at.flags.frozen then forwarded_down way at Absent (fresh p) waits else number_waiting way at waits)

  -- the End Marker of N3 goes on to the forwarding tunnel, and closes N3
  abbrev pub closed_n3 : CuUpBearer → Option ℕ → Answer M P CuUpBearer
  closed_n3 b None = nothing b
  closed_n3 b (Some teid) = puts (closed teid) (record b { n3 = None })

  abbrev pub n3_ended : CuUpScope → CuUpBearer → Option SourceHop → Answer M P CuUpBearer
  n3_ended at b None = drops Unexpected b
  n3_ended at b (Some hop) = forwarded_down way at Absent end_marker b then (λ c. closed_n3 c c.n3)

  -- a packet with a number: a released context passes it on; else it is held as unconfirmed, and sent, or passed on while
  -- frozen. It is a duplicate where its COUNT isn't found, lies outside the window, or isn't above all that is held.
  abbrev pub restored_at : CuUpScope → ℕ → List ℕ → CuUpBearer → Answer M P CuUpBearer
  restored_at at count p b =
      let holds : CuUpBearer = record b { sender = restored b.sender count p } in
      if at.flags.frozen
      then forwarded_down way at Same (numbered at.sn count p) (record holds { taken_while_frozen = b.taken_while_frozen ++ count ∷ [] })
      else sent way at count p Same holds

  unfoldable pub took_numbered : CuUpScope → Option ℕ → List ℕ → CuUpBearer → Answer M P CuUpBearer
  took_numbered at None p b = drops Duplicate b
  took_numbered at (Some count) p b =
      if at.flags.released then forwarded_down way at Same (numbered at.sn count p) b else
      (if may_restore at.sn at.quota b.sender count then restored_at at count p b else drops Duplicate b)

  -- the End Marker of the hop from the source
  abbrev pub down_ended : CuUpBearer → Answer M P CuUpBearer
  down_ended b = if b.down_ended then drops Unexpected b else nothing (record b { down_ended = true })

  -- ---- packets up

  -- stored, and delivered in order; while frozen it goes to the target as well. A released context passes on what was not
  -- delivered before.
  abbrev pub stored_at : CuUpScope → ℕ → List ℕ → CuUpBearer → Answer M P CuUpBearer
  stored_at at count p b =
      let stores : CuUpBearer = record b { receiver = stored b.receiver count p } in
      if at.flags.frozen then forwarded_up way at Same (numbered at.sn count p) stores else deliver_stored way at stores

  abbrev pub passed_up : CuUpScope → ℕ → List ℕ → CuUpBearer → Answer M P CuUpBearer
  passed_up at count p b = if nat_lt count b.receiver.deliv then drops Duplicate b else forwarded_up way at Same (numbered at.sn count p) b

  unfoldable pub took_uplink : CuUpScope → Option ℕ → List ℕ → CuUpBearer → Answer M P CuUpBearer
  took_uplink at None p b = drops Duplicate b
  took_uplink at (Some count) p b =
      if at.flags.released then passed_up at count p b else
      (if is_duplicate b.receiver count then drops Duplicate b else stored_at at count p b)

  -- a status report confirms, and makes room for what waits
  unfoldable pub took_report : CuUpScope → ℕ → List Bool → CuUpBearer → Answer M P CuUpBearer
  took_report at fmc bits b = number_waiting way at (record b { sender = confirmed_by b.sender fmc bits })

  abbrev pub took_content : CuUpScope → Content → CuUpBearer → Answer M P CuUpBearer
  took_content at (packet_content count p) b = took_uplink at count p b
  took_content at (report_content fmc bits) b = took_report at fmc bits b

  -- A delivery status confirms all up to its number. Where it reports lost frames, all that nothing confirmed is sent again, the
  -- first with the restart mark; a frozen context does so when it is resumed.
  abbrev pub confirmed_if : Option ℕ → CuUpBearer → CuUpBearer
  confirmed_if None b = b
  confirmed_if (Some count) b = record b { sender = confirmed_to b.sender count }

  abbrev pub lost_frames : CuUpScope → List (ℕ × ℕ) → CuUpBearer → Answer M P CuUpBearer
  lost_frames at [] b = nothing b
  lost_frames at (range ∷ ranges) b =
      if at.flags.frozen then nothing (record b { restart = true; loss_while_frozen = true })
      else sent_again way at b.sender.unconfirmed (record b { restart = true })

  unfoldable pub took_delivery_status : CuUpScope → List (ℕ × ℕ) → Option ℕ → CuUpBearer → Answer M P CuUpBearer
  took_delivery_status at lost delivered b = lost_frames at lost (confirmed_if delivered b) then number_waiting way at

  -- An uplink's End Marker closes it. Where all uplinks of a frozen bearer are closed, and its own hop up has ended, the End
  -- Marker of the hop to the target is put.
  abbrev pub up_hop_ends : CuUpScope → CuUpBearer → SourceHop → Answer M P CuUpBearer
  up_hop_ends at b hop =
      if not hop.up_ended && no_uplink b.uplinks && (not at.flags.target || b.up_ended)
      then forwarded_up way at Absent end_marker (record b { hop = Some (record hop { up_ended = true }) })
      else nothing b

  abbrev pub up_hop_ends_if : CuUpScope → Option SourceHop → CuUpBearer → Answer M P CuUpBearer
  up_hop_ends_if at None b = nothing b
  up_hop_ends_if at (Some hop) b = up_hop_ends at b hop

  unfoldable pub uplink_ended : CuUpScope → ℕ → CuUpBearer → Answer M P CuUpBearer
  uplink_ended at teid b =
      puts (closed teid) (record b { uplinks = filter (λ t. not (t == teid)) b.uplinks }) then (λ c. up_hop_ends_if at c.hop c)

  unfoldable pub up_ended : CuUpScope → CuUpBearer → Answer M P CuUpBearer
  up_ended at b = if b.up_ended then drops Unexpected b else up_hop_ends_if at b.hop (record b { up_ended = true })

  -- ---- an item that isn't held, by the kind of its tunnel

  unfoldable pub took : CuUpScope → TunnelKind → ℕ → Taken P → CuUpBearer → Answer M P CuUpBearer
  took at n3 teid (fresh_item p) b = took_fresh at p b
  took at n3 teid end_item b = n3_ended at b b.hop
  took at forwarding_down teid (fresh_item p) b = took_fresh at p b
  took at forwarding_down teid (numbered_item count p) b = took_numbered at count p b
  took at forwarding_down teid end_item b = down_ended b
  took at f1u_uplink teid (uplink_item content) b = took_content at content b
  took at f1u_uplink teid (status_item lost delivered) b = took_delivery_status at lost delivered b
  took at f1u_uplink teid end_item b = uplink_ended at teid b
  took at forwarding_up teid (numbered_item count p) b = took_uplink at count p b
  took at forwarding_up teid end_item b = up_ended at b
  took at kind teid item b = drops Unexpected b
