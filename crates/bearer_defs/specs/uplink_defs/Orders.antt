-- What happens to the uplink of one bearer, in small orders: a row of a unit is a list of them.
use Rattle.std.specs.Prelude.{◌==◌, ℕ, ◌+◌, max, Bool, true, false, not, ◌&&◌, ◌||◌, nat_lt, List, [], ◌∷◌, ◌++◌, map, filter, Option, Some, None}
use Rattle.gnb_types.specs.declared.plans.SnStatus.{SnStatus}
use Rattle.pdcp_defs.specs.Senders.{numbered as with_next, confirmed_to, confirmed_by}
use Rattle.pdcp_defs.specs.Receivers.{Delivery, is_duplicate, stored, deliver}
use Rattle.unit_defs.specs.CuUpRecords.{SourceHop, CuUpBearer, CuUpFlags}
use Rattle.unit_defs.specs.CuUpBearers.{released, thawed, no_uplink}
use Rattle.bearer_defs.specs.chain_defs.Models.{set}
use Rattle.bearer_defs.specs.chain_defs.Orders.{frozen, known}
use Rattle.bearer_defs.specs.uplink_defs.Models.{Item, numbered, end_marker, Source, uplink_tunnel, forwarding, Member, Model, new_member, no_member, with_rest}

-- Each names the context where it happens; what is taken from a tunnel, and what is left there.
pub data ModelStep : Type 0 where
  -- the terminal: a packet is offered, one that waits gets its COUNT, it connects and sends again what nothing confirmed, it leaves
  -- its radio or loses it, it comes to another context
  offers : (packet : List ℕ) → ModelStep
  numbers : (packet : List ℕ) (rest : List (List ℕ)) → ModelStep
  connects : ModelStep
  leaves : ModelStep
  arrives : (at : ℕ) → ModelStep
  -- the DU passes on what it carries, with which uplink tunnel; the terminal learns of it; a status report comes; an End Marker on
  -- a tunnel that the DU no longer uses
  carries : (teid count : ℕ) (packet : List ℕ) (rest : List (ℕ × List ℕ)) → ModelStep
  acknowledges : (count : ℕ) (rest : List ℕ) → ModelStep
  reports : (fmc : ℕ) (bits : List Bool) → ModelStep
  marks : (at teid : ℕ) → ModelStep
  -- control; a context is made, as a target; it closes where nothing comes any more, or is discarded
  makes : (at teid : ℕ) → ModelStep
  adds : (at teid : ℕ) → ModelStep
  freezes : (at to : ℕ) (hop : SourceHop) → ModelStep
  knows : (at : ℕ) (status : SnStatus) → ModelStep
  switches : (at : ℕ) → ModelStep
  resumes : (at : ℕ) → ModelStep
  releases : (at : ℕ) → ModelStep
  closes : (at : ℕ) → ModelStep
  discards : (at : ℕ) → ModelStep
  -- a CU-UP takes a packet, and the End Marker of an uplink tunnel and of the hop
  takes : (at : ℕ) (from : Source) (count : ℕ) (packet : List ℕ) (rest : List Item) → ModelStep
  ends_uplink : (at teid : ℕ) (rest : List Item) → ModelStep
  ends_hop : (at : ℕ) (rest : List Item) → ModelStep

-- ---- what happens to a bearer

-- what is stored goes to the target
abbrev pub late : CuUpBearer → List Item
late b = map (λ e. numbered e.0 e.1) b.receiver.stored

-- nothing comes any more of the hop from the source
abbrev pub is_hop_up_done : CuUpFlags → CuUpBearer → Bool
is_hop_up_done flags b = not flags.target || b.up_ended

abbrev pub stores : Member → ℕ → List ℕ → Member
stores m count packet = record m { bearer = record m.bearer { receiver = stored m.bearer.receiver count packet } }

abbrev pub without_uplink : Member → ℕ → Member
without_uplink m teid = record m { bearer = record m.bearer { uplinks = filter (λ t. not (t == teid)) m.bearer.uplinks } }

-- ---- and to the model

abbrev pub changed : Model → ℕ → Member → Model
changed s x m = record s { members = set s.members x m }

-- at the end of a forwarding tunnel
abbrev pub put_on : Model → ℕ → List Item → Model
put_on s x items = changed s x (record (s.members x) { forwarded = (s.members x).forwarded ++ items })

-- to where its hop leads
abbrev pub passed : Model → ℕ → Member → List Item → Model
passed s x m items = put_on (changed s x m) m.next_hop items

-- what the receiver hands up is delivered
abbrev pub handed : Model → ℕ → Member → Delivery (List ℕ) → Model
handed s x m d = record (changed s x (record m { bearer = record m.bearer { receiver = d.after } })) { delivered = s.delivered ++ d.packets }

-- a packet that isn't a duplicate is stored, and goes on while frozen; else what is stored is delivered
abbrev pub stored_at : Model → ℕ → Member → ℕ → List ℕ → Bool → Model
stored_at s x m count packet true = passed s x (stores m count packet) (numbered count packet ∷ [])
stored_at s x m count packet false =
    handed s x m (deliver (stored m.bearer.receiver count packet))

abbrev pub new_at : Model → ℕ → Member → ℕ → List ℕ → Bool → Model
new_at s x m count packet true = changed s x m
new_at s x m count packet false = stored_at s x m count packet m.flags.frozen

-- a released context keeps no packet, and passes on what was not delivered before
abbrev pub late_at : Model → ℕ → Member → ℕ → List ℕ → Bool → Model
late_at s x m count packet true = changed s x m
late_at s x m count packet false = passed s x m (numbered count packet ∷ [])

abbrev pub taken_at : Model → ℕ → Member → ℕ → List ℕ → Bool → Model
taken_at s x m count packet true = late_at s x m count packet (nat_lt count m.bearer.receiver.deliv)
taken_at s x m count packet false = new_at s x m count packet (is_duplicate m.bearer.receiver count)

-- where all has ended that could still come, the End Marker goes on, once
abbrev pub is_up_over : Member → SourceHop → Bool
is_up_over m hop = not hop.up_ended && no_uplink m.bearer.uplinks && is_hop_up_done m.flags m.bearer

abbrev pub with_ended : Member → SourceHop → Member
with_ended m hop = record m { bearer = record m.bearer { hop = Some (record hop { up_ended = true }) } }

abbrev pub ended_if : Model → ℕ → Member → SourceHop → Bool → Model
ended_if s x m hop true = passed s x (with_ended m hop) (end_marker ∷ [])
ended_if s x m hop false = changed s x m

abbrev pub ended_at : Model → ℕ → Member → Option SourceHop → Model
ended_at s x m None = changed s x m
ended_at s x m (Some hop) = ended_if s x m hop (is_up_over m hop)

unfoldable pub after : Model → ModelStep → Model
after s (offers packet) =
    record s { terminal = record s.terminal { waiting = s.terminal.waiting ++ packet ∷ [] }; offered = s.offered + 1 }
after s (numbers packet rest) = record s {
  terminal = record s.terminal { sender = with_next s.terminal.sender packet; waiting = rest };
  air = s.air ++ (s.terminal.sender.next, packet) ∷ [];
}
after s connects = record s { connected = true; air = s.terminal.sender.unconfirmed; carried = [] }
after s leaves = record s { connected = false; air = []; carried = [] }
after s (arrives x) = record s { station = x; connected = false; air = []; carried = [] }
after s (carries teid count packet rest) =
    let m = s.members s.station in
    record (changed s s.station (record m { uplink = set m.uplink teid (m.uplink teid ++ numbered count packet ∷ []) })) {
      air = rest;
      carried = s.carried ++ count ∷ [];
      reached = max s.reached (count + 1);
    }
after s (acknowledges count rest) =
    record s { terminal = record s.terminal { sender = confirmed_to s.terminal.sender count }; carried = rest }
after s (reports fmc bits) = record s { terminal = record s.terminal { sender = confirmed_by s.terminal.sender fmc bits } }
after s (marks x teid) =
    let m = s.members x in
    changed s x (record m { uplink = set m.uplink teid (m.uplink teid ++ end_marker ∷ []) })
after s (makes x teid) = changed s x (new_member true teid)
after s (adds x teid) =
    let m = s.members x in
    changed s x (record m { bearer = record m.bearer { uplinks = m.bearer.uplinks ++ teid ∷ [] } })
after s (freezes x to hop) =
    let m = s.members x in
    let t = s.members to in
    changed (changed s to (record t { forwarded = t.forwarded ++ late m.bearer; promised = m.bearer.receiver.deliv }))
    x (record m {
      flags = record m.flags { frozen = true };
      bearer = frozen m.bearer (record hop { up_ended = false });
      next_hop = to;
    })
after s (knows x status) =
    let m = s.members x in
    changed s x (record m { flags = record m.flags { may_serve = true }; bearer = known m.bearer status })
after s (switches x) =
    let m = s.members x in
    handed s x (record m { flags = record m.flags { frozen = false; arrived = true }; bearer = thawed m.bearer }) (deliver m.bearer.receiver)
after s (resumes x) =
    let m = s.members x in
    handed s x (record m { flags = record m.flags { frozen = false }; bearer = thawed m.bearer }) (deliver m.bearer.receiver)
after s (releases x) =
    let m = s.members x in
    changed s x (record m { flags = record m.flags { released = true }; bearer = released m.bearer })
after s (closes x) = changed s x no_member
after s (discards x) = changed s x no_member
after s (takes x from count packet rest) =
    let m = with_rest (s.members x) from rest in
    taken_at s x m count packet m.flags.released
after s (ends_uplink x teid rest) =
    let m = without_uplink (with_rest (s.members x) (uplink_tunnel teid) rest) teid in
    ended_at s x m m.bearer.hop
after s (ends_hop x rest) =
    let m = with_rest (s.members x) forwarding rest in
    ended_at s x (record m { bearer = record m.bearer { up_ended = true } }) m.bearer.hop

unfoldable pub run : Model → List ModelStep → Model
run s [] = s
run s (o ∷ os) = run (after s o) os

-- the packets that a list of orders offers
unfoldable pub offers_in : List ModelStep → List (List ℕ)
offers_in [] = []
offers_in (offers packet ∷ os) = packet ∷ offers_in os
offers_in (o ∷ os) = offers_in os
