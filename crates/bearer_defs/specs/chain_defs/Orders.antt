-- What happens to the downlink of one bearer, in small orders: a row of a unit is a list of them.
use Rattle.std.specs.Prelude.{◌==◌, ℕ, ◌+◌, Bool, true, false, ◌||◌, if◌then◌else◌, List, [], ◌∷◌, ◌++◌, map, Some, None}
use Rattle.gnb_types.specs.declared.plans.SnStatus.{SnStatus}
use Rattle.pdcp_defs.specs.Senders.{numbered as with_next, restored, confirmed_to, confirmed_by}
use Rattle.pdcp_defs.specs.Receivers.{Delivery, is_duplicate, stored, deliver}
use Rattle.unit_defs.specs.CuUpRecords.{DownlinkTunnel, SourceHop, CuUpBearer}
use Rattle.unit_defs.specs.CuUpBearers.{owed, released, thawed}
use Rattle.bearer_defs.specs.chain_defs.Models.{Item, numbered, fresh, end_marker, Member, Model, set, new_member, no_member}

-- Each names the context where it happens; what is taken from a tunnel, and what is left there.
pub data ModelStep : Type 0 where
  -- the core: a packet is offered; the path is switched
  offers : (packet : List ℕ) → ModelStep
  switches_path : (to : ℕ) → ModelStep
  -- control
  makes : (at : ℕ) (target : Bool) (teid : ℕ) → ModelStep
  freezes : (at to : ℕ) (hop : SourceHop) → ModelStep
  knows : (at : ℕ) (status : SnStatus) → ModelStep
  switches : (at : ℕ) (downlink : DownlinkTunnel) (epoch : ℕ) → ModelStep
  resumes : (at : ℕ) → ModelStep
  releases : (at : ℕ) → ModelStep
  closes : (at : ℕ) → ModelStep
  -- the terminal comes to another context; a radio fails
  arrives : (at : ℕ) → ModelStep
  fails : ModelStep
  -- a packet without a COUNT, of N3 or of forwarding, where it waits, and where it goes on
  keeps_n3 : (at : ℕ) (packet : List ℕ) (rest : List Item) → ModelStep
  keeps_fresh : (at : ℕ) (packet : List ℕ) (rest : List Item) → ModelStep
  passes_n3 : (at : ℕ) (packet : List ℕ) (rest : List Item) → ModelStep
  passes_fresh : (at : ℕ) (packet : List ℕ) (rest : List Item) → ModelStep
  -- one with a COUNT: where it is sent, where it goes on, and where it is a duplicate
  sends : (at count : ℕ) (packet : List ℕ) (rest : List Item) → ModelStep
  passes_numbered : (at count : ℕ) (packet : List ℕ) (rest : List Item) → ModelStep
  drops : (at count : ℕ) (packet : List ℕ) (rest : List Item) → ModelStep
  -- the two End Markers
  ends_n3 : (at : ℕ) (rest : List Item) → ModelStep
  ends_hop : (at : ℕ) (rest : List Item) → ModelStep
  -- the sender: a packet that waits gets its COUNT, COUNTs are confirmed, a loss is told, all is sent again
  numbers : (at : ℕ) (packet : List ℕ) (rest : List (List ℕ)) → ModelStep
  confirms : (at count : ℕ) → ModelStep
  reports : (at fmc : ℕ) (bits : List Bool) → ModelStep
  reports_loss : (at : ℕ) → ModelStep
  sends_again : (at : ℕ) → ModelStep
  -- the terminal takes the next item of its radio
  carries : (count : ℕ) (packet : List ℕ) (rest : List (ℕ × List ℕ)) → ModelStep

-- ---- what happens to a bearer

abbrev pub waits : CuUpBearer → List ℕ → CuUpBearer
waits b packet = record b { waiting = b.waiting ++ packet ∷ [] }

-- a released context keeps no packet
abbrev pub waits_unless : Bool → CuUpBearer → List ℕ → CuUpBearer
waits_unless is_released b packet = record b { waiting = if is_released then b.waiting else (waits b packet).waiting }

abbrev pub holds : CuUpBearer → ℕ → List ℕ → CuUpBearer
holds b count packet = record b { sender = restored b.sender count packet }

abbrev pub takes_unless : Bool → CuUpBearer → ℕ → List ℕ → CuUpBearer
takes_unless is_released b count packet = record b {
  sender = record b.sender { unconfirmed = if is_released then b.sender.unconfirmed else (restored b.sender count packet).unconfirmed };
  taken_while_frozen = if is_released then b.taken_while_frozen else b.taken_while_frozen ++ count ∷ [];
}

abbrev pub frozen : CuUpBearer → SourceHop → CuUpBearer
frozen b hop = record b { hop = Some hop; loss_while_frozen = false; taken_while_frozen = [] }

abbrev pub forwards : CuUpBearer → List Item
forwards b = map (λ e. numbered e.0 e.1) b.sender.unconfirmed ++ map (λ packet. fresh packet) b.waiting

abbrev pub known : CuUpBearer → SnStatus → CuUpBearer
known b s = record b {
  dl_next = s.dl_next;
  sender = record b.sender { next = s.dl_next };
  receiver = record b.receiver { deliv = s.ul_first };
}

abbrev pub on_downlink : CuUpBearer → DownlinkTunnel → CuUpBearer
on_downlink b downlink = record (thawed b) { downlink = Some downlink }

-- ---- and to the model

abbrev pub changed : Model → ℕ → Member → Model
changed s x m = record s { members = set s.members x m }

-- at the end of a forwarding tunnel
abbrev pub put_on : Model → ℕ → List Item → Model
put_on s x items = changed s x (record (s.members x) { forwarded = (s.members x).forwarded ++ items })

-- to where its hop leads
abbrev pub passed : Model → ℕ → Member → List Item → Model
passed s x m items = put_on (changed s x m) m.next_hop items

-- a frame reaches the radio if the downlink was switched for that one; other frames reach nobody
abbrev pub sent : Model → Member → List (ℕ × List ℕ) → Model
sent s m items = record s { air = if m.epoch == s.epoch then s.air ++ items else s.air }

abbrev pub handed : Model → Bool → Delivery (List ℕ) → Model
handed s is_known d = if is_known then s else record s { terminal = d.after; delivered = s.delivered ++ d.packets }

unfoldable pub after : Model → ModelStep → Model
after s (offers packet) =
    let m = s.members s.path in
    record (changed s s.path (record m { n3 = m.n3 ++ fresh packet ∷ [] })) { offered = s.offered + 1 }
after s (switches_path to) =
    let m = s.members s.path in
    record (changed s s.path (record m { n3 = m.n3 ++ end_marker ∷ [] })) { path = to }
after s (makes x target teid) = changed s x (new_member target teid)
after s (freezes x to hop) =
    let m = s.members x in
    let t = s.members to in
    changed (changed s x (record m { flags = record m.flags { frozen = true }; bearer = frozen m.bearer hop; next_hop = to }))
    to (record t { forwarded = t.forwarded ++ forwards m.bearer; promised = m.bearer.sender.next })
after s (knows x status) =
    let m = s.members x in
    changed s x (record m { flags = record m.flags { may_serve = true }; bearer = known m.bearer status })
after s (switches x downlink epoch) =
    let m = s.members x in
    let now : Member = record m
    { flags = record m.flags { frozen = false; arrived = true }; bearer = on_downlink m.bearer downlink; epoch = epoch } in
    sent (changed s x now) now (if m.flags.may_serve then m.bearer.sender.unconfirmed else [])
after s (resumes x) =
    let m = s.members x in
    sent (changed s x (record m { flags = record m.flags { frozen = false }; bearer = thawed m.bearer })) m (owed m.bearer)
after s (releases x) =
    let m = s.members x in
    changed s x (record m { flags = record m.flags { released = true }; bearer = released m.bearer })
after s (closes x) = changed s x no_member
after s (arrives x) = record s { station = x; epoch = s.epoch + 1; air = [] }
after s fails = record s { epoch = s.epoch + 1; air = [] }
after s (keeps_n3 x packet rest) =
    let m = s.members x in
    changed s x (record m { n3 = rest; bearer = waits m.bearer packet })
after s (keeps_fresh x packet rest) =
    let m = s.members x in
    changed s x (record m { forwarded = rest; bearer = waits m.bearer packet })
after s (passes_n3 x packet rest) =
    let m = s.members x in
    passed s x (record m { n3 = rest; bearer = waits_unless m.flags.released m.bearer packet }) (fresh packet ∷ [])
after s (passes_fresh x packet rest) =
    let m = s.members x in
    passed s x (record m { forwarded = rest; bearer = waits_unless m.flags.released m.bearer packet }) (fresh packet ∷ [])
after s (sends x count packet rest) =
    let m = s.members x in
    sent (changed s x (record m { forwarded = rest; bearer = holds m.bearer count packet })) m ((count, packet) ∷ [])
after s (passes_numbered x count packet rest) =
    let m = s.members x in
    passed s x (record m { forwarded = rest; bearer = takes_unless m.flags.released m.bearer count packet }) (numbered count packet ∷ [])
after s (drops x count packet rest) = changed s x (record (s.members x) { forwarded = rest })
after s (ends_n3 x rest) =
    let m = s.members x in
    passed s x (record m { n3 = rest; bearer = record m.bearer { n3 = None } }) (end_marker ∷ [])
after s (ends_hop x rest) =
    let m = s.members x in
    changed s x (record m { forwarded = rest; bearer = record m.bearer { down_ended = true } })
after s (numbers x packet rest) =
    let m = s.members x in
    sent (changed s x (record m { bearer = record m.bearer { sender = with_next m.bearer.sender packet; waiting = rest } })) m
    ((m.bearer.sender.next, packet) ∷ [])
after s (confirms x count) =
    let m = s.members x in
    changed s x (record m { bearer = record m.bearer { sender = confirmed_to m.bearer.sender count } })
after s (reports x fmc bits) =
    let m = s.members x in
    changed s x (record m { bearer = record m.bearer { sender = confirmed_by m.bearer.sender fmc bits } })
after s (reports_loss x) =
    let m = s.members x in
    changed s x (record m { bearer = record m.bearer { loss_while_frozen = m.flags.frozen || m.bearer.loss_while_frozen } })
after s (sends_again x) = sent s (s.members x) (s.members x).bearer.sender.unconfirmed
after s (carries count packet rest) =
    let t = s.terminal in
    handed (record s { air = rest }) (is_duplicate t count) (deliver (stored t count packet))

unfoldable pub run : Model → List ModelStep → Model
run s [] = s
run s (o ∷ os) = run (after s o) os

-- the packets that a list of orders offers
unfoldable pub offers_in : List ModelStep → List (List ℕ)
offers_in [] = []
offers_in (offers packet ∷ os) = packet ∷ offers_in os
offers_in (o ∷ os) = offers_in os
