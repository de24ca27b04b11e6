-- The hop of a CU-UP's context for a bearer: the downlink packets that it is to take, in order (TS 38.300, 9.2.3.2.3). For the first context
-- that serves the bearer these are the items of its N3 tunnel. A further one has what the one before put for it when it was frozen (the
-- numbered packets, and those that waited); what that one had not yet taken of its own hop then; and the items of its own N3 tunnel.
use Rattle.std.specs.Prelude.{ℕ, ◌≡◌, ◌==◌, ◌+◌, Bool, true, false, not, ◌&&◌, List, [], ◌∷◌, ◌++◌, drop, filter, length, Option, Some, None, is_some, slice_get, if◌then◌else◌, Any, ◌⊎◌}
use Rattle.std.specs.List.{flat_map, list_any}
use Rattle.std.specs.Ordering.{eq_by_cmp}
use Rattle.gnb_types.specs.declared.names.NodeId.{NodeId}
use Rattle.gnb_types.specs.declared.names.NodeId.TheVariants.{CuUp}
use Rattle.gnb_types.specs.declared.keys.EntityKey.{EntityKey}
use Rattle.gnb_types.specs.declared.plans.Peer.{Peer}
use Rattle.gnb_types.specs.declared.plans.Tunnel.{Tunnel}
use Rattle.gnb_types.specs.Orders.{node_cmp}
use Rattle.message_types.specs.declared.e1.E1Message.TheVariants as e1s
use Rattle.message_types.specs.declared.rrc.Token.{Token}
use Rattle.link_defs.specs.Layouts.{end_marker}
use Rattle.unit_defs.specs.Ways.{Message, e1}
use Rattle.unit_defs.specs.Messages.{mode_freeze, teid_of}
use Rattle.scenario_text.specs.declared.line.Link.{Link}
use Rattle.scenario_text.specs.declared.line.Link.TheVariants.{Tunnel as tunnel}
use Rattle.scenario_text.specs.declared.line.Item.{Item}
use Rattle.run_defs.specs.Lines.{RunLine, put_item, got_item, put_message, got_message}
use Rattle.run_defs.specs.States.{Lengths}
use Rattle.run_defs.specs.Said.{same_entity, same_link}
use Rattle.run_defs.specs.Carried.{Carries}
use Rattle.run_defs.specs.Local.{Act, item_key}

-- a context of the bearer at a CU-UP: the TEIDs of its N3 tunnel and, where a handover made it, of its forwarding tunnel down
pub record Leg : Type 0 where
  pub node : NodeId
  pub n3 : ℕ
  pub forwarding : Option ℕ

-- a packet of a hop, with its COUNT or without one
pub record HopItem : Type 0 where
  pub count : Option ℕ
  pub packet : List ℕ

-- the control messages and the acts of `Run`
abbrev pub PlainLine : Type 0
PlainLine = RunLine (Message Token)

abbrev pub PlainAct : Type 0
PlainAct = Act (Message Token)

abbrev pub lines_of_acts : List PlainAct → List PlainLine
lines_of_acts acts = flat_map (λ act. act.step.lines) acts

-- ---- the items of the bearer that lines put on a link, or take from it

abbrev pub put_on : EntityKey → Link → PlainLine → List Item
put_on key link (put_item other item) = if same_link link other && same_entity key (item_key item) then item ∷ [] else []
put_on key link line = []

abbrev pub got_from : EntityKey → Link → PlainLine → List Item
got_from key link (got_item other item) = if same_link link other && same_entity key (item_key item) then item ∷ [] else []
got_from key link line = []

abbrev pub puts_on : EntityKey → Link → List PlainLine → List Item
puts_on key link lines = flat_map (put_on key link) lines

abbrev pub gets_from : EntityKey → Link → List PlainLine → List Item
gets_from key link lines = flat_map (got_from key link) lines

-- the links of a leg
abbrev pub n3_of : Leg → Link
n3_of leg = tunnel leg.node leg.n3

abbrev pub forwarding_of : Leg → ℕ → Link
forwarding_of leg teid = tunnel leg.node teid

-- items say packets, in order; an End Marker says none
pub data Say (sn : Lengths) (link : Link) : List Item → List HopItem → Type 0 where
  say_none : Say sn link [] []
  say_end : (teid : ℕ) (item : Item) (items : List Item) (hop : List HopItem) → item.bytes ≡ end_marker teid → Say sn link items hop
      → Say sn link (item ∷ items) hop
  say_packet : (item : Item) (items : List Item) (packet : List ℕ) (hop : List HopItem) → Carries (sn item.ue) link item packet → Say sn link items hop
      → Say sn link (item ∷ items) (record { count = item.count; packet = packet } ∷ hop)

-- ---- what a CU-UP took of its hop so far: the items that it got from its forwarding tunnel, and then those of N3

pub data Took (sn : Lengths) (key : EntityKey) (acts : List PlainAct) : Leg → List HopItem → Type 0 where
  took_first : (node : NodeId) (n3 : ℕ) (own : List HopItem)
      → Say sn (tunnel node n3) (gets_from key (tunnel node n3) (lines_of_acts acts)) own
      → Took sn key acts (record { node = node; n3 = n3; forwarding = None }) own
  took_further : (node : NodeId) (n3 teid : ℕ) (forwarded own : List HopItem)
      → Say sn (tunnel node teid) (gets_from key (tunnel node teid) (lines_of_acts acts)) forwarded
      → Say sn (tunnel node n3) (gets_from key (tunnel node n3) (lines_of_acts acts)) own
      → Took sn key acts (record { node = node; n3 = n3; forwarding = Some teid }) (forwarded ++ own)

-- ---- the contexts that a CU-UP made so far: each is named by the response that gives its TEIDs. One that `static` made is not

abbrev pub teid_in : EntityKey → Option (List Tunnel) → Option ℕ
teid_in key None = None
teid_in key (Some tunnels) = Some (teid_of tunnels key.bearer)

abbrev pub legs_given : EntityKey → NodeId → Message Token → List Leg
legs_given key node (e1 (e1s.BearerContextSetupResponse ue instance uplinks n3 down up)) =
    if ue.0 == key.ue.0 then record { node = node; n3 = teid_of n3 key.bearer; forwarding = teid_in key down } ∷ [] else []
legs_given key node message = []

abbrev pub legs_in : EntityKey → NodeId → PlainLine → List Leg
legs_in key node (put_message number control_message) = if eq_by_cmp node_cmp control_message.from node then legs_given key node control_message.message else []
legs_in key node line = []

-- in the order in which they were made; a response that is repeated names its context again
abbrev pub legs_made : EntityKey → NodeId → List PlainAct → List Leg
legs_made key node acts = flat_map (legs_in key node) (lines_of_acts acts)

-- the newest context that a node made; where it named none, the one that `static` made there
abbrev pub last_leg : Option Leg → List Leg → Option Leg
last_leg leg [] = leg
last_leg leg (other ∷ others) = last_leg (Some other) others

abbrev pub IsNewest : EntityKey → List PlainAct → Leg → Type 0
IsNewest key acts leg =
    (last_leg None (legs_made key leg.node acts) ≡ Some leg) ⊎ ((legs_made key leg.node acts ≡ []) × (leg.forwarding ≡ None))

-- ---- a CU-UP is frozen for a forwarding tunnel of another one: it takes the request, and answers with its SN status

abbrev pub is_cu_up : Peer → NodeId → Bool
is_cu_up peer node = eq_by_cmp node_cmp (CuUp peer.gnb peer.up) node

abbrev pub names_tunnel : EntityKey → ℕ → Option (List Tunnel) → Bool
names_tunnel key teid None = false
names_tunnel key teid (Some tunnels) = teid_of tunnels key.bearer == teid

abbrev pub is_peer : Option Peer → NodeId → Bool
is_peer None node = false
is_peer (Some peer) node = is_cu_up peer node

abbrev pub asks_freeze : EntityKey → NodeId → ℕ → Message Token → Bool
asks_freeze key node teid (e1 (e1s.BearerContextModificationRequest ue instance downlinks mode peer down up statuses du)) =
    ue.0 == key.ue.0 && mode == mode_freeze && is_peer peer node && names_tunnel key teid down
asks_freeze key node teid message = false

abbrev pub has_statuses : Message Token → Bool
has_statuses (e1 (e1s.BearerContextModificationResponse ue instance uplinks statuses)) = is_some statuses
has_statuses message = false

abbrev pub takes_freeze : EntityKey → NodeId → ℕ → PlainLine → Bool
takes_freeze key node teid (got_message number control_message) = asks_freeze key node teid control_message.message
takes_freeze key node teid line = false

abbrev pub puts_statuses : PlainLine → Bool
puts_statuses (put_message number control_message) = has_statuses control_message.message
puts_statuses line = false

-- an act by which a node takes the request to freeze for another one's tunnel, and answers with its SN status; a request that is given
-- again is answered so again
abbrev pub AnswersFreeze : EntityKey → NodeId → Leg → ℕ → PlainAct → Type 0
AnswersFreeze key node leg teid act =
    (act.step.actor ≡ Some node) × (list_any (takes_freeze key leg.node teid) act.step.lines ≡ true)
    × (list_any puts_statuses act.step.lines ≡ true)

-- the act by which a context is frozen for another one's tunnel, after these acts: it is the first that answers so, the context is the
-- newest of its node then, and the other one was made
pub record IsFreeze (key : EntityKey) (earlier : List PlainAct) (before leg : Leg) (teid : ℕ) (act : PlainAct) : Type 0 where
  pub answers : AnswersFreeze key before.node leg teid act
  pub first : Any (AnswersFreeze key before.node leg teid) earlier → ⊥
  pub newest : IsNewest key earlier before
  pub made : Any (λ other. other ≡ leg) (legs_made key leg.node earlier)

-- the items of a list that show a COUNT, and those that don't
abbrev pub with_count : List Item → List Item
with_count items = filter (λ item. is_some item.count) items

abbrev pub without_count : List Item → List Item
without_count items = filter (λ item. not (is_some item.count)) items

-- ---- the hop of the last of the contexts that served a bearer; they stand with the last one first. One whose attempt was cancelled, or
-- whose terminal came back, is frozen for no other one, so it is never before another.

pub data IsHop (sn : Lengths) (key : EntityKey) (acts : List PlainAct) : List Leg → List HopItem → Type 0 where
  of_first : (leg : Leg) (own : List HopItem) → leg.forwarding ≡ None
      → Say sn (n3_of leg) (puts_on key (n3_of leg) (lines_of_acts acts)) own
      → IsHop sn key acts (leg ∷ []) own
  of_further : (leg before : Leg) (legs : List Leg) (teid : ℕ) (earlier later : List PlainAct) (freeze : PlainAct)
      (numbered waiting taken hop own : List HopItem)
      → leg.forwarding ≡ Some teid → acts ≡ earlier ++ freeze ∷ later → IsFreeze key earlier before leg teid freeze
      → Say sn (forwarding_of leg teid) (with_count (puts_on key (forwarding_of leg teid) freeze.step.lines)) numbered
      → Say sn (forwarding_of leg teid) (without_count (puts_on key (forwarding_of leg teid) freeze.step.lines)) waiting
      → IsHop sn key acts (before ∷ legs) hop → Took sn key earlier before taken
      → Say sn (n3_of leg) (puts_on key (n3_of leg) (lines_of_acts acts)) own
      → IsHop sn key acts (leg ∷ before ∷ legs) (numbered ++ waiting ++ drop (length taken) hop ++ own)

-- ---- what is said of hops: what a CU-UP took is a prefix of its hop; and in a hop packets with a COUNT are those of that place among what
-- was offered, while the others, in order, are those from the next COUNT of the SN status on

pub record IsPrefixOfHop (taken hop : List HopItem) : Type 0 where
  pub rest : List HopItem
  pub prefix : taken ++ rest ≡ hop

-- a packet is that of its COUNT, or, without one, that of the next place
abbrev pub place_in_hop : ℕ → Option ℕ → ℕ
place_in_hop next None = next
place_in_hop next (Some count) = count

abbrev pub next_after : ℕ → Option ℕ → ℕ
next_after next None = next + 1
next_after next (Some count) = next

abbrev pub ContinuesFrom : List (List ℕ) → ℕ → List HopItem → Type 0
ContinuesFrom offered next [] = Unit {0}
ContinuesFrom offered next (item ∷ items) =
    (slice_get offered (place_in_hop next item.count) ≡ Some item.packet) × ContinuesFrom offered (next_after next item.count) items
