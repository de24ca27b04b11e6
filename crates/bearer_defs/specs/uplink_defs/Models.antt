-- The uplink of one bearer in a run: its part of the terminal and its radio, its part of each context, and the tunnels up that end
-- there (TS 38.300, 9.2.3.2; TS 38.323, 5.2). Contexts are numbered, each once in a run.
use Rattle.std.specs.Prelude.{ℕ, Bool, true, false, List, []}
use Rattle.unit_defs.specs.CuUpRecords.{CuUpBearer, CuUpFlags}
use Rattle.unit_defs.specs.CuUpBearers.{made}
use Rattle.unit_defs.specs.CuUp.{new_flags_of}
use Rattle.unit_defs.specs.Ue.{UeBearer, new_bearer}
use Rattle.bearer_defs.specs.chain_defs.Models.{set}

-- What stands on an uplink tunnel or on one of forwarding up: a packet with its COUNT, or an End Marker. Reports and delivery
-- statuses say nothing here.
pub data Item : Type 0 where
  numbered : (count : ℕ) (packet : List ℕ) → Item
  end_marker : Item

-- where a CU-UP takes an item from: an uplink tunnel, by its TEID, or the tunnel by which the source forwards
pub data Source : Type 0 where
  uplink_tunnel : (teid : ℕ) → Source
  forwarding : Source

-- This bearer in one context of a CU-UP. What the bearer is of it is the model's record; of that the downlink says nothing here.
pub record Member : Type 0 where
  pub is_there : Bool
  pub flags : CuUpFlags
  pub bearer : CuUpBearer
  -- the tunnels up that end here
  pub uplink : ℕ → List Item
  pub forwarded : List Item
  -- while frozen: the context that its hop leads to
  pub next_hop : ℕ
  -- before its SN status: the RX_DELIV that this will say, which was that of its source at the freeze
  pub promised : ℕ

pub record Model : Type 0 where
  pub members : ℕ → Member
  -- the context that the terminal is at
  pub station : ℕ
  pub terminal : UeBearer
  pub connected : Bool
  -- the radio up: what the DU has not taken, and the COUNTs that it took and the terminal doesn't know of; each arrival, and each
  -- loss, begins another
  pub air : List (ℕ × List ℕ)
  pub carried : List ℕ
  -- all COUNTs below this were carried up, on this radio or another
  pub reached : ℕ
  pub delivered : List (ℕ × List ℕ)
  -- how many packets were offered
  pub offered : ℕ

abbrev pub new_member : Bool → ℕ → Member
new_member target first = record {
  is_there = true;
  flags = new_flags_of target;
  bearer = made target first;
  uplink = λ teid. [];
  forwarded = [];
  next_hop = 0;
  promised = 0;
}

abbrev pub no_member : Member
no_member = record (new_member false 0) { is_there = false }

-- the terminal is at one context, which no handover made
unfoldable pub initial : ℕ → ℕ → Model
initial first teid = record {
  members = set (λ q. no_member) first (new_member false teid);
  station = first;
  terminal = new_bearer;
  connected = true;
  air = [];
  carried = [];
  reached = 0;
  delivered = [];
  offered = 0;
}

-- what stands where an item is taken from
abbrev pub standing : (ℕ → List Item) → List Item → Source → List Item
standing uplink forwarded (uplink_tunnel teid) = uplink teid
standing uplink forwarded forwarding = forwarded

abbrev pub items_at : Member → Source → List Item
items_at m from = standing m.uplink m.forwarded from

-- and is left there
abbrev pub uplink_left : (ℕ → List Item) → Source → List Item → ℕ → List Item
uplink_left uplink (uplink_tunnel teid) rest = set uplink teid rest
uplink_left uplink forwarding rest = uplink

abbrev pub forwarded_left : List Item → Source → List Item → List Item
forwarded_left forwarded (uplink_tunnel teid) rest = forwarded
forwarded_left forwarded forwarding rest = rest

abbrev pub with_rest : Member → Source → List Item → Member
with_rest m from rest = record m { uplink = uplink_left m.uplink from rest; forwarded = forwarded_left m.forwarded from rest }
