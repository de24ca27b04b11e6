-- The downlink of one bearer in a run: its part of each context, the tunnels that end there, its radio and its terminal (TS
-- 38.300, 9.2.3.2; TS 38.323, 5.2). Contexts are numbered, each once in a run.
use Rattle.std.specs.Prelude.{◌==◌, ℕ, Bool, true, false, not, ◌&&◌, if◌then◌else◌, List, [], Option, Some, None}
use Rattle.pdcp_defs.specs.Receivers.{Receiver, new_receiver}
use Rattle.unit_defs.specs.CuUpRecords.{CuUpBearer, CuUpFlags}
use Rattle.unit_defs.specs.CuUpBearers.{made}
use Rattle.unit_defs.specs.CuUp.{new_flags_of}

-- what stands on N3 or a forwarding tunnel: a packet with its COUNT, one without, an End Marker
pub data Item : Type 0 where
  numbered : (count : ℕ) (packet : List ℕ) → Item
  fresh : (packet : List ℕ) → Item
  end_marker : Item

-- This bearer in one context of a CU-UP. What the bearer is of it is the model's record, but for NR-U: the number of the next
-- frame and the restart mark say nothing here.
pub record Member : Type 0 where
  pub is_there : Bool
  pub flags : CuUpFlags
  pub bearer : CuUpBearer
  -- the two tunnels down that end here
  pub n3 : List Item
  pub forwarded : List Item
  -- while frozen: the context that its hop leads to
  pub next_hop : ℕ
  -- of the radio that its downlink was switched for
  pub epoch : ℕ
  -- before its SN status: the COUNT that this will say, which was the next one of its source at the freeze
  pub promised : ℕ

pub record Model : Type 0 where
  pub members : ℕ → Member
  -- the context whose N3 tunnel the core sends to; and the one that the terminal is at
  pub path : ℕ
  pub station : ℕ
  -- the radio: each arrival, and each loss, begins another
  pub epoch : ℕ
  pub air : List (ℕ × List ℕ)
  pub terminal : Receiver (List ℕ)
  pub delivered : List (ℕ × List ℕ)
  -- how many packets were offered
  pub offered : ℕ

-- a function with one value changed
abbrev pub set : {X : Type 0} → (ℕ → X) → ℕ → X → ℕ → X
set f k x q = if q == k then x else f q

abbrev pub is_open : Option ℕ → Bool
is_open None = false
is_open (Some teid) = true

-- the source may still send: the hop from it has not ended
abbrev pub is_fed : Member → Bool
is_fed m = m.flags.target && not m.bearer.down_ended

abbrev pub new_member : Bool → ℕ → Member
new_member target first = record {
  is_there = true;
  flags = new_flags_of target;
  bearer = made target first;
  n3 = [];
  forwarded = [];
  next_hop = 0;
  epoch = 0;
  promised = 0;
}

abbrev pub no_member : Member
no_member = record (new_member false 0) { is_there = false }

-- the terminal is at one context, which no handover made
unfoldable pub initial : ℕ → ℕ → Model
initial first teid = record {
  members = set (λ q. no_member) first (new_member false teid);
  path = first;
  station = first;
  epoch = 0;
  air = [];
  terminal = new_receiver 0;
  delivered = [];
  offered = 0;
}
