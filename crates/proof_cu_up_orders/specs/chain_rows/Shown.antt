-- What a row gives to the downlink of its bearer: items for the next context, PDUs for the radio, and the bearer.
use Rattle.std.specs.Prelude.{◌≡◌, ◌≢◌, ◌==◌, ℕ, if◌then◌else◌, Bool, true, false, List, [], ◌∷◌, ◌++◌, map, Option, Some, None, ⊤}
use Rattle.gnb_types.specs.declared.names.SnBits.{SnBits}
use Rattle.gnb_types.specs.declared.names.Dir.TheVariants.{Dl, Ul}
use Rattle.pdcp_defs.specs.Senders.{Sender, numbered as with_next, has_room}
use Rattle.unit_defs.specs.Ways.{Pdu, packet_pdu, Load, frame, Output, packet, Way, Answer, gives, spent}
use Rattle.unit_defs.specs.Ways as ways
use Rattle.unit_defs.specs.CuUpRecords.{CuUpBearer, DownlinkTunnel}
use Rattle.bearer_defs.specs.chain_defs.Models.{Item, numbered, fresh, end_marker, Member, Model}
use Rattle.bearer_defs.specs.chain_defs.Orders.{ModelStep, numbers}

-- what goes to the next context, in order
abbrev pub item_of : {P : Type 0} → Load P → List Item
item_of (ways.numbered sn count p) = numbered count p ∷ []
item_of (ways.fresh p) = fresh p ∷ []
item_of ways.end_marker = end_marker ∷ []
item_of load = []

unfoldable pub items_of : {M P : Type 0} → List (Output M P) → List Item
items_of [] = []
items_of (packet to teid ue bearer Dl tag load ∷ outputs) = item_of load ++ items_of outputs
items_of (output ∷ outputs) = items_of outputs

-- the PDUs that frames carry, in order
abbrev pub pdu_of : {P : Type 0} → Load P → List P
pdu_of (frame poll restart number (Some pdu)) = pdu ∷ []
pdu_of load = []

unfoldable pub pdus_of : {M P : Type 0} → List (Output M P) → List P
pdus_of [] = []
pdus_of (packet to teid ue bearer Dl tag load ∷ outputs) = pdu_of load ++ pdus_of outputs
pdus_of (output ∷ outputs) = pdus_of outputs

-- a bearer but for the number of its next frame and its restart mark
abbrev pub without_number : Option DownlinkTunnel → Option DownlinkTunnel
without_number None = None
without_number (Some d) = Some (record d { next = 0 })

abbrev pub plain : CuUpBearer → CuUpBearer
plain b = record b { downlink = without_number b.downlink; restart = false }

-- these items and PDUs, and this bearer; or a counter is spent
unfoldable pub Gives : {M C P : Type 0} → Way M C P → SnBits → List Item → List Pdu → CuUpBearer → Answer M P CuUpBearer → Type 0
Gives way sn items pdus after (gives outputs b) =
    (items_of outputs ≡ items) × (pdus_of outputs ≡ map (λ pdu. way.write sn pdu) pdus) × (plain b ≡ plain after)
Gives way sn items pdus after (spent counter) = ⊤

-- the order `numbers`, again and again while there is room: the sender, what still waits, and the PDUs
module _ (sn : SnBits) (quota : ℕ) where
  unfoldable pub numbers_all : List (List ℕ) → Sender (List ℕ) → Sender (List ℕ)
  numbers_all [] s = s
  numbers_all (p ∷ ps) s = if has_room sn quota s then numbers_all ps (with_next s p) else s

  unfoldable pub still_waits : List (List ℕ) → List (List ℕ) → Sender (List ℕ) → List (List ℕ)
  still_waits waiting [] s = waiting
  still_waits waiting (p ∷ ps) s = if has_room sn quota s then still_waits ps ps (with_next s p) else waiting

  unfoldable pub numbered_pdus : List (List ℕ) → Sender (List ℕ) → List Pdu
  numbered_pdus [] s = []
  numbered_pdus (p ∷ ps) s = if has_room sn quota s then packet_pdu s.next p ∷ numbered_pdus ps (with_next s p) else []

  -- the orders that do so, at this context; and the packets with their COUNTs
  unfoldable pub number_orders : ℕ → List (List ℕ) → Sender (List ℕ) → List ModelStep
  number_orders x [] s = []
  number_orders x (p ∷ ps) s = if has_room sn quota s then numbers x p ps ∷ number_orders x ps (with_next s p) else []

  unfoldable pub numbered_packets : List (List ℕ) → Sender (List ℕ) → List (ℕ × List ℕ)
  numbered_packets [] s = []
  numbered_packets (p ∷ ps) s = if has_room sn quota s then (s.next, p) ∷ numbered_packets ps (with_next s p) else []

-- the model after these orders: this context has this bearer, all others are as before, and these went to the radio
pub record Became (s t : Model) (x : ℕ) (m : Member) (sent : List (ℕ × List ℕ)) : Type 0 where
  pub here : t.members x ≡ m
  pub others : (q : ℕ) → q ≢ x → t.members q ≡ s.members q
  pub air : t.air ≡ (if m.epoch == s.epoch then s.air ++ sent else s.air)
  pub epoch : t.epoch ≡ s.epoch
  pub rest : (t.path ≡ s.path) × (t.station ≡ s.station) × (t.offered ≡ s.offered) × (t.terminal ≡ s.terminal) × (t.delivered ≡ s.delivered)
