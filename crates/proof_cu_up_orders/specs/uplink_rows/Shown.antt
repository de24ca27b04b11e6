-- What a row gives to the uplink of its bearer: items for the next context, packets that are delivered, and the bearer.
use Rattle.std.specs.Prelude.{◌≡◌, ◌==◌, ℕ, not, List, [], ◌∷◌, ◌++◌, filter, ⊤}
use Rattle.gnb_types.specs.declared.names.Dir.TheVariants.{Ul}
use Rattle.unit_defs.specs.Ways.{Load, Output, packet, deliver, Answer, gives, spent}
use Rattle.unit_defs.specs.Ways as ways
use Rattle.unit_defs.specs.CuUpRecords.{CuUpBearer}
use Rattle.bearer_defs.specs.uplink_defs.Models.{Item, numbered, end_marker}

-- what goes up to the next context, in order
abbrev pub item_of : {P : Type 0} → Load P → List Item
item_of (ways.numbered sn count p) = numbered count p ∷ []
item_of ways.end_marker = end_marker ∷ []
item_of load = []

unfoldable pub items_of : {M P : Type 0} → List (Output M P) → List Item
items_of [] = []
items_of (packet to teid ue bearer Ul tag load ∷ outputs) = item_of load ++ items_of outputs
items_of (output ∷ outputs) = items_of outputs

-- the uplink packets that are delivered, in order
unfoldable pub delivered_in : {M P : Type 0} → List (Output M P) → List (ℕ × List ℕ)
delivered_in [] = []
delivered_in (deliver ue bearer Ul count p ∷ outputs) = (count, p) ∷ delivered_in outputs
delivered_in (output ∷ outputs) = delivered_in outputs

-- these items and packets, and this bearer; or a counter is spent
unfoldable pub Gives : {M P : Type 0} → List Item → List (ℕ × List ℕ) → CuUpBearer → Answer M P CuUpBearer → Type 0
Gives items packets after (gives outputs b) = (items_of outputs ≡ items) × (delivered_in outputs ≡ packets) × (b ≡ after)
Gives items packets after (spent counter) = ⊤

-- without an uplink tunnel
abbrev pub closed_at : CuUpBearer → ℕ → CuUpBearer
closed_at b teid = record b { uplinks = filter (λ t. not (t == teid)) b.uplinks }
