-- The links (TS 38.401, 6.1.2): every control message ever put, with those in flight; the open tunnels; the radios with what was
-- carried, and which of them are connected. Beside each item stands its COUNT, if it shows one. What stands on a link is a parameter.
use Rattle.std.specs.Prelude.{◌==◌, ℕ, ◌+◌, ◌-◌, Bool, false, not, ◌&&◌, if◌then◌else◌, List, [], ◌∷◌, ◌++◌, length, filter, count_by, min, Option, Some, None}
use Rattle.std.specs.List.{flat_map, list_any}
use Rattle.std.specs.Ordering.{nat_cmp, eq_by_cmp}
use Rattle.gnb_types.specs.declared.names.UeId.{UeId}
use Rattle.gnb_types.specs.declared.names.BearerId.{BearerId}
use Rattle.gnb_types.specs.declared.keys.TunnelEnd.{TunnelEnd}
use Rattle.gnb_types.specs.declared.keys.EntityKey.{EntityKey}
use Rattle.gnb_types.specs.Orders.{ue_cmp, entity_cmp}
use Rattle.tables.specs.Tables.{find, put, without}
use Rattle.transport_defs.specs.declared.ControlMessage.{ControlMessage}
use Rattle.transport_defs.specs.declared.Item.{Item}

-- ---- control messages: message n is the n-th put

pub record Bag (M : Type 0) : Type 0 where
  pub control_messages : List (ℕ × ControlMessage M)
  pub flight : List ℕ

abbrev pub no_control_messages : {M : Type 0} → Bag M
no_control_messages = record { control_messages = []; flight = [] }

-- how many may be put
abbrev pub most_control_messages : ℕ
most_control_messages = 1000000

unfoldable pub put_control_message : {M : Type 0} → Bag M → ControlMessage M → Bag M
put_control_message bag l =
    let number = length bag.control_messages + 1 in record { control_messages = bag.control_messages ++ (number, l) ∷ []; flight = bag.flight ++ number ∷ [] }

unfoldable pub control_message : {M : Type 0} → Bag M → ℕ → Option (ControlMessage M)
control_message bag number = find nat_cmp bag.control_messages number

-- it is no longer in flight
unfoldable pub landed : {M : Type 0} → Bag M → ℕ → Bag M
landed bag number = record bag { flight = filter (λ n. not (n == number)) bag.flight }

abbrev pub is_in : ℕ → List ℕ → Bool
is_in number numbers = list_any (λ n. n == number) numbers

abbrev pub is_of : {M : Type 0} → ℕ → Option (ControlMessage M) → Bool
is_of ue None = false
is_of ue (Some l) = l.ue == ue

unfoldable pub in_flight_of : {M : Type 0} → Bag M → ℕ → ℕ
in_flight_of bag ue = count_by (λ n. is_of ue (control_message bag n)) bag.flight

-- ---- radios: those of a bearer and direction, with how many of its items were carried and aren't confirmed

pub record Radio (P : Type 0) : Type 0 where
  pub items : List (Item P)
  pub carried : ℕ

abbrev pub silent : {P : Type 0} → Radio P
silent = record { items = []; carried = 0 }

-- what stands on a radio is lost; a radio on which nothing was ever put, or lost, has no entry
abbrev pub emptied : {P : Type 0} → List (EntityKey × Radio P) → EntityKey → List (EntityKey × Radio P)
emptied radios key = without entity_cmp radios key

-- the epoch in which the radios of a terminal are connected, if they are
abbrev pub is_epoch : Option ℕ → ℕ → Bool
is_epoch None epoch = false
is_epoch (Some connected) epoch = connected == epoch

abbrev pub connect : List (UeId × ℕ) → UeId → Option ℕ → List (UeId × ℕ)
connect connected ue None = without ue_cmp connected ue
connect connected ue (Some epoch) = put ue_cmp connected ue epoch

abbrev pub nth : {X : Type 0} → List X → ℕ → Option X
nth [] n = None
nth (x ∷ xs) n = if n == 0 then Some x else nth xs (n - 1)

-- ---- COUNTs that items of a bearer and direction show, on all links

abbrev pub count_in : Option ℕ → List ℕ
count_in None = []
count_in (Some count) = count ∷ []

abbrev pub counts_of : {X : Type 0} → EntityKey → Item X → List ℕ
counts_of key item = if eq_by_cmp entity_cmp item.key key then count_in item.count else []

abbrev pub tunnel_counts : {L : Type 0} → EntityKey → List (TunnelEnd × List (Item L)) → List ℕ
tunnel_counts key tunnels = flat_map (λ e. flat_map (counts_of key) e.1) tunnels

abbrev pub radio_counts : {P : Type 0} → EntityKey → List (EntityKey × Radio P) → List ℕ
radio_counts key radios = flat_map (λ e. flat_map (counts_of key) e.1.items) radios

-- the items of a bearer and direction
abbrev pub items_of : {X : Type 0} → EntityKey → List (Item X) → List (Item X)
items_of key items = filter (λ i. eq_by_cmp entity_cmp i.key key) items

abbrev pub tunnel_items : {L : Type 0} → EntityKey → List (TunnelEnd × List (Item L)) → List (Item L)
tunnel_items key tunnels = flat_map (λ e. items_of key e.1) tunnels

abbrev pub radio_items : {P : Type 0} → EntityKey → List (EntityKey × Radio P) → List (Item P)
radio_items key radios = flat_map (λ e. items_of key e.1.items) radios

-- the least of numbers, and this one
abbrev pub least : ℕ → List ℕ → ℕ
least n [] = n
least n (m ∷ ms) = least (min n m) ms

-- the least of numbers, if there are any
abbrev pub least_of : List ℕ → Option ℕ
least_of [] = None
least_of (n ∷ ns) = Some (least n ns)

-- an item of a bearer stands there
abbrev pub is_of_bearer : {X : Type 0} → UeId → BearerId → Item X → Bool
is_of_bearer ue bearer item = item.key.ue.0 == ue.0 && item.key.bearer.0 == bearer.0
