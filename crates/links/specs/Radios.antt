-- The radios of bearers, with what stands on each, the oldest first, of which some items are carried, and what their calls give. The
-- radios of a terminal are connected in one epoch, or in none.
use Rattle.std.specs.Prelude.{◌≡◌, ◌==◌, ◌<◌, ℕ, ◌+◌, ◌-◌, if◌then◌else◌, List, [], ◌∷◌, ◌++◌, Option, Some, None}
use Rattle.gnb_types.specs.declared.names.UeId.{UeId}
use Rattle.gnb_types.specs.declared.keys.EntityKey.{EntityKey}
use Rattle.gnb_types.specs.Orders.{ue_cmp, entity_cmp}
use Rattle.tables.specs.Tables.{find, put, at}
use Rattle.transport_defs.specs.declared.Item.{Item}
use Rattle.transport_defs.specs.Links.{Radio, silent, emptied, is_epoch, connect, nth}
use Rattle.links.specs.declared.links_bag.error.LinkError.TheVariants as errors
use Rattle.links.specs.links_bag.Answers.{Answer, gives, refuses}

pub record RadioLinks (P : Type 0) : Type 0 where
  pub radios : List (EntityKey × Radio P)
  pub connected : List (UeId × ℕ)

module _ {P : Type 0} where
  abbrev pub no_radios : RadioLinks P
  no_radios = record { radios = []; connected = [] }

  abbrev pub radio_of : RadioLinks P → EntityKey → Radio P
  radio_of r key = at entity_cmp silent r.radios key

  abbrev pub with_radio : EntityKey → Radio P → RadioLinks P → RadioLinks P
  with_radio key radio r = record r { radios = put entity_cmp r.radios key radio }

  -- ---- one radio

  abbrev pub with_item : Radio P → Item P → Radio P
  with_item radio item = record radio { items = radio.items ++ item ∷ [] }

  -- the oldest item that isn't carried
  abbrev pub uncarried : Radio P → Option (Item P)
  uncarried radio = nth radio.items radio.carried

  -- the oldest item that is carried
  abbrev pub oldest_of : List (Item P) → ℕ → Option (Item P)
  oldest_of [] carried = None
  oldest_of (item ∷ items) carried = if carried == 0 then None else Some item

  abbrev pub oldest_carried : Radio P → Option (Item P)
  oldest_carried radio = oldest_of radio.items radio.carried

  abbrev pub carried_on : Radio P → Option (Item P) → Radio P
  carried_on radio None = radio
  carried_on radio (Some item) = record radio { carried = radio.carried + 1 }

  -- the oldest carried item is out
  abbrev pub Confirms : Radio P → Radio P → Option (Item P) → Type 0
  Confirms old new None = (old.carried ≡ 0) × (new ≡ old)
  Confirms old new (Some item) = (0 < old.carried) × (old.items ≡ item ∷ new.items) × (new.carried ≡ old.carried - 1)

  -- ---- all of them

  -- an item is put at the end; where the terminal isn't connected in that epoch it is gone
  unfoldable pub put_item : RadioLinks P → ℕ → Item P → RadioLinks P
  put_item r epoch item =
      if is_epoch (find ue_cmp r.connected item.key.ue) epoch then with_radio item.key (with_item (radio_of r item.key) item) r else r

  abbrev pub head_in : RadioLinks P → Option (Item P) → Answer (Item P) (RadioLinks P)
  head_in r None = refuses errors.Empty
  head_in r (Some item) = gives item r

  unfoldable pub head : RadioLinks P → EntityKey → Answer (Item P) (RadioLinks P)
  head r key = head_in r (uncarried (radio_of r key))

  -- the oldest item that isn't carried is carried, and stays until it is confirmed
  abbrev pub carry_in : RadioLinks P → EntityKey → Radio P → Option (Item P) → Answer (Item P) (RadioLinks P)
  carry_in r key radio None = refuses errors.Empty
  carry_in r key radio (Some item) = gives item (with_radio key (record radio { carried = radio.carried + 1 }) r)

  unfoldable pub carry : RadioLinks P → EntityKey → Answer (Item P) (RadioLinks P)
  carry r key = carry_in r key (radio_of r key) (uncarried (radio_of r key))

  -- the oldest carried item is confirmed
  abbrev pub confirm_in : RadioLinks P → EntityKey → List (Item P) → ℕ → Answer (Item P) (RadioLinks P)
  confirm_in r key [] carried = refuses errors.Empty
  confirm_in r key (item ∷ items) carried =
      if carried == 0 then refuses errors.Empty else gives item (with_radio key (record { items = items; carried = carried - 1 }) r)

  unfoldable pub confirm : RadioLinks P → EntityKey → Answer (Item P) (RadioLinks P)
  confirm r key = confirm_in r key (radio_of r key).items (radio_of r key).carried

  abbrev pub connected_in : RadioLinks P → UeId → Option ℕ → RadioLinks P
  connected_in r ue epoch = record r { connected = connect r.connected ue epoch }

  -- a radio fails: all that stands on it is lost
  abbrev pub failed : RadioLinks P → EntityKey → RadioLinks P
  failed r key = record r { radios = emptied r.radios key }

  -- the first radio of a terminal
  abbrev pub first_of : UeId → List (EntityKey × Radio P) → Option EntityKey
  first_of ue [] = None
  first_of ue (e ∷ es) = if e.0.ue.0 == ue.0 then Some e.0 else first_of ue es
