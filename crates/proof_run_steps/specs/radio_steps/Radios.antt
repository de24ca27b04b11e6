-- What stands on one radio of a run, the epoch in which its terminal's radios are connected, and what a step does to both: its oldest
-- item is carried or confirmed, all is lost where the terminal leaves, and items are put at its end.
use Rattle.std.specs.Prelude.{ℕ, ◌==◌, ◌+◌, ◌-◌, ◌&&◌, if◌then◌else◌, List, [], ◌∷◌, ◌++◌, Option, Some, None}
use Rattle.std.specs.Ordering.{eq_by_cmp}
use Rattle.gnb_types.specs.declared.names.NodeId.{NodeId}
use Rattle.gnb_types.specs.declared.names.NodeId.TheVariants.{Ue}
use Rattle.gnb_types.specs.declared.keys.EntityKey.{EntityKey}
use Rattle.gnb_types.specs.Orders.{ue_cmp, entity_cmp}
use Rattle.tables.specs.Tables.{find}
use Rattle.unit_defs.specs.Ways.{Put, radio}
use Rattle.transport_defs.specs.declared.Item.{Item}
use Rattle.transport_defs.specs.Links.{Radio, silent, is_epoch}
use Rattle.run_defs.specs.Units.{Units}
use Rattle.run_defs.specs.States.{State, World, entity, radio_of}
use Rattle.run_defs.specs.Steps.{count_beside, same_epoch, epoch_now}
use Rattle.proof_run_steps.specs.steps.Causes.{Cause, by_air, by_ack, by_release, node_of, count_of}

pub record OnAir (P : Type 0) : Type 0 where
  pub epoch : Option ℕ
  pub radio : Radio P

abbrev pub on_air : {M C L P : Type 0} → State M C L P → EntityKey → OnAir P
on_air s key = record { epoch = find ue_cmp s.connected key.ue; radio = radio_of s key }

-- ---- what stands there is lost where the radios are connected; elsewhere nothing comes there

abbrev pub lost_in : {P : Type 0} → Option ℕ → Radio P → Radio P
lost_in None r = r
lost_in (Some epoch) r = silent

-- ---- what the step takes

abbrev pub after_taking : {M L P : Type 0} → EntityKey → Cause M L P → OnAir P → OnAir P
after_taking key (by_air from home item) a =
    if eq_by_cmp entity_cmp key from then record a { radio = record a.radio { carried = a.radio.carried + 1 } } else a
after_taking key (by_ack from home item rest) a =
    if eq_by_cmp entity_cmp key from then record a { radio = record { items = rest; carried = a.radio.carried - 1 } } else a
after_taking key (by_release gnb ue) a = if eq_by_cmp ue_cmp key.ue ue then record { epoch = None; radio = lost_in a.epoch a.radio } else a
after_taking key cause a = a

-- ---- what is put there is lost where the radios aren't connected in its epoch

abbrev pub with_item : {P : Type 0} → Item P → OnAir P → OnAir P
with_item item a = record a { radio = record a.radio { items = a.radio.items ++ item ∷ [] } }

abbrev pub after_put : {M L P : Type 0} → EntityKey → Option ℕ → Put M L P → OnAir P → OnAir P
after_put key taken (radio ue bearer dir epoch tag pdu) a =
    if eq_by_cmp entity_cmp key (entity ue bearer dir) && is_epoch a.epoch epoch
    then with_item (record { key = entity ue bearer dir; count = count_beside tag taken; content = pdu }) a else a
after_put key taken output a = a

abbrev pub after_puts : {M L P : Type 0} → EntityKey → Option ℕ → List (Put M L P) → OnAir P → OnAir P
after_puts key taken [] a = a
after_puts key taken (output ∷ outputs) a = after_puts key taken outputs (after_put key taken output a)

module _ {M C L P : Type 0} (world : World M C L P) where
  -- ---- the radios follow the terminal's own steps

  abbrev pub moved_to : Option ℕ → OnAir P → OnAir P
  moved_to now a = if same_epoch world a.epoch now then a else record { epoch = now; radio = lost_in a.epoch a.radio }

  abbrev pub followed : EntityKey → NodeId → Option ℕ → OnAir P → OnAir P
  followed key (Ue ue) now a = if eq_by_cmp ue_cmp key.ue (record { 0 = ue }) then moved_to now a else a
  followed key node now a = a

  -- ---- a step

  abbrev pub after_step : EntityKey → Cause M L P → List (Put M L P) → Units M C → State M C L P → OnAir P
  after_step key cause outputs units s =
      after_puts key (count_of cause) outputs
      (followed key (node_of cause) (epoch_now world (record s { units = units }) key.ue) (after_taking key cause (on_air s key)))
