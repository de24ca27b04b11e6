-- A script in which a bearer with a quota of one packet delivers two: the second one is held until the first is confirmed.
use Rattle.std.specs.Prelude.{List, [], ◌∷◌}
use Rattle.gnb_types.specs.declared.names.Gnb.TheVariants.{A}
use Rattle.gnb_types.specs.declared.names.NodeId.TheVariants.{CuUp, Du}
use Rattle.gnb_types.specs.declared.names.Dir.TheVariants.{Dl}
use Rattle.gnb_types.specs.declared.names.SnBits.TheVariants.{Len12}
use Rattle.gnb_types.specs.declared.keys.EntityKey.{EntityKey}
use Rattle.scenario_text.specs.declared.event.Event.{Event}
use Rattle.scenario_text.specs.declared.event.Event.TheVariants as events

abbrev pub downlink : EntityKey
downlink = record { ue = record { 0 = 1 }; bearer = record { 0 = 1 }; dir = Dl }

abbrev pub worked : List Event
worked =
    events.Static (record { ue = downlink.ue; gnb = A; up = 1; du = 1; sn = Len12; bearers = 1; quota = 1 })
    ∷ events.Offer downlink.ue downlink.bearer Dl (7 ∷ [])
    ∷ events.Offer downlink.ue downlink.bearer Dl (8 ∷ [])
    ∷ events.Get (CuUp A 1) 1
    ∷ events.Get (CuUp A 1) 1
    ∷ events.Get (Du A 1) 1
    ∷ events.Air downlink.ue downlink.bearer Dl
    ∷ events.Ack downlink.ue downlink.bearer Dl
    ∷ events.Get (CuUp A 1) 2
    ∷ events.Get (CuUp A 1) 1
    ∷ events.Get (Du A 1) 1
    ∷ events.Air downlink.ue downlink.bearer Dl
    ∷ []
