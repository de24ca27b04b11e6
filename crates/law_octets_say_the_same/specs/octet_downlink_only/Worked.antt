-- A script in which two packets are offered down, numbered, framed, put on the radio and delivered.
use Rattle.std.specs.Prelude.{List, [], ◌∷◌}
use Rattle.gnb_types.specs.declared.names.Gnb.TheVariants.{A}
use Rattle.gnb_types.specs.declared.names.NodeId.TheVariants.{CuUp, Du}
use Rattle.gnb_types.specs.declared.names.Dir.TheVariants.{Dl}
use Rattle.gnb_types.specs.declared.names.SnBits.TheVariants.{Len12}
use Rattle.scenario_text.specs.declared.event.Event.{Event}
use Rattle.scenario_text.specs.declared.event.Event.TheVariants as events
use Rattle.law_downlink_scripts.specs.downlink_only_runs.Worked.{downlink}

abbrev pub two_down : List Event
two_down =
    events.Static (record { ue = downlink.ue; gnb = A; up = 1; du = 1; sn = Len12; bearers = 1; quota = 2 })
    ∷ events.Offer downlink.ue downlink.bearer Dl (7 ∷ [])
    ∷ events.Offer downlink.ue downlink.bearer Dl (8 ∷ [])
    ∷ events.Get (CuUp A 1) 1
    ∷ events.Get (CuUp A 1) 1
    ∷ events.Get (Du A 1) 1
    ∷ events.Get (Du A 1) 1
    ∷ events.Air downlink.ue downlink.bearer Dl
    ∷ events.Air downlink.ue downlink.bearer Dl
    ∷ []
