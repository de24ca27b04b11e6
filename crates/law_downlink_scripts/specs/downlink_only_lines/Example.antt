-- What the law forbids: one packet is offered, and a DU puts another one with COUNT 0.
use Rattle.std.specs.Prelude.{List, [], ◌∷◌, Some}
use Rattle.gnb_types.specs.declared.names.Gnb.TheVariants.{A}
use Rattle.gnb_types.specs.declared.names.NodeId.TheVariants.{Du}
use Rattle.gnb_types.specs.declared.names.SnBits.TheVariants.{Len12}
use Rattle.law_downlink_scripts.specs.downlink_only_runs.Worked.{downlink}
use Rattle.message_types.specs.declared.rrc.Token.{Token}
use Rattle.run_defs.specs.Lines.{RunLine, put_item, radio_link, shown}
use Rattle.run_defs.specs.Runs.{Happened}
use Rattle.run_defs.specs.States.{step_of}
use Rattle.scenario_text.specs.declared.event.Event.TheVariants as events
use Rattle.unit_defs.specs.Ways.{Message, packet_pdu}
use Rattle.unit_defs.specs.octet_defs.Writing.{pdu_octets}

abbrev pub not_offered : RunLine (Message Token)
not_offered = put_item (radio_link downlink 1) (shown downlink (Some 0) (pdu_octets Len12 (packet_pdu 0 (8 ∷ []))))

abbrev pub out_of_place : List (Happened (Message Token))
out_of_place =
    record { event = events.Offer downlink.ue downlink.bearer downlink.dir (7 ∷ []); steps = [] }
    ∷ record { event = events.Ask downlink.ue downlink.bearer; steps = step_of (Some (Du A 1)) (not_offered ∷ []) ∷ [] }
    ∷ []
