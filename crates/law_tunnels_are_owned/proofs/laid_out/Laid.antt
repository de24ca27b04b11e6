-- An item that a node may put has the octets of the link between the two nodes; so in every run what is put is laid out.
use Rattle.std.proofs.Common.{◌≡◌, ℕ, List, Option, Some, None, ◌⊎◌, inl, inr, refl, sym, subst}
use Rattle.gnb_types.specs.declared.names.NodeId.{NodeId}
use Rattle.gnb_types.specs.declared.names.NodeId.TheVariants.{CuUp, Du, Core, Ue}
use Rattle.gnb_types.specs.declared.names.Dir.{Dir}
use Rattle.gnb_types.specs.declared.names.Dir.TheVariants.{Dl, Ul}
use Rattle.gnb_types.specs.declared.names.SnBits.{SnBits}
use Rattle.gnb_types.specs.declared.keys.TunnelEnd.{TunnelEnd}
use Rattle.gnb_types.specs.declared.keys.EntityKey.{EntityKey}
use Rattle.message_types.specs.declared.rrc.Token.{Token}
use Rattle.scenario_text.specs.declared.event.Event.{Event}
use Rattle.scenario_text.specs.declared.line.Link.{Link}
use Rattle.scenario_text.specs.declared.line.Item.{Item as ShownItem}
use Rattle.unit_defs.specs.Ways.{Message, Pdu, packet_pdu, report_pdu, Load, fresh, numbered, uplink, status, end_marker}
use Rattle.unit_defs.specs.octet_defs.Writing.{pdu_octets, load_octets, written_load}
use Rattle.transport_defs.specs.declared.Item.{Item}
use Rattle.run_defs.specs.Lines.{RunLine, put_item, got_item, put_message, got_message, delivers, lost_items, lost_message, drops_input, held_at, procedure_failed, is_quiet, is_busy, has_settled, has_not_settled, was_refused, tunnel_link, radio_link, shown}
use Rattle.run_defs.specs.Carried.{IsRadioData, IsRadioReport, IsOnRadio as IsLaidOnRadio, IsLaidOut, layout_between}
use Rattle.run_defs.specs.Written.{Written}
use Rattle.run_defs.specs.States.{new_state, World}
use Rattle.run_defs.specs.Runs.{Reading, Happened, plain_world, Run, run}
use Rattle.proof_run_steps.specs.facts.Facts.{Facts}
use Rattle.proof_run_steps.specs.facts.UnitFacts.{said_item, HasOctets, HasPduOctets, written_facts}
use Rattle.proof_run_steps.specs.facts.TellFacts.{TellsTunnel, TellsRadio, Tells, TellsBy, StepTells}
use Rattle.proof_run_steps.proofs.facts.Plain.{plain_kept, first_holds}
use Rattle.proof_run_steps.proofs.facts.Tells.{EventTells, run_tells}
use Rattle.law_tunnels_are_owned.specs.link_items.Items.{count_of_pdu, count_of_load, MayPut, IsPutOnTunnel, IsPutOnRadio}
use Rattle.law_tunnels_are_owned.proofs.link_items.Octets.{map_all, to_du_laid, pdu_laid}
use Rattle.law_tunnels_are_owned.proofs.link_items.Names.{link_items}
use Rattle.law_tunnels_are_owned.proofs.link_items.Links.{items_keep}
use Rattle.law_tunnels_are_owned.specs.laid_out.Laid.{IsLaidLine, AreLaidBy, IsLaidStep, IsLaidEvent, AreLaid}

-- ---- between two nodes

pub laid_between : (teid : ℕ) (sn : SnBits) (from node : NodeId) (dir : Dir) (load : Load Pdu) → MayPut from node dir load
    → (bits : SnBits) × layout_between from node dir bits teid (count_of_load load) (load_octets teid (written_load sn load))
laid_between teid sn Core (CuUp gnb number) Dl (fresh x) p = (sn, inl (x, refl))
laid_between teid sn Core (CuUp gnb number) Dl end_marker p = (sn, inr refl)
laid_between teid sn (CuUp other up) (Du gnb number) Dl load p = (sn, to_du_laid teid sn load p)
laid_between teid sn (CuUp other up) (CuUp gnb number) Dl (fresh x) p = (sn, inl (x, refl))
laid_between teid sn (CuUp other up) (CuUp gnb number) Dl (numbered bits count x) p = (bits, inr (inl (x, refl)))
laid_between teid sn (CuUp other up) (CuUp gnb number) Dl end_marker p = (sn, inr (inr refl))
laid_between teid sn (CuUp other up) (CuUp gnb number) Ul (numbered bits count x) p = (bits, inl (x, refl))
laid_between teid sn (CuUp other up) (CuUp gnb number) Ul end_marker p = (sn, inr refl)
laid_between teid sn (Du other du) (CuUp gnb number) Dl (status lost delivered) p = (sn, (lost, _, refl))
laid_between teid sn (Du other du) (CuUp gnb number) Ul (uplink (packet_pdu count x)) p = (sn, inl (x, refl))
laid_between teid sn (Du other du) (CuUp gnb number) Ul (uplink (report_pdu fmc bits)) p = (sn, inr (inl (fmc, bits, refl)))
laid_between teid sn (Du other du) (CuUp gnb number) Ul end_marker p = (sn, inr (inr refl))
laid_between teid sn from node dir load p = absurd p

tunnel_laid : (actor : NodeId) (end : TunnelEnd) (item : Item (Written (Load Pdu))) → IsPutOnTunnel actor end (said_item item) → HasOctets end.teid item
    → (sn : SnBits) × IsLaidOut sn actor (tunnel_link end) (shown item.key item.count item.content.octets)
tunnel_laid actor end item is octets =
    let shape = laid_between end.teid octets.0 actor end.node item.key.dir item.content.says is.1 in (
      shape.0,
      subst (λ (o : List ℕ). layout_between actor end.node item.key.dir shape.0 end.teid item.count o) (sym octets.1)
          (subst (λ (c : Option ℕ). layout_between actor end.node item.key.dir shape.0 end.teid c (load_octets end.teid (written_load octets.0 item.content.says))) (sym is.0)
          shape.1),
    )

-- ---- on a radio

by_du : (gnb : _) (number : ℕ) (sn : SnBits) (key : EntityKey) (count : Option ℕ) (o : List ℕ) → key.dir ≡ Dl → IsRadioData sn count o ⊎ IsRadioReport o
    → IsLaidOnRadio (Du gnb number) key.dir sn (shown key count o)
by_du gnb number sn key count o dir p = subst (λ (d : Dir). IsLaidOnRadio (Du gnb number) d sn (shown key count o)) (sym dir) p

by_ue : (ue : ℕ) (sn : SnBits) (key : EntityKey) (count : Option ℕ) (o : List ℕ) → key.dir ≡ Ul → IsRadioData sn count o ⊎ IsRadioReport o
    → IsLaidOnRadio (Ue ue) key.dir sn (shown key count o)
by_ue ue sn key count o dir p = subst (λ (d : Dir). IsLaidOnRadio (Ue ue) d sn (shown key count o)) (sym dir) p

air_octets : (item : Item (Written Pdu)) → item.count ≡ count_of_pdu item.content.says → (octets : HasPduOctets item)
    → IsRadioData octets.0 item.count item.content.octets ⊎ IsRadioReport item.content.octets
air_octets item is octets =
    subst (λ (o : List ℕ). IsRadioData octets.0 item.count o ⊎ IsRadioReport o) (sym octets.1)
    (subst (λ (c : Option ℕ). IsRadioData octets.0 c (pdu_octets octets.0 item.content.says) ⊎ IsRadioReport (pdu_octets octets.0 item.content.says)) (sym is)
    (pdu_laid octets.0 item.content.says))

radio_laid : (actor : NodeId) (epoch : ℕ) (item : Item (Written Pdu)) → IsPutOnRadio actor item.key (said_item item) → HasPduOctets item
    → (sn : SnBits) × IsLaidOut sn actor (radio_link item.key epoch) (shown item.key item.count item.content.octets)
radio_laid (Du gnb number) epoch item is octets =
    (octets.0, by_du gnb number octets.0 item.key item.count item.content.octets is.1 (air_octets item is.0 octets))
radio_laid (Ue ue) epoch item is octets =
    (octets.0, by_ue ue octets.0 item.key item.count item.content.octets is.1 (air_octets item is.0 octets))
radio_laid actor epoch item is octets = absurd is

-- ---- lines, steps and events

module _ (reading : Reading) where
  abbrev PlainWorld : World (Message Token) Token (Written (Load Pdu)) (Written Pdu)
  PlainWorld = plain_world reading

  abbrev PlainFacts : Facts (Message Token) Token (Written (Load Pdu)) (Written Pdu)
  PlainFacts = written_facts link_items

  put_laid : (actor : NodeId) (link : Link) (item : ShownItem)
      → TellsTunnel PlainWorld PlainFacts actor link item ⊎ TellsRadio PlainWorld PlainFacts actor link item → (sn : SnBits) × IsLaidOut sn actor link item
  put_laid actor link item (inl t) =
      subst (λ (i : ShownItem). (sn : SnBits) × IsLaidOut sn actor link i) (sym t.shows)
      (subst (λ (k : Link). (sn : SnBits) × IsLaidOut sn actor k (shown t.stood.key t.stood.count t.stood.content.octets)) (sym t.on)
      (tunnel_laid actor t.end t.stood t.is.0 t.is.1))
  put_laid actor link item (inr t) =
      subst (λ (i : ShownItem). (sn : SnBits) × IsLaidOut sn actor link i) (sym t.shows)
      (subst (λ (k : Link). (sn : SnBits) × IsLaidOut sn actor k (shown t.stood.key t.stood.count t.stood.content.octets)) (sym t.on)
      (radio_laid actor t.epoch t.stood t.is.0 t.is.1))

  line_laid : (actor : NodeId) (line : RunLine (Message Token)) → Tells PlainWorld PlainFacts actor line → IsLaidLine actor line
  line_laid actor (put_item link item) p = put_laid actor link item p
  line_laid actor (put_message number control_message) p = p.0
  line_laid actor (got_item link item) p = tt
  line_laid actor (got_message number control_message) p = tt
  line_laid actor (delivers key count x) p = tt
  line_laid actor (lost_items link items) p = tt
  line_laid actor (lost_message number) p = tt
  line_laid actor (drops_input node reason) p = tt
  line_laid actor (held_at link reason) p = tt
  line_laid actor (procedure_failed node ue cause) p = tt
  line_laid actor (is_quiet ue bearer down up) p = tt
  line_laid actor (is_busy ue bearer) p = tt
  line_laid actor (has_settled rounds) p = tt
  line_laid actor (has_not_settled rounds) p = tt
  line_laid actor (was_refused reason) p = tt

  lines_laid : (actor : Option NodeId) (lines : List (RunLine (Message Token))) → TellsBy PlainWorld PlainFacts actor lines → AreLaidBy actor lines
  lines_laid None lines p = p
  lines_laid (Some actor) lines p = map_all (Tells PlainWorld PlainFacts actor) (IsLaidLine actor) lines (line_laid actor) p

  event_laid : (h : Happened (Message Token)) → EventTells PlainWorld PlainFacts (plain_kept link_items items_keep reading) h → IsLaidEvent h
  event_laid h p = map_all (StepTells PlainWorld PlainFacts) IsLaidStep h.steps (λ step q. lines_laid step.actor step.lines q) p

  pub run_is_laid : (events : List Event) → AreLaid (Run reading events).events
  unfolding Run run
  run_is_laid events =
      map_all (EventTells PlainWorld PlainFacts (plain_kept link_items items_keep reading)) IsLaidEvent (Run reading events).events event_laid
      (run_tells PlainWorld PlainFacts (plain_kept link_items items_keep reading) events new_state (first_holds link_items items_keep))
