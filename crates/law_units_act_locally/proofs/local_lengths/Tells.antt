-- What is put has exactly the octets of its link, with numbers of its terminal's length; and what stands there says its packet so.
use Rattle.std.proofs.Common.{◌≡◌, ℕ, List, Option, Some, None, ◌⊎◌, inl, inr, refl, sym, ap, ◌∙◌, subst}
use Rattle.gnb_types.specs.declared.names.NodeId.{NodeId}
use Rattle.gnb_types.specs.declared.names.NodeId.TheVariants.{CuUp, Du, Core, Ue}
use Rattle.gnb_types.specs.declared.names.Dir.{Dir}
use Rattle.gnb_types.specs.declared.names.Dir.TheVariants.{Dl, Ul}
use Rattle.gnb_types.specs.declared.names.SnBits.{SnBits}
use Rattle.gnb_types.specs.declared.names.UeId.{UeId}
use Rattle.gnb_types.specs.declared.keys.TunnelEnd.{TunnelEnd}
use Rattle.gnb_types.specs.declared.keys.EntityKey.{EntityKey}
use Rattle.message_types.specs.declared.rrc.Token.{Token}
use Rattle.link_defs.specs.Layouts.{forwarded_numbered}
use Rattle.unit_defs.specs.Ways.{Message, Pdu, packet_pdu, report_pdu, Load, fresh, numbered, frame, uplink, status, end_marker}
use Rattle.unit_defs.specs.octet_defs.Writing.{pdu_octets, load_octets, written_load}
use Rattle.transport_defs.specs.declared.Item.{Item}
use Rattle.run_defs.specs.Lines.{tunnel_link, radio_link, shown}
use Rattle.run_defs.specs.Carried.{IsRadioData, IsRadioReport, IsOnRadio as IsLaidOnRadio, IsLaidOut, layout_between}
use Rattle.run_defs.specs.Written.{Written}
use Rattle.run_defs.specs.States.{Lengths}
use Rattle.run_defs.specs.Runs.{Reading}
use Rattle.proof_run_steps.specs.plans.Plans.{Plans}
use Rattle.proof_run_steps.specs.facts.Facts.{Facts}
use Rattle.proof_run_steps.specs.facts.UnitFacts.{said_item, written_facts}
use Rattle.proof_run_steps.specs.plan_facts.Along.{lengths_by}
use Rattle.proof_run_steps.proofs.plan_facts.Constant.{both_by}
use Rattle.law_tunnels_are_owned.specs.link_items.Items.{count_of_pdu, count_of_load, MayPut, IsPutOnTunnel, IsPutOnRadio}
use Rattle.law_tunnels_are_owned.proofs.link_items.Octets.{to_du_laid, pdu_laid}
use Rattle.law_tunnels_are_owned.proofs.link_items.Names.{link_items}
use Rattle.proof_unit_steps.specs.tunnel_names.Names.{LoadNames}
use Rattle.law_tunnels_are_owned.specs.run_lengths.Lengths.{IsNumberedBy}
use Rattle.law_tunnels_are_owned.proofs.run_lengths.Known.{Owns, length_is}
use Rattle.law_tunnels_are_owned.proofs.run_lengths.Answers.{OnTunnel, OnAir, lengths}
use Rattle.law_units_act_locally.proofs.local_packets.Steps.{Tells}
use Rattle.law_units_act_locally.specs.local_lengths.Long.{SaysLong, PutsLong}
use Rattle.law_units_act_locally.proofs.local_lengths.Attach.{W}

-- ---- between two nodes, where a packet that is forwarded with a number says this length

laid_by : (teid : ℕ) (sn : SnBits) (from node : NodeId) (dir : Dir) (load : Load Pdu) → MayPut from node dir load → IsNumberedBy sn load
    → layout_between from node dir sn teid (count_of_load load) (load_octets teid (written_load sn load))
laid_by teid sn Core (CuUp gnb number) Dl (fresh x) p k = inl (x, refl)
laid_by teid sn Core (CuUp gnb number) Dl end_marker p k = inr refl
laid_by teid sn (CuUp other up) (Du gnb number) Dl load p k = to_du_laid teid sn load p
laid_by teid sn (CuUp other up) (CuUp gnb number) Dl (fresh x) p k = inl (x, refl)
laid_by teid sn (CuUp other up) (CuUp gnb number) Dl (numbered bits count x) p k =
    inr (inl (x, ap (λ (b : SnBits). forwarded_numbered b teid count x) k))
laid_by teid sn (CuUp other up) (CuUp gnb number) Dl end_marker p k = inr (inr refl)
laid_by teid sn (CuUp other up) (CuUp gnb number) Ul (numbered bits count x) p k = inl (x, ap (λ (b : SnBits). forwarded_numbered b teid count x) k)
laid_by teid sn (CuUp other up) (CuUp gnb number) Ul end_marker p k = inr refl
laid_by teid sn (Du other du) (CuUp gnb number) Dl (status lost delivered) p k = (lost, _, refl)
laid_by teid sn (Du other du) (CuUp gnb number) Ul (uplink (packet_pdu count x)) p k = inl (x, refl)
laid_by teid sn (Du other du) (CuUp gnb number) Ul (uplink (report_pdu fmc bits)) p k = inr (inl (fmc, bits, refl))
laid_by teid sn (Du other du) (CuUp gnb number) Ul end_marker p k = inr (inr refl)
laid_by teid sn from node dir load p k = absurd p

module _ (sn : SnBits) where
  tunnel_laid : (actor : NodeId) (end : TunnelEnd) (item : Item (Written (Load Pdu))) → IsPutOnTunnel actor end (said_item item)
      → IsNumberedBy sn item.content.says → item.content.octets ≡ load_octets end.teid (written_load sn item.content.says)
      → IsLaidOut sn actor (tunnel_link end) (shown item.key item.count item.content.octets)
  tunnel_laid actor end item is k octets =
      subst (λ (o : List ℕ). layout_between actor end.node item.key.dir sn end.teid item.count o) (sym octets)
      (subst (λ (c : Option ℕ). layout_between actor end.node item.key.dir sn end.teid c (load_octets end.teid (written_load sn item.content.says))) (sym is.0)
      (laid_by end.teid sn actor end.node item.key.dir item.content.says is.1 k))

  air_octets : (item : Item (Written Pdu)) → item.count ≡ count_of_pdu item.content.says → item.content.octets ≡ pdu_octets sn item.content.says
      → IsRadioData sn item.count item.content.octets ⊎ IsRadioReport item.content.octets
  air_octets item is octets =
      subst (λ (o : List ℕ). IsRadioData sn item.count o ⊎ IsRadioReport o) (sym octets)
      (subst (λ (c : Option ℕ). IsRadioData sn c (pdu_octets sn item.content.says) ⊎ IsRadioReport (pdu_octets sn item.content.says)) (sym is)
      (pdu_laid sn item.content.says))

  radio_laid : (actor : NodeId) (key : EntityKey) (epoch : ℕ) (item : Item (Written Pdu)) → IsPutOnRadio actor key (said_item item) → item.key ≡ key
      → item.content.octets ≡ pdu_octets sn item.content.says → IsLaidOut sn actor (radio_link key epoch) (shown item.key item.count item.content.octets)
  radio_laid (Du gnb number) key epoch item is same octets =
      subst (λ (k : EntityKey). IsLaidOnRadio (Du gnb number) k.dir sn (shown item.key item.count item.content.octets)) same
      (subst (λ (d : Dir). IsLaidOnRadio (Du gnb number) d sn (shown item.key item.count item.content.octets)) (sym is.1) (air_octets item is.0 octets))
  radio_laid (Ue ue) key epoch item is same octets =
      subst (λ (k : EntityKey). IsLaidOnRadio (Ue ue) k.dir sn (shown item.key item.count item.content.octets)) same
      (subst (λ (d : Dir). IsLaidOnRadio (Ue ue) d sn (shown item.key item.count item.content.octets)) (sym is.1) (air_octets item is.0 octets))
  radio_laid actor key epoch item is same octets = absurd is

-- ---- by what is known

module _ (reading : Reading) (L : Lengths) where
  abbrev IsLength : UeId → SnBits → Type 0
  IsLength ue sn = L ue ≡ sn

  abbrev pub LongFacts : Plans → Facts (Message Token) Token (Written (Load Pdu)) (Written Pdu)
  LongFacts = both_by (W reading) (λ plans. written_facts link_items) (lengths IsLength)

  known : (plans : Plans) (ue : UeId) (sn : SnBits) → (Owns IsLength plans).length ue sn → lengths_by plans ue ≡ L ue
  known plans ue sn k = length_is plans ue sn k.0 ∙ sym k.1

  numbered_by : (plans : Plans) (ue : UeId) (load : Load Pdu) → LoadNames (Owns IsLength plans) ue load → IsNumberedBy (L ue) load
  numbered_by plans ue (numbered bits count p) k = sym k.1
  numbered_by plans ue (fresh p) k = tt
  numbered_by plans ue (frame poll restart number pdu) k = tt
  numbered_by plans ue (uplink pdu) k = tt
  numbered_by plans ue (status lost delivered) k = tt
  numbered_by plans ue end_marker k = tt

  written_by : (plans : Plans) (teid : ℕ) (ue : UeId) (load : Load Pdu) → LoadNames (Owns IsLength plans) ue load
      → load_octets teid (written_load (lengths_by plans ue) load) ≡ load_octets teid (written_load (L ue) load)
  written_by plans teid ue (fresh p) k = refl
  written_by plans teid ue (numbered bits count p) k = refl
  written_by plans teid ue (frame poll restart number pdu) k =
      ap (λ (sn : SnBits). load_octets teid (written_load sn (frame poll restart number pdu))) (known plans ue k.0 k.1)
  written_by plans teid ue (uplink pdu) k = ap (λ (sn : SnBits). load_octets teid (written_load sn (uplink pdu))) (known plans ue k.0 k.1)
  written_by plans teid ue (status lost (Some count)) k =
      ap (λ (sn : SnBits). load_octets teid (written_load sn (status lost (Some count)))) (known plans ue k.0 k.1)
  written_by plans teid ue (status lost None) k = refl
  written_by plans teid ue end_marker k = refl

  tunnel_octets : (plans : Plans) (teid : ℕ) (item : Item (Written (Load Pdu))) → OnTunnel IsLength plans teid item
      → item.content.octets ≡ load_octets teid (written_load (L item.key.ue) item.content.says)
  tunnel_octets plans teid item p = p.1 ∙ written_by plans teid item.key.ue item.content.says p.0

  radio_octets : (plans : Plans) (item : Item (Written Pdu)) → OnAir IsLength plans item → item.content.octets ≡ pdu_octets (L item.key.ue) item.content.says
  radio_octets plans item p = p.1 ∙ ap (λ (sn : SnBits). pdu_octets sn item.content.says) (known plans item.key.ue p.0.0 p.0.1)

  pub tells : (plans : Plans) → Tells reading (λ item. item.octets) (λ pdu. pdu.octets) (SaysLong L) (PutsLong L) (LongFacts plans)
  tells plans = record {
    tunnel = λ end item h. (
      item.content.says,
      refl,
      h.0.0.1,
      h.0.0.0,
      numbered_by plans item.key.ue item.content.says h.1.0.0,
      tunnel_octets plans end.teid item h.1.0,
    );
    radio = λ key on epoch item h. (item.content.says, refl, h.0.0, radio_octets plans item h.1);
    puts = λ node end item h.
        let on = link_items.stands node end (said_item item) h.0.0 in
        let k = numbered_by plans item.key.ue item.content.says h.1.0 in
        let octets = tunnel_octets plans end.teid item h.1 in
        ((item.content.says, refl, on.1, on.0, k, octets), tunnel_laid (L item.key.ue) node end item h.0.0 k octets);
    airs = λ node key epoch item h same.
        let on = link_items.stands_on_air node key (said_item item) h.0.0 in
        let octets = radio_octets plans item h.1 in
        ((item.content.says, refl, on, octets), radio_laid (L item.key.ue) node key epoch item h.0.0 same octets);
  }
