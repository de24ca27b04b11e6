-- What is assumed of one order, with what is so of its context, is all that it asks.
use Rattle.std.proofs.Common.{inl, inr, ◌≡◌, ◌≢◌, ◌⊎◌, ℕ, true, Some, None, sym, ap, ◌∙◌}
use Rattle.gnb_types.specs.declared.names.SnBits.{SnBits}
use Rattle.gnb_types.specs.declared.names.UeId.{UeId}
use Rattle.gnb_types.specs.declared.names.BearerId.{BearerId}
use Rattle.unit_defs.specs.Ways.{Pdu, packet_content, report_content, Taken, fresh_item, numbered_item, frame_item, uplink_item, status_item, end_item}
use Rattle.unit_defs.specs.CuUpRecords.{TunnelKind, n3, f1u_uplink, forwarding_down, forwarding_up, SourceHop}
use Rattle.proof_cu_up_orders.specs.context_tests.Tests.{IsTested}
use Rattle.proof_cu_up_orders.proofs.context_stands.Enough.{has_hop, serves}
use Rattle.law_tunnels_are_owned.specs.item_fits.Fits as fits
use Rattle.bearer_defs.specs.chain_defs.Models as down_models
use Rattle.bearer_defs.specs.chain_defs.Orders as down
use Rattle.bearer_defs.specs.chain_defs.Assumptions as down_assumptions
use Rattle.bearer_defs.specs.uplink_defs.Models as up_models
use Rattle.proof_cu_up_orders.specs.context_orders.Orders.{CuUpModel, ContextStep, makes, adds, switches, freezes, knows, resumes, releases, closes, takes, polls}
use Rattle.proof_cu_up_orders.specs.down_orders.Down as down_rows
use Rattle.proof_cu_up_orders.specs.orders.Up as up_rows
use Rattle.proof_cu_up_orders.specs.bearer_orders.Happenings.{Beside}
use Rattle.proof_cu_up_orders.specs.bearer_orders.Down as downs
use Rattle.law_tunnels_are_owned.specs.owner_facts.Owned.{AreOwned}
use Rattle.proof_bearer_refinement.specs.run_bearers.Things.{PlainUnits}
use Rattle.proof_bearer_refinement.specs.run_bearers.Bearers.{Numbering}
use Rattle.proof_bearer_refinement.specs.refinement_facts.Asked.{Asks}
use Rattle.proof_bearer_refinement.proofs.refinement_facts.Ends.{clash}
use Rattle.law_handover_delivers.specs.assumptions.WellLinked.{IsWellLinked}
use Rattle.law_handover_delivers.specs.assumptions.Assumed.{OfItem, Assumes}
use Rattle.law_handover_delivers.proofs.assumptions.Hops.{freeze_leads}

-- ---- an item that one direction takes says nothing to the other

is_of_uplink : (p : CuUpModel) (kind : TunnelKind) (item : Taken Pdu) → up_rows.IsFit p kind item → down_rows.IsOfUplink kind item
is_of_uplink p f1u_uplink (uplink_item (packet_content (Some count) packet)) fit = tt
is_of_uplink p f1u_uplink (uplink_item (packet_content None packet)) fit = tt
is_of_uplink p f1u_uplink (uplink_item (report_content fmc bits)) fit = absurd fit
is_of_uplink p f1u_uplink end_item fit = tt
is_of_uplink p f1u_uplink (fresh_item packet) fit = absurd fit
is_of_uplink p f1u_uplink (numbered_item count packet) fit = absurd fit
is_of_uplink p f1u_uplink (frame_item poll restart number pdu) fit = absurd fit
is_of_uplink p f1u_uplink (status_item lost delivered) fit = absurd fit
is_of_uplink p forwarding_up (numbered_item count packet) fit = tt
is_of_uplink p forwarding_up end_item fit = tt
is_of_uplink p forwarding_up (fresh_item packet) fit = absurd fit
is_of_uplink p forwarding_up (frame_item poll restart number pdu) fit = absurd fit
is_of_uplink p forwarding_up (uplink_item content) fit = absurd fit
is_of_uplink p forwarding_up (status_item lost delivered) fit = absurd fit
is_of_uplink p n3 item fit = absurd fit
is_of_uplink p forwarding_down item fit = absurd fit

is_of_downlink : (p : CuUpModel) (kind : TunnelKind) (item : Taken Pdu) → down_rows.IsFit p kind item → up_rows.IsOfDownlink kind item
is_of_downlink p n3 (fresh_item packet) fit = tt
is_of_downlink p n3 end_item fit = tt
is_of_downlink p n3 (numbered_item count packet) fit = absurd fit
is_of_downlink p n3 (frame_item poll restart number pdu) fit = absurd fit
is_of_downlink p n3 (uplink_item content) fit = absurd fit
is_of_downlink p n3 (status_item lost delivered) fit = absurd fit
is_of_downlink p forwarding_down (fresh_item packet) fit = tt
is_of_downlink p forwarding_down (numbered_item count packet) fit = tt
is_of_downlink p forwarding_down end_item fit = tt
is_of_downlink p forwarding_down (frame_item poll restart number pdu) fit = absurd fit
is_of_downlink p forwarding_down (uplink_item content) fit = absurd fit
is_of_downlink p forwarding_down (status_item lost delivered) fit = absurd fit
is_of_downlink p f1u_uplink (uplink_item (report_content fmc bits)) fit = tt
is_of_downlink p f1u_uplink (uplink_item (packet_content count packet)) fit = absurd fit
is_of_downlink p f1u_uplink (status_item lost delivered) fit = tt
is_of_downlink p f1u_uplink (fresh_item packet) fit = absurd fit
is_of_downlink p f1u_uplink (numbered_item count packet) fit = absurd fit
is_of_downlink p f1u_uplink (frame_item poll restart number pdu) fit = absurd fit
is_of_downlink p f1u_uplink end_item fit = absurd fit
is_of_downlink p forwarding_up item fit = absurd fit

-- an item that an order takes is fit, where control keeps what is assumed of it
abbrev pub FitsIn : CuUpModel → ContextStep Pdu → Type 0
FitsIn p (takes kind teid item) = OfItem p kind item → fits.IsFit p kind item
FitsIn p order = Unit {0}

module _ (n : Numbering) (ue : UeId) (bearer : BearerId) (units : PlainUnits) (owned : AreOwned units) (sn : SnBits) (quota : ℕ) (d : down_models.Model)
    (u : up_models.Model) (x : ℕ) (b : Beside) (p : CuUpModel) (is_down : down_rows.IsDown (d.members x) p)
    (well_linked : IsWellLinked n ue bearer units x (d.members x) (u.members x) p) where
  abbrev All : ContextStep Pdu → Type 0
  All order = Asks n ue bearer units sn quota d u x b p order

  down_stands : down_rows.Stands p
  down_stands = record { hop = has_hop p well_linked.stands; passes = serves p well_linked.stands well_linked.frozen }

  up_stands : up_rows.Stands p
  up_stands = record { hop = has_hop p well_linked.stands; passes = serves p well_linked.stands well_linked.frozen }

  -- a hop that a freeze gives leads to another context: that one has no SN status yet
  freeze_far : (to : ℕ) (hop : SourceHop) → p.at.flags.may_serve ≡ true → down_assumptions.IsAssumed d (down.freezes x to hop) → to ≢ x
  unfolding down_assumptions.IsAssumed
  freeze_far to hop has assumed same =
      clash (sym assumed.2.status ∙ ap (λ (z : ℕ). (d.members z).flags.may_serve) same ∙ ap (λ f. f.may_serve) is_down.flags ∙ has)

  pub all_asked : (order : ContextStep Pdu) → IsTested b.final p order → FitsIn p order → Assumes n ue bearer units d u x b p order → All order
  all_asked (makes instance its_sn its_quota target teid) tested fit assumed = absurd tested
  all_asked (takes kind teid item) tested fit assumed = by (fit assumed.0)
    where
      by : down_rows.IsFit p kind item ⊎ up_rows.IsFit p kind item → All (takes kind teid item)
      by (inl fits_down) = record {
        down = (down_stands, tested, inr (fits_down, assumed.1));
        up = (up_stands, tested, inl (is_of_downlink p kind item fits_down));
        other_down = well_linked.other_down;
        other_up = well_linked.other_up;
        leads = well_linked.leads;
      }
      by (inr fits_up) = record {
        down = (down_stands, tested, inl (is_of_uplink p kind item fits_up));
        up = (up_stands, tested, inr fits_up);
        other_down = well_linked.other_down;
        other_up = well_linked.other_up;
        leads = well_linked.leads;
      }
  all_asked (freezes peer down_teid up_teid) tested fit assumed = record {
    down = (tested, assumed.down);
    up = (tested, assumed.up);
    other_down = freeze_far b.to (downs.hop_to peer down_teid up_teid) tested.3 assumed.down;
    other_up = freeze_far b.to (downs.hop_to peer down_teid up_teid) tested.3 assumed.down;
    leads = freeze_leads n ue bearer units owned b.to peer down_teid up_teid assumed.leads;
  }
  all_asked closes tested fit assumed = record {
    down = assumed.0;
    up = assumed.1;
    other_down = well_linked.other_down;
    other_up = well_linked.other_up;
    leads = well_linked.leads;
  }
  all_asked polls tested fit assumed = record {
    down = (well_linked.stands.status, tested, tt, tt);
    up = tt;
    other_down = well_linked.other_down;
    other_up = well_linked.other_up;
    leads = well_linked.leads;
  }
  all_asked (adds teid) tested fit assumed = record {
    down = (well_linked.stands.status, tested, assumed.asked_down, assumed.down);
    up = (tested, assumed.asked_up, assumed.up);
    other_down = well_linked.other_down;
    other_up = well_linked.other_up;
    leads = well_linked.leads;
  }
  all_asked (switches du teid) tested fit assumed = record {
    down = (well_linked.stands.status, tested, assumed.asked_down, assumed.down);
    up = (tested, assumed.asked_up, assumed.up);
    other_down = well_linked.other_down;
    other_up = well_linked.other_up;
    leads = λ end o is. tt;
  }
  all_asked (knows status) tested fit assumed = record {
    down = (well_linked.stands.status, tested, assumed.asked_down, assumed.down);
    up = (tested, assumed.asked_up, assumed.up);
    other_down = well_linked.other_down;
    other_up = well_linked.other_up;
    leads = well_linked.leads;
  }
  all_asked resumes tested fit assumed = record {
    down = (well_linked.stands.status, tested, assumed.asked_down, assumed.down);
    up = (tested, assumed.asked_up, assumed.up);
    other_down = well_linked.other_down;
    other_up = well_linked.other_up;
    leads = λ end o is. tt;
  }
  all_asked releases tested fit assumed = record {
    down = (well_linked.stands.status, tested, assumed.asked_down, assumed.down);
    up = (tested, assumed.asked_up, assumed.up);
    other_down = well_linked.other_down;
    other_up = well_linked.other_up;
    leads = well_linked.leads;
  }
