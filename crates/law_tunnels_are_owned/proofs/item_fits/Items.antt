-- An item that is of its tunnel's kind is one that the orders of its bearer take.
use Rattle.std.proofs.Common.{◌≡◌, ℕ, List, [], ◌∷◌, Some, inl, inr}
use Rattle.std.specs.List.{AllByRecursion}
use Rattle.std.specs.Ordering.{nat_cmp}
use Rattle.gnb_types.specs.declared.names.Gnb.{Gnb}
use Rattle.gnb_types.specs.declared.names.NodeId.TheVariants.{CuUp}
use Rattle.gnb_types.specs.declared.names.Dir.{Dir}
use Rattle.gnb_types.specs.declared.names.Dir.TheVariants.{Dl, Ul}
use Rattle.gnb_types.specs.Orders.{tunnel_cmp}
use Rattle.message_types.specs.declared.rrc.Token.{Token}
use Rattle.tables.specs.Tables.{find}
use Rattle.scenario_text.specs.declared.event.Event.{Event}
use Rattle.unit_defs.specs.Ways.{Message, Pdu, packet_pdu, report_pdu, Load, fresh, numbered, frame, uplink, status, end_marker}
use Rattle.unit_defs.specs.CuUpRecords.{TunnelKind, n3, f1u_uplink, forwarding_down, forwarding_up, CuUpTunnel}
use Rattle.transport_defs.specs.declared.Item.{Item}
use Rattle.run_defs.specs.Units.{cu_up_of}
use Rattle.run_defs.specs.Written.{Written}
use Rattle.run_defs.specs.States.{State, new_state}
use Rattle.run_defs.specs.Runs.{Reading, plain_world, taken_of}
use Rattle.proof_run_steps.specs.steps.Reached.{reached}
use Rattle.proof_cu_up_orders.specs.context_orders.Orders.{CuUpModel}
use Rattle.law_tunnels_are_owned.specs.run_tunnels.Own.{IsOfKind, IsOwnAt}
use Rattle.law_tunnels_are_owned.proofs.run_tunnels.Runs.{own_in_runs}
use Rattle.law_tunnels_are_owned.specs.item_fits.Fits.{ControlAssumes, IsFit}

pub fits : (p : CuUpModel) (kind : TunnelKind) (dir : Dir) (load : Load Pdu) → IsOfKind kind dir load → ControlAssumes p kind (taken_of load) → IsFit p kind (taken_of load)
fits p n3 Dl (fresh packet) is owed = inl tt
fits p n3 Dl end_marker is owed = inl owed
fits p n3 Dl (numbered sn count packet) is owed = absurd is
fits p n3 Dl (frame poll restart number pdu) is owed = absurd is
fits p n3 Dl (uplink pdu) is owed = absurd is
fits p n3 Dl (status lost delivered) is owed = absurd is
fits p n3 Ul load is owed = absurd is
fits p forwarding_down Dl (fresh packet) is owed = inl tt
fits p forwarding_down Dl (numbered sn count packet) is owed = inl owed
fits p forwarding_down Dl end_marker is owed = inl owed
fits p forwarding_down Dl (frame poll restart number pdu) is owed = absurd is
fits p forwarding_down Dl (uplink pdu) is owed = absurd is
fits p forwarding_down Dl (status lost delivered) is owed = absurd is
fits p forwarding_down Ul load is owed = absurd is
fits p forwarding_up Ul (numbered sn count packet) is owed = inr tt
fits p forwarding_up Ul end_marker is owed = inr owed
fits p forwarding_up Ul (fresh packet) is owed = absurd is
fits p forwarding_up Ul (frame poll restart number pdu) is owed = absurd is
fits p forwarding_up Ul (uplink pdu) is owed = absurd is
fits p forwarding_up Ul (status lost delivered) is owed = absurd is
fits p forwarding_up Dl load is owed = absurd is
fits p f1u_uplink Dl (status lost delivered) is owed = inl owed
fits p f1u_uplink Dl (fresh packet) is owed = absurd is
fits p f1u_uplink Dl (numbered sn count packet) is owed = absurd is
fits p f1u_uplink Dl (frame poll restart number pdu) is owed = absurd is
fits p f1u_uplink Dl (uplink pdu) is owed = absurd is
fits p f1u_uplink Dl end_marker is owed = absurd is
fits p f1u_uplink Ul (uplink (packet_pdu count packet)) is owed = inr tt
fits p f1u_uplink Ul (uplink (report_pdu fmc bits)) is owed = inl tt
fits p f1u_uplink Ul end_marker is owed = inr tt
fits p f1u_uplink Ul (fresh packet) is owed = absurd is
fits p f1u_uplink Ul (numbered sn count packet) is owed = absurd is
fits p f1u_uplink Ul (frame poll restart number pdu) is owed = absurd is
fits p f1u_uplink Ul (status lost delivered) is owed = absurd is

module _ (reading : Reading) (events : List Event) (t : State (Message Token) Token (Written (Load Pdu)) (Written Pdu))
    (is : reached (plain_world reading) events new_state ≡ Some t) (gnb : Gnb) (number teid : ℕ) (owner : CuUpTunnel) where
  abbrev Fits : List (Item (Written (Load Pdu))) → Type 0
  Fits items =
      AllByRecursion (λ (item : Item (Written (Load Pdu))). (p : CuUpModel) → ControlAssumes p owner.kind (taken_of item.content.says)
      → IsFit p owner.kind (taken_of item.content.says)) items

  each_fits : find nat_cmp (cu_up_of t.units gnb number).tunnels teid ≡ Some owner → (items : List (Item (Written (Load Pdu))))
      → AllByRecursion (λ (item : Item (Written (Load Pdu))). IsOwnAt t.units (CuUp gnb number) teid item.key item.content.says) items → Fits items
  each_fits is_open [] own = tt
  each_fits is_open (item ∷ items) own =
      (λ p owed. fits p owner.kind item.key.dir item.content.says (own.0 owner is_open).2 owed, each_fits is_open items own.1)

  pub items_fit : (items : List (Item (Written (Load Pdu)))) → find nat_cmp (cu_up_of t.units gnb number).tunnels teid ≡ Some owner
      → find tunnel_cmp t.tunnels (record { node = CuUp gnb number; teid = teid }) ≡ Some items → Fits items
  items_fit items is_open found = each_fits is_open items (own_in_runs reading events t is (record { node = CuUp gnb number; teid = teid }) items found)
