-- The octets of what is of a tunnel's kind are those of the link between two nodes of this kind.
use Rattle.std.proofs.Common.{◌≡◌, ℕ, List, Option, sym, subst}
use Rattle.gnb_types.specs.declared.names.Gnb.TheVariants.{A}
use Rattle.gnb_types.specs.declared.names.NodeId.{NodeId}
use Rattle.gnb_types.specs.declared.names.NodeId.TheVariants.{CuUp as up_id, Du as du_id, Core}
use Rattle.gnb_types.specs.declared.names.SnBits.{SnBits}
use Rattle.gnb_types.specs.declared.names.Dir.{Dir}
use Rattle.gnb_types.specs.declared.names.Dir.TheVariants.{Dl, Ul}
use Rattle.unit_defs.specs.Ways.{Pdu, Load}
use Rattle.unit_defs.specs.CuUpRecords.{TunnelKind, n3, f1u_uplink, forwarding_down, forwarding_up}
use Rattle.unit_defs.specs.octet_defs.Writing.{load_octets, written_load}
use Rattle.transport_defs.specs.declared.Item.{Item}
use Rattle.run_defs.specs.Carried.{Layout, F1uDownlink}
use Rattle.run_defs.specs.Written.{Written}
use Rattle.run_defs.specs.Units.{Units}
use Rattle.proof_run_steps.specs.facts.UnitFacts.{HasOctets}
use Rattle.law_tunnels_are_owned.specs.link_items.Items.{count_of_load}
use Rattle.law_tunnels_are_owned.proofs.laid_out.Laid.{laid_between}
use Rattle.law_tunnels_are_owned.specs.run_tunnels.Own.{IsOfKind, IsOwnAt, layout_of, IsLaidBy, IsLaidAt}

abbrev Shaped : Layout → ℕ → SnBits → Load Pdu → Type 0
Shaped layout teid sn load = (bits : SnBits) × layout bits teid (count_of_load load) (load_octets teid (written_load sn load))

kind_laid : (teid : ℕ) (sn : SnBits) (kind : TunnelKind) (dir : Dir) (load : Load Pdu) → IsOfKind kind dir load → Shaped (layout_of kind dir) teid sn load
kind_laid teid sn n3 Dl load is = laid_between teid sn Core (up_id A 1) Dl load is
kind_laid teid sn forwarding_down Dl load is = laid_between teid sn (up_id A 1) (up_id A 1) Dl load is
kind_laid teid sn forwarding_up Ul load is = laid_between teid sn (up_id A 1) (up_id A 1) Ul load is
kind_laid teid sn f1u_uplink Dl load is = laid_between teid sn (du_id A 1) (up_id A 1) Dl load is
kind_laid teid sn f1u_uplink Ul load is = laid_between teid sn (du_id A 1) (up_id A 1) Ul load is
kind_laid teid sn kind dir load is = absurd is

by_octets : (layout : Layout) (teid : ℕ) (item : Item (Written (Load Pdu))) → item.count ≡ count_of_load item.content.says → (octets : HasOctets teid item)
    → Shaped layout teid octets.0 item.content.says → IsLaidBy layout teid item
by_octets layout teid item shows octets is = (
  is.0,
  subst (λ (o : List ℕ). layout is.0 teid item.count o) (sym octets.1)
      (subst (λ (c : Option ℕ). layout is.0 teid c (load_octets teid (written_load octets.0 item.content.says))) (sym shows) is.1),
)

pub laid_at : {M C : Type 0} (units : Units M C) (node : NodeId) (teid : ℕ) (item : Item (Written (Load Pdu))) → item.count ≡ count_of_load item.content.says
    → HasOctets teid item → IsOwnAt units node teid item.key item.content.says → IsLaidAt units node teid item
laid_at units (up_id g n) teid item shows octets own =
    λ owner there.
    by_octets (layout_of owner.kind item.key.dir) teid item shows octets
    (kind_laid teid octets.0 owner.kind item.key.dir item.content.says (own owner there).2)
laid_at units (du_id g n) teid item shows octets own =
    λ owner there.
    by_octets F1uDownlink teid item shows octets (laid_between teid octets.0 (up_id A 1) (du_id g n) Dl item.content.says (own owner there).2.1)
laid_at units node teid item shows octets own = absurd own
