-- The oldest item of a tunnel stands first in the model's list.
use Rattle.std.proofs.Common.{◌≡◌, ℕ, true, List, ◌∷◌, ◌++◌, Option, Some, None, refl, sym, ap, ◌∙◌}
use Rattle.unit_defs.specs.Ways.{Load, fresh, numbered, frame, uplink, status, end_marker, Pdu, packet_pdu, report_pdu}
use Rattle.unit_defs.specs.CuUpRecords.{CuUpBearer, TunnelKind, n3, f1u_uplink, forwarding_down, forwarding_up}
use Rattle.unit_defs.specs.CuUpBearers.{teid_in, is_one_of}
use Rattle.run_defs.specs.Runs.{taken_of}
use Rattle.bearer_defs.specs.chain_defs.Models as down_models
use Rattle.bearer_defs.specs.chain_defs.Models.{is_open}
use Rattle.bearer_defs.specs.uplink_defs.Models as up_models
use Rattle.proof_cu_up_orders.specs.chain_rows.Shown.{item_of}
use Rattle.proof_cu_up_orders.specs.context_orders.Orders.{CuUpModel}
use Rattle.proof_cu_up_orders.specs.down_orders.Down as down_rows
use Rattle.proof_cu_up_orders.specs.orders.Up as up_rows
use Rattle.proof_cu_up_orders.specs.kept.Down as down_asks
use Rattle.proof_cu_up_orders.specs.kept.Up as up_asks
use Rattle.law_tunnels_are_owned.specs.owner_facts.Owned.{ends_of}
use Rattle.proof_bearer_refinement.specs.refinement_facts.Refinements.{RunItem, downs_of, up_item, ups_of, IsMirror}
use Rattle.proof_bearer_refinement.proofs.refinement_facts.Ends.{clash}

open_one : (o : Option ℕ) (teid : ℕ) → is_one_of (teid_in o) teid ≡ true → is_open o ≡ true
open_one None teid has = clash has
open_one (Some a) teid has = refl

module _ (m : down_models.Member) (k : up_models.Member) (teid : ℕ) where
  abbrev DownEq : TunnelKind → Load Pdu → List down_models.Item → Type 0
  DownEq n3 load rest = item_of load ++ rest ≡ m.n3
  DownEq forwarding_down load rest = item_of load ++ rest ≡ m.forwarded
  DownEq f1u_uplink load rest = Unit {0}
  DownEq forwarding_up load rest = Unit {0}

  down_by : (kind : TunnelKind) (load : Load Pdu) (rest : List down_models.Item) → DownEq kind load rest → (kind ≡ n3 → is_open m.bearer.n3 ≡ true)
      → down_asks.StandsFirst m rest kind (taken_of load)
  down_by n3 (fresh p) rest is shut = (shut refl, sym is)
  down_by n3 end_marker rest is shut = (shut refl, sym is)
  down_by forwarding_down (fresh p) rest is shut = sym is
  down_by forwarding_down (numbered sn count p) rest is shut = sym is
  down_by forwarding_down end_marker rest is shut = sym is
  down_by n3 (numbered sn count p) rest is shut = tt
  down_by n3 (frame poll restart number pdu) rest is shut = tt
  down_by n3 (uplink pdu) rest is shut = tt
  down_by n3 (status lost delivered) rest is shut = tt
  down_by forwarding_down (frame poll restart number pdu) rest is shut = tt
  down_by forwarding_down (uplink pdu) rest is shut = tt
  down_by forwarding_down (status lost delivered) rest is shut = tt
  down_by f1u_uplink (fresh p) rest is shut = tt
  down_by f1u_uplink (numbered sn count p) rest is shut = tt
  down_by f1u_uplink (frame poll restart number pdu) rest is shut = tt
  down_by f1u_uplink (uplink pdu) rest is shut = tt
  down_by f1u_uplink (status lost delivered) rest is shut = tt
  down_by f1u_uplink end_marker rest is shut = tt
  down_by forwarding_up (fresh p) rest is shut = tt
  down_by forwarding_up (numbered sn count p) rest is shut = tt
  down_by forwarding_up (frame poll restart number pdu) rest is shut = tt
  down_by forwarding_up (uplink pdu) rest is shut = tt
  down_by forwarding_up (status lost delivered) rest is shut = tt
  down_by forwarding_up end_marker rest is shut = tt

  down_eq : (kind : TunnelKind) (item : RunItem) (rest : List RunItem) → IsMirror kind m k teid (item ∷ rest) → DownEq kind item.content.says (downs_of rest)
  unfolding downs_of
  down_eq n3 item rest is = is
  down_eq forwarding_down item rest is = is
  down_eq f1u_uplink item rest is = tt
  down_eq forwarding_up item rest is = tt

  abbrev UpEq : TunnelKind → Load Pdu → List up_models.Item → Type 0
  UpEq f1u_uplink load rest = up_item load ++ rest ≡ k.uplink teid
  UpEq forwarding_up load rest = up_item load ++ rest ≡ k.forwarded
  UpEq n3 load rest = Unit {0}
  UpEq forwarding_down load rest = Unit {0}

  up_by : (kind : TunnelKind) (load : Load Pdu) (rest : List up_models.Item) → UpEq kind load rest
      → (kind ≡ f1u_uplink → is_one_of k.bearer.uplinks teid ≡ true) → up_asks.StandsFirst k rest kind teid (taken_of load)
  up_by f1u_uplink (uplink (packet_pdu count p)) rest is shut = (shut refl, sym is)
  up_by f1u_uplink end_marker rest is shut = (shut refl, sym is)
  up_by forwarding_up (numbered sn count p) rest is shut = sym is
  up_by forwarding_up end_marker rest is shut = sym is
  up_by f1u_uplink (uplink (report_pdu fmc bits)) rest is shut = tt
  up_by f1u_uplink (fresh p) rest is shut = tt
  up_by f1u_uplink (numbered sn count p) rest is shut = tt
  up_by f1u_uplink (frame poll restart number pdu) rest is shut = tt
  up_by f1u_uplink (status lost delivered) rest is shut = tt
  up_by forwarding_up (fresh p) rest is shut = tt
  up_by forwarding_up (frame poll restart number pdu) rest is shut = tt
  up_by forwarding_up (uplink pdu) rest is shut = tt
  up_by forwarding_up (status lost delivered) rest is shut = tt
  up_by n3 (fresh p) rest is shut = tt
  up_by n3 (numbered sn count p) rest is shut = tt
  up_by n3 (frame poll restart number pdu) rest is shut = tt
  up_by n3 (uplink pdu) rest is shut = tt
  up_by n3 (status lost delivered) rest is shut = tt
  up_by n3 end_marker rest is shut = tt
  up_by forwarding_down (fresh p) rest is shut = tt
  up_by forwarding_down (numbered sn count p) rest is shut = tt
  up_by forwarding_down (frame poll restart number pdu) rest is shut = tt
  up_by forwarding_down (uplink pdu) rest is shut = tt
  up_by forwarding_down (status lost delivered) rest is shut = tt
  up_by forwarding_down end_marker rest is shut = tt

  up_eq : (kind : TunnelKind) (item : RunItem) (rest : List RunItem) → IsMirror kind m k teid (item ∷ rest) → UpEq kind item.content.says (ups_of rest)
  unfolding ups_of
  up_eq f1u_uplink item rest is = is
  up_eq forwarding_up item rest is = is
  up_eq n3 item rest is = tt
  up_eq forwarding_down item rest is = tt

  -- where the models have the bearer, whose tunnel this is
  module _ (p : CuUpModel) (kind : TunnelKind) (has : is_one_of (ends_of kind p.bearer) teid ≡ true) (item : RunItem) (rest : List RunItem)
      (is : IsMirror kind m k teid (item ∷ rest)) where
    open_n3 : down_rows.IsDown m p → kind ≡ n3 → is_open m.bearer.n3 ≡ true
    open_n3 down at =
        ap (λ (b : CuUpBearer). is_open b.n3) down.bearer ∙ open_one p.bearer.n3 teid (sym (ap (λ (c : TunnelKind). is_one_of (ends_of c p.bearer) teid) at) ∙ has)

    open_uplink : up_rows.IsUp k p → kind ≡ f1u_uplink → is_one_of k.bearer.uplinks teid ≡ true
    open_uplink up at =
        ap (λ (b : CuUpBearer). is_one_of b.uplinks teid) up.bearer ∙ sym (ap (λ (c : TunnelKind). is_one_of (ends_of c p.bearer) teid) at) ∙ has

    pub first_down : down_rows.IsDown m p → down_asks.StandsFirst m (downs_of rest) kind (taken_of item.content.says)
    first_down down = down_by kind item.content.says (downs_of rest) (down_eq kind item rest is) (open_n3 down)

    pub first_up : up_rows.IsUp k p → up_asks.StandsFirst k (ups_of rest) kind teid (taken_of item.content.says)
    first_up up = up_by kind item.content.says (ups_of rest) (up_eq kind item rest is) (open_uplink up)
