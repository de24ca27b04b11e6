-- Fields are read from their values as they are.
use Rattle.std.proofs.Common.{◌≡◌, Bool, List, [], ◌∷◌, Option, Some, None, option_map, refl, ap, ◌∙◌}
use Rattle.gnb_types.specs.declared.names.Gnb.{Gnb}
use Rattle.gnb_types.specs.declared.names.Gnb.TheVariants.{A, B}
use Rattle.gnb_types.specs.declared.names.SnBits.{SnBits}
use Rattle.gnb_types.specs.declared.names.SnBits.TheVariants.{Len12, Len18}
use Rattle.gnb_types.specs.declared.plans.Peer.{Peer}
use Rattle.gnb_types.specs.declared.plans.Tunnel.{Tunnel}
use Rattle.gnb_types.specs.declared.plans.SnStatus.{SnStatus}
use Rattle.message_defs.specs.Fields.{gnb_index, gnb_at, from_sn, to_sn, from_peer, to_peer, from_tunnel, to_tunnel, from_each, to_each, from_tunnels, to_tunnels, from_received, to_received, from_status, to_status, from_statuses, to_statuses}

pub gnb_back : (g : Gnb) → gnb_at (gnb_index g) ≡ g
gnb_back A = refl
gnb_back B = refl

pub sn_back : (sn : SnBits) → to_sn (from_sn sn) ≡ sn
sn_back Len12 = refl
sn_back Len18 = refl

pub peer_back : (p : Peer) → to_peer (from_peer p) ≡ p
peer_back p = ap (λ (g : Gnb). let peer : Peer = record { gnb = g; up = p.up } in peer) (gnb_back p.gnb)

tunnels_each : (ts : List Tunnel) → to_each to_tunnel (from_each from_tunnel ts) ≡ ts
tunnels_each [] = refl
tunnels_each (t ∷ ts) = ap (λ (xs : List Tunnel). t ∷ xs) (tunnels_each ts)

pub tunnels_back : (ts : List Tunnel) → to_tunnels (from_tunnels ts) ≡ ts
tunnels_back ts = tunnels_each ts

received_back : (bs : Option (List Bool)) → to_received (from_received bs) ≡ bs
received_back None = refl
received_back (Some bs) = refl

pub status_back : (s : SnStatus) → to_status (from_status s) ≡ s
status_back s = ap (λ (bs : Option (List Bool)). let status : SnStatus = record {
  bearer = s.bearer;
  dl_next = s.dl_next;
  ul_first = s.ul_first;
  ul_received = bs;
} in status) (received_back s.ul_received)

statuses_each : (ss : List SnStatus) → to_each to_status (from_each from_status ss) ≡ ss
statuses_each [] = refl
statuses_each (s ∷ ss) = ap (λ (x : SnStatus). x ∷ to_each to_status (from_each from_status ss)) (status_back s)
    ∙ ap (λ (xs : List SnStatus). s ∷ xs) (statuses_each ss)

pub statuses_back : (ss : List SnStatus) → to_statuses (from_statuses ss) ≡ ss
statuses_back ss = statuses_each ss

-- of what may be there
pub optional_back : {A B : Type 0} → (f : A → B) (g : B → A) → ((x : A) → g (f x) ≡ x) → (x : Option A) → option_map g (option_map f x) ≡ x
optional_back f g back None = refl
optional_back f g back (Some x) = ap Some (back x)
