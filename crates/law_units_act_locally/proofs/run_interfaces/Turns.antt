-- An interface joins two nodes both ways, and a reply is of the interface of its request.
use Rattle.std.proofs.Common.{◌≡◌, true, not, refl, sym, ap, subst}
use Rattle.gnb_types.specs.declared.names.Gnb.{Gnb}
use Rattle.gnb_types.specs.declared.names.Gnb.TheVariants.{A, B}
use Rattle.gnb_types.specs.declared.names.NodeId.{NodeId}
use Rattle.gnb_types.specs.declared.names.NodeId.TheVariants.{CuCp, CuUp, Du, Core, Ue}
use Rattle.message_types.specs.declared.f1.F1.TheVariants as f1s
use Rattle.message_types.specs.declared.e1.E1Message.TheVariants as e1s
use Rattle.message_types.specs.declared.xn.XnMessage.TheVariants as xns
use Rattle.message_types.specs.declared.xn.CoreMessage.TheVariants as cores
use Rattle.unit_defs.specs.Ways.{f1, e1, xn, core}
use Rattle.unit_defs.specs.Messages.{is_same_gnb, shares_interface}
use Rattle.law_requests_act_once.specs.channel.Replies.{answers}
use Rattle.law_units_act_locally.specs.cu_cp_interfaces.Interfaces.{Interface, f1_c, e1_c, xn_c, to_core, on_radio, interface_of, Joins, IsOf}
use Rattle.law_units_act_locally.specs.cu_cp_interfaces.Ledgers.{Said}
use Rattle.law_units_act_locally.proofs.cu_cp_interfaces.CuCps.{apart_back}

turn_f1 : (from to : NodeId) → Joins f1_c from to → Joins f1_c to from
turn_f1 (CuCp g) (Du h n) p = p
turn_f1 (Du h n) (CuCp g) p = p
turn_f1 from to p = absurd p

turn_e1 : (from to : NodeId) → Joins e1_c from to → Joins e1_c to from
turn_e1 (CuCp g) (CuUp h n) p = p
turn_e1 (CuUp h n) (CuCp g) p = p
turn_e1 from to p = absurd p

turn_xn : (from to : NodeId) → Joins xn_c from to → Joins xn_c to from
turn_xn (CuCp g) (CuCp h) p = apart_back g h p
turn_xn from to p = absurd p

turn_core : (from to : NodeId) → Joins to_core from to → Joins to_core to from
turn_core (CuCp g) Core p = p
turn_core Core (CuCp g) p = p
turn_core from to p = absurd p

turn_radio : (from to : NodeId) → Joins on_radio from to → Joins on_radio to from
turn_radio (Du g n) (Ue ue) p = p
turn_radio (Ue ue) (Du g n) p = p
turn_radio from to p = absurd p

turn : (interface : Interface) (from to : NodeId) → Joins interface from to → Joins interface to from
turn f1_c from to p = turn_f1 from to p
turn e1_c from to p = turn_e1 from to p
turn xn_c from to p = turn_xn from to p
turn to_core from to p = turn_core from to p
turn on_radio from to p = turn_radio from to p

-- the reply to a request is of its interface
same_interface : (a b : Said) → answers a b ≡ true → interface_of a ≡ interface_of b
same_interface (f1 (f1s.F1SetupRequest instance name)) (f1 m) e = refl
same_interface (f1 (f1s.F1SetupRequest instance name)) b e = absurd cc
same_interface (f1 (f1s.UeContextSetupRequest ue instance epoch uplinks sn peer)) (f1 m) e = refl
same_interface (f1 (f1s.UeContextSetupRequest ue instance epoch uplinks sn peer)) b e = absurd cc
same_interface (f1 (f1s.UeContextModificationRequest ue instance epoch)) (f1 m) e = refl
same_interface (f1 (f1s.UeContextModificationRequest ue instance epoch)) b e = absurd cc
same_interface (f1 (f1s.UeContextReleaseCommand ue instance)) (f1 m) e = refl
same_interface (f1 (f1s.UeContextReleaseCommand ue instance)) b e = absurd cc
same_interface (e1 (e1s.E1SetupRequest instance name)) (e1 m) e = refl
same_interface (e1 (e1s.E1SetupRequest instance name)) b e = absurd cc
same_interface (e1 (e1s.BearerContextSetupRequest ue instance bearers sn quota forward)) (e1 m) e = refl
same_interface (e1 (e1s.BearerContextSetupRequest ue instance bearers sn quota forward)) b e = absurd cc
same_interface (e1 (e1s.BearerContextModificationRequest ue instance downlinks mode peer down up statuses du)) (e1 m) e = refl
same_interface (e1 (e1s.BearerContextModificationRequest ue instance downlinks mode peer down up statuses du)) b e = absurd cc
same_interface (e1 (e1s.BearerContextReleaseCommand ue instance is_final)) (e1 m) e = refl
same_interface (e1 (e1s.BearerContextReleaseCommand ue instance is_final)) b e = absurd cc
same_interface (xn (xns.HandoverRequest ue instance epoch bearers sn quota peer du origin)) (xn m) e = refl
same_interface (xn (xns.HandoverRequest ue instance epoch bearers sn quota peer du origin)) b e = absurd cc
same_interface (xn (xns.SnStatusTransfer ue instance statuses)) (xn m) e = refl
same_interface (xn (xns.SnStatusTransfer ue instance statuses)) b e = absurd cc
same_interface (xn (xns.HandoverCancel ue instance)) (xn m) e = refl
same_interface (xn (xns.HandoverCancel ue instance)) b e = absurd cc
same_interface (xn (xns.UeContextRelease ue instance)) (xn m) e = refl
same_interface (xn (xns.UeContextRelease ue instance)) b e = absurd cc
same_interface (core (cores.PathSwitchRequest ue instance peer n3)) (core m) e = refl
same_interface (core (cores.PathSwitchRequest ue instance peer n3)) b e = absurd cc
same_interface a b e = absurd cc

-- and so goes back over it
pub back : (from to : NodeId) (a b : Said) → answers a b ≡ true → IsOf from to a → IsOf to from b
back from to a b e p = subst (λ (x : Interface). Joins x to from) (same_interface a b e) (turn (interface_of a) from to p)

-- ---- nodes that an interface joins share one

same_self : (g h : Gnb) → h ≡ g → is_same_gnb g h ≡ true
same_self g h e = subst (λ (x : Gnb). is_same_gnb g x ≡ true) (sym e) (by g)
  where
    by : (x : Gnb) → is_same_gnb x x ≡ true
    by A = refl
    by B = refl

share_f1 : (from to : NodeId) → Joins f1_c from to → shares_interface from to ≡ true
share_f1 (CuCp g) (Du h n) p = same_self g h p
share_f1 (Du h n) (CuCp g) p = same_self g h p
share_f1 from to p = absurd p

share_e1 : (from to : NodeId) → Joins e1_c from to → shares_interface from to ≡ true
share_e1 (CuCp g) (CuUp h n) p = same_self g h p
share_e1 (CuUp h n) (CuCp g) p = same_self g h p
share_e1 from to p = absurd p

share_xn : (from to : NodeId) → Joins xn_c from to → shares_interface from to ≡ true
share_xn (CuCp g) (CuCp h) p = ap not p
share_xn from to p = absurd p

share_core : (from to : NodeId) → Joins to_core from to → shares_interface from to ≡ true
share_core (CuCp g) Core p = refl
share_core Core (CuCp g) p = refl
share_core from to p = absurd p

share_radio : (from to : NodeId) → Joins on_radio from to → shares_interface from to ≡ true
share_radio (Du g n) (Ue ue) p = refl
share_radio (Ue ue) (Du g n) p = refl
share_radio from to p = absurd p

pub joined_share : (interface : Interface) (from to : NodeId) → Joins interface from to → shares_interface from to ≡ true
joined_share f1_c from to p = share_f1 from to p
joined_share e1_c from to p = share_e1 from to p
joined_share xn_c from to p = share_xn from to p
joined_share to_core from to p = share_core from to p
joined_share on_radio from to p = share_radio from to p
