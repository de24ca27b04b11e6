-- What is written for the messages and tokens of the tests is a value of its type.
use Rattle.std.proofs.Common.{◌≡◌, ℕ, [], ◌∷◌, List, Bool, Option, Some, None, true, sym, subst, rules}
use Rattle.std.specs.Prelude.{codes}
use Rattle.bits_core.specs.Bits.{bits_of}
use Rattle.gnb_types.specs.declared.names.Gnb.TheVariants.{A, B}
use Rattle.gnb_types.specs.declared.names.SnBits.TheVariants.{Len12, Len18}
use Rattle.gnb_types.specs.declared.names.UeId.{UeId}
use Rattle.gnb_types.specs.declared.plans.Peer.{Peer}
use Rattle.gnb_types.specs.declared.plans.Tunnel.{Tunnel}
use Rattle.gnb_types.specs.declared.plans.SnStatus.{SnStatus}
use Rattle.gnb_types.specs.declared.names.Gnb.{Gnb}
use Rattle.message_types.specs.declared.xn.CoreMessage.TheVariants as cores
use Rattle.message_types.specs.declared.xn.XnMessage.TheVariants as xns
use Rattle.message_types.specs.declared.rrc.Token.TheVariants as tokens
use Rattle.aper_defs.specs.Trees.{Tree}
use Rattle.aper_defs.specs.Values.{Value}
use Rattle.aper_defs.specs.Bits.{put_all}
use Rattle.aper_defs.specs.Parts.{number_fields, integer_fields, index_fields, part_fields, string_fields, count_fields}
use Rattle.aper_defs.specs.Layouts.{layout, component_fields, addition_fields, alternative_fields, added_fields, row_fields, body_fields, outcome_fields}
use Rattle.aper_defs.specs.Membership.{Has, HasComponents, HasAdditions, HasAlternative, HasAdded, HasRow, HasBody, HasOutcome}
use Rattle.message_defs.specs.profile_defs.Forms.{tree, parts, rows, procedures, outcome_tree}
use Rattle.message_defs.specs.profile_defs.Profile.{core_type, xn_type, token_type}
use Rattle.message_defs.specs.Core.{written_core}
use Rattle.message_defs.specs.Xn.{written_xn}
use Rattle.message_defs.specs.Tokens.{written_token}

abbrev ue : ℕ → UeId
ue n = record { 0 = n }

abbrev peer : Gnb → ℕ → Peer
peer g up = record { gnb = g; up = up }

abbrev tunnel : ℕ → ℕ → Tunnel
tunnel bearer teid = record { bearer = record { 0 = bearer }; teid = teid }

abbrev pub Are : Tree → List Value → Type 0
Are t [] = Unit {0}
Are t (v ∷ vs) = Has [] t v × Are t vs

pub tokens_are : Are token_type (
    written_token (tokens.Command (ue 1) 0 A 1)
    ∷ written_token (tokens.Command (ue 16) 4294967295 B 2)
    ∷ written_token (tokens.Complete (ue 1) 0)
    ∷ written_token (tokens.Reestablish (ue 16) 4294967295)
    ∷ written_token (tokens.Accepted (ue 7) 2)
    ∷ [])
unfolding bits_of put_all number_fields integer_fields index_fields part_fields string_fields count_fields layout component_fields addition_fields alternative_fields added_fields row_fields body_fields outcome_fields token_type tree parts rows procedures outcome_tree written_token Has HasComponents HasAdditions HasAlternative HasAdded HasRow HasBody HasOutcome
tokens_are = search rules

pub switches_are : Are core_type (
    written_core (cores.PathSwitchRequest (ue 16) 4294967295 (peer B 2) (tunnel 8 4294967295 ∷ []))
    ∷ written_core (cores.PathSwitchAcknowledge (ue 1) 0)
    ∷ [])
unfolding bits_of put_all number_fields integer_fields index_fields part_fields string_fields count_fields layout component_fields addition_fields alternative_fields added_fields row_fields body_fields outcome_fields core_type tree parts rows procedures outcome_tree written_core Has HasComponents HasAdditions HasAlternative HasAdded HasRow HasBody HasOutcome
switches_are = search rules

pub messages_are : Are (xn_type 1) (
    written_xn (xns.HandoverRequest (ue 1) 0 0 1 Len12 4 (peer A 1) 1 None)
    ∷ written_xn (xns.HandoverRequestAcknowledge (ue 2) 1 (peer B 1) (tunnel 1 3 ∷ []) (tunnel 1 4 ∷ []))
    ∷ written_xn (xns.HandoverPreparationFailure (ue 2) 1 66)
    ∷ written_xn (xns.SnStatusTransfer (ue 3) 2 (record { bearer = record { 0 = 1 }; dl_next = 7; ul_first = 4294967295; ul_received = Some (true ∷ []) } ∷ []))
    ∷ written_xn (xns.HandoverCancel (ue 1) 3)
    ∷ written_xn (xns.UeContextRelease (ue 1) 4)
    ∷ written_xn (xns.TransportConfirm (ue 1) 5)
    ∷ [])
unfolding bits_of put_all number_fields integer_fields index_fields part_fields string_fields count_fields layout component_fields addition_fields alternative_fields added_fields row_fields body_fields outcome_fields xn_type tree parts rows procedures outcome_tree written_xn Has HasComponents HasAdditions HasAlternative HasAdded HasRow HasBody HasOutcome
messages_are = search rules

pub with_origin : Has [] (xn_type 2) (written_xn (xns.HandoverRequest (ue 16) 4294967295 4294967295 8 Len18 4096 (peer B 2) 2 (Some (codes "A.cp"))))
unfolding bits_of put_all number_fields integer_fields index_fields part_fields string_fields count_fields layout component_fields addition_fields alternative_fields added_fields row_fields body_fields outcome_fields xn_type tree parts rows procedures outcome_tree written_xn Has HasComponents HasAdditions HasAlternative HasAdded HasRow HasBody HasOutcome
with_origin = search rules

-- ---- with lists that are made when the test runs
abbrev status : Option (List Bool) → SnStatus
status received = record { bearer = record { 0 = 1 }; dl_next = 7; ul_first = 4294967295; ul_received = received }

pub switch_of : (n3 : List Tunnel) → n3 ≡ tunnel 8 4294967295 ∷ []
    → Has [] core_type (written_core (cores.PathSwitchRequest (ue 16) 4294967295 (peer B 2) n3))
switch_of n3 e =
    subst (λ (ts : List Tunnel). Has [] core_type (written_core (cores.PathSwitchRequest (ue 16) 4294967295 (peer B 2) ts))) (sym e) switches_are.0

pub acknowledge_of : (down up : List Tunnel) → down ≡ tunnel 1 3 ∷ [] → up ≡ tunnel 1 4 ∷ []
    → Has [] (xn_type 1) (written_xn (xns.HandoverRequestAcknowledge (ue 2) 1 (peer B 1) down up))
acknowledge_of down up d u =
    subst (λ (ts : List Tunnel). Has [] (xn_type 1) (written_xn (xns.HandoverRequestAcknowledge (ue 2) 1 (peer B 1) ts up))) (sym d)
    (subst (λ (ts : List Tunnel). Has [] (xn_type 1) (written_xn (xns.HandoverRequestAcknowledge (ue 2) 1 (peer B 1) (tunnel 1 3 ∷ []) ts))) (sym u)
    messages_are.1.0)

pub statuses_of : (bits : List Bool) (ss : List SnStatus) → bits ≡ true ∷ [] → ss ≡ status (Some bits) ∷ []
    → Has [] (xn_type 1) (written_xn (xns.SnStatusTransfer (ue 3) 2 ss))
statuses_of bits ss b s =
    subst (λ (ts : List SnStatus). Has [] (xn_type 1) (written_xn (xns.SnStatusTransfer (ue 3) 2 ts))) (sym s)
    (subst (λ (bs : List Bool). Has [] (xn_type 1) (written_xn (xns.SnStatusTransfer (ue 3) 2 (status (Some bs) ∷ [])))) (sym b)
    messages_are.1.1.1.0)

pub origin_of : (origin : List ℕ) → origin ≡ codes "A.cp"
    → Has [] (xn_type 2) (written_xn (xns.HandoverRequest (ue 16) 4294967295 4294967295 8 Len18 4096 (peer B 2) 2 (Some origin)))
origin_of origin e =
    subst (λ (cs : List ℕ). Has [] (xn_type 2) (written_xn (xns.HandoverRequest (ue 16) 4294967295 4294967295 8 Len18 4096 (peer B 2) 2 (Some cs))))
    (sym e) with_origin
