-- What is written for a message is heard as it: E1Message.
use Rattle.std.proofs.Common.{◌≡◌, ℕ, List, [], ◌∷◌, Option, Some, None, option_map, Result, Ok, refl, ap, ◌∙◌}
use Rattle.gnb_types.specs.declared.names.SnBits.{SnBits}
use Rattle.gnb_types.specs.declared.names.UeId.{UeId}
use Rattle.gnb_types.specs.declared.plans.Peer.{Peer}
use Rattle.gnb_types.specs.declared.plans.Tunnel.{Tunnel}
use Rattle.gnb_types.specs.declared.plans.SnStatus.{SnStatus}
use Rattle.message_types.specs.declared.e1.E1Message.TheVariants as e1s
use Rattle.message_types.specs.declared.e1.E1Message.{E1Message}
use Rattle.message_defs.specs.Fields.{from_peer, to_peer, from_tunnels, to_tunnels, from_statuses, to_statuses, from_ue, from_number, to_number, to_index}
use Rattle.aper_defs.specs.Values.{Value, enumeral}
use Rattle.message_defs.specs.profile_defs.Elements as ies
use Rattle.message_defs.specs.profile_defs.Messages.{bearer_context_modification_request}
use Rattle.message_defs.specs.Places.{Field, has, may_have, written_elements, element_of, or_empty}
use Rattle.message_defs.specs.FromValue.{Cause, first_rejected, unless_rejected}
use Rattle.proof_heard_messages.proofs.Elements.{found, accepted}
use Rattle.message_defs.specs.E1.{written_e1, e1_at, e1_from_value}
use Rattle.proof_heard_messages.proofs.Fields.{sn_back, peer_back, tunnels_back, statuses_back, optional_back}

answer : E1Message → Result E1Message Cause
answer msg = Ok msg

-- what may be there, one by one
module _ (ue : UeId) (instance : ℕ) (downlinks : Option (List Tunnel)) (mode : ℕ) (peer : Option Peer)
    (forward_down forward_up : Option (List Tunnel)) (statuses : Option (List SnStatus)) (du : Option ℕ) where
  fields : List Field
  fields = has ies.ue (from_ue ue) ∷ has ies.instance (from_number instance) ∷ may_have ies.downlinks from_tunnels downlinks
      ∷ has ies.mode (enumeral mode) ∷ may_have ies.peer from_peer peer ∷ may_have ies.forward_down from_tunnels forward_down
      ∷ may_have ies.forward_up from_tunnels forward_up ∷ may_have ies.statuses from_statuses statuses
      ∷ may_have ies.du from_number du ∷ []

  by : (r : Option ℕ) (a b c d e f g : Option Value) → r ≡ None → a ≡ option_map from_tunnels downlinks → b ≡ Some (enumeral mode)
      → c ≡ option_map from_peer peer → d ≡ option_map from_tunnels forward_down → e ≡ option_map from_tunnels forward_up
      → f ≡ option_map from_statuses statuses → g ≡ option_map from_number du
      → unless_rejected r (e1s.BearerContextModificationRequest ue instance (option_map to_tunnels a) (to_index (or_empty b))
      (option_map to_peer c) (option_map to_tunnels d) (option_map to_tunnels e) (option_map to_statuses f) (option_map to_number g))
      ≡ answer (e1s.BearerContextModificationRequest ue instance downlinks mode peer forward_down forward_up statuses du)
  unfolding answer
  by r a b c d e f g hr ha hb hc hd he hf hg =
      let ja : option_map to_tunnels a ≡ downlinks = ap (option_map to_tunnels) ha ∙ optional_back from_tunnels to_tunnels tunnels_back downlinks in
      let jb : to_index (or_empty b) ≡ mode = ap (λ (x : Option Value). to_index (or_empty x)) hb in
      let jc : option_map to_peer c ≡ peer = ap (option_map to_peer) hc ∙ optional_back from_peer to_peer peer_back peer in
      let jd : option_map to_tunnels d ≡ forward_down =
      ap (option_map to_tunnels) hd ∙ optional_back from_tunnels to_tunnels tunnels_back forward_down in
      let je : option_map to_tunnels e ≡ forward_up =
      ap (option_map to_tunnels) he ∙ optional_back from_tunnels to_tunnels tunnels_back forward_up in
      let jf : option_map to_statuses f ≡ statuses =
      ap (option_map to_statuses) hf ∙ optional_back from_statuses to_statuses statuses_back statuses in
      let jg : option_map to_number g ≡ du = ap (option_map to_number) hg ∙ optional_back from_number to_number (λ n. refl) du in
      ap (λ (x : Option ℕ). unless_rejected x (e1s.BearerContextModificationRequest ue instance (option_map to_tunnels a)
      (to_index (or_empty b)) (option_map to_peer c) (option_map to_tunnels d) (option_map to_tunnels e) (option_map to_statuses f)
      (option_map to_number g))) hr
      ∙ (cc)

  heard_long : e1_from_value (written_e1 (e1s.BearerContextModificationRequest ue instance downlinks mode peer forward_down forward_up statuses du))
      ≡ answer (e1s.BearerContextModificationRequest ue instance downlinks mode peer forward_down forward_up statuses du)
  unfolding written_e1 e1_at e1_from_value fields
  heard_long =
      let uses = bearer_context_modification_request.elements in
      let all = written_elements uses fields in
      by (first_rejected uses all) (element_of ies.downlinks all) (element_of ies.mode all) (element_of ies.peer all)
      (element_of ies.forward_down all) (element_of ies.forward_up all) (element_of ies.statuses all) (element_of ies.du all)
      (accepted uses uses fields refl) (found ies.downlinks uses fields refl) (found ies.mode uses fields refl)
      (found ies.peer uses fields refl) (found ies.forward_down uses fields refl) (found ies.forward_up uses fields refl)
      (found ies.statuses uses fields refl) (found ies.du uses fields refl)

pub heard : (msg : E1Message) → e1_from_value (written_e1 msg) ≡ Ok msg
unfolding written_e1 e1_at e1_from_value answer
heard (e1s.E1SetupRequest instance name) = refl
heard (e1s.E1SetupResponse instance) = refl
heard (e1s.BearerContextSetupRequest ue instance bearers sn quota forward) = ap (λ (x : SnBits). answer (e1s.BearerContextSetupRequest ue instance bearers x quota forward)) (sn_back sn)
heard (e1s.BearerContextSetupResponse ue instance uplinks n3 None None) =
    ap (λ (x : List Tunnel). answer (e1s.BearerContextSetupResponse ue instance x (to_tunnels (from_tunnels n3)) None None)) (tunnels_back uplinks)
    ∙ ap (λ (x : List Tunnel). answer (e1s.BearerContextSetupResponse ue instance uplinks x None None)) (tunnels_back n3)
heard (e1s.BearerContextSetupResponse ue instance uplinks n3 None (Some forward_up)) =
    ap (λ (x : List Tunnel). answer (e1s.BearerContextSetupResponse ue instance x (to_tunnels (from_tunnels n3)) None (Some (to_tunnels (from_tunnels forward_up))))) (tunnels_back uplinks)
    ∙ ap (λ (x : List Tunnel). answer (e1s.BearerContextSetupResponse ue instance uplinks x None (Some (to_tunnels (from_tunnels forward_up))))) (tunnels_back n3)
    ∙ ap (λ (x : List Tunnel). answer (e1s.BearerContextSetupResponse ue instance uplinks n3 None (Some x))) (tunnels_back forward_up)
heard (e1s.BearerContextSetupResponse ue instance uplinks n3 (Some forward_down) None) =
    ap (λ (x : List Tunnel). answer (e1s.BearerContextSetupResponse ue instance x (to_tunnels (from_tunnels n3)) (Some (to_tunnels (from_tunnels forward_down))) None)) (tunnels_back uplinks)
    ∙ ap (λ (x : List Tunnel). answer (e1s.BearerContextSetupResponse ue instance uplinks x (Some (to_tunnels (from_tunnels forward_down))) None)) (tunnels_back n3)
    ∙ ap (λ (x : List Tunnel). answer (e1s.BearerContextSetupResponse ue instance uplinks n3 (Some x) None)) (tunnels_back forward_down)
heard (e1s.BearerContextSetupResponse ue instance uplinks n3 (Some forward_down) (Some forward_up)) =
    ap (λ (x : List Tunnel). answer (e1s.BearerContextSetupResponse ue instance x (to_tunnels (from_tunnels n3)) (Some (to_tunnels (from_tunnels forward_down))) (Some (to_tunnels (from_tunnels forward_up))))) (tunnels_back uplinks)
    ∙ ap (λ (x : List Tunnel). answer (e1s.BearerContextSetupResponse ue instance uplinks x (Some (to_tunnels (from_tunnels forward_down))) (Some (to_tunnels (from_tunnels forward_up))))) (tunnels_back n3)
    ∙ ap (λ (x : List Tunnel). answer (e1s.BearerContextSetupResponse ue instance uplinks n3 (Some x) (Some (to_tunnels (from_tunnels forward_up))))) (tunnels_back forward_down)
    ∙ ap (λ (x : List Tunnel). answer (e1s.BearerContextSetupResponse ue instance uplinks n3 (Some forward_down) (Some x))) (tunnels_back forward_up)
heard (e1s.BearerContextSetupFailure ue instance cause) = refl
heard (e1s.BearerContextModificationRequest ue instance downlinks mode peer forward_down forward_up statuses du) = heard_long ue instance downlinks mode peer forward_down forward_up statuses du
heard (e1s.BearerContextModificationResponse ue instance None None) = refl
heard (e1s.BearerContextModificationResponse ue instance None (Some statuses)) = ap (λ (x : List SnStatus). answer (e1s.BearerContextModificationResponse ue instance None (Some x))) (statuses_back statuses)
heard (e1s.BearerContextModificationResponse ue instance (Some uplinks) None) = ap (λ (x : List Tunnel). answer (e1s.BearerContextModificationResponse ue instance (Some x) None)) (tunnels_back uplinks)
heard (e1s.BearerContextModificationResponse ue instance (Some uplinks) (Some statuses)) =
    ap (λ (x : List Tunnel). answer (e1s.BearerContextModificationResponse ue instance (Some x) (Some (to_statuses (from_statuses statuses))))) (tunnels_back uplinks)
    ∙ ap (λ (x : List SnStatus). answer (e1s.BearerContextModificationResponse ue instance (Some uplinks) (Some x))) (statuses_back statuses)
heard (e1s.BearerContextModificationFailure ue instance cause) = refl
heard (e1s.BearerContextReleaseCommand ue instance is_final) = refl
heard (e1s.BearerContextReleaseComplete ue instance) = refl
