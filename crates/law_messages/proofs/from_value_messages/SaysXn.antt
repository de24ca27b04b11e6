-- XnMessage: what is heard in a value of the PDU is the message that the value says.
use Rattle.std.proofs.Common.{◌≡◌, ℕ, ◌==◌, Bool, true, false, cond, List, [], ◌∷◌, None, Result, Ok, Err, refl, sym, ap, subst, ◌∙◌}
use Rattle.std.specs.Prelude.{codes, if◌then◌else◌}
use Rattle.message_types.specs.declared.xn.XnMessage.TheVariants as xns
use Rattle.message_types.specs.declared.xn.XnMessage.{XnMessage}
use Rattle.aper_defs.specs.Trees.{Parts, no_parts}
use Rattle.aper_defs.specs.Values.{Value, Options, Ies, enumeral, text, raw, message, no_options, absent, present}
use Rattle.aper_defs.specs.Fields.{Path}
use Rattle.aper_defs.specs.Fields as fields
use Rattle.aper_defs.specs.Membership.{Has, HasAdditions, HasRow, HasBody, HasOutcome}
use Rattle.message_defs.specs.profile_defs.Forms.{Components, no_components, component, tree, parts, rows, procedures, outcome_tree}
use Rattle.message_defs.specs.profile_defs.BaseTypes as types
use Rattle.message_defs.specs.profile_defs.Elements as ies
use Rattle.message_defs.specs.profile_defs.Tables.{Use, is_at}
use Rattle.message_defs.specs.profile_defs.Messages.{xn_messages, handover_request, handover_request_acknowledge, handover_preparation_failure, sn_status_transfer, handover_cancel, ue_context_release, transport_confirm}
use Rattle.message_defs.specs.profile_defs.Profile.{xn_type}
use Rattle.message_defs.specs.Fields.{from_number, from_peer, from_sn, from_statuses, from_tunnels, from_ue, to_index, to_number, to_peer, to_sn, to_statuses, to_tunnels, to_ue}
use Rattle.message_defs.specs.Places.{has, the, elements_in, additions_in}
use Rattle.message_defs.specs.Known.{if_some, known, known_additions, known_row, known_body, known_message}
use Rattle.message_defs.specs.FromValue.{Cause, unknown_procedure, first_rejected, unless_rejected, rejected_in}
use Rattle.message_defs.specs.Xn.{origin_additions, to_origin, written_xn, xn_at, xn_from_value}
use Rattle.proof_heard_messages.proofs.HeardXn.{heard}
use Rattle.proof_messages.proofs.message_elements.Rounds.{ue_is, word_is, bearer_is, unit_is, quota_is, cause_is, sn_is, peer_is, tunnels_is, statuses_is}
use Rattle.proof_messages.proofs.message_elements.Matched.{none, one, must, its_tree, inside, are_its, additions_are, known_body_is, code_is, outcome_is, answer_is, here}

whole : ℕ → ℕ → Value → Value
whole index code body = message index code 0 body

same_answer : (a b : XnMessage) → (let x : Result XnMessage Cause = Ok a in x) ≡ Ok b → a ≡ b
same_answer a b h = cc

only : (a b : XnMessage) → written_xn a ≡ written_xn b → a ≡ b
only a b h = same_answer a b (sym (heard a) ∙ ap xn_from_value h ∙ heard b)

-- the additions of HandoverRequest in a version
abbrev pub additions_if : Bool → Components
additions_if b = if b then component (codes "origin") false types.name no_components else no_components

origin_is : (b : Bool) (p : Path) (more : Options) → HasAdditions p (parts (additions_if b)) more
    → if_some (known_additions (parts (additions_if b)) more) ≡ origin_additions (to_origin more)
unfolding tree parts known known_additions Has HasAdditions
origin_is false p no_options h = refl
origin_is false p (absent more) h = refl
origin_is false p (present (raw os) more) h = refl
origin_is false p (present v more) h = absurd h.0
origin_is true p no_options h = refl
origin_is true p (absent more) h = refl
origin_is true p (present (text origin) more) h = refl
origin_is true p (present v more) h = absurd h.0

handover_request_in : Value → XnMessage
handover_request_in body = xns.HandoverRequest (the ies.ue to_ue (elements_in body)) (the ies.instance to_number (elements_in body)) (the ies.epoch to_number (elements_in body)) (the ies.bearers to_number (elements_in body)) (the ies.sn to_sn (elements_in body)) (the ies.quota to_number (elements_in body)) (the ies.peer to_peer (elements_in body)) (the ies.du to_number (elements_in body)) (to_origin (additions_in body))

says_handover_request : (version : ℕ) (criticality : ℕ) (body : Value) → Has [] (xn_type version) (message 0 1 criticality body)
    → known (xn_type version) (message 0 1 criticality body) ≡ written_xn (handover_request_in body)
unfolding xn_type tree parts rows procedures outcome_tree known known_row known_body known_message Has HasRow HasBody HasOutcome written_xn handover_request_in whole
says_handover_request version criticality body h =
    let q : Path = fields.outcome 0 ∷ [] in
    let uses : List Use = (handover_request 2).elements in
    let additions : Parts = (parts (additions_if (version == 2))) in
    let p : Path = inside q uses additions in
    let found : Ies = elements_in body in
    let has_it : Has q (its_tree q uses additions) body = h.2.0 in
    let are = are_its q uses additions body has_it in
    ap (whole 0 1) (known_body_is q uses additions body
    (has ies.ue (from_ue (the ies.ue to_ue (elements_in body))) ∷ has ies.instance (from_number (the ies.instance to_number (elements_in body))) ∷ has ies.epoch (from_number (the ies.epoch to_number (elements_in body))) ∷ has ies.bearers (from_number (the ies.bearers to_number (elements_in body))) ∷ has ies.sn (from_sn (the ies.sn to_sn (elements_in body))) ∷ has ies.quota (from_number (the ies.quota to_number (elements_in body))) ∷ has ies.peer (from_peer (the ies.peer to_peer (elements_in body))) ∷ has ies.du (from_number (the ies.du to_number (elements_in body))) ∷ [])
    (origin_additions (to_origin (additions_in body))) has_it refl
    (one (must uses p found ies.ue from_ue to_ue refl are (λ w g. ue_is (fields.element 1 ∷ p) w g.0))
    (one (must uses p found ies.instance from_number to_number refl are (λ w g. word_is (fields.element 2 ∷ p) w g.0))
    (one (must uses p found ies.epoch from_number to_number refl are (λ w g. word_is (fields.element 3 ∷ p) w g.0))
    (one (must uses p found ies.bearers from_number to_number refl are (λ w g. bearer_is (fields.element 4 ∷ p) w g.0))
    (one (must uses p found ies.sn from_sn to_sn refl are (λ w g. sn_is (fields.element 9 ∷ p) w g.0))
    (one (must uses p found ies.quota from_number to_number refl are (λ w g. quota_is (fields.element 10 ∷ p) w g.0))
    (one (must uses p found ies.peer from_peer to_peer refl are (λ w g. peer_is (fields.element 12 ∷ p) w g.0))
    (one (must uses p found ies.du from_number to_number refl are (λ w g. unit_is (fields.element 19 ∷ p) w g.0)) none))))))))
    (origin_is (version == 2) q (additions_in body) (additions_are q uses additions body has_it)))

at_handover_request : (version : ℕ) (index code criticality : ℕ) (body : Value) → is_at code index (handover_request 2) ≡ true → Has [] (xn_type version) (message index code criticality body)
    → known (xn_type version) (message index code criticality body) ≡ written_xn (handover_request_in body)
at_handover_request version index code criticality body t h =
    subst (λ n. Has [] (xn_type version) (message n code criticality body) → known (xn_type version) (message n code criticality body) ≡ written_xn (handover_request_in body))
    (outcome_is code index (handover_request 2) t)
    (subst (λ n. Has [] (xn_type version) (message 0 n criticality body) → known (xn_type version) (message 0 n criticality body) ≡ written_xn (handover_request_in body))
    (code_is code index (handover_request 2) t) (says_handover_request version criticality body)) h

handover_request_acknowledge_in : Value → XnMessage
handover_request_acknowledge_in body = xns.HandoverRequestAcknowledge (the ies.ue to_ue (elements_in body)) (the ies.instance to_number (elements_in body)) (the ies.peer to_peer (elements_in body)) (the ies.forward_down to_tunnels (elements_in body)) (the ies.forward_up to_tunnels (elements_in body))

says_handover_request_acknowledge : (version : ℕ) (criticality : ℕ) (body : Value) → Has [] (xn_type version) (message 1 1 criticality body)
    → known (xn_type version) (message 1 1 criticality body) ≡ written_xn (handover_request_acknowledge_in body)
unfolding xn_type tree parts rows procedures outcome_tree known known_row known_body known_message Has HasRow HasBody HasOutcome written_xn handover_request_acknowledge_in whole
says_handover_request_acknowledge version criticality body h =
    let q : Path = fields.outcome 1 ∷ [] in
    let uses : List Use = handover_request_acknowledge.elements in
    let additions : Parts = no_parts in
    let p : Path = inside q uses additions in
    let found : Ies = elements_in body in
    let has_it : Has q (its_tree q uses additions) body = h.2.0 in
    let are = are_its q uses additions body has_it in
    ap (whole 1 1) (known_body_is q uses additions body
    (has ies.ue (from_ue (the ies.ue to_ue (elements_in body))) ∷ has ies.instance (from_number (the ies.instance to_number (elements_in body))) ∷ has ies.peer (from_peer (the ies.peer to_peer (elements_in body))) ∷ has ies.forward_down (from_tunnels (the ies.forward_down to_tunnels (elements_in body))) ∷ has ies.forward_up (from_tunnels (the ies.forward_up to_tunnels (elements_in body))) ∷ [])
    no_options has_it refl
    (one (must uses p found ies.ue from_ue to_ue refl are (λ w g. ue_is (fields.element 1 ∷ p) w g.0))
    (one (must uses p found ies.instance from_number to_number refl are (λ w g. word_is (fields.element 2 ∷ p) w g.0))
    (one (must uses p found ies.peer from_peer to_peer refl are (λ w g. peer_is (fields.element 12 ∷ p) w g.0))
    (one (must uses p found ies.forward_down from_tunnels to_tunnels refl are (λ w g. tunnels_is (fields.element 14 ∷ p) w g.0))
    (one (must uses p found ies.forward_up from_tunnels to_tunnels refl are (λ w g. tunnels_is (fields.element 15 ∷ p) w g.0)) none)))))
    refl)

at_handover_request_acknowledge : (version : ℕ) (index code criticality : ℕ) (body : Value) → is_at code index handover_request_acknowledge ≡ true → Has [] (xn_type version) (message index code criticality body)
    → known (xn_type version) (message index code criticality body) ≡ written_xn (handover_request_acknowledge_in body)
at_handover_request_acknowledge version index code criticality body t h =
    subst (λ n. Has [] (xn_type version) (message n code criticality body) → known (xn_type version) (message n code criticality body) ≡ written_xn (handover_request_acknowledge_in body))
    (outcome_is code index handover_request_acknowledge t)
    (subst (λ n. Has [] (xn_type version) (message 1 n criticality body) → known (xn_type version) (message 1 n criticality body) ≡ written_xn (handover_request_acknowledge_in body))
    (code_is code index handover_request_acknowledge t) (says_handover_request_acknowledge version criticality body)) h

handover_preparation_failure_in : Value → XnMessage
handover_preparation_failure_in body = xns.HandoverPreparationFailure (the ies.ue to_ue (elements_in body)) (the ies.instance to_number (elements_in body)) (the ies.cause to_index (elements_in body))

says_handover_preparation_failure : (version : ℕ) (criticality : ℕ) (body : Value) → Has [] (xn_type version) (message 2 1 criticality body)
    → known (xn_type version) (message 2 1 criticality body) ≡ written_xn (handover_preparation_failure_in body)
unfolding xn_type tree parts rows procedures outcome_tree known known_row known_body known_message Has HasRow HasBody HasOutcome written_xn handover_preparation_failure_in whole
says_handover_preparation_failure version criticality body h =
    let q : Path = fields.outcome 2 ∷ [] in
    let uses : List Use = handover_preparation_failure.elements in
    let additions : Parts = no_parts in
    let p : Path = inside q uses additions in
    let found : Ies = elements_in body in
    let has_it : Has q (its_tree q uses additions) body = h.2.0 in
    let are = are_its q uses additions body has_it in
    ap (whole 2 1) (known_body_is q uses additions body
    (has ies.ue (from_ue (the ies.ue to_ue (elements_in body))) ∷ has ies.instance (from_number (the ies.instance to_number (elements_in body))) ∷ has ies.cause (enumeral (the ies.cause to_index (elements_in body))) ∷ [])
    no_options has_it refl
    (one (must uses p found ies.ue from_ue to_ue refl are (λ w g. ue_is (fields.element 1 ∷ p) w g.0))
    (one (must uses p found ies.instance from_number to_number refl are (λ w g. word_is (fields.element 2 ∷ p) w g.0))
    (one (must uses p found ies.cause enumeral to_index refl are (λ w g. cause_is (fields.element 8 ∷ p) w g.0)) none)))
    refl)

at_handover_preparation_failure : (version : ℕ) (index code criticality : ℕ) (body : Value) → is_at code index handover_preparation_failure ≡ true → Has [] (xn_type version) (message index code criticality body)
    → known (xn_type version) (message index code criticality body) ≡ written_xn (handover_preparation_failure_in body)
at_handover_preparation_failure version index code criticality body t h =
    subst (λ n. Has [] (xn_type version) (message n code criticality body) → known (xn_type version) (message n code criticality body) ≡ written_xn (handover_preparation_failure_in body))
    (outcome_is code index handover_preparation_failure t)
    (subst (λ n. Has [] (xn_type version) (message 2 n criticality body) → known (xn_type version) (message 2 n criticality body) ≡ written_xn (handover_preparation_failure_in body))
    (code_is code index handover_preparation_failure t) (says_handover_preparation_failure version criticality body)) h

sn_status_transfer_in : Value → XnMessage
sn_status_transfer_in body = xns.SnStatusTransfer (the ies.ue to_ue (elements_in body)) (the ies.instance to_number (elements_in body)) (the ies.statuses to_statuses (elements_in body))

says_sn_status_transfer : (version : ℕ) (criticality : ℕ) (body : Value) → Has [] (xn_type version) (message 0 2 criticality body)
    → known (xn_type version) (message 0 2 criticality body) ≡ written_xn (sn_status_transfer_in body)
unfolding xn_type tree parts rows procedures outcome_tree known known_row known_body known_message Has HasRow HasBody HasOutcome written_xn sn_status_transfer_in whole
says_sn_status_transfer version criticality body h =
    let q : Path = fields.outcome 0 ∷ [] in
    let uses : List Use = sn_status_transfer.elements in
    let additions : Parts = no_parts in
    let p : Path = inside q uses additions in
    let found : Ies = elements_in body in
    let has_it : Has q (its_tree q uses additions) body = h.2.0 in
    let are = are_its q uses additions body has_it in
    ap (whole 0 2) (known_body_is q uses additions body
    (has ies.ue (from_ue (the ies.ue to_ue (elements_in body))) ∷ has ies.instance (from_number (the ies.instance to_number (elements_in body))) ∷ has ies.statuses (from_statuses (the ies.statuses to_statuses (elements_in body))) ∷ [])
    no_options has_it refl
    (one (must uses p found ies.ue from_ue to_ue refl are (λ w g. ue_is (fields.element 1 ∷ p) w g.0))
    (one (must uses p found ies.instance from_number to_number refl are (λ w g. word_is (fields.element 2 ∷ p) w g.0))
    (one (must uses p found ies.statuses from_statuses to_statuses refl are (λ w g. statuses_is (fields.element 16 ∷ p) w g.0)) none)))
    refl)

at_sn_status_transfer : (version : ℕ) (index code criticality : ℕ) (body : Value) → is_at code index sn_status_transfer ≡ true → Has [] (xn_type version) (message index code criticality body)
    → known (xn_type version) (message index code criticality body) ≡ written_xn (sn_status_transfer_in body)
at_sn_status_transfer version index code criticality body t h =
    subst (λ n. Has [] (xn_type version) (message n code criticality body) → known (xn_type version) (message n code criticality body) ≡ written_xn (sn_status_transfer_in body))
    (outcome_is code index sn_status_transfer t)
    (subst (λ n. Has [] (xn_type version) (message 0 n criticality body) → known (xn_type version) (message 0 n criticality body) ≡ written_xn (sn_status_transfer_in body))
    (code_is code index sn_status_transfer t) (says_sn_status_transfer version criticality body)) h

handover_cancel_in : Value → XnMessage
handover_cancel_in body = xns.HandoverCancel (the ies.ue to_ue (elements_in body)) (the ies.instance to_number (elements_in body))

says_handover_cancel : (version : ℕ) (criticality : ℕ) (body : Value) → Has [] (xn_type version) (message 0 3 criticality body)
    → known (xn_type version) (message 0 3 criticality body) ≡ written_xn (handover_cancel_in body)
unfolding xn_type tree parts rows procedures outcome_tree known known_row known_body known_message Has HasRow HasBody HasOutcome written_xn handover_cancel_in whole
says_handover_cancel version criticality body h =
    let q : Path = fields.outcome 0 ∷ [] in
    let uses : List Use = handover_cancel.elements in
    let additions : Parts = no_parts in
    let p : Path = inside q uses additions in
    let found : Ies = elements_in body in
    let has_it : Has q (its_tree q uses additions) body = h.2.0 in
    let are = are_its q uses additions body has_it in
    ap (whole 0 3) (known_body_is q uses additions body
    (has ies.ue (from_ue (the ies.ue to_ue (elements_in body))) ∷ has ies.instance (from_number (the ies.instance to_number (elements_in body))) ∷ [])
    no_options has_it refl
    (one (must uses p found ies.ue from_ue to_ue refl are (λ w g. ue_is (fields.element 1 ∷ p) w g.0))
    (one (must uses p found ies.instance from_number to_number refl are (λ w g. word_is (fields.element 2 ∷ p) w g.0)) none))
    refl)

at_handover_cancel : (version : ℕ) (index code criticality : ℕ) (body : Value) → is_at code index handover_cancel ≡ true → Has [] (xn_type version) (message index code criticality body)
    → known (xn_type version) (message index code criticality body) ≡ written_xn (handover_cancel_in body)
at_handover_cancel version index code criticality body t h =
    subst (λ n. Has [] (xn_type version) (message n code criticality body) → known (xn_type version) (message n code criticality body) ≡ written_xn (handover_cancel_in body))
    (outcome_is code index handover_cancel t)
    (subst (λ n. Has [] (xn_type version) (message 0 n criticality body) → known (xn_type version) (message 0 n criticality body) ≡ written_xn (handover_cancel_in body))
    (code_is code index handover_cancel t) (says_handover_cancel version criticality body)) h

ue_context_release_in : Value → XnMessage
ue_context_release_in body = xns.UeContextRelease (the ies.ue to_ue (elements_in body)) (the ies.instance to_number (elements_in body))

says_ue_context_release : (version : ℕ) (criticality : ℕ) (body : Value) → Has [] (xn_type version) (message 0 4 criticality body)
    → known (xn_type version) (message 0 4 criticality body) ≡ written_xn (ue_context_release_in body)
unfolding xn_type tree parts rows procedures outcome_tree known known_row known_body known_message Has HasRow HasBody HasOutcome written_xn ue_context_release_in whole
says_ue_context_release version criticality body h =
    let q : Path = fields.outcome 0 ∷ [] in
    let uses : List Use = ue_context_release.elements in
    let additions : Parts = no_parts in
    let p : Path = inside q uses additions in
    let found : Ies = elements_in body in
    let has_it : Has q (its_tree q uses additions) body = h.2.0 in
    let are = are_its q uses additions body has_it in
    ap (whole 0 4) (known_body_is q uses additions body
    (has ies.ue (from_ue (the ies.ue to_ue (elements_in body))) ∷ has ies.instance (from_number (the ies.instance to_number (elements_in body))) ∷ [])
    no_options has_it refl
    (one (must uses p found ies.ue from_ue to_ue refl are (λ w g. ue_is (fields.element 1 ∷ p) w g.0))
    (one (must uses p found ies.instance from_number to_number refl are (λ w g. word_is (fields.element 2 ∷ p) w g.0)) none))
    refl)

at_ue_context_release : (version : ℕ) (index code criticality : ℕ) (body : Value) → is_at code index ue_context_release ≡ true → Has [] (xn_type version) (message index code criticality body)
    → known (xn_type version) (message index code criticality body) ≡ written_xn (ue_context_release_in body)
at_ue_context_release version index code criticality body t h =
    subst (λ n. Has [] (xn_type version) (message n code criticality body) → known (xn_type version) (message n code criticality body) ≡ written_xn (ue_context_release_in body))
    (outcome_is code index ue_context_release t)
    (subst (λ n. Has [] (xn_type version) (message 0 n criticality body) → known (xn_type version) (message 0 n criticality body) ≡ written_xn (ue_context_release_in body))
    (code_is code index ue_context_release t) (says_ue_context_release version criticality body)) h

transport_confirm_in : Value → XnMessage
transport_confirm_in body = xns.TransportConfirm (the ies.ue to_ue (elements_in body)) (the ies.instance to_number (elements_in body))

says_transport_confirm : (version : ℕ) (criticality : ℕ) (body : Value) → Has [] (xn_type version) (message 0 5 criticality body)
    → known (xn_type version) (message 0 5 criticality body) ≡ written_xn (transport_confirm_in body)
unfolding xn_type tree parts rows procedures outcome_tree known known_row known_body known_message Has HasRow HasBody HasOutcome written_xn transport_confirm_in whole
says_transport_confirm version criticality body h =
    let q : Path = fields.outcome 0 ∷ [] in
    let uses : List Use = transport_confirm.elements in
    let additions : Parts = no_parts in
    let p : Path = inside q uses additions in
    let found : Ies = elements_in body in
    let has_it : Has q (its_tree q uses additions) body = h.2.0 in
    let are = are_its q uses additions body has_it in
    ap (whole 0 5) (known_body_is q uses additions body
    (has ies.ue (from_ue (the ies.ue to_ue (elements_in body))) ∷ has ies.instance (from_number (the ies.instance to_number (elements_in body))) ∷ [])
    no_options has_it refl
    (one (must uses p found ies.ue from_ue to_ue refl are (λ w g. ue_is (fields.element 1 ∷ p) w g.0))
    (one (must uses p found ies.instance from_number to_number refl are (λ w g. word_is (fields.element 2 ∷ p) w g.0)) none))
    refl)

at_transport_confirm : (version : ℕ) (index code criticality : ℕ) (body : Value) → is_at code index transport_confirm ≡ true → Has [] (xn_type version) (message index code criticality body)
    → known (xn_type version) (message index code criticality body) ≡ written_xn (transport_confirm_in body)
at_transport_confirm version index code criticality body t h =
    subst (λ n. Has [] (xn_type version) (message n code criticality body) → known (xn_type version) (message n code criticality body) ≡ written_xn (transport_confirm_in body))
    (outcome_is code index transport_confirm t)
    (subst (λ n. Has [] (xn_type version) (message 0 n criticality body) → known (xn_type version) (message 0 n criticality body) ≡ written_xn (transport_confirm_in body))
    (code_is code index transport_confirm t) (says_transport_confirm version criticality body)) h

-- the place of a message
place_code : Value → ℕ
place_code (message index code criticality body) = code
place_code v = 0

place_index : Value → ℕ
place_index (message index code criticality body) = index
place_index v = 0

apart : (b : Bool) → b ≡ true → b ≡ false → ⊥
apart true h k = cc
apart false h k = cc

module _ (version : ℕ) (index code criticality : ℕ) (body : Value) where
  nowhere : (msg : XnMessage) → known (xn_type version) (message index code criticality body) ≡ written_xn msg → is_at code index (handover_request 2) ≡ false → is_at code index handover_request_acknowledge ≡ false → is_at code index handover_preparation_failure ≡ false → is_at code index sn_status_transfer ≡ false → is_at code index handover_cancel ≡ false → is_at code index ue_context_release ≡ false → is_at code index transport_confirm ≡ false → ⊥
  unfolding known xn_type tree written_xn place_code place_index
  nowhere (xns.HandoverRequest ue instance epoch bearers sn quota peer du origin) e t0 t1 t2 t3 t4 t5 t6 = apart (is_at code index (handover_request 2)) (here code index (handover_request 2) (ap place_code e) (ap place_index e)) t0
  nowhere (xns.HandoverRequestAcknowledge ue instance peer forward_down forward_up) e t0 t1 t2 t3 t4 t5 t6 = apart (is_at code index handover_request_acknowledge) (here code index handover_request_acknowledge (ap place_code e) (ap place_index e)) t1
  nowhere (xns.HandoverPreparationFailure ue instance cause) e t0 t1 t2 t3 t4 t5 t6 = apart (is_at code index handover_preparation_failure) (here code index handover_preparation_failure (ap place_code e) (ap place_index e)) t2
  nowhere (xns.SnStatusTransfer ue instance statuses) e t0 t1 t2 t3 t4 t5 t6 = apart (is_at code index sn_status_transfer) (here code index sn_status_transfer (ap place_code e) (ap place_index e)) t3
  nowhere (xns.HandoverCancel ue instance) e t0 t1 t2 t3 t4 t5 t6 = apart (is_at code index handover_cancel) (here code index handover_cancel (ap place_code e) (ap place_index e)) t4
  nowhere (xns.UeContextRelease ue instance) e t0 t1 t2 t3 t4 t5 t6 = apart (is_at code index ue_context_release) (here code index ue_context_release (ap place_code e) (ap place_index e)) t5
  nowhere (xns.TransportConfirm ue instance) e t0 t1 t2 t3 t4 t5 t6 = apart (is_at code index transport_confirm) (here code index transport_confirm (ap place_code e) (ap place_index e)) t6

-- at the place of each message
module _ (version : ℕ) (index code criticality : ℕ) (body : Value) (msg : XnMessage) (h : Has [] (xn_type version) (message index code criticality body)) where
  from_value_by : (b0 b1 b2 b3 b4 b5 b6 : Bool) → is_at code index (handover_request 2) ≡ b0 → is_at code index handover_request_acknowledge ≡ b1 → is_at code index handover_preparation_failure ≡ b2 → is_at code index sn_status_transfer ≡ b3 → is_at code index handover_cancel ≡ b4 → is_at code index ue_context_release ≡ b5 → is_at code index transport_confirm ≡ b6
      → cond b0 (unless_rejected (first_rejected (handover_request 2).elements (elements_in body)) (handover_request_in body)) (cond b1 (unless_rejected (first_rejected handover_request_acknowledge.elements (elements_in body)) (handover_request_acknowledge_in body)) (cond b2 (unless_rejected (first_rejected handover_preparation_failure.elements (elements_in body)) (handover_preparation_failure_in body)) (cond b3 (unless_rejected (first_rejected sn_status_transfer.elements (elements_in body)) (sn_status_transfer_in body)) (cond b4 (unless_rejected (first_rejected handover_cancel.elements (elements_in body)) (handover_cancel_in body)) (cond b5 (unless_rejected (first_rejected ue_context_release.elements (elements_in body)) (ue_context_release_in body)) (cond b6 (unless_rejected (first_rejected transport_confirm.elements (elements_in body)) (transport_confirm_in body)) (Err (unknown_procedure code criticality)))))))) ≡ Ok msg
      → known (xn_type version) (message index code criticality body) ≡ written_xn msg
  from_value_by true b1 b2 b3 b4 b5 b6 t0 t1 t2 t3 t4 t5 t6 e = at_handover_request version index code criticality body t0 h ∙ ap written_xn (answer_is (first_rejected (handover_request 2).elements (elements_in body)) (handover_request_in body) msg e)
  from_value_by false true b2 b3 b4 b5 b6 t0 t1 t2 t3 t4 t5 t6 e = at_handover_request_acknowledge version index code criticality body t1 h ∙ ap written_xn (answer_is (first_rejected handover_request_acknowledge.elements (elements_in body)) (handover_request_acknowledge_in body) msg e)
  from_value_by false false true b3 b4 b5 b6 t0 t1 t2 t3 t4 t5 t6 e = at_handover_preparation_failure version index code criticality body t2 h ∙ ap written_xn (answer_is (first_rejected handover_preparation_failure.elements (elements_in body)) (handover_preparation_failure_in body) msg e)
  from_value_by false false false true b4 b5 b6 t0 t1 t2 t3 t4 t5 t6 e = at_sn_status_transfer version index code criticality body t3 h ∙ ap written_xn (answer_is (first_rejected sn_status_transfer.elements (elements_in body)) (sn_status_transfer_in body) msg e)
  from_value_by false false false false true b5 b6 t0 t1 t2 t3 t4 t5 t6 e = at_handover_cancel version index code criticality body t4 h ∙ ap written_xn (answer_is (first_rejected handover_cancel.elements (elements_in body)) (handover_cancel_in body) msg e)
  from_value_by false false false false false true b6 t0 t1 t2 t3 t4 t5 t6 e = at_ue_context_release version index code criticality body t5 h ∙ ap written_xn (answer_is (first_rejected ue_context_release.elements (elements_in body)) (ue_context_release_in body) msg e)
  from_value_by false false false false false false true t0 t1 t2 t3 t4 t5 t6 e = at_transport_confirm version index code criticality body t6 h ∙ ap written_xn (answer_is (first_rejected transport_confirm.elements (elements_in body)) (transport_confirm_in body) msg e)
  from_value_by false false false false false false false t0 t1 t2 t3 t4 t5 t6 e = cc

  from_value_at : xn_at index code criticality (elements_in body) (additions_in body) ≡ Ok msg → known (xn_type version) (message index code criticality body) ≡ written_xn msg
  unfolding xn_at handover_request_in handover_request_acknowledge_in handover_preparation_failure_in sn_status_transfer_in handover_cancel_in ue_context_release_in transport_confirm_in
  from_value_at e = from_value_by (is_at code index (handover_request 2)) (is_at code index handover_request_acknowledge) (is_at code index handover_preparation_failure) (is_at code index sn_status_transfer) (is_at code index handover_cancel) (is_at code index ue_context_release) (is_at code index transport_confirm) refl refl refl refl refl refl refl e

  said_by : (b0 b1 b2 b3 b4 b5 b6 : Bool) → is_at code index (handover_request 2) ≡ b0 → is_at code index handover_request_acknowledge ≡ b1 → is_at code index handover_preparation_failure ≡ b2 → is_at code index sn_status_transfer ≡ b3 → is_at code index handover_cancel ≡ b4 → is_at code index ue_context_release ≡ b5 → is_at code index transport_confirm ≡ b6 → known (xn_type version) (message index code criticality body) ≡ written_xn msg
      → cond b0 (unless_rejected (first_rejected (handover_request 2).elements (elements_in body)) (handover_request_in body)) (cond b1 (unless_rejected (first_rejected handover_request_acknowledge.elements (elements_in body)) (handover_request_acknowledge_in body)) (cond b2 (unless_rejected (first_rejected handover_preparation_failure.elements (elements_in body)) (handover_preparation_failure_in body)) (cond b3 (unless_rejected (first_rejected sn_status_transfer.elements (elements_in body)) (sn_status_transfer_in body)) (cond b4 (unless_rejected (first_rejected handover_cancel.elements (elements_in body)) (handover_cancel_in body)) (cond b5 (unless_rejected (first_rejected ue_context_release.elements (elements_in body)) (ue_context_release_in body)) (cond b6 (unless_rejected (first_rejected transport_confirm.elements (elements_in body)) (transport_confirm_in body)) (Err (unknown_procedure code criticality)))))))) ≡ unless_rejected (cond b0 (first_rejected (handover_request 2).elements (elements_in body)) (cond b1 (first_rejected handover_request_acknowledge.elements (elements_in body)) (cond b2 (first_rejected handover_preparation_failure.elements (elements_in body)) (cond b3 (first_rejected sn_status_transfer.elements (elements_in body)) (cond b4 (first_rejected handover_cancel.elements (elements_in body)) (cond b5 (first_rejected ue_context_release.elements (elements_in body)) (cond b6 (first_rejected transport_confirm.elements (elements_in body)) (None)))))))) msg
  said_by true b1 b2 b3 b4 b5 b6 t0 t1 t2 t3 t4 t5 t6 e = ap (unless_rejected (first_rejected (handover_request 2).elements (elements_in body))) (only (handover_request_in body) msg (sym (at_handover_request version index code criticality body t0 h) ∙ e))
  said_by false true b2 b3 b4 b5 b6 t0 t1 t2 t3 t4 t5 t6 e = ap (unless_rejected (first_rejected handover_request_acknowledge.elements (elements_in body))) (only (handover_request_acknowledge_in body) msg (sym (at_handover_request_acknowledge version index code criticality body t1 h) ∙ e))
  said_by false false true b3 b4 b5 b6 t0 t1 t2 t3 t4 t5 t6 e = ap (unless_rejected (first_rejected handover_preparation_failure.elements (elements_in body))) (only (handover_preparation_failure_in body) msg (sym (at_handover_preparation_failure version index code criticality body t2 h) ∙ e))
  said_by false false false true b4 b5 b6 t0 t1 t2 t3 t4 t5 t6 e = ap (unless_rejected (first_rejected sn_status_transfer.elements (elements_in body))) (only (sn_status_transfer_in body) msg (sym (at_sn_status_transfer version index code criticality body t3 h) ∙ e))
  said_by false false false false true b5 b6 t0 t1 t2 t3 t4 t5 t6 e = ap (unless_rejected (first_rejected handover_cancel.elements (elements_in body))) (only (handover_cancel_in body) msg (sym (at_handover_cancel version index code criticality body t4 h) ∙ e))
  said_by false false false false false true b6 t0 t1 t2 t3 t4 t5 t6 e = ap (unless_rejected (first_rejected ue_context_release.elements (elements_in body))) (only (ue_context_release_in body) msg (sym (at_ue_context_release version index code criticality body t5 h) ∙ e))
  said_by false false false false false false true t0 t1 t2 t3 t4 t5 t6 e = ap (unless_rejected (first_rejected transport_confirm.elements (elements_in body))) (only (transport_confirm_in body) msg (sym (at_transport_confirm version index code criticality body t6 h) ∙ e))
  said_by false false false false false false false t0 t1 t2 t3 t4 t5 t6 e = absurd (nowhere version index code criticality body msg e t0 t1 t2 t3 t4 t5 t6)

  said_at : known (xn_type version) (message index code criticality body) ≡ written_xn msg → xn_at index code criticality (elements_in body) (additions_in body)
      ≡ unless_rejected (rejected_in (xn_messages version) (message index code criticality body)) msg
  unfolding xn_at handover_request_in handover_request_acknowledge_in handover_preparation_failure_in sn_status_transfer_in handover_cancel_in ue_context_release_in transport_confirm_in
  said_at e = said_by (is_at code index (handover_request 2)) (is_at code index handover_request_acknowledge) (is_at code index handover_preparation_failure) (is_at code index sn_status_transfer) (is_at code index handover_cancel) (is_at code index ue_context_release) (is_at code index transport_confirm) refl refl refl refl refl refl refl e

pub from_value_says : (version : ℕ) (msg : XnMessage) (v : Value) → Has [] (xn_type version) v → xn_from_value v ≡ Ok msg → known (xn_type version) v ≡ written_xn msg
unfolding xn_from_value Has xn_type tree
from_value_says version msg (message index code criticality body) h e = from_value_at version index code criticality body msg h e
from_value_says version msg v h e = absurd h

pub said_hears : (version : ℕ) (msg : XnMessage) (v : Value) → Has [] (xn_type version) v → known (xn_type version) v ≡ written_xn msg
    → xn_from_value v ≡ unless_rejected (rejected_in (xn_messages version) v) msg
unfolding xn_from_value Has xn_type tree
said_hears version msg (message index code criticality body) h e = said_at version index code criticality body msg h e
said_hears version msg v h e = absurd h
