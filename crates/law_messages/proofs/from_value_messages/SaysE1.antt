-- E1Message: what is heard in a value of the PDU is the message that the value says.
use Rattle.std.proofs.Common.{◌≡◌, ℕ, Bool, true, false, cond, List, [], ◌∷◌, None, Result, Ok, Err, refl, sym, ap, subst, ◌∙◌}
use Rattle.message_types.specs.declared.e1.E1Message.TheVariants as e1s
use Rattle.message_types.specs.declared.e1.E1Message.{E1Message}
use Rattle.aper_defs.specs.Trees.{Parts, no_parts}
use Rattle.aper_defs.specs.Values.{Value, Ies, truth, enumeral, text, message, no_options}
use Rattle.aper_defs.specs.Fields.{Path}
use Rattle.aper_defs.specs.Fields as fields
use Rattle.aper_defs.specs.Membership.{Has, HasRow, HasBody, HasOutcome}
use Rattle.message_defs.specs.profile_defs.Forms.{tree, parts, rows, procedures, outcome_tree}
use Rattle.message_defs.specs.profile_defs.Elements as ies
use Rattle.message_defs.specs.profile_defs.Tables.{Use, is_at}
use Rattle.message_defs.specs.profile_defs.Messages.{e1_messages, e1_setup_request, e1_setup_response, bearer_context_setup_request, bearer_context_setup_response, bearer_context_setup_failure, bearer_context_modification_request, bearer_context_modification_response, bearer_context_modification_failure, bearer_context_release_command, bearer_context_release_complete}
use Rattle.message_defs.specs.profile_defs.Profile.{e1_type}
use Rattle.message_defs.specs.Fields.{from_number, from_peer, from_sn, from_statuses, from_tunnels, from_ue, to_flag, to_index, to_number, to_peer, to_sn, to_statuses, to_text, to_tunnels, to_ue}
use Rattle.message_defs.specs.Places.{has, may_have, the, any, elements_in}
use Rattle.message_defs.specs.Known.{known, known_row, known_body, known_message}
use Rattle.message_defs.specs.FromValue.{Cause, unknown_procedure, first_rejected, unless_rejected, rejected_in}
use Rattle.message_defs.specs.E1.{written_e1, e1_at, e1_from_value}
use Rattle.proof_heard_messages.proofs.HeardE1.{heard}
use Rattle.proof_messages.proofs.message_elements.Rounds.{ue_is, word_is, bearer_is, unit_is, quota_is, cause_is, mode_is, sn_is, flag_is, name_is, peer_is, tunnels_is, statuses_is}
use Rattle.proof_messages.proofs.message_elements.Matched.{none, one, must, may, its_tree, inside, are_its, known_body_is, code_is, outcome_is, answer_is, here}

whole : ℕ → ℕ → Value → Value
whole index code body = message index code 0 body

same_answer : (a b : E1Message) → (let x : Result E1Message Cause = Ok a in x) ≡ Ok b → a ≡ b
same_answer a b h = cc

only : (a b : E1Message) → written_e1 a ≡ written_e1 b → a ≡ b
only a b h = same_answer a b (sym (heard a) ∙ ap e1_from_value h ∙ heard b)

e1_setup_request_in : Value → E1Message
e1_setup_request_in body = e1s.E1SetupRequest (the ies.instance to_number (elements_in body)) (the ies.name to_text (elements_in body))

says_e1_setup_request : (criticality : ℕ) (body : Value) → Has [] e1_type (message 0 1 criticality body)
    → known e1_type (message 0 1 criticality body) ≡ written_e1 (e1_setup_request_in body)
unfolding e1_type tree parts rows procedures outcome_tree known known_row known_body known_message Has HasRow HasBody HasOutcome written_e1 e1_setup_request_in whole
says_e1_setup_request criticality body h =
    let q : Path = fields.outcome 0 ∷ [] in
    let uses : List Use = e1_setup_request.elements in
    let additions : Parts = no_parts in
    let p : Path = inside q uses additions in
    let found : Ies = elements_in body in
    let has_it : Has q (its_tree q uses additions) body = h.2.0 in
    let are = are_its q uses additions body has_it in
    ap (whole 0 1) (known_body_is q uses additions body
    (has ies.instance (from_number (the ies.instance to_number (elements_in body))) ∷ has ies.name (text (the ies.name to_text (elements_in body))) ∷ [])
    no_options has_it refl
    (one (must uses p found ies.instance from_number to_number refl are (λ w g. word_is (fields.element 2 ∷ p) w g.0))
    (one (must uses p found ies.name text to_text refl are (λ w g. name_is (fields.element 17 ∷ p) w g.0)) none))
    refl)

at_e1_setup_request : (index code criticality : ℕ) (body : Value) → is_at code index e1_setup_request ≡ true → Has [] e1_type (message index code criticality body)
    → known e1_type (message index code criticality body) ≡ written_e1 (e1_setup_request_in body)
at_e1_setup_request index code criticality body t h =
    subst (λ n. Has [] e1_type (message n code criticality body) → known e1_type (message n code criticality body) ≡ written_e1 (e1_setup_request_in body))
    (outcome_is code index e1_setup_request t)
    (subst (λ n. Has [] e1_type (message 0 n criticality body) → known e1_type (message 0 n criticality body) ≡ written_e1 (e1_setup_request_in body))
    (code_is code index e1_setup_request t) (says_e1_setup_request criticality body)) h

e1_setup_response_in : Value → E1Message
e1_setup_response_in body = e1s.E1SetupResponse (the ies.instance to_number (elements_in body))

says_e1_setup_response : (criticality : ℕ) (body : Value) → Has [] e1_type (message 1 1 criticality body)
    → known e1_type (message 1 1 criticality body) ≡ written_e1 (e1_setup_response_in body)
unfolding e1_type tree parts rows procedures outcome_tree known known_row known_body known_message Has HasRow HasBody HasOutcome written_e1 e1_setup_response_in whole
says_e1_setup_response criticality body h =
    let q : Path = fields.outcome 1 ∷ [] in
    let uses : List Use = e1_setup_response.elements in
    let additions : Parts = no_parts in
    let p : Path = inside q uses additions in
    let found : Ies = elements_in body in
    let has_it : Has q (its_tree q uses additions) body = h.2.0 in
    let are = are_its q uses additions body has_it in
    ap (whole 1 1) (known_body_is q uses additions body
    (has ies.instance (from_number (the ies.instance to_number (elements_in body))) ∷ [])
    no_options has_it refl
    (one (must uses p found ies.instance from_number to_number refl are (λ w g. word_is (fields.element 2 ∷ p) w g.0)) none)
    refl)

at_e1_setup_response : (index code criticality : ℕ) (body : Value) → is_at code index e1_setup_response ≡ true → Has [] e1_type (message index code criticality body)
    → known e1_type (message index code criticality body) ≡ written_e1 (e1_setup_response_in body)
at_e1_setup_response index code criticality body t h =
    subst (λ n. Has [] e1_type (message n code criticality body) → known e1_type (message n code criticality body) ≡ written_e1 (e1_setup_response_in body))
    (outcome_is code index e1_setup_response t)
    (subst (λ n. Has [] e1_type (message 1 n criticality body) → known e1_type (message 1 n criticality body) ≡ written_e1 (e1_setup_response_in body))
    (code_is code index e1_setup_response t) (says_e1_setup_response criticality body)) h

bearer_context_setup_request_in : Value → E1Message
bearer_context_setup_request_in body = e1s.BearerContextSetupRequest (the ies.ue to_ue (elements_in body)) (the ies.instance to_number (elements_in body)) (the ies.bearers to_number (elements_in body)) (the ies.sn to_sn (elements_in body)) (the ies.quota to_number (elements_in body)) (the ies.forward to_flag (elements_in body))

says_bearer_context_setup_request : (criticality : ℕ) (body : Value) → Has [] e1_type (message 0 2 criticality body)
    → known e1_type (message 0 2 criticality body) ≡ written_e1 (bearer_context_setup_request_in body)
unfolding e1_type tree parts rows procedures outcome_tree known known_row known_body known_message Has HasRow HasBody HasOutcome written_e1 bearer_context_setup_request_in whole
says_bearer_context_setup_request criticality body h =
    let q : Path = fields.outcome 0 ∷ [] in
    let uses : List Use = bearer_context_setup_request.elements in
    let additions : Parts = no_parts in
    let p : Path = inside q uses additions in
    let found : Ies = elements_in body in
    let has_it : Has q (its_tree q uses additions) body = h.2.0 in
    let are = are_its q uses additions body has_it in
    ap (whole 0 2) (known_body_is q uses additions body
    (has ies.ue (from_ue (the ies.ue to_ue (elements_in body))) ∷ has ies.instance (from_number (the ies.instance to_number (elements_in body))) ∷ has ies.bearers (from_number (the ies.bearers to_number (elements_in body))) ∷ has ies.sn (from_sn (the ies.sn to_sn (elements_in body))) ∷ has ies.quota (from_number (the ies.quota to_number (elements_in body))) ∷ has ies.forward (truth (the ies.forward to_flag (elements_in body))) ∷ [])
    no_options has_it refl
    (one (must uses p found ies.ue from_ue to_ue refl are (λ w g. ue_is (fields.element 1 ∷ p) w g.0))
    (one (must uses p found ies.instance from_number to_number refl are (λ w g. word_is (fields.element 2 ∷ p) w g.0))
    (one (must uses p found ies.bearers from_number to_number refl are (λ w g. bearer_is (fields.element 4 ∷ p) w g.0))
    (one (must uses p found ies.sn from_sn to_sn refl are (λ w g. sn_is (fields.element 9 ∷ p) w g.0))
    (one (must uses p found ies.quota from_number to_number refl are (λ w g. quota_is (fields.element 10 ∷ p) w g.0))
    (one (must uses p found ies.forward truth to_flag refl are (λ w g. flag_is (fields.element 18 ∷ p) w g.0)) none))))))
    refl)

at_bearer_context_setup_request : (index code criticality : ℕ) (body : Value) → is_at code index bearer_context_setup_request ≡ true → Has [] e1_type (message index code criticality body)
    → known e1_type (message index code criticality body) ≡ written_e1 (bearer_context_setup_request_in body)
at_bearer_context_setup_request index code criticality body t h =
    subst (λ n. Has [] e1_type (message n code criticality body) → known e1_type (message n code criticality body) ≡ written_e1 (bearer_context_setup_request_in body))
    (outcome_is code index bearer_context_setup_request t)
    (subst (λ n. Has [] e1_type (message 0 n criticality body) → known e1_type (message 0 n criticality body) ≡ written_e1 (bearer_context_setup_request_in body))
    (code_is code index bearer_context_setup_request t) (says_bearer_context_setup_request criticality body)) h

bearer_context_setup_response_in : Value → E1Message
bearer_context_setup_response_in body = e1s.BearerContextSetupResponse (the ies.ue to_ue (elements_in body)) (the ies.instance to_number (elements_in body)) (the ies.uplinks to_tunnels (elements_in body)) (the ies.n3 to_tunnels (elements_in body)) (any ies.forward_down to_tunnels (elements_in body)) (any ies.forward_up to_tunnels (elements_in body))

says_bearer_context_setup_response : (criticality : ℕ) (body : Value) → Has [] e1_type (message 1 2 criticality body)
    → known e1_type (message 1 2 criticality body) ≡ written_e1 (bearer_context_setup_response_in body)
unfolding e1_type tree parts rows procedures outcome_tree known known_row known_body known_message Has HasRow HasBody HasOutcome written_e1 bearer_context_setup_response_in whole
says_bearer_context_setup_response criticality body h =
    let q : Path = fields.outcome 1 ∷ [] in
    let uses : List Use = bearer_context_setup_response.elements in
    let additions : Parts = no_parts in
    let p : Path = inside q uses additions in
    let found : Ies = elements_in body in
    let has_it : Has q (its_tree q uses additions) body = h.2.0 in
    let are = are_its q uses additions body has_it in
    ap (whole 1 2) (known_body_is q uses additions body
    (has ies.ue (from_ue (the ies.ue to_ue (elements_in body))) ∷ has ies.instance (from_number (the ies.instance to_number (elements_in body))) ∷ has ies.uplinks (from_tunnels (the ies.uplinks to_tunnels (elements_in body))) ∷ has ies.n3 (from_tunnels (the ies.n3 to_tunnels (elements_in body))) ∷ may_have ies.forward_down from_tunnels (any ies.forward_down to_tunnels (elements_in body)) ∷ may_have ies.forward_up from_tunnels (any ies.forward_up to_tunnels (elements_in body)) ∷ [])
    no_options has_it refl
    (one (must uses p found ies.ue from_ue to_ue refl are (λ w g. ue_is (fields.element 1 ∷ p) w g.0))
    (one (must uses p found ies.instance from_number to_number refl are (λ w g. word_is (fields.element 2 ∷ p) w g.0))
    (one (must uses p found ies.uplinks from_tunnels to_tunnels refl are (λ w g. tunnels_is (fields.element 5 ∷ p) w g.0))
    (one (must uses p found ies.n3 from_tunnels to_tunnels refl are (λ w g. tunnels_is (fields.element 13 ∷ p) w g.0))
    (one (may uses p found ies.forward_down from_tunnels to_tunnels are (λ w g. tunnels_is (fields.element 14 ∷ p) w g.0))
    (one (may uses p found ies.forward_up from_tunnels to_tunnels are (λ w g. tunnels_is (fields.element 15 ∷ p) w g.0)) none))))))
    refl)

at_bearer_context_setup_response : (index code criticality : ℕ) (body : Value) → is_at code index bearer_context_setup_response ≡ true → Has [] e1_type (message index code criticality body)
    → known e1_type (message index code criticality body) ≡ written_e1 (bearer_context_setup_response_in body)
at_bearer_context_setup_response index code criticality body t h =
    subst (λ n. Has [] e1_type (message n code criticality body) → known e1_type (message n code criticality body) ≡ written_e1 (bearer_context_setup_response_in body))
    (outcome_is code index bearer_context_setup_response t)
    (subst (λ n. Has [] e1_type (message 1 n criticality body) → known e1_type (message 1 n criticality body) ≡ written_e1 (bearer_context_setup_response_in body))
    (code_is code index bearer_context_setup_response t) (says_bearer_context_setup_response criticality body)) h

bearer_context_setup_failure_in : Value → E1Message
bearer_context_setup_failure_in body = e1s.BearerContextSetupFailure (the ies.ue to_ue (elements_in body)) (the ies.instance to_number (elements_in body)) (the ies.cause to_index (elements_in body))

says_bearer_context_setup_failure : (criticality : ℕ) (body : Value) → Has [] e1_type (message 2 2 criticality body)
    → known e1_type (message 2 2 criticality body) ≡ written_e1 (bearer_context_setup_failure_in body)
unfolding e1_type tree parts rows procedures outcome_tree known known_row known_body known_message Has HasRow HasBody HasOutcome written_e1 bearer_context_setup_failure_in whole
says_bearer_context_setup_failure criticality body h =
    let q : Path = fields.outcome 2 ∷ [] in
    let uses : List Use = bearer_context_setup_failure.elements in
    let additions : Parts = no_parts in
    let p : Path = inside q uses additions in
    let found : Ies = elements_in body in
    let has_it : Has q (its_tree q uses additions) body = h.2.0 in
    let are = are_its q uses additions body has_it in
    ap (whole 2 2) (known_body_is q uses additions body
    (has ies.ue (from_ue (the ies.ue to_ue (elements_in body))) ∷ has ies.instance (from_number (the ies.instance to_number (elements_in body))) ∷ has ies.cause (enumeral (the ies.cause to_index (elements_in body))) ∷ [])
    no_options has_it refl
    (one (must uses p found ies.ue from_ue to_ue refl are (λ w g. ue_is (fields.element 1 ∷ p) w g.0))
    (one (must uses p found ies.instance from_number to_number refl are (λ w g. word_is (fields.element 2 ∷ p) w g.0))
    (one (must uses p found ies.cause enumeral to_index refl are (λ w g. cause_is (fields.element 8 ∷ p) w g.0)) none)))
    refl)

at_bearer_context_setup_failure : (index code criticality : ℕ) (body : Value) → is_at code index bearer_context_setup_failure ≡ true → Has [] e1_type (message index code criticality body)
    → known e1_type (message index code criticality body) ≡ written_e1 (bearer_context_setup_failure_in body)
at_bearer_context_setup_failure index code criticality body t h =
    subst (λ n. Has [] e1_type (message n code criticality body) → known e1_type (message n code criticality body) ≡ written_e1 (bearer_context_setup_failure_in body))
    (outcome_is code index bearer_context_setup_failure t)
    (subst (λ n. Has [] e1_type (message 2 n criticality body) → known e1_type (message 2 n criticality body) ≡ written_e1 (bearer_context_setup_failure_in body))
    (code_is code index bearer_context_setup_failure t) (says_bearer_context_setup_failure criticality body)) h

bearer_context_modification_request_in : Value → E1Message
bearer_context_modification_request_in body = e1s.BearerContextModificationRequest (the ies.ue to_ue (elements_in body)) (the ies.instance to_number (elements_in body)) (any ies.downlinks to_tunnels (elements_in body)) (the ies.mode to_index (elements_in body)) (any ies.peer to_peer (elements_in body)) (any ies.forward_down to_tunnels (elements_in body)) (any ies.forward_up to_tunnels (elements_in body)) (any ies.statuses to_statuses (elements_in body)) (any ies.du to_number (elements_in body))

says_bearer_context_modification_request : (criticality : ℕ) (body : Value) → Has [] e1_type (message 0 3 criticality body)
    → known e1_type (message 0 3 criticality body) ≡ written_e1 (bearer_context_modification_request_in body)
unfolding e1_type tree parts rows procedures outcome_tree known known_row known_body known_message Has HasRow HasBody HasOutcome written_e1 bearer_context_modification_request_in whole
says_bearer_context_modification_request criticality body h =
    let q : Path = fields.outcome 0 ∷ [] in
    let uses : List Use = bearer_context_modification_request.elements in
    let additions : Parts = no_parts in
    let p : Path = inside q uses additions in
    let found : Ies = elements_in body in
    let has_it : Has q (its_tree q uses additions) body = h.2.0 in
    let are = are_its q uses additions body has_it in
    ap (whole 0 3) (known_body_is q uses additions body
    (has ies.ue (from_ue (the ies.ue to_ue (elements_in body))) ∷ has ies.instance (from_number (the ies.instance to_number (elements_in body))) ∷ may_have ies.downlinks from_tunnels (any ies.downlinks to_tunnels (elements_in body)) ∷ has ies.mode (enumeral (the ies.mode to_index (elements_in body))) ∷ may_have ies.peer from_peer (any ies.peer to_peer (elements_in body)) ∷ may_have ies.forward_down from_tunnels (any ies.forward_down to_tunnels (elements_in body)) ∷ may_have ies.forward_up from_tunnels (any ies.forward_up to_tunnels (elements_in body)) ∷ may_have ies.statuses from_statuses (any ies.statuses to_statuses (elements_in body)) ∷ may_have ies.du from_number (any ies.du to_number (elements_in body)) ∷ [])
    no_options has_it refl
    (one (must uses p found ies.ue from_ue to_ue refl are (λ w g. ue_is (fields.element 1 ∷ p) w g.0))
    (one (must uses p found ies.instance from_number to_number refl are (λ w g. word_is (fields.element 2 ∷ p) w g.0))
    (one (may uses p found ies.downlinks from_tunnels to_tunnels are (λ w g. tunnels_is (fields.element 6 ∷ p) w g.0))
    (one (must uses p found ies.mode enumeral to_index refl are (λ w g. mode_is (fields.element 11 ∷ p) w g.0))
    (one (may uses p found ies.peer from_peer to_peer are (λ w g. peer_is (fields.element 12 ∷ p) w g.0))
    (one (may uses p found ies.forward_down from_tunnels to_tunnels are (λ w g. tunnels_is (fields.element 14 ∷ p) w g.0))
    (one (may uses p found ies.forward_up from_tunnels to_tunnels are (λ w g. tunnels_is (fields.element 15 ∷ p) w g.0))
    (one (may uses p found ies.statuses from_statuses to_statuses are (λ w g. statuses_is (fields.element 16 ∷ p) w g.0))
    (one (may uses p found ies.du from_number to_number are (λ w g. unit_is (fields.element 19 ∷ p) w g.0)) none)))))))))
    refl)

at_bearer_context_modification_request : (index code criticality : ℕ) (body : Value) → is_at code index bearer_context_modification_request ≡ true → Has [] e1_type (message index code criticality body)
    → known e1_type (message index code criticality body) ≡ written_e1 (bearer_context_modification_request_in body)
at_bearer_context_modification_request index code criticality body t h =
    subst (λ n. Has [] e1_type (message n code criticality body) → known e1_type (message n code criticality body) ≡ written_e1 (bearer_context_modification_request_in body))
    (outcome_is code index bearer_context_modification_request t)
    (subst (λ n. Has [] e1_type (message 0 n criticality body) → known e1_type (message 0 n criticality body) ≡ written_e1 (bearer_context_modification_request_in body))
    (code_is code index bearer_context_modification_request t) (says_bearer_context_modification_request criticality body)) h

bearer_context_modification_response_in : Value → E1Message
bearer_context_modification_response_in body = e1s.BearerContextModificationResponse (the ies.ue to_ue (elements_in body)) (the ies.instance to_number (elements_in body)) (any ies.uplinks to_tunnels (elements_in body)) (any ies.statuses to_statuses (elements_in body))

says_bearer_context_modification_response : (criticality : ℕ) (body : Value) → Has [] e1_type (message 1 3 criticality body)
    → known e1_type (message 1 3 criticality body) ≡ written_e1 (bearer_context_modification_response_in body)
unfolding e1_type tree parts rows procedures outcome_tree known known_row known_body known_message Has HasRow HasBody HasOutcome written_e1 bearer_context_modification_response_in whole
says_bearer_context_modification_response criticality body h =
    let q : Path = fields.outcome 1 ∷ [] in
    let uses : List Use = bearer_context_modification_response.elements in
    let additions : Parts = no_parts in
    let p : Path = inside q uses additions in
    let found : Ies = elements_in body in
    let has_it : Has q (its_tree q uses additions) body = h.2.0 in
    let are = are_its q uses additions body has_it in
    ap (whole 1 3) (known_body_is q uses additions body
    (has ies.ue (from_ue (the ies.ue to_ue (elements_in body))) ∷ has ies.instance (from_number (the ies.instance to_number (elements_in body))) ∷ may_have ies.uplinks from_tunnels (any ies.uplinks to_tunnels (elements_in body)) ∷ may_have ies.statuses from_statuses (any ies.statuses to_statuses (elements_in body)) ∷ [])
    no_options has_it refl
    (one (must uses p found ies.ue from_ue to_ue refl are (λ w g. ue_is (fields.element 1 ∷ p) w g.0))
    (one (must uses p found ies.instance from_number to_number refl are (λ w g. word_is (fields.element 2 ∷ p) w g.0))
    (one (may uses p found ies.uplinks from_tunnels to_tunnels are (λ w g. tunnels_is (fields.element 5 ∷ p) w g.0))
    (one (may uses p found ies.statuses from_statuses to_statuses are (λ w g. statuses_is (fields.element 16 ∷ p) w g.0)) none))))
    refl)

at_bearer_context_modification_response : (index code criticality : ℕ) (body : Value) → is_at code index bearer_context_modification_response ≡ true → Has [] e1_type (message index code criticality body)
    → known e1_type (message index code criticality body) ≡ written_e1 (bearer_context_modification_response_in body)
at_bearer_context_modification_response index code criticality body t h =
    subst (λ n. Has [] e1_type (message n code criticality body) → known e1_type (message n code criticality body) ≡ written_e1 (bearer_context_modification_response_in body))
    (outcome_is code index bearer_context_modification_response t)
    (subst (λ n. Has [] e1_type (message 1 n criticality body) → known e1_type (message 1 n criticality body) ≡ written_e1 (bearer_context_modification_response_in body))
    (code_is code index bearer_context_modification_response t) (says_bearer_context_modification_response criticality body)) h

bearer_context_modification_failure_in : Value → E1Message
bearer_context_modification_failure_in body = e1s.BearerContextModificationFailure (the ies.ue to_ue (elements_in body)) (the ies.instance to_number (elements_in body)) (the ies.cause to_index (elements_in body))

says_bearer_context_modification_failure : (criticality : ℕ) (body : Value) → Has [] e1_type (message 2 3 criticality body)
    → known e1_type (message 2 3 criticality body) ≡ written_e1 (bearer_context_modification_failure_in body)
unfolding e1_type tree parts rows procedures outcome_tree known known_row known_body known_message Has HasRow HasBody HasOutcome written_e1 bearer_context_modification_failure_in whole
says_bearer_context_modification_failure criticality body h =
    let q : Path = fields.outcome 2 ∷ [] in
    let uses : List Use = bearer_context_modification_failure.elements in
    let additions : Parts = no_parts in
    let p : Path = inside q uses additions in
    let found : Ies = elements_in body in
    let has_it : Has q (its_tree q uses additions) body = h.2.0 in
    let are = are_its q uses additions body has_it in
    ap (whole 2 3) (known_body_is q uses additions body
    (has ies.ue (from_ue (the ies.ue to_ue (elements_in body))) ∷ has ies.instance (from_number (the ies.instance to_number (elements_in body))) ∷ has ies.cause (enumeral (the ies.cause to_index (elements_in body))) ∷ [])
    no_options has_it refl
    (one (must uses p found ies.ue from_ue to_ue refl are (λ w g. ue_is (fields.element 1 ∷ p) w g.0))
    (one (must uses p found ies.instance from_number to_number refl are (λ w g. word_is (fields.element 2 ∷ p) w g.0))
    (one (must uses p found ies.cause enumeral to_index refl are (λ w g. cause_is (fields.element 8 ∷ p) w g.0)) none)))
    refl)

at_bearer_context_modification_failure : (index code criticality : ℕ) (body : Value) → is_at code index bearer_context_modification_failure ≡ true → Has [] e1_type (message index code criticality body)
    → known e1_type (message index code criticality body) ≡ written_e1 (bearer_context_modification_failure_in body)
at_bearer_context_modification_failure index code criticality body t h =
    subst (λ n. Has [] e1_type (message n code criticality body) → known e1_type (message n code criticality body) ≡ written_e1 (bearer_context_modification_failure_in body))
    (outcome_is code index bearer_context_modification_failure t)
    (subst (λ n. Has [] e1_type (message 2 n criticality body) → known e1_type (message 2 n criticality body) ≡ written_e1 (bearer_context_modification_failure_in body))
    (code_is code index bearer_context_modification_failure t) (says_bearer_context_modification_failure criticality body)) h

bearer_context_release_command_in : Value → E1Message
bearer_context_release_command_in body = e1s.BearerContextReleaseCommand (the ies.ue to_ue (elements_in body)) (the ies.instance to_number (elements_in body)) (the ies.is_final to_flag (elements_in body))

says_bearer_context_release_command : (criticality : ℕ) (body : Value) → Has [] e1_type (message 0 4 criticality body)
    → known e1_type (message 0 4 criticality body) ≡ written_e1 (bearer_context_release_command_in body)
unfolding e1_type tree parts rows procedures outcome_tree known known_row known_body known_message Has HasRow HasBody HasOutcome written_e1 bearer_context_release_command_in whole
says_bearer_context_release_command criticality body h =
    let q : Path = fields.outcome 0 ∷ [] in
    let uses : List Use = bearer_context_release_command.elements in
    let additions : Parts = no_parts in
    let p : Path = inside q uses additions in
    let found : Ies = elements_in body in
    let has_it : Has q (its_tree q uses additions) body = h.2.0 in
    let are = are_its q uses additions body has_it in
    ap (whole 0 4) (known_body_is q uses additions body
    (has ies.ue (from_ue (the ies.ue to_ue (elements_in body))) ∷ has ies.instance (from_number (the ies.instance to_number (elements_in body))) ∷ has ies.is_final (truth (the ies.is_final to_flag (elements_in body))) ∷ [])
    no_options has_it refl
    (one (must uses p found ies.ue from_ue to_ue refl are (λ w g. ue_is (fields.element 1 ∷ p) w g.0))
    (one (must uses p found ies.instance from_number to_number refl are (λ w g. word_is (fields.element 2 ∷ p) w g.0))
    (one (must uses p found ies.is_final truth to_flag refl are (λ w g. flag_is (fields.element 20 ∷ p) w g.0)) none)))
    refl)

at_bearer_context_release_command : (index code criticality : ℕ) (body : Value) → is_at code index bearer_context_release_command ≡ true → Has [] e1_type (message index code criticality body)
    → known e1_type (message index code criticality body) ≡ written_e1 (bearer_context_release_command_in body)
at_bearer_context_release_command index code criticality body t h =
    subst (λ n. Has [] e1_type (message n code criticality body) → known e1_type (message n code criticality body) ≡ written_e1 (bearer_context_release_command_in body))
    (outcome_is code index bearer_context_release_command t)
    (subst (λ n. Has [] e1_type (message 0 n criticality body) → known e1_type (message 0 n criticality body) ≡ written_e1 (bearer_context_release_command_in body))
    (code_is code index bearer_context_release_command t) (says_bearer_context_release_command criticality body)) h

bearer_context_release_complete_in : Value → E1Message
bearer_context_release_complete_in body = e1s.BearerContextReleaseComplete (the ies.ue to_ue (elements_in body)) (the ies.instance to_number (elements_in body))

says_bearer_context_release_complete : (criticality : ℕ) (body : Value) → Has [] e1_type (message 1 4 criticality body)
    → known e1_type (message 1 4 criticality body) ≡ written_e1 (bearer_context_release_complete_in body)
unfolding e1_type tree parts rows procedures outcome_tree known known_row known_body known_message Has HasRow HasBody HasOutcome written_e1 bearer_context_release_complete_in whole
says_bearer_context_release_complete criticality body h =
    let q : Path = fields.outcome 1 ∷ [] in
    let uses : List Use = bearer_context_release_complete.elements in
    let additions : Parts = no_parts in
    let p : Path = inside q uses additions in
    let found : Ies = elements_in body in
    let has_it : Has q (its_tree q uses additions) body = h.2.0 in
    let are = are_its q uses additions body has_it in
    ap (whole 1 4) (known_body_is q uses additions body
    (has ies.ue (from_ue (the ies.ue to_ue (elements_in body))) ∷ has ies.instance (from_number (the ies.instance to_number (elements_in body))) ∷ [])
    no_options has_it refl
    (one (must uses p found ies.ue from_ue to_ue refl are (λ w g. ue_is (fields.element 1 ∷ p) w g.0))
    (one (must uses p found ies.instance from_number to_number refl are (λ w g. word_is (fields.element 2 ∷ p) w g.0)) none))
    refl)

at_bearer_context_release_complete : (index code criticality : ℕ) (body : Value) → is_at code index bearer_context_release_complete ≡ true → Has [] e1_type (message index code criticality body)
    → known e1_type (message index code criticality body) ≡ written_e1 (bearer_context_release_complete_in body)
at_bearer_context_release_complete index code criticality body t h =
    subst (λ n. Has [] e1_type (message n code criticality body) → known e1_type (message n code criticality body) ≡ written_e1 (bearer_context_release_complete_in body))
    (outcome_is code index bearer_context_release_complete t)
    (subst (λ n. Has [] e1_type (message 1 n criticality body) → known e1_type (message 1 n criticality body) ≡ written_e1 (bearer_context_release_complete_in body))
    (code_is code index bearer_context_release_complete t) (says_bearer_context_release_complete criticality body)) h

-- the place of a message
place_code : Value → ℕ
place_code (message index code criticality body) = code
place_code v = 0

place_index : Value → ℕ
place_index (message index code criticality body) = index
place_index v = 0

apart : (b : Bool) → b ≡ true → b ≡ false → ⊥
apart true h k = cc
apart false h k = cc

module _ (index code criticality : ℕ) (body : Value) where
  nowhere : (msg : E1Message) → known e1_type (message index code criticality body) ≡ written_e1 msg → is_at code index e1_setup_request ≡ false → is_at code index e1_setup_response ≡ false → is_at code index bearer_context_setup_request ≡ false → is_at code index bearer_context_setup_response ≡ false → is_at code index bearer_context_setup_failure ≡ false → is_at code index bearer_context_modification_request ≡ false → is_at code index bearer_context_modification_response ≡ false → is_at code index bearer_context_modification_failure ≡ false → is_at code index bearer_context_release_command ≡ false → is_at code index bearer_context_release_complete ≡ false → ⊥
  unfolding known e1_type tree written_e1 place_code place_index
  nowhere (e1s.E1SetupRequest instance name) e t0 t1 t2 t3 t4 t5 t6 t7 t8 t9 = apart (is_at code index e1_setup_request) (here code index e1_setup_request (ap place_code e) (ap place_index e)) t0
  nowhere (e1s.E1SetupResponse instance) e t0 t1 t2 t3 t4 t5 t6 t7 t8 t9 = apart (is_at code index e1_setup_response) (here code index e1_setup_response (ap place_code e) (ap place_index e)) t1
  nowhere (e1s.BearerContextSetupRequest ue instance bearers sn quota forward) e t0 t1 t2 t3 t4 t5 t6 t7 t8 t9 = apart (is_at code index bearer_context_setup_request) (here code index bearer_context_setup_request (ap place_code e) (ap place_index e)) t2
  nowhere (e1s.BearerContextSetupResponse ue instance uplinks n3 forward_down forward_up) e t0 t1 t2 t3 t4 t5 t6 t7 t8 t9 = apart (is_at code index bearer_context_setup_response) (here code index bearer_context_setup_response (ap place_code e) (ap place_index e)) t3
  nowhere (e1s.BearerContextSetupFailure ue instance cause) e t0 t1 t2 t3 t4 t5 t6 t7 t8 t9 = apart (is_at code index bearer_context_setup_failure) (here code index bearer_context_setup_failure (ap place_code e) (ap place_index e)) t4
  nowhere (e1s.BearerContextModificationRequest ue instance downlinks mode peer forward_down forward_up statuses du) e t0 t1 t2 t3 t4 t5 t6 t7 t8 t9 = apart (is_at code index bearer_context_modification_request) (here code index bearer_context_modification_request (ap place_code e) (ap place_index e)) t5
  nowhere (e1s.BearerContextModificationResponse ue instance uplinks statuses) e t0 t1 t2 t3 t4 t5 t6 t7 t8 t9 = apart (is_at code index bearer_context_modification_response) (here code index bearer_context_modification_response (ap place_code e) (ap place_index e)) t6
  nowhere (e1s.BearerContextModificationFailure ue instance cause) e t0 t1 t2 t3 t4 t5 t6 t7 t8 t9 = apart (is_at code index bearer_context_modification_failure) (here code index bearer_context_modification_failure (ap place_code e) (ap place_index e)) t7
  nowhere (e1s.BearerContextReleaseCommand ue instance is_final) e t0 t1 t2 t3 t4 t5 t6 t7 t8 t9 = apart (is_at code index bearer_context_release_command) (here code index bearer_context_release_command (ap place_code e) (ap place_index e)) t8
  nowhere (e1s.BearerContextReleaseComplete ue instance) e t0 t1 t2 t3 t4 t5 t6 t7 t8 t9 = apart (is_at code index bearer_context_release_complete) (here code index bearer_context_release_complete (ap place_code e) (ap place_index e)) t9

-- at the place of each message
module _ (index code criticality : ℕ) (body : Value) (msg : E1Message) (h : Has [] e1_type (message index code criticality body)) where
  from_value_by : (b0 b1 b2 b3 b4 b5 b6 b7 b8 b9 : Bool) → is_at code index e1_setup_request ≡ b0 → is_at code index e1_setup_response ≡ b1 → is_at code index bearer_context_setup_request ≡ b2 → is_at code index bearer_context_setup_response ≡ b3 → is_at code index bearer_context_setup_failure ≡ b4 → is_at code index bearer_context_modification_request ≡ b5 → is_at code index bearer_context_modification_response ≡ b6 → is_at code index bearer_context_modification_failure ≡ b7 → is_at code index bearer_context_release_command ≡ b8 → is_at code index bearer_context_release_complete ≡ b9
      → cond b0 (unless_rejected (first_rejected e1_setup_request.elements (elements_in body)) (e1_setup_request_in body)) (cond b1 (unless_rejected (first_rejected e1_setup_response.elements (elements_in body)) (e1_setup_response_in body)) (cond b2 (unless_rejected (first_rejected bearer_context_setup_request.elements (elements_in body)) (bearer_context_setup_request_in body)) (cond b3 (unless_rejected (first_rejected bearer_context_setup_response.elements (elements_in body)) (bearer_context_setup_response_in body)) (cond b4 (unless_rejected (first_rejected bearer_context_setup_failure.elements (elements_in body)) (bearer_context_setup_failure_in body)) (cond b5 (unless_rejected (first_rejected bearer_context_modification_request.elements (elements_in body)) (bearer_context_modification_request_in body)) (cond b6 (unless_rejected (first_rejected bearer_context_modification_response.elements (elements_in body)) (bearer_context_modification_response_in body)) (cond b7 (unless_rejected (first_rejected bearer_context_modification_failure.elements (elements_in body)) (bearer_context_modification_failure_in body)) (cond b8 (unless_rejected (first_rejected bearer_context_release_command.elements (elements_in body)) (bearer_context_release_command_in body)) (cond b9 (unless_rejected (first_rejected bearer_context_release_complete.elements (elements_in body)) (bearer_context_release_complete_in body)) (Err (unknown_procedure code criticality))))))))))) ≡ Ok msg
      → known e1_type (message index code criticality body) ≡ written_e1 msg
  from_value_by true b1 b2 b3 b4 b5 b6 b7 b8 b9 t0 t1 t2 t3 t4 t5 t6 t7 t8 t9 e = at_e1_setup_request index code criticality body t0 h ∙ ap written_e1 (answer_is (first_rejected e1_setup_request.elements (elements_in body)) (e1_setup_request_in body) msg e)
  from_value_by false true b2 b3 b4 b5 b6 b7 b8 b9 t0 t1 t2 t3 t4 t5 t6 t7 t8 t9 e = at_e1_setup_response index code criticality body t1 h ∙ ap written_e1 (answer_is (first_rejected e1_setup_response.elements (elements_in body)) (e1_setup_response_in body) msg e)
  from_value_by false false true b3 b4 b5 b6 b7 b8 b9 t0 t1 t2 t3 t4 t5 t6 t7 t8 t9 e = at_bearer_context_setup_request index code criticality body t2 h ∙ ap written_e1 (answer_is (first_rejected bearer_context_setup_request.elements (elements_in body)) (bearer_context_setup_request_in body) msg e)
  from_value_by false false false true b4 b5 b6 b7 b8 b9 t0 t1 t2 t3 t4 t5 t6 t7 t8 t9 e = at_bearer_context_setup_response index code criticality body t3 h ∙ ap written_e1 (answer_is (first_rejected bearer_context_setup_response.elements (elements_in body)) (bearer_context_setup_response_in body) msg e)
  from_value_by false false false false true b5 b6 b7 b8 b9 t0 t1 t2 t3 t4 t5 t6 t7 t8 t9 e = at_bearer_context_setup_failure index code criticality body t4 h ∙ ap written_e1 (answer_is (first_rejected bearer_context_setup_failure.elements (elements_in body)) (bearer_context_setup_failure_in body) msg e)
  from_value_by false false false false false true b6 b7 b8 b9 t0 t1 t2 t3 t4 t5 t6 t7 t8 t9 e = at_bearer_context_modification_request index code criticality body t5 h ∙ ap written_e1 (answer_is (first_rejected bearer_context_modification_request.elements (elements_in body)) (bearer_context_modification_request_in body) msg e)
  from_value_by false false false false false false true b7 b8 b9 t0 t1 t2 t3 t4 t5 t6 t7 t8 t9 e = at_bearer_context_modification_response index code criticality body t6 h ∙ ap written_e1 (answer_is (first_rejected bearer_context_modification_response.elements (elements_in body)) (bearer_context_modification_response_in body) msg e)
  from_value_by false false false false false false false true b8 b9 t0 t1 t2 t3 t4 t5 t6 t7 t8 t9 e = at_bearer_context_modification_failure index code criticality body t7 h ∙ ap written_e1 (answer_is (first_rejected bearer_context_modification_failure.elements (elements_in body)) (bearer_context_modification_failure_in body) msg e)
  from_value_by false false false false false false false false true b9 t0 t1 t2 t3 t4 t5 t6 t7 t8 t9 e = at_bearer_context_release_command index code criticality body t8 h ∙ ap written_e1 (answer_is (first_rejected bearer_context_release_command.elements (elements_in body)) (bearer_context_release_command_in body) msg e)
  from_value_by false false false false false false false false false true t0 t1 t2 t3 t4 t5 t6 t7 t8 t9 e = at_bearer_context_release_complete index code criticality body t9 h ∙ ap written_e1 (answer_is (first_rejected bearer_context_release_complete.elements (elements_in body)) (bearer_context_release_complete_in body) msg e)
  from_value_by false false false false false false false false false false t0 t1 t2 t3 t4 t5 t6 t7 t8 t9 e = cc

  from_value_at : e1_at index code criticality (elements_in body) ≡ Ok msg → known e1_type (message index code criticality body) ≡ written_e1 msg
  unfolding e1_at e1_setup_request_in e1_setup_response_in bearer_context_setup_request_in bearer_context_setup_response_in bearer_context_setup_failure_in bearer_context_modification_request_in bearer_context_modification_response_in bearer_context_modification_failure_in bearer_context_release_command_in bearer_context_release_complete_in
  from_value_at e = from_value_by (is_at code index e1_setup_request) (is_at code index e1_setup_response) (is_at code index bearer_context_setup_request) (is_at code index bearer_context_setup_response) (is_at code index bearer_context_setup_failure) (is_at code index bearer_context_modification_request) (is_at code index bearer_context_modification_response) (is_at code index bearer_context_modification_failure) (is_at code index bearer_context_release_command) (is_at code index bearer_context_release_complete) refl refl refl refl refl refl refl refl refl refl e

  said_by : (b0 b1 b2 b3 b4 b5 b6 b7 b8 b9 : Bool) → is_at code index e1_setup_request ≡ b0 → is_at code index e1_setup_response ≡ b1 → is_at code index bearer_context_setup_request ≡ b2 → is_at code index bearer_context_setup_response ≡ b3 → is_at code index bearer_context_setup_failure ≡ b4 → is_at code index bearer_context_modification_request ≡ b5 → is_at code index bearer_context_modification_response ≡ b6 → is_at code index bearer_context_modification_failure ≡ b7 → is_at code index bearer_context_release_command ≡ b8 → is_at code index bearer_context_release_complete ≡ b9 → known e1_type (message index code criticality body) ≡ written_e1 msg
      → cond b0 (unless_rejected (first_rejected e1_setup_request.elements (elements_in body)) (e1_setup_request_in body)) (cond b1 (unless_rejected (first_rejected e1_setup_response.elements (elements_in body)) (e1_setup_response_in body)) (cond b2 (unless_rejected (first_rejected bearer_context_setup_request.elements (elements_in body)) (bearer_context_setup_request_in body)) (cond b3 (unless_rejected (first_rejected bearer_context_setup_response.elements (elements_in body)) (bearer_context_setup_response_in body)) (cond b4 (unless_rejected (first_rejected bearer_context_setup_failure.elements (elements_in body)) (bearer_context_setup_failure_in body)) (cond b5 (unless_rejected (first_rejected bearer_context_modification_request.elements (elements_in body)) (bearer_context_modification_request_in body)) (cond b6 (unless_rejected (first_rejected bearer_context_modification_response.elements (elements_in body)) (bearer_context_modification_response_in body)) (cond b7 (unless_rejected (first_rejected bearer_context_modification_failure.elements (elements_in body)) (bearer_context_modification_failure_in body)) (cond b8 (unless_rejected (first_rejected bearer_context_release_command.elements (elements_in body)) (bearer_context_release_command_in body)) (cond b9 (unless_rejected (first_rejected bearer_context_release_complete.elements (elements_in body)) (bearer_context_release_complete_in body)) (Err (unknown_procedure code criticality))))))))))) ≡ unless_rejected (cond b0 (first_rejected e1_setup_request.elements (elements_in body)) (cond b1 (first_rejected e1_setup_response.elements (elements_in body)) (cond b2 (first_rejected bearer_context_setup_request.elements (elements_in body)) (cond b3 (first_rejected bearer_context_setup_response.elements (elements_in body)) (cond b4 (first_rejected bearer_context_setup_failure.elements (elements_in body)) (cond b5 (first_rejected bearer_context_modification_request.elements (elements_in body)) (cond b6 (first_rejected bearer_context_modification_response.elements (elements_in body)) (cond b7 (first_rejected bearer_context_modification_failure.elements (elements_in body)) (cond b8 (first_rejected bearer_context_release_command.elements (elements_in body)) (cond b9 (first_rejected bearer_context_release_complete.elements (elements_in body)) (None))))))))))) msg
  said_by true b1 b2 b3 b4 b5 b6 b7 b8 b9 t0 t1 t2 t3 t4 t5 t6 t7 t8 t9 e = ap (unless_rejected (first_rejected e1_setup_request.elements (elements_in body))) (only (e1_setup_request_in body) msg (sym (at_e1_setup_request index code criticality body t0 h) ∙ e))
  said_by false true b2 b3 b4 b5 b6 b7 b8 b9 t0 t1 t2 t3 t4 t5 t6 t7 t8 t9 e = ap (unless_rejected (first_rejected e1_setup_response.elements (elements_in body))) (only (e1_setup_response_in body) msg (sym (at_e1_setup_response index code criticality body t1 h) ∙ e))
  said_by false false true b3 b4 b5 b6 b7 b8 b9 t0 t1 t2 t3 t4 t5 t6 t7 t8 t9 e = ap (unless_rejected (first_rejected bearer_context_setup_request.elements (elements_in body))) (only (bearer_context_setup_request_in body) msg (sym (at_bearer_context_setup_request index code criticality body t2 h) ∙ e))
  said_by false false false true b4 b5 b6 b7 b8 b9 t0 t1 t2 t3 t4 t5 t6 t7 t8 t9 e = ap (unless_rejected (first_rejected bearer_context_setup_response.elements (elements_in body))) (only (bearer_context_setup_response_in body) msg (sym (at_bearer_context_setup_response index code criticality body t3 h) ∙ e))
  said_by false false false false true b5 b6 b7 b8 b9 t0 t1 t2 t3 t4 t5 t6 t7 t8 t9 e = ap (unless_rejected (first_rejected bearer_context_setup_failure.elements (elements_in body))) (only (bearer_context_setup_failure_in body) msg (sym (at_bearer_context_setup_failure index code criticality body t4 h) ∙ e))
  said_by false false false false false true b6 b7 b8 b9 t0 t1 t2 t3 t4 t5 t6 t7 t8 t9 e = ap (unless_rejected (first_rejected bearer_context_modification_request.elements (elements_in body))) (only (bearer_context_modification_request_in body) msg (sym (at_bearer_context_modification_request index code criticality body t5 h) ∙ e))
  said_by false false false false false false true b7 b8 b9 t0 t1 t2 t3 t4 t5 t6 t7 t8 t9 e = ap (unless_rejected (first_rejected bearer_context_modification_response.elements (elements_in body))) (only (bearer_context_modification_response_in body) msg (sym (at_bearer_context_modification_response index code criticality body t6 h) ∙ e))
  said_by false false false false false false false true b8 b9 t0 t1 t2 t3 t4 t5 t6 t7 t8 t9 e = ap (unless_rejected (first_rejected bearer_context_modification_failure.elements (elements_in body))) (only (bearer_context_modification_failure_in body) msg (sym (at_bearer_context_modification_failure index code criticality body t7 h) ∙ e))
  said_by false false false false false false false false true b9 t0 t1 t2 t3 t4 t5 t6 t7 t8 t9 e = ap (unless_rejected (first_rejected bearer_context_release_command.elements (elements_in body))) (only (bearer_context_release_command_in body) msg (sym (at_bearer_context_release_command index code criticality body t8 h) ∙ e))
  said_by false false false false false false false false false true t0 t1 t2 t3 t4 t5 t6 t7 t8 t9 e = ap (unless_rejected (first_rejected bearer_context_release_complete.elements (elements_in body))) (only (bearer_context_release_complete_in body) msg (sym (at_bearer_context_release_complete index code criticality body t9 h) ∙ e))
  said_by false false false false false false false false false false t0 t1 t2 t3 t4 t5 t6 t7 t8 t9 e = absurd (nowhere index code criticality body msg e t0 t1 t2 t3 t4 t5 t6 t7 t8 t9)

  said_at : known e1_type (message index code criticality body) ≡ written_e1 msg → e1_at index code criticality (elements_in body)
      ≡ unless_rejected (rejected_in e1_messages (message index code criticality body)) msg
  unfolding e1_at e1_setup_request_in e1_setup_response_in bearer_context_setup_request_in bearer_context_setup_response_in bearer_context_setup_failure_in bearer_context_modification_request_in bearer_context_modification_response_in bearer_context_modification_failure_in bearer_context_release_command_in bearer_context_release_complete_in
  said_at e = said_by (is_at code index e1_setup_request) (is_at code index e1_setup_response) (is_at code index bearer_context_setup_request) (is_at code index bearer_context_setup_response) (is_at code index bearer_context_setup_failure) (is_at code index bearer_context_modification_request) (is_at code index bearer_context_modification_response) (is_at code index bearer_context_modification_failure) (is_at code index bearer_context_release_command) (is_at code index bearer_context_release_complete) refl refl refl refl refl refl refl refl refl refl e

pub from_value_says : (msg : E1Message) (v : Value) → Has [] e1_type v → e1_from_value v ≡ Ok msg → known e1_type v ≡ written_e1 msg
unfolding e1_from_value Has e1_type tree
from_value_says msg (message index code criticality body) h e = from_value_at index code criticality body msg h e
from_value_says msg v h e = absurd h

pub said_hears : (msg : E1Message) (v : Value) → Has [] e1_type v → known e1_type v ≡ written_e1 msg
    → e1_from_value v ≡ unless_rejected (rejected_in e1_messages v) msg
unfolding e1_from_value Has e1_type tree
said_hears msg (message index code criticality body) h e = said_at index code criticality body msg h e
said_hears msg v h e = absurd h
