-- F1: what is heard in a value of the PDU is the message that the value says.
use Rattle.std.proofs.Common.{◌≡◌, ℕ, Bool, true, false, cond, List, [], ◌∷◌, None, Result, Ok, Err, refl, sym, ap, subst, ◌∙◌}
use Rattle.message_types.specs.declared.f1.F1.TheVariants as f1s
use Rattle.aper_defs.specs.Trees.{Parts, no_parts}
use Rattle.aper_defs.specs.Values.{Value, Ies, octets, text, message, no_options}
use Rattle.aper_defs.specs.Fields.{Path}
use Rattle.aper_defs.specs.Fields as fields
use Rattle.aper_defs.specs.Membership.{Has, HasRow, HasBody, HasOutcome}
use Rattle.message_defs.specs.profile_defs.Forms.{tree, parts, rows, procedures, outcome_tree}
use Rattle.message_defs.specs.profile_defs.Elements as ies
use Rattle.message_defs.specs.profile_defs.Tables.{Use, is_at}
use Rattle.message_defs.specs.profile_defs.Messages.{f1_messages, f1_setup_request, f1_setup_response, ue_context_setup_request, ue_context_setup_response, ue_context_modification_request, ue_context_modification_response, ue_context_release_command, ue_context_release_complete, dl_rrc_message_transfer, ul_rrc_message_transfer}
use Rattle.message_defs.specs.profile_defs.Profile.{f1_type}
use Rattle.message_defs.specs.Fields.{from_number, from_peer, from_sn, from_tunnels, from_ue, to_number, to_octets, to_peer, to_sn, to_text, to_tunnels, to_ue}
use Rattle.message_defs.specs.Places.{has, the, elements_in}
use Rattle.message_defs.specs.Known.{known, known_row, known_body, known_message}
use Rattle.message_defs.specs.FromValue.{Cause, unknown_procedure, first_rejected, unless_rejected, rejected_in}
use Rattle.message_defs.specs.F1.{F1Message, written_f1, f1_at, f1_from_value}
use Rattle.proof_heard_messages.proofs.HeardF1.{heard}
use Rattle.proof_messages.proofs.message_elements.Rounds.{ue_is, word_is, sn_is, container_is, name_is, peer_is, tunnels_is}
use Rattle.proof_messages.proofs.message_elements.Matched.{none, one, must, its_tree, inside, are_its, known_body_is, code_is, outcome_is, answer_is, here}

whole : ℕ → ℕ → Value → Value
whole index code body = message index code 0 body

same_answer : (a b : F1Message) → (let x : Result F1Message Cause = Ok a in x) ≡ Ok b → a ≡ b
same_answer a b h = cc

only : (a b : F1Message) → written_f1 a ≡ written_f1 b → a ≡ b
only a b h = same_answer a b (sym (heard a) ∙ ap f1_from_value h ∙ heard b)

f1_setup_request_in : Value → F1Message
f1_setup_request_in body = f1s.F1SetupRequest (the ies.instance to_number (elements_in body)) (the ies.name to_text (elements_in body))

says_f1_setup_request : (criticality : ℕ) (body : Value) → Has [] f1_type (message 0 1 criticality body)
    → known f1_type (message 0 1 criticality body) ≡ written_f1 (f1_setup_request_in body)
unfolding f1_type tree parts rows procedures outcome_tree known known_row known_body known_message Has HasRow HasBody HasOutcome written_f1 f1_setup_request_in whole
says_f1_setup_request criticality body h =
    let q : Path = fields.outcome 0 ∷ [] in
    let uses : List Use = f1_setup_request.elements in
    let additions : Parts = no_parts in
    let p : Path = inside q uses additions in
    let found : Ies = elements_in body in
    let has_it : Has q (its_tree q uses additions) body = h.2.0 in
    let are = are_its q uses additions body has_it in
    ap (whole 0 1) (known_body_is q uses additions body
    (has ies.instance (from_number (the ies.instance to_number (elements_in body))) ∷ has ies.name (text (the ies.name to_text (elements_in body))) ∷ [])
    no_options has_it refl
    (one (must uses p found ies.instance from_number to_number refl are (λ w g. word_is (fields.element 2 ∷ p) w g.0))
    (one (must uses p found ies.name text to_text refl are (λ w g. name_is (fields.element 17 ∷ p) w g.0)) none))
    refl)

at_f1_setup_request : (index code criticality : ℕ) (body : Value) → is_at code index f1_setup_request ≡ true → Has [] f1_type (message index code criticality body)
    → known f1_type (message index code criticality body) ≡ written_f1 (f1_setup_request_in body)
at_f1_setup_request index code criticality body t h =
    subst (λ n. Has [] f1_type (message n code criticality body) → known f1_type (message n code criticality body) ≡ written_f1 (f1_setup_request_in body))
    (outcome_is code index f1_setup_request t)
    (subst (λ n. Has [] f1_type (message 0 n criticality body) → known f1_type (message 0 n criticality body) ≡ written_f1 (f1_setup_request_in body))
    (code_is code index f1_setup_request t) (says_f1_setup_request criticality body)) h

f1_setup_response_in : Value → F1Message
f1_setup_response_in body = f1s.F1SetupResponse (the ies.instance to_number (elements_in body))

says_f1_setup_response : (criticality : ℕ) (body : Value) → Has [] f1_type (message 1 1 criticality body)
    → known f1_type (message 1 1 criticality body) ≡ written_f1 (f1_setup_response_in body)
unfolding f1_type tree parts rows procedures outcome_tree known known_row known_body known_message Has HasRow HasBody HasOutcome written_f1 f1_setup_response_in whole
says_f1_setup_response criticality body h =
    let q : Path = fields.outcome 1 ∷ [] in
    let uses : List Use = f1_setup_response.elements in
    let additions : Parts = no_parts in
    let p : Path = inside q uses additions in
    let found : Ies = elements_in body in
    let has_it : Has q (its_tree q uses additions) body = h.2.0 in
    let are = are_its q uses additions body has_it in
    ap (whole 1 1) (known_body_is q uses additions body
    (has ies.instance (from_number (the ies.instance to_number (elements_in body))) ∷ [])
    no_options has_it refl
    (one (must uses p found ies.instance from_number to_number refl are (λ w g. word_is (fields.element 2 ∷ p) w g.0)) none)
    refl)

at_f1_setup_response : (index code criticality : ℕ) (body : Value) → is_at code index f1_setup_response ≡ true → Has [] f1_type (message index code criticality body)
    → known f1_type (message index code criticality body) ≡ written_f1 (f1_setup_response_in body)
at_f1_setup_response index code criticality body t h =
    subst (λ n. Has [] f1_type (message n code criticality body) → known f1_type (message n code criticality body) ≡ written_f1 (f1_setup_response_in body))
    (outcome_is code index f1_setup_response t)
    (subst (λ n. Has [] f1_type (message 1 n criticality body) → known f1_type (message 1 n criticality body) ≡ written_f1 (f1_setup_response_in body))
    (code_is code index f1_setup_response t) (says_f1_setup_response criticality body)) h

ue_context_setup_request_in : Value → F1Message
ue_context_setup_request_in body = f1s.UeContextSetupRequest (the ies.ue to_ue (elements_in body)) (the ies.instance to_number (elements_in body)) (the ies.epoch to_number (elements_in body)) (the ies.uplinks to_tunnels (elements_in body)) (the ies.sn to_sn (elements_in body)) (the ies.peer to_peer (elements_in body))

says_ue_context_setup_request : (criticality : ℕ) (body : Value) → Has [] f1_type (message 0 2 criticality body)
    → known f1_type (message 0 2 criticality body) ≡ written_f1 (ue_context_setup_request_in body)
unfolding f1_type tree parts rows procedures outcome_tree known known_row known_body known_message Has HasRow HasBody HasOutcome written_f1 ue_context_setup_request_in whole
says_ue_context_setup_request criticality body h =
    let q : Path = fields.outcome 0 ∷ [] in
    let uses : List Use = ue_context_setup_request.elements in
    let additions : Parts = no_parts in
    let p : Path = inside q uses additions in
    let found : Ies = elements_in body in
    let has_it : Has q (its_tree q uses additions) body = h.2.0 in
    let are = are_its q uses additions body has_it in
    ap (whole 0 2) (known_body_is q uses additions body
    (has ies.ue (from_ue (the ies.ue to_ue (elements_in body))) ∷ has ies.instance (from_number (the ies.instance to_number (elements_in body))) ∷ has ies.epoch (from_number (the ies.epoch to_number (elements_in body))) ∷ has ies.uplinks (from_tunnels (the ies.uplinks to_tunnels (elements_in body))) ∷ has ies.sn (from_sn (the ies.sn to_sn (elements_in body))) ∷ has ies.peer (from_peer (the ies.peer to_peer (elements_in body))) ∷ [])
    no_options has_it refl
    (one (must uses p found ies.ue from_ue to_ue refl are (λ w g. ue_is (fields.element 1 ∷ p) w g.0))
    (one (must uses p found ies.instance from_number to_number refl are (λ w g. word_is (fields.element 2 ∷ p) w g.0))
    (one (must uses p found ies.epoch from_number to_number refl are (λ w g. word_is (fields.element 3 ∷ p) w g.0))
    (one (must uses p found ies.uplinks from_tunnels to_tunnels refl are (λ w g. tunnels_is (fields.element 5 ∷ p) w g.0))
    (one (must uses p found ies.sn from_sn to_sn refl are (λ w g. sn_is (fields.element 9 ∷ p) w g.0))
    (one (must uses p found ies.peer from_peer to_peer refl are (λ w g. peer_is (fields.element 12 ∷ p) w g.0)) none))))))
    refl)

at_ue_context_setup_request : (index code criticality : ℕ) (body : Value) → is_at code index ue_context_setup_request ≡ true → Has [] f1_type (message index code criticality body)
    → known f1_type (message index code criticality body) ≡ written_f1 (ue_context_setup_request_in body)
at_ue_context_setup_request index code criticality body t h =
    subst (λ n. Has [] f1_type (message n code criticality body) → known f1_type (message n code criticality body) ≡ written_f1 (ue_context_setup_request_in body))
    (outcome_is code index ue_context_setup_request t)
    (subst (λ n. Has [] f1_type (message 0 n criticality body) → known f1_type (message 0 n criticality body) ≡ written_f1 (ue_context_setup_request_in body))
    (code_is code index ue_context_setup_request t) (says_ue_context_setup_request criticality body)) h

ue_context_setup_response_in : Value → F1Message
ue_context_setup_response_in body = f1s.UeContextSetupResponse (the ies.ue to_ue (elements_in body)) (the ies.instance to_number (elements_in body)) (the ies.downlinks to_tunnels (elements_in body))

says_ue_context_setup_response : (criticality : ℕ) (body : Value) → Has [] f1_type (message 1 2 criticality body)
    → known f1_type (message 1 2 criticality body) ≡ written_f1 (ue_context_setup_response_in body)
unfolding f1_type tree parts rows procedures outcome_tree known known_row known_body known_message Has HasRow HasBody HasOutcome written_f1 ue_context_setup_response_in whole
says_ue_context_setup_response criticality body h =
    let q : Path = fields.outcome 1 ∷ [] in
    let uses : List Use = ue_context_setup_response.elements in
    let additions : Parts = no_parts in
    let p : Path = inside q uses additions in
    let found : Ies = elements_in body in
    let has_it : Has q (its_tree q uses additions) body = h.2.0 in
    let are = are_its q uses additions body has_it in
    ap (whole 1 2) (known_body_is q uses additions body
    (has ies.ue (from_ue (the ies.ue to_ue (elements_in body))) ∷ has ies.instance (from_number (the ies.instance to_number (elements_in body))) ∷ has ies.downlinks (from_tunnels (the ies.downlinks to_tunnels (elements_in body))) ∷ [])
    no_options has_it refl
    (one (must uses p found ies.ue from_ue to_ue refl are (λ w g. ue_is (fields.element 1 ∷ p) w g.0))
    (one (must uses p found ies.instance from_number to_number refl are (λ w g. word_is (fields.element 2 ∷ p) w g.0))
    (one (must uses p found ies.downlinks from_tunnels to_tunnels refl are (λ w g. tunnels_is (fields.element 6 ∷ p) w g.0)) none)))
    refl)

at_ue_context_setup_response : (index code criticality : ℕ) (body : Value) → is_at code index ue_context_setup_response ≡ true → Has [] f1_type (message index code criticality body)
    → known f1_type (message index code criticality body) ≡ written_f1 (ue_context_setup_response_in body)
at_ue_context_setup_response index code criticality body t h =
    subst (λ n. Has [] f1_type (message n code criticality body) → known f1_type (message n code criticality body) ≡ written_f1 (ue_context_setup_response_in body))
    (outcome_is code index ue_context_setup_response t)
    (subst (λ n. Has [] f1_type (message 1 n criticality body) → known f1_type (message 1 n criticality body) ≡ written_f1 (ue_context_setup_response_in body))
    (code_is code index ue_context_setup_response t) (says_ue_context_setup_response criticality body)) h

ue_context_modification_request_in : Value → F1Message
ue_context_modification_request_in body = f1s.UeContextModificationRequest (the ies.ue to_ue (elements_in body)) (the ies.instance to_number (elements_in body)) (the ies.epoch to_number (elements_in body))

says_ue_context_modification_request : (criticality : ℕ) (body : Value) → Has [] f1_type (message 0 3 criticality body)
    → known f1_type (message 0 3 criticality body) ≡ written_f1 (ue_context_modification_request_in body)
unfolding f1_type tree parts rows procedures outcome_tree known known_row known_body known_message Has HasRow HasBody HasOutcome written_f1 ue_context_modification_request_in whole
says_ue_context_modification_request criticality body h =
    let q : Path = fields.outcome 0 ∷ [] in
    let uses : List Use = ue_context_modification_request.elements in
    let additions : Parts = no_parts in
    let p : Path = inside q uses additions in
    let found : Ies = elements_in body in
    let has_it : Has q (its_tree q uses additions) body = h.2.0 in
    let are = are_its q uses additions body has_it in
    ap (whole 0 3) (known_body_is q uses additions body
    (has ies.ue (from_ue (the ies.ue to_ue (elements_in body))) ∷ has ies.instance (from_number (the ies.instance to_number (elements_in body))) ∷ has ies.epoch (from_number (the ies.epoch to_number (elements_in body))) ∷ [])
    no_options has_it refl
    (one (must uses p found ies.ue from_ue to_ue refl are (λ w g. ue_is (fields.element 1 ∷ p) w g.0))
    (one (must uses p found ies.instance from_number to_number refl are (λ w g. word_is (fields.element 2 ∷ p) w g.0))
    (one (must uses p found ies.epoch from_number to_number refl are (λ w g. word_is (fields.element 3 ∷ p) w g.0)) none)))
    refl)

at_ue_context_modification_request : (index code criticality : ℕ) (body : Value) → is_at code index ue_context_modification_request ≡ true → Has [] f1_type (message index code criticality body)
    → known f1_type (message index code criticality body) ≡ written_f1 (ue_context_modification_request_in body)
at_ue_context_modification_request index code criticality body t h =
    subst (λ n. Has [] f1_type (message n code criticality body) → known f1_type (message n code criticality body) ≡ written_f1 (ue_context_modification_request_in body))
    (outcome_is code index ue_context_modification_request t)
    (subst (λ n. Has [] f1_type (message 0 n criticality body) → known f1_type (message 0 n criticality body) ≡ written_f1 (ue_context_modification_request_in body))
    (code_is code index ue_context_modification_request t) (says_ue_context_modification_request criticality body)) h

ue_context_modification_response_in : Value → F1Message
ue_context_modification_response_in body = f1s.UeContextModificationResponse (the ies.ue to_ue (elements_in body)) (the ies.instance to_number (elements_in body)) (the ies.downlinks to_tunnels (elements_in body))

says_ue_context_modification_response : (criticality : ℕ) (body : Value) → Has [] f1_type (message 1 3 criticality body)
    → known f1_type (message 1 3 criticality body) ≡ written_f1 (ue_context_modification_response_in body)
unfolding f1_type tree parts rows procedures outcome_tree known known_row known_body known_message Has HasRow HasBody HasOutcome written_f1 ue_context_modification_response_in whole
says_ue_context_modification_response criticality body h =
    let q : Path = fields.outcome 1 ∷ [] in
    let uses : List Use = ue_context_modification_response.elements in
    let additions : Parts = no_parts in
    let p : Path = inside q uses additions in
    let found : Ies = elements_in body in
    let has_it : Has q (its_tree q uses additions) body = h.2.0 in
    let are = are_its q uses additions body has_it in
    ap (whole 1 3) (known_body_is q uses additions body
    (has ies.ue (from_ue (the ies.ue to_ue (elements_in body))) ∷ has ies.instance (from_number (the ies.instance to_number (elements_in body))) ∷ has ies.downlinks (from_tunnels (the ies.downlinks to_tunnels (elements_in body))) ∷ [])
    no_options has_it refl
    (one (must uses p found ies.ue from_ue to_ue refl are (λ w g. ue_is (fields.element 1 ∷ p) w g.0))
    (one (must uses p found ies.instance from_number to_number refl are (λ w g. word_is (fields.element 2 ∷ p) w g.0))
    (one (must uses p found ies.downlinks from_tunnels to_tunnels refl are (λ w g. tunnels_is (fields.element 6 ∷ p) w g.0)) none)))
    refl)

at_ue_context_modification_response : (index code criticality : ℕ) (body : Value) → is_at code index ue_context_modification_response ≡ true → Has [] f1_type (message index code criticality body)
    → known f1_type (message index code criticality body) ≡ written_f1 (ue_context_modification_response_in body)
at_ue_context_modification_response index code criticality body t h =
    subst (λ n. Has [] f1_type (message n code criticality body) → known f1_type (message n code criticality body) ≡ written_f1 (ue_context_modification_response_in body))
    (outcome_is code index ue_context_modification_response t)
    (subst (λ n. Has [] f1_type (message 1 n criticality body) → known f1_type (message 1 n criticality body) ≡ written_f1 (ue_context_modification_response_in body))
    (code_is code index ue_context_modification_response t) (says_ue_context_modification_response criticality body)) h

ue_context_release_command_in : Value → F1Message
ue_context_release_command_in body = f1s.UeContextReleaseCommand (the ies.ue to_ue (elements_in body)) (the ies.instance to_number (elements_in body))

says_ue_context_release_command : (criticality : ℕ) (body : Value) → Has [] f1_type (message 0 4 criticality body)
    → known f1_type (message 0 4 criticality body) ≡ written_f1 (ue_context_release_command_in body)
unfolding f1_type tree parts rows procedures outcome_tree known known_row known_body known_message Has HasRow HasBody HasOutcome written_f1 ue_context_release_command_in whole
says_ue_context_release_command criticality body h =
    let q : Path = fields.outcome 0 ∷ [] in
    let uses : List Use = ue_context_release_command.elements in
    let additions : Parts = no_parts in
    let p : Path = inside q uses additions in
    let found : Ies = elements_in body in
    let has_it : Has q (its_tree q uses additions) body = h.2.0 in
    let are = are_its q uses additions body has_it in
    ap (whole 0 4) (known_body_is q uses additions body
    (has ies.ue (from_ue (the ies.ue to_ue (elements_in body))) ∷ has ies.instance (from_number (the ies.instance to_number (elements_in body))) ∷ [])
    no_options has_it refl
    (one (must uses p found ies.ue from_ue to_ue refl are (λ w g. ue_is (fields.element 1 ∷ p) w g.0))
    (one (must uses p found ies.instance from_number to_number refl are (λ w g. word_is (fields.element 2 ∷ p) w g.0)) none))
    refl)

at_ue_context_release_command : (index code criticality : ℕ) (body : Value) → is_at code index ue_context_release_command ≡ true → Has [] f1_type (message index code criticality body)
    → known f1_type (message index code criticality body) ≡ written_f1 (ue_context_release_command_in body)
at_ue_context_release_command index code criticality body t h =
    subst (λ n. Has [] f1_type (message n code criticality body) → known f1_type (message n code criticality body) ≡ written_f1 (ue_context_release_command_in body))
    (outcome_is code index ue_context_release_command t)
    (subst (λ n. Has [] f1_type (message 0 n criticality body) → known f1_type (message 0 n criticality body) ≡ written_f1 (ue_context_release_command_in body))
    (code_is code index ue_context_release_command t) (says_ue_context_release_command criticality body)) h

ue_context_release_complete_in : Value → F1Message
ue_context_release_complete_in body = f1s.UeContextReleaseComplete (the ies.ue to_ue (elements_in body)) (the ies.instance to_number (elements_in body))

says_ue_context_release_complete : (criticality : ℕ) (body : Value) → Has [] f1_type (message 1 4 criticality body)
    → known f1_type (message 1 4 criticality body) ≡ written_f1 (ue_context_release_complete_in body)
unfolding f1_type tree parts rows procedures outcome_tree known known_row known_body known_message Has HasRow HasBody HasOutcome written_f1 ue_context_release_complete_in whole
says_ue_context_release_complete criticality body h =
    let q : Path = fields.outcome 1 ∷ [] in
    let uses : List Use = ue_context_release_complete.elements in
    let additions : Parts = no_parts in
    let p : Path = inside q uses additions in
    let found : Ies = elements_in body in
    let has_it : Has q (its_tree q uses additions) body = h.2.0 in
    let are = are_its q uses additions body has_it in
    ap (whole 1 4) (known_body_is q uses additions body
    (has ies.ue (from_ue (the ies.ue to_ue (elements_in body))) ∷ has ies.instance (from_number (the ies.instance to_number (elements_in body))) ∷ [])
    no_options has_it refl
    (one (must uses p found ies.ue from_ue to_ue refl are (λ w g. ue_is (fields.element 1 ∷ p) w g.0))
    (one (must uses p found ies.instance from_number to_number refl are (λ w g. word_is (fields.element 2 ∷ p) w g.0)) none))
    refl)

at_ue_context_release_complete : (index code criticality : ℕ) (body : Value) → is_at code index ue_context_release_complete ≡ true → Has [] f1_type (message index code criticality body)
    → known f1_type (message index code criticality body) ≡ written_f1 (ue_context_release_complete_in body)
at_ue_context_release_complete index code criticality body t h =
    subst (λ n. Has [] f1_type (message n code criticality body) → known f1_type (message n code criticality body) ≡ written_f1 (ue_context_release_complete_in body))
    (outcome_is code index ue_context_release_complete t)
    (subst (λ n. Has [] f1_type (message 1 n criticality body) → known f1_type (message 1 n criticality body) ≡ written_f1 (ue_context_release_complete_in body))
    (code_is code index ue_context_release_complete t) (says_ue_context_release_complete criticality body)) h

dl_rrc_message_transfer_in : Value → F1Message
dl_rrc_message_transfer_in body = f1s.DlRrcMessageTransfer (the ies.ue to_ue (elements_in body)) (the ies.container to_octets (elements_in body))

says_dl_rrc_message_transfer : (criticality : ℕ) (body : Value) → Has [] f1_type (message 0 5 criticality body)
    → known f1_type (message 0 5 criticality body) ≡ written_f1 (dl_rrc_message_transfer_in body)
unfolding f1_type tree parts rows procedures outcome_tree known known_row known_body known_message Has HasRow HasBody HasOutcome written_f1 dl_rrc_message_transfer_in whole
says_dl_rrc_message_transfer criticality body h =
    let q : Path = fields.outcome 0 ∷ [] in
    let uses : List Use = dl_rrc_message_transfer.elements in
    let additions : Parts = no_parts in
    let p : Path = inside q uses additions in
    let found : Ies = elements_in body in
    let has_it : Has q (its_tree q uses additions) body = h.2.0 in
    let are = are_its q uses additions body has_it in
    ap (whole 0 5) (known_body_is q uses additions body
    (has ies.ue (from_ue (the ies.ue to_ue (elements_in body))) ∷ has ies.container (octets (the ies.container to_octets (elements_in body))) ∷ [])
    no_options has_it refl
    (one (must uses p found ies.ue from_ue to_ue refl are (λ w g. ue_is (fields.element 1 ∷ p) w g.0))
    (one (must uses p found ies.container octets to_octets refl are (λ w g. container_is (fields.element 7 ∷ p) w g.0)) none))
    refl)

at_dl_rrc_message_transfer : (index code criticality : ℕ) (body : Value) → is_at code index dl_rrc_message_transfer ≡ true → Has [] f1_type (message index code criticality body)
    → known f1_type (message index code criticality body) ≡ written_f1 (dl_rrc_message_transfer_in body)
at_dl_rrc_message_transfer index code criticality body t h =
    subst (λ n. Has [] f1_type (message n code criticality body) → known f1_type (message n code criticality body) ≡ written_f1 (dl_rrc_message_transfer_in body))
    (outcome_is code index dl_rrc_message_transfer t)
    (subst (λ n. Has [] f1_type (message 0 n criticality body) → known f1_type (message 0 n criticality body) ≡ written_f1 (dl_rrc_message_transfer_in body))
    (code_is code index dl_rrc_message_transfer t) (says_dl_rrc_message_transfer criticality body)) h

ul_rrc_message_transfer_in : Value → F1Message
ul_rrc_message_transfer_in body = f1s.UlRrcMessageTransfer (the ies.ue to_ue (elements_in body)) (the ies.container to_octets (elements_in body))

says_ul_rrc_message_transfer : (criticality : ℕ) (body : Value) → Has [] f1_type (message 0 6 criticality body)
    → known f1_type (message 0 6 criticality body) ≡ written_f1 (ul_rrc_message_transfer_in body)
unfolding f1_type tree parts rows procedures outcome_tree known known_row known_body known_message Has HasRow HasBody HasOutcome written_f1 ul_rrc_message_transfer_in whole
says_ul_rrc_message_transfer criticality body h =
    let q : Path = fields.outcome 0 ∷ [] in
    let uses : List Use = ul_rrc_message_transfer.elements in
    let additions : Parts = no_parts in
    let p : Path = inside q uses additions in
    let found : Ies = elements_in body in
    let has_it : Has q (its_tree q uses additions) body = h.2.0 in
    let are = are_its q uses additions body has_it in
    ap (whole 0 6) (known_body_is q uses additions body
    (has ies.ue (from_ue (the ies.ue to_ue (elements_in body))) ∷ has ies.container (octets (the ies.container to_octets (elements_in body))) ∷ [])
    no_options has_it refl
    (one (must uses p found ies.ue from_ue to_ue refl are (λ w g. ue_is (fields.element 1 ∷ p) w g.0))
    (one (must uses p found ies.container octets to_octets refl are (λ w g. container_is (fields.element 7 ∷ p) w g.0)) none))
    refl)

at_ul_rrc_message_transfer : (index code criticality : ℕ) (body : Value) → is_at code index ul_rrc_message_transfer ≡ true → Has [] f1_type (message index code criticality body)
    → known f1_type (message index code criticality body) ≡ written_f1 (ul_rrc_message_transfer_in body)
at_ul_rrc_message_transfer index code criticality body t h =
    subst (λ n. Has [] f1_type (message n code criticality body) → known f1_type (message n code criticality body) ≡ written_f1 (ul_rrc_message_transfer_in body))
    (outcome_is code index ul_rrc_message_transfer t)
    (subst (λ n. Has [] f1_type (message 0 n criticality body) → known f1_type (message 0 n criticality body) ≡ written_f1 (ul_rrc_message_transfer_in body))
    (code_is code index ul_rrc_message_transfer t) (says_ul_rrc_message_transfer criticality body)) h

-- the place of a message
place_code : Value → ℕ
place_code (message index code criticality body) = code
place_code v = 0

place_index : Value → ℕ
place_index (message index code criticality body) = index
place_index v = 0

apart : (b : Bool) → b ≡ true → b ≡ false → ⊥
apart true h k = cc
apart false h k = cc

module _ (index code criticality : ℕ) (body : Value) where
  nowhere : (msg : F1Message) → known f1_type (message index code criticality body) ≡ written_f1 msg → is_at code index f1_setup_request ≡ false → is_at code index f1_setup_response ≡ false → is_at code index ue_context_setup_request ≡ false → is_at code index ue_context_setup_response ≡ false → is_at code index ue_context_modification_request ≡ false → is_at code index ue_context_modification_response ≡ false → is_at code index ue_context_release_command ≡ false → is_at code index ue_context_release_complete ≡ false → is_at code index dl_rrc_message_transfer ≡ false → is_at code index ul_rrc_message_transfer ≡ false → ⊥
  unfolding known f1_type tree written_f1 place_code place_index
  nowhere (f1s.F1SetupRequest instance name) e t0 t1 t2 t3 t4 t5 t6 t7 t8 t9 = apart (is_at code index f1_setup_request) (here code index f1_setup_request (ap place_code e) (ap place_index e)) t0
  nowhere (f1s.F1SetupResponse instance) e t0 t1 t2 t3 t4 t5 t6 t7 t8 t9 = apart (is_at code index f1_setup_response) (here code index f1_setup_response (ap place_code e) (ap place_index e)) t1
  nowhere (f1s.UeContextSetupRequest ue instance epoch uplinks sn peer) e t0 t1 t2 t3 t4 t5 t6 t7 t8 t9 = apart (is_at code index ue_context_setup_request) (here code index ue_context_setup_request (ap place_code e) (ap place_index e)) t2
  nowhere (f1s.UeContextSetupResponse ue instance downlinks) e t0 t1 t2 t3 t4 t5 t6 t7 t8 t9 = apart (is_at code index ue_context_setup_response) (here code index ue_context_setup_response (ap place_code e) (ap place_index e)) t3
  nowhere (f1s.UeContextModificationRequest ue instance epoch) e t0 t1 t2 t3 t4 t5 t6 t7 t8 t9 = apart (is_at code index ue_context_modification_request) (here code index ue_context_modification_request (ap place_code e) (ap place_index e)) t4
  nowhere (f1s.UeContextModificationResponse ue instance downlinks) e t0 t1 t2 t3 t4 t5 t6 t7 t8 t9 = apart (is_at code index ue_context_modification_response) (here code index ue_context_modification_response (ap place_code e) (ap place_index e)) t5
  nowhere (f1s.UeContextReleaseCommand ue instance) e t0 t1 t2 t3 t4 t5 t6 t7 t8 t9 = apart (is_at code index ue_context_release_command) (here code index ue_context_release_command (ap place_code e) (ap place_index e)) t6
  nowhere (f1s.UeContextReleaseComplete ue instance) e t0 t1 t2 t3 t4 t5 t6 t7 t8 t9 = apart (is_at code index ue_context_release_complete) (here code index ue_context_release_complete (ap place_code e) (ap place_index e)) t7
  nowhere (f1s.DlRrcMessageTransfer ue container) e t0 t1 t2 t3 t4 t5 t6 t7 t8 t9 = apart (is_at code index dl_rrc_message_transfer) (here code index dl_rrc_message_transfer (ap place_code e) (ap place_index e)) t8
  nowhere (f1s.UlRrcMessageTransfer ue container) e t0 t1 t2 t3 t4 t5 t6 t7 t8 t9 = apart (is_at code index ul_rrc_message_transfer) (here code index ul_rrc_message_transfer (ap place_code e) (ap place_index e)) t9

-- at the place of each message
module _ (index code criticality : ℕ) (body : Value) (msg : F1Message) (h : Has [] f1_type (message index code criticality body)) where
  from_value_by : (b0 b1 b2 b3 b4 b5 b6 b7 b8 b9 : Bool) → is_at code index f1_setup_request ≡ b0 → is_at code index f1_setup_response ≡ b1 → is_at code index ue_context_setup_request ≡ b2 → is_at code index ue_context_setup_response ≡ b3 → is_at code index ue_context_modification_request ≡ b4 → is_at code index ue_context_modification_response ≡ b5 → is_at code index ue_context_release_command ≡ b6 → is_at code index ue_context_release_complete ≡ b7 → is_at code index dl_rrc_message_transfer ≡ b8 → is_at code index ul_rrc_message_transfer ≡ b9
      → cond b0 (unless_rejected (first_rejected f1_setup_request.elements (elements_in body)) (f1_setup_request_in body)) (cond b1 (unless_rejected (first_rejected f1_setup_response.elements (elements_in body)) (f1_setup_response_in body)) (cond b2 (unless_rejected (first_rejected ue_context_setup_request.elements (elements_in body)) (ue_context_setup_request_in body)) (cond b3 (unless_rejected (first_rejected ue_context_setup_response.elements (elements_in body)) (ue_context_setup_response_in body)) (cond b4 (unless_rejected (first_rejected ue_context_modification_request.elements (elements_in body)) (ue_context_modification_request_in body)) (cond b5 (unless_rejected (first_rejected ue_context_modification_response.elements (elements_in body)) (ue_context_modification_response_in body)) (cond b6 (unless_rejected (first_rejected ue_context_release_command.elements (elements_in body)) (ue_context_release_command_in body)) (cond b7 (unless_rejected (first_rejected ue_context_release_complete.elements (elements_in body)) (ue_context_release_complete_in body)) (cond b8 (unless_rejected (first_rejected dl_rrc_message_transfer.elements (elements_in body)) (dl_rrc_message_transfer_in body)) (cond b9 (unless_rejected (first_rejected ul_rrc_message_transfer.elements (elements_in body)) (ul_rrc_message_transfer_in body)) (Err (unknown_procedure code criticality))))))))))) ≡ Ok msg
      → known f1_type (message index code criticality body) ≡ written_f1 msg
  from_value_by true b1 b2 b3 b4 b5 b6 b7 b8 b9 t0 t1 t2 t3 t4 t5 t6 t7 t8 t9 e = at_f1_setup_request index code criticality body t0 h ∙ ap written_f1 (answer_is (first_rejected f1_setup_request.elements (elements_in body)) (f1_setup_request_in body) msg e)
  from_value_by false true b2 b3 b4 b5 b6 b7 b8 b9 t0 t1 t2 t3 t4 t5 t6 t7 t8 t9 e = at_f1_setup_response index code criticality body t1 h ∙ ap written_f1 (answer_is (first_rejected f1_setup_response.elements (elements_in body)) (f1_setup_response_in body) msg e)
  from_value_by false false true b3 b4 b5 b6 b7 b8 b9 t0 t1 t2 t3 t4 t5 t6 t7 t8 t9 e = at_ue_context_setup_request index code criticality body t2 h ∙ ap written_f1 (answer_is (first_rejected ue_context_setup_request.elements (elements_in body)) (ue_context_setup_request_in body) msg e)
  from_value_by false false false true b4 b5 b6 b7 b8 b9 t0 t1 t2 t3 t4 t5 t6 t7 t8 t9 e = at_ue_context_setup_response index code criticality body t3 h ∙ ap written_f1 (answer_is (first_rejected ue_context_setup_response.elements (elements_in body)) (ue_context_setup_response_in body) msg e)
  from_value_by false false false false true b5 b6 b7 b8 b9 t0 t1 t2 t3 t4 t5 t6 t7 t8 t9 e = at_ue_context_modification_request index code criticality body t4 h ∙ ap written_f1 (answer_is (first_rejected ue_context_modification_request.elements (elements_in body)) (ue_context_modification_request_in body) msg e)
  from_value_by false false false false false true b6 b7 b8 b9 t0 t1 t2 t3 t4 t5 t6 t7 t8 t9 e = at_ue_context_modification_response index code criticality body t5 h ∙ ap written_f1 (answer_is (first_rejected ue_context_modification_response.elements (elements_in body)) (ue_context_modification_response_in body) msg e)
  from_value_by false false false false false false true b7 b8 b9 t0 t1 t2 t3 t4 t5 t6 t7 t8 t9 e = at_ue_context_release_command index code criticality body t6 h ∙ ap written_f1 (answer_is (first_rejected ue_context_release_command.elements (elements_in body)) (ue_context_release_command_in body) msg e)
  from_value_by false false false false false false false true b8 b9 t0 t1 t2 t3 t4 t5 t6 t7 t8 t9 e = at_ue_context_release_complete index code criticality body t7 h ∙ ap written_f1 (answer_is (first_rejected ue_context_release_complete.elements (elements_in body)) (ue_context_release_complete_in body) msg e)
  from_value_by false false false false false false false false true b9 t0 t1 t2 t3 t4 t5 t6 t7 t8 t9 e = at_dl_rrc_message_transfer index code criticality body t8 h ∙ ap written_f1 (answer_is (first_rejected dl_rrc_message_transfer.elements (elements_in body)) (dl_rrc_message_transfer_in body) msg e)
  from_value_by false false false false false false false false false true t0 t1 t2 t3 t4 t5 t6 t7 t8 t9 e = at_ul_rrc_message_transfer index code criticality body t9 h ∙ ap written_f1 (answer_is (first_rejected ul_rrc_message_transfer.elements (elements_in body)) (ul_rrc_message_transfer_in body) msg e)
  from_value_by false false false false false false false false false false t0 t1 t2 t3 t4 t5 t6 t7 t8 t9 e = cc

  from_value_at : f1_at index code criticality (elements_in body) ≡ Ok msg → known f1_type (message index code criticality body) ≡ written_f1 msg
  unfolding f1_at f1_setup_request_in f1_setup_response_in ue_context_setup_request_in ue_context_setup_response_in ue_context_modification_request_in ue_context_modification_response_in ue_context_release_command_in ue_context_release_complete_in dl_rrc_message_transfer_in ul_rrc_message_transfer_in
  from_value_at e = from_value_by (is_at code index f1_setup_request) (is_at code index f1_setup_response) (is_at code index ue_context_setup_request) (is_at code index ue_context_setup_response) (is_at code index ue_context_modification_request) (is_at code index ue_context_modification_response) (is_at code index ue_context_release_command) (is_at code index ue_context_release_complete) (is_at code index dl_rrc_message_transfer) (is_at code index ul_rrc_message_transfer) refl refl refl refl refl refl refl refl refl refl e

  said_by : (b0 b1 b2 b3 b4 b5 b6 b7 b8 b9 : Bool) → is_at code index f1_setup_request ≡ b0 → is_at code index f1_setup_response ≡ b1 → is_at code index ue_context_setup_request ≡ b2 → is_at code index ue_context_setup_response ≡ b3 → is_at code index ue_context_modification_request ≡ b4 → is_at code index ue_context_modification_response ≡ b5 → is_at code index ue_context_release_command ≡ b6 → is_at code index ue_context_release_complete ≡ b7 → is_at code index dl_rrc_message_transfer ≡ b8 → is_at code index ul_rrc_message_transfer ≡ b9 → known f1_type (message index code criticality body) ≡ written_f1 msg
      → cond b0 (unless_rejected (first_rejected f1_setup_request.elements (elements_in body)) (f1_setup_request_in body)) (cond b1 (unless_rejected (first_rejected f1_setup_response.elements (elements_in body)) (f1_setup_response_in body)) (cond b2 (unless_rejected (first_rejected ue_context_setup_request.elements (elements_in body)) (ue_context_setup_request_in body)) (cond b3 (unless_rejected (first_rejected ue_context_setup_response.elements (elements_in body)) (ue_context_setup_response_in body)) (cond b4 (unless_rejected (first_rejected ue_context_modification_request.elements (elements_in body)) (ue_context_modification_request_in body)) (cond b5 (unless_rejected (first_rejected ue_context_modification_response.elements (elements_in body)) (ue_context_modification_response_in body)) (cond b6 (unless_rejected (first_rejected ue_context_release_command.elements (elements_in body)) (ue_context_release_command_in body)) (cond b7 (unless_rejected (first_rejected ue_context_release_complete.elements (elements_in body)) (ue_context_release_complete_in body)) (cond b8 (unless_rejected (first_rejected dl_rrc_message_transfer.elements (elements_in body)) (dl_rrc_message_transfer_in body)) (cond b9 (unless_rejected (first_rejected ul_rrc_message_transfer.elements (elements_in body)) (ul_rrc_message_transfer_in body)) (Err (unknown_procedure code criticality))))))))))) ≡ unless_rejected (cond b0 (first_rejected f1_setup_request.elements (elements_in body)) (cond b1 (first_rejected f1_setup_response.elements (elements_in body)) (cond b2 (first_rejected ue_context_setup_request.elements (elements_in body)) (cond b3 (first_rejected ue_context_setup_response.elements (elements_in body)) (cond b4 (first_rejected ue_context_modification_request.elements (elements_in body)) (cond b5 (first_rejected ue_context_modification_response.elements (elements_in body)) (cond b6 (first_rejected ue_context_release_command.elements (elements_in body)) (cond b7 (first_rejected ue_context_release_complete.elements (elements_in body)) (cond b8 (first_rejected dl_rrc_message_transfer.elements (elements_in body)) (cond b9 (first_rejected ul_rrc_message_transfer.elements (elements_in body)) (None))))))))))) msg
  said_by true b1 b2 b3 b4 b5 b6 b7 b8 b9 t0 t1 t2 t3 t4 t5 t6 t7 t8 t9 e = ap (unless_rejected (first_rejected f1_setup_request.elements (elements_in body))) (only (f1_setup_request_in body) msg (sym (at_f1_setup_request index code criticality body t0 h) ∙ e))
  said_by false true b2 b3 b4 b5 b6 b7 b8 b9 t0 t1 t2 t3 t4 t5 t6 t7 t8 t9 e = ap (unless_rejected (first_rejected f1_setup_response.elements (elements_in body))) (only (f1_setup_response_in body) msg (sym (at_f1_setup_response index code criticality body t1 h) ∙ e))
  said_by false false true b3 b4 b5 b6 b7 b8 b9 t0 t1 t2 t3 t4 t5 t6 t7 t8 t9 e = ap (unless_rejected (first_rejected ue_context_setup_request.elements (elements_in body))) (only (ue_context_setup_request_in body) msg (sym (at_ue_context_setup_request index code criticality body t2 h) ∙ e))
  said_by false false false true b4 b5 b6 b7 b8 b9 t0 t1 t2 t3 t4 t5 t6 t7 t8 t9 e = ap (unless_rejected (first_rejected ue_context_setup_response.elements (elements_in body))) (only (ue_context_setup_response_in body) msg (sym (at_ue_context_setup_response index code criticality body t3 h) ∙ e))
  said_by false false false false true b5 b6 b7 b8 b9 t0 t1 t2 t3 t4 t5 t6 t7 t8 t9 e = ap (unless_rejected (first_rejected ue_context_modification_request.elements (elements_in body))) (only (ue_context_modification_request_in body) msg (sym (at_ue_context_modification_request index code criticality body t4 h) ∙ e))
  said_by false false false false false true b6 b7 b8 b9 t0 t1 t2 t3 t4 t5 t6 t7 t8 t9 e = ap (unless_rejected (first_rejected ue_context_modification_response.elements (elements_in body))) (only (ue_context_modification_response_in body) msg (sym (at_ue_context_modification_response index code criticality body t5 h) ∙ e))
  said_by false false false false false false true b7 b8 b9 t0 t1 t2 t3 t4 t5 t6 t7 t8 t9 e = ap (unless_rejected (first_rejected ue_context_release_command.elements (elements_in body))) (only (ue_context_release_command_in body) msg (sym (at_ue_context_release_command index code criticality body t6 h) ∙ e))
  said_by false false false false false false false true b8 b9 t0 t1 t2 t3 t4 t5 t6 t7 t8 t9 e = ap (unless_rejected (first_rejected ue_context_release_complete.elements (elements_in body))) (only (ue_context_release_complete_in body) msg (sym (at_ue_context_release_complete index code criticality body t7 h) ∙ e))
  said_by false false false false false false false false true b9 t0 t1 t2 t3 t4 t5 t6 t7 t8 t9 e = ap (unless_rejected (first_rejected dl_rrc_message_transfer.elements (elements_in body))) (only (dl_rrc_message_transfer_in body) msg (sym (at_dl_rrc_message_transfer index code criticality body t8 h) ∙ e))
  said_by false false false false false false false false false true t0 t1 t2 t3 t4 t5 t6 t7 t8 t9 e = ap (unless_rejected (first_rejected ul_rrc_message_transfer.elements (elements_in body))) (only (ul_rrc_message_transfer_in body) msg (sym (at_ul_rrc_message_transfer index code criticality body t9 h) ∙ e))
  said_by false false false false false false false false false false t0 t1 t2 t3 t4 t5 t6 t7 t8 t9 e = absurd (nowhere index code criticality body msg e t0 t1 t2 t3 t4 t5 t6 t7 t8 t9)

  said_at : known f1_type (message index code criticality body) ≡ written_f1 msg → f1_at index code criticality (elements_in body)
      ≡ unless_rejected (rejected_in f1_messages (message index code criticality body)) msg
  unfolding f1_at f1_setup_request_in f1_setup_response_in ue_context_setup_request_in ue_context_setup_response_in ue_context_modification_request_in ue_context_modification_response_in ue_context_release_command_in ue_context_release_complete_in dl_rrc_message_transfer_in ul_rrc_message_transfer_in
  said_at e = said_by (is_at code index f1_setup_request) (is_at code index f1_setup_response) (is_at code index ue_context_setup_request) (is_at code index ue_context_setup_response) (is_at code index ue_context_modification_request) (is_at code index ue_context_modification_response) (is_at code index ue_context_release_command) (is_at code index ue_context_release_complete) (is_at code index dl_rrc_message_transfer) (is_at code index ul_rrc_message_transfer) refl refl refl refl refl refl refl refl refl refl e

pub from_value_says : (msg : F1Message) (v : Value) → Has [] f1_type v → f1_from_value v ≡ Ok msg → known f1_type v ≡ written_f1 msg
unfolding f1_from_value Has f1_type tree
from_value_says msg (message index code criticality body) h e = from_value_at index code criticality body msg h e
from_value_says msg v h e = absurd h

pub said_hears : (msg : F1Message) (v : Value) → Has [] f1_type v → known f1_type v ≡ written_f1 msg
    → f1_from_value v ≡ unless_rejected (rejected_in f1_messages v) msg
unfolding f1_from_value Has f1_type tree
said_hears msg (message index code criticality body) h e = said_at index code criticality body msg h e
said_hears msg v h e = absurd h
