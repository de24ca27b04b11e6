-- CoreMessage: what is heard in a value of the PDU is the message that the value says.
use Rattle.std.proofs.Common.{◌≡◌, ℕ, Bool, true, false, cond, List, [], ◌∷◌, None, Result, Ok, Err, refl, sym, ap, subst, ◌∙◌}
use Rattle.message_types.specs.declared.xn.CoreMessage.TheVariants as cores
use Rattle.message_types.specs.declared.xn.CoreMessage.{CoreMessage}
use Rattle.aper_defs.specs.Trees.{Parts, no_parts}
use Rattle.aper_defs.specs.Values.{Value, Ies, message, no_options}
use Rattle.aper_defs.specs.Fields.{Path}
use Rattle.aper_defs.specs.Fields as fields
use Rattle.aper_defs.specs.Membership.{Has, HasRow, HasBody, HasOutcome}
use Rattle.message_defs.specs.profile_defs.Forms.{tree, parts, rows, procedures, outcome_tree}
use Rattle.message_defs.specs.profile_defs.Elements as ies
use Rattle.message_defs.specs.profile_defs.Tables.{Use, is_at}
use Rattle.message_defs.specs.profile_defs.Messages.{core_messages, path_switch_request, path_switch_acknowledge}
use Rattle.message_defs.specs.profile_defs.Profile.{core_type}
use Rattle.message_defs.specs.Fields.{from_number, from_peer, from_tunnels, from_ue, to_number, to_peer, to_tunnels, to_ue}
use Rattle.message_defs.specs.Places.{has, the, elements_in}
use Rattle.message_defs.specs.Known.{known, known_row, known_body, known_message}
use Rattle.message_defs.specs.FromValue.{Cause, unknown_procedure, first_rejected, unless_rejected, rejected_in}
use Rattle.message_defs.specs.Core.{written_core, core_at, core_from_value}
use Rattle.proof_heard_messages.proofs.HeardCore.{heard}
use Rattle.proof_messages.proofs.message_elements.Rounds.{ue_is, word_is, peer_is, tunnels_is}
use Rattle.proof_messages.proofs.message_elements.Matched.{none, one, must, its_tree, inside, are_its, known_body_is, code_is, outcome_is, answer_is, here}

whole : ℕ → ℕ → Value → Value
whole index code body = message index code 0 body

same_answer : (a b : CoreMessage) → (let x : Result CoreMessage Cause = Ok a in x) ≡ Ok b → a ≡ b
same_answer a b h = cc

only : (a b : CoreMessage) → written_core a ≡ written_core b → a ≡ b
only a b h = same_answer a b (sym (heard a) ∙ ap core_from_value h ∙ heard b)

path_switch_request_in : Value → CoreMessage
path_switch_request_in body = cores.PathSwitchRequest (the ies.ue to_ue (elements_in body)) (the ies.instance to_number (elements_in body)) (the ies.peer to_peer (elements_in body)) (the ies.n3 to_tunnels (elements_in body))

says_path_switch_request : (criticality : ℕ) (body : Value) → Has [] core_type (message 0 1 criticality body)
    → known core_type (message 0 1 criticality body) ≡ written_core (path_switch_request_in body)
unfolding core_type tree parts rows procedures outcome_tree known known_row known_body known_message Has HasRow HasBody HasOutcome written_core path_switch_request_in whole
says_path_switch_request criticality body h =
    let q : Path = fields.outcome 0 ∷ [] in
    let uses : List Use = path_switch_request.elements in
    let additions : Parts = no_parts in
    let p : Path = inside q uses additions in
    let found : Ies = elements_in body in
    let has_it : Has q (its_tree q uses additions) body = h.2.0 in
    let are = are_its q uses additions body has_it in
    ap (whole 0 1) (known_body_is q uses additions body
    (has ies.ue (from_ue (the ies.ue to_ue (elements_in body))) ∷ has ies.instance (from_number (the ies.instance to_number (elements_in body))) ∷ has ies.peer (from_peer (the ies.peer to_peer (elements_in body))) ∷ has ies.n3 (from_tunnels (the ies.n3 to_tunnels (elements_in body))) ∷ [])
    no_options has_it refl
    (one (must uses p found ies.ue from_ue to_ue refl are (λ w g. ue_is (fields.element 1 ∷ p) w g.0))
    (one (must uses p found ies.instance from_number to_number refl are (λ w g. word_is (fields.element 2 ∷ p) w g.0))
    (one (must uses p found ies.peer from_peer to_peer refl are (λ w g. peer_is (fields.element 12 ∷ p) w g.0))
    (one (must uses p found ies.n3 from_tunnels to_tunnels refl are (λ w g. tunnels_is (fields.element 13 ∷ p) w g.0)) none))))
    refl)

at_path_switch_request : (index code criticality : ℕ) (body : Value) → is_at code index path_switch_request ≡ true → Has [] core_type (message index code criticality body)
    → known core_type (message index code criticality body) ≡ written_core (path_switch_request_in body)
at_path_switch_request index code criticality body t h =
    subst (λ n. Has [] core_type (message n code criticality body) → known core_type (message n code criticality body) ≡ written_core (path_switch_request_in body))
    (outcome_is code index path_switch_request t)
    (subst (λ n. Has [] core_type (message 0 n criticality body) → known core_type (message 0 n criticality body) ≡ written_core (path_switch_request_in body))
    (code_is code index path_switch_request t) (says_path_switch_request criticality body)) h

path_switch_acknowledge_in : Value → CoreMessage
path_switch_acknowledge_in body = cores.PathSwitchAcknowledge (the ies.ue to_ue (elements_in body)) (the ies.instance to_number (elements_in body))

says_path_switch_acknowledge : (criticality : ℕ) (body : Value) → Has [] core_type (message 1 1 criticality body)
    → known core_type (message 1 1 criticality body) ≡ written_core (path_switch_acknowledge_in body)
unfolding core_type tree parts rows procedures outcome_tree known known_row known_body known_message Has HasRow HasBody HasOutcome written_core path_switch_acknowledge_in whole
says_path_switch_acknowledge criticality body h =
    let q : Path = fields.outcome 1 ∷ [] in
    let uses : List Use = path_switch_acknowledge.elements in
    let additions : Parts = no_parts in
    let p : Path = inside q uses additions in
    let found : Ies = elements_in body in
    let has_it : Has q (its_tree q uses additions) body = h.2.0 in
    let are = are_its q uses additions body has_it in
    ap (whole 1 1) (known_body_is q uses additions body
    (has ies.ue (from_ue (the ies.ue to_ue (elements_in body))) ∷ has ies.instance (from_number (the ies.instance to_number (elements_in body))) ∷ [])
    no_options has_it refl
    (one (must uses p found ies.ue from_ue to_ue refl are (λ w g. ue_is (fields.element 1 ∷ p) w g.0))
    (one (must uses p found ies.instance from_number to_number refl are (λ w g. word_is (fields.element 2 ∷ p) w g.0)) none))
    refl)

at_path_switch_acknowledge : (index code criticality : ℕ) (body : Value) → is_at code index path_switch_acknowledge ≡ true → Has [] core_type (message index code criticality body)
    → known core_type (message index code criticality body) ≡ written_core (path_switch_acknowledge_in body)
at_path_switch_acknowledge index code criticality body t h =
    subst (λ n. Has [] core_type (message n code criticality body) → known core_type (message n code criticality body) ≡ written_core (path_switch_acknowledge_in body))
    (outcome_is code index path_switch_acknowledge t)
    (subst (λ n. Has [] core_type (message 1 n criticality body) → known core_type (message 1 n criticality body) ≡ written_core (path_switch_acknowledge_in body))
    (code_is code index path_switch_acknowledge t) (says_path_switch_acknowledge criticality body)) h

-- the place of a message
place_code : Value → ℕ
place_code (message index code criticality body) = code
place_code v = 0

place_index : Value → ℕ
place_index (message index code criticality body) = index
place_index v = 0

apart : (b : Bool) → b ≡ true → b ≡ false → ⊥
apart true h k = cc
apart false h k = cc

module _ (index code criticality : ℕ) (body : Value) where
  nowhere : (msg : CoreMessage) → known core_type (message index code criticality body) ≡ written_core msg → is_at code index path_switch_request ≡ false → is_at code index path_switch_acknowledge ≡ false → ⊥
  unfolding known core_type tree written_core place_code place_index
  nowhere (cores.PathSwitchRequest ue instance peer n3) e t0 t1 = apart (is_at code index path_switch_request) (here code index path_switch_request (ap place_code e) (ap place_index e)) t0
  nowhere (cores.PathSwitchAcknowledge ue instance) e t0 t1 = apart (is_at code index path_switch_acknowledge) (here code index path_switch_acknowledge (ap place_code e) (ap place_index e)) t1

-- at the place of each message
module _ (index code criticality : ℕ) (body : Value) (msg : CoreMessage) (h : Has [] core_type (message index code criticality body)) where
  from_value_by : (b0 b1 : Bool) → is_at code index path_switch_request ≡ b0 → is_at code index path_switch_acknowledge ≡ b1
      → cond b0 (unless_rejected (first_rejected path_switch_request.elements (elements_in body)) (path_switch_request_in body)) (cond b1 (unless_rejected (first_rejected path_switch_acknowledge.elements (elements_in body)) (path_switch_acknowledge_in body)) (Err (unknown_procedure code criticality))) ≡ Ok msg
      → known core_type (message index code criticality body) ≡ written_core msg
  from_value_by true b1 t0 t1 e = at_path_switch_request index code criticality body t0 h ∙ ap written_core (answer_is (first_rejected path_switch_request.elements (elements_in body)) (path_switch_request_in body) msg e)
  from_value_by false true t0 t1 e = at_path_switch_acknowledge index code criticality body t1 h ∙ ap written_core (answer_is (first_rejected path_switch_acknowledge.elements (elements_in body)) (path_switch_acknowledge_in body) msg e)
  from_value_by false false t0 t1 e = cc

  from_value_at : core_at index code criticality (elements_in body) ≡ Ok msg → known core_type (message index code criticality body) ≡ written_core msg
  unfolding core_at path_switch_request_in path_switch_acknowledge_in
  from_value_at e = from_value_by (is_at code index path_switch_request) (is_at code index path_switch_acknowledge) refl refl e

  said_by : (b0 b1 : Bool) → is_at code index path_switch_request ≡ b0 → is_at code index path_switch_acknowledge ≡ b1 → known core_type (message index code criticality body) ≡ written_core msg
      → cond b0 (unless_rejected (first_rejected path_switch_request.elements (elements_in body)) (path_switch_request_in body)) (cond b1 (unless_rejected (first_rejected path_switch_acknowledge.elements (elements_in body)) (path_switch_acknowledge_in body)) (Err (unknown_procedure code criticality))) ≡ unless_rejected (cond b0 (first_rejected path_switch_request.elements (elements_in body)) (cond b1 (first_rejected path_switch_acknowledge.elements (elements_in body)) (None))) msg
  said_by true b1 t0 t1 e = ap (unless_rejected (first_rejected path_switch_request.elements (elements_in body))) (only (path_switch_request_in body) msg (sym (at_path_switch_request index code criticality body t0 h) ∙ e))
  said_by false true t0 t1 e = ap (unless_rejected (first_rejected path_switch_acknowledge.elements (elements_in body))) (only (path_switch_acknowledge_in body) msg (sym (at_path_switch_acknowledge index code criticality body t1 h) ∙ e))
  said_by false false t0 t1 e = absurd (nowhere index code criticality body msg e t0 t1)

  said_at : known core_type (message index code criticality body) ≡ written_core msg → core_at index code criticality (elements_in body)
      ≡ unless_rejected (rejected_in core_messages (message index code criticality body)) msg
  unfolding core_at path_switch_request_in path_switch_acknowledge_in
  said_at e = said_by (is_at code index path_switch_request) (is_at code index path_switch_acknowledge) refl refl e

pub from_value_says : (msg : CoreMessage) (v : Value) → Has [] core_type v → core_from_value v ≡ Ok msg → known core_type v ≡ written_core msg
unfolding core_from_value Has core_type tree
from_value_says msg (message index code criticality body) h e = from_value_at index code criticality body msg h e
from_value_says msg v h e = absurd h

pub said_hears : (msg : CoreMessage) (v : Value) → Has [] core_type v → known core_type v ≡ written_core msg
    → core_from_value v ≡ unless_rejected (rejected_in core_messages v) msg
unfolding core_from_value Has core_type tree
said_hears msg (message index code criticality body) h e = said_at index code criticality body msg h e
said_hears msg v h e = absurd h
