-- A message that is heard in a value of E1AP-PDU, by its place.
use Rattle.std.proofs.Common.{◌≡◌, ℕ, ◌≤◌, Bool, true, false, cond, List, [], ◌∷◌, Option, Result, Ok, refl, sym, subst}
use Rattle.gnb_types.specs.declared.names.NodeId.{NodeId}
use Rattle.message_types.specs.declared.e1.E1Message.{E1Message}
use Rattle.aper_defs.specs.Trees.{no_parts}
use Rattle.aper_defs.specs.Values.{Value, Ies, message}
use Rattle.aper_defs.specs.Fields.{Path}
use Rattle.aper_defs.specs.Fields as fields
use Rattle.aper_defs.specs.Membership.{Has, HasRow, HasBody, HasOutcome}
use Rattle.aper_defs.specs.Bounds.{IsBounded}
use Rattle.proof_aper.proofs.values.FoundWhole.{decoded_spells}
use Rattle.message_defs.specs.profile_defs.Forms.{tree, parts, rows, procedures, outcome_tree}
use Rattle.message_defs.specs.profile_defs.Elements as ies
use Rattle.message_defs.specs.profile_defs.Tables.{Use, is_at}
use Rattle.message_defs.specs.profile_defs.Messages.{e1_setup_request, e1_setup_response, bearer_context_setup_request, bearer_context_setup_response, bearer_context_setup_failure, bearer_context_modification_request, bearer_context_modification_response, bearer_context_modification_failure, bearer_context_release_command, bearer_context_release_complete}
use Rattle.message_defs.specs.profile_defs.Profile.{e1_type}
use Rattle.message_defs.specs.Fields.{to_number, to_statuses}
use Rattle.message_defs.specs.Places.{the, any, elements_in}
use Rattle.message_defs.specs.FromValue.{Cause, unless_rejected}
use Rattle.message_defs.specs.E1.{e1_at, e1_from_value}
use Rattle.proof_messages.proofs.message_elements.Matched.{inside, its_tree, are_its, code_is, outcome_is, answer_is}
use Rattle.proof_aper.proofs.octets.Bounded.{test, parts_test, rows_test, procedures_test, outcome_test, bounded}
use Rattle.unit_defs.specs.Ways.{Message, f1, e1, xn, core, rrc}
use Rattle.unit_defs.specs.octet_defs.Codec.{Codec}
use Rattle.unit_defs.specs.codec_range_defs.Ranges.{IsSetupInRange, AreShortStatuses, IsE1InRange, IsInRange}
use Rattle.message_codec_defs.specs.OctetCodecs.{SaysInOctets, ReadsOctets}
use Rattle.proof_message_codec.proofs.codec.Fields.{bearers_in, quota_in, statuses_short}
use Rattle.proof_message_codec.proofs.codec.Elements.{the_is, any_is}

-- the bearers and the quota of a setup
setup_is : (criticality : ℕ) (body : Value) → Has [] e1_type (message 0 2 criticality body)
    → IsSetupInRange (the ies.bearers to_number (elements_in body)) (the ies.quota to_number (elements_in body))
unfolding e1_type tree parts rows procedures outcome_tree Has HasRow HasBody HasOutcome
setup_is criticality body h =
    let q : Path = fields.outcome 0 ∷ [] in
    let uses : List Use = bearer_context_setup_request.elements in
    let p : Path = inside q uses no_parts in
    let found : Ies = elements_in body in
    let has_it : Has q (its_tree q uses no_parts) body = h.2.0 in
    let are = are_its q uses no_parts body has_it in
    let bearers = the_is uses p found (λ (n : ℕ). (1 ≤ n) × (n ≤ 8)) ies.bearers to_number refl are (λ w g. bearers_in (fields.element 4 ∷ p) w g.0) in
    let quota = the_is uses p found (λ (n : ℕ). (4 ≤ n) × (n ≤ 4096)) ies.quota to_number refl are (λ w g. quota_in (fields.element 10 ∷ p) w g.0) in
    record { some = bearers.0; few = bearers.1; least = quota.0; most = quota.1 }

-- the SN statuses of a modification
statuses_are : (criticality : ℕ) (body : Value) → Has [] e1_type (message 0 3 criticality body)
    → AreShortStatuses (any ies.statuses to_statuses (elements_in body))
unfolding e1_type tree parts rows procedures outcome_tree Has HasRow HasBody HasOutcome
statuses_are criticality body h =
    let q : Path = fields.outcome 0 ∷ [] in
    let uses : List Use = bearer_context_modification_request.elements in
    let p : Path = inside q uses no_parts in
    let found : Ies = elements_in body in
    let has_it : Has q (its_tree q uses no_parts) body = h.2.0 in
    let are = are_its q uses no_parts body has_it in
    any_is uses p found AreShortStatuses ies.statuses to_statuses tt are (λ w g. statuses_short (fields.element 16 ∷ p) w g.0)

-- at the place of each
at_setup : (index code criticality : ℕ) (body : Value) → is_at code index bearer_context_setup_request ≡ true
    → Has [] e1_type (message index code criticality body)
    → IsSetupInRange (the ies.bearers to_number (elements_in body)) (the ies.quota to_number (elements_in body))
at_setup index code criticality body t h =
    setup_is criticality body
    (subst (λ n. Has [] e1_type (message 0 n criticality body)) (sym (code_is code index bearer_context_setup_request t))
    (subst (λ n. Has [] e1_type (message n code criticality body)) (sym (outcome_is code index bearer_context_setup_request t)) h))

at_modification : (index code criticality : ℕ) (body : Value) → is_at code index bearer_context_modification_request ≡ true
    → Has [] e1_type (message index code criticality body) → AreShortStatuses (any ies.statuses to_statuses (elements_in body))
at_modification index code criticality body t h =
    statuses_are criticality body
    (subst (λ n. Has [] e1_type (message 0 n criticality body)) (sym (code_is code index bearer_context_modification_request t))
    (subst (λ n. Has [] e1_type (message n code criticality body)) (sym (outcome_is code index bearer_context_modification_request t)) h))

-- ---- one place after another
module _ (message_from_value : E1Message) where
  abbrev Rest : Type 0
  Rest = Result E1Message Cause

  or_else : (b : Bool) (rejected : Option ℕ) (here : E1Message) (rest : Rest) → (b ≡ true → IsE1InRange here)
      → (rest ≡ Ok message_from_value → IsE1InRange message_from_value) → cond b (unless_rejected rejected here) rest ≡ Ok message_from_value
      → IsE1InRange message_from_value
  or_else true rejected here rest good later e = subst IsE1InRange (answer_is rejected here message_from_value e) (good refl)
  or_else false rejected here rest good later e = later e

module _ (index code criticality : ℕ) (body : Value) (h : Has [] e1_type (message index code criticality body)) (msg : E1Message) where
  from_value_at : e1_at index code criticality (elements_in body) ≡ Ok msg → IsE1InRange msg
  unfolding e1_at
  from_value_at = or_else msg (is_at code index e1_setup_request) _ _ _ (λ t. tt)
      (or_else msg (is_at code index e1_setup_response) _ _ _ (λ t. tt)
      (or_else msg (is_at code index bearer_context_setup_request) _ _ _ (λ t. at_setup index code criticality body t h)
      (or_else msg (is_at code index bearer_context_setup_response) _ _ _ (λ t. tt)
      (or_else msg (is_at code index bearer_context_setup_failure) _ _ _ (λ t. tt)
      (or_else msg (is_at code index bearer_context_modification_request) _ _ _ (λ t. at_modification index code criticality body t h)
      (or_else msg (is_at code index bearer_context_modification_response) _ _ _ (λ t. tt)
      (or_else msg (is_at code index bearer_context_modification_failure) _ _ _ (λ t. tt)
      (or_else msg (is_at code index bearer_context_release_command) _ _ _ (λ t. tt)
      (or_else msg (is_at code index bearer_context_release_complete) _ _ _ (λ t. tt) (λ e. cc))))))))))

pub from_value_in_range : (v : Value) (msg : E1Message) → Has [] e1_type v → e1_from_value v ≡ Ok msg → IsE1InRange msg
unfolding e1_from_value Has e1_type tree
from_value_in_range (message index code criticality body) msg h e = from_value_at index code criticality body h msg e
from_value_in_range v msg h e = absurd h

-- ---- and in octets
e1_is_bounded : IsBounded e1_type
unfolding e1_type tree parts rows procedures outcome_tree test parts_test rows_test procedures_test outcome_test
e1_is_bounded = bounded e1_type refl

pub said_in_range : (octets : List ℕ) (msg : E1Message) → SaysInOctets octets msg → IsE1InRange msg
said_in_range octets msg said = from_value_in_range said.0 msg (decoded_spells e1_type said.0 octets e1_is_bounded said.1).has said.2

-- ---- a codec of such octets
pub codec_in_range : (codec : Codec) → ReadsOctets codec → (from to : NodeId) (octets : List ℕ) (m : Message (List ℕ))
    → codec.read from to octets ≡ Ok m → IsInRange m
codec_in_range codec reads from to octets (e1 msg) is = said_in_range octets msg (reads from to octets msg is)
codec_in_range codec reads from to octets (f1 msg) is = tt
codec_in_range codec reads from to octets (xn msg) is = tt
codec_in_range codec reads from to octets (core msg) is = tt
codec_in_range codec reads from to octets (rrc token) is = tt
