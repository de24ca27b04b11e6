-- The PDUs of the profile and its tokens have the types of their names in a module that agrees.
use Rattle.std.proofs.Common.{◌≡◌, ℕ, true, refl}
use Rattle.std.specs.Prelude.{Some, slice_get}
use Rattle.asn1_syntax.specs.declared.assignments.assignment.Syntax.{Syntax}
use Rattle.message_defs.specs.profile_defs.Forms.{Form}
use Rattle.message_defs.specs.profile_defs.BaseTypes as types
use Rattle.message_defs.specs.profile_defs.Compounds as compounds
use Rattle.message_defs.specs.profile_defs.Tokens as tokens
use Rattle.message_defs.specs.profile_defs.Tables.{message_form}
use Rattle.message_defs.specs.profile_defs.Messages as messages
use Rattle.message_defs.specs.profile_defs.Profile.{profile_types, f1ap_pdu, e1ap_pdu, xnap_pdu, core_pdu}
use Rattle.message_defs.specs.profile_defs.Agreement.{has_type}
use Rattle.profile.proofs.trees.Alike.{Known, KnownParts, KnownElements, KnownProcedures, KnownOutcome}

abbrev pub HasEach : Syntax → ℕ → Type 0
HasEach m version = (n : ℕ) (t : Form) → slice_get (profile_types version) n ≡ Some t → has_type m t ≡ true

module _ (m : Syntax) (version : ℕ) (has : HasEach m version) where
  ue_known : Known m types.ue
  unfolding Known profile_types
  ue_known = (has 0 types.ue refl, tt)

  bearer_known : Known m types.bearer
  unfolding Known profile_types
  bearer_known = (has 1 types.bearer refl, tt)

  word_known : Known m types.word
  unfolding Known profile_types
  word_known = (has 2 types.word refl, tt)

  unit_known : Known m types.unit
  unfolding Known profile_types
  unit_known = (has 3 types.unit refl, tt)

  flag_known : Known m types.flag
  unfolding Known profile_types
  flag_known = (has 4 types.flag refl, tt)

  gnb_known : Known m types.gnb
  unfolding Known profile_types
  gnb_known = (has 5 types.gnb refl, tt)

  sn_bits_known : Known m types.sn_bits
  unfolding Known profile_types
  sn_bits_known = (has 6 types.sn_bits refl, tt)

  quota_known : Known m types.quota
  unfolding Known profile_types
  quota_known = (has 7 types.quota refl, tt)

  cause_known : Known m types.cause
  unfolding Known profile_types
  cause_known = (has 8 types.cause refl, tt)

  mode_known : Known m types.mode
  unfolding Known profile_types
  mode_known = (has 9 types.mode refl, tt)

  name_known : Known m types.name
  unfolding Known profile_types
  name_known = (has 10 types.name refl, tt)

  container_known : Known m types.container
  unfolding Known profile_types
  container_known = (has 11 types.container refl, tt)

  tunnel_known : Known m compounds.tunnel
  unfolding Known KnownParts profile_types
  tunnel_known = (has 12 compounds.tunnel refl, (bearer_known, (word_known, tt)))

  tunnels_known : Known m compounds.tunnels
  unfolding Known KnownParts profile_types
  tunnels_known = (has 13 compounds.tunnels refl, tunnel_known)

  peer_known : Known m compounds.peer
  unfolding Known KnownParts profile_types
  peer_known = (has 14 compounds.peer refl, (gnb_known, (unit_known, tt)))

  status_known : Known m compounds.status
  unfolding Known KnownParts profile_types
  status_known = (has 15 compounds.status refl, (bearer_known, (word_known, (word_known, (tt, tt)))))

  statuses_known : Known m compounds.statuses
  unfolding Known KnownParts profile_types
  statuses_known = (has 16 compounds.statuses refl, status_known)

  mark_known : Known m tokens.mark
  unfolding Known KnownParts profile_types
  mark_known = (has 17 tokens.mark refl, (ue_known, (word_known, tt)))

  command_known : Known m tokens.command
  unfolding Known KnownParts profile_types
  command_known = (has 18 tokens.command refl, (ue_known, (word_known, (gnb_known, (unit_known, tt)))))

  pub token_known : Known m tokens.rrc_token
  unfolding Known KnownParts profile_types
  token_known = (has 19 tokens.rrc_token refl, (command_known, (mark_known, (mark_known, (mark_known, tt)))))

  f1_setup_request_known : Known m (message_form messages.f1_setup_request)
  unfolding Known KnownParts KnownElements profile_types
  f1_setup_request_known = (has 24 (message_form messages.f1_setup_request) refl, ((word_known, (name_known, tt)), tt))

  f1_setup_response_known : Known m (message_form messages.f1_setup_response)
  unfolding Known KnownParts KnownElements profile_types
  f1_setup_response_known = (has 25 (message_form messages.f1_setup_response) refl, ((word_known, tt), tt))

  ue_context_setup_request_known : Known m (message_form messages.ue_context_setup_request)
  unfolding Known KnownParts KnownElements profile_types
  ue_context_setup_request_known = (has 26 (message_form messages.ue_context_setup_request) refl, ((ue_known, (word_known, (word_known, (tunnels_known, (sn_bits_known, (peer_known, tt)))))), tt))

  ue_context_setup_response_known : Known m (message_form messages.ue_context_setup_response)
  unfolding Known KnownParts KnownElements profile_types
  ue_context_setup_response_known = (has 27 (message_form messages.ue_context_setup_response) refl, ((ue_known, (word_known, (tunnels_known, tt))), tt))

  ue_context_modification_request_known : Known m (message_form messages.ue_context_modification_request)
  unfolding Known KnownParts KnownElements profile_types
  ue_context_modification_request_known = (has 28 (message_form messages.ue_context_modification_request) refl, ((ue_known, (word_known, (word_known, tt))), tt))

  ue_context_modification_response_known : Known m (message_form messages.ue_context_modification_response)
  unfolding Known KnownParts KnownElements profile_types
  ue_context_modification_response_known = (has 29 (message_form messages.ue_context_modification_response) refl, ((ue_known, (word_known, (tunnels_known, tt))), tt))

  ue_context_release_command_known : Known m (message_form messages.ue_context_release_command)
  unfolding Known KnownParts KnownElements profile_types
  ue_context_release_command_known = (has 30 (message_form messages.ue_context_release_command) refl, ((ue_known, (word_known, tt)), tt))

  ue_context_release_complete_known : Known m (message_form messages.ue_context_release_complete)
  unfolding Known KnownParts KnownElements profile_types
  ue_context_release_complete_known = (has 31 (message_form messages.ue_context_release_complete) refl, ((ue_known, (word_known, tt)), tt))

  dl_rrc_message_transfer_known : Known m (message_form messages.dl_rrc_message_transfer)
  unfolding Known KnownParts KnownElements profile_types
  dl_rrc_message_transfer_known = (has 32 (message_form messages.dl_rrc_message_transfer) refl, ((ue_known, (container_known, tt)), tt))

  ul_rrc_message_transfer_known : Known m (message_form messages.ul_rrc_message_transfer)
  unfolding Known KnownParts KnownElements profile_types
  ul_rrc_message_transfer_known = (has 33 (message_form messages.ul_rrc_message_transfer) refl, ((ue_known, (container_known, tt)), tt))

  pub f1_known : Known m f1ap_pdu
  unfolding Known KnownProcedures KnownOutcome profile_types
  f1_known = (has 20 f1ap_pdu refl, ((f1_setup_request_known, (f1_setup_response_known, tt)), ((ue_context_setup_request_known, (ue_context_setup_response_known, tt)), ((ue_context_modification_request_known, (ue_context_modification_response_known, tt)), ((ue_context_release_command_known, (ue_context_release_complete_known, tt)), ((dl_rrc_message_transfer_known, (tt, tt)), ((ul_rrc_message_transfer_known, (tt, tt)), tt)))))))

  e1_setup_request_known : Known m (message_form messages.e1_setup_request)
  unfolding Known KnownParts KnownElements profile_types
  e1_setup_request_known = (has 34 (message_form messages.e1_setup_request) refl, ((word_known, (name_known, tt)), tt))

  e1_setup_response_known : Known m (message_form messages.e1_setup_response)
  unfolding Known KnownParts KnownElements profile_types
  e1_setup_response_known = (has 35 (message_form messages.e1_setup_response) refl, ((word_known, tt), tt))

  bearer_context_setup_request_known : Known m (message_form messages.bearer_context_setup_request)
  unfolding Known KnownParts KnownElements profile_types
  bearer_context_setup_request_known = (has 36 (message_form messages.bearer_context_setup_request) refl, ((ue_known, (word_known, (bearer_known, (sn_bits_known, (quota_known, (flag_known, tt)))))), tt))

  bearer_context_setup_response_known : Known m (message_form messages.bearer_context_setup_response)
  unfolding Known KnownParts KnownElements profile_types
  bearer_context_setup_response_known = (has 37 (message_form messages.bearer_context_setup_response) refl, ((ue_known, (word_known, (tunnels_known, (tunnels_known, (tunnels_known, (tunnels_known, tt)))))), tt))

  bearer_context_setup_failure_known : Known m (message_form messages.bearer_context_setup_failure)
  unfolding Known KnownParts KnownElements profile_types
  bearer_context_setup_failure_known = (has 38 (message_form messages.bearer_context_setup_failure) refl, ((ue_known, (word_known, (cause_known, tt))), tt))

  bearer_context_modification_request_known : Known m (message_form messages.bearer_context_modification_request)
  unfolding Known KnownParts KnownElements profile_types
  bearer_context_modification_request_known = (has 39 (message_form messages.bearer_context_modification_request) refl, ((ue_known, (word_known, (tunnels_known, (mode_known, (peer_known, (tunnels_known, (tunnels_known, (statuses_known, (unit_known, tt))))))))), tt))

  bearer_context_modification_response_known : Known m (message_form messages.bearer_context_modification_response)
  unfolding Known KnownParts KnownElements profile_types
  bearer_context_modification_response_known = (has 40 (message_form messages.bearer_context_modification_response) refl, ((ue_known, (word_known, (tunnels_known, (statuses_known, tt)))), tt))

  bearer_context_modification_failure_known : Known m (message_form messages.bearer_context_modification_failure)
  unfolding Known KnownParts KnownElements profile_types
  bearer_context_modification_failure_known = (has 41 (message_form messages.bearer_context_modification_failure) refl, ((ue_known, (word_known, (cause_known, tt))), tt))

  bearer_context_release_command_known : Known m (message_form messages.bearer_context_release_command)
  unfolding Known KnownParts KnownElements profile_types
  bearer_context_release_command_known = (has 42 (message_form messages.bearer_context_release_command) refl, ((ue_known, (word_known, (flag_known, tt))), tt))

  bearer_context_release_complete_known : Known m (message_form messages.bearer_context_release_complete)
  unfolding Known KnownParts KnownElements profile_types
  bearer_context_release_complete_known = (has 43 (message_form messages.bearer_context_release_complete) refl, ((ue_known, (word_known, tt)), tt))

  pub e1_known : Known m e1ap_pdu
  unfolding Known KnownProcedures KnownOutcome profile_types
  e1_known = (has 21 e1ap_pdu refl, ((e1_setup_request_known, (e1_setup_response_known, tt)), ((bearer_context_setup_request_known, (bearer_context_setup_response_known, bearer_context_setup_failure_known)), ((bearer_context_modification_request_known, (bearer_context_modification_response_known, bearer_context_modification_failure_known)), ((bearer_context_release_command_known, (bearer_context_release_complete_known, tt)), tt)))))

  path_switch_request_known : Known m (message_form messages.path_switch_request)
  unfolding Known KnownParts KnownElements profile_types
  path_switch_request_known = (has 51 (message_form messages.path_switch_request) refl, ((ue_known, (word_known, (peer_known, (tunnels_known, tt)))), tt))

  path_switch_acknowledge_known : Known m (message_form messages.path_switch_acknowledge)
  unfolding Known KnownParts KnownElements profile_types
  path_switch_acknowledge_known = (has 52 (message_form messages.path_switch_acknowledge) refl, ((ue_known, (word_known, tt)), tt))

  pub core_known : Known m core_pdu
  unfolding Known KnownProcedures KnownOutcome profile_types
  core_known = (has 23 core_pdu refl, ((path_switch_request_known, (path_switch_acknowledge_known, tt)), tt))

-- XnAP of version 1, whose HandoverRequest has no named addition
module _ (m : Syntax) (has : HasEach m 1) where
  handover_request_known : Known m (message_form (messages.handover_request 1))
  unfolding Known KnownParts KnownElements profile_types
  handover_request_known = (has 44 (message_form (messages.handover_request 1)) refl, ((ue_known m 1 has, (word_known m 1 has, (word_known m 1 has, (bearer_known m 1 has, (sn_bits_known m 1 has, (quota_known m 1 has, (peer_known m 1 has, (unit_known m 1 has, tt)))))))), tt))

  handover_request_acknowledge_known : Known m (message_form messages.handover_request_acknowledge)
  unfolding Known KnownParts KnownElements profile_types
  handover_request_acknowledge_known = (has 45 (message_form messages.handover_request_acknowledge) refl, ((ue_known m 1 has, (word_known m 1 has, (peer_known m 1 has, (tunnels_known m 1 has, (tunnels_known m 1 has, tt))))), tt))

  handover_preparation_failure_known : Known m (message_form messages.handover_preparation_failure)
  unfolding Known KnownParts KnownElements profile_types
  handover_preparation_failure_known = (has 46 (message_form messages.handover_preparation_failure) refl, ((ue_known m 1 has, (word_known m 1 has, (cause_known m 1 has, tt))), tt))

  sn_status_transfer_known : Known m (message_form messages.sn_status_transfer)
  unfolding Known KnownParts KnownElements profile_types
  sn_status_transfer_known = (has 47 (message_form messages.sn_status_transfer) refl, ((ue_known m 1 has, (word_known m 1 has, (statuses_known m 1 has, tt))), tt))

  handover_cancel_known : Known m (message_form messages.handover_cancel)
  unfolding Known KnownParts KnownElements profile_types
  handover_cancel_known = (has 48 (message_form messages.handover_cancel) refl, ((ue_known m 1 has, (word_known m 1 has, tt)), tt))

  ue_context_release_known : Known m (message_form messages.ue_context_release)
  unfolding Known KnownParts KnownElements profile_types
  ue_context_release_known = (has 49 (message_form messages.ue_context_release) refl, ((ue_known m 1 has, (word_known m 1 has, tt)), tt))

  transport_confirm_known : Known m (message_form messages.transport_confirm)
  unfolding Known KnownParts KnownElements profile_types
  transport_confirm_known = (has 50 (message_form messages.transport_confirm) refl, ((ue_known m 1 has, (word_known m 1 has, tt)), tt))

  pub xn_known : Known m (xnap_pdu 1)
  unfolding Known KnownProcedures KnownOutcome profile_types
  xn_known = (has 22 (xnap_pdu 1) refl, ((handover_request_known, (handover_request_acknowledge_known, handover_preparation_failure_known)), ((sn_status_transfer_known, (tt, tt)), ((handover_cancel_known, (tt, tt)), ((ue_context_release_known, (tt, tt)), ((transport_confirm_known, (tt, tt)), tt))))))
