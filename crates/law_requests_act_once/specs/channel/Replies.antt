-- Which message is the reply to which request (the class 1 procedures of TS 38.473, 37.483 and 38.423, 8.1; a path switch, TS
-- 38.413, 8.4.4), and which request overtakes the one before it: Handover Cancel alone (TS 38.423, 8.2.3).
use Rattle.std.specs.Prelude.{Bool, true, false}
use Rattle.message_types.specs.declared.f1.F1.TheVariants as f1s
use Rattle.message_types.specs.declared.e1.E1Message.TheVariants as e1s
use Rattle.message_types.specs.declared.xn.XnMessage.TheVariants as xns
use Rattle.message_types.specs.declared.xn.CoreMessage.TheVariants as cores
use Rattle.unit_defs.specs.Ways.{Message, f1, e1, xn, core, Way}
use Rattle.unit_defs.specs.Transactions.{Kind}

abbrev pub is_f1_setup : {C : Type 0} → Message C → Bool
is_f1_setup (f1 (f1s.F1SetupResponse instance)) = true
is_f1_setup message = false

abbrev pub is_ue_setup : {C : Type 0} → Message C → Bool
is_ue_setup (f1 (f1s.UeContextSetupResponse ue instance downlinks)) = true
is_ue_setup message = false

abbrev pub is_ue_modification : {C : Type 0} → Message C → Bool
is_ue_modification (f1 (f1s.UeContextModificationResponse ue instance downlinks)) = true
is_ue_modification message = false

abbrev pub is_ue_release : {C : Type 0} → Message C → Bool
is_ue_release (f1 (f1s.UeContextReleaseComplete ue instance)) = true
is_ue_release message = false

abbrev pub is_e1_setup : {C : Type 0} → Message C → Bool
is_e1_setup (e1 (e1s.E1SetupResponse instance)) = true
is_e1_setup message = false

abbrev pub is_bearer_setup : {C : Type 0} → Message C → Bool
is_bearer_setup (e1 (e1s.BearerContextSetupResponse ue instance uplinks n3 down up)) = true
is_bearer_setup (e1 (e1s.BearerContextSetupFailure ue instance cause)) = true
is_bearer_setup message = false

abbrev pub is_bearer_modification : {C : Type 0} → Message C → Bool
is_bearer_modification (e1 (e1s.BearerContextModificationResponse ue instance uplinks statuses)) = true
is_bearer_modification (e1 (e1s.BearerContextModificationFailure ue instance cause)) = true
is_bearer_modification message = false

abbrev pub is_bearer_release : {C : Type 0} → Message C → Bool
is_bearer_release (e1 (e1s.BearerContextReleaseComplete ue instance)) = true
is_bearer_release message = false

abbrev pub is_preparation : {C : Type 0} → Message C → Bool
is_preparation (xn (xns.HandoverRequestAcknowledge ue instance peer down up)) = true
is_preparation (xn (xns.HandoverPreparationFailure ue instance cause)) = true
is_preparation message = false

abbrev pub is_confirm : {C : Type 0} → Message C → Bool
is_confirm (xn (xns.TransportConfirm ue instance)) = true
is_confirm message = false

abbrev pub is_path_switch : {C : Type 0} → Message C → Bool
is_path_switch (core (cores.PathSwitchAcknowledge ue instance)) = true
is_path_switch message = false

-- the second is a reply to the first
abbrev pub answers : {C : Type 0} → Message C → Message C → Bool
answers (f1 (f1s.F1SetupRequest instance name)) reply = is_f1_setup reply
answers (f1 (f1s.UeContextSetupRequest ue instance epoch uplinks sn peer)) reply = is_ue_setup reply
answers (f1 (f1s.UeContextModificationRequest ue instance epoch)) reply = is_ue_modification reply
answers (f1 (f1s.UeContextReleaseCommand ue instance)) reply = is_ue_release reply
answers (e1 (e1s.E1SetupRequest instance name)) reply = is_e1_setup reply
answers (e1 (e1s.BearerContextSetupRequest ue instance bearers sn quota forward)) reply = is_bearer_setup reply
answers (e1 (e1s.BearerContextModificationRequest ue instance downlinks mode peer down up statuses du)) reply = is_bearer_modification reply
answers (e1 (e1s.BearerContextReleaseCommand ue instance is_final)) reply = is_bearer_release reply
answers (xn (xns.HandoverRequest ue instance epoch bearers sn quota peer du origin)) reply = is_preparation reply
answers (xn (xns.SnStatusTransfer ue instance statuses)) reply = is_confirm reply
answers (xn (xns.HandoverCancel ue instance)) reply = is_confirm reply
answers (xn (xns.UeContextRelease ue instance)) reply = is_confirm reply
answers (core (cores.PathSwitchRequest ue instance peer n3)) reply = is_path_switch reply
answers message reply = false

abbrev pub overtakes : {C : Type 0} → Message C → Bool
overtakes (xn (xns.HandoverCancel ue instance)) = true
overtakes message = false

-- how messages are written, and what is read of what stands for one: a request or a reply, which replies answer it, and whether
-- it overtakes
pub record Talk (M C P : Type 0) : Type 0 where
  pub way : Way M C P
  pub kind : M → Kind
  pub answers : M → M → Bool
  pub overtakes : M → Bool
