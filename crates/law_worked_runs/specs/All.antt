-- Written by tools/worked_runs.py: the worked scripts.
use Rattle.std.specs.Prelude.{List, [], ◌∷◌}
use Rattle.law_worked_runs.specs.Short.{Worked}
use Rattle.law_worked_runs.specs.CancelAndTooLate.{worked as cancel_and_too_late}
use Rattle.law_worked_runs.specs.CausesOfFailed.{worked as causes_of_failed}
use Rattle.law_worked_runs.specs.CausesOfFailed2.{worked as causes_of_failed_2}
use Rattle.law_worked_runs.specs.CausesOfFailed3.{worked as causes_of_failed_3}
use Rattle.law_worked_runs.specs.CausesOfFailed4.{worked as causes_of_failed_4}
use Rattle.law_worked_runs.specs.CausesOfFailed5.{worked as causes_of_failed_5}
use Rattle.law_worked_runs.specs.DeadlineOfTheRequest.{worked as deadline_of_the_request}
use Rattle.law_worked_runs.specs.DeadlineWithLostRequests.{worked as deadline_with_lost_requests}
use Rattle.law_worked_runs.specs.DeliveryStatusOfAnAck.{worked as delivery_status_of_an_ack}
use Rattle.law_worked_runs.specs.EachDownlinkItemLostInTurn.{worked as each_downlink_item_lost_in_turn}
use Rattle.law_worked_runs.specs.EachDownlinkItemLostInTurn2.{worked as each_downlink_item_lost_in_turn_2}
use Rattle.law_worked_runs.specs.EachDownlinkItemLostInTurn3.{worked as each_downlink_item_lost_in_turn_3}
use Rattle.law_worked_runs.specs.EachDownlinkItemLostInTurn4.{worked as each_downlink_item_lost_in_turn_4}
use Rattle.law_worked_runs.specs.EachDownlinkItemLostInTurn5.{worked as each_downlink_item_lost_in_turn_5}
use Rattle.law_worked_runs.specs.EachDownlinkItemLostInTurn6.{worked as each_downlink_item_lost_in_turn_6}
use Rattle.law_worked_runs.specs.EachDownlinkItemLostInTurn7.{worked as each_downlink_item_lost_in_turn_7}
use Rattle.law_worked_runs.specs.EighteenBitsDownlink.{worked as eighteen_bits_downlink}
use Rattle.law_worked_runs.specs.FirstDownlinkPacket.{worked as first_downlink_packet}
use Rattle.law_worked_runs.specs.FirstUplinkPacket.{worked as first_uplink_packet}
use Rattle.law_worked_runs.specs.ForwardUpOutOfOrderStaysHeld.{worked as forward_up_out_of_order_stays_held}
use Rattle.law_worked_runs.specs.FrozenSourceWithFullQuota.{worked as frozen_source_with_full_quota}
use Rattle.law_worked_runs.specs.HandoverToTheOtherGnb.{worked as handover_to_the_other_gnb}
use Rattle.law_worked_runs.specs.HexIsPrintedInUpperCase.{worked as hex_is_printed_in_upper_case}
use Rattle.law_worked_runs.specs.InjectedBytes.{worked as injected_bytes}
use Rattle.law_worked_runs.specs.LateSnStatus.{worked as late_sn_status}
use Rattle.law_worked_runs.specs.LossIsReportedAndRepeated.{worked as loss_is_reported_and_repeated}
use Rattle.law_worked_runs.specs.MessagesToAReleasedUe.{worked as messages_to_a_released_ue}
use Rattle.law_worked_runs.specs.MissedAccessBetweenDus.{worked as missed_access_between_dus}
use Rattle.law_worked_runs.specs.MissedAccessBetweenGnbs.{worked as missed_access_between_gnbs}
use Rattle.law_worked_runs.specs.PollShowsALoss.{worked as poll_shows_a_loss}
use Rattle.law_worked_runs.specs.PollingFrame.{worked as polling_frame}
use Rattle.law_worked_runs.specs.QuotaHoldsAndFrees.{worked as quota_holds_and_frees}
use Rattle.law_worked_runs.specs.RadioFailureAndReturn.{worked as radio_failure_and_return}
use Rattle.law_worked_runs.specs.RefusalsOfPacketEvents.{worked as refusals_of_packet_events}
use Rattle.law_worked_runs.specs.RelayCancelled.{worked as relay_cancelled}
use Rattle.law_worked_runs.specs.ReleaseGivesContextsBack.{worked as release_gives_contexts_back}
use Rattle.law_worked_runs.specs.RestartWithNothingUnconfirmed.{worked as restart_with_nothing_unconfirmed}
use Rattle.law_worked_runs.specs.SettleAfterEachStepOfTwoHandovers.{worked as settle_after_each_step_of_two_handovers}
use Rattle.law_worked_runs.specs.SettleAfterEachStepOfTwoHandovers10.{worked as settle_after_each_step_of_two_handovers_10}
use Rattle.law_worked_runs.specs.SettleAfterEachStepOfTwoHandovers11.{worked as settle_after_each_step_of_two_handovers_11}
use Rattle.law_worked_runs.specs.SettleAfterEachStepOfTwoHandovers12.{worked as settle_after_each_step_of_two_handovers_12}
use Rattle.law_worked_runs.specs.SettleAfterEachStepOfTwoHandovers2.{worked as settle_after_each_step_of_two_handovers_2}
use Rattle.law_worked_runs.specs.SettleAfterEachStepOfTwoHandovers3.{worked as settle_after_each_step_of_two_handovers_3}
use Rattle.law_worked_runs.specs.SettleAfterEachStepOfTwoHandovers4.{worked as settle_after_each_step_of_two_handovers_4}
use Rattle.law_worked_runs.specs.SettleAfterEachStepOfTwoHandovers5.{worked as settle_after_each_step_of_two_handovers_5}
use Rattle.law_worked_runs.specs.SettleAfterEachStepOfTwoHandovers6.{worked as settle_after_each_step_of_two_handovers_6}
use Rattle.law_worked_runs.specs.SettleAfterEachStepOfTwoHandovers7.{worked as settle_after_each_step_of_two_handovers_7}
use Rattle.law_worked_runs.specs.SettleAfterEachStepOfTwoHandovers8.{worked as settle_after_each_step_of_two_handovers_8}
use Rattle.law_worked_runs.specs.SettleAfterEachStepOfTwoHandovers9.{worked as settle_after_each_step_of_two_handovers_9}
use Rattle.law_worked_runs.specs.SettleOfAnEmptyWorld.{worked as settle_of_an_empty_world}
use Rattle.law_worked_runs.specs.SetupRequestGivenThreeTimes.{worked as setup_request_given_three_times}
use Rattle.law_worked_runs.specs.SnStatusInServing.{worked as sn_status_in_serving}
use Rattle.law_worked_runs.specs.SpanOfUplinkCopies.{worked as span_of_uplink_copies}
use Rattle.law_worked_runs.specs.StartAndAttach.{worked as start_and_attach}
use Rattle.law_worked_runs.specs.TwoHandoversWithARelay.{worked as two_handovers_with_a_relay}
use Rattle.law_worked_runs.specs.UnknownIeInjected.{worked as unknown_ie_injected}
use Rattle.law_worked_runs.specs.UplinkAtAFrozenSource.{worked as uplink_at_a_frozen_source}
use Rattle.law_worked_runs.specs.UplinkForwardingThatBlocksItself.{worked as uplink_forwarding_that_blocks_itself}
use Rattle.law_worked_runs.specs.UsualDay.{worked as usual_day}
use Rattle.law_worked_runs.specs.WrongLinesOfRun.{worked as wrong_lines_of_run}

abbrev pub all : List Worked
all = cancel_and_too_late
    ∷ causes_of_failed
    ∷ causes_of_failed_2
    ∷ causes_of_failed_3
    ∷ causes_of_failed_4
    ∷ causes_of_failed_5
    ∷ deadline_of_the_request
    ∷ deadline_with_lost_requests
    ∷ delivery_status_of_an_ack
    ∷ each_downlink_item_lost_in_turn
    ∷ each_downlink_item_lost_in_turn_2
    ∷ each_downlink_item_lost_in_turn_3
    ∷ each_downlink_item_lost_in_turn_4
    ∷ each_downlink_item_lost_in_turn_5
    ∷ each_downlink_item_lost_in_turn_6
    ∷ each_downlink_item_lost_in_turn_7
    ∷ eighteen_bits_downlink
    ∷ first_downlink_packet
    ∷ first_uplink_packet
    ∷ forward_up_out_of_order_stays_held
    ∷ frozen_source_with_full_quota
    ∷ handover_to_the_other_gnb
    ∷ hex_is_printed_in_upper_case
    ∷ injected_bytes
    ∷ late_sn_status
    ∷ loss_is_reported_and_repeated
    ∷ messages_to_a_released_ue
    ∷ missed_access_between_dus
    ∷ missed_access_between_gnbs
    ∷ poll_shows_a_loss
    ∷ polling_frame
    ∷ quota_holds_and_frees
    ∷ radio_failure_and_return
    ∷ refusals_of_packet_events
    ∷ relay_cancelled
    ∷ release_gives_contexts_back
    ∷ restart_with_nothing_unconfirmed
    ∷ settle_after_each_step_of_two_handovers
    ∷ settle_after_each_step_of_two_handovers_10
    ∷ settle_after_each_step_of_two_handovers_11
    ∷ settle_after_each_step_of_two_handovers_12
    ∷ settle_after_each_step_of_two_handovers_2
    ∷ settle_after_each_step_of_two_handovers_3
    ∷ settle_after_each_step_of_two_handovers_4
    ∷ settle_after_each_step_of_two_handovers_5
    ∷ settle_after_each_step_of_two_handovers_6
    ∷ settle_after_each_step_of_two_handovers_7
    ∷ settle_after_each_step_of_two_handovers_8
    ∷ settle_after_each_step_of_two_handovers_9
    ∷ settle_of_an_empty_world
    ∷ setup_request_given_three_times
    ∷ sn_status_in_serving
    ∷ span_of_uplink_copies
    ∷ start_and_attach
    ∷ two_handovers_with_a_relay
    ∷ unknown_ie_injected
    ∷ uplink_at_a_frozen_source
    ∷ uplink_forwarding_that_blocks_itself
    ∷ usual_day
    ∷ wrong_lines_of_run
    ∷ []
