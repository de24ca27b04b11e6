use Rattle.scenario_text.proofs.read.event_after.Goals as goal

pub returns-in-Static : goal.returns-in-Static
returns-in-Static c = rw c.in-Static.is c.set_up_event.ensures

pub returns-in-Start : goal.returns-in-Start
returns-in-Start c = rw c.in-Start.is c.start_event.ensures

pub returns-in-Attach : goal.returns-in-Attach
returns-in-Attach c = rw c.in-Attach.is c.attach_event.ensures

pub returns-in-Offer : goal.returns-in-Offer
returns-in-Offer c = rw c.in-Offer.is c.offer_event.ensures

pub returns-in-Get : goal.returns-in-Get
returns-in-Get c = rw c.in-Get.is c.get_event.ensures

pub returns-in-Air : goal.returns-in-Air
returns-in-Air c = rw c.in-Air.is c.air_event.ensures

pub returns-in-Ack : goal.returns-in-Ack
returns-in-Ack c = rw c.in-Ack.is c.ack_event.ensures

pub returns-in-Give : goal.returns-in-Give
returns-in-Give c = rw c.in-Give.is c.give_event.ensures

pub returns-in-Lose : goal.returns-in-Lose
returns-in-Lose c = rw c.in-Lose.is c.lose_event.ensures

pub returns-in-Poll : goal.returns-in-Poll
returns-in-Poll c = rw c.in-Poll.is c.poll_event.ensures

pub returns-in-Pump : goal.returns-in-Pump
returns-in-Pump c = rw c.in-Pump.is c.pump_event.ensures

pub returns-in-Tick : goal.returns-in-Tick
returns-in-Tick c = rw c.in-Tick.is c.tick_event.ensures

pub returns-in-Fail : goal.returns-in-Fail
returns-in-Fail c = rw c.in-Fail.is c.fail_event.ensures

pub returns-in-Arrive : goal.returns-in-Arrive
returns-in-Arrive c = rw c.in-Arrive.is c.arrive_event.ensures

pub returns-in-Return : goal.returns-in-Return
returns-in-Return c = rw c.in-Return.is c.return_home_event.ensures

pub returns-in-Handover : goal.returns-in-Handover
returns-in-Handover c = rw c.in-Handover.is c.handover_event.ensures

pub returns-in-Cancel : goal.returns-in-Cancel
returns-in-Cancel c = rw c.in-Cancel.is c.cancel_event.ensures

pub returns-in-Release : goal.returns-in-Release
returns-in-Release c = rw c.in-Release.is c.release_event.ensures

pub returns-in-Ask : goal.returns-in-Ask
returns-in-Ask c = rw c.in-Ask.is c.ask_event.ensures

pub returns-in-Settle : goal.returns-in-Settle
returns-in-Settle c = rw c.in-Settle.is c.settle_event.ensures

pub returns-in-Inject : goal.returns-in-Inject
returns-in-Inject c = rw c.in-Inject.is c.inject_event.ensures
