use Rattle.dup.proofs.text.read.event_after.Goals as goal

pub returns-in-Offer : goal.returns-in-Offer
returns-in-Offer c = rw c.in-Offer.is c.offer_event.ensures

pub returns-in-Carry : goal.returns-in-Carry
returns-in-Carry c = rw c.in-Carry.is c.carry_event.ensures

pub returns-in-Confirm : goal.returns-in-Confirm
returns-in-Confirm c = rw c.in-Confirm.is c.confirm_event.ensures

pub returns-in-Fail : goal.returns-in-Fail
returns-in-Fail c = rw c.in-Fail.is c.fail_event.ensures

pub returns-in-Mend : goal.returns-in-Mend
returns-in-Mend c = rw c.in-Mend.is c.mend_event.ensures

pub returns-in-Mode : goal.returns-in-Mode
returns-in-Mode c = rw c.in-Mode.is c.mode_event.ensures

pub returns-in-Drain : goal.returns-in-Drain
returns-in-Drain c = rw c.in-Drain.is c.drain_event.ensures

pub returns-in-Ask : goal.returns-in-Ask
returns-in-Ask c = rw c.in-Ask.is c.ask_event.ensures
