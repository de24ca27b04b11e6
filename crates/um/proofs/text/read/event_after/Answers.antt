use Rattle.um.proofs.text.read.event_after.Goals as goal

pub returns-in-Offer : goal.returns-in-Offer
returns-in-Offer c = rw c.in-Offer.is c.offer_event.ensures

pub returns-in-Give : goal.returns-in-Give
returns-in-Give c = rw c.in-Give.is c.give_event.ensures

pub returns-in-Again : goal.returns-in-Again
returns-in-Again c = rw c.in-Again.is c.again_event.ensures

pub returns-in-Lose : goal.returns-in-Lose
returns-in-Lose c = rw c.in-Lose.is c.lose_event.ensures

pub returns-in-Tick : goal.returns-in-Tick
returns-in-Tick c = rw c.in-Tick.is c.tick_event.ensures

pub returns-in-Ask : goal.returns-in-Ask
returns-in-Ask c = rw c.in-Ask.is c.ask_event.ensures
