use Rattle.values_json.proofs.printing.values.write_outcome.Goals as goal

pub returns-in_ok-key-in-0 : goal.returns-in_ok-key-in-0
returns-in_ok-key-in-0 c = rw c.in-0.is (c.in_ok-key-in-0.ensures.room.0, c.in_ok-key-in-0.ensures.ok)

pub returns-in_ok-key-in-1 : goal.returns-in_ok-key-in-1
returns-in_ok-key-in-1 c = rw c.in-1.is (c.in_ok-key-in-1.ensures.room.0, c.in_ok-key-in-1.ensures.ok)

pub returns-in_ok-key-in-2 : goal.returns-in_ok-key-in-2
returns-in_ok-key-in-2 c = rw c.in-2.is (c.in_ok-key-in-2.ensures.room.0, c.in_ok-key-in-2.ensures.ok)
