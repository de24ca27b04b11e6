use Rattle.proof_unit_steps.proofs.frames.Bearers.{poll_stays, switched_stays, frozen_stays, status_stays, resumed_stays, with_uplink_stays, item_stays}
use Rattle.proof_unit_steps.proofs.frames.frames_are_numbered.Goals as goal

pub returns-clause-item : goal.returns-clause-item
returns-clause-item g c = λ way at kind teid item b. item_stays way at kind teid item b

pub returns-clause-poll : goal.returns-clause-poll
returns-clause-poll g c = λ way at b. poll_stays way at b

pub returns-clause-switch : goal.returns-clause-switch
returns-clause-switch g c = λ way at du teid b. switched_stays way at du teid b

pub returns-clause-freeze : goal.returns-clause-freeze
returns-clause-freeze g c = λ way at peer down up b. frozen_stays way at peer down up b

pub returns-clause-status : goal.returns-clause-status
returns-clause-status g c = λ way at s b. status_stays way at s b

pub returns-clause-resume : goal.returns-clause-resume
returns-clause-resume g c = λ way at b. resumed_stays way at b

pub returns-clause-uplinks : goal.returns-clause-uplinks
returns-clause-uplinks g c = λ way teid b. with_uplink_stays way teid b
