use Rattle.proof_cu_up_orders.proofs.frames_kept.Rows.{goes_on, begins}
use Rattle.proof_cu_up_orders.proofs.frames_kept.rows_keep_what_is_sent.Goals as goal

pub returns-clause-goes_on : goal.returns-clause-goes_on
returns-clause-goes_on g c = λ way sn quota first teid orders x p q b order outputs w kept is on answers sends.
    goes_on way sn quota first teid orders x p q b outputs order w kept is on answers sends

pub returns-clause-begins : goal.returns-clause-begins
returns-clause-begins g c = λ way sn quota first teid orders x p q b to end outputs du waits kept is present answers.
    begins way sn quota first teid orders x p q b outputs to end du waits kept is present answers
