use Rattle.message_types.specs.declared.e1.E1Message.TheVariants as e1s
use Rattle.cu_user.proofs.cu_up_rows.bearers.setup_response.Goals as goal

pub returns : goal.returns
returns c = λ codec i.
    e1s.BearerContextSetupResponse c.args.request.ue c.args.request.instance (c.in_ok-uplinks.ensures codec i) (c.in_ok-n3.ensures codec i)
    (c.in_ok-forward_down.ensures codec i) (c.in_ok-forward_up.ensures codec i)
