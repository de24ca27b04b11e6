use Rattle.std.proofs.Common.{ℕ, List, map, ap, ◌∙◌}
use Rattle.gnb_types.specs.declared.keys.Channel.{Channel}
use Rattle.unit_defs.specs.CuCpRecords.{unawaited, forgotten}
use Rattle.unit_defs.specs.octet_defs.Codec.{octet_way}
use Rattle.unit_requests.specs.Requests.{Kept}
use Rattle.unit_requests.proofs.waiting_requests.Refilling.{Waits}
use Rattle.unit_requests.proofs.waiting_requests.forgetting.forget.Goals as goal

pub returns : goal.returns
returns c = λ codec.
    ap (λ (ws : List (Channel × Waits)). record { caller = c.requests.inside.caller; waiting = ws; callee = c.requests.inside.callee })
    (c.in_ok-requests-inside.ensures codec
    ∙ ap (λ (ws : List (Channel × Waits)). map (unawaited (octet_way codec) c.args.ue) ws) c.replace-left.ensures.value)
    ∙ ap (λ (t : Kept). forgotten (octet_way codec) c.args.ue t) c.requests.view_is
