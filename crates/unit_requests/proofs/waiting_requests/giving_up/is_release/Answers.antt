use Rattle.std.proofs.Common.{ℕ, List, ap, ◌∙◌}
use Rattle.unit_defs.specs.Transactions.{Waiting}
use Rattle.unit_defs.specs.CuCp.{is_cu_up_release}
use Rattle.unit_defs.specs.octet_defs.Codec.{octet_way}
use Rattle.unit_requests.proofs.waiting_requests.giving_up.is_release.Goals as goal

pub returns : goal.returns
returns c = λ codec.
    c.is_cu_up_release.ensures codec ∙ ap (λ (w : Waiting (List ℕ)). is_cu_up_release (octet_way codec) w.message) c.waiting.view_is
