use Rattle.law_downlink_scripts.proofs.downlink_only_rows.Dus.{passes, confirms}
use Rattle.law_downlink_scripts.proofs.downlink_only_rows.a_du_passes_in_order.Goals as goal

pub returns-clause-frames : goal.returns-clause-frames
returns-clause-frames g c = λ way r teid t x b number pdu is_open there has awaited calm. passes way r teid t x b number pdu is_open there has awaited calm

pub returns-clause-confirmations : goal.returns-clause-confirmations
returns-clause-confirmations g c = λ way r ue bearer x b pdu content there has. confirms way r ue bearer x b pdu content there has
