use Rattle.std.proofs.Common.{◌≡◌, true, refl}
use Rattle.law_requests_act_once.proofs.cu_cp_offers.Acts.{cu_cp_keeps}
use Rattle.law_requests_act_once.proofs.cu_cp_offers.a_cu_cp_keeps_offers.Goals as goal

pub returns : goal.returns
returns g c = λ way was_asked r input stand fits. cu_cp_keeps way r.gnb (λ ue i. was_asked ue i ≡ true) r input (stand, refl) fits
