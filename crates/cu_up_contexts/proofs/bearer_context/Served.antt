-- What is always so of a bearer rests on its entities alone.
use Rattle.std.proofs.Common.{◌≡◌, false, [], sym, subst}
use Rattle.cu_up_bearer.specs.declared.tunnels.at.Scope.{Scope}
use Rattle.pdcp_bearers.specs.ue_bearers.Receivers.{ReceiverState}
use Rattle.cu_up_bearer.specs.declared.downlink.down.DownSide.{DownSide}
use Rattle.cu_up_bearer.specs.downlink.Downlinks.{IsDown}
use Rattle.cu_up_bearer.specs.bearers.Bearers.{IsUp}
use Rattle.cu_up_bearer.specs.declared.bearers.bearer.Bearer.{Bearer}
use Rattle.cu_up_contexts.specs.bearer_context.Bearers.{IsServed}

abbrev Serves : Scope → DownSide → ReceiverState → Type 0
Serves a d u =
    (IsDown a d × IsUp a u) × (a.flags.may_serve ≡ false → (d.sending.sender.unconfirmed ≡ []) × (u.receiver.stored ≡ []))

pub served_as : (a : Scope) (b c : Bearer) → c.down ≡ b.down → c.receiving ≡ b.receiving → IsServed a b → IsServed a c
served_as a b c down receiving served =
    subst (λ (u : ReceiverState). Serves a c.down u) (sym receiving) (subst (λ (d : DownSide). Serves a d b.receiving) (sym down) served)
