-- The core asks nothing.
use Rattle.std.proofs.Common.{◌≡◌, ℕ, Option, Some, None, refl}
use Rattle.gnb_types.specs.declared.names.NodeId.{NodeId}
use Rattle.gnb_types.specs.declared.names.NodeId.TheVariants.{CuCp}
use Rattle.gnb_types.specs.declared.keys.Channel.{Channel}
use Rattle.message_types.specs.declared.xn.CoreMessage.TheVariants as cores
use Rattle.transaction_defs.specs.Callees.{Verdict, new, again, stale, verdict, kept_reply}
use Rattle.unit_defs.specs.Ways.{Message, core, Way}
use Rattle.unit_defs.specs.Messages.{channel}
use Rattle.unit_defs.specs.Transactions.{Kind, request, reply, transfer, kind_of, replied, answered_again, request_by, on_request}
use Rattle.unit_defs.specs.Core.{CoreRecord, switch_path, asked, came, core_acts}
use Rattle.law_requests_act_once.specs.channel.Exactly.{IfGives}

module _ {M C P : Type 0} (way : Way M C P) (r : CoreRecord M C) where
  abbrev Asks-no : CoreRecord M C → Type 0
  Asks-no q = (q.transactions.caller ≡ r.transactions.caller) × (q.transactions.waiting ≡ r.transactions.waiting)

  asked_none : (c : Channel) (m : Message C) (q : CoreRecord M C) → Asks-no q → IfGives Asks-no (asked way c m q)
  unfolding switch_path replied
  asked_none c (core (cores.PathSwitchRequest ue instance peer n3)) q same = same
  asked_none c m q same = same

  pub core_asks_none : (from : NodeId) (m : Message C) → IfGives Asks-no (core_acts way r from m)
  unfolding core_acts on_request
  core_asks_none (CuCp gnb) m = by (kind_of m)
    where
      kept_again : (c : Channel) (o : Option M) → IfGives Asks-no (answered_again way r c o)
      kept_again c None = (refl, refl)
      kept_again c (Some y) = (refl, refl)

      of : (ue i : ℕ) (v : Verdict) → IfGives Asks-no
          (request_by way r r.transactions (channel ue (CuCp gnb)) i (λ t. asked way (channel ue (CuCp gnb)) m (record r { transactions = t })) v)
      of ue i new = asked_none (channel ue (CuCp gnb)) m _ (refl, refl)
      of ue i again = kept_again (channel ue (CuCp gnb)) (kept_reply r.transactions.callee (channel ue (CuCp gnb)))
      of ue i stale = (refl, refl)

      by : (k : Kind) → IfGives Asks-no (came way (CuCp gnb) m r k)
      by (request ue i) = of ue i (verdict r.transactions.callee (channel ue (CuCp gnb)) i)
      by (reply ue i) = (refl, refl)
      by (transfer ue) = (refl, refl)
  core_asks_none from m = (refl, refl)
