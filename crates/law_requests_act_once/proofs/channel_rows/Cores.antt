-- The core: a path switch is taken and answered.
use Rattle.std.proofs.Common.{inl, ◌≡◌, ℕ, List, [], ◌∷◌, Option, Some, None, refl, ◌∙◌, subst}
use Rattle.std.specs.Prelude.{map}
use Rattle.gnb_types.specs.declared.names.NodeId.{NodeId}
use Rattle.gnb_types.specs.declared.names.NodeId.TheVariants.{CuCp, CuUp, Du, Core, Ue}
use Rattle.gnb_types.specs.declared.names.UeId.{UeId}
use Rattle.gnb_types.specs.declared.plans.Tunnel.{Tunnel}
use Rattle.gnb_types.specs.declared.reasons.DropReason.TheVariants.{Unexpected}
use Rattle.gnb_types.specs.Orders.{ue_cmp}
use Rattle.tables.specs.Tables.{find}
use Rattle.message_types.specs.declared.xn.CoreMessage.TheVariants as cores
use Rattle.unit_defs.specs.Ways.{Message, core}
use Rattle.unit_defs.specs.Messages.{channel}
use Rattle.unit_defs.specs.Transactions.{Kind, request, reply, transfer, kind_of, Transactions, on_request}
use Rattle.unit_defs.specs.Core.{CoreRecord, CorePath, end_of, old_ends, moved, asked, came, core_acts, switch_path}
use Rattle.law_requests_act_once.specs.channel.Replies.{Talk}
use Rattle.law_requests_act_once.specs.channel.Moves.{Net, sent_by}
use Rattle.law_requests_act_once.specs.channel_rows.IsPlayed.{ReadsWell, IsPlayed, WasSent}
use Rattle.law_requests_act_once.proofs.channel_rows.Requests.{Replies, replies_here, request_made, drops_made}

module _ {M C P : Type 0} (talk : Talk M C P) where
  no_control_messages : (ue : UeId) (up : NodeId) (ts : List Tunnel) → sent_by Core (map (end_of talk.way ue up) ts) ≡ []
  no_control_messages ue up [] = refl
  no_control_messages ue up (t ∷ ts) = no_control_messages ue up ts

  no_ends : (ue : UeId) (p : Option CorePath) → sent_by Core (old_ends talk.way ue p) ≡ []
  no_ends ue None = refl
  no_ends ue (Some p) = no_control_messages ue p.up p.n3

  abbrev kept : CoreRecord M C → Transactions M C
  kept s = s.transactions

  asked_replies : (r : CoreRecord M C) (t : Transactions M C) (from : NodeId) (m : Message C) (ue i : ℕ) → kind_of m ≡ request ue i
      → Replies talk Core kept t (channel ue from) m i (asked talk.way (channel ue from) m (record r { transactions = t }))
  unfolding kind_of switch_path
  asked_replies r t from (core (cores.PathSwitchRequest owner instance peer n3)) ue i is =
      let a : owner.0 ≡ ue = cc in
      let b : instance ≡ i = cc in
      replies_here talk Core kept t (channel ue from) (core (cores.PathSwitchRequest owner instance peer n3)) i (core (cores.PathSwitchAcknowledge owner instance))
      (λ u. moved talk.way owner peer n3 (record r { transactions = u })) (λ j. reply (a j) (b j)) refl
      (λ u. (no_ends owner (find ue_cmp r.paths owner), refl))
  asked_replies r t from m ue i is = inl (refl, refl)

  pub core_made : ReadsWell talk → (net : Net M C) (r : CoreRecord M C) → net.nodes Core ≡ r.transactions
      → (from : NodeId) (m : Message C) → WasSent talk net from Core m → IsPlayed talk net Core kept (core_acts talk.way r from m)
  unfolding core_acts
  core_made reads net r at (CuCp gnb) m sent = by (kind_of m) refl
    where
      by : (k : Kind) → kind_of m ≡ k → IsPlayed talk net Core kept (came talk.way (CuCp gnb) m r k)
      by (request ue i) is =
          subst (λ (t : Transactions M C). IsPlayed talk net Core kept
          (on_request talk.way r t (channel ue (CuCp gnb)) i (λ u. asked talk.way (channel ue (CuCp gnb)) m (record r { transactions = u })))) at
          (request_made talk Core reads net (channel ue (CuCp gnb)) m i (sent.0, sent.1, reads.kinds m ∙ is) kept r
          (λ u. asked talk.way (channel ue (CuCp gnb)) m (record r { transactions = u })) at
          (asked_replies r _ (CuCp gnb) m ue i is))
      by (reply ue i) is = drops_made talk Core net kept r Unexpected at
      by (transfer ue) is = drops_made talk Core net kept r Unexpected at
  core_made reads net r at (CuUp gnb number) m sent = drops_made talk Core net kept r Unexpected at
  core_made reads net r at (Du gnb number) m sent = drops_made talk Core net kept r Unexpected at
  core_made reads net r at Core m sent = drops_made talk Core net kept r Unexpected at
  core_made reads net r at (Ue ue) m sent = drops_made talk Core net kept r Unexpected at
