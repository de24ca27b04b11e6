-- What comes of orders is exact on each channel.
use Rattle.std.proofs.Common.{◌≡◌, List, ap, subst}
use Rattle.message_types.specs.declared.rrc.Token.{Token}
use Rattle.unit_defs.specs.Ways.{Message}
use Rattle.unit_defs.specs.Transactions.{Transactions}
use Rattle.law_requests_act_once.specs.channel.Ends.{Route, at_initiator, at_responder, asking_at, answering_at, Ends, Sent, Put, Once}
use Rattle.law_requests_act_once.specs.channel.Moves.{Net, new_net, ends_of, Order, after}
use Rattle.law_requests_act_once.proofs.channel.Kept.{good_of}
use Rattle.law_requests_act_once.proofs.channel.Exactly.{descends, only_cancels, is_answered}
use Rattle.law_requests_act_once.specs.run_channels.Reached.{PlainControl, run_talk, sent_of, ComesOf, ends_in, AreExact}

module _ (k : PlainControl) (orders : List (Order run_talk)) (comes : ComesOf k orders) where
  abbrev net : Net (Message Token) Token
  net = after run_talk new_net orders

  ends_are : (r : Route) → ends_of net r ≡ ends_in k net.acts r
  ends_are r = λ i. record {
    asking = ap (λ (t : Transactions (Message Token) Token). asking_at t (at_initiator r)) (comes.nodes r.from) i;
    answering = ap (λ (t : Transactions (Message Token) Token). answering_at t (at_responder r)) (comes.nodes r.to) i;
    acts = net.acts r;
    expired = comes.none r.from (at_initiator r) i;
  }

  once_of : (r : Route) → Once run_talk (ends_in k net.acts r) (Put run_talk (sent_of k) r)
  once_of r =
      subst (λ (s : Ends (Message Token) Token). Once run_talk s (Put run_talk (sent_of k) r)) (ends_are r)
      (subst (λ (b : List (Sent (Message Token))). Once run_talk (ends_of net r) (Put run_talk b r)) comes.bag ((good_of run_talk orders comes.may).channels r))

  pub exact_of : AreExact k
  exact_of = record {
    acts = net.acts;
    once = once_of;
    in_order = λ r. descends run_talk (Put run_talk (sent_of k) r) (net.acts r) (once_of r).acts;
    only_cancels = λ r i x put past. only_cancels run_talk (once_of r) i x put past;
    answered = λ r o y is put. is_answered run_talk (once_of r) o y is put;
  }
