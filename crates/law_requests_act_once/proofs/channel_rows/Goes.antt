-- A list of orders goes on with the moves of a step.
use Rattle.std.proofs.Common.{◌≡◌, List, [], ◌∷◌, ◌++◌, refl, ap, ◌∙◌}
use Rattle.gnb_types.specs.declared.names.NodeId.{NodeId}
use Rattle.unit_defs.specs.Ways.{Output}
use Rattle.unit_defs.specs.Transactions.{Transactions}
use Rattle.law_requests_act_once.specs.channel.Replies.{Talk}
use Rattle.law_requests_act_once.specs.channel.Moves.{Move, Net, new_net, asked_by, sent_by, after_move, Order, after, MayAll}
use Rattle.law_requests_act_once.specs.channel_rows.IsPlayed.{orders_of, Plays, NoneExpired, GoesOn}
use Rattle.law_requests_act_once.proofs.channel_rows.Tickless.{others_leave}

module _ {M C P : Type 0} (talk : Talk M C P) where
  after_more : (as' bs : List (Order talk)) (net : Net M C) → after talk net (as' ++ bs) ≡ after talk (after talk net as') bs
  after_more [] bs net = refl
  after_more (o ∷ os) bs net = after_more os bs (after_move talk net o.node o.move)

  may_more : (as' bs : List (Order talk)) (net : Net M C) → MayAll talk net as' → MayAll talk (after talk net as') bs → MayAll talk net (as' ++ bs)
  may_more [] bs net first second = second
  may_more (o ∷ os) bs net first second = (first.0, may_more os bs (after_move talk net o.node o.move) first.1 second)

  pub goes_on : (orders : List (Order talk)) → MayAll talk new_net orders → (n : NodeId) (t : Transactions M C) (os : List (Output M P))
      → (moves : List (Move M C)) → Plays talk (after talk new_net orders) n t (sent_by n os) moves
      → NoneExpired talk (after talk (after talk new_net orders) (orders_of talk n moves)) n → GoesOn talk orders n t (sent_by n os)
  goes_on orders may n t os moves plays none = record {
    more = orders_of talk n moves;
    may = may_more orders (orders_of talk n moves) new_net may plays.may;
    node = ap (λ (x : Net M C). x.nodes n) (after_more orders (orders_of talk n moves) new_net) ∙ plays.node;
    others = λ m other. ap (λ (x : Net M C). x.nodes m) (after_more orders (orders_of talk n moves) new_net) ∙ plays.others m other;
    bag = ap (λ (x : Net M C). x.bag) (after_more orders (orders_of talk n moves) new_net) ∙ plays.bag;
    none = λ c. ap (λ (x : Net M C). x.expired (asked_by n c)) (after_more orders (orders_of talk n moves) new_net) ∙ none c;
    as_before = λ m other c. ap (λ (x : Net M C). x.expired (asked_by m c)) (after_more orders (orders_of talk n moves) new_net)
        ∙ others_leave talk n m other c moves (after talk new_net orders);
  }
