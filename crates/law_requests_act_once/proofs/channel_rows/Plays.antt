-- Lists of moves: none, one, and one list after another.
use Rattle.std.proofs.Common.{◌≡◌, Bool, cond, List, [], ◌∷◌, ◌++◌, refl, sym, ap, ◌∙◌, append_assoc}
use Rattle.std.proofs.lemmas.List.{append-nil}
use Rattle.gnb_types.specs.declared.names.NodeId.{NodeId}
use Rattle.unit_defs.specs.Ways.{Output, Answer, gives}
use Rattle.unit_defs.specs.Transactions.{Transactions}
use Rattle.law_requests_act_once.specs.channel.Replies.{Talk}
use Rattle.law_requests_act_once.specs.channel.Ends.{Sent}
use Rattle.law_requests_act_once.specs.channel.Moves.{Move, Net, sent_by, moved, after_answer, after_move, May, after, MayAll}
use Rattle.law_requests_act_once.proofs.channel.Keys.{node_same}
use Rattle.law_requests_act_once.proofs.channel.Kept.{good_after}
use Rattle.law_requests_act_once.proofs.channel.Nets.{Good}
use Rattle.law_requests_act_once.specs.channel_rows.IsPlayed.{orders_of, Plays}

module _ {M C P : Type 0} (talk : Talk M C P) where
  pub plays_none : (net : Net M C) (n : NodeId) → Plays talk net n (net.nodes n) [] []
  plays_none net n = record { may = tt; node = refl; others = λ m other. refl; bag = sym (append-nil net.bag) }

  pub plays_one : (net : Net M C) (n : NodeId) (m : Move M C) → May talk net n m → (os : List (Output M P)) (t : Transactions M C)
      → moved talk (net.nodes n) m ≡ gives os t → Plays talk net n t (sent_by n os) (m ∷ [])
  plays_one net n m may os t is = record {
    may = (may, tt);
    node = ap (λ (a : Answer M P (Transactions M C)). (after_answer talk net n m a).nodes n) is ∙ ap (λ (b : Bool). cond b t (net.nodes n)) (node_same n);
    others = λ q other. ap (λ (a : Answer M P (Transactions M C)). (after_answer talk net n m a).nodes q) is
        ∙ ap (λ (b : Bool). cond b t (net.nodes q)) other;
    bag = ap (λ (a : Answer M P (Transactions M C)). (after_answer talk net n m a).bag) is;
  }

  pub after_both : (net : Net M C) (n : NodeId) (ms ks : List (Move M C))
      → after talk net (orders_of talk n (ms ++ ks)) ≡ after talk (after talk net (orders_of talk n ms)) (orders_of talk n ks)
  after_both net n [] ks = refl
  after_both net n (m ∷ ms) ks = after_both (after_move talk net n m) n ms ks

  pub may_both : (net : Net M C) (n : NodeId) (ms ks : List (Move M C)) → MayAll talk net (orders_of talk n ms)
      → MayAll talk (after talk net (orders_of talk n ms)) (orders_of talk n ks) → MayAll talk net (orders_of talk n (ms ++ ks))
  may_both net n [] ks first second = second
  may_both net n (m ∷ ms) ks first second = (first.0, may_both (after_move talk net n m) n ms ks first.1 second)

  pub plays_then : (net : Net M C) (n : NodeId) (t u : Transactions M C) (out more : List (Sent M)) (ms ks : List (Move M C))
      → Plays talk net n t out ms → Plays talk (after talk net (orders_of talk n ms)) n u more ks → Plays talk net n u (out ++ more) (ms ++ ks)
  plays_then net n t u out more ms ks first second = record {
    may = may_both net n ms ks first.may second.may;
    node = ap (λ (x : Net M C). x.nodes n) (after_both net n ms ks) ∙ second.node;
    others = λ m other. ap (λ (x : Net M C). x.nodes m) (after_both net n ms ks) ∙ second.others m other ∙ first.others m other;
    bag = ap (λ (x : Net M C). x.bag) (after_both net n ms ks) ∙ second.bag ∙ ap (λ (b : List (Sent M)). b ++ more) first.bag ∙ append_assoc net.bag out more;
  }

  -- what holds of all channels holds after them
  pub good_moves : (net : Net M C) (n : NodeId) (ms : List (Move M C)) → Good talk net → MayAll talk net (orders_of talk n ms)
      → Good talk (after talk net (orders_of talk n ms))
  good_moves net n [] good may = good
  good_moves net n (m ∷ ms) good may = good_moves (after_move talk net n m) n ms (good_after talk good n m may.0) may.1
