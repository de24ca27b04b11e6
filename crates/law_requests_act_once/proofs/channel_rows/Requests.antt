-- A request that was put is given: it is taken, and then answered or not; or answered again; or dropped.
use Rattle.std.proofs.Common.{inl, inr, ◌≡◌, ◌⊎◌, ℕ, true, List, [], ◌∷◌, ◌++◌, Option, Some, None, refl, sym, ap, ◌∙◌, subst}
use Rattle.std.specs.Prelude.{if◌then◌else◌}
use Rattle.std.proofs.lemmas.List.Elements.{Contains-append_left}
use Rattle.gnb_types.specs.declared.names.NodeId.{NodeId}
use Rattle.gnb_types.specs.declared.keys.Channel.{Channel}
use Rattle.gnb_types.specs.declared.reasons.DropReason.{DropReason}
use Rattle.gnb_types.proofs.OrderLemmas.{channel_total}
use Rattle.tables.proofs.TableLaws.{find-put-same}
use Rattle.transaction_defs.specs.Callees.{Verdict, new, again, stale, verdict, newest, newest_in, kept_at, kept_reply, reply_in, taken, keep}
use Rattle.unit_defs.specs.Ways.{Message, Output, control, Answer, gives, spent, with_outputs, ◌then◌, puts, drops}
use Rattle.unit_defs.specs.Transactions.{reply, kind_of, Transactions, replied, answered_again, request_by, on_request}
use Rattle.law_requests_act_once.specs.channel.Replies.{Talk, answers}
use Rattle.law_requests_act_once.specs.channel.Ends.{asked, Sent, Put}
use Rattle.law_requests_act_once.specs.channel.Moves.{Move, takes, replies, replies_again, Net, answered_by, sent_by, moved, after, MayReply, May}
use Rattle.law_requests_act_once.specs.channel_rows.IsPlayed.{ReadsWell, orders_of, Plays, IsPlayed}
use Rattle.law_requests_act_once.proofs.channel_rows.Plays.{plays_none, plays_one, plays_then}

pub sent_both : {M P : Type 0} (n : NodeId) (a b : List (Output M P)) → sent_by n (a ++ b) ≡ sent_by n a ++ sent_by n b
sent_both n [] b = refl
sent_both n (control to ue x ∷ a) b = ap (λ (s : List (Sent _)). record { from = n; to = to; ue = ue; message = x } ∷ s) (sent_both n a b)
sent_both n (o ∷ a) b = sent_both n a b

module _ {M C P : Type 0} (talk : Talk M C P) (n : NodeId) where
  -- ---- what a row does to the requests and replies t

  -- nothing
  abbrev pub Leaves : {R : Type 0} → (R → Transactions M C) → Transactions M C → Answer M P R → Type 0
  Leaves kept t (gives os r) = (sent_by n os ≡ []) × (kept r ≡ t)
  Leaves kept t (spent k) = Unit {0}

  -- one reply, that is kept
  pub record Replied (t u : Transactions M C) (c : Channel) (m : Message C) (i : ℕ) (out : List (Sent M)) : Type 0 where
    pub message : Message C
    pub sent : out ≡ record { from = n; to = c.peer; ue = c.ue; message = talk.way.encode message } ∷ []
    pub kept : u ≡ record t { callee = keep t.callee c (talk.way.encode message) }
    pub is_reply : kind_of message ≡ reply c.ue i
    pub fits : answers m message ≡ true

  abbrev pub Replies : {R : Type 0} → (R → Transactions M C) → Transactions M C → Channel → Message C → ℕ → Answer M P R → Type 0
  Replies kept t c m i (gives os r) = ((sent_by n os ≡ []) × (kept r ≡ t)) ⊎ Replied t (kept r) c m i (sent_by n os)
  Replies kept t c m i (spent k) = Unit {0}

  module _ {R S : Type 0} (kept : R → Transactions M C) (also : S → Transactions M C) where
    pub leaves_then : (t : Transactions M C) (a : Answer M P R) (f : R → Answer M P S) → Leaves kept t a
        → ((r : R) → kept r ≡ t → Leaves also t (f r)) → Leaves also t (a then f)
    leaves_then t (gives os r) f first second = by (f r) (second r first.1)
      where
        by : (b : Answer M P S) → Leaves also t b → Leaves also t (with_outputs os b)
        by (gives more s) next = (sent_both n os more ∙ (λ i. first.0 i ++ next.0 i), next.1)
        by (spent k) next = tt
    leaves_then t (spent k) f first second = tt

    pub leaves_replies : (t : Transactions M C) (c : Channel) (m : Message C) (i : ℕ) (a : Answer M P R) (f : R → Answer M P S) → Leaves kept t a
        → ((r : R) → kept r ≡ t → Replies also t c m i (f r)) → Replies also t c m i (a then f)
    leaves_replies t c m i (gives os r) f first second = by (f r) (second r first.1)
      where
        by : (b : Answer M P S) → Replies also t c m i b → Replies also t c m i (with_outputs os b)
        by (gives more s) (inl next) = inl (sent_both n os more ∙ (λ i. first.0 i ++ next.0 i), next.1)
        by (gives more s) (inr next) = inr (record {
          message = next.message;
          sent = sent_both n os more ∙ ap (λ (x : List (Sent M)). x ++ sent_by n more) first.0 ∙ next.sent;
          kept = next.kept;
          is_reply = next.is_reply;
          fits = next.fits;
        })
        by (spent k) next = tt
    leaves_replies t c m i (spent k) f first second = tt

    pub replies_then : (t : Transactions M C) (c : Channel) (m : Message C) (i : ℕ) (a : Answer M P R) (f : R → Answer M P S) → Replies kept t c m i a
        → ((r : R) → Leaves also (kept r) (f r)) → Replies also t c m i (a then f)
    replies_then t c m i (gives os r) f first second = by (f r) first (second r)
      where
        by : (b : Answer M P S) → ((sent_by n os ≡ []) × (kept r ≡ t)) ⊎ Replied t (kept r) c m i (sent_by n os) → Leaves also (kept r) b
            → Replies also t c m i (with_outputs os b)
        by (gives more s) (inl before) next = inl (sent_both n os more ∙ (λ i. before.0 i ++ next.0 i), next.1 ∙ before.1)
        by (gives more s) (inr before) next = inr (record {
          message = before.message;
          sent = sent_both n os more ∙ (λ i. before.sent i ++ next.0 i);
          kept = next.1 ∙ before.kept;
          is_reply = before.is_reply;
          fits = before.fits;
        })
        by (spent k) first next = tt
    replies_then t c m i (spent k) f first second = tt

  -- a reply that answers the request m of this instance, and then what leaves the rest
  pub replies_here : {R : Type 0} (kept : R → Transactions M C) (t : Transactions M C) (c : Channel) (m : Message C) (i : ℕ) (answer : Message C)
      (f : Transactions M C → Answer M P R) → kind_of answer ≡ reply c.ue i → answers m answer ≡ true
      → ((u : Transactions M C) → Leaves kept u (f u)) → Replies kept t c m i (replied talk.way t c answer then f)
  unfolding replied
  replies_here kept t c m i answer f kind fits more =
      replies_then (λ u. u) kept t c m i (puts (control c.peer c.ue (talk.way.encode answer)) (record t { callee = keep t.callee c (talk.way.encode answer) })) f
      (inr (record { message = answer; sent = refl; kept = refl; is_reply = kind; fits = fits })) more

  -- ---- the request is given

  module _ (reads : ReadsWell talk) (net : Net M C) (c : Channel) (m : Message C) (i : ℕ)
      (put : Put talk net.bag (answered_by n c) (asked i (talk.way.encode m))) where
    abbrev pub here : Transactions M C
    here = net.nodes n

    abbrev pub after_take : Transactions M C
    after_take = record here { callee = taken here.callee c i }

    abbrev pub take_move : Move M C
    take_move = takes c i (talk.way.encode m)

    pub takes_plays : verdict here.callee c i ≡ new → Plays talk net n after_take [] (take_move ∷ [])
    takes_plays is = plays_one talk net n take_move (is, put) [] after_take refl

    newest_after : newest (taken here.callee c i) c ≡ Some i
    unfolding newest taken kept_at
    newest_after = ap newest_in (find-put-same channel_total here.callee c (record { instance = i; reply = None }))

    unanswered_after : kept_reply (taken here.callee c i) c ≡ None
    unfolding kept_reply taken kept_at
    unanswered_after = ap reply_in (find-put-same channel_total here.callee c (record { instance = i; reply = None }))

    abbrev pub taken_net : Net M C
    taken_net = after talk net (orders_of talk n (take_move ∷ []))

    pub may_answer : (is : verdict here.callee c i ≡ new) (answer : Message C) → kind_of answer ≡ reply c.ue i → answers m answer ≡ true
        → MayReply talk taken_net n c i (talk.way.encode answer)
    may_answer is answer kind fits =
        let p = takes_plays is in
        record {
          is_newest = ap (λ (t : Transactions M C). newest t.callee c) p.node ∙ newest_after;
          is_unanswered = ap (λ (t : Transactions M C). kept_reply t.callee c) p.node ∙ unanswered_after;
          is_reply = reads.kinds answer ∙ kind;
          request = talk.way.encode m;
          was_put = (
            put.0,
            Contains-append_left net.bag [] (record { from = c.peer; to = n; ue = put.0; message = talk.way.encode m }) put.1,
            put.2,
          );
          fits = reads.answers_are m answer ∙ fits;
        }

    may_reply : (is : verdict here.callee c i ≡ new) (answer : Message C) → kind_of answer ≡ reply c.ue i → answers m answer ≡ true
        → May talk taken_net n (replies c answer)
    may_reply is answer kind fits = (i, may_answer is answer kind fits)

    pub row_made : {R : Type 0} (kept : R → Transactions M C) (is : verdict here.callee c i ≡ new) (a : Answer M P R)
        → Replies kept after_take c m i a → IsPlayed talk net n kept a
    unfolding replied
    row_made kept is (gives os r) (inl none) = (
      take_move ∷ [],
      subst (λ (t : Transactions M C). Plays talk net n t (sent_by n os) (take_move ∷ [])) (sym none.1)
          (subst (λ (out : List (Sent M)). Plays talk net n after_take out (take_move ∷ [])) (sym none.0) (takes_plays is)),
      (tt, tt),
    )
    row_made kept is (gives os r) (inr one) =
        let p = takes_plays is in (
          take_move ∷ replies c one.message ∷ [],
          subst (λ (t : Transactions M C). Plays talk net n t (sent_by n os) (take_move ∷ replies c one.message ∷ [])) (sym one.kept)
              (subst (λ (out : List (Sent M)). Plays talk net n (record after_take { callee = keep after_take.callee c (talk.way.encode one.message) }) out
              (take_move ∷ replies c one.message ∷ [])) (sym one.sent)
              (plays_then talk net n after_take (record after_take { callee = keep after_take.callee c (talk.way.encode one.message) }) []
              (record { from = n; to = c.peer; ue = c.ue; message = talk.way.encode one.message } ∷ []) (take_move ∷ []) (replies c one.message ∷ []) p
              (plays_one talk taken_net n (replies c one.message) (may_reply is one.message one.is_reply one.fits)
              (control c.peer c.ue (talk.way.encode one.message) ∷ []) (record after_take { callee = keep after_take.callee c (talk.way.encode one.message) })
              (ap (λ (t : Transactions M C). moved talk t (replies c one.message)) p.node)))),
          (tt, (tt, tt)),
        )
    row_made kept is (spent k) made = tt

    again_made : {R : Type 0} (kept : R → Transactions M C) (same : R) → here ≡ kept same
        → IsPlayed talk net n kept (answered_again talk.way same c (kept_reply here.callee c))
    again_made kept same at = by (kept_reply here.callee c) refl
      where
        by : (k : Option M) → kept_reply here.callee c ≡ k → IsPlayed talk net n kept (answered_again talk.way same c k)
        by None is = ([], subst (λ (t : Transactions M C). Plays talk net n t [] []) at (plays_none talk net n), tt)
        by (Some y) is = (
          replies_again c ∷ [],
          subst (λ (t : Transactions M C). Plays talk net n t (record { from = n; to = c.peer; ue = c.ue; message = y } ∷ []) (replies_again c ∷ [])) at
              (plays_one talk net n (replies_again c) tt (control c.peer c.ue y ∷ []) here (ap (answered_again talk.way here c) is)),
          (tt, tt),
        )

    pub request_made : {R : Type 0} (kept : R → Transactions M C) (same : R) (row : Transactions M C → Answer M P R) → here ≡ kept same
        → Replies kept after_take c m i (row after_take) → IsPlayed talk net n kept (on_request talk.way same here c i row)
    unfolding on_request
    request_made kept same row at made = by (verdict here.callee c i) refl
      where
        by : (v : Verdict) → verdict here.callee c i ≡ v → IsPlayed talk net n kept (request_by talk.way same here c i row v)
        by new is = row_made kept is (row after_take) made
        by again is = again_made kept same at
        by stale is = ([], subst (λ (t : Transactions M C). Plays talk net n t [] []) at (plays_none talk net n), tt)

    -- the same, where the row's moves may be made after the request was taken
    pub request_taken : {R : Type 0} (kept : R → Transactions M C) (same : R) (row : Transactions M C → Answer M P R) → here ≡ kept same
        → (verdict here.callee c i ≡ new → IsPlayed talk net n kept (row after_take)) → IsPlayed talk net n kept (on_request talk.way same here c i row)
    unfolding on_request
    request_taken kept same row at made = by (verdict here.callee c i) refl
      where
        by : (v : Verdict) → verdict here.callee c i ≡ v → IsPlayed talk net n kept (request_by talk.way same here c i row v)
        by new is = made is
        by again is = again_made kept same at
        by stale is = ([], subst (λ (t : Transactions M C). Plays talk net n t [] []) at (plays_none talk net n), tt)

  -- nothing at all
  pub leaves_made : {R : Type 0} (net : Net M C) (kept : R → Transactions M C) (a : Answer M P R) → Leaves kept (net.nodes n) a → IsPlayed talk net n kept a
  leaves_made net kept (gives os r) none = (
    [],
    subst (λ (t : Transactions M C). Plays talk net n t (sent_by n os) []) (sym none.1)
        (subst (λ (out : List (Sent M)). Plays talk net n (net.nodes n) out []) (sym none.0) (plays_none talk net n)),
    tt,
  )
  leaves_made net kept (spent k) none = tt

  pub drops_made : {R : Type 0} (net : Net M C) (kept : R → Transactions M C) (r : R) (reason : DropReason) → net.nodes n ≡ kept r
      → IsPlayed talk net n kept (drops reason r)
  drops_made net kept r reason at = leaves_made net kept (drops reason r) (refl, sym at)
