-- What holds of all channels, and that each kind of move keeps it.
use Rattle.std.proofs.Common.{inl, inr, ◌≡◌, ◌⊎◌, Bool, true, false, cond, ◌&&◌, ◌||◌, List, [], ◌∷◌, ◌++◌, Option, Some, None, refl, sym, ap, ◌∙◌, subst}
use Rattle.std.specs.Prelude.{if◌then◌else◌, ◌==◌, map, unwrap_or}
use Rattle.std.specs.Map.{lookup}
use Rattle.std.specs.BTreeMap.{is_at}
use Rattle.std.specs.List.{AllByRecursion}
use Rattle.gnb_types.specs.declared.names.NodeId.{NodeId}
use Rattle.gnb_types.specs.declared.names.UeId.{UeId}
use Rattle.gnb_types.specs.declared.keys.Channel.{Channel}
use Rattle.gnb_types.specs.Orders.{channel_cmp}
use Rattle.tables.specs.Tables.{at, find, IsSorted}
use Rattle.transaction_defs.specs.Callers.{Opened, Caller, opened_at, after_tick, is_last, one_less}
use Rattle.transaction_defs.specs.Callees.{kept_at, Callee}
use Rattle.unit_defs.specs.Transactions.{Waiting, Transactions, waits_at}
use Rattle.unit_defs.specs.CuCpRecords.{forgotten, unawaited, not_awaited}
use Rattle.law_requests_act_once.specs.channel.Replies.{Talk}
use Rattle.law_requests_act_once.specs.channel.Ends.{Route, at_initiator, at_responder, same_node, Asking, asking_at, Answering, answering_at, answering_in, Act, Ends, Sent, Put, Once}
use Rattle.law_requests_act_once.specs.channel.Moves.{Net, ends_of, asked_by, answered_by, with_node, expires_now, IsRequest}
use Rattle.law_requests_act_once.proofs.channel.Keys.{node_told, channel_apart, route_cases, with_node_here, with_node_kept, with_node_but}
use Rattle.law_requests_act_once.proofs.channel.Steps.{Grows, once_same, once_waiting, once_aged, once_expired}
use Rattle.law_requests_act_once.proofs.channel.Projections.{Asks, Tells}
use Rattle.law_requests_act_once.proofs.channel.Ticks.{aged_in, opened_after_tick, sorted_after_tick}

-- requests stay requests where no attempt awaits them any more
all_forgotten : {M C P : Type 0} (talk : Talk M C P) (ue : UeId) (c : Channel) (m : List (Channel × List (Waiting C)))
    → AllByRecursion (IsRequest talk c.ue) (unwrap_or (lookup (is_at (channel_cmp c)) m) [])
    → AllByRecursion (IsRequest talk c.ue) (unwrap_or (lookup (is_at (channel_cmp c)) (map (unawaited talk.way ue) m)) [])
all_forgotten talk ue c [] all = all
all_forgotten {C = C} talk ue c (e ∷ es) all = by (e.0.ue == ue.0) (is_at (channel_cmp c) e.0) refl all (all_forgotten talk ue c es)
  where
    each : (ws : List (Waiting C)) → AllByRecursion (IsRequest talk c.ue) ws → AllByRecursion (IsRequest talk c.ue) (map (not_awaited talk.way) ws)
    each [] all = tt
    each (w ∷ ws) all = (all.0, each ws all.1)

    by : (own here : Bool) → is_at (channel_cmp c) e.0 ≡ here
        → AllByRecursion (IsRequest talk c.ue) (unwrap_or (cond here (Some e.1) (lookup (is_at (channel_cmp c)) es)) [])
        → (AllByRecursion (IsRequest talk c.ue) (unwrap_or (lookup (is_at (channel_cmp c)) es) [])
        → AllByRecursion (IsRequest talk c.ue) (unwrap_or (lookup (is_at (channel_cmp c)) (map (unawaited talk.way ue) es)) []))
        → AllByRecursion (IsRequest talk c.ue) (unwrap_or (lookup (is_at (channel_cmp c))
        (cond own (e.0, map (not_awaited talk.way) e.1) e ∷ map (unawaited talk.way ue) es)) [])
    by true true is all rest = subst (λ (b : Bool). AllByRecursion (IsRequest talk c.ue) (unwrap_or (cond b (Some (map (not_awaited talk.way) e.1))
        (lookup (is_at (channel_cmp c)) (map (unawaited talk.way ue) es))) [])) (sym is) (each e.1 all)
    by true false is all rest = subst (λ (b : Bool). AllByRecursion (IsRequest talk c.ue) (unwrap_or (cond b (Some (map (not_awaited talk.way) e.1))
        (lookup (is_at (channel_cmp c)) (map (unawaited talk.way ue) es))) [])) (sym is) (rest all)
    by false true is all rest = subst (λ (b : Bool). AllByRecursion (IsRequest talk c.ue) (unwrap_or (cond b (Some e.1)
        (lookup (is_at (channel_cmp c)) (map (unawaited talk.way ue) es))) [])) (sym is) all
    by false false is all rest = subst (λ (b : Bool). AllByRecursion (IsRequest talk c.ue) (unwrap_or (cond b (Some e.1)
        (lookup (is_at (channel_cmp c)) (map (unawaited talk.way ue) es))) [])) (sym is) (rest all)

module _ {M C P : Type 0} (talk : Talk M C P) where
  pub record Good (net : Net M C) : Type 0 where
    pub channels : (r : Route) → Once talk (ends_of net r) (Put talk net.bag r)
    pub waits : (r : Route) → AllByRecursion (IsRequest talk r.ue) (asking_at (net.nodes r.from) (at_initiator r)).waits
    pub sorted : (n : NodeId) → IsSorted channel_cmp (net.nodes n).caller.opened

  module _ {net : Net M C} (good : Good net) (n : NodeId) where
    -- ---- what a node asks changes at one key

    module _ {u : Transactions M C} {c : Channel} {a : Asking M C} (asks : Asks (net.nodes n) u c a) where
      answers_same : (m : NodeId) (k : Channel) → answering_at (with_node net.nodes n u m) k ≡ answering_at (net.nodes m) k
      answers_same m k =
          with_node_kept net.nodes n u (λ (t : Transactions M C). answering_at t k)
          (ap (λ (e : Callee M). answering_in (kept_at e k)) asks.callee) m

      asks_here : asking_at (with_node net.nodes n u n) c ≡ a
      asks_here = ap (λ (t : Transactions M C). asking_at t c) (with_node_here net.nodes n u) ∙ asks.here

      asks_elsewhere : (r : Route) → (r ≡ asked_by n c → ⊥)
          → asking_at (with_node net.nodes n u r.from) (at_initiator r) ≡ asking_at (net.nodes r.from) (at_initiator r)
      asks_elsewhere r other =
          with_node_but net.nodes n u (λ (t : Transactions M C). asking_at t (at_initiator r)) r.from
          (λ here. asks.apart (at_initiator r) (channel_apart (at_initiator r) c
          (λ key. other (λ i. record { from = here i; to = (key i).peer; ue = (key i).ue }))))

      pub good_asking : (out : List (Sent M)) (late : Route → Bool)
          → Once talk (record (ends_of net (asked_by n c)) { asking = a; expired = late (asked_by n c) }) (Put talk (net.bag ++ out) (asked_by n c))
          → AllByRecursion (IsRequest talk c.ue) a.waits
          → ((r : Route) → (r ≡ asked_by n c → ⊥) → Grows (Put talk net.bag r) None (Put talk (net.bag ++ out) r))
          → ((r : Route) → (r ≡ asked_by n c → ⊥) → late r ≡ net.expired r)
          → Good (record { nodes = with_node net.nodes n u; bag = net.bag ++ out; acts = net.acts; expired = late })
      good_asking out late once waits grows lates = record {
        channels = λ r. channel r (route_cases r (asked_by n c));
        waits = λ r. wait r (route_cases r (asked_by n c));
        sorted = λ m. sort m;
      }
        where
          after : Net M C
          after = record { nodes = with_node net.nodes n u; bag = net.bag ++ out; acts = net.acts; expired = late }

          channel : (r : Route) → (r ≡ asked_by n c) ⊎ (r ≡ asked_by n c → ⊥)
              → Once talk (ends_of (record { nodes = with_node net.nodes n u; bag = net.bag ++ out; acts = net.acts; expired = late }) r) (Put talk (net.bag ++ out) r)
          channel r (inl same) =
              subst (λ (q : Route). Once talk (ends_of (record { nodes = with_node net.nodes n u; bag = net.bag ++ out; acts = net.acts; expired = late }) q)
              (Put talk (net.bag ++ out) q)) (sym same)
              (subst (λ (s : Ends M C). Once talk s (Put talk (net.bag ++ out) (asked_by n c)))
              (λ i. record {
                asking = sym asks_here i;
                answering = sym (answers_same c.peer (at_responder (asked_by n c))) i;
                acts = net.acts (asked_by n c);
                expired = late (asked_by n c);
              }) once)
          channel r (inr other) =
              subst (λ (s : Ends M C). Once talk s (Put talk (net.bag ++ out) r))
              (λ i. record {
                asking = sym (asks_elsewhere r other) i;
                answering = sym (answers_same r.to (at_responder r)) i;
                acts = net.acts r;
                expired = sym (lates r other) i;
              })
              (once_same talk (grows r other) (good.channels r))

          wait : (r : Route) → (r ≡ asked_by n c) ⊎ (r ≡ asked_by n c → ⊥)
              → AllByRecursion (IsRequest talk r.ue) (asking_at (with_node net.nodes n u r.from) (at_initiator r)).waits
          wait r (inl same) =
              subst (λ (q : Route). AllByRecursion (IsRequest talk q.ue) (asking_at (with_node net.nodes n u q.from) (at_initiator q)).waits) (sym same)
              (subst (λ (b : Asking M C). AllByRecursion (IsRequest talk c.ue) b.waits) (sym asks_here) waits)
          wait r (inr other) =
              subst (λ (b : Asking M C). AllByRecursion (IsRequest talk r.ue) b.waits) (sym (asks_elsewhere r other)) (good.waits r)

          sort : (m : NodeId) → IsSorted channel_cmp (with_node net.nodes n u m).caller.opened
          sort m = by (same_node m n)
            where
              by : (t : Bool) → IsSorted channel_cmp (cond t u (net.nodes m)).caller.opened
              by true = asks.sorted (good.sorted n)
              by false = good.sorted m

    -- ---- what a node answers changes at one key

    module _ {u : Transactions M C} {c : Channel} {b : Answering M} (tells : Tells (net.nodes n) u c b) where
      asks_same : (m : NodeId) (k : Channel) → asking_at (with_node net.nodes n u m) k ≡ asking_at (net.nodes m) k
      unfolding waits_at
      asks_same m k = with_node_kept net.nodes n u (λ (t : Transactions M C). asking_at t k) same m
        where
          same : asking_at u k ≡ asking_at (net.nodes n) k
          same = λ i. record {
            last = at channel_cmp 0 (tells.caller i).last k;
            opened = opened_at (tells.caller i) k;
            waits = at channel_cmp [] (tells.waiting i) k;
          }

      tells_here : answering_at (with_node net.nodes n u n) c ≡ b
      tells_here = ap (λ (t : Transactions M C). answering_at t c) (with_node_here net.nodes n u) ∙ tells.here

      tells_elsewhere : (r : Route) → (r ≡ answered_by n c → ⊥)
          → answering_at (with_node net.nodes n u r.to) (at_responder r) ≡ answering_at (net.nodes r.to) (at_responder r)
      tells_elsewhere r other =
          with_node_but net.nodes n u (λ (t : Transactions M C). answering_at t (at_responder r)) r.to
          (λ here. tells.apart (at_responder r) (channel_apart (at_responder r) c
          (λ key. other (λ i. record { from = (key i).peer; to = here i; ue = (key i).ue }))))

      pub good_telling : (out : List (Sent M)) (acts : Route → List (Act M))
          → Once talk (record (ends_of net (answered_by n c)) { answering = b; acts = acts (answered_by n c) }) (Put talk (net.bag ++ out) (answered_by n c))
          → ((r : Route) → (r ≡ answered_by n c → ⊥) → Grows (Put talk net.bag r) None (Put talk (net.bag ++ out) r))
          → ((r : Route) → (r ≡ answered_by n c → ⊥) → acts r ≡ net.acts r)
          → Good (record { nodes = with_node net.nodes n u; bag = net.bag ++ out; acts = acts; expired = net.expired })
      good_telling out acts once grows same = record {
        channels = λ r. channel r (route_cases r (answered_by n c));
        waits = λ r. subst (λ (a : Asking M C). AllByRecursion (IsRequest talk r.ue) a.waits) (sym (asks_same r.from (at_initiator r))) (good.waits r);
        sorted = sort;
      }
        where
          channel : (r : Route) → (r ≡ answered_by n c) ⊎ (r ≡ answered_by n c → ⊥)
              → Once talk (ends_of (record { nodes = with_node net.nodes n u; bag = net.bag ++ out; acts = acts; expired = net.expired }) r) (Put talk (net.bag ++ out) r)
          channel r (inl is) =
              subst (λ (q : Route). Once talk (ends_of (record { nodes = with_node net.nodes n u; bag = net.bag ++ out; acts = acts; expired = net.expired }) q)
              (Put talk (net.bag ++ out) q)) (sym is)
              (subst (λ (s : Ends M C). Once talk s (Put talk (net.bag ++ out) (answered_by n c)))
              (λ i. record {
                asking = sym (asks_same c.peer (at_initiator (answered_by n c))) i;
                answering = sym tells_here i;
                acts = acts (answered_by n c);
                expired = net.expired (answered_by n c);
              }) once)
          channel r (inr other) =
              subst (λ (s : Ends M C). Once talk s (Put talk (net.bag ++ out) r))
              (λ i. record {
                asking = sym (asks_same r.from (at_initiator r)) i;
                answering = sym (tells_elsewhere r other) i;
                acts = sym (same r other) i;
                expired = net.expired r;
              })
              (once_same talk (grows r other) (good.channels r))

          sort : (m : NodeId) → IsSorted channel_cmp (with_node net.nodes n u m).caller.opened
          sort m = by (same_node m n)
            where
              by : (t : Bool) → IsSorted channel_cmp (cond t u (net.nodes m)).caller.opened
              by true = subst (λ (r : Caller M). IsSorted channel_cmp r.opened) (sym tells.caller) (good.sorted n)
              by false = good.sorted m

    -- ---- a tick

    abbrev pub ticked : Transactions M C
    ticked = record (net.nodes n) { caller = after_tick (net.nodes n).caller }

    abbrev pub late_after_tick : Route → Bool
    late_after_tick r = (same_node r.from n && expires_now (opened_at (net.nodes n).caller (at_initiator r))) || net.expired r

    tick_once : (r : Route) (o : Option (Opened M)) → opened_at (net.nodes r.from).caller (at_initiator r) ≡ o
        → Once talk (record (ends_of net r) {
          asking = record (asking_at (net.nodes r.from) (at_initiator r)) { opened = aged_in o };
          expired = expires_now o || net.expired r;
        }) (Put talk net.bag r)
    tick_once r None is =
        subst (λ (q : Option (Opened M)). Once talk (record (ends_of net r) { asking = record (asking_at (net.nodes r.from) (at_initiator r)) { opened = q } })
        (Put talk net.bag r)) is (good.channels r)
    tick_once r (Some o) is = by (is_last o.deadline)
      where
        by : (last : Bool) → Once talk (record (ends_of net r) {
          asking = record (asking_at (net.nodes r.from) (at_initiator r)) {
            opened = if last then None else Some (record o { deadline = one_less o.deadline });
          };
          expired = last || net.expired r;
        }) (Put talk net.bag r)
        by true = once_expired talk (good.channels r)
        by false = once_aged talk (good.channels r) o (one_less o.deadline) is

    asking_ticked : (k : Channel) → asking_at ticked k ≡ record (asking_at (net.nodes n) k) { opened = aged_in (opened_at (net.nodes n).caller k) }
    unfolding after_tick waits_at
    asking_ticked k = λ i. record (asking_at (net.nodes n) k) { opened = opened_after_tick (net.nodes n).caller k (good.sorted n) i }

    pub good_ticking : Good (record { nodes = with_node net.nodes n ticked; bag = net.bag; acts = net.acts; expired = late_after_tick })
    unfolding waits_at
    good_ticking = record { channels = λ r. channel r; waits = wait; sorted = sort }
      where
        answers : (r : Route) → answering_at (with_node net.nodes n ticked r.to) (at_responder r) ≡ answering_at (net.nodes r.to) (at_responder r)
        answers r = with_node_kept net.nodes n ticked (λ (t : Transactions M C). answering_at t (at_responder r)) refl r.to

        channel : (r : Route) → Once talk (ends_of (record { nodes = with_node net.nodes n ticked; bag = net.bag; acts = net.acts; expired = late_after_tick }) r)
            (Put talk net.bag r)
        channel r = by (same_node r.from n) refl
          where
            by : (here : Bool) → same_node r.from n ≡ here
                → Once talk (record {
                  asking = asking_at (cond here ticked (net.nodes r.from)) (at_initiator r);
                  answering = answering_at (with_node net.nodes n ticked r.to) (at_responder r);
                  acts = net.acts r;
                  expired = (here && expires_now (opened_at (net.nodes n).caller (at_initiator r))) || net.expired r;
                }) (Put talk net.bag r)
            by true is =
                let h : n ≡ r.from = sym (node_told r.from n is) in
                subst (λ (s : Ends M C). Once talk s (Put talk net.bag r))
                (λ i. record {
                  asking = sym (asking_ticked (at_initiator r)
                      ∙ ap (λ (m : NodeId). record (asking_at (net.nodes m) (at_initiator r)) { opened = aged_in (opened_at (net.nodes m).caller (at_initiator r)) }) h) i;
                  answering = sym (answers r) i;
                  acts = net.acts r;
                  expired = sym (ap (λ (m : NodeId). expires_now (opened_at (net.nodes m).caller (at_initiator r)) || net.expired r) h) i;
                })
                (tick_once r (opened_at (net.nodes r.from).caller (at_initiator r)) refl)
            by false is =
                subst (λ (s : Ends M C). Once talk s (Put talk net.bag r))
                (λ i. record (ends_of net r) { answering = sym (answers r) i })
                (good.channels r)

        wait : (r : Route) → AllByRecursion (IsRequest talk r.ue) (asking_at (with_node net.nodes n ticked r.from) (at_initiator r)).waits
        wait r =
            subst (λ (ws : List (Waiting C)). AllByRecursion (IsRequest talk r.ue) ws)
            (sym (with_node_kept net.nodes n ticked (λ (t : Transactions M C). waits_at t (at_initiator r)) refl r.from)) (good.waits r)

        sort : (m : NodeId) → IsSorted channel_cmp (with_node net.nodes n ticked m).caller.opened
        sort m = by (same_node m n)
          where
            by : (t : Bool) → IsSorted channel_cmp (cond t ticked (net.nodes m)).caller.opened
            by true = sorted_after_tick (net.nodes n).caller (good.sorted n)
            by false = good.sorted m

    -- ---- no attempt awaits what waits of a terminal's requests any more

    abbrev pub forgot : UeId → Transactions M C
    forgot ue = forgotten talk.way ue (net.nodes n)

    pub good_forgetting : (ue : UeId) → Good (record { nodes = with_node net.nodes n (forgot ue); bag = net.bag; acts = net.acts; expired = net.expired })
    unfolding waits_at at find
    good_forgetting ue = record { channels = λ r. channel r; waits = λ r. wait r; sorted = λ m. sort m }
      where
        answers : (r : Route) → answering_at (with_node net.nodes n (forgot ue) r.to) (at_responder r) ≡ answering_at (net.nodes r.to) (at_responder r)
        answers r = with_node_kept net.nodes n (forgot ue) (λ (t : Transactions M C). answering_at t (at_responder r)) refl r.to

        channel : (r : Route) → Once talk (ends_of (record { nodes = with_node net.nodes n (forgot ue); bag = net.bag; acts = net.acts; expired = net.expired }) r)
            (Put talk net.bag r)
        channel r = subst (λ (s : Ends M C). Once talk s (Put talk net.bag r))
            (λ i. record {
              asking = record {
                last = sym (lasts r) i;
                opened = sym (opens r) i;
                waits = waits_at (with_node net.nodes n (forgot ue) r.from) (at_initiator r);
              };
              answering = sym (answers r) i;
              acts = net.acts r;
              expired = net.expired r;
            })
            (once_waiting talk (good.channels r) (waits_at (with_node net.nodes n (forgot ue) r.from) (at_initiator r)))
          where
            lasts : (r : Route) → at channel_cmp 0 (with_node net.nodes n (forgot ue) r.from).caller.last (at_initiator r)
                ≡ at channel_cmp 0 (net.nodes r.from).caller.last (at_initiator r)
            lasts r = with_node_kept net.nodes n (forgot ue) (λ (t : Transactions M C). at channel_cmp 0 t.caller.last (at_initiator r)) refl r.from

            opens : (r : Route) → opened_at (with_node net.nodes n (forgot ue) r.from).caller (at_initiator r)
                ≡ opened_at (net.nodes r.from).caller (at_initiator r)
            opens r = with_node_kept net.nodes n (forgot ue) (λ (t : Transactions M C). opened_at t.caller (at_initiator r)) refl r.from

        wait : (r : Route) → AllByRecursion (IsRequest talk r.ue) (asking_at (with_node net.nodes n (forgot ue) r.from) (at_initiator r)).waits
        wait r = by (same_node r.from n) refl
          where
            by : (here : Bool) → same_node r.from n ≡ here
                → AllByRecursion (IsRequest talk r.ue) (waits_at (cond here (forgot ue) (net.nodes r.from)) (at_initiator r))
            by true is =
                let h : r.from ≡ n = node_told r.from n is in
                all_forgotten talk ue (at_initiator r) (net.nodes n).waiting
                (subst (λ (m : NodeId). AllByRecursion (IsRequest talk r.ue) (waits_at (net.nodes m) (at_initiator r))) h (good.waits r))
            by false is = good.waits r

        sort : (m : NodeId) → IsSorted channel_cmp (with_node net.nodes n (forgot ue) m).caller.opened
        sort m = by (same_node m n)
          where
            by : (t : Bool) → IsSorted channel_cmp (cond t (forgot ue) (net.nodes m)).caller.opened
            by true = good.sorted n
            by false = good.sorted m
