-- What is due at a tick of a CU-CP: open requests again; and each that expires is cancelled, so that none is left expired.
use Rattle.std.proofs.Common.{inl, inr, ◌≡◌, ◌⊎◌, ℕ, Bool, true, false, cond, ◌&&◌, ◌||◌, List, [], ◌∷◌, ◌++◌, Option, Some, None, refl, sym, ap, ◌∙◌, subst, true≢false}
use Rattle.std.specs.Prelude.{if◌then◌else◌}
use Rattle.std.specs.List.{flat_map, AllByRecursion}
use Rattle.std.specs.Map.{lookup}
use Rattle.std.specs.BTreeMap.{is_at}
use Rattle.std.specs.Ordering.{eq_by_cmp}
use Rattle.std.specs.Cmp.{Equal-is}
use Rattle.gnb_types.specs.declared.names.Gnb.{Gnb}
use Rattle.gnb_types.specs.declared.names.NodeId.{NodeId}
use Rattle.gnb_types.specs.declared.names.NodeId.TheVariants.{CuCp}
use Rattle.gnb_types.specs.declared.names.UeId.{UeId}
use Rattle.gnb_types.specs.declared.keys.Channel.{Channel}
use Rattle.gnb_types.specs.declared.reasons.CauseName.TheVariants.{Timeout}
use Rattle.gnb_types.specs.Orders.{ue_cmp, channel_cmp}
use Rattle.gnb_types.proofs.OrderLemmas.{ue_total, channel_exact}
use Rattle.message_types.specs.declared.xn.XnMessage.TheVariants as xns
use Rattle.tables.specs.Tables.{find}
use Rattle.tables.proofs.TableLaws.{find-put}
use Rattle.transaction_defs.specs.Callers.{Opened, opened_at, Due, repeats as due_again, expires, due, due_of, repeated, is_last}
use Rattle.unit_defs.specs.Ways.{Output, xn, control, Answer, gives, spent, with_outputs, ◌then◌, nothing}
use Rattle.unit_defs.specs.Messages.{channel, other_gnb}
use Rattle.unit_defs.specs.Transactions.{Waiting, Transactions, Asked, no_instance, ask_at_once}
use Rattle.unit_defs.specs.CuCpRecords.{Attempt, CuCpContext, CuCpTerminal, CuCpRecord, terminal_in, terminal_of, with_terminal, with_attempt, on_context, serving, waiting_of, after_begun, after_asked, fails, act_one, act_all, carry_out}
use Rattle.unit_defs.proofs.Terminals.{kept_so}
use Rattle.unit_defs.specs.CuCpRows.{other_cu_cp, handover_expires}
use Rattle.unit_defs.specs.CuCp.{at_of, expired_on, due_one, due_each}
use Rattle.law_requests_act_once.specs.channel.Replies.{Talk}
use Rattle.law_requests_act_once.specs.channel.Ends.{Sent, same_node}
use Rattle.law_requests_act_once.specs.channel.Moves.{Move, asks_at_once, ages, repeats, Net, asked_by, sent_by, expires_now, after_answer, after_move, after}
use Rattle.law_requests_act_once.proofs.channel.Keys.{node_same, with_route_here}
use Rattle.law_requests_act_once.specs.channel_rows.IsPlayed.{ReadsWell, orders_of, Plays, IsPlayedWhole, NoneExpired}
use Rattle.law_requests_act_once.specs.channel_rows.Assumed.{Cancels}
use Rattle.law_requests_act_once.specs.channel_rows.Rows.{RowPlays}
use Rattle.law_requests_act_once.proofs.channel_rows.Plays.{plays_none, plays_one, plays_then, after_both}
use Rattle.law_requests_act_once.proofs.channel_rows.Requests.{sent_both}
use Rattle.law_requests_act_once.proofs.channel_rows.Tickless.{shrinks}
use Rattle.law_requests_act_once.proofs.channel_rows.Says.{kept, row_says}
use Rattle.law_requests_act_once.proofs.channel_rows.Ticks.{AreFound, AllDue, still_due}
use Rattle.law_requests_act_once.proofs.channel_rows.CpRows.{expires_fine}

-- ---- terminals that have a context

module _ {M C : Type 0} where
  abbrev pub HasContext : CuCpRecord M C → UeId → Type 0
  HasContext r ue = (x : CuCpContext) × ((terminal_of r ue).context ≡ Some x)

  put_has : (r : CuCpRecord M C) (ue : UeId) (t : CuCpTerminal) → ((x : CuCpContext) × (t.context ≡ Some x)) → (v : UeId) → HasContext r v
      → HasContext (with_terminal ue r t) v
  put_has r ue t has v was =
      kept_so (λ (es : List (UeId × CuCpTerminal)). (x : CuCpContext) × ((terminal_in (find ue_cmp es v)).context ≡ Some x)) r.terminals ue t (λ blank none. was)
      (subst (λ (o : Option CuCpTerminal). (x : CuCpContext) × ((terminal_in o).context ≡ Some x)) (sym (find-put ue_total r.terminals ue t v))
      (by (eq_by_cmp ue_cmp v ue)))
    where
      by : (b : Bool) → (x : CuCpContext) × ((terminal_in (cond b (Some t) (find ue_cmp r.terminals v))).context ≡ Some x)
      by true = has
      by false = was

  attempt_has : (r : CuCpRecord M C) (ue : UeId) (f : Attempt → Attempt) → HasContext r ue → (v : UeId) → HasContext r v → HasContext (with_attempt ue f r) v
  attempt_has r ue f has v was = put_has r ue (record (terminal_of r ue) { context = on_context f (terminal_of r ue).context }) (_, ap (on_context f) has.1) v was

  -- what expires can be cancelled
  abbrev pub MayCancel : CuCpRecord M C → Due M → Type 0
  MayCancel r (due_again c x) = Unit {0}
  MayCancel r (expires c) = (c.peer ≡ CuCp (other_gnb r.gnb)) × HasContext r (record { 0 = c.ue })

  still_may : (r q : CuCpRecord M C) → q.gnb ≡ r.gnb → ((v : UeId) → HasContext r v → HasContext q v) → (ds : List (Due M))
      → AllByRecursion (MayCancel r) ds → AllByRecursion (MayCancel q) ds
  still_may r q same has [] may = tt
  still_may r q same has (due_again c x ∷ ds) may = (tt, still_may r q same has ds may.1)
  still_may r q same has (expires c ∷ ds) may =
      ((may.0.0 ∙ ap (λ (g : Gnb). CuCp (other_gnb g)) (sym same), has (record { 0 = c.ue }) may.0.1), still_may r q same has ds may.1)

-- ---- what expires is among what is due

abbrev pub IsIn : {M : Type 0} → Channel → List (Due M) → Type 0
IsIn c [] = ⊥
IsIn c (d ∷ ds) = (d ≡ expires c) ⊎ IsIn c ds

module _ {M : Type 0} where
  in_more : (c : Channel) (xs ds : List (Due M)) → IsIn c ds → IsIn c (xs ++ ds)
  in_more c [] ds is = is
  in_more c (x ∷ xs) ds is = inr (in_more c xs ds is)

  in_due : (es : List (Channel × Opened M)) (c : Channel) (o : Opened M) → find channel_cmp es c ≡ Some o → is_last o.deadline ≡ true
      → IsIn c (flat_map due_of es)
  unfolding find
  in_due [] c o is last = absurd cc
  in_due (e ∷ es) c o is last = by (λ found. in_due es c o found last) (is_at (channel_cmp c) e.0) refl is
    where
      by : (find channel_cmp es c ≡ Some o → IsIn c (flat_map due_of es)) → (b : Bool) → is_at (channel_cmp c) e.0 ≡ b
          → cond b (Some e.1) (lookup (is_at (channel_cmp c)) es) ≡ Some o → IsIn c (flat_map due_of (e ∷ es))
      by later true here same =
          let own : e.1 ≡ o = cc in
          let key : c ≡ e.0 = channel_exact c e.0 ((Equal-is (channel_cmp c e.0)).0 here) in
          subst (λ (b : Bool). IsIn c ((if b then expires e.0 ∷ [] else repeated e.0 e.1.request) ++ flat_map due_of es))
          (sym (ap (λ (x : Opened M). is_last x.deadline) own ∙ last)) (inl (ap (λ (k : Channel). expires k) (sym key)))
      by later false here same = in_more c (due_of e) (flat_map due_of es) (later same)

module _ {M C : Type 0} (r q : CuCpRecord M C) (cancels : Cancels r) (same : q.gnb ≡ r.gnb) (has : (v : UeId) → HasContext r v → HasContext q v) where
  one_may : (c : Channel) (o : Opened M) → opened_at r.transactions.caller c ≡ Some o → (last : Bool) → is_last o.deadline ≡ last → (ds : List (Due M))
      → AllByRecursion (MayCancel q) ds → AllByRecursion (MayCancel q) ((if last then expires c ∷ [] else repeated c o.request) ++ ds)
  one_may c o is true last ds rest =
      let may = cancels c o is last in
      ((may.0 ∙ ap (λ (g : Gnb). CuCp (other_gnb g)) (sym same), has (record { 0 = c.ue }) (may.1, may.2)), rest)
  one_may c o is false last ds rest = by o.request
    where
      by : (x : Option M) → AllByRecursion (MayCancel q) (repeated c x ++ ds)
      by None = rest
      by (Some x) = (tt, rest)

  pub all_may : (es : List (Channel × Opened M)) → AreFound r.transactions.caller.opened es → AllByRecursion (MayCancel q) (flat_map due_of es)
  unfolding opened_at
  all_may [] found = tt
  all_may (e ∷ es) found = one_may e.0 e.1 found.0 (is_last e.1.deadline) refl (flat_map due_of es) (all_may es found.1)

module _ {M C P : Type 0} (talk : Talk M C P) (n : NodeId) where
  -- what expired is due still
  abbrev pub Left : Net M C → List (Due M) → Type 0
  Left net ds = (c : Channel) → net.expired (asked_by n c) ≡ true → IsIn c ds

  none_left : (net : Net M C) → Left net [] → NoneExpired talk net n
  none_left net left c = by (net.expired (asked_by n c)) refl
    where
      by : (b : Bool) → net.expired (asked_by n c) ≡ b → b ≡ false
      by true e = absurd (left c e)
      by false e = refl

  pub left_aged : (net : Net M C) → NoneExpired talk net n → Left (after_move talk net n ages) (due (net.nodes n).caller)
  unfolding due opened_at
  left_aged net none c = by (opened_at (net.nodes n).caller c) refl
    where
      by : (o : Option (Opened M)) → opened_at (net.nodes n).caller c ≡ o → ((same_node n n && expires_now o) || net.expired (asked_by n c)) ≡ true
          → IsIn c (flat_map due_of (net.nodes n).caller.opened)
      by None is e = absurd (true≢false (sym e ∙ (λ i. (node_same n i && false) || none c i)))
      by (Some o) is e = of (is_last o.deadline) refl
        where
          of : (b : Bool) → is_last o.deadline ≡ b → IsIn c (flat_map due_of (net.nodes n).caller.opened)
          of true last = in_due (net.nodes n).caller.opened c o is last
          of false last = absurd (true≢false (sym e ∙ (λ i. (node_same n i && last i) || none c i)))

  -- ---- what is due, one after another

  abbrev DueDone : Net M C → CuCpRecord M C → List (Due M) → Answer M P (CuCpRecord M C) → Type 0
  DueDone net r ds (gives os q) =
      (moves : List (Move M C)) × Plays talk net n q.transactions (sent_by n os) moves × Left (after talk net (orders_of talk n moves)) ds
      × (q.gnb ≡ r.gnb) × ((v : UeId) → HasContext r v → HasContext q v)
  DueDone net r ds (spent k) = Unit {0}

  again_done : (net : Net M C) (r : CuCpRecord M C) → net.nodes n ≡ r.transactions → (c : Channel) (x : M) (ds : List (Due M))
      → AllDue talk n net.bag (due_again c x ∷ ds) → Left net (due_again c x ∷ ds) → DueDone net r ds (due_one talk.way r (due_again c x))
  again_done net r at c x ds was left = (
    repeats c x ∷ [],
    subst (λ (t : Transactions M C). Plays talk net n t (record { from = n; to = c.peer; ue = c.ue; message = x } ∷ []) (repeats c x ∷ [])) at
        (plays_one talk net n (repeats c x) was.0 (control c.peer c.ue x ∷ []) (net.nodes n) refl),
    λ k e. later k (left k (shrinks talk n (repeats c x ∷ []) (tt, tt) net k e)),
    refl,
    λ v has. has,
  )
    where
      later : (k : Channel) → (due_again c x ≡ expires k) ⊎ IsIn k ds → IsIn k ds
      later k (inl same) = absurd cc
      later k (inr more) = more

  abbrev cancel_of : UeId → Waiting C
  cancel_of ue = waiting_of talk.way (xn (xns.HandoverCancel ue no_instance)) None false

  -- the cancel goes, and its request is no longer expired
  cleared : (net : Net M C) (c : Channel) (w : Waiting C) (os : List (Output M P)) (a : Asked M C) → ask_at_once talk.way (net.nodes n) c w ≡ gives os a
      → (after_move talk net n (asks_at_once c w)).expired (asked_by n c) ≡ false
  cleared net c w os a is =
      ap (λ (x : Answer M P (Asked M C)). (after_answer talk net n (asks_at_once c w) (x then (λ b. nothing b.transactions))).expired (asked_by n c)) is
      ∙ with_route_here net.expired (asked_by n c) false

  left_cleared : (net x : Net M C) (c : Channel) (ds : List (Due M)) → x.expired (asked_by n c) ≡ false
      → ((k : Channel) → x.expired (asked_by n k) ≡ true → net.expired (asked_by n k) ≡ true) → Left net (expires c ∷ ds) → Left x ds
  left_cleared net x c ds clear less left k e = by (left k (less k e))
    where
      by : IsIn k (expires c ∷ ds) → IsIn k ds
      by (inl same) = let own : c ≡ k = cc in absurd (true≢false (sym e ∙ ap (λ (q : Channel). x.expired (asked_by n q)) (sym own) ∙ clear))
      by (inr more) = more

  module _ (reads : ReadsWell talk) (net : Net M C) (r : CuCpRecord M C) (at : net.nodes n ≡ r.transactions) (c : Channel) (ds : List (Due M))
      (left : Left net (expires c ∷ ds)) (peer : c.peer ≡ CuCp (other_gnb r.gnb)) where
    abbrev owner : UeId
    owner = record { 0 = c.ue }

    abbrev ended : CuCpContext → CuCpRecord M C
    ended x = with_terminal owner r (record (terminal_of r owner) { context = Some (serving x) })

    own_channel : channel c.ue (other_cu_cp (at_of r owner)) ≡ c
    own_channel = λ i. record { ue = c.ue; peer = sym peer i }

    expired_done : (x : CuCpContext) → (terminal_of r owner).context ≡ Some x
        → DueDone net r ds (carry_out talk.way owner r (handover_expires talk.way (at_of r owner) (terminal_of r owner) x))
    unfolding handover_expires carry_out act_all act_one
    expired_done x is =
        by (ask_at_once talk.way r.transactions (channel c.ue (other_cu_cp (at_of r owner))) (cancel_of owner)) refl
        (row_says talk n net owner r at (handover_expires talk.way (at_of r owner) (terminal_of r owner) x)
        ((expires_fine talk reads (at_of r owner) (terminal_of r owner) x).0, tt))
      where
        has : (v : UeId) → HasContext r v → HasContext (ended x) v
        has = put_has r owner (record (terminal_of r owner) { context = Some (serving x) }) (serving x, refl)

        begun : (a : Asked M C) (i : Option ℕ) (v : UeId) → HasContext r v
            → HasContext (after_begun talk.way owner (other_cu_cp (at_of r owner)) (record (ended x) { transactions = a.transactions }) i) v
        begun a None v was = has v was
        begun a (Some i) v was = attempt_has (record (ended x) { transactions = a.transactions }) owner _ (has owner (x, is)) v (has v was)

        gnb_kept : (a : Asked M C) (i : Option ℕ)
            → (after_begun talk.way owner (other_cu_cp (at_of r owner)) (record (ended x) { transactions = a.transactions }) i).gnb ≡ r.gnb
        gnb_kept a None = refl
        gnb_kept a (Some i) = refl

        by : (a : Answer M P (Asked M C)) → ask_at_once talk.way r.transactions (channel c.ue (other_cu_cp (at_of r owner))) (cancel_of owner) ≡ a
            → RowPlays talk net n owner (handover_expires talk.way (at_of r owner) (terminal_of r owner) x)
            ((a then (λ b. nothing (after_asked talk.way owner (other_cu_cp (at_of r owner)) (ended x) b))) then act_all talk.way owner (fails Timeout ∷ []))
            → DueDone net r ds
            ((a then (λ b. nothing (after_asked talk.way owner (other_cu_cp (at_of r owner)) (ended x) b))) then act_all talk.way owner (fails Timeout ∷ []))
        by (gives os a) e plays = (
          asks_at_once (channel c.ue (other_cu_cp (at_of r owner))) (cancel_of owner) ∷ [],
          plays,
          left_cleared net (after_move talk net n (asks_at_once (channel c.ue (other_cu_cp (at_of r owner))) (cancel_of owner))) c ds
              (subst (λ (q : Channel). (after_move talk net n (asks_at_once (channel c.ue (other_cu_cp (at_of r owner))) (cancel_of owner))).expired (asked_by n q) ≡ false)
              own_channel
              (cleared net (channel c.ue (other_cu_cp (at_of r owner))) (cancel_of owner) os a
              (ap (λ (t : Transactions M C). ask_at_once talk.way t (channel c.ue (other_cu_cp (at_of r owner))) (cancel_of owner)) at ∙ e)))
              (λ k d. shrinks talk n (asks_at_once (channel c.ue (other_cu_cp (at_of r owner))) (cancel_of owner) ∷ []) (tt, tt) net k d) left,
          gnb_kept a a.awaited,
          λ v was. begun a a.awaited v was,
        )
        by (spent k) e plays = tt

  -- moves, and then those of what is done after
  pub whole_both : (net : Net M C) (os : List (Output M P)) (q : CuCpRecord M C) (ms : List (Move M C)) → Plays talk net n q.transactions (sent_by n os) ms
      → (b : Answer M P (CuCpRecord M C)) → IsPlayedWhole talk (after talk net (orders_of talk n ms)) n (kept talk n) b
      → IsPlayedWhole talk net n (kept talk n) (with_outputs os b)
  whole_both net os q ms first (gives more x) second = (
    ms ++ second.0,
    subst (λ (out : List (Sent M)). Plays talk net n x.transactions out (ms ++ second.0)) (sym (sent_both n os more))
        (plays_then talk net n q.transactions x.transactions (sent_by n os) (sent_by n more) ms second.0 first second.1),
    λ c. ap (λ (y : Net M C). y.expired (asked_by n c)) (after_both talk net n ms second.0) ∙ second.2 c,
  )
  whole_both net os q ms first (spent k) second = tt

  pub whole_after : (net : Net M C) (ms : List (Move M C)) (t : Transactions M C) → Plays talk net n t [] ms → (b : Answer M P (CuCpRecord M C))
      → IsPlayedWhole talk (after talk net (orders_of talk n ms)) n (kept talk n) b → IsPlayedWhole talk net n (kept talk n) b
  whole_after net ms t first (gives more x) second = (
    ms ++ second.0,
    plays_then talk net n t x.transactions [] (sent_by n more) ms second.0 first second.1,
    λ c. ap (λ (y : Net M C). y.expired (asked_by n c)) (after_both talk net n ms second.0) ∙ second.2 c,
  )
  whole_after net ms t first (spent k) second = tt

  due_done : ReadsWell talk → (net : Net M C) (r : CuCpRecord M C) → net.nodes n ≡ r.transactions → (d : Due M) (ds : List (Due M))
      → AllDue talk n net.bag (d ∷ ds) → Left net (d ∷ ds) → MayCancel r d → DueDone net r ds (due_one talk.way r d)
  due_done reads net r at (due_again c x) ds was left may = again_done net r at c x ds was left
  due_done reads net r at (expires c) ds was left may =
      subst (λ (o : Option CuCpContext). DueDone net r ds (carry_out talk.way (record { 0 = c.ue }) r
      (expired_on talk.way (at_of r (record { 0 = c.ue })) (terminal_of r (record { 0 = c.ue })) o))) (sym may.1.1)
      (expired_done reads net r at c ds left may.0 may.1.0 may.1.1)

  due_then : (net : Net M C) (r : CuCpRecord M C) (ds : List (Due M)) (a : Answer M P (CuCpRecord M C)) (f : CuCpRecord M C → Answer M P (CuCpRecord M C))
      → DueDone net r ds a
      → ((x : Net M C) (q : CuCpRecord M C) (out : List (Sent M)) → x.nodes n ≡ q.transactions → x.bag ≡ net.bag ++ out → Left x ds → q.gnb ≡ r.gnb
      → ((v : UeId) → HasContext r v → HasContext q v) → IsPlayedWhole talk x n (kept talk n) (f q))
      → IsPlayedWhole talk net n (kept talk n) (a then f)
  due_then net r ds (gives os q) f first next =
      whole_both net os q first.0 first.1 (f q)
      (next (after talk net (orders_of talk n first.0)) q (sent_by n os) first.1.node first.1.bag first.2 first.3 first.4)
  due_then net r ds (spent k) f first next = tt

  pub dues_whole : ReadsWell talk → (ds : List (Due M)) (net : Net M C) (r : CuCpRecord M C) → net.nodes n ≡ r.transactions → AllDue talk n net.bag ds
      → Left net ds → AllByRecursion (MayCancel r) ds → IsPlayedWhole talk net n (kept talk n) (due_each talk.way ds r)
  dues_whole reads [] net r at was left may =
      ([], subst (λ (t : Transactions M C). Plays talk net n t [] []) at (plays_none talk net n), none_left net left)
  dues_whole reads (d ∷ ds) net r at was left may =
      due_then net r ds (due_one talk.way r d) (due_each talk.way ds) (due_done reads net r at d ds was left may.0)
      (λ x q out node grew still same has. dues_whole reads ds x q node (still_due talk n net.bag out x.bag grew ds was.1) still
      (still_may r q same has ds may.1))
