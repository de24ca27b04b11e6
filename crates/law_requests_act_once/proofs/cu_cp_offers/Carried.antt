-- A row is carried out: what it says leaves the open requests of offers as they are, but for a reply on their channel.
use Rattle.std.proofs.Common.{inl, inr, ◌≡◌, ◌⊎◌, ℕ, Bool, true, false, List, [], ◌∷◌, Option, Some, None, refl, sym, ap, ◌∙◌, subst}
use Rattle.std.specs.Prelude.{if◌then◌else◌}
use Rattle.std.specs.List.{AllByRecursion}
use Rattle.gnb_types.specs.declared.names.Gnb.{Gnb}
use Rattle.gnb_types.specs.declared.names.NodeId.{NodeId}
use Rattle.gnb_types.specs.declared.names.NodeId.TheVariants.{CuCp}
use Rattle.gnb_types.specs.declared.names.UeId.{UeId}
use Rattle.gnb_types.specs.declared.keys.Channel.{Channel}
use Rattle.gnb_types.specs.Orders.{channel_cmp}
use Rattle.gnb_types.proofs.OrderLemmas.{channel_total}
use Rattle.tables.specs.Tables.{find}
use Rattle.tables.proofs.TableLaws.{find-put-other}
use Rattle.transaction_defs.specs.Callees.{Kept, Callee, kept_at, keep, with_reply, keep_for, is_newest, newest}
use Rattle.unit_defs.specs.declared.StateName.{StateName}
use Rattle.unit_defs.specs.declared.StateName.TheVariants as states
use Rattle.unit_defs.specs.Ways.{Way, Answer, gives, spent, ◌then◌, nothing}
use Rattle.unit_defs.specs.Messages.{channel, other_gnb}
use Rattle.unit_defs.specs.Transactions.{Transactions, Asked, ask, ask_at_once, replied, replied_late}
use Rattle.unit_defs.specs.CuCpRecords.{Attempt, CuCpContext, CuCpTerminal, CuCpRecord, terminal_of, with_terminal, with_transactions, awaiting, begun, on_attempt, on_context, with_attempt, waiting_of, after_begun, after_asked, noted, Action, asks, cancels, replies, replies_late, sends, fails, ignores, refuses, forgets, act_one, act_all, Row, row, row_spent, carry_out}
use Rattle.law_requests_act_once.specs.channel.Ends.{same_node, same_channel}
use Rattle.law_requests_act_once.specs.channel.Exactly.{IfGives}
use Rattle.law_requests_act_once.proofs.cu_cp_deadlines.Changes.{gives_then, Becomes, ask_becomes, at_once_becomes}
use Rattle.law_requests_act_once.proofs.cu_cp_deadlines.Midway.{same_ue, ue_told, ues_apart, peers_apart, nodes_apart, terminal_here, terminal_apart}
use Rattle.law_requests_act_once.specs.cu_cp_offers.Offers.{offered_in, offered_of, offer_of, IsOpenIn, IsOpenAt}

-- ---- what is kept of requests at one key

module _ {M : Type 0} where
  pub kept_apart : (e : Callee M) (c k : Channel) (y : M) → same_channel k c ≡ false → kept_at (keep e c y) k ≡ kept_at e k
  unfolding keep kept_at
  kept_apart e c k y other = by (find channel_cmp e c)
    where
      by : (o : Option (Kept M)) → find channel_cmp (with_reply e c y o) k ≡ find channel_cmp e k
      by None = refl
      by (Some kept) = find-put-other channel_total e c (record kept { reply = Some y }) k other

  pub kept_late_apart : (e : Callee M) (c k : Channel) (i : ℕ) (y : M) → same_channel k c ≡ false → kept_at (keep_for e c i y) k ≡ kept_at e k
  unfolding keep_for
  kept_late_apart e c k i y other = by (is_newest (newest e c) i)
    where
      by : (b : Bool) → kept_at (if b then keep e c y else e) k ≡ kept_at e k
      by true = kept_apart e c k y other
      by false = refl

-- ---- an attempt awaits others, but is an offer as before

pub offered_same : (s : StateName) (a b : Attempt) → a.instance ≡ b.instance → offered_in s a ≡ offered_in s b
offered_same states.Offered a b same = ap (λ (n : ℕ). Some n) same
offered_same s a b same = refl

pub offer_kept : (f : Attempt → Attempt) → ((a : Attempt) → (f a).instance ≡ a.instance) → (c : Option CuCpContext) → offer_of (on_context f c) ≡ offer_of c
offer_kept f same None = refl
offer_kept f same (Some c) = by c.attempt
  where
    by : (o : Option Attempt) → offered_of c.state (on_attempt f o) ≡ offered_of c.state o
    by None = refl
    by (Some a) = offered_same c.state (f a) a (same a)

module _ {M C P : Type 0} (way : Way M C P) (gnb : Gnb) (was_asked : UeId → ℕ → Type 0) where
  abbrev Record : Type 0
  Record = CuCpRecord M C

  abbrev peer : NodeId
  peer = CuCp (other_gnb gnb)

  abbrev pub Stands : Callee M → UeId → Option ℕ → Type 0
  Stands e ue o = (i : ℕ) → o ≡ Some i → IsOpenAt gnb e ue i × was_asked ue i

  abbrev pub Good : Record → Type 0
  Good r = ((ue : UeId) → Stands r.transactions.callee ue (offer_of (terminal_of r ue).context)) × (r.gnb ≡ gnb)

  stands_on : (e f : Callee M) (ue : UeId) (o : Option ℕ) → kept_at f (channel ue.0 peer) ≡ kept_at e (channel ue.0 peer) → Stands e ue o → Stands f ue o
  stands_on e f ue o same h i is = (subst (λ (k : Option (Kept M)). IsOpenIn k i) (sym same) (h i is).0, (h i is).1)

  pub none_stands : (e : Callee M) (ue : UeId) (o : Option ℕ) → o ≡ None → Stands e ue o
  none_stands e ue o none i is = absurd cc

  module _ (ue : UeId) where
    -- the terminal's offer is this, or none
    abbrev Holds : Option ℕ → Record → Type 0
    Holds o r = Good r × (offer_of (terminal_of r ue).context ≡ o)

    pub callee_same : (r : Record) (u : Transactions M C) → ((v : UeId) → kept_at u.callee (channel v.0 peer) ≡ kept_at r.transactions.callee (channel v.0 peer))
        → Good r → Good (with_transactions r u)
    callee_same r u same h = ((λ v. stands_on r.transactions.callee u.callee v (offer_of (terminal_of r v).context) (same v) (h.0 v)), h.1)

    attempt_holds : (o : Option ℕ) (r : Record) (f : Attempt → Attempt) → ((a : Attempt) → (f a).instance ≡ a.instance) → Holds o r → Holds o (with_attempt ue f r)
    attempt_holds o r f same h = (
      ((λ v. by v (same_ue v ue) refl), h.0.1),
      ap (λ (t : CuCpTerminal). offer_of t.context) (terminal_here r ue t) ∙ offer_kept f same (terminal_of r ue).context ∙ h.1,
    )
      where
        t : CuCpTerminal
        t = record (terminal_of r ue) { context = on_context f (terminal_of r ue).context }

        by : (v : UeId) (b : Bool) → same_ue v ue ≡ b → Stands r.transactions.callee v (offer_of (terminal_of (with_terminal ue r t) v).context)
        by v true e =
            subst (λ (w : UeId). Stands r.transactions.callee w (offer_of (terminal_of (with_terminal ue r t) w).context)) (sym (ue_told v ue e))
            (subst (λ (p : Option ℕ). Stands r.transactions.callee ue p)
            (sym (ap (λ (x : CuCpTerminal). offer_of x.context) (terminal_here r ue t) ∙ offer_kept f same (terminal_of r ue).context)) (h.0.0 ue))
        by v false e = subst (λ (x : CuCpTerminal). Stands r.transactions.callee v (offer_of x.context)) (sym (terminal_apart r ue v t e)) (h.0.0 v)

    begun_holds : (o : Option ℕ) (r : Record) (to : NodeId) (i : Option ℕ) → Holds o r → Holds o (after_begun way ue to r i)
    begun_holds o r to None h = h
    begun_holds o r to (Some n) h = attempt_holds o r (λ a. begun a to n) (λ a. refl) h

    noted_holds : (o : Option ℕ) (r : Record) (to : NodeId) (b : Bool) → Holds o r → Holds o (noted way ue to b r) × ((noted way ue to b r).transactions ≡ r.transactions)
    noted_holds o r to true h = (attempt_holds o r (λ a. awaiting a to) (λ a. refl) h, refl)
    noted_holds o r to false h = (h, refl)

    pub asked_holds : (o : Option ℕ) (r : Record) (to : NodeId) (a : Asked M C) → a.transactions.callee ≡ r.transactions.callee → Holds o r → Holds o (after_asked way ue to r a)
    asked_holds o r to a same h =
        begun_holds o (with_transactions r a.transactions) to a.awaited
        (callee_same r a.transactions (λ v. ap (λ (e : Callee M). kept_at e (channel v.0 peer)) same) h.0, h.1)

    -- ---- what is said

    abbrev pub SayFits : Option ℕ → Action C → Type 0
    SayFits o (replies to m) = (o ≡ None) ⊎ (same_node to peer ≡ false)
    SayFits o (replies_late to i m) = o ≡ None
    SayFits o what = Unit {0}

    -- of a terminal without an offer anything may be said
    pub all_fit : (o : Option ℕ) → o ≡ None → (ss : List (Action C)) → AllByRecursion (SayFits o) ss
    all_fit o none [] = tt
    all_fit o none (asks to m d b ∷ ss) = (tt, all_fit o none ss)
    all_fit o none (cancels to m ∷ ss) = (tt, all_fit o none ss)
    all_fit o none (replies to m ∷ ss) = (inl none, all_fit o none ss)
    all_fit o none (replies_late to i m ∷ ss) = (none, all_fit o none ss)
    all_fit o none (sends to m ∷ ss) = (tt, all_fit o none ss)
    all_fit o none (fails cause ∷ ss) = (tt, all_fit o none ss)
    all_fit o none (ignores reason ∷ ss) = (tt, all_fit o none ss)
    all_fit o none (refuses reason ∷ ss) = (tt, all_fit o none ss)
    all_fit o none (forgets ∷ ss) = (tt, all_fit o none ss)

    -- a reply on a channel of the terminal
    pub told_holds : (o : Option ℕ) (r : Record) (u : Transactions M C) (to : NodeId) → (o ≡ None) ⊎ (same_node to peer ≡ false)
        → ((k : Channel) → same_channel k (channel ue.0 to) ≡ false → kept_at u.callee k ≡ kept_at r.transactions.callee k) → Holds o r → Holds o (with_transactions r u)
    told_holds o r u to fits apart h = (((λ v. by v (same_ue v ue) refl), h.0.1), h.1)
      where
        here : (o ≡ None) ⊎ (same_node to peer ≡ false) → Stands u.callee ue (offer_of (terminal_of r ue).context)
        here (inl none) = none_stands u.callee ue (offer_of (terminal_of r ue).context) (h.1 ∙ none)
        here (inr other) =
            stands_on r.transactions.callee u.callee ue (offer_of (terminal_of r ue).context)
            (apart (channel ue.0 peer) (peers_apart ue.0 ue.0 peer to (nodes_apart to peer other))) (h.0.0 ue)

        by : (v : UeId) (b : Bool) → same_ue v ue ≡ b → Stands u.callee v (offer_of (terminal_of r v).context)
        by v true e = subst (λ (w : UeId). Stands u.callee w (offer_of (terminal_of r w).context)) (sym (ue_told v ue e)) (here fits)
        by v false e =
            stands_on r.transactions.callee u.callee v (offer_of (terminal_of r v).context) (apart (channel v.0 peer) (ues_apart v ue peer to e)) (h.0.0 v)

    abbrev Leads : Option ℕ → Answer M P Record → Type 0
    Leads o a = IfGives (λ q. Holds o q) a

    say_holds : (o : Option ℕ) (r : Record) (s : Action C) → SayFits o s → Holds o r → Leads o (act_one way ue r s)
    unfolding act_one replied replied_late
    say_holds o r (asks to m d b) fits h =
        gives_then (λ a. Becomes way r.transactions (channel ue.0 to) (λ x i. Unit {0}) a) (λ q. Holds o q)
        (ask way r.transactions (channel ue.0 to) (waiting_of way m d b)) (λ a. nothing (after_asked way ue to (noted way ue to b r) a))
        (ask_becomes way r.transactions (channel ue.0 to) (λ x i. Unit {0}) (waiting_of way m d b) tt tt (λ n x z. tt))
        (λ a z. let on = noted_holds o r to b h in
        asked_holds o (noted way ue to b r) to a (z.asks.callee ∙ ap (λ (t : Transactions M C). t.callee) (sym on.1)) on.0)
    say_holds o r (cancels to m) fits h =
        gives_then (λ a. Becomes way r.transactions (channel ue.0 to) (λ x i. Unit {0}) a) (λ q. Holds o q)
        (ask_at_once way r.transactions (channel ue.0 to) (waiting_of way m None false)) (λ a. nothing (after_asked way ue to r a))
        (at_once_becomes way r.transactions (channel ue.0 to) (λ x i. Unit {0}) (waiting_of way m None false) tt (λ n x z. tt))
        (λ a z. asked_holds o r to a z.asks.callee h)
    say_holds o r (replies to m) fits h =
        told_holds o r (record r.transactions { callee = keep r.transactions.callee (channel ue.0 to) (way.encode m) }) to fits (λ k other. kept_apart r.transactions.callee (channel ue.0 to) k (way.encode m) other) h
    say_holds o r (replies_late to i m) fits h =
        told_holds o r (record r.transactions { callee = keep_for r.transactions.callee (channel ue.0 to) i (way.encode m) }) to (inl fits) (λ k other. kept_late_apart r.transactions.callee (channel ue.0 to) k i (way.encode m) other) h
    say_holds o r (sends to m) fits h = h
    say_holds o r (fails cause) fits h = h
    say_holds o r (ignores reason) fits h = h
    say_holds o r (refuses reason) fits h = h
    say_holds o r forgets fits h = ((h.0.0, h.0.1), h.1)

    says_hold : (o : Option ℕ) (ss : List (Action C)) (r : Record) → AllByRecursion (SayFits o) ss → Holds o r → Leads o (act_all way ue ss r)
    unfolding act_all
    says_hold o [] r all h = h
    says_hold o (s ∷ ss) r all h =
        gives_then (λ q. Holds o q) (λ q. Holds o q) (act_one way ue r s) (act_all way ue ss) (say_holds o r s all.0 h) (λ q k. says_hold o ss q all.1 k)

    -- ---- rows: what an offer is then stands, and its channel gets no reply

    pub data RowFits (e : Callee M) : Row C → Type 0 where
      leaves : (says : List (Action C)) (u : CuCpTerminal) → Stands e ue (offer_of u.context) → AllByRecursion (SayFits (offer_of u.context)) says
          → RowFits e (row says u)
      leaves_none : (says : List (Action C)) (u : CuCpTerminal) → offer_of u.context ≡ None → RowFits e (row says u)
      spends : (counter : ℕ) → RowFits e (row_spent counter)

    abbrev pub OthersStand : Record → Type 0
    OthersStand r = ((v : UeId) → same_ue v ue ≡ false → Stands r.transactions.callee v (offer_of (terminal_of r v).context)) × (r.gnb ≡ gnb)

    good_only : (o : Option ℕ) (a : Answer M P Record) → Leads o a → IfGives Good a
    good_only o (gives os q) h = h.0
    good_only o (spent k) h = tt

    carried_row : (r : Record) (says : List (Action C)) (u : CuCpTerminal) → Stands r.transactions.callee ue (offer_of u.context)
        → AllByRecursion (SayFits (offer_of u.context)) says → OthersStand r → IfGives Good (carry_out way ue r (row says u))
    unfolding carry_out
    carried_row r says u stands fits h =
        good_only (offer_of u.context) (act_all way ue says (with_terminal ue r u))
        (says_hold (offer_of u.context) says (with_terminal ue r u) fits
        (((λ v. by v (same_ue v ue) refl), h.1), ap (λ (x : CuCpTerminal). offer_of x.context) (terminal_here r ue u)))
      where
        by : (v : UeId) (b : Bool) → same_ue v ue ≡ b → Stands r.transactions.callee v (offer_of (terminal_of (with_terminal ue r u) v).context)
        by v true e =
            subst (λ (w : UeId). Stands r.transactions.callee w (offer_of (terminal_of (with_terminal ue r u) w).context)) (sym (ue_told v ue e))
            (subst (λ (x : CuCpTerminal). Stands r.transactions.callee ue (offer_of x.context)) (sym (terminal_here r ue u)) stands)
        by v false e = subst (λ (x : CuCpTerminal). Stands r.transactions.callee v (offer_of x.context)) (sym (terminal_apart r ue v u e)) (h.0 v e)

    pub carried : (r : Record) (what : Row C) → RowFits r.transactions.callee what → OthersStand r → IfGives Good (carry_out way ue r what)
    unfolding carry_out
    carried r what (leaves says u stands fits) h = carried_row r says u stands fits h
    carried r what (leaves_none says u none) h =
        carried_row r says u (none_stands r.transactions.callee ue (offer_of u.context) none) (all_fit (offer_of u.context) none says) h
    carried r what (spends counter) h = tt
