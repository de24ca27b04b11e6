-- While a row is carried out: what is kept of requests with a deadline then, whatever else holds of the terminal.
use Rattle.std.proofs.Common.{◌≡◌, ◌==◌, ℕ, Bool, true, false, cond, List, [], ◌∷◌, Option, Some, None, refl, sym, ap, ◌∙◌, subst, true≢false}
use Rattle.std.specs.Prelude.{if◌then◌else◌, map, unwrap_or}
use Rattle.std.specs.Map.{lookup}
use Rattle.std.specs.BTreeMap.{is_at}
use Rattle.std.specs.List.{AllByRecursion}
use Rattle.std.specs.Ordering.{eq_by_cmp, is_eq}
use Rattle.std.specs.Cmp.{Equal-is, tied_itself}
use Rattle.gnb_types.specs.declared.names.Gnb.{Gnb}
use Rattle.gnb_types.specs.declared.names.NodeId.{NodeId}
use Rattle.gnb_types.specs.declared.names.NodeId.TheVariants.{CuCp}
use Rattle.gnb_types.specs.declared.names.UeId.{UeId}
use Rattle.gnb_types.specs.declared.keys.Channel.{Channel}
use Rattle.gnb_types.specs.Orders.{ue_cmp, channel_cmp}
use Rattle.gnb_types.proofs.OrderLemmas.{ue_total, ue_exact, channel_exact}
use Rattle.tables.specs.Tables.{find, at, IsSorted}
use Rattle.unit_defs.specs.declared.StateName.{StateName}
use Rattle.unit_defs.specs.declared.StateName.TheVariants as states
use Rattle.unit_defs.specs.declared.AttemptKind.{AttemptKind}
use Rattle.unit_defs.specs.declared.AttemptKind.TheVariants as kinds
use Rattle.unit_defs.specs.Ways.{Way}
use Rattle.unit_defs.specs.Messages.{channel, other_gnb}
use Rattle.unit_defs.specs.Transactions.{Waiting, Transactions, waits_at}
use Rattle.unit_defs.specs.CuCpRecords.{Attempt, CuCpContext, CuCpTerminal, CuCpRecord, terminal_in, terminal_of, with_terminal, with_transactions, on_attempt, on_context, with_attempt, not_awaited, unawaited, forgotten}
use Rattle.unit_defs.proofs.Terminals.{kept_here, kept_apart}
use Rattle.law_requests_act_once.specs.channel.Ends.{same_node, same_channel, Asking, asking_at}
use Rattle.law_requests_act_once.proofs.channel.Keys.{node_same, node_apart, channel_apart, channel_told}
use Rattle.law_requests_act_once.proofs.channel.Projections.{Asks}
use Rattle.law_requests_act_once.specs.channel_rows.IsPlayed.{IsUndated}
use Rattle.law_requests_act_once.specs.cu_cp_deadlines.Deadlines.{prepared_in, prepared_of, preparation, FitsThere, AwaitedHasDeadline, DeadlinesFit}

-- ---- keys

abbrev pub same_ue : UeId → UeId → Bool
same_ue v ue = eq_by_cmp ue_cmp v ue

pub ue_told : (v ue : UeId) → same_ue v ue ≡ true → v ≡ ue
ue_told v ue e = ue_exact v ue ((Equal-is (ue_cmp v ue)).0 e)

pub ues_apart : (v ue : UeId) (p q : NodeId) → same_ue v ue ≡ false → same_channel (channel v.0 p) (channel ue.0 q) ≡ false
ues_apart v ue p q e = channel_apart (channel v.0 p) (channel ue.0 q) apart
  where
    apart : channel v.0 p ≡ channel ue.0 q → ⊥
    apart same =
        let own : v ≡ ue = ap (λ (k : Channel). record { 0 = k.ue }) same in
        true≢false (sym (ap is_eq (tied_itself ue_total ue)) ∙ ap (λ (x : UeId). same_ue x ue) (sym own) ∙ e)

pub peers_apart : (u v : ℕ) (p q : NodeId) → same_node p q ≡ false → same_channel (channel u p) (channel v q) ≡ false
peers_apart u v p q e = channel_apart (channel u p) (channel v q) apart
  where
    apart : channel u p ≡ channel v q → ⊥
    apart same =
        let own : p ≡ q = ap (λ (k : Channel). k.peer) same in
        true≢false (sym (node_same q) ∙ ap (λ (x : NodeId). same_node x q) (sym own) ∙ e)

pub nodes_apart : (p q : NodeId) → same_node p q ≡ false → same_node q p ≡ false
nodes_apart p q e = node_apart q p (λ same. true≢false (sym (node_same q) ∙ ap (λ (x : NodeId). same_node x q) same ∙ e))

-- ---- terminals

module _ {M C : Type 0} where
  pub terminal_here : (r : CuCpRecord M C) (ue : UeId) (t : CuCpTerminal) → terminal_of (with_terminal ue r t) ue ≡ t
  terminal_here r ue t = kept_here r.terminals ue t

  pub terminal_apart : (r : CuCpRecord M C) (ue v : UeId) (t : CuCpTerminal) → same_ue v ue ≡ false → terminal_of (with_terminal ue r t) v ≡ terminal_of r v
  terminal_apart r ue v t e = ap terminal_in (kept_apart r.terminals ue v t e)

  pub terminal_cases : (S : CuCpTerminal → Type 0) (r : CuCpRecord M C) (ue v : UeId) (t : CuCpTerminal) → S t → S (terminal_of r v) → S (terminal_of (with_terminal ue r t) v)
  terminal_cases S r ue v t here apart = by (same_ue v ue) refl
    where
      by : (b : Bool) → same_ue v ue ≡ b → S (terminal_of (with_terminal ue r t) v)
      by true e = subst (λ (w : UeId). S (terminal_of (with_terminal ue r t) w)) (sym (ue_told v ue e)) (subst S (sym (terminal_here r ue t)) here)
      by false e = subst S (sym (terminal_apart r ue v t e)) apart

-- a context that prepares nothing goes on to, whatever its attempt awaits
pub in_none : (s : StateName) (k : AttemptKind) (a b : Attempt) → prepared_in s k a ≡ None → prepared_in s k b ≡ None
in_none states.Preparing kinds.BetweenGnbs a b h = absurd cc
in_none s k a b h = refl

pub none_kept : (f : Attempt → Attempt) → ((a : Attempt) → (f a).kind ≡ a.kind) → (c : Option CuCpContext) → preparation c ≡ None → preparation (on_context f c) ≡ None
none_kept f same None h = refl
none_kept f same (Some c) h = by c.attempt h
  where
    by : (o : Option Attempt) → prepared_of c.state o ≡ None → prepared_of c.state (on_attempt f o) ≡ None
    by None g = refl
    by (Some a) g = subst (λ (k : AttemptKind). prepared_in c.state k (f a) ≡ None) (sym (same a)) (in_none c.state a.kind a (f a) g)

-- ---- what waits of a terminal, where no attempt awaits it any more

module _ {M C P : Type 0} (way : Way M C P) (ue : UeId) where
  abbrev forgets_at : ℕ → List (Waiting C) → List (Waiting C)
  forgets_at u ws = if u == ue.0 then map (not_awaited way) ws else ws

  forgotten_in : (es : List (Channel × List (Waiting C))) (c : Channel)
      → unwrap_or (lookup (is_at (channel_cmp c)) (map (unawaited way ue) es)) [] ≡ forgets_at c.ue (unwrap_or (lookup (is_at (channel_cmp c)) es) [])
  forgotten_in [] c = by (c.ue == ue.0)
    where
      by : (b : Bool) → [] ≡ (if b then map (not_awaited way) [] else [])
      by true = refl
      by false = refl
  forgotten_in (e ∷ es) c = by (e.0.ue == ue.0) (is_at (channel_cmp c) e.0) refl refl (forgotten_in es c)
    where
      by : (own here : Bool) → (e.0.ue == ue.0) ≡ own → is_at (channel_cmp c) e.0 ≡ here
          → unwrap_or (lookup (is_at (channel_cmp c)) (map (unawaited way ue) es)) [] ≡ forgets_at c.ue (unwrap_or (lookup (is_at (channel_cmp c)) es) [])
          → unwrap_or (lookup (is_at (channel_cmp c)) (cond own (e.0, map (not_awaited way) e.1) e ∷ map (unawaited way ue) es)) []
          ≡ forgets_at c.ue (unwrap_or (cond here (Some e.1) (lookup (is_at (channel_cmp c)) es)) [])
      by own true is at rest =
          let key : c ≡ e.0 = channel_exact c e.0 ((Equal-is (channel_cmp c e.0)).0 at) in
          found own ∙ sym (ap (λ (b : Bool). if b then map (not_awaited way) e.1 else e.1) (ap (λ (k : Channel). k.ue == ue.0) key ∙ is))
        where
          found : (b : Bool) → unwrap_or (lookup (is_at (channel_cmp c)) (cond b (e.0, map (not_awaited way) e.1) e ∷ map (unawaited way ue) es)) []
              ≡ (if b then map (not_awaited way) e.1 else e.1)
          found true = ap (λ (x : Bool). unwrap_or (cond x (Some (map (not_awaited way) e.1)) (lookup (is_at (channel_cmp c)) (map (unawaited way ue) es))) []) at
          found false = ap (λ (x : Bool). unwrap_or (cond x (Some e.1) (lookup (is_at (channel_cmp c)) (map (unawaited way ue) es))) []) at
      by true false is at rest = ap (λ (x : Bool). unwrap_or (cond x (Some (map (not_awaited way) e.1)) (lookup (is_at (channel_cmp c)) (map (unawaited way ue) es))) []) at ∙ rest
      by false false is at rest = ap (λ (x : Bool). unwrap_or (cond x (Some e.1) (lookup (is_at (channel_cmp c)) (map (unawaited way ue) es))) []) at ∙ rest

  pub forgotten_at : (t : Transactions M C) (c : Channel) → waits_at (forgotten way ue t) c ≡ forgets_at c.ue (waits_at t c)
  unfolding waits_at at find
  forgotten_at t c = forgotten_in t.waiting c

-- ---- midway: X holds of the terminal's channel to the other CU-CP and of its context

abbrev pub other : Gnb → NodeId
other gnb = CuCp (other_gnb gnb)

abbrev pub to_other : Gnb → UeId → Channel
to_other gnb v = channel v.0 (other gnb)

module _ {M C : Type 0} (gnb : Gnb) (ue : UeId) where
  pub record Midway (X : Asking M C → Option CuCpContext → Type 0) (r : CuCpRecord M C) : Type 0 where
    pub own : r.gnb ≡ gnb
    pub elsewhere : (v : UeId) (peer : NodeId) → same_node peer (other gnb) ≡ false → IsUndated (asking_at r.transactions (channel v.0 peer))
    pub others : (v : UeId) → same_ue v ue ≡ false → FitsThere (other gnb) (asking_at r.transactions (to_other gnb v)) (preparation (terminal_of r v).context)
    pub here : X (asking_at r.transactions (to_other gnb ue)) (terminal_of r ue).context
    pub unawaited : (v : UeId) → AllByRecursion AwaitedHasDeadline (waits_at r.transactions (to_other gnb v))
    pub sorted : IsSorted channel_cmp r.transactions.caller.opened

  module _ {X : Asking M C → Option CuCpContext → Type 0} (r : CuCpRecord M C) (m : Midway X r) where
    -- at another peer
    pub asked_aside : {u : Transactions M C} {a : Asking M C} (to : NodeId) → same_node to (other gnb) ≡ false → Asks r.transactions u (channel ue.0 to) a → IsUndated a
        → Midway X (with_transactions r u)
    unfolding waits_at
    asked_aside {u} {a} to apart asks dates = record {
      own = m.own;
      elsewhere = λ v peer e. by v peer e (same_channel (channel v.0 peer) (channel ue.0 to)) refl;
      others = λ v e. subst (λ (x : Asking M C). FitsThere (other gnb) x (preparation (terminal_of r v).context)) (sym (stays v)) (m.others v e);
      here = subst (λ (x : Asking M C). X x (terminal_of r ue).context) (sym (stays ue)) m.here;
      unawaited = λ v. subst (λ (x : Asking M C). AllByRecursion AwaitedHasDeadline x.waits) (sym (stays v)) (m.unawaited v);
      sorted = asks.sorted m.sorted;
    }
      where
        stays : (v : UeId) → asking_at u (to_other gnb v) ≡ asking_at r.transactions (to_other gnb v)
        stays v = asks.apart (to_other gnb v) (peers_apart v.0 ue.0 (other gnb) to (nodes_apart to (other gnb) apart))

        by : (v : UeId) (peer : NodeId) → same_node peer (other gnb) ≡ false → (b : Bool) → same_channel (channel v.0 peer) (channel ue.0 to) ≡ b
            → IsUndated (asking_at u (channel v.0 peer))
        by v peer e true tie = subst (λ (c : Channel). IsUndated (asking_at u c)) (sym (channel_told (channel v.0 peer) (channel ue.0 to) tie)) (subst IsUndated (sym asks.here) dates)
        by v peer e false tie = subst IsUndated (sym (asks.apart (channel v.0 peer) tie)) (m.elsewhere v peer e)

    -- at the other CU-CP
    pub asked_there : {Y : Asking M C → Option CuCpContext → Type 0} {u : Transactions M C} {a : Asking M C} → Asks r.transactions u (to_other gnb ue) a
        → AllByRecursion AwaitedHasDeadline a.waits → Y a (terminal_of r ue).context → Midway Y (with_transactions r u)
    unfolding waits_at
    asked_there {Y} {u} {a} asks waits is = record {
      own = m.own;
      elsewhere = λ v peer e. subst IsUndated (sym (asks.apart (channel v.0 peer) (peers_apart v.0 ue.0 peer (other gnb) e))) (m.elsewhere v peer e);
      others = λ v e. subst (λ (x : Asking M C). FitsThere (other gnb) x (preparation (terminal_of r v).context)) (sym (asks.apart (to_other gnb v) (ues_apart v ue (other gnb) (other gnb) e))) (m.others v e);
      here = subst (λ (x : Asking M C). Y x (terminal_of r ue).context) (sym asks.here) is;
      unawaited = λ v. by v (same_channel (to_other gnb v) (to_other gnb ue)) refl;
      sorted = asks.sorted m.sorted;
    }
      where
        by : (v : UeId) (b : Bool) → same_channel (to_other gnb v) (to_other gnb ue) ≡ b → AllByRecursion AwaitedHasDeadline (asking_at u (to_other gnb v)).waits
        by v true tie = subst (λ (c : Channel). AllByRecursion AwaitedHasDeadline (asking_at u c).waits) (sym (channel_told (to_other gnb v) (to_other gnb ue) tie))
            (subst (λ (x : Asking M C). AllByRecursion AwaitedHasDeadline x.waits) (sym asks.here) waits)
        by v false tie = subst (λ (x : Asking M C). AllByRecursion AwaitedHasDeadline x.waits) (sym (asks.apart (to_other gnb v) tie)) (m.unawaited v)

    -- nothing of requests changes
    pub asked_nothing : (u : Transactions M C) → ((c : Channel) → asking_at u c ≡ asking_at r.transactions c) → IsSorted channel_cmp u.caller.opened → Midway X (with_transactions r u)
    unfolding waits_at
    asked_nothing u same sorted = record {
      own = m.own;
      elsewhere = λ v peer e. subst IsUndated (sym (same (channel v.0 peer))) (m.elsewhere v peer e);
      others = λ v e. subst (λ (x : Asking M C). FitsThere (other gnb) x (preparation (terminal_of r v).context)) (sym (same (to_other gnb v))) (m.others v e);
      here = subst (λ (x : Asking M C). X x (terminal_of r ue).context) (sym (same (to_other gnb ue))) m.here;
      unawaited = λ v. subst (λ (x : Asking M C). AllByRecursion AwaitedHasDeadline x.waits) (sym (same (to_other gnb v))) (m.unawaited v);
      sorted = sorted;
    }

    -- the terminal changes
    pub put_there : {Y : Asking M C → Option CuCpContext → Type 0} (t : CuCpTerminal) → Y (asking_at r.transactions (to_other gnb ue)) t.context → Midway Y (with_terminal ue r t)
    put_there {Y} t is = record {
      own = m.own;
      elsewhere = m.elsewhere;
      others = λ v e. subst (λ (x : CuCpTerminal). FitsThere (other gnb) (asking_at r.transactions (to_other gnb v)) (preparation x.context)) (sym (terminal_apart r ue v t e)) (m.others v e);
      here = subst (λ (x : CuCpTerminal). Y (asking_at r.transactions (to_other gnb ue)) x.context) (sym (terminal_here r ue t)) is;
      unawaited = m.unawaited;
      sorted = m.sorted;
    }

    pub attempt_there : {Y : Asking M C → Option CuCpContext → Type 0} (f : Attempt → Attempt)
        → Y (asking_at r.transactions (to_other gnb ue)) (on_context f (terminal_of r ue).context) → Midway Y (with_attempt ue f r)
    attempt_there f is = put_there (record (terminal_of r ue) { context = on_context f (terminal_of r ue).context }) is

    pub holds_as : {Y : Asking M C → Option CuCpContext → Type 0} → Y (asking_at r.transactions (to_other gnb ue)) (terminal_of r ue).context → Midway Y r
    holds_as is = record { own = m.own; elsewhere = m.elsewhere; others = m.others; here = is; unawaited = m.unawaited; sorted = m.sorted }

-- ---- from all of a CU-CP, and back

module _ {M C : Type 0} where
  abbrev pub Fits : Gnb → Asking M C → Option CuCpContext → Type 0
  Fits gnb a c = FitsThere (CuCp (other_gnb gnb)) a (preparation c)

  abbrev pub Whole : Gnb → CuCpRecord M C → Type 0
  Whole gnb r = DeadlinesFit r × (r.gnb ≡ gnb)

  pub midway : (gnb : Gnb) (ue : UeId) (r : CuCpRecord M C) → Whole gnb r → Midway gnb ue (Fits gnb) r
  midway gnb ue r h = subst (λ (g : Gnb). Midway g ue (Fits g) r) h.1 (record {
    own = refl;
    elsewhere = h.0.elsewhere;
    others = λ v e. h.0.there v;
    here = h.0.there ue;
    unawaited = h.0.unawaited;
    sorted = h.0.sorted;
  })

  pub over : (gnb : Gnb) (ue : UeId) (r : CuCpRecord M C) → Midway gnb ue (Fits gnb) r → Whole gnb r
  over gnb ue r m = (
    record {
      elsewhere = λ v peer e. m.elsewhere v peer (subst (λ (g : Gnb). same_node peer (CuCp (other_gnb g)) ≡ false) m.own e);
      there = λ v. subst (λ (g : Gnb). FitsThere (CuCp (other_gnb g)) (asking_at r.transactions (channel v.0 (CuCp (other_gnb g)))) (preparation (terminal_of r v).context)) (sym m.own) (by v (same_ue v ue) refl);
      unawaited = λ v. subst (λ (g : Gnb). AllByRecursion AwaitedHasDeadline (waits_at r.transactions (channel v.0 (CuCp (other_gnb g))))) (sym m.own) (m.unawaited v);
      sorted = m.sorted;
    },
    m.own,
  )
    where
      by : (v : UeId) (b : Bool) → same_ue v ue ≡ b → FitsThere (other gnb) (asking_at r.transactions (to_other gnb v)) (preparation (terminal_of r v).context)
      by v true e = subst (λ (w : UeId). FitsThere (other gnb) (asking_at r.transactions (to_other gnb w)) (preparation (terminal_of r w).context)) (sym (ue_told v ue e)) m.here
      by v false e = m.others v e
