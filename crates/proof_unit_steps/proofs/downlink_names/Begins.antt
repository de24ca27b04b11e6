-- Requests that are asked for, put and closed: what they name moves along, and all else stays.
use Rattle.std.proofs.Common.{◌≡◌, ◌≤◌, ◌==◌, ℕ, ◌+◌, Bool, true, false, cond, not, ◌&&◌, ◌||◌, List, [], ◌∷◌, ◌++◌, filter, Option, Some, None, refl, sym, ap, ◌∙◌, subst, eqb-true, arith}
use Rattle.std.specs.Prelude.{if◌then◌else◌}
use Rattle.std.specs.List.{AllByRecursion}
use Rattle.std.specs.Ordering.{is_eq, eq_by_cmp}
use Rattle.std.specs.Cmp.{IsTotalOrder, tied_itself, Equal-is}
use Rattle.std.specs.BTreeMap.{is_at}
use Rattle.std.specs.declared.cmp.Ordering.{Ordering}
use Rattle.gnb_types.specs.declared.names.NodeId.{NodeId}
use Rattle.gnb_types.specs.declared.names.UeId.{UeId}
use Rattle.gnb_types.specs.declared.names.BearerId.{BearerId}
use Rattle.gnb_types.specs.declared.keys.Channel.{Channel}
use Rattle.gnb_types.specs.declared.plans.Tunnel.{Tunnel}
use Rattle.gnb_types.specs.Orders.{channel_cmp}
use Rattle.gnb_types.proofs.OrderLemmas.{channel_total, channel_exact}
use Rattle.tables.specs.Tables.{find, put, without, at}
use Rattle.tables.proofs.TableLaws.{at-put, at-without}
use Rattle.transaction_defs.specs.Callers.{last_instance, Opened, Caller, opened_at, is_open, begun, running, spent as begins_no_more, begun_with, begin_after, begin, with_request, keep_request, has_instance, is_awaited, close}
use Rattle.transaction_defs.specs.Callees.{Kept}
use Rattle.message_types.specs.declared.e1.E1Message.TheVariants as e1s
use Rattle.message_types.specs.declared.f1.F1.TheVariants as f1s
use Rattle.message_types.specs.declared.xn.XnMessage.TheVariants as xns
use Rattle.message_types.specs.declared.xn.CoreMessage.TheVariants as cores
use Rattle.unit_defs.specs.Ways.{Message, f1, e1, xn, core, control, Output, Way, Answer, gives, spent}
use Rattle.unit_defs.specs.Messages.{channel}
use Rattle.unit_defs.specs.Transactions.{with_instance, Waiting, Transactions, Asked, is_empty, waits_at, with_waiting, begun_as, begin_request, ask, advance_with, advance, ask_at_once}
use Rattle.intervals.proofs.Intervals.{all_filter}
use Rattle.proof_unit_steps.proofs.packets.Keyed.{keyed_found, keyed_put}
use Rattle.proof_unit_steps.specs.downlink_names.Places.{DownlinkTeid, Grant, Place, away, known, waits, asked, Gives, OnSwitch, NoSwitch, SwitchIs}
use Rattle.proof_unit_steps.specs.downlink_names.Claims.{IsClosed, HasClosed, KeptIs, PutIs, RequestIs, WaitIs, AreMarked, TransactionsAre}
use Rattle.proof_unit_steps.proofs.downlink_names.Moves.{gives_by, on_switch, Source, nowhere, from_waits, same_channel, move, From, from_moves, Moves, stays_there, cp_moves, Asks, KeepsKnown, known_fixed, waits_fixed, IsNew, new_fixes}

-- ---- lists and tables

pub all_as : {X : Type 0} (Q S : X → Type 0) (xs : List X) → ((x : X) → Q x → S x) → AllByRecursion Q xs → AllByRecursion S xs
all_as Q S [] each all = tt
all_as Q S (x ∷ xs) each all = (each x all.0, all_as Q S xs each all.1)

not_so : true ≡ false → ⊥
not_so e = absurd cc

others_without : {K X : Type 0} (R : K → K → Ordering) → IsTotalOrder R → (es : List (K × X)) (k : K)
    → AllByRecursion (λ (e : K × X). e.0 ≡ k → ⊥) (without R es k)
unfolding without
others_without R total [] k = tt
others_without {K = K} {X = X} R total (e ∷ es) k = by (is_at (R k) e.0) refl (others_without R total es k)
  where
    by : (b : Bool) → is_at (R k) e.0 ≡ b → AllByRecursion (λ (f : K × X). f.0 ≡ k → ⊥) (filter (λ f. not (is_at (R k) f.0)) es)
        → AllByRecursion (λ (f : K × X). f.0 ≡ k → ⊥)
        (cond (not b) (e ∷ filter (λ f. not (is_at (R k) f.0)) es) (filter (λ f. not (is_at (R k) f.0)) es))
    by true tie rest = rest
    by false off rest = (λ same. not_so (sym (ap is_eq (tied_itself total k)) ∙ ap (λ (j : K). is_eq (R k j)) (sym same) ∙ off), rest)

-- ---- messages get their instance

pub on_begun : {C : Type 0} (F G : UeId → ℕ → ℕ → List Tunnel → Type 0) (i : ℕ) (m : Message C)
    → ((ue : UeId) (j du : ℕ) (list : List Tunnel) → F ue j du list → G ue i du list) → OnSwitch F m → OnSwitch G (with_instance i m)
unfolding with_instance
on_begun F G i (e1 (e1s.BearerContextModificationRequest ue j (Some list) mode peer down up ss (Some du))) each h = λ is. each ue j du list (h is)
on_begun F G i (e1 (e1s.BearerContextModificationRequest ue j (Some list) mode peer down up ss None)) each h = tt
on_begun F G i (e1 (e1s.BearerContextModificationRequest ue j None mode peer down up ss du)) each h = tt
on_begun F G i (e1 (e1s.E1SetupRequest j name)) each h = tt
on_begun F G i (e1 (e1s.BearerContextSetupRequest ue j count sn quota forward)) each h = tt
on_begun F G i (e1 (e1s.BearerContextReleaseCommand ue j is_final)) each h = tt
on_begun F G i (f1 (f1s.F1SetupRequest j name)) each h = tt
on_begun F G i (f1 (f1s.UeContextSetupRequest ue j epoch uplinks sn peer)) each h = tt
on_begun F G i (f1 (f1s.UeContextModificationRequest ue j epoch)) each h = tt
on_begun F G i (f1 (f1s.UeContextReleaseCommand ue j)) each h = tt
on_begun F G i (xn (xns.HandoverRequest ue j epoch bearers sn quota peer du origin)) each h = tt
on_begun F G i (xn (xns.SnStatusTransfer ue j statuses)) each h = tt
on_begun F G i (xn (xns.HandoverCancel ue j)) each h = tt
on_begun F G i (xn (xns.UeContextRelease ue j)) each h = tt
on_begun F G i (core (cores.PathSwitchRequest ue j peer n3)) each h = tt
on_begun F G i m each h = tt

-- ---- closed instances

tied : (c : Channel) → eq_by_cmp channel_cmp c c ≡ true
tied c = ap is_eq (tied_itself channel_total c)

module _ {M : Type 0} where
  abbrev pub CloseMore : Caller M → Caller M → Type 0
  CloseMore r s = (ch : Channel) (i : ℕ) → IsClosed r ch i → IsClosed s ch i

  abbrev pub LastOf : Caller M → Type 0
  LastOf r = AllByRecursion (λ (e : Channel × Opened M). e.1.instance ≤ at channel_cmp 0 r.last e.0) r.opened

  pub closed_more : (r s : Caller M) (g : Option Grant) → CloseMore r s → HasClosed r g → HasClosed s g
  closed_more r s None more h = tt
  closed_more r s (Some g) more h = more g.channel g.instance h

  -- the last instance of a channel rises where one is begun
  last_rises : (r : Caller M) (c ch : Channel) → at channel_cmp 0 r.last ch ≤ at channel_cmp 0 (put channel_cmp r.last c (at channel_cmp 0 r.last c + 1)) ch
  last_rises r c ch =
      subst (λ (n : ℕ). at channel_cmp 0 r.last ch ≤ n) (sym (at-put channel_total 0 r.last c (at channel_cmp 0 r.last c + 1) ch))
      (by (eq_by_cmp channel_cmp ch c) refl)
    where
      by : (b : Bool) → eq_by_cmp channel_cmp ch c ≡ b → at channel_cmp 0 r.last ch ≤ cond b (at channel_cmp 0 r.last c + 1) (at channel_cmp 0 r.last ch)
      by true tie =
          let same : ch ≡ c = channel_exact ch c ((Equal-is (channel_cmp ch c)).0 tie) in
          let those : at channel_cmp 0 r.last ch ≡ at channel_cmp 0 r.last c = ap (at channel_cmp 0 r.last) same in omega (arith, those)
      by false off = omega arith

  last_here : (r : Caller M) (c : Channel) (n : ℕ) → at channel_cmp 0 (put channel_cmp r.last c n) c ≡ n
  last_here r c n = at-put channel_total 0 r.last c n c ∙ ap (λ (b : Bool). cond b n (at channel_cmp 0 r.last c)) (tied c)

  abbrev begun_caller : Caller M → Channel → Option ℕ → ℕ → Caller M
  begun_caller r c deadline n = record {
    last = put channel_cmp r.last c n;
    opened = put channel_cmp r.opened c (record { instance = n; deadline = deadline; request = None });
  }

  abbrev next_of : Caller M → Channel → ℕ
  next_of r c = at channel_cmp 0 r.last c + 1

  begun_last : (r : Caller M) (c : Channel) (deadline : Option ℕ) → LastOf r → LastOf (begun_caller r c deadline (next_of r c))
  begun_last r c deadline all =
      keyed_put channel_cmp channel_exact (λ (k : Channel) (o : Opened M). o.instance ≤ at channel_cmp 0 (put channel_cmp r.last c (next_of r c)) k) r.opened c
      (record { instance = next_of r c; deadline = deadline; request = None })
      (all_as (λ (e : Channel × Opened M). e.1.instance ≤ at channel_cmp 0 r.last e.0)
      (λ (e : Channel × Opened M). e.1.instance ≤ at channel_cmp 0 (put channel_cmp r.last c (next_of r c)) e.0) r.opened
      (λ e low. let rises = last_rises r c e.0 in omega (arith, low, rises)) all)
      (let here : at channel_cmp 0 (put channel_cmp r.last c (next_of r c)) c ≡ next_of r c = last_here r c (next_of r c) in omega (arith, here))

  abbrev NotAt : Channel → ℕ → Channel → Opened M → Type 0
  NotAt ch i k o = k ≡ ch → o.instance ≡ i → ⊥

  begun_closes : (r : Caller M) (c : Channel) (deadline : Option ℕ) → CloseMore r (begun_caller r c deadline (next_of r c))
  begun_closes r c deadline ch i closed = (
    (let below = closed.0 in let rises = last_rises r c ch in omega (arith, below, rises)),
    keyed_put channel_cmp channel_exact (NotAt ch i) r.opened c
        (record { instance = next_of r c; deadline = deadline; request = None }) closed.1
        (λ same at_i.
        let those : at channel_cmp 0 r.last c ≡ at channel_cmp 0 r.last ch = ap (at channel_cmp 0 r.last) same in
        let below = closed.0 in absurd (omega (arith, those, below, at_i))),
  )

  -- what is put again is kept beside the request
  kept_last : (r : Caller M) (c : Channel) (m : M) → LastOf r → LastOf (keep_request r c m)
  unfolding keep_request opened_at
  kept_last r c m all = by (find channel_cmp r.opened c) refl
    where
      by : (o : Option (Opened M)) → find channel_cmp r.opened c ≡ o → LastOf (with_request r c m o)
      by None is = all
      by (Some o) is =
          keyed_put channel_cmp channel_exact (λ (k : Channel) (x : Opened M). x.instance ≤ at channel_cmp 0 r.last k) r.opened c (record o { request = Some m }) all
          (keyed_found channel_cmp channel_exact (λ (k : Channel) (x : Opened M). x.instance ≤ at channel_cmp 0 r.last k) r.opened c o all is)

  kept_closes : (r : Caller M) (c : Channel) (m : M) → CloseMore r (keep_request r c m)
  unfolding keep_request opened_at
  kept_closes r c m ch i closed = by (find channel_cmp r.opened c) refl
    where
      by : (o : Option (Opened M)) → find channel_cmp r.opened c ≡ o → IsClosed (with_request r c m o) ch i
      by None is = closed
      by (Some o) is = (
        closed.0,
        keyed_put channel_cmp channel_exact (NotAt ch i) r.opened c (record o { request = Some m }) closed.1
            (keyed_found channel_cmp channel_exact (NotAt ch i) r.opened c o closed.1 is),
      )

  pub close_last : (r : Caller M) (c : Channel) → LastOf r → LastOf (close r c)
  unfolding close without
  close_last r c all = all_filter (λ (e : Channel × Opened M). e.1.instance ≤ at channel_cmp 0 r.last e.0) (λ e. not (is_at (channel_cmp c) e.0)) r.opened all

  pub close_closes : (r : Caller M) (c : Channel) → CloseMore r (close r c)
  unfolding close without
  close_closes r c ch i closed =
      (closed.0, all_filter (λ (e : Channel × Opened M). NotAt ch i e.0 e.1) (λ e. not (is_at (channel_cmp c) e.0)) r.opened closed.1)

  -- an awaited instance is closed with its channel
  pub awaited_closes : (r : Caller M) (c : Channel) (i : ℕ) → LastOf r → is_awaited r c i ≡ true → IsClosed (close r c) c i
  unfolding close is_awaited opened_at
  awaited_closes r c i all is = by (find channel_cmp r.opened c) refl is
    where
      by : (o : Option (Opened M)) → find channel_cmp r.opened c ≡ o → has_instance o i ≡ true → IsClosed (close r c) c i
      by None found h = absurd cc
      by (Some o) found h =
          let at_i : o.instance ≡ i = eqb-true o.instance i h in
          let low : o.instance ≤ at channel_cmp 0 r.last c =
          keyed_found channel_cmp channel_exact (λ (k : Channel) (x : Opened M). x.instance ≤ at channel_cmp 0 r.last k) r.opened c o all found in (
            omega (arith, at_i, low),
            all_as (λ (e : Channel × Opened M). e.0 ≡ c → ⊥) (λ (e : Channel × Opened M). NotAt c i e.0 e.1) (without channel_cmp r.opened c)
                (λ e off same at. off same) (others_without channel_cmp channel_total r.opened c),
          )

  pub shut_not_awaited : (r : Caller M) (c : Channel) (i : ℕ) → IsClosed r c i → is_awaited r c i ≡ true → ⊥
  unfolding is_awaited opened_at
  shut_not_awaited r c i closed is = by (find channel_cmp r.opened c) refl is
    where
      by : (o : Option (Opened M)) → find channel_cmp r.opened c ≡ o → has_instance o i ≡ true → ⊥
      by None found h = absurd cc
      by (Some o) found h =
          keyed_found channel_cmp channel_exact (NotAt c i) r.opened c o closed.1 found refl (eqb-true o.instance i h)

-- ---- what waits

pub waits_with : {C : Type 0} (x : Transactions (Message C) C) (c : Channel) (ws : List (Waiting C)) (ch : Channel)
    → waits_at (with_waiting x c ws) ch ≡ cond (eq_by_cmp channel_cmp ch c) ws (waits_at x ch)
unfolding waits_at with_waiting
waits_with x c [] ch = at-without channel_total [] x.waiting c ch
waits_with x c (w ∷ ws) ch = at-put channel_total [] x.waiting c (w ∷ ws) ch

module _ (d : DownlinkTeid) {C : Type 0} where
  pub marked_by : (p q : Place) (ch : Channel) (low low' high high' : ℕ) (ws : List (Waiting C)) → low' ≤ low → high ≤ high'
      → ((mark : ℕ) (b : BearerId) → low ≤ mark → p ≡ waits ch mark b → q ≡ waits ch mark b) → AreMarked d p ch low high ws → AreMarked d q ch low' high' ws
  marked_by p q ch low low' high high' [] down up each h = tt
  marked_by p q ch low low' high high' (w ∷ ws) down up each h =
      let from : low ≤ h.0 = h.1 in
      let to : h.0 + 1 ≤ high = h.2 in (
        h.0,
        omega (arith, from, down),
        omega (arith, to, up),
        on_switch _ _ w.message (λ ue i du list k. (k.0, λ is. gives_by d.teid p q (waits ch h.0) (waits ch h.0) list (λ b e. each h.0 b from e) (k.1 is))) h.3,
        marked_by p q ch (h.0 + 1) (h.0 + 1) high high' ws (omega arith) up (λ mark b above e. each mark b (omega (arith, above, from)) e) h.4,
      )

  marked_add : (p : Place) (ch : Channel) (low high : ℕ) (ws : List (Waiting C)) (w : Waiting C) → low ≤ high → AreMarked d p ch low high ws → WaitIs d p ch high w
      → AreMarked d p ch low (high + 1) (ws ++ w ∷ [])
  marked_add p ch low high [] w down h is = (high, down, omega arith, is, tt)
  marked_add p ch low high (v ∷ ws) w down h is =
      let to : h.0 + 1 ≤ high = h.2 in (h.0, h.1, omega (arith, to), h.3, marked_add p ch (h.0 + 1) high ws w to h.4 is)

  -- what holds of all lists that wait, where those of one channel change
  waiting_put : (Q : Channel → List (Waiting C) → Type 0) (x : Transactions (Message C) C) (c : Channel) (ws : List (Waiting C)) → Q c ws
      → ((ch : Channel) → same_channel ch c ≡ false → Q ch (waits_at x ch)) → (ch : Channel) → Q ch (waits_at (with_waiting x c ws) ch)
  waiting_put Q x c ws here there ch = subst (Q ch) (sym (waits_with x c ws ch)) (by (eq_by_cmp channel_cmp ch c) refl)
    where
      by : (t : Bool) → eq_by_cmp channel_cmp ch c ≡ t → Q ch (cond t ws (waits_at x ch))
      by true tie = subst (λ (k : Channel). Q k ws) (sym (channel_exact ch c ((Equal-is (channel_cmp ch c)).0 tie))) here
      by false off = there ch off

  -- ---- a request to be asked for, whose list is named at this source

  abbrev pub WaitFrom : Place → Source → Channel → Message C → Type 0
  WaitFrom p s c m = OnSwitch (λ ue i du list. (ue.0 ≡ c.ue) × (du ≡ d.du → From d.teid p s list)) m

  pub from_nowhere : (p : Place) (c : Channel) (m : Message C) → NoSwitch m → WaitFrom p nowhere c m
  from_nowhere p c m h = on_switch _ _ m (λ ue i du list none. absurd none) h

  switch_stays : (p q : Place) (up : NodeId) (m : Message C) → Asks p q → SwitchIs d p up m → SwitchIs d q up m
  switch_stays p q up m asks h =
      on_switch _ _ m (λ ue i du list k now. gives_by d.teid p q (asked (channel ue.0 up) i) (asked (channel ue.0 up) i) list
      (λ b e. asks (channel ue.0 up) i b e) (k now)) h

  pub request_stays : (p q : Place) (up : NodeId) (m : Option (Message C)) → Asks p q → RequestIs d p up m → RequestIs d q up m
  request_stays p q up None asks h = tt
  request_stays p q up (Some m) asks h = switch_stays p q up m asks h

  pub put_stays : {P : Type 0} (p q : Place) (o : Output (Message C) P) → Asks p q → PutIs d p o → PutIs d q o
  put_stays p q (control to ue m) asks h = switch_stays p q to m asks h
  put_stays p q o asks h = tt

  -- what switches nothing may be put anywhere
  pub plain_put : (p : Place) (up : NodeId) (m : Message C) → NoSwitch m → SwitchIs d p up m
  plain_put p up m h = on_switch _ _ m (λ ue i du list none. absurd none) h

  begun_is : (p : Place) (s : Source) (c : Channel) (i : ℕ) (m : Message C) → WaitFrom p s c m → SwitchIs d (move s (asked c i) p) c.peer (with_instance i m)
  begun_is p s c i m h =
      on_begun _ _ i m (λ ue j du list k is.
      subst (λ (n : ℕ). Gives d.teid (move s (asked c i) p) (asked (channel n c.peer) i) list) (sym k.0) (from_moves d.teid p s (asked c i) list (k.1 is))) h

  abbrev pub Opens : Place → Caller (Message C) → Type 0
  Opens p r = AllByRecursion (λ (e : Channel × Opened (Message C)). RequestIs d p e.0.peer e.1.request) r.opened

  pub opens_stay : (p q : Place) (r : Caller (Message C)) → Asks p q → Opens p r → Opens q r
  opens_stay p q r asks all =
      all_as (λ (e : Channel × Opened (Message C)). RequestIs d p e.0.peer e.1.request)
      (λ (e : Channel × Opened (Message C)). RequestIs d q e.0.peer e.1.request) r.opened
      (λ e h. request_stays p q e.0.peer e.1.request asks h) all

  -- where it is put, or waits: the place moves from the source, or it stays
  abbrev pub AskedIs : {P : Type 0} → Option Grant → Place → Answer (Message C) P (Asked (Message C) C) → Type 0
  AskedIs {P} g q (gives outputs a) =
      (high : ℕ) × AllByRecursion (λ (o : Output (Message C) P). PutIs d q o) outputs × TransactionsAre d g q high a.transactions
  AskedIs g q (spent counter) = Unit {0}

  pub record Went {P : Type 0} (g : Option Grant) (p : Place) (s : Source) (a : Answer (Message C) P (Asked (Message C) C)) : Type 0 where
    pub place : Place
    pub moves : Moves p place
    pub keeps : (u : ℕ) (b : BearerId) → KeepsKnown s u → p ≡ known u b → place ≡ known u b
    pub from_none : s ≡ nowhere → place ≡ p
    pub is : AskedIs g place a

  stayed : {P : Type 0} (g : Option Grant) (p : Place) (s : Source) (a : Answer (Message C) P (Asked (Message C) C)) → AskedIs g p a → Went g p s a
  stayed g p s a h = record { place = p; moves = stays_there p; keeps = λ u b k e. e; from_none = λ e. refl; is = h }

  moved : {P : Type 0} (g : Option Grant) (p : Place) (s : Source) (to : BearerId → Place) (a : Answer (Message C) P (Asked (Message C) C))
      → AskedIs g (move s to p) a → Went g p s a
  moved g p s to a h = record {
    place = move s to p;
    moves = cp_moves s to p;
    keeps = λ u b k e. ap (move s to) e ∙ known_fixed s to u b k;
    from_none = λ e. ap (λ (x : Source). move x to p) e;
    is = h;
  }

  module _ {P : Type 0} (way : Way (Message C) C P) (same : (m : Message C) → way.encode m ≡ m) (g : Option Grant) where
    -- a caller that closes more, at a place that moved
    closed_stays : (p q : Place) (r s : Caller (Message C)) → Moves p q → CloseMore r s → ((p ≡ away → ⊥) → HasClosed r g)
        → (q ≡ away → ⊥) → HasClosed s g
    closed_stays p q r s moves more h not = closed_more r s g more (h (λ e. not (moves.aways e)))

    begun_went : (p : Place) (s : Source) (high : ℕ) (x : Transactions (Message C) C) (c : Channel) (w : Waiting C) → WaitFrom p s c w.message
        → Opens p x.caller → LastOf x.caller → AllByRecursion (λ (e : Channel × Kept (Message C)). KeptIs e.1.reply) x.callee
        → ((p ≡ away → ⊥) → HasClosed x.caller g) → ((ch : Channel) → AreMarked d p ch 0 high (waits_at x ch))
        → ((to : BearerId → Place) (ch : Channel) → AreMarked d (move s to p) ch 0 high (waits_at x ch))
        → Went g p s (begin_request way x c w)
    unfolding begin_request begin opened_at keep_request waits_at
    begun_went p s high x c w from opened last kept closed here there = by (find channel_cmp x.caller.opened c)
      where
        caller : Caller (Message C)
        caller = begun_caller x.caller c w.deadline (next_of x.caller c)

        message : Message C
        message = with_instance (next_of x.caller c) w.message

        place : Place
        place = move s (asked c (next_of x.caller c)) p

        opens : Opens place (keep_request caller c message)
        opens = with_it (opened_at caller c)
          where
            fresh : Opens place caller
            fresh =
                keyed_put channel_cmp channel_exact (λ (k : Channel) (o : Opened (Message C)). RequestIs d place k.peer o.request) x.caller.opened c
                (record { instance = next_of x.caller c; deadline = w.deadline; request = None })
                (opens_stay p place x.caller (cp_moves s (asked c (next_of x.caller c)) p).asks opened) tt

            with_it : (o : Option (Opened (Message C))) → Opens place (with_request caller c message o)
            with_it None = fresh
            with_it (Some o) =
                keyed_put channel_cmp channel_exact (λ (k : Channel) (o : Opened (Message C)). RequestIs d place k.peer o.request) caller.opened c
                (record o { request = Some message }) fresh (begun_is p s c (next_of x.caller c) w.message from)

        are : TransactionsAre d g place high (record x { caller = keep_request caller c message })
        are = record {
          opened = opens;
          last = kept_last caller c message (begun_last x.caller c w.deadline last);
          waiting = there (asked c (next_of x.caller c));
          kept = kept;
          closed = closed_stays p place x.caller (keep_request caller c message) (cp_moves s (asked c (next_of x.caller c)) p)
              (λ ch i h. kept_closes caller c message ch i (begun_closes x.caller c w.deadline ch i h)) closed;
        }

        -- what is put is the message as it is
        spelled : (m : Message C) → message ≡ m → AskedIs g place (begun_as way x c w (begun (next_of x.caller c) caller))
        spelled m e = (
          high,
          (subst (λ (n : Message C). SwitchIs d place c.peer n) (sym (same message)) (begun_is p s c (next_of x.caller c) w.message from), tt),
          subst (λ (n : Message C). TransactionsAre d g place high (record x { caller = keep_request caller c n })) (sym (same message)) are,
        )

        fresh : (t : Bool) → Went g p s (begun_as way x c w (if t then begins_no_more else begun_with x.caller c w.deadline (next_of x.caller c)))
        fresh true = stayed g p s (begun_as way x c w begins_no_more) tt
        fresh false = moved g p s (asked c (next_of x.caller c)) (begun_as way x c w (begun (next_of x.caller c) caller)) (spelled message refl)

        by : (o : Option (Opened (Message C))) → Went g p s (begun_as way x c w (begin_after x.caller c w.deadline o (at channel_cmp 0 x.caller.last c)))
        by (Some o) =
            stayed g p s (begun_as way x c w running) (high, tt, record { opened = opened; last = last; waiting = here; kept = kept; closed = closed })
        by None = fresh (at channel_cmp 0 x.caller.last c == last_instance)

    marked_stays : (p : Place) (s : Source) (to : BearerId → Place) (ch : Channel) (high high' : ℕ) (ws : List (Waiting C)) → IsNew s → high ≤ high'
        → AreMarked d p ch 0 high ws → AreMarked d (move s to p) ch 0 high' ws
    marked_stays p s to ch high high' ws new up h =
        marked_by p (move s to p) ch 0 0 high high' ws (omega arith) up
        (λ mark b above e. ap (move s to) e ∙ waits_fixed s to ch mark b (new_fixes s ch mark new)) h

    pub ask_went : (p : Place) (s : Source) (high : ℕ) (x : Transactions (Message C) C) (c : Channel) (w : Waiting C) → IsNew s → WaitFrom p s c w.message
        → TransactionsAre d g p high x → Went g p s (ask way x c w)
    unfolding ask with_waiting
    ask_went p s high x c w new from h = by (is_open x.caller c || not (is_empty (waits_at x c)))
      where
        place : Place
        place = move s (waits c high) p

        waits_so : WaitIs d place c high w
        waits_so = on_switch _ _ w.message (λ ue i du list k. (k.0, λ is. from_moves d.teid p s (waits c high) list (k.1 is))) from

        by : (t : Bool) → Went g p s (if t
            then gives [] (record { transactions = with_waiting x c (waits_at x c ++ w ∷ []); awaited = None })
            else begin_request way x c w)
        by true = moved g p s (waits c high) (gives [] (record { transactions = with_waiting x c (waits_at x c ++ w ∷ []); awaited = None })) (
          high + 1,
          tt,
          record {
            opened = opens_stay p place x.caller (cp_moves s (waits c high) p).asks h.opened;
            last = h.last;
            waiting =
                waiting_put (λ ch ws. AreMarked d place ch 0 (high + 1) ws) x c (waits_at x c ++ w ∷ [])
                (marked_add place c 0 high (waits_at x c) w (omega arith) (marked_stays p s (waits c high) c high high (waits_at x c) new (omega arith) (h.waiting c)) waits_so)
                (λ ch off. marked_stays p s (waits c high) ch high (high + 1) (waits_at x ch) new (omega arith) (h.waiting ch));
            kept = h.kept;
            closed = closed_stays p place x.caller x.caller (cp_moves s (waits c high) p) (λ ch i k. k) h.closed;
          },
        )
        by false =
            begun_went p s high x c w from h.opened h.last h.kept h.closed h.waiting
            (λ to ch. marked_stays p s to ch high high (waits_at x ch) new (omega arith) (h.waiting ch))

    -- what waits longest is put
    pub advance_went : (p : Place) (high : ℕ) (x : Transactions (Message C) C) (c : Channel) → TransactionsAre d g p high x
        → (s : Source) × ((u : ℕ) → KeepsKnown s u) × Went g p s (advance way x c)
    unfolding advance with_waiting
    advance_went p high x c h = by (is_open x.caller c) (waits_at x c) (h.waiting c)
      where
        rests : Went {P = P} g p nowhere (gives [] (record { transactions = x; awaited = None }))
        rests = stayed g p nowhere (gives [] (record { transactions = x; awaited = None })) (high, tt, h)

        off_and : (a b : Bool) → a ≡ false → a && b ≡ false
        off_and true b e = absurd cc
        off_and false b e = refl

        and_off : (a b : Bool) → b ≡ false → a && b ≡ false
        and_off true b e = e
        and_off false b e = refl

        apart : (n m : ℕ) → m + 1 ≤ n → n == m ≡ false
        apart n m above = other (n == m) refl
          where
            other : (t : Bool) → n == m ≡ t → n == m ≡ false
            other true e = let same : n ≡ m = eqb-true n m e in absurd (omega (arith, above, same))
            other false e = e

        put_it : (w : Waiting C) (ws : List (Waiting C)) → AreMarked d p c 0 high (w ∷ ws)
            → (s : Source) × ((u : ℕ) → KeepsKnown s u) × Went g p s (begin_request way (with_waiting x c ws) c w)
        put_it w ws k = (
          from_waits c k.0,
          λ u. tt,
          begun_went p (from_waits c k.0) high (with_waiting x c ws) c w k.3 h.opened h.last h.kept h.closed
              (waiting_put (λ ch vs. AreMarked d p ch 0 high vs) x c ws
              (marked_by p p c (k.0 + 1) 0 high high ws (omega arith) (omega arith) (λ m b up e. e) k.4) (λ ch off. h.waiting ch))
              (λ to. waiting_put (λ ch vs. AreMarked d (move (from_waits c k.0) to p) ch 0 high vs) x c ws
              (marked_by p (move (from_waits c k.0) to p) c (k.0 + 1) 0 high high ws (omega arith) (omega arith)
              (λ m b up e. ap (move (from_waits c k.0) to) e
              ∙ waits_fixed (from_waits c k.0) to c m b (and_off (same_channel c c) (m == k.0) (apart m k.0 up))) k.4)
              (λ ch off. marked_by p (move (from_waits c k.0) to p) ch 0 0 high high (waits_at x ch) (omega arith) (omega arith)
              (λ m b up e. ap (move (from_waits c k.0) to) e ∙ waits_fixed (from_waits c k.0) to ch m b (off_and (same_channel ch c) (m == k.0) off))
              (h.waiting ch))),
        )

        by : (t : Bool) (ws : List (Waiting C)) → AreMarked d p c 0 high ws
            → (s : Source) × ((u : ℕ) → KeepsKnown s u)
            × Went g p s (if t then gives [] (record { transactions = x; awaited = None }) else advance_with way x c ws)
        by true ws k = (nowhere, λ u. tt, rests)
        by false [] k = (nowhere, λ u. tt, rests)
        by false (w ∷ ws) k = put_it w ws k

    -- a request that goes before all else
    pub closed_are : (p : Place) (high : ℕ) (x : Transactions (Message C) C) (c : Channel) → TransactionsAre d g p high x
        → TransactionsAre d g p high (record x { caller = close x.caller c })
    unfolding close without waits_at
    closed_are p high x c h = record {
      opened = all_filter (λ (e : Channel × Opened (Message C)). RequestIs d p e.0.peer e.1.request) (λ e. not (is_at (channel_cmp c) e.0)) x.caller.opened h.opened;
      last = close_last x.caller c h.last;
      waiting = h.waiting;
      kept = h.kept;
      closed = λ not. closed_more x.caller (close x.caller c) g (close_closes x.caller c) (h.closed not);
    }

    pub with_waiting_are : (p : Place) (high : ℕ) (x : Transactions (Message C) C) (c : Channel) (ws : List (Waiting C)) → TransactionsAre d g p high x
        → AreMarked d p c 0 high ws → TransactionsAre d g p high (with_waiting x c ws)
    unfolding with_waiting
    with_waiting_are p high x c ws h k = record {
      opened = h.opened;
      last = h.last;
      waiting = waiting_put (λ ch vs. AreMarked d p ch 0 high vs) x c ws k (λ ch off. h.waiting ch);
      kept = h.kept;
      closed = h.closed;
    }

    pub at_once_went : (p : Place) (high : ℕ) (x : Transactions (Message C) C) (c : Channel) (w : Waiting C) → NoSwitch w.message
        → TransactionsAre d g p high x → Went g p nowhere (ask_at_once way x c w)
    unfolding ask_at_once
    at_once_went p high x c w none h =
        let y : Transactions (Message C) C = with_waiting (record x { caller = close x.caller c }) c [] in
        let k : TransactionsAre d g p high y = with_waiting_are p high (record x { caller = close x.caller c }) c [] (closed_are p high x c h) tt in
        begun_went p nowhere high y c w (from_nowhere p c w.message none) k.opened k.last k.kept k.closed k.waiting (λ to ch. k.waiting ch)
