-- What a row says, and which rows keep deadlines: those that prepare nothing, that begin a handover to the other gNB, that cancel one,
-- and those that leave a terminal as it is.
use Rattle.std.proofs.Common.{inl, inr, ◌≡◌, ◌⊎◌, ◌==◌, ℕ, Bool, true, false, List, [], ◌∷◌, ◌++◌, Option, Some, None, refl, sym, ap, ◌∙◌, subst}
use Rattle.std.specs.Prelude.{if◌then◌else◌, map}
use Rattle.std.specs.List.{AllByRecursion}
use Rattle.gnb_types.specs.declared.names.Gnb.{Gnb}
use Rattle.gnb_types.specs.declared.names.NodeId.{NodeId}
use Rattle.gnb_types.specs.declared.names.NodeId.TheVariants.{CuCp}
use Rattle.gnb_types.specs.declared.names.UeId.{UeId}
use Rattle.transaction_defs.specs.Callers.{Opened}
use Rattle.unit_defs.specs.declared.StateName.{StateName}
use Rattle.unit_defs.specs.declared.StateName.TheVariants as states
use Rattle.unit_defs.specs.declared.AttemptKind.{AttemptKind}
use Rattle.unit_defs.specs.declared.AttemptKind.TheVariants as kinds
use Rattle.unit_defs.specs.Ways.{Message, Way, Answer, gives, spent, ◌then◌}
use Rattle.unit_defs.specs.Messages.{channel}
use Rattle.unit_defs.specs.Transactions.{Waiting, Transactions, waits_at, ask, ask_at_once, replied, replied_late}
use Rattle.unit_defs.specs.CuCpRecords.{Awaited, Attempt, CuCpContext, CuCpTerminal, CuCpRecord, terminal_of, with_terminal, with_transactions, with_instance_of, is_from, awaiting, begun, on_attempt, on_context, with_attempt, waiting_of, after_begun, not_awaited, forgotten, Action, asks, cancels, replies, replies_late, sends, fails, ignores, refuses, forgets, act_one, act_all, Row, row, row_spent, carry_out}
use Rattle.law_requests_act_once.specs.channel.Ends.{same_node, Asking, asking_at}
use Rattle.law_requests_act_once.specs.channel.Exactly.{IfGives}
use Rattle.law_requests_act_once.proofs.channel.Keys.{node_told, node_apart}
use Rattle.law_requests_act_once.specs.channel_rows.IsPlayed.{HasNoDeadline, IsUndated}
use Rattle.law_requests_act_once.specs.cu_cp_deadlines.Deadlines.{prepared_in, prepared_of, preparation, OpenIsUndated, HasOneDeadline, IsTheOnly, AwaitsOnly, FitsThere, AwaitedHasDeadline}
use Rattle.law_requests_act_once.proofs.cu_cp_deadlines.Changes.{gives_then, begun_on, Becomes, ask_becomes, at_once_becomes}
use Rattle.law_requests_act_once.proofs.cu_cp_deadlines.Midway.{none_kept, forgotten_at, other, to_other, Midway, asked_aside, asked_there, asked_nothing, put_there, attempt_there, holds_as, Fits, Whole, midway, over}

pub all_push : {C : Type 0} (Q : Waiting C → Type 0) (ws : List (Waiting C)) (w : Waiting C) → AllByRecursion Q ws → Q w → AllByRecursion Q (ws ++ w ∷ [])
all_push Q [] w all is = (is, tt)
all_push Q (v ∷ vs) w all is = (all.0, all_push Q vs w all.1 is)

-- after requests without a deadline
pub push_one : {C : Type 0} (ws : List (Waiting C)) (w : Waiting C) → AllByRecursion HasNoDeadline ws → HasOneDeadline (ws ++ w ∷ [])
push_one [] w all = inr tt
push_one (v ∷ vs) w all = inl (all.0, push_one vs w all.1)

-- a unit, or the core: not the other CU-CP
abbrev pub IsUnit : NodeId → Type 0
IsUnit (CuCp gnb) = ⊥
IsUnit node = Unit {0}

unit_aside : (gnb : Gnb) (n : NodeId) → IsUnit n → same_node n (other gnb) ≡ false
unit_aside gnb n is = node_apart n (other gnb) (λ e. subst IsUnit e is)

module _ {M C P : Type 0} (way : Way M C P) (gnb : Gnb) (ue : UeId) where
  abbrev Record : Type 0
  Record = CuCpRecord M C

  abbrev Mid : (Asking M C → Option CuCpContext → Type 0) → Record → Type 0
  Mid X r = Midway gnb ue X r

  abbrev Leads : (Asking M C → Option CuCpContext → Type 0) → Answer M P Record → Type 0
  Leads X a = IfGives (λ q. Mid X q) a

  abbrev peer : NodeId
  peer = other gnb

  -- nothing is prepared, and Y of what is asked of the other CU-CP
  abbrev pub Prepares-none : (Asking M C → Type 0) → Asking M C → Option CuCpContext → Type 0
  Prepares-none Y a c = Y a × (preparation c ≡ None)

  abbrev pub Any : Asking M C → Option CuCpContext → Type 0
  Any = Prepares-none (λ a. Unit {0})

  abbrev pub Calm : Asking M C → Option CuCpContext → Type 0
  Calm = Prepares-none IsUndated

  -- ---- what is said: beside the other CU-CP; without touching the attempt; and of no deadline

  abbrev pub IsAside : Action C → Type 0
  IsAside (asks to m deadline awaited) = IsUnit to × (deadline ≡ None)
  IsAside (cancels to m) = ⊥
  IsAside forgets = ⊥
  IsAside what = Unit {0}

  abbrev pub IsQuiet : Action C → Type 0
  IsQuiet (asks to m deadline awaited) = IsUnit to × (deadline ≡ None) × (awaited ≡ false)
  IsQuiet (cancels to m) = ⊥
  IsQuiet forgets = ⊥
  IsQuiet what = Unit {0}

  abbrev pub IsPlain : Action C → Type 0
  IsPlain (asks to m deadline awaited) = (deadline ≡ None) × (IsUnit to ⊎ (awaited ≡ false))
  IsPlain (cancels to m) = to ≡ peer
  IsPlain what = Unit {0}

  -- ---- attempts of terminals that prepare nothing

  module _ {Y : Asking M C → Type 0} where
    pub begun_keeps : (r : Record) (to : NodeId) (o : Option ℕ) → Mid (Prepares-none Y) r → Mid (Prepares-none Y) (after_begun way ue to r o)
    begun_keeps r to None m = m
    begun_keeps r to (Some n) m =
        attempt_there gnb ue r m (λ a. begun a to n) (m.here.0, none_kept (λ a. begun a to n) (λ a. refl) (terminal_of r ue).context m.here.1)

    noted_keeps : (r : Record) (to : NodeId) → Mid (Prepares-none Y) r → Mid (Prepares-none Y) (with_attempt ue (λ a. awaiting a to) r)
    noted_keeps r to m =
        attempt_there gnb ue r m (λ a. awaiting a to) (m.here.0, none_kept (λ a. awaiting a to) (λ a. refl) (terminal_of r ue).context m.here.1)

  -- ---- a request without a deadline is asked

  undated_push : (a : Asking M C) (w : Waiting C) → HasNoDeadline w → IsUndated a → IsUndated (record a { waits = a.waits ++ w ∷ [] })
  undated_push a w none dates = (dates.0, all_push HasNoDeadline a.waits w dates.1 none)

  undated_begun : (w : Waiting C) (n : ℕ) (x : M) (ws : List (Waiting C)) → HasNoDeadline w → AllByRecursion HasNoDeadline ws → IsUndated (begun_on w n x ws)
  undated_begun w n x ws none all =
      (λ o is. let same : record { instance = n; deadline = w.deadline; request = Some x } ≡ o = cc in ap (λ (q : Opened M). q.deadline) (sym same) ∙ none, all)

  aside_becomes : (t : Transactions M C) (to : NodeId) (w : Waiting C) → HasNoDeadline w → IsUndated (asking_at t (channel ue.0 to))
      → IfGives (λ a. Becomes way t (channel ue.0 to) (λ x i. IsUndated x) a) (ask way t (channel ue.0 to) w)
  unfolding waits_at
  aside_becomes t to w none dates =
      ask_becomes way t (channel ue.0 to) (λ x i. IsUndated x) w dates (undated_push (asking_at t (channel ue.0 to)) w none dates)
      (λ n x z. undated_begun w n x (waits_at t (channel ue.0 to)) none dates.1)

  -- to another peer than the other CU-CP, where nothing is prepared
  aside_asks : {Y : Asking M C → Type 0} (r : Record) (to : NodeId) (m : Message C) (awaited : Bool) → same_node to peer ≡ false → Mid (Prepares-none Y) r
      → Leads (Prepares-none Y) (act_one way ue r (asks to m None awaited))
  unfolding act_one
  aside_asks {Y} r to m true apart mid =
      gives_then (λ a. Becomes way r.transactions (channel ue.0 to) (λ x i. IsUndated x) a) (λ q. Mid (Prepares-none Y) q)
      (ask way r.transactions (channel ue.0 to) (waiting_of way m None true)) _
      (aside_becomes r.transactions to (waiting_of way m None true) refl (mid.elsewhere ue to apart))
      (λ a b. begun_keeps (with_transactions (with_attempt ue (λ x. awaiting x to) r) a.transactions) to a.awaited
      (asked_aside gnb ue (with_attempt ue (λ x. awaiting x to) r) (noted_keeps r to mid) to apart b.asks b.fits))
  aside_asks {Y} r to m false apart mid =
      gives_then (λ a. Becomes way r.transactions (channel ue.0 to) (λ x i. IsUndated x) a) (λ q. Mid (Prepares-none Y) q)
      (ask way r.transactions (channel ue.0 to) (waiting_of way m None false)) _
      (aside_becomes r.transactions to (waiting_of way m None false) refl (mid.elsewhere ue to apart))
      (λ a b. begun_keeps (with_transactions r a.transactions) to a.awaited (asked_aside gnb ue r mid to apart b.asks b.fits))

  -- where no attempt awaits it, whatever is prepared
  quiet_asks : {X : Asking M C → Option CuCpContext → Type 0} (r : Record) (to : NodeId) (m : Message C) → same_node to peer ≡ false → Mid X r
      → Leads X (act_one way ue r (asks to m None false))
  unfolding act_one waits_at
  quiet_asks {X} r to m apart mid =
      let c = channel ue.0 to in
      let w : Waiting C = waiting_of way m None false in
      let dates = mid.elsewhere ue to apart in
      gives_then (λ a. Becomes way r.transactions (channel ue.0 to) (λ x i. IsUndated x × (i ≡ None)) a) (λ q. Mid X q)
      (ask way r.transactions (channel ue.0 to) (waiting_of way m None false)) _
      (ask_becomes way r.transactions (channel ue.0 to) (λ x i. IsUndated x × (i ≡ None)) (waiting_of way m None false) (dates, refl)
      (undated_push (asking_at r.transactions (channel ue.0 to)) (waiting_of way m None false) refl dates, refl)
      (λ n x z. (undated_begun (waiting_of way m None false) n x (waits_at r.transactions (channel ue.0 to)) refl dates.1, refl)))
      (λ a b. subst (λ (o : Option ℕ). Mid X (after_begun way ue to (with_transactions r a.transactions) o)) (sym b.fits.1)
      (asked_aside gnb ue r mid to apart b.asks b.fits.0))

  abbrev Unawaited : Asking M C → Option ℕ → Type 0
  Unawaited x i = IsUndated x × AllByRecursion AwaitedHasDeadline x.waits

  -- to the other CU-CP, where nothing is prepared and nothing there has a deadline
  there_asks : (r : Record) (m : Message C) → Mid Calm r → Leads Calm (act_one way ue r (asks peer m None false))
  unfolding act_one waits_at
  there_asks r m mid =
      gives_then (λ a. Becomes way r.transactions (to_other gnb ue) Unawaited a) (λ q. Mid Calm q)
      (ask way r.transactions (to_other gnb ue) (waiting_of way m None false)) _
      (ask_becomes way r.transactions (to_other gnb ue) Unawaited (waiting_of way m None false) (mid.here.0, mid.unawaited ue) (
        undated_push (asking_at r.transactions (to_other gnb ue)) (waiting_of way m None false) refl mid.here.0,
        all_push AwaitedHasDeadline (waits_at r.transactions (to_other gnb ue)) (waiting_of way m None false) (mid.unawaited ue) (λ e. refl),
      )
      (λ n x z. (undated_begun (waiting_of way m None false) n x (waits_at r.transactions (to_other gnb ue)) refl mid.here.0.1, mid.unawaited ue)))
      (λ a b. begun_keeps (with_transactions r a.transactions) peer a.awaited (asked_there gnb ue r mid b.asks b.fits.1 (b.fits.0, mid.here.1)))

  -- a cancel: what was open or waited there is given up
  pub cancel_says : (r : Record) (m : Message C) → Mid Any r → Leads Calm (act_one way ue r (cancels peer m))
  unfolding act_one waits_at
  cancel_says r m mid =
      gives_then (λ a. Becomes way r.transactions (to_other gnb ue) Unawaited a) (λ q. Mid Calm q)
      (ask_at_once way r.transactions (to_other gnb ue) (waiting_of way m None false)) _
      (at_once_becomes way r.transactions (to_other gnb ue) Unawaited (waiting_of way m None false) (((λ o is. absurd cc), tt), tt)
      (λ n x z. (undated_begun (waiting_of way m None false) n x [] refl tt, tt)))
      (λ a b. begun_keeps (with_transactions r a.transactions) peer a.awaited (asked_there gnb ue r mid b.asks b.fits.1 (b.fits.0, mid.here.1)))

  -- ---- replies

  pub replied_leads : {X : Asking M C → Option CuCpContext → Type 0} (r : Record) (to : NodeId) (m : Message C) → Mid X r → Leads X (act_one way ue r (replies to m))
  unfolding act_one replied waits_at
  replied_leads r to m mid = asked_nothing gnb ue r mid _ (λ c. refl) mid.sorted

  late_leads : {X : Asking M C → Option CuCpContext → Type 0} (r : Record) (to : NodeId) (n : ℕ) (m : Message C) → Mid X r → Leads X (act_one way ue r (replies_late to n m))
  unfolding act_one replied_late waits_at
  late_leads r to n m mid = asked_nothing gnb ue r mid _ (λ c. refl) mid.sorted

  -- ---- what waits is awaited by no attempt

  unawaited_now : (b : Bool) (ws : List (Waiting C)) → AllByRecursion AwaitedHasDeadline ws → AllByRecursion AwaitedHasDeadline (if b then map (not_awaited way) ws else ws)
  unawaited_now false ws all = all
  unawaited_now true [] all = tt
  unawaited_now true (w ∷ ws) all = ((λ e. refl), unawaited_now true ws all.1)

  undated_still : (b : Bool) (ws : List (Waiting C)) → AllByRecursion HasNoDeadline ws → AllByRecursion HasNoDeadline (if b then map (not_awaited way) ws else ws)
  undated_still false ws all = all
  undated_still true [] all = tt
  undated_still true (w ∷ ws) all = (all.0, undated_still true ws all.1)

  one_still : (b : Bool) (ws : List (Waiting C)) → HasOneDeadline ws → HasOneDeadline (if b then map (not_awaited way) ws else ws)
  one_still false ws one = one
  one_still true [] one = tt
  one_still true (w ∷ ws) (inl more) = inl (more.0, one_still true ws more.1)
  one_still true (w ∷ ws) (inr all) = inr (undated_still true ws all)

  forget_leads : (r : Record) → Mid Calm r → Mid Calm (with_transactions r (forgotten way ue r.transactions))
  unfolding waits_at
  forget_leads r mid = record {
    own = mid.own;
    elsewhere = λ v p e. undated_at (channel v.0 p) (mid.elsewhere v p e);
    others = λ v e. by v (preparation (terminal_of r v).context) (mid.others v e);
    here = (undated_at (to_other gnb ue) mid.here.0, mid.here.1);
    unawaited = λ v. subst (λ (ws : List (Waiting C)). AllByRecursion AwaitedHasDeadline ws) (sym (forgotten_at way ue r.transactions (to_other gnb v)))
        (unawaited_now (v.0 == ue.0) (waits_at r.transactions (to_other gnb v)) (mid.unawaited v));
    sorted = mid.sorted;
  }
    where
      undated_at : (c : _) → IsUndated (asking_at r.transactions c) → IsUndated (asking_at (forgotten way ue r.transactions) c)
      undated_at c dates = (
        dates.0,
        subst (λ (ws : List (Waiting C)). AllByRecursion HasNoDeadline ws) (sym (forgotten_at way ue r.transactions c)) (undated_still (c.ue == ue.0) (waits_at r.transactions c) dates.1),
      )

      only : (v : UeId) (b : Attempt) → IsTheOnly (asking_at r.transactions (to_other gnb v)) b → IsTheOnly (asking_at (forgotten way ue r.transactions) (to_other gnb v)) b
      only v b (inl all) = inl (subst (λ (ws : List (Waiting C)). AllByRecursion HasNoDeadline ws) (sym (forgotten_at way ue r.transactions (to_other gnb v)))
          (undated_still (v.0 == ue.0) (waits_at r.transactions (to_other gnb v)) all))
      only v b (inr waits) = inr (
        waits.0,
        subst (λ (ws : List (Waiting C)). HasOneDeadline ws) (sym (forgotten_at way ue r.transactions (to_other gnb v)))
            (one_still (v.0 == ue.0) (waits_at r.transactions (to_other gnb v)) waits.1),
        waits.2,
      )

      by : (v : UeId) (p : Option Attempt) → FitsThere peer (asking_at r.transactions (to_other gnb v)) p
          → FitsThere peer (asking_at (forgotten way ue r.transactions) (to_other gnb v)) p
      by v None fits = undated_at (to_other gnb v) fits
      by v (Some b) fits = (only v b fits.0, fits.1)

  -- ---- one thing that is said, and all

  pub aside_says : {Y : Asking M C → Type 0} (r : Record) (s : Action C) → IsAside s → Mid (Prepares-none Y) r → Leads (Prepares-none Y) (act_one way ue r s)
  unfolding act_one
  aside_says {Y} r (asks to m deadline awaited) is mid =
      subst (λ (d : Option ℕ). Leads (Prepares-none Y) (act_one way ue r (asks to m d awaited))) (sym is.1) (aside_asks r to m awaited (unit_aside gnb to is.0) mid)
  aside_says r (cancels to m) is mid = absurd is
  aside_says r (replies to m) is mid = replied_leads r to m mid
  aside_says r (replies_late to n m) is mid = late_leads r to n m mid
  aside_says r (sends to m) is mid = mid
  aside_says r (fails cause) is mid = mid
  aside_says r (ignores reason) is mid = mid
  aside_says r (refuses reason) is mid = mid
  aside_says r forgets is mid = absurd is

  quiet_says : {X : Asking M C → Option CuCpContext → Type 0} (r : Record) (s : Action C) → IsQuiet s → Mid X r → Leads X (act_one way ue r s)
  unfolding act_one
  quiet_says {X} r (asks to m deadline awaited) is mid =
      subst (λ (d : Option ℕ). Leads X (act_one way ue r (asks to m d awaited))) (sym is.1)
      (subst (λ (b : Bool). Leads X (act_one way ue r (asks to m None b))) (sym is.2) (quiet_asks r to m (unit_aside gnb to is.0) mid))
  quiet_says r (cancels to m) is mid = absurd is
  quiet_says r (replies to m) is mid = replied_leads r to m mid
  quiet_says r (replies_late to n m) is mid = late_leads r to n m mid
  quiet_says r (sends to m) is mid = mid
  quiet_says r (fails cause) is mid = mid
  quiet_says r (ignores reason) is mid = mid
  quiet_says r (refuses reason) is mid = mid
  quiet_says r forgets is mid = absurd is

  plain_says : (r : Record) (s : Action C) → IsPlain s → Mid Calm r → Leads Calm (act_one way ue r s)
  unfolding act_one
  plain_says r (asks to m deadline awaited) is mid =
      subst (λ (d : Option ℕ). Leads Calm (act_one way ue r (asks to m d awaited))) (sym is.0) (by is.1)
    where
      there : (b : Bool) → same_node to peer ≡ b → Leads Calm (act_one way ue r (asks to m None false))
      there true e = subst (λ (n : NodeId). Leads Calm (act_one way ue r (asks n m None false))) (sym (node_told to peer e)) (there_asks r m mid)
      there false e = aside_asks r to m false e mid

      by : IsUnit to ⊎ (awaited ≡ false) → Leads Calm (act_one way ue r (asks to m None awaited))
      by (inl unit) = aside_asks r to m awaited (unit_aside gnb to unit) mid
      by (inr none) = subst (λ (b : Bool). Leads Calm (act_one way ue r (asks to m None b))) (sym none) (there (same_node to peer) refl)
  plain_says r (cancels to m) is mid =
      subst (λ (n : NodeId). Leads Calm (act_one way ue r (cancels n m))) (sym is) (cancel_says r m (holds_as gnb ue r mid (tt, mid.here.1)))
  plain_says r (replies to m) is mid = replied_leads r to m mid
  plain_says r (replies_late to n m) is mid = late_leads r to n m mid
  plain_says r (sends to m) is mid = mid
  plain_says r (fails cause) is mid = mid
  plain_says r (ignores reason) is mid = mid
  plain_says r (refuses reason) is mid = mid
  plain_says r forgets is mid = forget_leads r mid

  all_quiet : {X : Asking M C → Option CuCpContext → Type 0} (ss : List (Action C)) (r : Record) → AllByRecursion IsQuiet ss → Mid X r → Leads X (act_all way ue ss r)
  unfolding act_all
  all_quiet [] r all mid = mid
  all_quiet {X} (s ∷ ss) r all mid =
      gives_then (λ q. Mid X q) (λ q. Mid X q) (act_one way ue r s) (act_all way ue ss) (quiet_says r s all.0 mid) (λ q m. all_quiet ss q all.1 m)

  all_plain : (ss : List (Action C)) (r : Record) → AllByRecursion IsPlain ss → Mid Calm r → Leads Calm (act_all way ue ss r)
  unfolding act_all
  all_plain [] r all mid = mid
  all_plain (s ∷ ss) r all mid =
      gives_then (λ q. Mid Calm q) (λ q. Mid Calm q) (act_one way ue r s) (act_all way ue ss) (plain_says r s all.0 mid) (λ q m. all_plain ss q all.1 m)

  -- ---- the request of a handover: where nothing there has a deadline, and the attempt is new

  abbrev pub IsNew : Option CuCpContext → Type 0
  IsNew c = (b : Attempt) × (preparation c ≡ Some b) × (b.awaits ≡ [])

  pub some_kept : (f : Attempt → Attempt) → ((a : Attempt) → (f a).kind ≡ a.kind) → (c : Option CuCpContext) (b : Attempt) → preparation c ≡ Some b
      → preparation (on_context f c) ≡ Some (f b)
  some_kept f same None b h = absurd cc
  some_kept f same (Some c) b h = by c.attempt h
    where
      in_some : (s : StateName) (k : AttemptKind) (a x : Attempt) → prepared_in s k a ≡ Some b → prepared_in s k x ≡ Some x
      in_some states.Preparing kinds.BetweenGnbs a x g = refl
      in_some s k a x g = absurd cc

      is_it : (s : StateName) (k : AttemptKind) (a : Attempt) → prepared_in s k a ≡ Some b → a ≡ b
      is_it states.Preparing kinds.BetweenGnbs a g = cc
      is_it s k a g = absurd cc

      by : (o : Option Attempt) → prepared_of c.state o ≡ Some b → prepared_of c.state (on_attempt f o) ≡ Some (f b)
      by None g = absurd cc
      by (Some a) g =
          subst (λ (k : AttemptKind). prepared_in c.state k (f a) ≡ Some (f b)) (sym (same a))
          (in_some c.state a.kind a (f a) g ∙ ap (λ (x : Attempt). Some (f x)) (is_it c.state a.kind a g))

  -- it is put, or it waits and no instance is awaited
  abbrev IsBegun : Asking M C → Option ℕ → Type 0
  IsBegun x i = AllByRecursion HasNoDeadline x.waits ⊎ ((OpenIsUndated x × HasOneDeadline x.waits) × (i ≡ None))

  abbrev Begins : Asking M C → Option ℕ → Type 0
  Begins x i = IsBegun x i × AllByRecursion AwaitedHasDeadline x.waits

  abbrev News : Attempt → Asking M C → Option CuCpContext → Type 0
  News b x c = IsUndated x × (preparation c ≡ Some b)

  begins_there : (r : Record) (b : Attempt) → b.awaits ≡ [] → (i : Option ℕ) (u : Transactions M C) → Mid (News (awaiting b peer)) r
      → Becomes way r.transactions (to_other gnb ue) Begins (record { transactions = u; awaited = i })
      → Mid (Fits gnb) (after_begun way ue peer (with_transactions r u) i)
  begins_there r b new None u mid z = asked_there gnb ue r mid z.asks z.fits.1 (fits z.fits.0)
    where
      awaits : (awaiting b peer).awaits ≡ record { from = peer; instance = None } ∷ []
      awaits = ap (λ (ws : List Awaited). ws ++ record { from = peer; instance = None } ∷ []) new

      only : (x : Asking M C) → IsBegun x None → IsTheOnly x (awaiting b peer)
      only x (inl all) = inl all
      only x (inr waits) = inr (waits.0.0, waits.0.1, subst (λ (ws : List Awaited). AllByRecursion (λ (w : Awaited). w.instance ≡ None) ws) (sym awaits) (refl, tt))

      fits : IsBegun z.asking None → Fits gnb z.asking (terminal_of r ue).context
      fits begins = subst (λ (p : Option Attempt). FitsThere peer z.asking p) (sym mid.here.1)
          (only z.asking begins, subst (λ (ws : List Awaited). AllByRecursion (λ (w : Awaited). w.from ≡ peer) ws) (sym awaits) (refl, tt))
  begins_there r b new (Some n) u mid z =
      attempt_there gnb ue (with_transactions r u) put (λ a. begun a peer n)
      (subst (λ (p : Option Attempt). FitsThere peer (asking_at u (to_other gnb ue)) p) (sym (some_kept (λ a. begun a peer n) (λ a. refl) (terminal_of r ue).context (awaiting b peer) mid.here.1))
      (inl put.here, awaits))
    where
      no_deadline : IsBegun z.asking (Some n) → AllByRecursion HasNoDeadline z.asking.waits
      no_deadline (inl all) = all
      no_deadline (inr waits) = let wrong : Some n ≡ None = waits.1 in absurd cc

      put : Mid (λ x c. AllByRecursion HasNoDeadline x.waits) (with_transactions r u)
      put = asked_there gnb ue r mid z.asks z.fits.1 (no_deadline z.fits.0)

      first : Awaited
      first = record { from = peer; instance = None }

      one : (t : Bool) → (if t then record first { instance = Some n } else first).from ≡ peer
      one true = refl
      one false = refl

      awaits : AwaitsOnly peer (begun (awaiting b peer) peer n)
      awaits = subst (λ (ws : List Awaited). AllByRecursion (λ (w : Awaited). w.from ≡ peer) (map (with_instance_of peer n) (ws ++ record { from = peer; instance = None } ∷ []))) (sym new)
          (one (is_from peer first), tt)

  begin_says : (r : Record) (m : Message C) (ticks : ℕ) → Mid (λ x c. IsUndated x × IsNew c) r → Leads (Fits gnb) (act_one way ue r (asks peer m (Some ticks) true))
  unfolding act_one waits_at
  begin_says r m ticks mid =
      gives_then (λ a. Becomes way r.transactions (to_other gnb ue) Begins a) (λ q. Mid (Fits gnb) q)
      (ask way r.transactions (to_other gnb ue) (waiting_of way m (Some ticks) true)) _
      (ask_becomes way r.transactions (to_other gnb ue) Begins (waiting_of way m (Some ticks) true) (inl mid.here.0.1, mid.unawaited ue) (
        inr ((mid.here.0.0, push_one (waits_at r.transactions (to_other gnb ue)) (waiting_of way m (Some ticks) true) mid.here.0.1), refl),
        all_push AwaitedHasDeadline (waits_at r.transactions (to_other gnb ue)) (waiting_of way m (Some ticks) true) (mid.unawaited ue) (λ e. absurd cc),
      )
      (λ n x z. (inl mid.here.0.1, mid.unawaited ue)))
      (λ a z. begins_there (with_attempt ue (λ x. awaiting x peer) r) mid.here.1.0 mid.here.1.2 a.awaited a.transactions
      (attempt_there gnb ue r mid (λ x. awaiting x peer) (mid.here.0, some_kept (λ x. awaiting x peer) (λ x. refl) (terminal_of r ue).context mid.here.1.0 mid.here.1.1)) z)

  -- ---- rows

  pub data RowKeeps (t : CuCpTerminal) : Row C → Type 0 where
    leaves_it : (says : List (Action C)) (u : CuCpTerminal) → u.context ≡ t.context → AllByRecursion IsQuiet says → RowKeeps t (row says u)
    prepares_none : (says : List (Action C)) (u : CuCpTerminal) → preparation t.context ≡ None → preparation u.context ≡ None → AllByRecursion IsPlain says
        → RowKeeps t (row says u)
    prepares_one : (m : Message C) (ticks : ℕ) (u : CuCpTerminal) → preparation t.context ≡ None → IsNew u.context
        → RowKeeps t (row (asks peer m (Some ticks) true ∷ []) u)
    cancels_it : (m : Message C) (says : List (Action C)) (u : CuCpTerminal) → preparation u.context ≡ None → AllByRecursion IsPlain says
        → RowKeeps t (row (cancels peer m ∷ says) u)
    cancels_then : (s : Action C) (m : Message C) (u : CuCpTerminal) → IsAside s → preparation u.context ≡ None → RowKeeps t (row (s ∷ cancels peer m ∷ []) u)
    is_spent : (counter : ℕ) → RowKeeps t (row_spent counter)

  pub calm_fits : (r : Record) → Mid Calm r → Mid (Fits gnb) r
  calm_fits r mid = holds_as gnb ue r mid (subst (λ (p : Option Attempt). FitsThere peer (asking_at r.transactions (to_other gnb ue)) p) (sym mid.here.1) mid.here.0)

  calm_whole : (a : Answer M P Record) → Leads Calm a → IfGives (λ q. Whole gnb q) a
  calm_whole (gives os q) mid = over gnb ue q (calm_fits q mid)
  calm_whole (spent k) mid = tt

  fits_whole : (a : Answer M P Record) → Leads (Fits gnb) a → IfGives (λ q. Whole gnb q) a
  fits_whole (gives os q) mid = over gnb ue q mid
  fits_whole (spent k) mid = tt

  pub carried : (r : Record) (what : Row C) → RowKeeps (terminal_of r ue) what → Whole gnb r → IfGives (λ q. Whole gnb q) (carry_out way ue r what)
  unfolding carry_out act_all
  carried r what (leaves_it says u same all) h =
      let mid = midway gnb ue r h in
      fits_whole (act_all way ue says (with_terminal ue r u))
      (all_quiet says (with_terminal ue r u) all
      (put_there gnb ue r mid u (subst (λ (c : Option CuCpContext). Fits gnb (asking_at r.transactions (to_other gnb ue)) c) (sym same) mid.here)))
  carried r what (prepares_none says u before none all) h =
      let mid = midway gnb ue r h in
      calm_whole (act_all way ue says (with_terminal ue r u))
      (all_plain says (with_terminal ue r u) all
      (put_there gnb ue r mid u (subst (λ (p : Option Attempt). FitsThere peer (asking_at r.transactions (to_other gnb ue)) p) before mid.here, none)))
  carried r what (prepares_one m ticks u before new) h =
      let mid = midway gnb ue r h in
      let on = put_there gnb ue r mid u (subst (λ (p : Option Attempt). FitsThere peer (asking_at r.transactions (to_other gnb ue)) p) before mid.here, new) in
      fits_whole (act_all way ue (asks peer m (Some ticks) true ∷ []) (with_terminal ue r u))
      (gives_then (λ q. Mid (Fits gnb) q) (λ q. Mid (Fits gnb) q) (act_one way ue (with_terminal ue r u) (asks peer m (Some ticks) true)) (act_all way ue [])
      (begin_says (with_terminal ue r u) m ticks on) (λ q k. k))
  carried r what (cancels_it m says u none all) h =
      let on = put_there gnb ue r (midway gnb ue r h) u (tt, none) in
      calm_whole (act_all way ue (cancels peer m ∷ says) (with_terminal ue r u))
      (gives_then (λ q. Mid Calm q) (λ q. Mid Calm q) (act_one way ue (with_terminal ue r u) (cancels peer m)) (act_all way ue says)
      (cancel_says (with_terminal ue r u) m on) (λ q k. all_plain says q all k))
  carried r what (cancels_then s m u is none) h =
      let on = put_there gnb ue r (midway gnb ue r h) u (tt, none) in
      calm_whole (act_all way ue (s ∷ cancels peer m ∷ []) (with_terminal ue r u))
      (gives_then (λ q. Mid Any q) (λ q. Mid Calm q) (act_one way ue (with_terminal ue r u) s) (act_all way ue (cancels peer m ∷ []))
      (aside_says (with_terminal ue r u) s is on)
      (λ q k. gives_then (λ x. Mid Calm x) (λ x. Mid Calm x) (act_one way ue q (cancels peer m)) (act_all way ue []) (cancel_says q m k) (λ x y. y)))
  carried r what (is_spent counter) h = tt

  -- ---- rows of an answer, where nothing there has a deadline

  pub data AnswerKeeps : Row C → Type 0 where
    then_none : (says : List (Action C)) (u : CuCpTerminal) → preparation u.context ≡ None → AllByRecursion IsPlain says → AnswerKeeps (row says u)
    then_as_before : (u : CuCpTerminal) → ((b : Attempt) → preparation u.context ≡ Some b → AwaitsOnly peer b) → AnswerKeeps (row [] u)
    then_spent : (counter : ℕ) → AnswerKeeps (row_spent counter)

  pub answered_row : (r : Record) (what : Row C) → AnswerKeeps what → Mid (λ x c. IsUndated x) r → IfGives (λ q. Whole gnb q) (carry_out way ue r what)
  unfolding carry_out act_all
  answered_row r what (then_none says u none all) mid =
      calm_whole (act_all way ue says (with_terminal ue r u)) (all_plain says (with_terminal ue r u) all (put_there gnb ue r mid u (mid.here, none)))
  answered_row r what (then_as_before u awaits) mid =
      over gnb ue (with_terminal ue r u) (put_there gnb ue r mid u (by (preparation u.context) refl))
    where
      by : (p : Option Attempt) → preparation u.context ≡ p → FitsThere peer (asking_at r.transactions (to_other gnb ue)) (preparation u.context)
      by None is = subst (λ (p : Option Attempt). FitsThere peer (asking_at r.transactions (to_other gnb ue)) p) (sym is) mid.here
      by (Some b) is = subst (λ (p : Option Attempt). FitsThere peer (asking_at r.transactions (to_other gnb ue)) p) (sym is) (inl mid.here.1, awaits b is)
  answered_row r what (then_spent counter) mid = tt
