-- A tick of a CU-CP: the due requests and the commands of other terminals are passed over.
use Rattle.std.proofs.Common.{◌≡◌, ℕ, ◌==◌, Bool, true, false, cond, List, [], ◌∷◌, ◌++◌, map, Option, Some, None, refl, sym, ap, ◌∙◌, subst, eqb-true, true≢false}
use Rattle.std.specs.Prelude.{◌≢◌, if◌then◌else◌}
use Rattle.std.specs.List.{AllByRecursion}
use Rattle.std.specs.List.Sorted.{IsStrictlySortedBy}
use Rattle.std.specs.declared.cmp.Ordering.TheVariants.{Less, Equal}
use Rattle.std.specs.Map.{lookup}
use Rattle.std.specs.BTreeMap.{is_at}
use Rattle.std.specs.Cmp.{tied_itself}
use Rattle.std.proofs.lemmas.Bool.{eq-eqb}
use Rattle.gnb_types.specs.declared.names.NodeId.{NodeId}
use Rattle.gnb_types.specs.declared.names.UeId.{UeId}
use Rattle.gnb_types.specs.Orders.{ue_cmp, channel_cmp}
use Rattle.gnb_types.proofs.OrderLemmas.{ue_total}
use Rattle.tables.specs.Tables.{find, IsSorted}
use Rattle.transaction_defs.specs.Callers.{due, Due, repeats, expires}
use Rattle.unit_defs.specs.Ways.{Output, control, tick_input, Way, Answer, gives, spent, with_outputs, ◌then◌, nothing}
use Rattle.unit_defs.specs.Messages.{channel}
use Rattle.unit_defs.specs.Transactions.{Asked, ask, ask_at_once, replied, replied_late}
use Rattle.unit_defs.specs.CuCpRecords.{Attempt, CuCpTerminal, CuCpRecord, no_terminal, terminal_in, terminal_of, with_terminal, with_transactions, awaiting, begun, on_context, with_attempt, Action, asks, cancels, replies, replies_late, sends, fails, ignores, refuses, forgets, Row, row, row_spent, waiting_of, after_begun, after_asked, noted, act_one, act_all, carry_out}
use Rattle.unit_defs.proofs.Terminals.{kept_here, kept_sorted}
use Rattle.unit_defs.specs.CuCp.{at_of, expired_on, due_one, due_each, command_on, command_each, ues_of, tick, cu_cp_acts}
use Rattle.law_terminals_are_isolated.specs.projections.Steps.{seen, PutsFor, StaysFor}
use Rattle.law_terminals_are_isolated.proofs.projections.Answers.{same_then}
use Rattle.law_terminals_are_isolated.proofs.projections.Tables.{apart_numbers, apart_ues}
use Rattle.law_terminals_are_isolated.specs.cu_cp_projection.CuCps.{CuCpProjection, cu_cp_projection, CuCpShared, cu_cp_shared, cu_cp_view}
use Rattle.law_terminals_are_isolated.proofs.cu_cp_projection.Same.{Common, Same, puts_same, row_same, requests_same, with_same}
use Rattle.law_terminals_are_isolated.proofs.cu_cp_projection.Others.{carry_steps}
use Rattle.law_terminals_are_isolated.specs.tick_projections.Ticks.{outputs_of, due_ue, own_dues, ticked, ShowsOwn, cu_cp_own_tick}
use Rattle.law_terminals_are_isolated.proofs.tick_projections.Outputs.{outputs_append, none_named, ticked_same}

module _ {M C P : Type 0} (way : Way M C P) where
  -- ---- what no row of a terminal changes: what is shared, and the order of the terminals

  abbrev Holds : {R : Type 0} → (R → Type 0) → Answer M P R → Type 0
  Holds H (gives outputs after) = H after
  Holds H (spent counter) = Unit {0}

  holds_next : {R S : Type 0} (H : R → Type 0) (K : S → Type 0) (a : Answer M P R) (k : R → Answer M P S) → Holds H a
      → ((s : R) → H s → Holds K (k s)) → Holds K (a then k)
  holds_next {S = S} H K (gives outputs s) k h more = by (k s) (more s h)
    where
      by : (b : Answer M P S) → Holds K b → Holds K (with_outputs outputs b)
      by (gives others t) i = i
      by (spent counter) i = tt
  holds_next H K (spent counter) k h more = tt

  holds_then : {R S : Type 0} (K : S → Type 0) (a : Answer M P R) (f : R → S) → ((s : R) → K (f s)) → Holds K (a then (λ s. nothing (f s)))
  holds_then K (gives outputs s) f each = each s
  holds_then K (spent counter) f each = tt

  abbrev Keeps : CuCpShared → CuCpRecord M C → Type 0
  Keeps g s = (cu_cp_shared s ≡ g) × IsSorted ue_cmp s.terminals

  terminal_keeps : (g : CuCpShared) (ue : UeId) (t : CuCpTerminal) (q : CuCpRecord M C) → Keeps g q → Keeps g (with_terminal ue q t)
  terminal_keeps g ue t q h = (h.0, kept_sorted q.terminals ue t h.1)

  attempt_keeps : (g : CuCpShared) (ue : UeId) (f : Attempt → Attempt) (q : CuCpRecord M C) → Keeps g q → Keeps g (with_attempt ue f q)
  attempt_keeps g ue f q h = terminal_keeps g ue (record (terminal_of q ue) { context = on_context f (terminal_of q ue).context }) q h

  noted_keeps : (g : CuCpShared) (ue : UeId) (node : NodeId) (b : Bool) (q : CuCpRecord M C) → Keeps g q → Keeps g (noted way ue node b q)
  noted_keeps g ue node true q h = attempt_keeps g ue (λ a. awaiting a node) q h
  noted_keeps g ue node false q h = h

  asked_keeps : (g : CuCpShared) (ue : UeId) (node : NodeId) (q : CuCpRecord M C) (a : Asked M C) → Keeps g q → Keeps g (after_asked way ue node q a)
  asked_keeps g ue node q a h = by a.awaited
    where
      by : (o : Option ℕ) → Keeps g (after_begun way ue node (with_transactions q a.transactions) o)
      by None = h
      by (Some instance) = attempt_keeps g ue (λ x. begun x node instance) (with_transactions q a.transactions) h

  say_keeps : (g : CuCpShared) (ue : UeId) (s : Action C) (q : CuCpRecord M C) → Keeps g q → Holds (Keeps g) (act_one way ue q s)
  unfolding act_one
  say_keeps g ue (asks to m deadline awaited) q h =
      holds_then (Keeps g) (ask way q.transactions (channel ue.0 to) (waiting_of way m deadline awaited)) (after_asked way ue to (noted way ue to awaited q))
      (λ a. asked_keeps g ue to (noted way ue to awaited q) a (noted_keeps g ue to awaited q h))
  say_keeps g ue (cancels to m) q h =
      holds_then (Keeps g) (ask_at_once way q.transactions (channel ue.0 to) (waiting_of way m None false)) (after_asked way ue to q) (λ a. asked_keeps g ue to q a h)
  say_keeps g ue (replies to m) q h =
      holds_then (Keeps g) (replied way q.transactions (channel ue.0 to) m) (with_transactions q) (λ t. h)
  say_keeps g ue (replies_late to instance m) q h =
      holds_then (Keeps g) (replied_late way q.transactions (channel ue.0 to) instance m) (with_transactions q) (λ t. h)
  say_keeps g ue (sends to m) q h = h
  say_keeps g ue (fails cause) q h = h
  say_keeps g ue (ignores reason) q h = h
  say_keeps g ue (refuses reason) q h = h
  say_keeps g ue forgets q h = h

  says_keep : (g : CuCpShared) (ue : UeId) (ss : List (Action C)) (q : CuCpRecord M C) → Keeps g q → Holds (Keeps g) (act_all way ue ss q)
  unfolding act_all
  says_keep g ue [] q h = h
  says_keep g ue (s ∷ ss) q h =
      holds_next (Keeps g) (Keeps g) (act_one way ue q s) (act_all way ue ss) (say_keeps g ue s q h) (λ t i. says_keep g ue ss t i)

  carry_keeps : (g : CuCpShared) (ue : UeId) (x : Row C) (q : CuCpRecord M C) → Keeps g q → Holds (Keeps g) (carry_out way ue q x)
  unfolding carry_out
  carry_keeps g ue (row says after) q h = says_keep g ue says (with_terminal ue q after) (terminal_keeps g ue after q h)
  carry_keeps g ue (row_spent counter) q h = tt

  -- ---- what others do is passed over, and the own part is done beside

  module _ (ue : UeId) (g : CuCpShared) where
    abbrev Shows : Answer M P (CuCpRecord M C) → Answer M P (CuCpRecord M C) → Type 0
    Shows (gives outputs s) (gives own q) = (outputs_of ue.0 outputs ≡ outputs_of ue.0 own) × Common way ue s q × Keeps g s
    Shows (gives outputs s) (spent counter) = ⊥
    Shows (spent counter) own = Unit {0}

    -- of another terminal
    skip : (v : UeId) (r q : CuCpRecord M C) (a b : Answer M P (CuCpRecord M C)) (more : CuCpRecord M C → Answer M P (CuCpRecord M C)) → ue ≢ v
        → Common way ue r q → Keeps g r → PutsFor v.0 (StaysFor cu_cp_projection v r) a → Holds (Keeps g) a
        → ((s : CuCpRecord M C) → Common way ue s q → Keeps g s → Shows (more s) b) → Shows (a then more) b
    skip v r q (gives outputs s) b more apart e h puts keeps next = by (more s) b (next s there keeps)
      where
        there : Common way ue s q
        there = (λ i. (puts.1 ue apart i, (keeps.0 ∙ sym h.0) i)) ∙ e

        none : outputs_of ue.0 outputs ≡ []
        none = none_named ue.0 v.0 (λ same. apart_numbers ue v apart (sym same)) outputs puts.0

        by : (x y : Answer M P (CuCpRecord M C)) → Shows x y → Shows (with_outputs outputs x) y
        by (gives others t) (gives own u) shows =
            (outputs_append ue.0 outputs others ∙ ap (λ (os : List (Output M P)). os ++ outputs_of ue.0 others) none ∙ shows.0, shows.1, shows.2)
        by (gives others t) (spent counter) shows = absurd shows
        by (spent counter) y shows = tt
    skip v r q (spent counter) b more apart e h puts keeps next = tt

    -- of this one
    both : (a c : Answer M P (CuCpRecord M C)) (more less : CuCpRecord M C → Answer M P (CuCpRecord M C)) → Shows a c
        → ((s t : CuCpRecord M C) → Common way ue s t → Keeps g s → Shows (more s) (less t)) → Shows (a then more) (c then less)
    both (gives outputs s) (gives own t) more less shows next = by (more s) (less t) (next s t shows.1 shows.2)
      where
        by : (x y : Answer M P (CuCpRecord M C)) → Shows x y → Shows (with_outputs outputs x) (with_outputs own y)
        by (gives others u) (gives own_others w) there = (
          outputs_append ue.0 outputs others
              ∙ (λ i. shows.0 i ++ there.0 i)
              ∙ sym (outputs_append ue.0 own own_others),
          there.1,
          there.2,
        )
        by (gives others u) (spent counter) there = absurd there
        by (spent counter) y there = tt
    both (gives outputs s) (spent counter) more less shows next = absurd shows
    both (spent counter) c more less shows next = tt

    abbrev told_in : Answer M P (CuCpProjection M C × CuCpShared) → List (Output M P)
    told_in (gives os v) = os
    told_in (spent counter) = []

    abbrev kept_in : CuCpProjection M C × CuCpShared → Answer M P (CuCpProjection M C × CuCpShared) → CuCpProjection M C × CuCpShared
    kept_in v (gives os w) = w
    kept_in v (spent counter) = v

    own_shows : (a c : Answer M P (CuCpRecord M C)) → Same way ue a c → Holds (Keeps g) a → Shows a c
    own_shows (gives outputs s) (gives own t) same keeps = (
      ap (λ (x : Answer M P (CuCpProjection M C × CuCpShared)). outputs_of ue.0 (told_in x)) same,
      ap (kept_in (cu_cp_view ue s)) same,
      keeps,
    )
    own_shows (gives outputs s) (spent counter) same keeps = absurd cc
    own_shows (spent counter) c same keeps = tt

    -- ---- requests that are due

    abbrev expired : UeId → CuCpRecord M C → Answer M P (CuCpRecord M C)
    expired v r = carry_out way v r (expired_on way (at_of r v) (terminal_of r v) (terminal_of r v).context)

    one_own : (d : Due M) (r q : CuCpRecord M C) → due_ue d ≡ ue.0 → Common way ue r q → Keeps g r → Shows (due_one way r d) (due_one way q d)
    one_own (repeats ch m) r q is e h = (refl, e, h)
    one_own (expires ch) r q is e h =
        subst (λ (n : ℕ). Shows (expired (record { 0 = n }) r) (expired (record { 0 = n }) q)) (sym is)
        (own_shows (expired ue r) (expired ue q) (row_same way ue (λ a t. expired_on way a t t.context) r q e) (carry_keeps g ue _ r h))

    one_other : (d : Due M) (r q : CuCpRecord M C) (b : Answer M P (CuCpRecord M C)) (more : CuCpRecord M C → Answer M P (CuCpRecord M C)) → due_ue d ≢ ue.0
        → Common way ue r q → Keeps g r → ((s : CuCpRecord M C) → Common way ue s q → Keeps g s → Shows (more s) b) → Shows (due_one way r d then more) b
    one_other (repeats ch m) r q b more apart e h next =
        skip (record { 0 = ch.ue }) r q (gives (control ch.peer ch.ue m ∷ []) r) b more (λ same. apart (sym (ap (λ (u : UeId). u.0) same))) e h
        ((refl, tt), λ other i. refl) h next
    one_other (expires ch) r q b more apart e h next =
        skip (record { 0 = ch.ue }) r q (expired (record { 0 = ch.ue }) r) b more (λ same. apart (sym (ap (λ (u : UeId). u.0) same))) e h
        (carry_steps way (record { 0 = ch.ue }) _ r r (λ other i. refl)) (carry_keeps g (record { 0 = ch.ue }) _ r h) next

    dues_show : (ds : List (Due M)) (r q : CuCpRecord M C) → Common way ue r q → Keeps g r → Shows (due_each way ds r) (due_each way (own_dues ue.0 ds) q)
    dues_show [] r q e h = (refl, e, h)
    dues_show (d ∷ ds) r q e h = by (dues_show ds) (due_ue d == ue.0) refl
      where
        by : ((s t : CuCpRecord M C) → Common way ue s t → Keeps g s → Shows (due_each way ds s) (due_each way (own_dues ue.0 ds) t))
            → (b : Bool) → (due_ue d == ue.0) ≡ b
            → Shows (due_one way r d then due_each way ds) (due_each way (if b then d ∷ own_dues ue.0 ds else own_dues ue.0 ds) q)
        by again true is =
            both (due_one way r d) (due_one way q d) (due_each way ds) (due_each way (own_dues ue.0 ds)) (one_own d r q (eqb-true (due_ue d) ue.0 is) e h) again
        by again false is =
            one_other d r q (due_each way (own_dues ue.0 ds) q) (due_each way ds) (λ same. true≢false (sym (eq-eqb (due_ue d) ue.0 same) ∙ is)) e h
            (λ s f i. again s q f i)

    -- ---- commands

    abbrev commanded : UeId → CuCpRecord M C → Answer M P (CuCpRecord M C)
    commanded v r = carry_out way v r (command_on way (at_of r v) (terminal_of r v) (terminal_of r v).context)

    abbrev AreOthers : List UeId → Type 0
    AreOthers us = AllByRecursion (λ u. ue ≢ u) us

    others_show : (us : List UeId) (s q : CuCpRecord M C) → AreOthers us → Common way ue s q → Keeps g s → Shows (command_each way us s) (command_each way [] q)
    others_show [] s q all e h = (refl, e, h)
    others_show (u ∷ us) s q all e h =
        skip u s q (commanded u s) (command_each way [] q) (command_each way us) all.0 e h (carry_steps way u _ s s (λ other i. refl)) (carry_keeps g u _ s h)
        (λ t f i. others_show us t q all.1 f i)

    -- a terminal that isn't there has no command
    absent_shows : (s t : CuCpRecord M C) → terminal_of t ue ≡ no_terminal → Common way ue s t → Keeps g s
        → Shows (gives [] s) (command_each way (ue ∷ []) t)
    unfolding carry_out act_all
    absent_shows s t none e h =
        subst (λ (x : CuCpTerminal). Shows (gives [] s) (carry_out way ue t (command_on way (at_of t ue) x x.context) then command_each way [])) (sym none)
        (refl, e ∙ kept, h)
      where
        kept : Common way ue t (with_terminal ue t no_terminal)
        kept = λ i. (
          record (cu_cp_projection ue t) { terminal = (none ∙ sym (kept_here t.terminals ue no_terminal)) i },
          cu_cp_shared t,
        )

    above : (u : UeId) (us : List UeId) → u ≡ ue → AllByRecursion (λ v. ue_cmp u v ≡ Less) us → AreOthers us
    above u [] is all = tt
    above u (v ∷ vs) is all = (λ same. differs (sym (tied_itself ue_total u) ∙ ap (ue_cmp u) (is ∙ same) ∙ all.0), above u vs is all.1)
      where
        differs : Equal ≡ Less → ⊥
        differs e = absurd cc

    commands_show : (us : List UeId) (s t : CuCpRecord M C) → IsStrictlySortedBy ue_cmp us → (AreOthers us → terminal_of t ue ≡ no_terminal)
        → Common way ue s t → Keeps g s → Shows (command_each way us s) (command_each way (ue ∷ []) t)
    unfolding IsStrictlySortedBy
    commands_show [] s t sorted none e h = absent_shows s t (none tt) e h
    commands_show (u ∷ us) s t sorted none e h = by (λ x f i all. commands_show us x t sorted.1 all f i) (u.0 == ue.0) refl
      where
        by : ((x : CuCpRecord M C) → Common way ue x t → Keeps g x → (AreOthers us → terminal_of t ue ≡ no_terminal)
            → Shows (command_each way us x) (command_each way (ue ∷ []) t))
            → (b : Bool) → (u.0 == ue.0) ≡ b → Shows (commanded u s then command_each way us) (command_each way (ue ∷ []) t)
        by again true is =
            let same : u ≡ ue = ap (λ (n : ℕ). record { 0 = n }) (eqb-true u.0 ue.0 is) in
            both (commanded u s) (commanded ue t) (command_each way us) (command_each way [])
            (subst (λ (v : UeId). Shows (commanded v s) (commanded ue t)) (sym same)
            (own_shows (commanded ue s) (commanded ue t) (row_same way ue (λ a x. command_on way a x x.context) s t e) (carry_keeps g ue _ s h)))
            (λ x y f i. others_show us x y (above u us same sorted.0) f i)
        by again false is =
            let apart : ue ≢ u = λ same. true≢false (sym (eq-eqb u.0 ue.0 (sym (ap (λ (v : UeId). v.0) same))) ∙ is) in
            skip u s t (commanded u s) (command_each way (ue ∷ []) t) (command_each way us) apart e h (carry_steps way u _ s s (λ other i. refl))
            (carry_keeps g u _ s h) (λ x f i. again x f i (λ all. none (apart, all)))

    absent : (m : List (UeId × CuCpTerminal)) → AreOthers (map (λ e. e.0) m) → find ue_cmp m ue ≡ None
    unfolding find
    absent [] all = refl
    absent (e ∷ es) all =
        ap (λ (b : Bool). cond b (Some e.1) (lookup (is_at (ue_cmp ue)) es)) (apart_ues ue e.0 all.0) ∙ absent es all.1

    pub tick_shows : (r q : CuCpRecord M C) → Common way ue r q → Keeps g r → Shows (tick way r)
        (due_each way (own_dues ue.0 (due r.transactions.caller)) (record r { transactions = ticked r.transactions }) then command_each way (ue ∷ []))
    unfolding tick
    tick_shows r q e h =
        both (due_each way (due r.transactions.caller) there) (due_each way (own_dues ue.0 (due r.transactions.caller)) there)
        (λ s. command_each way (ues_of way s) s) (command_each way (ue ∷ [])) (dues_show (due r.transactions.caller) there there refl h)
        (λ s t f i. commands_show (ues_of way s) s t i.1
        (λ all. sym (ap (λ (v : CuCpProjection M C × CuCpShared). v.0.terminal) f) ∙ ap terminal_in (absent s.terminals all)) f i)
      where
        there : CuCpRecord M C
        there = record r { transactions = ticked r.transactions }

  shown : (ue : UeId) (g : CuCpShared) (a b : Answer M P (CuCpRecord M C)) → Shows ue g a b → ShowsOwn (cu_cp_view ue) ue.0 a b
  shown ue g (gives outputs s) (gives own t) h = (h.0, h.1)
  shown ue g (gives outputs s) (spent counter) h = h
  shown ue g (spent counter) b h = tt

  pub cp_shows : (ue : UeId) (r : CuCpRecord M C) → IsSorted ue_cmp r.terminals
      → ShowsOwn (cu_cp_view ue) ue.0 (cu_cp_acts way r tick_input) (cu_cp_own_tick way ue r)
  unfolding cu_cp_acts cu_cp_own_tick
  cp_shows ue r sorted = shown ue (cu_cp_shared r) _ _ (tick_shows ue (cu_cp_shared r) r r refl (refl, sorted))

  -- ---- the own part depends on the projection

  own_due_same : (ue : UeId) (ds : List (Due M)) (r q : CuCpRecord M C) → Common way ue r q
      → Same way ue (due_each way (own_dues ue.0 ds) r) (due_each way (own_dues ue.0 ds) q)
  own_due_same ue [] r q e = puts_same way ue [] r q e
  own_due_same ue (d ∷ ds) r q e = by (own_due_same ue ds) (due_ue d == ue.0) refl
    where
      one : (x : Due M) → due_ue x ≡ ue.0 → Same way ue (due_one way r x) (due_one way q x)
      one (repeats ch m) is = puts_same way ue (control ch.peer ch.ue m ∷ []) r q e
      one (expires ch) is =
          subst (λ (n : ℕ). Same way ue (expired ue (cu_cp_shared r) (record { 0 = n }) r) (expired ue (cu_cp_shared r) (record { 0 = n }) q)) (sym is)
          (row_same way ue (λ a t. expired_on way a t t.context) r q e)

      by : ((s t : CuCpRecord M C) → Common way ue s t → Same way ue (due_each way (own_dues ue.0 ds) s) (due_each way (own_dues ue.0 ds) t))
          → (b : Bool) → (due_ue d == ue.0) ≡ b → Same way ue
          (due_each way (if b then d ∷ own_dues ue.0 ds else own_dues ue.0 ds) r) (due_each way (if b then d ∷ own_dues ue.0 ds else own_dues ue.0 ds) q)
      by again true is = same_then (cu_cp_view ue) (cu_cp_view ue) (due_one way r d) (due_one way q d) _ _ (one d (eqb-true (due_ue d) ue.0 is)) again
      by again false is = again r q e

  pub cp_depends : (ue : UeId) (r q : CuCpRecord M C) → Common way ue r q
      → own_dues ue.0 (due r.transactions.caller) ≡ own_dues ue.0 (due q.transactions.caller)
      → IsSorted channel_cmp r.transactions.caller.opened → IsSorted channel_cmp q.transactions.caller.opened
      → Same way ue (cu_cp_own_tick way ue r) (cu_cp_own_tick way ue q)
  unfolding cu_cp_own_tick
  cp_depends ue r q e dues sr sq =
      same_then (cu_cp_view ue) (cu_cp_view ue) (due_each way (own_dues ue.0 (due r.transactions.caller)) (after r))
      (due_each way (own_dues ue.0 (due q.transactions.caller)) (after q)) _ _
      (own_due_same ue (due r.transactions.caller) (after r) (after q) there
      ∙ ap (λ (ds : List (Due M)). seen (cu_cp_view ue) (due_each way ds (after q))) dues)
      (λ s t f. same_then (cu_cp_view ue) (cu_cp_view ue) _ _ (command_each way []) (command_each way [])
      (row_same way ue (λ a x. command_on way a x x.context) s t f) (λ x y i. puts_same way ue [] x y i))
    where
      after : CuCpRecord M C → CuCpRecord M C
      after s = record s { transactions = ticked s.transactions }

      there : Common way ue (after r) (after q)
      there = with_same way ue r q (ticked r.transactions) (ticked q.transactions) e
          (ticked_same ue.0 r.transactions q.transactions sr sq (requests_same way ue r q e))
