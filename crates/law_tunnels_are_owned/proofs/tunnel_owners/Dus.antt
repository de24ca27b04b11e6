-- A DU whose open TEIDs are the downlinks of its contexts is such a one after any input.
use Rattle.std.proofs.Common.{◌≡◌, ◌≤◌, ◌==◌, ℕ, ◌+◌, Bool, true, false, cond, not, ◌&&◌, ◌||◌, List, [], ◌∷◌, ◌++◌, length, map, Option, Some, None, ◌⊎◌, inl, inr, refl, sym, ap, ◌∙◌, subst, arith, eqb-true, eq-eqb}
use Rattle.std.specs.Ordering.{eq_by_cmp, nat_cmp}
use Rattle.std.specs.Cmp.{Equal-is}
use Rattle.std.specs.List.{AllByRecursion}
use Rattle.std.specs.List.Sorted.{IsStrictlySortedBy}
use Rattle.std.specs.declared.cmp.Ordering.TheVariants.{Less}
use Rattle.std.specs.Map.{keys_of}
use Rattle.std.proofs.lemmas.Map.Keys.{sorted_tail}
use Rattle.std.specs.Prelude.{if◌then◌else◌}
use Rattle.gnb_types.specs.declared.names.NodeId.{NodeId}
use Rattle.gnb_types.specs.declared.names.NodeId.TheVariants.{CuCp, CuUp, Du as du_id, Core, Ue}
use Rattle.gnb_types.specs.declared.names.UeId.{UeId}
use Rattle.gnb_types.specs.declared.names.BearerId.{BearerId}
use Rattle.gnb_types.specs.declared.names.SnBits.{SnBits}
use Rattle.gnb_types.specs.declared.names.Dir.TheVariants.{Dl, Ul}
use Rattle.gnb_types.specs.declared.keys.Channel.{Channel}
use Rattle.gnb_types.specs.declared.plans.Peer.{Peer}
use Rattle.gnb_types.specs.declared.plans.Tunnel.{Tunnel}
use Rattle.gnb_types.specs.declared.inputs.Order.TheVariants as orders
use Rattle.gnb_types.specs.declared.outputs.Tag.TheVariants.{Same}
use Rattle.gnb_types.specs.declared.reasons.DropReason.TheVariants.{Unexpected}
use Rattle.gnb_types.specs.Names.{node_text}
use Rattle.gnb_types.specs.Orders.{bearer_cmp, ue_cmp}
use Rattle.tables.specs.Tables.{find, put, without, IsSorted}
use Rattle.transaction_defs.specs.Callers.{close}
use Rattle.message_types.specs.declared.f1.F1.{F1}
use Rattle.message_types.specs.declared.f1.F1.TheVariants as f1s
use Rattle.message_types.specs.declared.rrc.Token.{Token}
use Rattle.unit_defs.specs.Ways.{Message, f1, rrc, uplink, Taken, frame_item, packet, closed, Input, control_input, packet_input, radio_input, confirm_input, offer_input, tick_input, order_input, Way, Answer, gives, spent, ◌then◌, nothing, puts, drops, teids_spent}
use Rattle.unit_defs.specs.Messages.{channel, is_same_gnb, bearers_of, are_from, are_first_bearers}
use Rattle.unit_defs.specs.Teids.{teids_are_left, without_each}
use Rattle.unit_defs.specs.Transactions.{Kind, request, reply, transfer, kind_of, no_instance, ask, advance, replied}
use Rattle.unit_defs.specs.Du.{DuBearer, DuContext, DuTunnel, Du, du_node, context_of, with_transactions, downlink_list, with_entries, bearers_made, bearers_anew, replies, openings, old_downlinks, replaced, replaces, context_with, setup, context_anew, modify_on, modify, released_on, release, relayed_down, relay_down, relayed_up, relay_up, token_ue, start, set_up, asked, transferred, of_cu_cp, of_terminal, control_received, told, gap_after, carried, with_bearer, frame_received, taken_in, taken_of, taken_on, take, of_bearer, of_context, pass_up, confirmed, confirm, tick, du_acts}
use Rattle.gnb_types.proofs.OrderLemmas.{ue_total, bearer_total, bearer_exact}
use Rattle.tables.proofs.TableLaws.{find-put, find-without, sorted-put}
use Rattle.unit_defs.specs.CuUpBearers.{is_one_of}
use Rattle.proof_run_steps.specs.teids.Given.{count_from}
use Rattle.proof_run_steps.proofs.teids.Grows.{below_left, fewer_each}
use Rattle.proof_run_steps.proofs.teids.Dus.{Gives, du_gives, made_counted, anew_counted, AreCounted}
use Rattle.law_tunnels_are_owned.specs.owner_facts.Owned.{is_downlink, du_context_names, du_names, AreNamed, WereGiven, DuInOrder, DuOwns}
use Rattle.proof_unit_steps.specs.answers.After.{HoldsAfter}
use Rattle.law_tunnels_are_owned.proofs.owner_facts.Owners.{given_then, first_of, second_of, unless, holds_not, one_or, one_owner, same_names, named_without, put_each, AreFrom, IsIn, named_given}
use Rattle.proof_unit_steps.proofs.answers.Answers.{holds_if, holds_then, any_then, holds_request, holds_reply}
use Rattle.law_tunnels_are_owned.proofs.owner_facts.Found.{has_later, has_first, has_either, less}
use Rattle.law_tunnels_are_owned.proofs.owner_facts.UpEnds.{or_left, or_right}
use Rattle.law_tunnels_are_owned.proofs.owner_facts.UpContexts.{same_ue, ue_tie}

abbrev Bearers : Type 0
Bearers = List (BearerId × DuBearer)

abbrev Contexts : Type 0
Contexts = List (UeId × DuContext)

abbrev Named : List (ℕ × DuTunnel) → Contexts → Type 0
Named ts contexts = AreNamed ts (du_names contexts) × DuInOrder contexts

abbrev goes_down : ℕ → DuBearer → Bool
goes_down q b = b.downlink == q

abbrev downlinks : Bearers → List ℕ
downlinks es = map (λ e. e.1.downlink) es

-- ---- the downlinks of a context's bearers

found_is_downlink : (es : Bearers) (x : BearerId) (q : ℕ) → is_downlink q (find bearer_cmp es x) ≡ true → is_one_of (downlinks es) q ≡ true
unfolding find
found_is_downlink [] x q h = absurd cc
found_is_downlink (e ∷ es) x q h = by (found_is_downlink es x q) (has_either (goes_down q) e es x h)
  where
    by : (is_downlink q (find bearer_cmp es x) ≡ true → is_one_of (downlinks es) q ≡ true)
        → ((e.0 ≡ x) × ((e.1.downlink == q) ≡ true)) ⊎ (is_downlink q (find bearer_cmp es x) ≡ true) → (e.1.downlink == q) || is_one_of (downlinks es) q ≡ true
    by later (inl k) = or_left (e.1.downlink == q) _ k.1
    by later (inr k) = or_right (e.1.downlink == q) _ (later k)

downlink_is_found : (es : Bearers) (q : ℕ) → IsSorted bearer_cmp es → is_one_of (downlinks es) q ≡ true
    → (x : BearerId) × (is_downlink q (find bearer_cmp es x) ≡ true)
downlink_is_found [] q sorted h = absurd cc
downlink_is_found (e ∷ es) q sorted h = by (downlink_is_found es q (sorted_tail bearer_cmp e.0 (keys_of es) sorted)) (one_or (e.1.downlink == q) (is_one_of (downlinks es) q) h)
  where
    by : (is_one_of (downlinks es) q ≡ true → (x : BearerId) × (is_downlink q (find bearer_cmp es x) ≡ true))
        → ((e.1.downlink == q) ≡ true) ⊎ (is_one_of (downlinks es) q ≡ true) → (x : BearerId) × (is_downlink q (find bearer_cmp (e ∷ es) x) ≡ true)
    by more (inl k) = (e.0, has_first (goes_down q) e es ∙ k)
    by more (inr k) =
        let later : (x : BearerId) × (is_downlink q (find bearer_cmp es x) ≡ true) = more k in
        (later.0, has_later (goes_down q) e es later.0 sorted later.1)

-- ---- their entries

module _ (ue : UeId) where
  abbrev owner_of : BearerId → DuTunnel
  owner_of x = record { ue = ue; bearer = x }

  abbrev entries_of : Bearers → List (ℕ × DuTunnel)
  entries_of es = map (λ e. (e.1.downlink, owner_of e.0)) es

  entries_each : (es : Bearers) (table : List (ℕ × DuTunnel)) → with_entries ue table es ≡ put_each table (entries_of es)
  entries_each [] table = refl
  entries_each (e ∷ es) table = entries_each es (put nat_cmp table e.1.downlink (owner_of e.0))

  found_is_in : (es : Bearers) (x : BearerId) (q : ℕ) → is_downlink q (find bearer_cmp es x) ≡ true → IsIn q (owner_of x) (entries_of es)
  unfolding find
  found_is_in [] x q h = absurd cc
  found_is_in (e ∷ es) x q h = by (found_is_in es x q) (has_either (goes_down q) e es x h)
    where
      by : (is_downlink q (find bearer_cmp es x) ≡ true → IsIn q (owner_of x) (entries_of es))
          → ((e.0 ≡ x) × ((e.1.downlink == q) ≡ true)) ⊎ (is_downlink q (find bearer_cmp es x) ≡ true) → IsIn q (owner_of x) (entries_of (e ∷ es))
      by later (inl k) = inl (eqb-true e.1.downlink q k.1, ap owner_of k.0)
      by later (inr k) = inr (later k)

  in_is_found : (es : Bearers) (q : ℕ) (o : DuTunnel) → IsSorted bearer_cmp es → IsIn q o (entries_of es)
      → (o.ue ≡ ue) × (is_downlink q (find bearer_cmp es o.bearer) ≡ true)
  in_is_found [] q o sorted h = absurd h
  in_is_found (e ∷ es) q o sorted (inl h) =
      subst (λ (p : DuTunnel). (p.ue ≡ ue) × (is_downlink q (find bearer_cmp (e ∷ es) p.bearer) ≡ true)) h.1
      (refl, has_first (goes_down q) e es ∙ eq-eqb e.1.downlink q h.0)
  in_is_found (e ∷ es) q o sorted (inr h) =
      let found : (o.ue ≡ ue) × (is_downlink q (find bearer_cmp es o.bearer) ≡ true) =
      in_is_found es q o (sorted_tail bearer_cmp e.0 (keys_of es) sorted) h in
      (found.0, has_later (goes_down q) e es o.bearer sorted found.1)

  counted_from : (next : ℕ) (es : Bearers) → downlinks es ≡ count_from next (length es) → AreFrom next (entries_of es)
  counted_from next [] h = tt
  counted_from next (e ∷ es) h = let first : e.1.downlink ≡ next = cc in let rest : downlinks es ≡ count_from (next + 1) (length es) = cc in (first, counted_from (next + 1) es rest)

-- ---- bearers in ascending order

all_above : (up : NodeId) (k i next : ℕ) (ts : List Tunnel) → k + 1 ≤ i → are_from i (bearers_of ts) ≡ true
    → AllByRecursion (λ y. bearer_cmp (record { 0 = k }) y ≡ Less) (keys_of (bearers_made up next ts))
all_above up k i next [] low h = tt
all_above up k i next (t ∷ ts) low h =
    let at : t.bearer.0 ≡ i = eqb-true t.bearer.0 i (first_of (t.bearer.0 == i) (are_from (i + 1) (bearers_of ts)) h) in (
      less k t.bearer.0 (omega (arith, low, at)),
      all_above up k (i + 1) (next + 1) ts (omega (arith, low)) (second_of (t.bearer.0 == i) (are_from (i + 1) (bearers_of ts)) h),
    )

pub made_in_order : (up : NodeId) (i next : ℕ) (ts : List Tunnel) → are_from i (bearers_of ts) ≡ true → IsSorted bearer_cmp (bearers_made up next ts)
unfolding IsStrictlySortedBy
made_in_order up i next [] h = tt
made_in_order up i next (t ∷ ts) h =
    let at : t.bearer.0 ≡ i = eqb-true t.bearer.0 i (first_of (t.bearer.0 == i) (are_from (i + 1) (bearers_of ts)) h) in
    let more : are_from (i + 1) (bearers_of ts) ≡ true = second_of (t.bearer.0 == i) (are_from (i + 1) (bearers_of ts)) h in
    (all_above up t.bearer.0 (i + 1) (next + 1) ts (omega (arith, at)) more, made_in_order up (i + 1) (next + 1) ts more)

anew_keys : (next : ℕ) (es : Bearers) → keys_of es ≡ keys_of (bearers_anew next es)
anew_keys next [] = refl
anew_keys next (e ∷ es) = λ i. e.0 ∷ anew_keys (next + 1) es i

-- ---- contexts

same_put : (contexts : Contexts) (ue : UeId) (d : DuContext) (o : DuTunnel) (q : ℕ)
    → du_names (put ue_cmp contexts ue d) o q ≡ du_context_names o q (cond (eq_by_cmp ue_cmp o.ue ue) (Some d) (find ue_cmp contexts o.ue))
same_put contexts ue d o q = ap (du_context_names o q) (find-put ue_total contexts ue d o.ue)

same_left : (contexts : Contexts) (ue : UeId) (o : DuTunnel) (q : ℕ)
    → du_names (without ue_cmp contexts ue) o q ≡ du_context_names o q (cond (eq_by_cmp ue_cmp o.ue ue) None (find ue_cmp contexts o.ue))
same_left contexts ue o q = ap (du_context_names o q) (find-without ue_total contexts ue o.ue)

pub order_put : (contexts : Contexts) (ue : UeId) (d : DuContext) → DuInOrder contexts → IsSorted bearer_cmp d.bearers → DuInOrder (put ue_cmp contexts ue d)
order_put contexts ue d order sorted u c e = by (eq_by_cmp ue_cmp u ue) (sym (find-put ue_total contexts ue d u) ∙ e)
  where
    by : (t : Bool) → cond t (Some d) (find ue_cmp contexts u) ≡ Some c → IsSorted bearer_cmp c.bearers
    by true h = let same : d ≡ c = cc in subst (λ (x : DuContext). IsSorted bearer_cmp x.bearers) same sorted
    by false h = order u c h

order_left : (contexts : Contexts) (ue : UeId) → DuInOrder contexts → DuInOrder (without ue_cmp contexts ue)
order_left contexts ue order u c e = by (eq_by_cmp ue_cmp u ue) (sym (find-without ue_total contexts ue u) ∙ e)
  where
    by : (t : Bool) → cond t None (find ue_cmp contexts u) ≡ Some c → IsSorted bearer_cmp c.bearers
    by true h = absurd cc
    by false h = order u c h

module _ (ts : List (ℕ × DuTunnel)) (contexts : Contexts) (k : Named ts contexts) (ue : UeId) where
  own_names : (o : DuTunnel) (q : ℕ) (c : Option DuContext) → find ue_cmp contexts ue ≡ c → o.ue ≡ ue → du_names contexts o q ≡ du_context_names o q c
  own_names o q c is same = ap (λ (x : UeId). du_context_names o q (find ue_cmp contexts x)) same ∙ ap (du_context_names o q) is

  -- a context ends
  left_named : (c : DuContext) → find ue_cmp contexts ue ≡ Some c → AreNamed (without_each ts (downlinks c.bearers)) (du_names (without ue_cmp contexts ue))
  left_named c is =
      named_without ts (du_names contexts) (du_names (without ue_cmp contexts ue)) (downlinks c.bearers) k.0
      (λ o q. same_left contexts ue o q ∙ by o q (eq_by_cmp ue_cmp o.ue ue) refl)
    where
      owned : (o : DuTunnel) (q : ℕ) → du_names contexts o q ≡ true → is_one_of (downlinks c.bearers) q ≡ true → o.ue ≡ ue
      owned o q h gone =
          let held : (x : BearerId) × (is_downlink q (find bearer_cmp c.bearers x) ≡ true) = downlink_is_found c.bearers q (k.1 ue c is) gone in
          let same : o ≡ owner_of ue held.0 =
          one_owner ts (du_names contexts) k.0 q o (owner_of ue held.0) h (own_names (owner_of ue held.0) q (Some c) is refl ∙ held.1) in
          ap (λ (p : DuTunnel). p.ue) same

      by : (o : DuTunnel) (q : ℕ) (t : Bool) → eq_by_cmp ue_cmp o.ue ue ≡ t
          → du_context_names o q (cond t None (find ue_cmp contexts o.ue)) ≡ du_names contexts o q && not (is_one_of (downlinks c.bearers) q)
      by o q true tie =
          holds_not (du_names contexts o q) (is_one_of (downlinks c.bearers) q)
          (λ h. found_is_downlink c.bearers o.bearer q (sym (own_names o q (Some c) is (same_ue o.ue ue tie)) ∙ h))
      by o q false apart =
          unless (du_names contexts o q) (is_one_of (downlinks c.bearers) q)
          (λ h gone. let tie : eq_by_cmp ue_cmp o.ue ue ≡ true = ue_tie o.ue ue (owned o q h gone) in absurd cc)

  pub none_left : find ue_cmp contexts ue ≡ None → AreNamed ts (du_names (without ue_cmp contexts ue))
  none_left is = same_names ts (du_names contexts) (du_names (without ue_cmp contexts ue)) k.0 (λ o q. same_left contexts ue o q ∙ by o q (eq_by_cmp ue_cmp o.ue ue) refl)
    where
      by : (o : DuTunnel) (q : ℕ) (t : Bool) → eq_by_cmp ue_cmp o.ue ue ≡ t → du_context_names o q (cond t None (find ue_cmp contexts o.ue)) ≡ du_names contexts o q
      by o q true tie = sym (own_names o q None is (same_ue o.ue ue tie))
      by o q false apart = refl

-- a new context's downlinks are given
pub new_named : (ts : List (ℕ × DuTunnel)) (contexts : Contexts) (ue : UeId) (d : DuContext) (next : ℕ) → AreNamed ts (du_names (without ue_cmp contexts ue))
    → ((q : ℕ) (o : DuTunnel) → find nat_cmp ts q ≡ Some o → q + 1 ≤ next) → IsSorted bearer_cmp d.bearers → downlinks d.bearers ≡ count_from next (length d.bearers)
    → AreNamed (with_entries ue ts d.bearers) (du_names (put ue_cmp contexts ue d))
new_named ts contexts ue d next k low sorted counted =
    subst (λ (table : List (ℕ × DuTunnel)). AreNamed table (du_names (put ue_cmp contexts ue d))) (sym (entries_each ue d.bearers ts))
    (named_given ts (entries_of ue d.bearers) (du_names (without ue_cmp contexts ue)) (du_names (put ue_cmp contexts ue d)) next k low
    (counted_from ue next d.bearers counted) (λ o q h. split o q (eq_by_cmp ue_cmp o.ue ue) refl (sym (same_put contexts ue d o q) ∙ h)) new
    (λ o q h. same_put contexts ue d o q ∙ stays o q (eq_by_cmp ue_cmp o.ue ue) refl (sym (same_left contexts ue o q) ∙ h)))
  where
    split : (o : DuTunnel) (q : ℕ) (t : Bool) → eq_by_cmp ue_cmp o.ue ue ≡ t → du_context_names o q (cond t (Some d) (find ue_cmp contexts o.ue)) ≡ true
        → IsIn q o (entries_of ue d.bearers) ⊎ (du_names (without ue_cmp contexts ue) o q ≡ true)
    split o q true tie h =
        inl (subst (λ (p : DuTunnel). IsIn q p (entries_of ue d.bearers)) (λ i. record { ue = sym (same_ue o.ue ue tie) i; bearer = o.bearer })
        (found_is_in ue d.bearers o.bearer q h))
    split o q false apart h =
        inr (same_left contexts ue o q ∙ ap (λ (t : Bool). du_context_names o q (cond t None (find ue_cmp contexts o.ue))) apart ∙ h)

    new : (o : DuTunnel) (q : ℕ) → IsIn q o (entries_of ue d.bearers) → du_names (put ue_cmp contexts ue d) o q ≡ true
    new o q h =
        let found : (o.ue ≡ ue) × (is_downlink q (find bearer_cmp d.bearers o.bearer) ≡ true) = in_is_found ue d.bearers q o sorted h in
        same_put contexts ue d o q ∙ ap (λ (t : Bool). du_context_names o q (cond t (Some d) (find ue_cmp contexts o.ue))) (ue_tie o.ue ue found.0) ∙ found.1

    stays : (o : DuTunnel) (q : ℕ) (t : Bool) → eq_by_cmp ue_cmp o.ue ue ≡ t → du_context_names o q (cond t None (find ue_cmp contexts o.ue)) ≡ true
        → du_context_names o q (cond t (Some d) (find ue_cmp contexts o.ue)) ≡ true
    stays o q true tie h = absurd cc
    stays o q false apart h = h

-- a bearer keeps its downlink
bearer_stays : (ts : List (ℕ × DuTunnel)) (contexts : Contexts) → Named ts contexts → (ue : UeId) (c : DuContext) → find ue_cmp contexts ue ≡ Some c
    → (bearer : BearerId) (b d : DuBearer) → find bearer_cmp c.bearers bearer ≡ Some b → d.downlink ≡ b.downlink
    → Named ts (put ue_cmp contexts ue (record c { bearers = put bearer_cmp c.bearers bearer d }))
bearer_stays ts contexts k ue c is bearer b d there same = (
  same_names ts (du_names contexts) (du_names (put ue_cmp contexts ue now)) k.0 (λ o q. same_put contexts ue now o q ∙ by o q (eq_by_cmp ue_cmp o.ue ue) refl),
  order_put contexts ue now k.1 (sorted-put bearer_total c.bearers bearer d (k.1 ue c is)),
)
  where
    now : DuContext
    now = record c { bearers = put bearer_cmp c.bearers bearer d }

    at_bearer : (x : BearerId) (q : ℕ) (t : Bool) → eq_by_cmp bearer_cmp x bearer ≡ t
        → is_downlink q (cond t (Some d) (find bearer_cmp c.bearers x)) ≡ is_downlink q (find bearer_cmp c.bearers x)
    at_bearer x q true tie =
        ap (λ (n : ℕ). n == q) same
        ∙ ap (is_downlink q) (sym (ap (find bearer_cmp c.bearers) (bearer_exact x bearer ((Equal-is (bearer_cmp x bearer)).0 tie)) ∙ there))
    at_bearer x q false apart = refl

    by : (o : DuTunnel) (q : ℕ) (t : Bool) → eq_by_cmp ue_cmp o.ue ue ≡ t → du_context_names o q (cond t (Some now) (find ue_cmp contexts o.ue)) ≡ du_names contexts o q
    by o q true tie =
        ap (is_downlink q) (find-put bearer_total c.bearers bearer d o.bearer) ∙ at_bearer o.bearer q (eq_by_cmp bearer_cmp o.bearer bearer) refl
        ∙ sym (own_names ts contexts k ue o q (Some c) is (same_ue o.ue ue tie))
    by o q false apart = refl

-- ---- rows

module _ {M C P : Type 0} (way : Way M C P) where
  abbrev Names : Du M C → Type 0
  Names r = Named r.tunnels r.contexts

  abbrev Keeps : Answer M P (Du M C) → Type 0
  Keeps a = HoldsAfter Names a

  keeps_if : (t : Bool) (x y : Answer M P (Du M C)) → Keeps x → Keeps y → Keeps (if t then x else y)
  keeps_if t x y p q = holds_if Names t x y p q

  replies_keep : (ch : Channel) (m : F1 C) (r : Du M C) → Names r → Keeps (replies way ch m r)
  replies_keep ch m r p = any_then Names (replied way r.transactions ch (f1 m)) (λ t. nothing (with_transactions r t)) (λ t. p)

  module _ (r : Du M C) (p : Names r) where
    replaces_keeps : (ue : UeId) (old : Option DuContext) (d : DuContext) → WereGiven r.next_teid r.tunnels → find ue_cmp r.contexts ue ≡ old
        → IsSorted bearer_cmp d.bearers → AreCounted r.next_teid d.bearers → Keeps (replaces way ue old d r)
    unfolding replaces
    replaces_keeps ue old d given is sorted counted = by (teids_are_left r.next_teid (length d.bearers)) refl
      where
        left : (o : Option DuContext) → find ue_cmp r.contexts ue ≡ o → AreNamed (without_each r.tunnels (old_downlinks way o)) (du_names (without ue_cmp r.contexts ue))
        left None at = none_left r.tunnels r.contexts p ue at
        left (Some c) at = left_named r.tunnels r.contexts p ue c at

        by : (t : Bool) → teids_are_left r.next_teid (length d.bearers) ≡ t
            → Keeps (if t then gives (map (λ teid. closed teid) (old_downlinks way old) ++ openings way d) (replaced way ue old d r) else spent teids_spent)
        by true some = (
          new_named (without_each r.tunnels (old_downlinks way old)) r.contexts ue d r.next_teid (left old is)
              (λ q o h. subst (λ (n : ℕ). q + 1 ≤ n) (below_left r.next_teid (length d.bearers) some) (given q o (fewer_each (old_downlinks way old) r.tunnels q o h)))
              sorted counted.0,
          order_put r.contexts ue d p.1 sorted,
        )
        by false some = tt

    replaced_keeps : (ch : Channel) (ue : UeId) (old : Option DuContext) (d : DuContext) (m : F1 C) → WereGiven r.next_teid r.tunnels
        → find ue_cmp r.contexts ue ≡ old → IsSorted bearer_cmp d.bearers → AreCounted r.next_teid d.bearers → Keeps (replaces way ue old d r then replies way ch m)
    replaced_keeps ch ue old d m given is sorted counted =
        holds_then Names Names (replaces way ue old d r) (replies way ch m) (replaces_keeps ue old d given is sorted counted) (replies_keep ch m)

    setup_keeps : (ch : Channel) (ue : UeId) (instance epoch : ℕ) (uplinks : List Tunnel) (sn : SnBits) (peer : Peer) → WereGiven r.next_teid r.tunnels
        → Keeps (setup way ch ue instance epoch uplinks sn peer r)
    unfolding setup
    setup_keeps ch ue instance epoch uplinks sn peer given = by (are_first_bearers (bearers_of uplinks)) refl
      where
        by : (t : Bool) → are_first_bearers (bearers_of uplinks) ≡ t
            → Keeps (if not t then drops Unexpected r
            else (replaces way ue (context_of r ue) (context_with way r epoch uplinks sn peer) r
            then replies way ch (f1s.UeContextSetupResponse ue instance (downlink_list (context_with way r epoch uplinks sn peer)))))
        by true first =
            replaced_keeps ch ue (context_of r ue) (context_with way r epoch uplinks sn peer)
            (f1s.UeContextSetupResponse ue instance (downlink_list (context_with way r epoch uplinks sn peer))) given refl
            (made_in_order (CuUp peer.gnb peer.up) 1 r.next_teid uplinks first) (made_counted (CuUp peer.gnb peer.up) r.next_teid uplinks)
        by false first = p

    modify_keeps : (ch : Channel) (ue : UeId) (instance epoch : ℕ) → WereGiven r.next_teid r.tunnels → (c : Option DuContext) → find ue_cmp r.contexts ue ≡ c
        → Keeps (modify_on way ch ue instance epoch r c)
    modify_keeps ch ue instance epoch given None is = p
    modify_keeps ch ue instance epoch given (Some c) is =
        replaced_keeps ch ue (Some c) (context_anew way r epoch c)
        (f1s.UeContextModificationResponse ue instance (downlink_list (context_anew way r epoch c))) given is
        (subst (λ (ks : List BearerId). IsStrictlySortedBy bearer_cmp ks) (anew_keys r.next_teid c.bearers) (p.1 ue c is)) (anew_counted r.next_teid c.bearers)

    released_keeps : (ue : UeId) (c : Option DuContext) → find ue_cmp r.contexts ue ≡ c → Keeps (released_on way ue r c)
    released_keeps ue None is = p
    released_keeps ue (Some c) is = (left_named r.tunnels r.contexts p ue c is, order_left r.contexts ue p.1)

  release_keeps : (ch : Channel) (ue : UeId) (instance : ℕ) (r : Du M C) → Names r → Keeps (release way ch ue instance r)
  unfolding release
  release_keeps ch ue instance r p =
      holds_then Names Names (replies way ch (f1s.UeContextReleaseComplete ue instance) r) (λ s. released_on way ue s (context_of s ue))
      (replies_keep ch (f1s.UeContextReleaseComplete ue instance) r p) (λ s q. released_keeps s q ue (context_of s ue) refl)

  -- ---- control messages

  asked_keeps : (ch : Channel) (m : Message C) (r : Du M C) → Names r → WereGiven r.next_teid r.tunnels → Keeps (asked way ch m r)
  unfolding modify
  asked_keeps ch (f1 (f1s.UeContextSetupRequest ue instance epoch uplinks sn peer)) r p given = setup_keeps r p ch ue instance epoch uplinks sn peer given
  asked_keeps ch (f1 (f1s.UeContextModificationRequest ue instance epoch)) r p given = modify_keeps r p ch ue instance epoch given (context_of r ue) refl
  asked_keeps ch (f1 (f1s.UeContextReleaseCommand ue instance)) r p given = release_keeps ch ue instance r p
  asked_keeps ch m r p given = p

  relayed_down_keeps : (ue : UeId) (container : C) (r : Du M C) (c : Option DuContext) → Names r → Keeps (relayed_down way ue container r c)
  relayed_down_keeps ue container r None p = p
  relayed_down_keeps ue container r (Some c) p = p

  transferred_keeps : (m : Message C) (r : Du M C) → Names r → Keeps (transferred way m r)
  unfolding relay_down
  transferred_keeps (f1 (f1s.DlRrcMessageTransfer ue container)) r p = relayed_down_keeps ue container r (context_of r ue) p
  transferred_keeps m r p = p

  relayed_up_keeps : (ue : UeId) (token : Token) (r : Du M C) (c : Option DuContext) → Names r → Keeps (relayed_up way ue token r c)
  relayed_up_keeps ue token r None p = p
  relayed_up_keeps ue token r (Some c) p = p

  terminal_keeps : (ue : ℕ) (m : Message C) (r : Du M C) → Names r → Keeps (of_terminal way ue m r)
  unfolding relay_up
  terminal_keeps ue (rrc token) r p =
      keeps_if ((token_ue way token).0 == ue) _ (drops Unexpected r) (relayed_up_keeps (token_ue way token) token r (context_of r (token_ue way token)) p) p
  terminal_keeps ue m r p = p

  set_up_keeps : (ch : Channel) (r : Du M C) → Names r → Keeps (set_up way ch r)
  unfolding set_up
  set_up_keeps ch r p =
      any_then Names (advance way (record r.transactions { caller = close r.transactions.caller ch }) ch)
      (λ a. nothing (record r { is_set_up = true; transactions = a.transactions })) (λ a. p)

  of_cp_keeps : (from : NodeId) (m : Message C) (r : Du M C) (k : Kind) → Names r → WereGiven r.next_teid r.tunnels → Keeps (of_cu_cp way from m r k)
  of_cp_keeps from m r (request ue i) p given =
      holds_request way Names r r.transactions (channel ue from) i (λ t. asked way (channel ue from) m (with_transactions r t)) p
      (λ t. asked_keeps (channel ue from) m (with_transactions r t) p given)
  of_cp_keeps from m r (reply ue i) p given =
      holds_reply way Names r r.transactions (channel ue from) i (set_up way (channel ue from) r) p (set_up_keeps (channel ue from) r p)
  of_cp_keeps from m r (transfer ue) p given = transferred_keeps m r p

  control_keeps : (from : NodeId) (m : Message C) (r : Du M C) → Names r → WereGiven r.next_teid r.tunnels → Keeps (control_received way from m r)
  unfolding control_received
  control_keeps (CuCp gnb) m r p given = keeps_if (is_same_gnb gnb r.gnb) _ (drops Unexpected r) (of_cp_keeps (CuCp gnb) m r (kind_of m) p given) p
  control_keeps (Ue ue) m r p given = terminal_keeps ue m r p
  control_keeps (CuUp gnb number) m r p given = p
  control_keeps (du_id gnb number) m r p given = p
  control_keeps Core m r p given = p

  -- ---- packets

  carried_keeps : (ue : UeId) (bearer : BearerId) (c : DuContext) (gap : Bool) (pdu : Option P) (r : Du M C) → Names r → Keeps (carried way ue bearer c gap pdu r)
  carried_keeps ue bearer c gap None r p = p
  carried_keeps ue bearer c true (Some pdu) r p = p
  carried_keeps ue bearer c false (Some pdu) r p = p

  frame_keeps : (ue : UeId) (bearer : BearerId) (c : DuContext) (b : DuBearer) (item : Taken P) (r : Du M C) → Names r → find ue_cmp r.contexts ue ≡ Some c
      → find bearer_cmp c.bearers bearer ≡ Some b → Keeps (frame_received way ue bearer c b item r)
  frame_keeps ue bearer c b (frame_item poll restart number pdu) r p is there =
      holds_then Names Names
      (gives (told way ue bearer b poll number) (with_bearer way ue bearer c (record b { awaited = number + 1; gap = gap_after way b number restart pdu }) r))
      (carried way ue bearer c (gap_after way b number restart pdu) pdu)
      (bearer_stays r.tunnels r.contexts p ue c is bearer b (record b { awaited = number + 1; gap = gap_after way b number restart pdu }) there refl)
      (λ s q. carried_keeps ue bearer c (gap_after way b number restart pdu) pdu s q)
  frame_keeps ue bearer c b item r p is there = p

  take_keeps : (teid : ℕ) (item : Taken P) (r : Du M C) → Names r → Keeps (take way teid item r)
  unfolding take
  take_keeps teid item r p = by (find nat_cmp r.tunnels teid)
    where
      in_bearer : (ue : UeId) (bearer : BearerId) (c : DuContext) → find ue_cmp r.contexts ue ≡ Some c → (b : Option DuBearer) → find bearer_cmp c.bearers bearer ≡ b
          → Keeps (taken_in way ue bearer c item r b)
      in_bearer ue bearer c is None there = p
      in_bearer ue bearer c is (Some b) there = frame_keeps ue bearer c b item r p is there

      in_context : (ue : UeId) (bearer : BearerId) (c : Option DuContext) → find ue_cmp r.contexts ue ≡ c → Keeps (taken_of way ue bearer item r c)
      in_context ue bearer None is = p
      in_context ue bearer (Some c) is = in_bearer ue bearer c is (find bearer_cmp c.bearers bearer) refl

      by : (t : Option DuTunnel) → Keeps (taken_on way item r t)
      by None = p
      by (Some t) = in_context t.ue t.bearer (context_of r t.ue) refl

  context_keeps : (r : Du M C) (row : DuContext → DuBearer → Answer M P (Du M C)) (bearer : BearerId) (c : Option DuContext) → Names r
      → ((d : DuContext) (b : DuBearer) → Keeps (row d b)) → Keeps (of_context way r row bearer c)
  context_keeps r row bearer None p each = p
  context_keeps r row bearer (Some c) p each = by (find bearer_cmp c.bearers bearer)
    where
      by : (b : Option DuBearer) → Keeps (of_bearer way r row c b)
      by None = p
      by (Some b) = each c b

  confirmed_keeps : (ue : UeId) (bearer : BearerId) (r : Du M C) (b : DuBearer) (number : Option ℕ) → Names r → Keeps (confirmed way ue bearer r b number)
  confirmed_keeps ue bearer r b None p = p
  confirmed_keeps ue bearer r b (Some number) p = p

  -- ---- F1 Setup, a tick, and the table

  start_keeps : (r : Du M C) → Names r → Keeps (start way r)
  unfolding start
  start_keeps r p =
      keeps_if r.is_set_up (nothing r) _ p
      (any_then Names (ask way r.transactions (channel 0 (CuCp r.gnb))
      (record { message = f1 (f1s.F1SetupRequest no_instance (node_text (du_node r))); deadline = None; awaited = false }))
      (λ a. nothing (with_transactions r a.transactions)) (λ a. p))

  tick_keeps : (r : Du M C) → Names r → Keeps (tick way r)
  unfolding tick
  tick_keeps r p = p

  acts_keep : (r : Du M C) (input : Input C P) → Names r → WereGiven r.next_teid r.tunnels → Keeps (du_acts way r input)
  unfolding du_acts pass_up confirm
  acts_keep r (control_input from m) p given = control_keeps from m r p given
  acts_keep r (packet_input teid item) p given = take_keeps teid item r p
  acts_keep r (radio_input ue bearer Ul pdu content) p given =
      context_keeps r (λ c b. puts (packet b.up b.uplink ue bearer Ul Same (uplink pdu)) r) bearer (context_of r ue) p (λ d b. p)
  acts_keep r (radio_input ue bearer Dl pdu content) p given = p
  acts_keep r (confirm_input ue bearer Dl pdu content) p given =
      context_keeps r (λ c b. confirmed way ue bearer r b (way.number c.sn pdu)) bearer (context_of r ue) p
      (λ d b. confirmed_keeps ue bearer r b (way.number d.sn pdu) p)
  acts_keep r (confirm_input ue bearer Ul pdu content) p given = p
  acts_keep r (offer_input ue bearer x) p given = p
  acts_keep r tick_input p given = tick_keeps r p
  acts_keep r (order_input orders.Start) p given = start_keeps r p
  acts_keep r (order_input order) p given = p

  pub du_owns : (r : Du M C) (input : Input C P) → DuOwns r → HoldsAfter DuOwns (du_acts way r input)
  du_owns r input p = by (du_acts way r input) (acts_keep r input (p.0, p.1) p.2) (du_gives way r input)
    where
      by : (a : Answer M P (Du M C)) → Keeps a → Gives way r a → HoldsAfter DuOwns a
      by (gives os after) h g = (h.0, h.1, given_then r.next_teid r.tunnels after.next_teid after.tunnels p.2 g.1)
      by (spent k) h g = tt
