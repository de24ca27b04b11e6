-- A CU-UP opens its next TEIDs, when a context is made and when uplinks are added.
use Rattle.std.proofs.Common.{◌≡◌, ◌≤◌, ◌==◌, ℕ, zero, suc, ◌+◌, ◌*◌, Bool, true, false, not, ◌&&◌, ◌||◌, List, [], ◌∷◌, ◌++◌, length, map, Option, Some, None, ◌⊎◌, inl, inr, refl, sym, ap, ◌∙◌, subst, arith}
use Rattle.std.specs.Prelude.{if◌then◌else◌}
use Rattle.std.specs.List.{flat_map, list_all}
use Rattle.std.specs.Ordering.{nat_cmp}
use Rattle.gnb_types.specs.declared.names.NodeId.{NodeId}
use Rattle.gnb_types.specs.declared.names.NodeId.TheVariants.{CuCp, Du as du_id}
use Rattle.gnb_types.specs.declared.names.UeId.{UeId}
use Rattle.gnb_types.specs.declared.names.BearerId.{BearerId}
use Rattle.gnb_types.specs.declared.names.SnBits.{SnBits}
use Rattle.gnb_types.specs.declared.keys.Channel.{Channel}
use Rattle.gnb_types.specs.declared.plans.Peer.{Peer}
use Rattle.gnb_types.specs.declared.plans.Tunnel.{Tunnel}
use Rattle.gnb_types.specs.declared.plans.SnStatus.{SnStatus}
use Rattle.gnb_types.specs.declared.inputs.Order.TheVariants as orders
use Rattle.gnb_types.specs.declared.outputs.Tag.TheVariants.{Absent}
use Rattle.gnb_types.specs.declared.reasons.HeldReason.{HeldReason}
use Rattle.gnb_types.specs.declared.reasons.DropReason.{DropReason}
use Rattle.gnb_types.specs.declared.reasons.DropReason.TheVariants.{NoContext, NoTunnel, Unexpected}
use Rattle.gnb_types.specs.declared.reasons.RefuseReason.TheVariants.{Empty, NoRadio}
use Rattle.gnb_types.specs.Names.{node_text}
use Rattle.gnb_types.specs.Orders.{bearer_cmp}
use Rattle.tables.specs.Tables.{find, put}
use Rattle.transaction_defs.specs.Callers.{close, due}
use Rattle.message_types.specs.declared.e1.E1Message.{E1Message}
use Rattle.message_types.specs.declared.e1.E1Message.TheVariants as e1s
use Rattle.unit_defs.specs.Ways.{Message, e1, Taken, closed, no, Input, control_input, packet_input, tick_input, order_input, Way, Answer, gives, spent, ◌then◌, nothing, puts, drops, teids_spent}
use Rattle.unit_defs.specs.Messages.{cause_busy, cause_quota, mode_uplinks, mode_switch, mode_freeze, mode_status, mode_resume, channel, are_bearers, bearers_of, statuses_of, teid_of}
use Rattle.unit_defs.specs.Teids.{teids_are_left, teid_after}
use Rattle.unit_defs.specs.Transactions.{Kind, request, reply, transfer, kind_of, no_instance, ask, advance, replied}
use Rattle.unit_defs.specs.CuUpRecords.{CuUpBearer, CuUpContext, CuUp, TunnelKind, CuUpTunnel, cu_up_scope}
use Rattle.unit_defs.specs.CuUpBearers.{made, teids_of_bearer, with_uplink, switched, frozen_to, with_status, resumed, is_over, open_teids, has_downlink, framed}
use Rattle.unit_defs.specs.CuUpItems.{held_reason, took}
use Rattle.unit_defs.specs.CuUp.{bearers_from, bearers_made, entries_of, with_entries, with_context, context_of, with_transactions, up_node, UpStep, steps, stops, step_with, each_bearer, answer_with, ended, ended_if_over, end_where_over, replies, opened_of, new_context, with_new, makes, fits, set_up_for, setup_response, setup_on, setup, modified, uplinks_from, teids_from, uplink_entries, uplinks_given, add_uplinks, as_switched, switch, as_frozen, peer_node, statuses, freeze, as_known, status_each, take_status, as_resumed, resume, names, uplinks_if, switch_if, freeze_if, status_if, resume_if, modify_on, as_released, released_on, release, asked, start, set_up, control_by, ue_in, is_own_cu_cp, control_received, with_bearer, taken_by, taken_in, taken_of, taken_on, take, poll_bearer, poll_on, poll, due_output, tick, cu_up_acts, closed_in}
use Rattle.proof_run_steps.specs.teids.Given.{opened_in, opened_by, count_from, below, GrowsTo}
use Rattle.proof_run_steps.proofs.teids.Grows.{gives_counted, below_left, below_after, put_or, fewer_each, AllWithin}
use Rattle.proof_run_steps.proofs.teids.Bearers.{both, Stays, Took, ends, poll_stays, switched_stays, frozen_stays, status_stays, resumed_stays, item_took}
use Rattle.proof_run_steps.proofs.teids.Still.{OpensNone, none_ask, none_advance, none_replied, none_due, Still, From, from_still, still_if, from_if, none_then, still_then, from_then, from_request, still_reply}

-- ---- entries that are put

abbrev pub Entry : Type 0
Entry = ℕ × CuUpTunnel

pub entries_put : (low high : ℕ) (es : List Entry) (table : List Entry) → AllWithin low high es → (teid : ℕ) (owner : CuUpTunnel)
    → find nat_cmp (with_entries table es) teid ≡ Some owner → (find nat_cmp table teid ≡ Some owner) ⊎ ((low ≤ teid) × (teid + 1 ≤ high))
entries_put low high [] table all teid owner e = inl e
entries_put low high (x ∷ xs) table all teid owner e =
    by (entries_put low high xs (put nat_cmp table x.0 x.1) all.1 teid owner e)
  where
    old : ((teid ≡ x.0) × (x.1 ≡ owner)) ⊎ (find nat_cmp table teid ≡ Some owner)
        → (find nat_cmp table teid ≡ Some owner) ⊎ ((low ≤ teid) × (teid + 1 ≤ high))
    old (inl here) = let at : teid ≡ x.0 = here.0 in inr (omega (arith, all.0.0), omega (arith, all.0.1))
    old (inr there) = inl there

    by : (find nat_cmp (put nat_cmp table x.0 x.1) teid ≡ Some owner) ⊎ ((low ≤ teid) × (teid + 1 ≤ high))
        → (find nat_cmp table teid ≡ Some owner) ⊎ ((low ≤ teid) × (teid + 1 ≤ high))
    by (inl there) = old (put_or table x.0 x.1 teid owner there)
    by (inr new) = inr new

-- so many are put from the next one on
pub grows_entries : (next count : ℕ) (es table : List Entry) → teids_are_left next count ≡ true → AllWithin (below next) (below next + count) es
    → GrowsTo next table (teid_after next count) (with_entries table es)
grows_entries next count es table left all =
    let after : below (teid_after next count) ≡ below next + count = below_after next count left in (
      omega (arith, after),
      λ teid owner e. subst (λ (k : ℕ). (find nat_cmp table teid ≡ Some owner) ⊎ ((below next ≤ teid) × (teid + 1 ≤ k))) (sym after)
          (entries_put (below next) (below next + count) es table all teid owner e),
    )

pub wider : (a b c d : ℕ) (es : List Entry) → a ≤ b → c ≤ d → AllWithin b c es → AllWithin a d es
wider a b c d [] p q all = tt
wider a b c d (e ∷ es) p q all = ((omega (arith, p, all.0.0), omega (arith, q, all.0.1)), wider a b c d es p q all.1)

pub both_within : (low high : ℕ) (xs ys : List Entry) → AllWithin low high xs → AllWithin low high ys → AllWithin low high (xs ++ ys)
both_within low high [] ys p q = q
both_within low high (x ∷ xs) ys p q = (p.0, both_within low high xs ys p.1 q)

-- ---- the TEIDs of a new context

module _ (ue : UeId) (context : ℕ) where
  bearer_within : (target : Bool) (b : BearerId) (next : ℕ) → AllWithin next (next + teids_of_bearer target) (entries_of ue context (b, made target next))
  unfolding made
  bearer_within true b next =
      ((omega arith, omega arith), ((omega arith, omega arith), ((omega arith, omega arith), ((omega arith, omega arith), tt))))
  bearer_within false b next = ((omega arith, omega arith), ((omega arith, omega arith), tt))

  pub made_within : (target : Bool) (bs : List BearerId) (next : ℕ)
      → AllWithin next (next + length bs * teids_of_bearer target) (flat_map (entries_of ue context) (bearers_made target next bs))
  made_within target [] next = tt
  made_within target (b ∷ bs) next =
      both_within next (next + suc (length bs) * teids_of_bearer target) (entries_of ue context (b, made target next)) _
      (wider next next (next + teids_of_bearer target) (next + suc (length bs) * teids_of_bearer target) _ (omega arith) (more target) (bearer_within target b next))
      (wider next (next + teids_of_bearer target) (next + teids_of_bearer target + length bs * teids_of_bearer target)
      (next + suc (length bs) * teids_of_bearer target) _ (omega arith) (rest target) (made_within target bs (next + teids_of_bearer target)))
    where
      more : (t : Bool) → next + teids_of_bearer t ≤ next + suc (length bs) * teids_of_bearer t
      more true = omega arith
      more false = omega arith

      rest : (t : Bool) → next + teids_of_bearer t + length bs * teids_of_bearer t ≤ next + suc (length bs) * teids_of_bearer t
      rest true = omega arith
      rest false = omega arith

pub how_many : (i n : ℕ) → length (bearers_from i n) ≡ n
how_many i zero = refl
how_many i (suc n) = ap (λ (m : ℕ). suc m) (how_many (i + 1) n)

module _ {M C P : Type 0} (way : Way M C P) where
  -- ---- what is opened of a new context

  opens_target : (bs : List BearerId) (next : ℕ)
      → opened_by (flat_map (opened_of way) (bearers_made true next bs)) ≡ count_from next (length bs * teids_of_bearer true)
  unfolding made
  opens_target [] next = refl
  opens_target (b ∷ bs) next =
      ap (λ (l : List ℕ). next ∷ (next + 1) ∷ (next + 2) ∷ (next + 3) ∷ l) (opens_target bs (next + 4)) ∙ four (length bs * 4) next ∙ ap (count_from next) many
    where
      many : suc (suc (suc (suc (length bs * 4)))) ≡ suc (length bs) * 4
      many = omega arith

      four : (n k : ℕ) → k ∷ (k + 1) ∷ (k + 2) ∷ (k + 3) ∷ count_from (k + 4) n ≡ count_from k (suc (suc (suc (suc n))))
      four n k =
          let a : k + 2 ≡ k + 1 + 1 = omega arith in
          let c : k + 3 ≡ k + 1 + 1 + 1 = omega arith in
          let d : k + 4 ≡ k + 1 + 1 + 1 + 1 = omega arith in
          λ i. k ∷ (k + 1) ∷ a i ∷ c i ∷ count_from (d i) n

  opens_source : (bs : List BearerId) (next : ℕ)
      → opened_by (flat_map (opened_of way) (bearers_made false next bs)) ≡ count_from next (length bs * teids_of_bearer false)
  unfolding made
  opens_source [] next = refl
  opens_source (b ∷ bs) next =
      ap (λ (l : List ℕ). next ∷ (next + 1) ∷ l) (opens_source bs (next + 2)) ∙ two (length bs * 2) next ∙ ap (count_from next) many
    where
      many : suc (suc (length bs * 2)) ≡ suc (length bs) * 2
      many = omega arith

      two : (n k : ℕ) → k ∷ (k + 1) ∷ count_from (k + 2) n ≡ count_from k (suc (suc n))
      two n k = let a : k + 2 ≡ k + 1 + 1 = omega arith in λ i. k ∷ (k + 1) ∷ count_from (a i) n

  opens_made : (target : Bool) (bs : List BearerId) (next : ℕ)
      → opened_by (flat_map (opened_of way) (bearers_made target next bs)) ≡ count_from next (length bs * teids_of_bearer target)
  opens_made true bs next = opens_target bs next
  opens_made false bs next = opens_source bs next

  -- ---- a CU-UP that stands still, and one that gives TEIDs

  abbrev next_of : CuUp M C → ℕ
  next_of r = r.next_teid

  abbrev tunnels_of : CuUp M C → List Entry
  tunnels_of r = r.tunnels

  abbrev pub Rests : CuUp M C → Answer M P (CuUp M C) → Type 0
  Rests r a = Still way next_of tunnels_of r.next_teid r.tunnels a

  abbrev pub Gives : CuUp M C → Answer M P (CuUp M C) → Type 0
  Gives r a = From way next_of tunnels_of r.next_teid r.tunnels a

  rests_gives : (r : CuUp M C) (a : Answer M P (CuUp M C)) → Rests r a → Gives r a
  rests_gives r a p = from_still way next_of tunnels_of r.next_teid r.tunnels a p

  gives_if : (r : CuUp M C) (t : Bool) (x y : Answer M P (CuUp M C)) → Gives r x → Gives r y → Gives r (if t then x else y)
  gives_if r t x y p q = from_if way next_of tunnels_of r.next_teid r.tunnels t x y p q

  rests_if : (r : CuUp M C) (t : Bool) (x y : Answer M P (CuUp M C)) → Rests r x → Rests r y → Rests r (if t then x else y)
  rests_if r t x y p q = still_if way next_of tunnels_of r.next_teid r.tunnels t x y p q

  dropped_rests : (reason : DropReason) (r : CuUp M C) → Rests r (drops reason r)
  dropped_rests reason r = (refl, refl, λ teid owner e. e)

  drops_gives : (reason : DropReason) (r : CuUp M C) → Gives r (drops reason r)
  drops_gives reason r = rests_gives r (drops reason r) (dropped_rests reason r)

  -- ---- the bearers of a context

  abbrev StillStep : UpStep way → Type 0
  StillStep (steps os bearers) = opened_by os ≡ []
  StillStep (stops k) = Unit {0}

  step_still : (bearer : BearerId) (b : CuUpBearer) (a : Answer M P CuUpBearer) (s : UpStep way) → Stays way (ends b) a → StillStep s
      → StillStep (step_with way bearer a s)
  step_still bearer b (gives os c) (steps more bs) p q = both opened_in os more p.0 q
  step_still bearer b (gives os c) (stops k) p q = tt
  step_still bearer b (spent k) s p q = tt

  each_still : (order : BearerId → CuUpBearer → Answer M P CuUpBearer) → ((bearer : BearerId) (b : CuUpBearer) → Stays way (ends b) (order bearer b))
      → (es : List (BearerId × CuUpBearer)) → StillStep (each_bearer way order es)
  each_still order each [] = refl
  each_still order each (e ∷ es) = step_still e.0 e.1 (order e.0 e.1) (each_bearer way order es) (each e.0 e.1) (each_still order each es)

  statuses_still : (ue : UeId) (c : CuUpContext) (ss : List SnStatus) (es : List (BearerId × CuUpBearer)) → StillStep (status_each way ue c ss es)
  statuses_still ue c [] es = refl
  statuses_still ue c (s ∷ ss) [] = refl
  statuses_still ue c (s ∷ ss) (e ∷ es) =
      step_still e.0 e.1 (with_status way (cu_up_scope ue c e.0) s e.1) (status_each way ue c ss es) (status_stays way (cu_up_scope ue c e.0) s e.1) (statuses_still ue c ss es)

  answer_rests : (r : CuUp M C) (ue : UeId) (c : CuUpContext) (s : UpStep way) → StillStep s → Rests r (answer_with way r ue c s)
  answer_rests r ue c (steps os bearers) still = (still, refl, λ teid owner e. e)
  answer_rests r ue c (stops k) still = tt

  replies_rests : (ch : Channel) (m : E1Message) (r : CuUp M C) → Rests r (replies way ch m r)
  replies_rests ch m r =
      none_then way next_of tunnels_of r.next_teid r.tunnels (replied way r.transactions ch (e1 m)) (with_transactions r)
      (none_replied way r.transactions ch (e1 m)) (λ s. (refl, λ teid owner e. e))

  steps_rests : (r : CuUp M C) (ch : Channel) (ue : UeId) (c : CuUpContext) (s : UpStep way) (m : E1Message) → StillStep s
      → Rests r (answer_with way r ue c s then replies way ch m)
  steps_rests r ch ue c s m still =
      still_then way next_of tunnels_of r.next_teid r.tunnels (answer_with way r ue c s) (replies way ch m) (answer_rests r ue c s still) (replies_rests ch m)

  -- ---- a context ends

  none_closed : (teids : List ℕ) → opened_by {M = M} {P = P} (map (λ teid. closed teid) teids) ≡ []
  none_closed [] = refl
  none_closed (t ∷ ts) = none_closed ts

  none_closings : (es : List (BearerId × CuUpBearer)) → opened_by {M = M} {P = P} (flat_map (λ e. map (λ teid. closed teid) (open_teids e.1)) es) ≡ []
  none_closings [] = refl
  none_closings (e ∷ es) =
      both opened_in (map (λ teid. closed teid) (open_teids e.1)) (flat_map (λ e. map (λ teid. closed teid) (open_teids e.1)) es)
      (none_closed (open_teids e.1)) (none_closings es)

  ended_rests : (r : CuUp M C) (ue : UeId) (c : CuUpContext) → Rests r (ended way r ue c)
  unfolding ended
  ended_rests r ue c = (none_closings c.bearers, refl, fewer_each (flat_map (λ e. open_teids e.1) c.bearers) r.tunnels)

  over_rests : (ue : UeId) (r : CuUp M C) → Rests r (end_where_over way ue r)
  unfolding end_where_over
  over_rests ue r = by (context_of r ue)
    where
      by : (c : Option CuUpContext) → Rests r (ended_if_over way ue r c)
      by None = (refl, refl, λ teid owner e. e)
      by (Some c) =
          rests_if r (c.flags.released && list_all (λ e. is_over c.flags e.1) c.bearers) (ended way r ue c) (nothing r)
          (ended_rests r ue c) (refl, refl, λ teid owner e. e)

  released_rests : (ue : UeId) (is_final : Bool) (r : CuUp M C) (c : Option CuUpContext) → Rests r (released_on way ue is_final r c)
  released_rests ue is_final r None = (refl, refl, λ teid owner e. e)
  released_rests ue true r (Some c) = ended_rests r ue c
  released_rests ue false r (Some c) = over_rests ue (with_context ue r (as_released way c))

  -- ---- Bearer Context Setup

  makes_gives : (ue : UeId) (sn : SnBits) (quota : ℕ) (target : Bool) (count : ℕ) (r : CuUp M C) → Gives r (makes way ue sn quota target count r)
  unfolding makes
  makes_gives ue sn quota target count r = by (teids_are_left r.next_teid (count * teids_of_bearer target)) refl
    where
      bs : List BearerId
      bs = bearers_from 1 count

      many : length (bearers_from 1 count) * teids_of_bearer target ≡ count * teids_of_bearer target
      many = ap (λ (n : ℕ). n * teids_of_bearer target) (how_many 1 count)

      by : (t : Bool) → teids_are_left r.next_teid (count * teids_of_bearer target) ≡ t
          → Gives r (if t then with_new way ue r (count * teids_of_bearer target) (new_context way r sn quota target count) else spent teids_spent)
      by true left = (
        gives_counted r.next_teid (count * teids_of_bearer target) _ _
            (opens_made target (bearers_from 1 count) r.next_teid ∙ ap (count_from r.next_teid) many) left refl,
        grows_entries r.next_teid (count * teids_of_bearer target)
            (flat_map (entries_of ue r.next_teid) (bearers_made target r.next_teid (bearers_from 1 count))) r.tunnels left
            (subst (λ (k : ℕ). AllWithin k (k + count * teids_of_bearer target)
            (flat_map (entries_of ue r.next_teid) (bearers_made target r.next_teid (bearers_from 1 count))))
            (sym (below_left r.next_teid (count * teids_of_bearer target) left))
            (subst (λ (k : ℕ). AllWithin r.next_teid (r.next_teid + k)
            (flat_map (entries_of ue r.next_teid) (bearers_made target r.next_teid (bearers_from 1 count)))) many
            (made_within ue r.next_teid target (bearers_from 1 count) r.next_teid))),
      )
      by false left = tt

  set_up_rests : (ch : Channel) (ue : UeId) (instance : ℕ) (forward : Bool) (r : CuUp M C) (c : Option CuUpContext) → Rests r (set_up_for way ch ue instance forward r c)
  set_up_rests ch ue instance forward r None = (refl, refl, λ teid owner e. e)
  set_up_rests ch ue instance forward r (Some c) = replies_rests ch (setup_response way ue instance forward c.bearers) r

  setup_gives : (ch : Channel) (ue : UeId) (instance count : ℕ) (sn : SnBits) (quota : ℕ) (forward : Bool) (r : CuUp M C) (c : Option CuUpContext)
      → Gives r (setup_on way ch ue instance count sn quota forward r c)
  setup_gives ch ue instance count sn quota forward r (Some c) =
      rests_gives r _ (replies_rests ch (e1s.BearerContextSetupFailure ue instance cause_busy) r)
  setup_gives ch ue instance count sn quota forward r None =
      gives_if r (not (fits way count quota r)) _ _ (rests_gives r _ (replies_rests ch (e1s.BearerContextSetupFailure ue instance cause_quota) r))
      (from_then way next_of tunnels_of r.next_teid r.tunnels (makes way ue sn quota forward count r)
      (λ s. set_up_for way ch ue instance forward s (context_of s ue)) (makes_gives ue sn quota forward count r)
      (λ s. set_up_rests ch ue instance forward s (context_of s ue)))

  -- ---- Bearer Context Modification: uplinks are added

  abbrev OpensStep : ℕ → ℕ → UpStep way → Type 0
  OpensStep next n (steps os bearers) = opened_by os ≡ count_from next n
  OpensStep next n (stops k) = Unit {0}

  uplinks_open : (next : ℕ) (es : List (BearerId × CuUpBearer)) → OpensStep next (length es) (uplinks_from way next es)
  unfolding with_uplink
  uplinks_open next [] = refl
  uplinks_open next (e ∷ es) = by (uplinks_from way (next + 1) es) (uplinks_open (next + 1) es)
    where
      by : (s : UpStep way) → OpensStep (next + 1) (length es) s → OpensStep next (suc (length es)) (step_with way e.0 (with_uplink way next e.1) s)
      by (steps os bs) p = ap (λ (l : List ℕ). next ∷ l) p
      by (stops k) p = tt

  so_many : (next : ℕ) (es : List (BearerId × CuUpBearer)) → length (teids_from way next es) ≡ length es
  so_many next [] = refl
  so_many next (e ∷ es) = ap (λ (n : ℕ). suc n) (so_many (next + 1) es)

  uplinks_within : (ue : UeId) (context next : ℕ) (es : List (BearerId × CuUpBearer))
      → AllWithin next (next + length es) (uplink_entries way ue context (teids_from way next es))
  uplinks_within ue context next [] = tt
  uplinks_within ue context next (e ∷ es) = (
    (omega arith, omega arith),
    wider next (next + 1) (next + 1 + length es) (next + suc (length es)) _ (omega arith) (omega arith) (uplinks_within ue context (next + 1) es),
  )

  uplinks_give : (ch : Channel) (ue : UeId) (instance : ℕ) (c : CuUpContext) (r : CuUp M C) → Gives r (add_uplinks way ch ue instance c r)
  unfolding add_uplinks
  uplinks_give ch ue instance c r = by (teids_are_left r.next_teid (length c.bearers)) refl
    where
      tunnels : List Tunnel
      tunnels = teids_from way r.next_teid c.bearers

      given : (s : UpStep way) → teids_are_left r.next_teid (length c.bearers) ≡ true → OpensStep r.next_teid (length c.bearers) s
          → Gives r (answer_with way (uplinks_given way ue r c (teids_from way r.next_teid c.bearers)) ue c s)
      given (steps os bearers) left p = (
        gives_counted r.next_teid (length c.bearers) (opened_by os) _ p left (ap (teid_after r.next_teid) (so_many r.next_teid c.bearers)),
        subst (λ (k : ℕ). GrowsTo r.next_teid r.tunnels (teid_after r.next_teid k)
            (with_entries r.tunnels (uplink_entries way ue c.instance (teids_from way r.next_teid c.bearers)))) (sym (so_many r.next_teid c.bearers))
            (grows_entries r.next_teid (length c.bearers) (uplink_entries way ue c.instance (teids_from way r.next_teid c.bearers)) r.tunnels left
            (subst (λ (k : ℕ). AllWithin k (k + length c.bearers) (uplink_entries way ue c.instance (teids_from way r.next_teid c.bearers)))
            (sym (below_left r.next_teid (length c.bearers) left)) (uplinks_within ue c.instance r.next_teid c.bearers))),
      )
      given (stops k) left p = tt

      by : (t : Bool) → teids_are_left r.next_teid (length c.bearers) ≡ t
          → Gives r (if not t then spent teids_spent
          else (answer_with way (uplinks_given way ue r c (teids_from way r.next_teid c.bearers)) ue c (uplinks_from way r.next_teid c.bearers)
          then replies way ch (modified way ue instance (Some (teids_from way r.next_teid c.bearers)) None)))
      by true left =
          from_then way next_of tunnels_of r.next_teid r.tunnels
          (answer_with way (uplinks_given way ue r c (teids_from way r.next_teid c.bearers)) ue c (uplinks_from way r.next_teid c.bearers))
          (replies way ch (modified way ue instance (Some (teids_from way r.next_teid c.bearers)) None))
          (given (uplinks_from way r.next_teid c.bearers) left (uplinks_open r.next_teid c.bearers))
          (replies_rests ch (modified way ue instance (Some (teids_from way r.next_teid c.bearers)) None))
      by false left = tt

  -- ---- the other modifications give none

  module _ (ch : Channel) (ue : UeId) (instance : ℕ) (r : CuUp M C) where
    choose : (t : Bool) (x y : Answer M P (CuUp M C)) → Rests r x → Rests r y → Rests r (if t then x else y)
    choose = rests_if r

    drop : Rests r (drops Unexpected r)
    drop = dropped_rests Unexpected r

    switch_rests : (d : Option ℕ) (list : Option (List Tunnel)) (c : CuUpContext) → Rests r (switch_if way ch ue instance d list c r)
    unfolding switch
    switch_rests (Some d) (Some list) c =
        choose (c.flags.released || not (are_bearers (names way c) (bearers_of list))) (drops Unexpected r) _ drop
        (steps_rests r ch ue (as_switched way c)
        (each_bearer way (λ b. switched way (cu_up_scope ue (as_switched way c) b) (du_id r.gnb d) (teid_of list b)) c.bearers) (modified way ue instance None None)
        (each_still (λ b. switched way (cu_up_scope ue (as_switched way c) b) (du_id r.gnb d) (teid_of list b))
        (λ b x. switched_stays way (cu_up_scope ue (as_switched way c) b) (du_id r.gnb d) (teid_of list b) x) c.bearers))
    switch_rests (Some d) None c = drop
    switch_rests None list c = drop

    freeze_rests : (p : Option Peer) (a b : Option (List Tunnel)) (c : CuUpContext) → Rests r (freeze_if way ch ue instance p a b c r)
    unfolding freeze
    freeze_rests (Some p) (Some a) (Some b) c =
        choose (c.flags.frozen || c.flags.released || not c.flags.arrived || not (are_bearers (names way c) (bearers_of a)) || not (are_bearers (names way c) (bearers_of b)))
        (drops Unexpected r) _ drop
        (choose (not c.flags.may_serve) _ _ (replies_rests ch (e1s.BearerContextModificationFailure ue instance cause_busy) r)
        (steps_rests r ch ue (as_frozen way c)
        (each_bearer way (λ x. frozen_to way (cu_up_scope ue (as_frozen way c) x) (peer_node way p) (teid_of a x) (teid_of b x)) c.bearers)
        (modified way ue instance None (Some (statuses way c)))
        (each_still (λ x. frozen_to way (cu_up_scope ue (as_frozen way c) x) (peer_node way p) (teid_of a x) (teid_of b x))
        (λ x y. frozen_stays way (cu_up_scope ue (as_frozen way c) x) (peer_node way p) (teid_of a x) (teid_of b x) y) c.bearers)))
    freeze_rests (Some p) (Some a) None c = drop
    freeze_rests (Some p) None b c = drop
    freeze_rests None a b c = drop

    status_rests : (list : Option (List SnStatus)) (c : CuUpContext) → Rests r (status_if way ch ue instance list c r)
    unfolding take_status
    status_rests (Some list) c =
        choose (c.flags.may_serve || not (are_bearers (names way c) (statuses_of list))) (drops Unexpected r) _ drop
        (steps_rests r ch ue (as_known way c) (status_each way ue (as_known way c) list c.bearers) (modified way ue instance None None)
        (statuses_still ue (as_known way c) list c.bearers))
    status_rests None c = drop

    resume_rests : (c : CuUpContext) → Rests r (resume_if way ch ue instance c r)
    unfolding resume
    resume_rests c =
        choose (c.flags.frozen && not c.flags.released) _ (drops Unexpected r)
        (steps_rests r ch ue (as_resumed way c)
        (each_bearer way (λ b. resumed way (cu_up_scope ue (as_resumed way c) b)) c.bearers) (modified way ue instance None None)
        (each_still (λ b. resumed way (cu_up_scope ue (as_resumed way c) b)) (λ b x. resumed_stays way (cu_up_scope ue (as_resumed way c) b) x) c.bearers))
        drop

    uplinks_if_give : (c : CuUpContext) → Gives r (uplinks_if way ch ue instance c r)
    uplinks_if_give c = gives_if r c.flags.released (drops Unexpected r) _ (drops_gives Unexpected r) (uplinks_give ch ue instance c r)

    modify_gives : (downlinks : Option (List Tunnel)) (mode : ℕ) (peer : Option Peer) (down up : Option (List Tunnel)) (ss : Option (List SnStatus)) (du : Option ℕ)
        (c : Option CuUpContext) → Gives r (modify_on way ch (e1s.BearerContextModificationRequest ue instance downlinks mode peer down up ss du) r c)
    modify_gives downlinks mode peer down up ss du None = drops_gives NoContext r
    modify_gives downlinks mode peer down up ss du (Some c) =
        gives_if r (mode == mode_uplinks) _ _ (uplinks_if_give c)
        (gives_if r (mode == mode_switch) _ _ (rests_gives r _ (switch_rests du downlinks c))
        (gives_if r (mode == mode_freeze) _ _ (rests_gives r _ (freeze_rests peer down up c))
        (gives_if r (mode == mode_status) _ _ (rests_gives r _ (status_rests ss c))
        (gives_if r (mode == mode_resume) _ _ (rests_gives r _ (resume_rests c)) (drops_gives Unexpected r)))))

  -- ---- requests and replies

  release_rests : (ch : Channel) (ue : UeId) (instance : ℕ) (is_final : Bool) (r : CuUp M C) → Rests r (release way ch ue instance is_final r)
  unfolding release
  release_rests ch ue instance is_final r =
      still_then way next_of tunnels_of r.next_teid r.tunnels (replies way ch (e1s.BearerContextReleaseComplete ue instance) r)
      (λ s. released_on way ue is_final s (context_of s ue)) (replies_rests ch (e1s.BearerContextReleaseComplete ue instance) r)
      (λ s. released_rests ue is_final s (context_of s ue))

  asked_gives : (ch : Channel) (m : Message C) (r : CuUp M C) → Gives r (asked way ch m r)
  unfolding setup
  asked_gives ch (e1 (e1s.BearerContextSetupRequest ue instance count sn quota forward)) r =
      setup_gives ch ue instance count sn quota forward r (context_of r ue)
  asked_gives ch (e1 (e1s.BearerContextModificationRequest ue instance downlinks mode peer down up ss du)) r =
      modify_gives ch ue instance r downlinks mode peer down up ss du (context_of r ue)
  asked_gives ch (e1 (e1s.BearerContextReleaseCommand ue instance is_final)) r =
      rests_gives r (release way ch ue instance is_final r) (release_rests ch ue instance is_final r)
  asked_gives ch m r = drops_gives Unexpected r

  set_up_still : (ch : Channel) (r : CuUp M C) → Rests r (set_up way ch r)
  unfolding set_up
  set_up_still ch r =
      none_then way next_of tunnels_of r.next_teid r.tunnels (advance way (record r.transactions { caller = close r.transactions.caller ch }) ch)
      (λ a. record r { is_set_up = true; transactions = a.transactions })
      (none_advance way (record r.transactions { caller = close r.transactions.caller ch }) ch) (λ s. (refl, λ teid owner e. e))

  control_by_gives : (ch : Channel) (m : Message C) (r : CuUp M C) (k : Kind) → Gives r (control_by way ch m r k)
  control_by_gives ch m r (request ue i) =
      from_request way next_of tunnels_of r r.transactions ch i (λ t. asked way ch m (with_transactions r t)) (λ t. asked_gives ch m (with_transactions r t))
  control_by_gives ch m r (reply ue i) =
      rests_gives r _ (still_reply way next_of tunnels_of r r.transactions ch i (set_up way ch r) (set_up_still ch r))
  control_by_gives ch m r (transfer ue) = drops_gives Unexpected r

  control_gives : (from : NodeId) (m : Message C) (r : CuUp M C) → Gives r (control_received way from m r)
  unfolding control_received
  control_gives from m r =
      gives_if r (is_own_cu_cp way r.gnb from) _ (drops Unexpected r)
      (control_by_gives (channel (ue_in way (kind_of m)) from) m r (kind_of m)) (drops_gives Unexpected r)

  -- ---- items, polls, ticks

  bearer_rests : (r : CuUp M C) (ue : UeId) (c : CuUpContext) (bearer : BearerId) (a : Answer M P CuUpBearer) → OpensNone a
      → Rests r (with_bearer way r ue c bearer a)
  bearer_rests r ue c bearer (gives os b) none = (none, refl, fewer_each (flat_map closed_in os) r.tunnels)
  bearer_rests r ue c bearer (spent k) none = tt

  took_none : (kind : TunnelKind) (teid : ℕ) (b : CuUpBearer) (a : Answer M P CuUpBearer) → Took way kind teid b a → OpensNone a
  took_none kind teid b (gives os c) p = p.0
  took_none kind teid b (spent k) p = tt

  stays_none : (b : CuUpBearer) (a : Answer M P CuUpBearer) → Stays way (ends b) a → OpensNone a
  stays_none b (gives os c) p = p.0
  stays_none b (spent k) p = tt

  taken_rests : (r : CuUp M C) (t : CuUpTunnel) (teid : ℕ) (item : Taken P) (c : CuUpContext) (b : CuUpBearer) (reason : Option HeldReason)
      → Rests r (taken_by way r t teid item c b reason)
  taken_rests r t teid item c b (Some reason) = (refl, refl, λ i owner e. e)
  taken_rests r t teid item c b None =
      still_then way next_of tunnels_of r.next_teid r.tunnels
      (with_bearer way r t.ue c t.bearer (took way (cu_up_scope t.ue c t.bearer) t.kind teid item b)) (end_where_over way t.ue)
      (bearer_rests r t.ue c t.bearer (took way (cu_up_scope t.ue c t.bearer) t.kind teid item b)
      (took_none t.kind teid b _ (item_took way (cu_up_scope t.ue c t.bearer) t.kind teid item b)))
      (over_rests t.ue)

  take_rests : (teid : ℕ) (item : Taken P) (r : CuUp M C) → Rests r (take way teid item r)
  unfolding take
  take_rests teid item r = by (find nat_cmp r.tunnels teid)
    where
      in_bearer : (t : CuUpTunnel) (c : CuUpContext) (b : Option CuUpBearer) → Rests r (taken_in way r t teid item c b)
      in_bearer t c None = dropped_rests NoContext r
      in_bearer t c (Some b) = taken_rests r t teid item c b (held_reason (cu_up_scope t.ue c t.bearer) b t.kind item)

      in_context : (t : CuUpTunnel) (c : Option CuUpContext) → Rests r (taken_of way r t teid item c)
      in_context t None = dropped_rests NoContext r
      in_context t (Some c) = in_bearer t c (find bearer_cmp c.bearers t.bearer)

      by : (t : Option CuUpTunnel) → Rests r (taken_on way r teid item t)
      by None = dropped_rests NoTunnel r
      by (Some t) = in_context t (context_of r t.ue)

  poll_rests : (ue : UeId) (bearer : BearerId) (r : CuUp M C) → Rests r (poll way ue bearer r)
  unfolding poll
  poll_rests ue bearer r = by (context_of r ue)
    where
      in_bearer : (c : CuUpContext) (b : Option CuUpBearer) → Rests r (poll_bearer way r ue c bearer b)
      in_bearer c None = (refl, refl, λ teid owner e. e)
      in_bearer c (Some b) =
          rests_if r (length b.sender.unconfirmed == 0) (puts (no Empty) r) _ (refl, refl, λ teid owner e. e)
          (rests_if r (c.flags.frozen || not (has_downlink b.downlink)) (puts (no NoRadio) r) _ (refl, refl, λ teid owner e. e)
          (bearer_rests r ue c bearer (framed way (cu_up_scope ue c bearer) true false None Absent b)
          (stays_none b _ (poll_stays way (cu_up_scope ue c bearer) b))))

      by : (c : Option CuUpContext) → Rests r (poll_on way r ue bearer c)
      by None = (refl, refl, λ teid owner e. e)
      by (Some c) = in_bearer c (find bearer_cmp c.bearers bearer)

  start_rests : (r : CuUp M C) → Rests r (start way r)
  unfolding start
  start_rests r =
      rests_if r r.is_set_up (nothing r) _ (refl, refl, λ teid owner e. e)
      (none_then way next_of tunnels_of r.next_teid r.tunnels (ask way r.transactions (channel 0 (CuCp r.gnb))
      (record { message = e1 (e1s.E1SetupRequest no_instance (node_text (up_node r))); deadline = None; awaited = false }))
      (λ a. with_transactions r a.transactions) (none_ask way r.transactions (channel 0 (CuCp r.gnb)) _) (λ s. (refl, λ teid owner e. e)))

  tick_rests : (r : CuUp M C) → Rests r (tick way r)
  unfolding tick
  tick_rests r = (none_due way (due_output way) (λ c m. refl) (λ c. refl) (due r.transactions.caller), refl, λ teid owner e. e)

  pub cu_up_gives : (r : CuUp M C) (input : Input C P) → Gives r (cu_up_acts way r input)
  unfolding cu_up_acts
  cu_up_gives r (control_input from m) = control_gives from m r
  cu_up_gives r (packet_input teid item) = rests_gives r (take way teid item r) (take_rests teid item r)
  cu_up_gives r tick_input = rests_gives r (tick way r) (tick_rests r)
  cu_up_gives r (order_input orders.Start) = rests_gives r (start way r) (start_rests r)
  cu_up_gives r (order_input (orders.Poll ue bearer)) = rests_gives r (poll way ue bearer r) (poll_rests ue bearer r)
  cu_up_gives r input = drops_gives Unexpected r
