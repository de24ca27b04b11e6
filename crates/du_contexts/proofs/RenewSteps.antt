-- Steps of the row that gives a context new downlink tunnels, over plain values.
use Rattle.std.proofs.Common.{◌≡◌, ℕ, suc, ◌+◌, ◌<◌, get_or, drop, length, map, Bool, false, cond, List, [], ◌∷◌, ◌++◌, Option, Some, refl, sym, ap, subst, ◌∙◌, arith}
use Rattle.std.specs.Prelude.{Result}
use Rattle.std.specs.List.Sorted.{IsStrictlySortedBy}
use Rattle.std.specs.Map.{keys_of}
use Rattle.std.proofs.Math.Seq.{drop-cons}
use Rattle.gnb_types.specs.declared.names.BearerId.{BearerId}
use Rattle.gnb_types.specs.declared.names.SnBits.{SnBits}
use Rattle.gnb_types.specs.declared.names.UeId.{UeId}
use Rattle.gnb_types.specs.declared.outputs.Output.{Output}
use Rattle.gnb_types.specs.Orders.{ue_cmp, bearer_cmp}
use Rattle.gnb_types.proofs.OrderLemmas.{bearer_total}
use Rattle.tables.specs.Tables.{find, put}
use Rattle.unit_defs.specs.Ways.{gives, spent, closed, teids_spent}
use Rattle.unit_defs.specs.Teids.{teids_are_left}
use Rattle.unit_defs.specs.Du.{DuBearer, DuContext, bearers_anew, context_anew, old_downlinks, openings, replaced, replaces}
use Rattle.unit_defs.specs.octet_defs.Codec.{Codec, octet_way}
use Rattle.unit_defs.specs.octet_defs.Units.{OctetAnswer}
use Rattle.unit_messages.specs.declared.steps.StepError.{StepError}
use Rattle.unit_messages.specs.steps.Steps.{IsStep, stopped, step_after}
use Rattle.du_contexts.specs.declared.renewing.Uplink.{Uplink}
use Rattle.du_contexts.specs.Renewed.{renewed, uplink_of, anew_of}
use Rattle.du_contexts.specs.Tables.{OctetDu, DuTables, with_tables}
use Rattle.du_contexts.proofs.BearersMade.{entry_goes, keys_go}
use Rattle.du_contexts.proofs.Steps.{step_as}

abbrev bearers_of_uplinks : List Uplink → List BearerId
bearers_of_uplinks us = map (λ u. u.bearer) us

-- ---- one uplink more has its bearer

module _ (teid i : ℕ) (us : List Uplink) (d : Uplink) (m n : List (BearerId × DuBearer))
    (within : i < length us)
    (sorted : IsStrictlySortedBy bearer_cmp (keys_of m ++ bearers_of_uplinks (drop i us)))
    (is : n ≡ put bearer_cmp m (get_or us i d).bearer (record { up = (get_or us i d).up; uplink = (get_or us i d).teid; downlink = teid; awaited = 0; gap = false })) where
  split_off : drop i us ≡ get_or us i d ∷ drop (i + 1) us
  split_off =
      let next : suc i ≡ i + 1 = omega arith in
      drop-cons us i d within ∙ ap (λ (j : ℕ). get_or us i d ∷ drop j us) next

  sorted_now : IsStrictlySortedBy bearer_cmp (keys_of m ++ (get_or us i d).bearer ∷ bearers_of_uplinks (drop (i + 1) us))
  sorted_now = subst (λ (ts : List Uplink). IsStrictlySortedBy bearer_cmp (keys_of m ++ bearers_of_uplinks ts)) split_off sorted

  pub anew_all : (all : List (BearerId × DuBearer)) → m ++ anew_of teid (drop i us) ≡ all → n ++ anew_of (teid + 1) (drop (i + 1) us) ≡ all
  anew_all all before =
      entry_goes bearer_total m n _ _ (bearers_of_uplinks (drop (i + 1) us)) (anew_of (teid + 1) (drop (i + 1) us)) sorted_now is
      ∙ ap (λ (ts : List Uplink). m ++ anew_of teid ts) (sym split_off)
      ∙ before

  pub anew_sorted : IsStrictlySortedBy bearer_cmp (keys_of n ++ bearers_of_uplinks (drop (i + 1) us))
  anew_sorted = keys_go bearer_total m n _ _ (bearers_of_uplinks (drop (i + 1) us)) sorted_now is

-- ---- the uplinks of a context

pub anew_is : (next : ℕ) (es : List (BearerId × DuBearer)) → anew_of next (map uplink_of es) ≡ bearers_anew next es
anew_is next [] = refl
anew_is next (e ∷ es) =
    ap (λ (xs : List (BearerId × DuBearer)). (e.0, record e.1 { downlink = next; awaited = 0; gap = false }) ∷ xs) (anew_is (next + 1) es)

keys_are : (es : List (BearerId × DuBearer)) → bearers_of_uplinks (map uplink_of es) ≡ keys_of es
keys_are [] = refl
keys_are (e ∷ es) = ap (λ (xs : List BearerId). e.0 ∷ xs) (keys_are es)

pub uplinks_sorted : (es : List (BearerId × DuBearer)) (us : List Uplink) → us ≡ map uplink_of es → IsStrictlySortedBy bearer_cmp (keys_of es)
    → IsStrictlySortedBy bearer_cmp (map (λ u. u.bearer) us)
uplinks_sorted es us is sorted =
    subst (λ (xs : List BearerId). IsStrictlySortedBy bearer_cmp xs) (sym (ap bearers_of_uplinks is ∙ keys_are es)) sorted

as_many : (next : ℕ) (es : List (BearerId × DuBearer)) → length (bearers_anew next es) ≡ length (map uplink_of es)
as_many next [] = refl
as_many next (e ∷ es) = ap suc (as_many (next + 1) es)

-- ---- the row

module _ (codec : Codec) (r : OctetDu) (ue : UeId) (epoch : ℕ) (before : List Output) (t : DuTables) (c : DuContext)
    (found : Some c ≡ find ue_cmp t.contexts ue) where
  pub no_teids_to_renew : (us : List Uplink) → us ≡ map uplink_of c.bearers → teids_are_left t.next_teid (length us) ≡ false
      → step_after before (renewed codec ue epoch (with_tables r t) (find ue_cmp t.contexts ue)) ≡ stopped 2
  unfolding replaces
  no_teids_to_renew us is none =
      let now : DuContext = context_anew (octet_way codec) (with_tables r t) epoch c in
      let giving : OctetAnswer OctetDu = gives (map (λ teid. closed teid) (old_downlinks (octet_way codec) (Some c)) ++ openings (octet_way codec) now)
      (replaced (octet_way codec) ue (Some c) now (with_tables r t)) in
      ap (λ (o : Option DuContext). step_after before (renewed codec ue epoch (with_tables r t) o)) (sym found)
      ∙ ap (λ (b : Bool). step_after before (cond b giving (spent teids_spent)))
      (ap (λ (k : ℕ). teids_are_left t.next_teid k) (as_many t.next_teid c.bearers ∙ ap length (sym is)) ∙ none)

  pub renew_step : (sn : SnBits) (bs : List (BearerId × DuBearer)) (outputs : List Output) (after : OctetDu) (result : Result (Unit {0}) StepError)
      → sn ≡ c.sn → bs ≡ bearers_anew t.next_teid c.bearers
      → IsStep (step_after before (replaces (octet_way codec) ue (find ue_cmp t.contexts ue) (record { epoch = epoch; sn = sn; bearers = bs }) (with_tables r t)))
      outputs after result
      → IsStep (step_after before (renewed codec ue epoch (with_tables r t) (find ue_cmp t.contexts ue))) outputs after result
  renew_step sn bs outputs after result sn_is bs_is step =
      step_as before outputs after result _ _
      (ap (λ (o : Option DuContext). renewed codec ue epoch (with_tables r t) o) (sym found)
      ∙ ap (λ (o : Option DuContext). replaces (octet_way codec) ue o (context_anew (octet_way codec) (with_tables r t) epoch c) (with_tables r t)) found
      ∙ (λ i. replaces (octet_way codec) ue (find ue_cmp t.contexts ue) (record { epoch = epoch; sn = sym sn_is i; bearers = sym bs_is i }) (with_tables r t)))
      step
