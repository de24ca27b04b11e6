-- Steps of placing a terminal, over plain values.
use Rattle.std.proofs.Common.{◌≡◌, ℕ, zero, suc, ◌+◌, ◌*◌, length, map, Bool, true, false, cond, ◌&&◌, List, [], ◌∷◌, ◌++◌, Option, None, Ok, Err, refl, sym, ap, ◌∙◌, eq-eqb, arith}
use Rattle.std.specs.Prelude.{Result}
use Rattle.gnb_types.specs.declared.names.Gnb.{Gnb}
use Rattle.gnb_types.specs.declared.names.NodeId.TheVariants.{CuUp}
use Rattle.gnb_types.specs.declared.outputs.Output.{Output}
use Rattle.gnb_types.specs.declared.plans.Plan.{Plan}
use Rattle.gnb_types.specs.declared.plans.Tunnel.{Tunnel}
use Rattle.gnb_types.specs.Orders.{ue_cmp}
use Rattle.tables.specs.Tables.{find, put}
use Rattle.unit_defs.specs.CuUp.{bearers_from}
use Rattle.unit_defs.specs.Ways.{gives, spent, closed, teids_spent}
use Rattle.unit_defs.specs.Teids.{teids_are_left, teid_after}
use Rattle.unit_defs.specs.Messages.{bearers_of, are_from}
use Rattle.unit_defs.specs.Static.{uplinks_from, du_placed}
use Rattle.unit_defs.specs.Du.{DuContext, context_with, with_entries, old_downlinks, openings, replaced, replaces}
use Rattle.unit_defs.specs.octet_defs.Codec.{Codec, octet_way}
use Rattle.unit_defs.specs.octet_defs.Units.{OctetAnswer}
use Rattle.unit_defs.specs.octet_defs.Writing.{outputs_of}
use Rattle.unit_messages.specs.declared.steps.StepError.{StepError}
use Rattle.unit_messages.specs.declared.steps.StepError.TheVariants as errors
use Rattle.unit_messages.specs.steps.Steps.{IsStep, stepped, stopped, step_after}
use Rattle.du_contexts.specs.Placing.{uplinks_fit, IsPlaced}
use Rattle.du_contexts.specs.Tables.{OctetDu, DuTables, with_tables}
use Rattle.du_contexts.proofs.BearersMade.{length_made}

-- ---- the uplinks

one_more : (u b k : ℕ) → uplinks_from u (bearers_from b (suc k))
    ≡ uplinks_from u (bearers_from b k) ++ record { bearer = record { 0 = b + k }; teid = u + 2 * k } ∷ []
one_more u b zero =
    let bearer : b ≡ b + 0 = omega arith in
    let teid : u ≡ u + 2 * 0 = omega arith in
    λ i. record { bearer = record { 0 = bearer i }; teid = teid i } ∷ []
one_more u b (suc k) =
    let bearer : b + 1 + k ≡ b + suc k = omega arith in
    let teid : u + 2 + 2 * k ≡ u + 2 * suc k = omega arith in
    let rest : List Tunnel = uplinks_from (u + 2) (bearers_from (b + 1) k) in
    ap (λ (ts : List Tunnel). record { bearer = record { 0 = b }; teid = u } ∷ ts) (one_more (u + 2) (b + 1) k)
    ∙ (λ i. record { bearer = record { 0 = b }; teid = u } ∷ rest ++ record { bearer = record { 0 = bearer i }; teid = teid i } ∷ [])

pub static_turn : (u i teid b : ℕ) (ts after : List Tunnel) → teid ≡ u + 2 * i → b ≡ 1 + i → ts ≡ uplinks_from u (bearers_from 1 i)
    → after ≡ ts ++ record { bearer = record { 0 = b }; teid = teid } ∷ [] → after ≡ uplinks_from u (bearers_from 1 (i + 1))
static_turn u i teid b ts after teid_is b_is ts_is after_is =
    let next : suc i ≡ i + 1 = omega arith in
    after_is
    ∙ (λ j. ts_is j ++ record { bearer = record { 0 = b_is j }; teid = teid_is j } ∷ [])
    ∙ sym (one_more u 1 i)
    ∙ ap (λ (k : ℕ). uplinks_from u (bearers_from 1 k)) next

first_from : (u b k : ℕ) → are_from b (bearers_of (uplinks_from u (bearers_from b k))) ≡ true
first_from u b zero = refl
first_from u b (suc k) =
    ap (λ (t : Bool). t && are_from (b + 1) (bearers_of (uplinks_from (u + 2) (bearers_from (b + 1) k)))) (eq-eqb b b refl)
    ∙ first_from (u + 2) (b + 1) k

pub are_first : (u k : ℕ) (ts : List Tunnel) → ts ≡ uplinks_from u (bearers_from 1 k) → are_from 1 (bearers_of ts) ≡ true
are_first u k ts is = ap (λ (us : List Tunnel). are_from 1 (bearers_of us)) is ∙ first_from u 1 k

as_many : (u b k : ℕ) → length (uplinks_from u (bearers_from b k)) ≡ k
as_many u b zero = refl
as_many u b (suc k) = ap suc (as_many (u + 2) (b + 1) k)

-- ---- the terminal is placed

pub not_second : (a b : Bool) → b ≡ false → a && b ≡ false
not_second true b h = h
not_second false b h = refl

pub both_hold : (a b : Bool) → a ≡ true → b ≡ true → a && b ≡ true
both_hold true b h k = k
both_hold false b h k = h

module _ (codec : Codec) (r : OctetDu) (t : DuTables) (plan : Plan) (uplink : ℕ) (gnb : Gnb) (us : List Tunnel) (before : List Output)
    (gnb_is : r.gnb ≡ gnb) (us_is : us ≡ uplinks_from uplink (bearers_from 1 plan.bearers))
    (none : find ue_cmp t.contexts plan.ue ≡ None)
    (left : teids_are_left t.next_teid plan.bearers ≡ true) where
  places : (os : List Output) × (step_after before (replaces (octet_way codec) plan.ue (find ue_cmp t.contexts plan.ue)
      (context_with (octet_way codec) (with_tables r t) 1 us plan.sn (record { gnb = gnb; up = plan.up })) (with_tables r t))
      ≡ stepped os (du_placed (with_tables r t) plan uplink))
  unfolding replaces du_placed
  places =
      let all : List Tunnel = uplinks_from uplink (bearers_from 1 plan.bearers) in
      let c : DuContext = context_with (octet_way codec) (with_tables r t) 1 all plan.sn (record { gnb = r.gnb; up = plan.up }) in
      let count : length c.bearers ≡ plan.bearers = length_made (CuUp r.gnb plan.up) t.next_teid all ∙ as_many uplink 1 plan.bearers in
      let giving : OctetAnswer OctetDu = gives (map (λ teid. closed teid) (old_downlinks (octet_way codec) None) ++ openings (octet_way codec) c)
      (replaced (octet_way codec) plan.ue None c (with_tables r t)) in
      let os : List Output = before ++ outputs_of (map (λ teid. closed teid) (old_downlinks (octet_way codec) None) ++ openings (octet_way codec) c) in (
        os,
        ap (λ (ts : List Tunnel). step_after before (replaces (octet_way codec) plan.ue (find ue_cmp t.contexts plan.ue)
            (context_with (octet_way codec) (with_tables r t) 1 ts plan.sn (record { gnb = gnb; up = plan.up })) (with_tables r t))) us_is
            ∙ ap (λ (g : Gnb). step_after before (replaces (octet_way codec) plan.ue (find ue_cmp t.contexts plan.ue)
            (context_with (octet_way codec) (with_tables r t) 1 all plan.sn (record { gnb = g; up = plan.up })) (with_tables r t))) (sym gnb_is)
            ∙ ap (λ (o : Option DuContext). step_after before (replaces (octet_way codec) plan.ue o c (with_tables r t))) none
            ∙ ap (λ (b : Bool). step_after before (cond b giving (spent teids_spent))) (ap (λ (k : ℕ). teids_are_left t.next_teid k) count ∙ left)
            ∙ ap (λ (k : ℕ). stepped os (with_tables r (record {
              next_teid = teid_after t.next_teid k;
              tunnels = with_entries plan.ue t.tunnels c.bearers;
              contexts = put ue_cmp t.contexts plan.ue c;
            })))
            count,
      )

  pub placed_step : (outputs : List Output) (after : OctetDu) (result : Result (Unit {0}) StepError) → uplinks_fit uplink plan.bearers ≡ true
      → IsStep (step_after before (replaces (octet_way codec) plan.ue (find ue_cmp t.contexts plan.ue)
      (context_with (octet_way codec) (with_tables r t) 1 us plan.sn (record { gnb = gnb; up = plan.up })) (with_tables r t))) outputs after result
      → IsPlaced (with_tables r t) plan uplink after result
  placed_step outputs after (Ok x) fit step =
      let same : stepped places.0 (du_placed (with_tables r t) plan uplink) ≡ stepped outputs after = sym places.1 ∙ step in
      let is : after ≡ du_placed (with_tables r t) plan uplink = cc in
      (both_hold (teids_are_left t.next_teid plan.bearers) (uplinks_fit uplink plan.bearers) left fit, is)
  placed_step outputs after (Err (errors.Spent counter)) fit step =
      let same : stepped places.0 (du_placed (with_tables r t) plan uplink) ≡ stopped counter = sym places.1 ∙ step in
      absurd cc
  placed_step outputs after (Err errors.Memory) fit step = tt
