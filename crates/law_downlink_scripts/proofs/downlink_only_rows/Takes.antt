-- What a CU-UP makes of an item for a bearer that serves.
use Rattle.std.proofs.Common.{◌≡◌, ℕ, Bool, true, false, ◌&&◌, List, [], ◌∷◌, ◌++◌, Option, Some, None, refl, sym, ap, subst, inl, inr}
use Rattle.std.specs.Prelude.{if◌then◌else◌}
use Rattle.std.specs.List.{flat_map, list_all}
use Rattle.std.specs.Ordering.{nat_cmp}
use Rattle.std.proofs.lemmas.List.{append-nil}
use Rattle.gnb_types.specs.declared.reasons.HeldReason.{HeldReason}
use Rattle.gnb_types.specs.Orders.{bearer_cmp}
use Rattle.gnb_types.proofs.OrderLemmas.{ue_total}
use Rattle.tables.specs.Tables.{find, put}
use Rattle.tables.proofs.TableLaws.{find-put-same}
use Rattle.unit_defs.specs.Ways.{Output, Taken, fresh_item, status_item, packet_input, Way, Answer, gives, spent, with_outputs, ◌then◌, nothing}
use Rattle.unit_defs.specs.Teids.{without_each}
use Rattle.unit_defs.specs.CuUpRecords.{DownlinkTunnel, CuUpBearer, CuUpContext, CuUpTunnel, TunnelKind, n3, f1u_uplink, CuUp, CuUpScope, cu_up_scope}
use Rattle.unit_defs.specs.CuUpBearers.{is_over}
use Rattle.unit_defs.specs.CuUpItems.{held_reason, took}
use Rattle.unit_defs.specs.CuUp.{context_of, closed_in, ended, ended_if_over, end_where_over, with_bearer, with_context, taken_by, taken_in, taken_of, taken_on, take, cu_up_acts}
use Rattle.law_downlink_scripts.specs.downlink_only_rows.DownlinkOnly.{serving, IsNumbered, Numbers, UpTakes}
use Rattle.law_downlink_scripts.proofs.downlink_only_rows.Ups.{fresh_numbered, confirms_numbered}

module _ {M C P : Type 0} (way : Way M C P) (r : CuUp M C) (teid : ℕ) (t : CuUpTunnel) (c : CuUpContext) (b : CuUpBearer) (d : DownlinkTunnel)
    (serves : c.flags ≡ serving) where
  abbrev at : CuUpScope
  at = cu_up_scope t.ue c t.bearer

  abbrev with_one : CuUpBearer → CuUpContext
  with_one x = record c { bearers = put bearer_cmp c.bearers t.bearer x }

  abbrev kept : List (Output M P) → CuUpBearer → CuUp M C
  kept outputs x = record (with_context t.ue r (with_one x)) { tunnels = without_each r.tunnels (flat_map closed_in outputs) }

  module _ (first : CuUpBearer) where
    done : (outputs : List (Output M P)) (x : CuUpBearer) → IsNumbered way at d first x outputs
        → UpTakes way r t.ue c at d first (gives outputs (kept outputs x) then end_where_over way t.ue)
    unfolding end_where_over
    done outputs x n =
        subst (λ (o : Option CuUpContext). UpTakes way r t.ue c at d first (with_outputs outputs (ended_if_over way t.ue (kept outputs x) o)))
        (sym (find-put-same ue_total r.contexts t.ue (with_one x)))
        (by c.flags.released (list_all (λ e. is_over c.flags e.1) (with_one x).bearers) (ap (λ f. f.released) serves))
      where
        by : (u v : Bool) → u ≡ false
            → UpTakes way r t.ue c at d first (with_outputs outputs (if u && v then ended way (kept outputs x) t.ue (with_one x) else nothing (kept outputs x)))
        by true v e = absurd cc
        by false v e = inr (x, subst (λ (os : List (Output M P)). IsNumbered way at d first x os) (sym (append-nil outputs)) n, refl, refl)

    answered : (a : Answer M P CuUpBearer) → Numbers way at d first a
        → UpTakes way r t.ue c at d first (with_bearer way r t.ue c t.bearer a then end_where_over way t.ue)
    answered (gives outputs x) n = done outputs x n
    answered (spent counter) n = tt

    pub takes : (item : Taken P) → find nat_cmp r.tunnels teid ≡ Some t → context_of r t.ue ≡ Some c → find bearer_cmp c.bearers t.bearer ≡ Some b
        → Numbers way at d first (took way at t.kind teid item b) → UpTakes way r t.ue c at d first (cu_up_acts way r (packet_input teid item))
    unfolding cu_up_acts take
    takes item is_open there has row =
        subst (λ (o : Option CuUpTunnel). UpTakes way r t.ue c at d first (taken_on way r teid item o)) (sym is_open)
        (subst (λ (o : Option CuUpContext). UpTakes way r t.ue c at d first (taken_of way r t teid item o)) (sym there)
        (subst (λ (o : Option CuUpBearer). UpTakes way r t.ue c at d first (taken_in way r t teid item c o)) (sym has)
        (by (held_reason at b t.kind item))))
      where
        by : (o : Option HeldReason) → UpTakes way r t.ue c at d first (taken_by way r t teid item c b o)
        by None = answered (took way at t.kind teid item b) row
        by (Some reason) = inl (reason, refl)

  -- a packet of N3
  pub takes_fresh : (p : List ℕ) → find nat_cmp r.tunnels teid ≡ Some t → t.kind ≡ n3 → context_of r t.ue ≡ Some c
      → find bearer_cmp c.bearers t.bearer ≡ Some b → b.downlink ≡ Some d → b.restart ≡ false
      → UpTakes way r t.ue c at d (record b { waiting = b.waiting ++ p ∷ [] }) (cu_up_acts way r (packet_input teid (fresh_item p)))
  unfolding took
  takes_fresh p is_open kind there has on calm =
      takes (record b { waiting = b.waiting ++ p ∷ [] }) (fresh_item p) is_open there has
      (subst (λ (k : TunnelKind). Numbers way at d (record b { waiting = b.waiting ++ p ∷ [] }) (took way at k teid (fresh_item p) b)) (sym kind)
      (fresh_numbered way at d b p serves on calm))

  -- a delivery status that reports no loss
  pub takes_status : (delivered : Option ℕ) → find nat_cmp r.tunnels teid ≡ Some t → t.kind ≡ f1u_uplink → context_of r t.ue ≡ Some c
      → find bearer_cmp c.bearers t.bearer ≡ Some b → b.downlink ≡ Some d → b.restart ≡ false
      → UpTakes way r t.ue c at d b (cu_up_acts way r (packet_input teid (status_item [] delivered)))
  unfolding took
  takes_status delivered is_open kind there has on calm =
      takes b (status_item [] delivered) is_open there has
      (subst (λ (k : TunnelKind). Numbers way at d b (took way at k teid (status_item [] delivered) b)) (sym kind)
      (confirms_numbered way at d b delivered on calm))
