-- A terminal that is set up without messages has the next TEIDs of its units; all units count as set up then.
use Rattle.std.proofs.Common.{◌≡◌, ℕ, suc, ◌+◌, ◌*◌, Bool, true, false, cond, List, [], ◌∷◌, ◌++◌, length, map, Some, refl, sym, ap, ◌∙◌, subst, arith}
use Rattle.std.specs.declared.cmp.Ordering.{Ordering}
use Rattle.std.specs.Option.{option_map}
use Rattle.std.specs.Map.{lookup}
use Rattle.std.specs.BTreeMap.{is_at}
use Rattle.std.specs.List.{flat_map}
use Rattle.gnb_types.specs.declared.names.Gnb.{Gnb}
use Rattle.gnb_types.specs.declared.names.UeId.{UeId}
use Rattle.gnb_types.specs.declared.names.BearerId.{BearerId}
use Rattle.gnb_types.specs.declared.names.NodeId.{NodeId}
use Rattle.gnb_types.specs.declared.names.NodeId.TheVariants.{CuUp as up_id}
use Rattle.gnb_types.specs.declared.plans.Plan.{Plan}
use Rattle.gnb_types.specs.declared.plans.Tunnel.{Tunnel}
use Rattle.tables.specs.Tables.{find}
use Rattle.unit_defs.specs.Teids.{teids_are_left, teid_after}
use Rattle.unit_defs.specs.CuUpRecords.{CuUpBearer, CuUp}
use Rattle.unit_defs.specs.CuUp.{bearers_from, bearers_made, entries_of}
use Rattle.unit_defs.specs.Du.{Du, DuBearer, bearers_made as du_bearers}
use Rattle.unit_defs.specs.Static.{with_downlinks, cu_up_context, cu_up_placed, cu_up_has_teids, uplinks_from, du_context, du_placed, du_has_teids}
use Rattle.proof_run_steps.specs.teids.Given.{below, GrowsTo}
use Rattle.proof_run_steps.proofs.teids.Grows.{AllWithin, below_left}
use Rattle.proof_run_steps.proofs.teids.CuUps.{Entry, made_within, how_many, grows_entries}
use Rattle.proof_run_steps.proofs.teids.Dus.{made_counted, grows_downlinks}

-- ---- CU-UP: downlinks change no end

pub same_ends : (ue : UeId) (context : ℕ) (gnb : Gnb) (du next : ℕ) (es : List (BearerId × CuUpBearer))
    → flat_map (entries_of ue context) (with_downlinks gnb du next es) ≡ flat_map (entries_of ue context) es
same_ends ue context gnb du next [] = refl
same_ends ue context gnb du next (e ∷ es) = ap (λ (l : List Entry). entries_of ue context e ++ l) (same_ends ue context gnb du (next + 1) es)

pub up_grows : {M C : Type 0} (r : CuUp M C) (plan : Plan) (downlink : ℕ) → cu_up_has_teids r plan ≡ true
    → GrowsTo r.next_teid r.tunnels (cu_up_placed r plan downlink).next_teid (cu_up_placed r plan downlink).tunnels
unfolding cu_up_placed
up_grows r plan downlink left =
    let made : List Entry = flat_map (entries_of plan.ue r.next_teid) (bearers_made false r.next_teid (bearers_from 1 plan.bearers)) in
    let placed : List Entry = flat_map (entries_of plan.ue r.next_teid) (cu_up_context r plan downlink).bearers in
    let many : length (bearers_from 1 plan.bearers) * 2 ≡ 2 * plan.bearers = ap (λ (n : ℕ). n * 2) (how_many 1 plan.bearers) ∙ (omega arith) in
    grows_entries r.next_teid (2 * plan.bearers) placed r.tunnels left
    (subst (λ (es : List Entry). AllWithin (below r.next_teid) (below r.next_teid + 2 * plan.bearers) es)
    (sym (same_ends plan.ue r.next_teid r.gnb plan.du downlink (bearers_made false r.next_teid (bearers_from 1 plan.bearers))))
    (subst (λ (k : ℕ). AllWithin k (k + 2 * plan.bearers) made) (sym (below_left r.next_teid (2 * plan.bearers) left))
    (subst (λ (k : ℕ). AllWithin r.next_teid (r.next_teid + k) made) many
    (made_within plan.ue r.next_teid false (bearers_from 1 plan.bearers) r.next_teid))))

-- ---- DU

so_many_uplinks : (next : ℕ) (bs : List BearerId) → length (uplinks_from next bs) ≡ length bs
so_many_uplinks next [] = refl
so_many_uplinks next (b ∷ bs) = ap (λ (n : ℕ). suc n) (so_many_uplinks (next + 2) bs)

made_many : (up : NodeId) (next : ℕ) (ts : List Tunnel) → length (du_bearers up next ts) ≡ length ts
made_many up next [] = refl
made_many up next (t ∷ ts) = ap (λ (n : ℕ). suc n) (made_many up (next + 1) ts)

pub du_grows : {M C : Type 0} (r : Du M C) (plan : Plan) (uplink : ℕ) → du_has_teids r plan ≡ true
    → GrowsTo r.next_teid r.tunnels (du_placed r plan uplink).next_teid (du_placed r plan uplink).tunnels
unfolding du_placed
du_grows r plan uplink left =
    let bearers : List (BearerId × DuBearer) = (du_context r plan uplink).bearers in
    let uplinks = uplinks_from uplink (bearers_from 1 plan.bearers) in
    let many : length bearers ≡ plan.bearers =
    made_many (up_id r.gnb plan.up) r.next_teid uplinks ∙ so_many_uplinks uplink (bearers_from 1 plan.bearers) ∙ how_many 1 plan.bearers in
    subst (λ (k : ℕ). GrowsTo r.next_teid r.tunnels (teid_after r.next_teid k) (du_placed r plan uplink).tunnels) many
    (grows_downlinks plan.ue r.next_teid bearers r.tunnels (ap (teids_are_left r.next_teid) many ∙ left)
    (made_counted (up_id r.gnb plan.up) r.next_teid uplinks).1)

-- ---- a function of all values of a table

pub find_mapped : {K X Y : Type 0} (R : K → K → Ordering) (f : X → Y) (m : List (K × X)) (k : K)
    → find R (map (λ e. (e.0, f e.1)) m) k ≡ option_map f (find R m k)
unfolding find
find_mapped R f [] k = refl
find_mapped {X = X} {Y = Y} R f (e ∷ es) k = by (is_at (R k) e.0) (find_mapped R f es k)
  where
    by : (t : Bool) → lookup (is_at (R k)) (map (λ e. (e.0, f e.1)) es) ≡ option_map f (lookup (is_at (R k)) es)
        → cond t (Some (f e.1)) (lookup (is_at (R k)) (map (λ e. (e.0, f e.1)) es)) ≡ option_map f (cond t (Some e.1) (lookup (is_at (R k)) es))
    by true rest = refl
    by false rest = rest
