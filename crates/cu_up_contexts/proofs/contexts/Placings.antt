-- A terminal is placed.
use Rattle.std.proofs.Common.{◌≡◌, ℕ, zero, suc, ◌*◌, ◌+◌, Bool, true, false, ◌&&◌, length, refl, sym, ap, ◌∙◌}
use Rattle.std.specs.List.{flat_map}
use Rattle.gnb_types.specs.declared.names.Gnb.{Gnb}
use Rattle.gnb_types.specs.declared.plans.Plan.{Plan}
use Rattle.gnb_types.specs.Orders.{ue_cmp}
use Rattle.tables.specs.Tables.{put}
use Rattle.unit_defs.specs.Teids.{teids_are_left, teid_after}
use Rattle.unit_defs.specs.CuUpRecords.{CuUpContext}
use Rattle.unit_defs.specs.CuUp.{bearers_from, bearers_made, entries_of, with_entries, fits}
use Rattle.unit_defs.specs.Static.{with_downlinks, cu_up_has_room, cu_up_has_teids, cu_up_placed}
use Rattle.unit_defs.specs.octet_defs.Codec.{octet_way}
use Rattle.cu_up_contexts.specs.bearer_context.Contexts.{made_from}
use Rattle.cu_up_contexts.specs.declared.bearer_context.context.ContextSetup.{ContextSetup}
use Rattle.cu_up_contexts.specs.contexts.Tables.{OctetUp, CuUpTables, with_tables}
use Rattle.cu_up_contexts.specs.contexts.Placing.{downlinks_fit, may_place}
use Rattle.cu_up_contexts.proofs.contexts.AnyCodec.{any_codec}

abbrev pub static_setup : Plan → ContextSetup
static_setup plan = record { sn = plan.sn; quota = plan.quota; target = false; count = plan.bearers }

-- the context of a plan
abbrev pub static_context : Gnb → Plan → ℕ → ℕ → CuUpContext
static_context gnb plan downlink next =
    let c : CuUpContext = made_from next (static_setup plan) in record c { bearers = with_downlinks gnb plan.du downlink c.bearers }

-- how many bearers a new context has
pub length_made : (target : Bool) (next i count : ℕ) → length (bearers_made target next (bearers_from i count)) ≡ count
length_made target next i zero = refl
length_made true next i (suc count) = ap suc (length_made true (next + 4) (i + 1) count)
length_made false next i (suc count) = ap suc (length_made false (next + 2) (i + 1) count)

-- whether there are blocks
pub room_is : (r : OctetUp) (t : CuUpTables) (plan : Plan) (b : Bool) → b ≡ fits (octet_way any_codec) plan.bearers plan.quota (with_tables r t)
    → cu_up_has_room (with_tables r t) plan ≡ b
unfolding fits
room_is r t plan b e = sym e

module _ (r : OctetUp) (gnb : Gnb) (gnb_is : r.gnb ≡ gnb) (plan : Plan) (downlink : ℕ) (t : CuUpTables) where
  abbrev placed_with : ℕ → CuUpContext → OctetUp
  placed_with teids c = with_tables r (record {
    next_teid = teid_after t.next_teid teids;
    tunnels = with_entries t.tunnels (flat_map (entries_of plan.ue c.instance) c.bearers);
    contexts = put ue_cmp t.contexts plan.ue c;
  })

  pub placed_is : (u : CuUpTables) (teids : ℕ) (c : CuUpContext) → teids ≡ 2 * plan.bearers → c ≡ static_context gnb plan downlink t.next_teid
      → u ≡ record t {
        next_teid = teid_after t.next_teid teids;
        tunnels = with_entries t.tunnels (flat_map (entries_of plan.ue c.instance) c.bearers);
        contexts = put ue_cmp t.contexts plan.ue c;
      }
      → with_tables r u ≡ cu_up_placed (with_tables r t) plan downlink
  unfolding cu_up_placed
  placed_is u teids c teids_are c_is u_is =
      ap (λ (v : CuUpTables). with_tables r v) u_is
      ∙ ap (λ (n : ℕ). placed_with n c) teids_are
      ∙ ap (λ (d : CuUpContext). placed_with (2 * plan.bearers) d) c_is
      ∙ ap (λ (g : Gnb). placed_with (2 * plan.bearers) (static_context g plan downlink t.next_teid)) (sym gnb_is)

  both : (a b : Bool) → a ≡ true → b ≡ true → (a && b) ≡ true
  both true true x y = refl
  both true false x y = cc
  both false b x y = cc

  pub may : (teids : ℕ) → teids ≡ 2 * plan.bearers → teids_are_left t.next_teid teids ≡ true → downlinks_fit downlink plan.bearers ≡ true
      → may_place (with_tables r t) plan downlink ≡ true
  may teids teids_are left fits =
      both (cu_up_has_teids (with_tables r t) plan) (downlinks_fit downlink plan.bearers)
      (ap (λ (n : ℕ). teids_are_left t.next_teid n) (sym teids_are) ∙ left) fits
