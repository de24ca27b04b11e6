-- Ticks of a DU and of a CU-UP.
use Rattle.std.proofs.Common.{◌≡◌, refl, ap}
use Rattle.std.specs.List.{flat_map}
use Rattle.gnb_types.specs.declared.names.UeId.{UeId}
use Rattle.gnb_types.specs.Orders.{channel_cmp}
use Rattle.tables.specs.Tables.{IsSorted}
use Rattle.transaction_defs.specs.Callers.{due}
use Rattle.unit_defs.specs.Ways.{tick_input, Way, gives}
use Rattle.unit_defs.specs.Du.{Du, due_output as du_output, tick as du_tick, du_acts}
use Rattle.unit_defs.specs.CuUpRecords.{CuUp}
use Rattle.unit_defs.specs.CuUp.{due_output as up_output, tick as up_tick, cu_up_acts}
use Rattle.law_terminals_are_isolated.specs.projections.Steps.{seen}
use Rattle.law_terminals_are_isolated.specs.du_projection.Dus.{DuProjection, DuShared, du_view}
use Rattle.law_terminals_are_isolated.specs.cu_up_projection.CuUps.{CuUpProjection, UpShared, cu_up_view}
use Rattle.law_terminals_are_isolated.specs.tick_projections.Ticks.{own_dues, ShowsOwn, du_own_tick, cu_up_own_tick}
use Rattle.law_terminals_are_isolated.proofs.tick_projections.Outputs.{dues_shown, ticked_same}

module _ {M C P : Type 0} (way : Way M C P) (ue : UeId) where
  pub du_shows : (r : Du M C) → ShowsOwn (du_view ue) ue.0 (du_acts way r tick_input) (du_own_tick way ue r)
  unfolding du_acts du_tick
  du_shows r = (dues_shown (du_output way) (λ c m. refl) (λ c. refl) ue.0 (due r.transactions.caller), refl)

  pub du_depends : (r q : Du M C) → du_view ue r ≡ du_view ue q
      → own_dues ue.0 (due r.transactions.caller) ≡ own_dues ue.0 (due q.transactions.caller)
      → IsSorted channel_cmp r.transactions.caller.opened → IsSorted channel_cmp q.transactions.caller.opened
      → seen (du_view ue) (du_own_tick way ue r) ≡ seen (du_view ue) (du_own_tick way ue q)
  du_depends r q e dues sr sq = λ i. gives (flat_map (du_output way) (dues i)) (
    record {
      context = (e i).0.context;
      tunnels = (e i).0.tunnels;
      requests = ticked_same ue.0 r.transactions q.transactions sr sq (ap (λ (v : DuProjection M C × DuShared). v.0.requests) e) i;
    },
    (e i).1,
  )

  pub up_shows : (r : CuUp M C) → ShowsOwn (cu_up_view ue) ue.0 (cu_up_acts way r tick_input) (cu_up_own_tick way ue r)
  unfolding cu_up_acts up_tick
  up_shows r = (dues_shown (up_output way) (λ c m. refl) (λ c. refl) ue.0 (due r.transactions.caller), refl)

  pub up_depends : (r q : CuUp M C) → cu_up_view ue r ≡ cu_up_view ue q
      → own_dues ue.0 (due r.transactions.caller) ≡ own_dues ue.0 (due q.transactions.caller)
      → IsSorted channel_cmp r.transactions.caller.opened → IsSorted channel_cmp q.transactions.caller.opened
      → seen (cu_up_view ue) (cu_up_own_tick way ue r) ≡ seen (cu_up_view ue) (cu_up_own_tick way ue q)
  up_depends r q e dues sr sq = λ i. gives (flat_map (up_output way) (dues i)) (
    record {
      context = (e i).0.context;
      tunnels = (e i).0.tunnels;
      requests = ticked_same ue.0 r.transactions q.transactions sr sq (ap (λ (v : CuUpProjection M C × UpShared). v.0.requests) e) i;
    },
    (e i).1,
  )
