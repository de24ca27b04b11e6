use Rattle.std.proofs.Common.{◌≡◌, [], ◌∷◌, inl, inr, refl, ap, arith}
use Rattle.gnb_types.specs.declared.names.Gnb.TheVariants.{A}
use Rattle.gnb_types.specs.declared.names.NodeId.TheVariants.{CuUp}
use Rattle.gnb_types.specs.declared.keys.EntityKey.{EntityKey}
use Rattle.tables.specs.Tables.{find, put, at}
use Rattle.pdcp_defs.specs.Receivers.{is_duplicate, is_ahead, stored, deliver}
use Rattle.pdcp_defs.specs.Senders.{first, has_room, numbered}
use Rattle.unit_defs.specs.CuUpRecords.{reserved}
use Rattle.unit_defs.specs.CuUpBearers.{made, deliver_stored}
use Rattle.unit_defs.specs.CuUpItems.{held_reason, took_uplink, took}
use Rattle.unit_defs.specs.CuUp.{end_where_over, take, cu_up_acts}
use Rattle.unit_defs.specs.Du.{pass_up, du_acts}
use Rattle.unit_defs.specs.Ue.{new_ue, placed, number_each, number_waiting, offer as offer_up, ue_acts}
use Rattle.unit_defs.specs.Static.{cu_up_placed, du_placed, cu_cp_placed}
use Rattle.run_defs.specs.Steps.{span, check_spans, put_on_tunnel, put_on_radio, put_out_all, does}
use Rattle.run_defs.specs.Events.{static, offer, get, air}
use Rattle.run_defs.specs.Runs.{happens, run_from, run, Run}
use Rattle.law_units_act_locally.specs.local_packets.Says.{SaysAlone}
use Rattle.law_units_act_locally.specs.local_packets.Local.{OneOf, IsGotWith, WasAt}
use Rattle.law_units_act_locally.specs.local_packets.Example.{uplink, from_another}
use Rattle.law_units_act_locally.proofs.local_packets.the_law_says_something.Goals as goal

pub returns-clause-delivers : goal.returns-clause-delivers
unfolding find put at is_duplicate is_ahead stored deliver first has_room numbered reserved made deliver_stored held_reason took_uplink took end_where_over take cu_up_acts pass_up du_acts new_ue placed number_each number_waiting offer_up ue_acts cu_up_placed du_placed cu_cp_placed span check_spans put_on_tunnel put_on_radio put_out_all does static offer get air happens run_from run Run
returns-clause-delivers c = λ reading. refl

not_got : OneOf (IsGotWith SaysAlone uplink (69 ∷ [])) from_another.step.lines → ⊥
not_got (inl is) = let same : 2 ≡ 1 = ap (λ (k : EntityKey). k.bearer.0) is.0 in absurd (omega (arith, same))
not_got (inr (inl none)) = none
not_got (inr (inr none)) = none

not_there : WasAt SaysAlone (from_another ∷ []) (CuUp A 1) uplink (69 ∷ []) → ⊥
not_there (inl (inl is)) = is.1
not_there (inl (inr is)) = not_got is.1
not_there (inr none) = none

pub returns-clause-parts : goal.returns-clause-parts
returns-clause-parts c = λ h. not_there h.0.1.0
