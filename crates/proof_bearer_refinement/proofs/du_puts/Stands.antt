-- What stands on a tunnel of a CU-UP after what another node puts: what stood there, and then what is put on it.
use Rattle.std.proofs.Common.{◌≡◌, ℕ, Bool, true, false, List, [], ◌∷◌, ◌++◌, map, Option, Some, None, refl, sym, ap, subst, ◌∙◌}
use Rattle.std.specs.Prelude.{is_some, if◌then◌else◌}
use Rattle.std.specs.List.{AllByRecursion}
use Rattle.std.specs.Ordering.{eq_by_cmp}
use Rattle.std.specs.Cmp.{Equal-is}
use Rattle.gnb_types.specs.declared.names.NodeId.{NodeId}
use Rattle.gnb_types.specs.declared.keys.TunnelEnd.{TunnelEnd}
use Rattle.gnb_types.specs.Orders.{tunnel_cmp}
use Rattle.gnb_types.proofs.OrderLemmas.{tunnel_exact}
use Rattle.unit_defs.specs.Ways.{Put}
use Rattle.run_defs.specs.Lines.{RunLine}
use Rattle.run_defs.specs.Units.{Units}
use Rattle.run_defs.specs.Written.{written_put}
use Rattle.run_defs.specs.States.{State, World, Lengths, goes, stops, told_before, ◌next◌, Within}
use Rattle.run_defs.specs.Steps.{check_spans, put_out_all}
use Rattle.proof_run_steps.specs.steps.Causes.{Cause, by_order, by_tick, by_octets, by_octets_on, by_attach, by_release, by_offer, by_item, by_air, by_ack, by_control_message, node_of}
use Rattle.proof_run_steps.proofs.steps.Frames.{HasUnits, then_units, keep_put_all, keep_checked, units_by}
use Rattle.proof_run_steps.specs.tunnel_steps.Standing.{after_puts, after_taking}
use Rattle.proof_run_steps.proofs.tunnel_steps.Tracks.{comes_after}
use Rattle.proof_bearer_refinement.specs.refinement_facts.Refinements.{RunItem}
use Rattle.proof_bearer_refinement.specs.refinement_facts.Asked.{RunCause}
use Rattle.proof_bearer_refinement.proofs.refinement_facts.Ends.{clash, others_leave, written_leaves}
use Rattle.proof_bearer_refinement.proofs.refinement_facts.Puts.{Outs, put_there}

pub all_right : {X : Type 0} (Q : X → Type 0) (xs ys : List X) → AllByRecursion Q (xs ++ ys) → AllByRecursion Q ys
all_right Q [] ys all = all
all_right Q (x ∷ xs) ys all = all_right Q xs ys all.1

pub some_standing : (o : Option (List RunItem)) → is_some o ≡ true → (stood : List RunItem) × (o ≡ Some stood)
some_standing None is = clash is
some_standing (Some stood) is = (stood, refl)

-- ---- a node that the tunnel doesn't end at takes nothing from it

pub takes_none : (cause : RunCause) (end : TunnelEnd) (there : Option (List RunItem)) → (end.node ≡ node_of cause → ⊥) → after_taking end cause there ≡ there
takes_none (by_item from item rest) end there far = by (eq_by_cmp tunnel_cmp end from) refl
  where
    by : (t : Bool) → eq_by_cmp tunnel_cmp end from ≡ t → (if t then Some rest else there) ≡ there
    by true e = absurd (far (ap (λ (k : TunnelEnd). k.node) (tunnel_exact end from ((Equal-is (tunnel_cmp end from)).0 e))))
    by false e = refl
takes_none (by_order node order) end there far = refl
takes_none (by_tick node) end there far = refl
takes_none (by_octets from to octets) end there far = refl
takes_none (by_octets_on e octets) end there far = refl
takes_none (by_attach plan) end there far = refl
takes_none (by_release gnb ue) end there far = refl
takes_none (by_offer ue bearer p) end there far = refl
takes_none (by_air key home item) end there far = refl
takes_none (by_ack key home item rest) end there far = refl
takes_none (by_control_message number l to) end there far = refl

-- and what it puts comes after what stands there
pub items_are : (lengths : Lengths) (end : TunnelEnd) (node : NodeId) (taken : Option ℕ) (outputs : Outs) (before after : Option (List RunItem))
    (stood items : List RunItem) → (end.node ≡ node → ⊥) → before ≡ Some stood → after ≡ Some items
    → after ≡ after_puts end node taken (map (written_put lengths) outputs) before → items ≡ stood ++ put_there lengths end taken outputs
items_are lengths end node taken outputs before after stood items far was is follows =
    same (sym is ∙ follows ∙ ap (after_puts end node taken (map (written_put lengths) outputs)) was
    ∙ comes_after end node taken (map (written_put lengths) outputs) stood (written_leaves lengths end node outputs (others_leave end node far outputs)))
  where
    same : Some items ≡ Some (stood ++ put_there lengths end taken outputs) → items ≡ stood ++ put_there lengths end taken outputs
    same e = cc

-- ---- of what is told first, nothing is asked

module _ {M C L P : Type 0} (world : World M C L P) where
  abbrev pub Ends : Within M C L P → State M C L P → Type 0
  Ends e t = (lines : List (RunLine M)) × (e ≡ goes lines t)

  told_first : (told : List (RunLine M)) (e : Within M C L P) (t : State M C L P) (lines : List (RunLine M)) → told_before told e ≡ goes lines t → Ends e t
  told_first told (goes more a) t lines is = let same : a ≡ t = cc in (more, ap (λ (x : State M C L P). goes more x) same)
  told_first told (stops more why) t lines is = absurd cc

  pub after_told : (told : List (RunLine M)) (e : Within M C L P) (t : State M C L P) (lines : List (RunLine M))
      → (told_before told e next check_spans) ≡ goes lines t → Ends (e next check_spans) t
  after_told told (goes more a) t lines is =
      let its = told_first (told ++ more) (check_spans a) t lines is in (more ++ its.0, ap (told_before more) its.1)
  after_told told (stops more why) t lines is = absurd cc

  -- nothing more is put
  pub and_no_more : (node : NodeId) (taken : Option ℕ) (e : Within M C L P) (t : State M C L P) (lines : List (RunLine M))
      → (e next check_spans) ≡ goes lines t → Ends (e next put_out_all world node taken [] next check_spans) t
  unfolding put_out_all
  and_no_more node taken (goes told a) t lines is =
      let its = told_first told (check_spans a) t lines is in ((told ++ []) ++ its.0, ap (told_before (told ++ [])) its.1)
  and_no_more node taken (stops told why) t lines is = absurd cc

  -- the units are those that were there
  pub units_put : (node : NodeId) (taken : Option ℕ) (outputs : List (Put M L P)) (s t : State M C L P)
      → Ends (put_out_all world node taken outputs s next check_spans) t → t.units ≡ s.units
  units_put node taken outputs s t is =
      subst (HasUnits world {X = RunLine M} s.units) is.1
      (then_units world s.units (put_out_all world node taken outputs s) check_spans (keep_put_all world node taken outputs s) (keep_checked world))

-- a terminal that comes beside a step changes no CU-UP
module _ {M C L P : Type 0} (world : World M C L P) where
  pub ups_stay : (cause : Cause M L P) (u : Units M C) → (units_by world cause u).ups ≡ u.ups
  ups_stay (by_order node order) u = refl
  ups_stay (by_tick node) u = refl
  ups_stay (by_octets from to octets) u = refl
  ups_stay (by_octets_on e octets) u = refl
  ups_stay (by_attach plan) u = refl
  ups_stay (by_release g w) u = refl
  ups_stay (by_offer w b q) u = refl
  ups_stay (by_item end item rest) u = refl
  ups_stay (by_air key home item) u = refl
  ups_stay (by_ack key home item rest) u = refl
  ups_stay (by_control_message k l to) u = refl
