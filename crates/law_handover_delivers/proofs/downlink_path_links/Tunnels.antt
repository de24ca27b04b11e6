-- Only a CU-UP puts something on a tunnel of a DU.
use Rattle.std.proofs.Common.{inl, inr, ◌≡◌, ◌⊎◌, ℕ, Bool, true, false, cond, List, [], ◌∷◌, ◌++◌, Option, Some, None, refl, sym, ap, subst, ◌∙◌}
use Rattle.std.specs.Prelude.{if◌then◌else◌, unwrap_or}
use Rattle.std.specs.Ordering.{eq_by_cmp}
use Rattle.gnb_types.specs.declared.names.Gnb.{Gnb}
use Rattle.gnb_types.specs.declared.names.NodeId.{NodeId}
use Rattle.gnb_types.specs.declared.names.NodeId.TheVariants.{CuCp, CuUp as up_id, Du as du_id, Core, Ue}
use Rattle.gnb_types.specs.declared.names.Dir.{Dir}
use Rattle.gnb_types.specs.declared.keys.TunnelEnd.{TunnelEnd}
use Rattle.gnb_types.specs.Orders.{tunnel_cmp}
use Rattle.gnb_types.proofs.OrderLemmas.{tunnel_total, tunnel_exact}
use Rattle.std.specs.Cmp.{Equal-is}
use Rattle.tables.specs.Tables.{put, find}
use Rattle.tables.proofs.TableLaws.{find-put}
use Rattle.message_types.specs.declared.rrc.Token.{Token}
use Rattle.unit_defs.specs.Ways.{Message, Pdu, Load, fresh, numbered, frame, uplink, status, end_marker, control, packet, radio, deliver, dropped, held, opened, closed, failed, no}
use Rattle.run_defs.specs.Lines.{RunLine}
use Rattle.run_defs.specs.Units.{Units}
use Rattle.run_defs.specs.States.{goes, ◌next◌}
use Rattle.run_defs.specs.Steps.{carried_out, check_spans, put_out_all}
use Rattle.run_defs.specs.Runs.{Reading, plain_world}
use Rattle.proof_run_steps.specs.steps.Causes.{node_of, count_of, first_of}
use Rattle.law_downlink_order.specs.path.Paths.{Frame}
use Rattle.law_tunnels_are_owned.specs.link_items.Items.{MayPut}
use Rattle.proof_run_steps.specs.facts.Facts.{PutsFit}
use Rattle.proof_run_steps.specs.facts.UnitFacts.{written_facts}
use Rattle.law_tunnels_are_owned.proofs.link_items.Names.{link_items}
use Rattle.proof_bearer_refinement.specs.refinement_facts.Refinements.{RunState, RunItem}
use Rattle.proof_bearer_refinement.specs.refinement_facts.Asked.{RunCause}
use Rattle.proof_run_steps.specs.tunnel_steps.Standing.{is_end, standing, after_puts, after_taking}
use Rattle.proof_run_steps.proofs.tunnel_steps.Tracks.{acts_so, puts_so}
use Rattle.proof_bearer_refinement.proofs.du_puts.Apart.{end_same}
use Rattle.law_handover_delivers.specs.report_links.Reports.{RunPut}
use Rattle.proof_bearer_refinement.specs.f1u_frames.Frames.{du_end, frame_of, frames_in}
use Rattle.law_handover_delivers.specs.downlink_path_links.Links.{IsNoCuUp, IsFrom, AreLeft, all, rest, none}

opens_from : (there : Option (List RunItem)) (items : List RunItem) → IsFrom (Some (unwrap_or there [])) items → IsFrom there items
opens_from None items (inl is) = let same : [] ≡ items = cc in inr (sym same)
opens_from (Some stood) items (inl is) = inl is
opens_from there items (inr is) = inr is

closes_from : (there : Option (List RunItem)) (items : List RunItem) → IsFrom None items → IsFrom there items
closes_from there items (inl is) = absurd cc
closes_from there items (inr is) = inr is

module _ (g : Gnb) (k teid : ℕ) where
  abbrev end : TunnelEnd
  end = du_end g k teid

  none_for : (from : NodeId) (dir : Dir) (load : Load Pdu) → IsNoCuUp from → MayPut from (du_id g k) dir load → ⊥
  none_for (up_id h m) dir load far may = far
  none_for (CuCp h) dir load far may = may
  none_for (du_id h m) dir load far may = may
  none_for Core dir load far may = may
  none_for (Ue w) dir load far may = may

  module _ (from : NodeId) (far : IsNoCuUp from) (taken : Option ℕ) where
    pub puts_from : (outputs : List RunPut) → PutsFit (written_facts link_items) from taken outputs → (there : Option (List RunItem)) (items : List RunItem)
        → after_puts end from taken outputs there ≡ Some items → IsFrom there items
    puts_from [] fit there items is = inl is
    puts_from (packet to q who b dir tag load ∷ outputs) fit there items is =
        by (is_end end to q) refl _ is (λ at. puts_from outputs fit.1 there items at)
      where
        by : (t : Bool) → is_end end to q ≡ t → (more : Option (List RunItem)) → after_puts end from taken outputs (if t then more else there) ≡ Some items
            → (after_puts end from taken outputs there ≡ Some items → IsFrom there items) → IsFrom there items
        by true e more at again =
            let its : du_id g k ≡ to = ap (λ (z : TunnelEnd). z.node) (end_same end to q e) in
            absurd (none_for from dir load.says far (subst (λ (z : NodeId). MayPut from z dir load.says) (sym its) fit.0.0.1))
        by false e more at again = again at
    puts_from (opened q ∷ outputs) fit there items is =
        by (is_end end from q) is (λ some at. puts_from outputs fit.1 some items at)
      where
        by : (t : Bool) → after_puts end from taken outputs (if t then Some (unwrap_or there []) else there) ≡ Some items
            → ((some : Option (List RunItem)) → after_puts end from taken outputs some ≡ Some items → IsFrom some items) → IsFrom there items
        by true at again = opens_from there items (again (Some (unwrap_or there [])) at)
        by false at again = again there at
    puts_from (closed q ∷ outputs) fit there items is =
        by (is_end end from q) is (λ some at. puts_from outputs fit.1 some items at)
      where
        by : (t : Bool) → after_puts end from taken outputs (if t then None else there) ≡ Some items
            → ((some : Option (List RunItem)) → after_puts end from taken outputs some ≡ Some items → IsFrom some items) → IsFrom there items
        by true at again = closes_from there items (again None at)
        by false at again = again there at
    puts_from (control to u m ∷ outputs) fit there items is = puts_from outputs fit.1 there items is
    puts_from (radio who b dir epoch tag pdu ∷ outputs) fit there items is = puts_from outputs fit.1 there items is
    puts_from (deliver u b dir count x ∷ outputs) fit there items is = puts_from outputs fit.1 there items is
    puts_from (dropped reason ∷ outputs) fit there items is = puts_from outputs fit.1 there items is
    puts_from (held reason ∷ outputs) fit there items is = puts_from outputs fit.1 there items is
    puts_from (failed u cause ∷ outputs) fit there items is = puts_from outputs fit.1 there items is
    puts_from (no reason ∷ outputs) fit there items is = puts_from outputs fit.1 there items is

  pub step_from : (reading : Reading) (cause : RunCause) (outputs : List RunPut) (units : Units (Message Token) Token) (s t : RunState)
      (lines : List (RunLine (Message Token)))
      → carried_out (plain_world reading) (node_of cause) (count_of cause) (first_of (plain_world reading) cause) outputs units s ≡ goes lines t
      → IsNoCuUp (node_of cause) → PutsFit (written_facts link_items) (node_of cause) (count_of cause) outputs → (items : List RunItem)
      → standing t end ≡ Some items → IsFrom (after_taking end cause (standing s end)) items
  step_from reading cause outputs units s t lines is far fit items there =
      puts_from (node_of cause) far (count_of cause) outputs fit (after_taking end cause (standing s end)) items
      (sym (acts_so (plain_world reading) end cause outputs units s t lines is) ∙ there)

  pub core_from : (reading : Reading) (outputs : List RunPut) (s t : RunState) (lines : List (RunLine (Message Token)))
      → (put_out_all (plain_world reading) Core None outputs s next check_spans) ≡ goes lines t
      → PutsFit (written_facts link_items) Core None outputs → (items : List RunItem) → standing t end ≡ Some items → IsFrom (standing s end) items
  core_from reading outputs s t lines is fit items there =
      puts_from Core tt None outputs fit (standing s end) items (sym (puts_so (plain_world reading) end Core None outputs s t lines is) ∙ there)

-- ---- so the frames

pub from_left : (there : Option (List RunItem)) (before items : List RunItem) → there ≡ Some before → IsFrom there items
    → AreLeft (frames_in before) (frames_in items)
unfolding frames_in
from_left there before items was (inl is) =
    let same : Some items ≡ Some before = sym is ∙ was in
    let one : items ≡ before = cc in all (ap (λ (z : List RunItem). frames_in z) one)
from_left there before items was (inr is) = none (ap (λ (z : List RunItem). frames_in z) is)

-- the first item is taken, or lost
load_left : (load : Load Pdu) (fs : List Frame) → AreLeft (frame_of load ++ fs) fs
load_left (frame poll restart number pdu) fs = rest (record { poll = poll; restart = restart; number = number; pdu = pdu }) refl
load_left (fresh x) fs = all refl
load_left (numbered sn count x) fs = all refl
load_left (uplink pdu) fs = all refl
load_left (status lost delivered) fs = all refl
load_left end_marker fs = all refl

pub first_left : (item : RunItem) (items : List RunItem) → AreLeft (frames_in (item ∷ items)) (frames_in items)
unfolding frames_in
first_left item items = load_left item.content.says (frames_in items)

-- what is left after the first is taken off some tunnel
pub lost_left : (tunnels : List (TunnelEnd × List RunItem)) (from end : TunnelEnd) (item : RunItem) (others before items : List RunItem)
    → find tunnel_cmp tunnels from ≡ Some (item ∷ others) → find tunnel_cmp tunnels end ≡ Some before
    → find tunnel_cmp (put tunnel_cmp tunnels from others) end ≡ Some items → AreLeft (frames_in before) (frames_in items)
lost_left tunnels from end item others before items stands was is =
    by (eq_by_cmp tunnel_cmp end from) refl (sym (find-put tunnel_total tunnels from others end) ∙ is)
  where
    by : (t : Bool) → eq_by_cmp tunnel_cmp end from ≡ t → cond t (Some others) (find tunnel_cmp tunnels end) ≡ Some items
        → AreLeft (frames_in before) (frames_in items)
    by true e at =
        let same : end ≡ from = tunnel_exact end from ((Equal-is (tunnel_cmp end from)).0 e) in
        let both : Some before ≡ Some (item ∷ others) = sym was ∙ ap (λ (z : TunnelEnd). find tunnel_cmp tunnels z) same ∙ stands in
        let first : before ≡ item ∷ others = cc in
        let left : others ≡ items = cc in
        subst (λ (z : List RunItem). AreLeft (frames_in z) (frames_in items)) (sym first)
        (subst (λ (z : List RunItem). AreLeft (frames_in (item ∷ others)) (frames_in z)) left (first_left item others))
    by false e at = from_left (find tunnel_cmp tunnels end) before items was (inl at)
