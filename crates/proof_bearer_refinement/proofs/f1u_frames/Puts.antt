-- What is put on a DU's tunnel.
use Rattle.std.proofs.Common.{◌≡◌, ℕ, Bool, true, false, cond, List, [], ◌∷◌, ◌++◌, map, Option, Some, None, refl, sym, ap, ◌∙◌, append_assoc}
use Rattle.std.specs.Prelude.{if◌then◌else◌}
use Rattle.std.specs.List.{AllByRecursion}
use Rattle.std.specs.Ordering.{nat_cmp}
use Rattle.gnb_types.specs.declared.names.Gnb.{Gnb}
use Rattle.gnb_types.specs.declared.names.NodeId.TheVariants.{Du as du_id}
use Rattle.gnb_types.specs.declared.names.SnBits.{SnBits}
use Rattle.gnb_types.specs.declared.names.UeId.{UeId}
use Rattle.gnb_types.specs.declared.names.BearerId.{BearerId}
use Rattle.gnb_types.specs.declared.names.Dir.TheVariants.{Dl, Ul}
use Rattle.gnb_types.specs.declared.keys.TunnelEnd.{TunnelEnd}
use Rattle.tables.specs.Tables.{find}
use Rattle.message_types.specs.declared.rrc.Token.{Token}
use Rattle.unit_defs.specs.Du.{DuTunnel}
use Rattle.unit_defs.specs.Ways.{Message, Pdu, Load, fresh, numbered, frame, uplink, status, end_marker, control, packet, radio, deliver, dropped, held, opened, closed, failed, no, Output}
use Rattle.law_downlink_order.specs.path.Paths.{Frame}
use Rattle.law_downlink_order.specs.path.Shown.{pdu_written, written}
use Rattle.proof_cu_up_orders.specs.frame_rows.Shown.{frames_of, put_at}
use Rattle.proof_cu_up_orders.specs.context_orders.Shown.{is_bearer, on_bearer}
use Rattle.proof_bearer_refinement.specs.run_bearers.Things.{PlainUnits}
use Rattle.law_tunnels_are_owned.specs.run_tunnels.Own.{IsOwnAt}
use Rattle.proof_run_steps.specs.tunnel_steps.Standing.{is_end}
use Rattle.run_defs.specs.Runs.{plain_way}
use Rattle.run_defs.specs.States.{Lengths}
use Rattle.run_defs.specs.Units.{du_of}
use Rattle.proof_bearer_refinement.specs.refinement_facts.Refinements.{RunItem}
use Rattle.proof_bearer_refinement.proofs.refinement_facts.Puts.{Outs, put_there, IsOwn}
use Rattle.proof_bearer_refinement.specs.f1u_frames.Frames.{du_end, frame_of, frames_in, is_at}

pub frames_both : (xs ys : List RunItem) → frames_in (xs ++ ys) ≡ frames_in xs ++ frames_in ys
unfolding frames_in
frames_both [] ys = refl
frames_both (x ∷ xs) ys =
    ap (λ (zs : List Frame). frame_of x.content.says ++ zs) (frames_both xs ys) ∙ sym (append_assoc (frame_of x.content.says) (frames_in xs) (frames_in ys))

-- ---- of what is put, the frames on this tunnel

abbrev pub frames_to : TunnelEnd → Outs → List Frame
frames_to end [] = []
frames_to end (packet to teid u b Dl tag load ∷ os) = (if is_end end to teid then frame_of load else []) ++ frames_to end os
frames_to end (output ∷ os) = frames_to end os

pub frames_more : (end : TunnelEnd) (xs ys : Outs) → frames_to end (xs ++ ys) ≡ frames_to end xs ++ frames_to end ys
frames_more end [] ys = refl
frames_more end (packet to teid u b Dl tag load ∷ xs) ys =
    ap (λ (zs : List Frame). (if is_end end to teid then frame_of load else []) ++ zs) (frames_more end xs ys)
    ∙ sym (append_assoc (if is_end end to teid then frame_of load else []) (frames_to end xs) (frames_to end ys))
frames_more end (packet to teid u b Ul tag load ∷ xs) ys = frames_more end xs ys
frames_more end (control to u message ∷ xs) ys = frames_more end xs ys
frames_more end (radio u b dir epoch tag pdu ∷ xs) ys = frames_more end xs ys
frames_more end (deliver u b dir count p ∷ xs) ys = frames_more end xs ys
frames_more end (dropped reason ∷ xs) ys = frames_more end xs ys
frames_more end (held reason ∷ xs) ys = frames_more end xs ys
frames_more end (opened teid ∷ xs) ys = frames_more end xs ys
frames_more end (closed teid ∷ xs) ys = frames_more end xs ys
frames_more end (failed u cause ∷ xs) ys = frames_more end xs ys
frames_more end (no reason ∷ xs) ys = frames_more end xs ys

module _ (end : TunnelEnd) where
  abbrev pub pick : List (TunnelEnd × Load Pdu) → List Frame
  pick [] = []
  pick (e ∷ es) = (if is_end end e.0.node e.0.teid then frame_of e.1 else []) ++ pick es

  none_of : (t : Bool) → ◌≡◌ {A = List Frame} (if t then [] else []) []
  none_of true = refl
  none_of false = refl

  pub picked : (os : Outs) → frames_to end os ≡ pick (frames_of os)
  unfolding frames_of
  picked [] = refl
  picked (packet to teid u b Dl tag (frame poll restart number pdu) ∷ os) =
      ap (λ (zs : List Frame). (if is_end end to teid then frame_of (frame poll restart number pdu) else []) ++ zs) (picked os)
  picked (packet to teid u b Dl tag (fresh p) ∷ os) = (λ i. none_of (is_end end to teid) i ++ picked os i)
  picked (packet to teid u b Dl tag (numbered sn count p) ∷ os) = (λ i. none_of (is_end end to teid) i ++ picked os i)
  picked (packet to teid u b Dl tag (uplink pdu) ∷ os) = (λ i. none_of (is_end end to teid) i ++ picked os i)
  picked (packet to teid u b Dl tag (status lost delivered) ∷ os) = (λ i. none_of (is_end end to teid) i ++ picked os i)
  picked (packet to teid u b Dl tag end_marker ∷ os) = (λ i. none_of (is_end end to teid) i ++ picked os i)
  picked (packet to teid u b Ul tag load ∷ os) = picked os
  picked (control to u message ∷ os) = picked os
  picked (radio u b dir epoch tag pdu ∷ os) = picked os
  picked (deliver u b dir count p ∷ os) = picked os
  picked (dropped reason ∷ os) = picked os
  picked (held reason ∷ os) = picked os
  picked (opened teid ∷ os) = picked os
  picked (closed teid ∷ os) = picked os
  picked (failed u cause ∷ os) = picked os
  picked (no reason ∷ os) = picked os

  same_pdu : (sn : SnBits) (o : Option Pdu) → pdu_written plain_way sn o ≡ o
  same_pdu sn None = refl
  same_pdu sn (Some pdu) = refl

  pub picked_none : pick [] ≡ []
  picked_none = refl

  pub picked_sent : (sn : SnBits) (o : Option TunnelEnd) (fs : List Frame) → pick (put_at plain_way sn o fs) ≡ (if is_at end o then fs else [])
  picked_sent sn None fs = refl
  picked_sent sn (Some other) fs = all fs
    where
      all : (fs : List Frame) → pick (map (λ f. (other, written plain_way sn f)) fs) ≡ (if is_end end other.node other.teid then fs else [])
      all [] = sym (none_of (is_end end other.node other.teid))
      all (f ∷ fs) = by (is_end end other.node other.teid) (all fs)
        where
          by : (t : Bool) → pick (map (λ f. (other, written plain_way sn f)) fs) ≡ (if t then fs else [])
              → (if t then frame_of (written plain_way sn f) else []) ++ pick (map (λ f. (other, written plain_way sn f)) fs) ≡ (if t then f ∷ fs else [])
          by true again = (λ i. record f { pdu = same_pdu sn f.pdu i } ∷ again i)
          by false again = again

-- ---- of this bearer alone

module _ (end : TunnelEnd) (ue : UeId) (bearer : BearerId) where
  -- what is put on the tunnel is of the bearer, and goes down
  abbrev pub IsItsOwn : Output (Message Token) Pdu → Type 0
  IsItsOwn (packet to teid u b dir tag load) = is_end end to teid ≡ true → (is_bearer ue bearer u b ≡ true) × (dir ≡ Dl)
  IsItsOwn output = Unit {0}

  pub as_own : (os : Outs) → AllByRecursion IsItsOwn os → AllByRecursion (IsOwn end ue bearer) os
  as_own [] all = tt
  as_own (packet to teid u b dir tag load ∷ os) all = (λ is. (all.0 is).0, as_own os all.1)
  as_own (control to u message ∷ os) all = (tt, as_own os all.1)
  as_own (radio u b dir epoch tag pdu ∷ os) all = (tt, as_own os all.1)
  as_own (deliver u b dir count p ∷ os) all = (tt, as_own os all.1)
  as_own (dropped reason ∷ os) all = (tt, as_own os all.1)
  as_own (held reason ∷ os) all = (tt, as_own os all.1)
  as_own (opened teid ∷ os) all = (tt, as_own os all.1)
  as_own (closed teid ∷ os) all = (tt, as_own os all.1)
  as_own (failed u cause ∷ os) all = (tt, as_own os all.1)
  as_own (no reason ∷ os) all = (tt, as_own os all.1)

  skipped : {X : Type 0} (e k : Bool) (xs : List X) → (e ≡ true → k ≡ true) → k ≡ false → [] ≡ (if e then xs else [])
  skipped true true xs own is = absurd cc
  skipped true false xs own is = absurd (let no : false ≡ true = own refl in cc)
  skipped false k xs own is = refl

  pub frames_kept : (os : Outs) → AllByRecursion (IsOwn end ue bearer) os → frames_to end (on_bearer ue bearer os) ≡ frames_to end os
  frames_kept [] all = refl
  frames_kept (packet to teid u b Dl tag load ∷ os) all = by (is_bearer ue bearer u b) refl (frames_kept os all.1)
    where
      by : (k : Bool) → is_bearer ue bearer u b ≡ k → frames_to end (on_bearer ue bearer os) ≡ frames_to end os
          → frames_to end (cond k (packet to teid u b Dl tag load ∷ on_bearer ue bearer os) (on_bearer ue bearer os))
          ≡ (if is_end end to teid then frame_of load else []) ++ frames_to end os
      by true is again = ap (λ (zs : List Frame). (if is_end end to teid then frame_of load else []) ++ zs) again
      by false is again =
          again
          ∙ ap (λ (zs : List Frame). zs ++ frames_to end os) (skipped (is_end end to teid) (is_bearer ue bearer u b) (frame_of load) all.0 is)
  frames_kept (packet to teid u b Ul tag load ∷ os) all = by (is_bearer ue bearer u b) (frames_kept os all.1)
    where
      by : (k : Bool) → frames_to end (on_bearer ue bearer os) ≡ frames_to end os
          → frames_to end (cond k (packet to teid u b Ul tag load ∷ on_bearer ue bearer os) (on_bearer ue bearer os)) ≡ frames_to end os
      by true again = again
      by false again = again
  frames_kept (deliver u b dir count p ∷ os) all = by (is_bearer ue bearer u b) (frames_kept os all.1)
    where
      by : (k : Bool) → frames_to end (on_bearer ue bearer os) ≡ frames_to end os
          → frames_to end (cond k (deliver u b dir count p ∷ on_bearer ue bearer os) (on_bearer ue bearer os)) ≡ frames_to end os
      by true again = again
      by false again = again
  frames_kept (control to u message ∷ os) all = frames_kept os all.1
  frames_kept (radio u b dir epoch tag pdu ∷ os) all = frames_kept os all.1
  frames_kept (dropped reason ∷ os) all = frames_kept os all.1
  frames_kept (held reason ∷ os) all = frames_kept os all.1
  frames_kept (opened teid ∷ os) all = frames_kept os all.1
  frames_kept (closed teid ∷ os) all = frames_kept os all.1
  frames_kept (failed u cause ∷ os) all = frames_kept os all.1
  frames_kept (no reason ∷ os) all = frames_kept os all.1

  not_up : Ul ≡ Dl → ⊥
  not_up e = absurd cc

  -- as it stands there
  module _ (lengths : Lengths) (taken : Option ℕ) where
    pub frames_written : (os : Outs) → AllByRecursion IsItsOwn os → frames_in (put_there lengths end taken os) ≡ frames_to end os
    unfolding frames_in
    frames_written [] all = refl
    frames_written (packet to teid u b Dl tag load ∷ os) all = by (is_end end to teid) _ (put_there lengths end taken os) (frames_written os all.1)
      where
        by : (t : Bool) (item : RunItem) (more : List RunItem) → frames_in more ≡ frames_to end os
            → frames_in ((if t then item ∷ [] else []) ++ more) ≡ (if t then frame_of item.content.says else []) ++ frames_to end os
        by true item more again = ap (λ (zs : List Frame). frame_of item.content.says ++ zs) again
        by false item more again = again
    frames_written (packet to teid u b Ul tag load ∷ os) all = by (is_end end to teid) _ (put_there lengths end taken os) (λ is. not_up (all.0 is).1) (frames_written os all.1)
      where
        by : (t : Bool) (item : RunItem) (more : List RunItem) → (t ≡ true → ⊥) → frames_in more ≡ frames_to end os
            → frames_in ((if t then item ∷ [] else []) ++ more) ≡ frames_to end os
        by true item more never again = absurd (never refl)
        by false item more never again = again
    frames_written (control to u message ∷ os) all = frames_written os all.1
    frames_written (radio u b dir epoch tag pdu ∷ os) all = frames_written os all.1
    frames_written (deliver u b dir count p ∷ os) all = frames_written os all.1
    frames_written (dropped reason ∷ os) all = frames_written os all.1
    frames_written (held reason ∷ os) all = frames_written os all.1
    frames_written (opened teid ∷ os) all = frames_written os all.1
    frames_written (closed teid ∷ os) all = frames_written os all.1
    frames_written (failed u cause ∷ os) all = frames_written os all.1
    frames_written (no reason ∷ os) all = frames_written os all.1

-- ---- what stands on a tunnel of the bearer is its own, so what was put there is

head_of : {X : Type 0} (Q : X → Type 0) (e : Bool) (item : X) (more : List X) → AllByRecursion Q ((if e then item ∷ [] else []) ++ more)
    → (e ≡ true → Q item) × AllByRecursion Q more
head_of Q true item more all = (λ is. all.0, all.1)
head_of Q false item more all = (λ is. absurd (let no : false ≡ true = is in cc), all)

module _ (lengths : Lengths) (units : PlainUnits) (g : Gnb) (k teid : ℕ) (taken : Option ℕ) (ue : UeId) (bearer : BearerId) (owner : DuTunnel)
    (found : find nat_cmp (du_of units g k).tunnels teid ≡ Some owner) (own : is_bearer ue bearer owner.ue owner.bearer ≡ true) where
  abbrev end : TunnelEnd
  end = du_end g k teid

  abbrev IsHere : RunItem → Type 0
  IsHere item = IsOwnAt units (du_id g k) teid item.key item.content.says

  pub own_from : (os : Outs) → AllByRecursion IsHere (put_there lengths end taken os) → AllByRecursion (IsItsOwn end ue bearer) os
  own_from [] all = tt
  own_from (packet to q u c dir tag load ∷ os) all =
      let both = head_of IsHere (is_end end to q) _ (put_there lengths end taken os) all in
      (λ is. let its = both.0 is owner found in ((λ i. is_bearer ue bearer (its.0 i) (its.1 i)) ∙ own, its.2.0), own_from os both.1)
  own_from (control to w message ∷ os) all = (tt, own_from os all)
  own_from (radio w c dir epoch tag pdu ∷ os) all = (tt, own_from os all)
  own_from (deliver w c dir count q ∷ os) all = (tt, own_from os all)
  own_from (dropped reason ∷ os) all = (tt, own_from os all)
  own_from (held reason ∷ os) all = (tt, own_from os all)
  own_from (opened q ∷ os) all = (tt, own_from os all)
  own_from (closed q ∷ os) all = (tt, own_from os all)
  own_from (failed w reason ∷ os) all = (tt, own_from os all)
  own_from (no reason ∷ os) all = (tt, own_from os all)
