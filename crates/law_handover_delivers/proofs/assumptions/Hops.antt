-- Where the two TEIDs of a freeze are the forwarding tunnels of a context, its hop leads there: a bearer has one of each kind at most.
use Rattle.std.proofs.Common.{◌≡◌, ◌≢◌, ◌==◌, ℕ, Bool, true, false, ◌&&◌, Some, refl, sym, ap, ◌∙◌, eqb-true, arith}
use Rattle.std.specs.Ordering.{nat_cmp, is_eq, eq_by_cmp}
use Rattle.std.specs.Cmp.{tied_itself}
use Rattle.gnb_types.specs.declared.names.NodeId.{NodeId}
use Rattle.gnb_types.specs.declared.names.NodeId.TheVariants.{CuUp as up_id}
use Rattle.gnb_types.specs.declared.names.UeId.{UeId}
use Rattle.gnb_types.specs.declared.names.BearerId.{BearerId}
use Rattle.gnb_types.specs.declared.keys.TunnelEnd.{TunnelEnd}
use Rattle.gnb_types.specs.Orders.{tunnel_cmp}
use Rattle.gnb_types.proofs.OrderLemmas.{tunnel_total}
use Rattle.tables.specs.Tables.{find}
use Rattle.unit_defs.specs.CuUpRecords.{TunnelKind, n3, f1u_uplink, forwarding_down, forwarding_up}
use Rattle.unit_defs.specs.CuUpBearers.{is_one_of}
use Rattle.run_defs.specs.Units.{cu_up_of}
use Rattle.proof_cu_up_orders.specs.context_orders.Orders.{CuUpModel}
use Rattle.law_tunnels_are_owned.specs.owner_facts.Owned.{ends_of, AreOwned}
use Rattle.law_tunnels_are_owned.specs.tunnel_book.Book.{is_kind}
use Rattle.proof_run_steps.specs.tunnel_steps.Standing.{is_end}
use Rattle.proof_bearer_refinement.specs.run_unit_inputs.Happenings.{CuUpRecord}
use Rattle.proof_bearer_refinement.specs.run_bearers.Things.{PlainUnits}
use Rattle.proof_bearer_refinement.specs.run_bearers.Bearers.{Place, Numbering}
use Rattle.proof_bearer_refinement.specs.refinement_facts.Refinements.{Owned, owned_on, owned_at}
use Rattle.proof_bearer_refinement.specs.refinement_facts.Asked.{HopLeads}
use Rattle.proof_bearer_refinement.proofs.refinement_facts.Ends.{clash, IsOwner, owner_is, Differs, they_differ}
use Rattle.law_tunnels_are_owned.proofs.open_tunnels.Links.{end_of}
use Rattle.proof_bearer_refinement.proofs.du_puts.Apart.{place, IsAt, at_end, owned_same}
use Rattle.law_handover_delivers.specs.assumptions.Assumed.{FreezeLeads}

number_same : (a : ℕ) → (a == a) ≡ true
number_same a = grind arith

kind_same : (kind : TunnelKind) → is_kind kind kind ≡ true
kind_same n3 = refl
kind_same f1u_uplink = refl
kind_same forwarding_down = refl
kind_same forwarding_up = refl

-- of a kind of which a bearer has one at most
abbrev IsOnce : TunnelKind → Type 0
IsOnce kind = (other : TunnelKind) (a c : ℕ) → Differs kind a other c → is_kind other kind ≡ false

once_down : IsOnce forwarding_down
once_down n3 a c h = refl
once_down f1u_uplink a c h = refl
once_down forwarding_up a c h = refl
once_down forwarding_down a c h = absurd h

once_up : IsOnce forwarding_up
once_up n3 a c h = refl
once_up f1u_uplink a c h = refl
once_up forwarding_down a c h = refl
once_up forwarding_up a c h = absurd h

module _ (n : Numbering) (ue : UeId) (bearer : BearerId) (units : PlainUnits) (owned : AreOwned units) (end : TunnelEnd) (o : Owned)
    (is : owned_at n ue bearer units end ≡ Some o) (to : NodeId) (q : ℕ) (w : Owned) (there : owned_on n ue bearer units to q ≡ Some w) where
  apart : is_end end to q ≡ false → o.context ≡ w.context → Differs w.kind q o.kind end.teid
  apart not same = they_differ theirs.part.bearer w.kind o.kind q end.teid has_q has_end far
    where
      x : IsAt n ue bearer units end.node end.teid o
      x = at_end n ue bearer units end.node end.teid o is

      y : IsAt n ue bearer units to q w
      y = at_end n ue bearer units to q w there

      both_places : Some (place x.gnb x.number x.owner.context) ≡ Some (place y.gnb y.number y.owner.context)
      both_places =
          sym (n.found (place x.gnb x.number x.owner.context))
          ∙ ap n.place_of (sym (ap (λ (v : Owned). v.context) x.is) ∙ same ∙ ap (λ (v : Owned). v.context) y.is)
          ∙ n.found (place y.gnb y.number y.owner.context)

      places : place x.gnb x.number x.owner.context ≡ place y.gnb y.number y.owner.context
      places = let both : Some (place x.gnb x.number x.owner.context) ≡ Some (place y.gnb y.number y.owner.context) = both_places in cc

      here : CuUpRecord
      here = cu_up_of units y.gnb y.number

      found_here : find nat_cmp here.tunnels end.teid ≡ Some x.owner
      found_here = sym (ap (λ (p : Place). find nat_cmp (cu_up_of units p.gnb p.number).tunnels end.teid) places) ∙ x.found

      ours : IsOwner here ue bearer end.teid x.owner
      ours = owner_is here (owned.0 y.gnb y.number) ue bearer end.teid x.owner found_here x.own

      theirs : IsOwner here ue bearer q y.owner
      theirs = owner_is here (owned.0 y.gnb y.number) ue bearer q y.owner y.found y.own

      same_model : ours.part ≡ theirs.part
      same_model = let both : Some ours.part ≡ Some theirs.part = sym ours.there ∙ theirs.there in cc

      has_end : is_one_of (ends_of o.kind theirs.part.bearer) end.teid ≡ true
      has_end =
          ap (λ (v : Owned). is_one_of (ends_of v.kind theirs.part.bearer) end.teid) x.is
          ∙ sym (ap (λ (p : CuUpModel). is_one_of (ends_of x.owner.kind p.bearer) end.teid) same_model) ∙ ours.has

      has_q : is_one_of (ends_of w.kind theirs.part.bearer) q ≡ true
      has_q = ap (λ (v : Owned). is_one_of (ends_of v.kind theirs.part.bearer) q) y.is ∙ theirs.has

      nodes : end.node ≡ to
      nodes = x.node_is ∙ ap (λ (p : Place). up_id p.gnb p.number) places ∙ sym y.node_is

      far : end.teid ≢ q
      far e =
          let ends : end ≡ end_of to q = λ i. record { node = nodes i; teid = e i } in
          clash (sym not ∙ ap (λ (v : TunnelEnd). eq_by_cmp tunnel_cmp v (end_of to q)) ends ∙ ap is_eq (tied_itself tunnel_total (end_of to q)))

  -- the tunnel with this TEID is the one of its context and kind
  pub one_of_kind : IsOnce w.kind → is_end end to q ≡ (is_kind o.kind w.kind && o.context == w.context)
  one_of_kind once = by (is_end end to q) refl
    where
      by : (t : Bool) → is_end end to q ≡ t → t ≡ (is_kind o.kind w.kind && o.context == w.context)
      by true e =
          let both : Some w ≡ Some o = sym there ∙ owned_same n ue bearer units end to q e ∙ is in
          let same : w ≡ o = cc in
          sym ((λ i. is_kind (sym same i).kind w.kind && (sym same i).context == w.context) ∙ (λ i. kind_same w.kind i && number_same w.context i))
      by false not = sym (unless (is_kind o.kind w.kind) refl (o.context == w.context) refl)
        where
          unless : (k : Bool) → is_kind o.kind w.kind ≡ k → (c : Bool) → (o.context == w.context) ≡ c → k && c ≡ false
          unless false e c f = refl
          unless true e false f = refl
          unless true e true f = clash (sym (once o.kind q end.teid (apart not (eqb-true o.context w.context f))) ∙ e)

module _ (n : Numbering) (ue : UeId) (bearer : BearerId) (units : PlainUnits) (owned : AreOwned units) where
  pub freeze_leads : (to : ℕ) (peer : NodeId) (down_teid up_teid : ℕ) → FreezeLeads n ue bearer units to peer down_teid up_teid
      → HopLeads n ue bearer units (Some (record { peer = peer; down = down_teid; up = up_teid })) to to
  freeze_leads to peer down_teid up_teid leads end o is = (
    one_of_kind n ue bearer units owned end o is peer down_teid (record { context = to; kind = forwarding_down }) leads.down once_down,
    one_of_kind n ue bearer units owned end o is peer up_teid (record { context = to; kind = forwarding_up }) leads.up once_up,
  )
