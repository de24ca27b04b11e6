-- Whose a tunnel is: no two tunnels of a bearer are of one context and kind, but for uplinks, which differ in their TEIDs.
use Rattle.std.proofs.Common.{◌≡◌, ◌≢◌, ◌==◌, ℕ, Bool, true, false, ◌&&◌, Option, Some, None, refl, sym, ap, subst, ◌∙◌, eqb-true, arith}
use Rattle.std.specs.Prelude.{if◌then◌else◌}
use Rattle.std.specs.Ordering.{nat_cmp, is_eq, eq_by_cmp}
use Rattle.std.specs.Cmp.{Equal-is, tied_itself}
use Rattle.gnb_types.specs.declared.names.Gnb.{Gnb}
use Rattle.gnb_types.specs.declared.names.NodeId.{NodeId}
use Rattle.gnb_types.specs.declared.names.NodeId.TheVariants.{CuCp, CuUp as up_id, Du, Core, Ue}
use Rattle.gnb_types.specs.declared.names.UeId.{UeId}
use Rattle.gnb_types.specs.declared.names.BearerId.{BearerId}
use Rattle.gnb_types.specs.declared.keys.TunnelEnd.{TunnelEnd}
use Rattle.gnb_types.specs.Orders.{node_cmp, tunnel_cmp}
use Rattle.gnb_types.proofs.OrderLemmas.{tunnel_total, tunnel_exact}
use Rattle.tables.specs.Tables.{find, at}
use Rattle.unit_defs.specs.CuUpRecords.{CuUpTunnel, TunnelKind, n3, f1u_uplink}
use Rattle.unit_defs.specs.CuUpBearers.{is_one_of}
use Rattle.unit_defs.specs.CuUp.{new_cu_up}
use Rattle.run_defs.specs.Units.{cu_up_of}
use Rattle.proof_cu_up_orders.specs.context_orders.Orders.{CuUpModel, model_of}
use Rattle.proof_cu_up_orders.specs.context_orders.Shown.{is_bearer}
use Rattle.law_tunnels_are_owned.proofs.open_tunnels.Links.{end_of}
use Rattle.law_tunnels_are_owned.specs.owner_facts.Owned.{ends_of, AreOwned}
use Rattle.proof_run_steps.specs.tunnel_steps.Standing.{is_end}
use Rattle.proof_bearer_refinement.specs.run_unit_inputs.Happenings.{CuUpRecord}
use Rattle.proof_bearer_refinement.specs.run_bearers.Things.{PlainUnits}
use Rattle.proof_bearer_refinement.specs.run_bearers.Bearers.{Place, Numbering, if_of, at_place, contexts_of}
use Rattle.proof_bearer_refinement.specs.refinement_facts.Refinements.{Owned, owned_by, owned_on, owned_at}
use Rattle.proof_bearer_refinement.proofs.refinement_facts.Ends.{clash, IsOwner, owner_is, Differs, they_differ}

abbrev pub place : Gnb → ℕ → ℕ → Place
place g k instance = record { gnb = g; number = k; instance = instance }

same_place : (n : Numbering) (a b : Place) → n.number_of a ≡ n.number_of b → a ≡ b
same_place n a b is = let both : Some a ≡ Some b = sym (n.found a) ∙ ap n.place_of is ∙ n.found b in cc

number_same : (a : ℕ) → (a == a) ≡ true
number_same a = grind arith

end_refinement : (a : TunnelEnd) → eq_by_cmp tunnel_cmp a a ≡ true
end_refinement a = ap is_eq (tied_itself tunnel_total a)

pub end_same : (end : TunnelEnd) (to : NodeId) (q : ℕ) → is_end end to q ≡ true → end ≡ end_of to q
end_same end to q e = tunnel_exact end (end_of to q) ((Equal-is (tunnel_cmp end (end_of to q))).0 e)

-- ---- where CU-UPs stay, whose tunnels are stays

pub up_same : (u v : PlainUnits) → v.ups ≡ u.ups → (g : Gnb) (k : ℕ) → cu_up_of v g k ≡ cu_up_of u g k
up_same u v same g k = ap (λ es. at node_cmp (new_cu_up g k) es (up_id g k)) same

module _ (n : Numbering) (ue : UeId) (bearer : BearerId) (u v : PlainUnits) (same : v.ups ≡ u.ups) where
  pub on_same : (node : NodeId) (teid : ℕ) → owned_on n ue bearer v node teid ≡ owned_on n ue bearer u node teid
  on_same (up_id g k) teid = ap (λ (r : CuUpRecord). owned_by n ue bearer g k (find nat_cmp r.tunnels teid)) (up_same u v same g k)
  on_same (CuCp g) teid = refl
  on_same (Du g k) teid = refl
  on_same Core teid = refl
  on_same (Ue k) teid = refl

  pub contexts_same : contexts_of n ue bearer v ≡ contexts_of n ue bearer u
  contexts_same i x = by (n.place_of x) i
    where
      by : (o : Option Place) → at_place ue bearer v o ≡ at_place ue bearer u o
      by None = refl
      by (Some p) = ap (λ (r : CuUpRecord). if_of p.instance (model_of r ue bearer)) (up_same u v same p.gnb p.number)

module _ (n : Numbering) (ue : UeId) (bearer : BearerId) (units : PlainUnits) where
  -- ---- the owner of an open tunnel of the bearer

  pub record IsAt (node : NodeId) (teid : ℕ) (o : Owned) : Type 0 where
    pub gnb : Gnb
    pub number : ℕ
    pub owner : CuUpTunnel
    pub node_is : node ≡ up_id gnb number
    pub found : find nat_cmp (cu_up_of units gnb number).tunnels teid ≡ Some owner
    pub own : is_bearer ue bearer owner.ue owner.bearer ≡ true
    pub is : o ≡ record { context = n.number_of (place gnb number owner.context); kind = owner.kind }

  pub at_end : (node : NodeId) (teid : ℕ) (o : Owned) → owned_on n ue bearer units node teid ≡ Some o → IsAt node teid o
  at_end (up_id g k) teid o is = by (find nat_cmp (cu_up_of units g k).tunnels teid) refl is
    where
      by_own : (a : CuUpTunnel) (b : Bool) → is_bearer ue bearer a.ue a.bearer ≡ b → find nat_cmp (cu_up_of units g k).tunnels teid ≡ Some a
          → (if b then Some (record { context = n.number_of (place g k a.context); kind = a.kind }) else None) ≡ Some o → IsAt (up_id g k) teid o
      by_own a true e found is = record { gnb = g; number = k; owner = a; node_is = refl; found = found; own = e; is = cc }
      by_own a false e found is = absurd cc

      by : (a : Option CuUpTunnel) → find nat_cmp (cu_up_of units g k).tunnels teid ≡ a → owned_by n ue bearer g k a ≡ Some o → IsAt (up_id g k) teid o
      by None found is = absurd cc
      by (Some a) found is = by_own a (is_bearer ue bearer a.ue a.bearer) refl found is
  at_end (CuCp g) teid o is = absurd cc
  at_end (Du g k) teid o is = absurd cc
  at_end Core teid o is = absurd cc
  at_end (Ue k) teid o is = absurd cc

  pub found_on : (g : Gnb) (k teid : ℕ) (o : Owned) → owned_on n ue bearer units (up_id g k) teid ≡ Some o
      → (owner : CuUpTunnel) × (find nat_cmp (cu_up_of units g k).tunnels teid ≡ Some owner) × (is_bearer ue bearer owner.ue owner.bearer ≡ true)
  found_on g k teid o is = by (find nat_cmp (cu_up_of units g k).tunnels teid) is
    where
      by_own : (a : CuUpTunnel) (b : Bool) → is_bearer ue bearer a.ue a.bearer ≡ b
          → (if b then Some (record { context = n.number_of (place g k a.context); kind = a.kind }) else None) ≡ Some o
          → (owner : CuUpTunnel) × (Some a ≡ Some owner) × (is_bearer ue bearer owner.ue owner.bearer ≡ true)
      by_own a true e is = (a, refl, e)
      by_own a false e is = absurd cc

      by : (a : Option CuUpTunnel) → owned_by n ue bearer g k a ≡ Some o
          → (owner : CuUpTunnel) × (a ≡ Some owner) × (is_bearer ue bearer owner.ue owner.bearer ≡ true)
      by None is = absurd cc
      by (Some a) is = by_own a (is_bearer ue bearer a.ue a.bearer) refl is

  -- ---- two of the bearer's tunnels

  pub owned_same : (end : TunnelEnd) (to : NodeId) (q : ℕ) → is_end end to q ≡ true → owned_on n ue bearer units to q ≡ owned_at n ue bearer units end
  owned_same end to q e = ap (λ (k : TunnelEnd). owned_at n ue bearer units k) (sym (end_same end to q e))

  module _ (owned : AreOwned units) (end : TunnelEnd) (o : Owned) (is : owned_at n ue bearer units end ≡ Some o) (to : NodeId) (q : ℕ) (w : Owned)
      (there : owned_on n ue bearer units to q ≡ Some w) where
    one_owned : is_end end to q ≡ true → w ≡ o
    one_owned e = let both : Some w ≡ Some o = sym there ∙ owned_same end to q e ∙ is in cc

    apart : is_end end to q ≡ false → o.context ≡ w.context → Differs w.kind q o.kind end.teid
    apart not same = they_differ theirs.part.bearer w.kind o.kind q end.teid has_q has_end far
      where
        x : IsAt end.node end.teid o
        x = at_end end.node end.teid o is

        y : IsAt to q w
        y = at_end to q w there

        places : place x.gnb x.number x.owner.context ≡ place y.gnb y.number y.owner.context
        places =
            same_place n (place x.gnb x.number x.owner.context) (place y.gnb y.number y.owner.context)
            (sym (ap (λ (v : Owned). v.context) x.is) ∙ same ∙ ap (λ (v : Owned). v.context) y.is)

        here : CuUpRecord
        here = cu_up_of units y.gnb y.number

        found_here : find nat_cmp here.tunnels end.teid ≡ Some x.owner
        found_here = sym (ap (λ (p : Place). find nat_cmp (cu_up_of units p.gnb p.number).tunnels end.teid) places) ∙ x.found

        ours : IsOwner here ue bearer end.teid x.owner
        ours = owner_is here (owned.0 y.gnb y.number) ue bearer end.teid x.owner found_here x.own

        theirs : IsOwner here ue bearer q y.owner
        theirs = owner_is here (owned.0 y.gnb y.number) ue bearer q y.owner y.found y.own

        same_model : ours.part ≡ theirs.part
        same_model = let both : Some ours.part ≡ Some theirs.part = sym ours.there ∙ theirs.there in cc

        has_end : is_one_of (ends_of o.kind theirs.part.bearer) end.teid ≡ true
        has_end =
            ap (λ (v : Owned). is_one_of (ends_of v.kind theirs.part.bearer) end.teid) x.is
            ∙ sym (ap (λ (p : CuUpModel). is_one_of (ends_of x.owner.kind p.bearer) end.teid) same_model) ∙ ours.has

        has_q : is_one_of (ends_of w.kind theirs.part.bearer) q ≡ true
        has_q = ap (λ (v : Owned). is_one_of (ends_of v.kind theirs.part.bearer) q) y.is ∙ theirs.has

        nodes : end.node ≡ to
        nodes = x.node_is ∙ ap (λ (p : Place). up_id p.gnb p.number) places ∙ sym y.node_is

        far : end.teid ≢ q
        far e =
            let ends : end ≡ end_of to q = λ i. record { node = nodes i; teid = e i } in
            clash (sym not ∙ ap (λ (v : TunnelEnd). eq_by_cmp tunnel_cmp v (end_of to q)) ends ∙ end_refinement (end_of to q))

    -- N3: by the context alone
    pub on_n3 : o.kind ≡ n3 → w.kind ≡ n3 → (o.context == w.context) ≡ is_end end to q
    on_n3 ours theirs = by (is_end end to q) refl
      where
        by : (t : Bool) → is_end end to q ≡ t → (o.context == w.context) ≡ t
        by true e = ap (λ (v : Owned). v.context == w.context) (sym (one_owned e)) ∙ number_same w.context
        by false not = unless (o.context == w.context) refl
          where
            unless : (t : Bool) → (o.context == w.context) ≡ t → t ≡ false
            unless false e = refl
            unless true e =
                absurd (subst (λ (c : TunnelKind). Differs c q n3 end.teid) theirs
                (subst (λ (c : TunnelKind). Differs w.kind q c end.teid) ours (apart not (eqb-true o.context w.context e))))

    -- uplinks: by the context and the TEID
    pub on_uplinks : o.kind ≡ f1u_uplink → w.kind ≡ f1u_uplink → (o.context == w.context && end.teid == q) ≡ is_end end to q
    on_uplinks ours theirs = by (is_end end to q) refl
      where
        by : (t : Bool) → is_end end to q ≡ t → (o.context == w.context && end.teid == q) ≡ t
        by true e =
            (λ i. (ap (λ (v : Owned). v.context == w.context) (sym (one_owned e)) ∙ number_same w.context) i
            && (ap (λ (k : TunnelEnd). k.teid == q) (end_same end to q e) ∙ number_same q) i)
        by false not = unless (o.context == w.context) refl (end.teid == q) refl
          where
            unless : (t : Bool) → (o.context == w.context) ≡ t → (v : Bool) → (end.teid == q) ≡ v → t && v ≡ false
            unless false e v f = refl
            unless true e false f = refl
            unless true e true f =
                absurd (subst (λ (c : TunnelKind). Differs c q f1u_uplink end.teid) theirs
                (subst (λ (c : TunnelKind). Differs w.kind q c end.teid) ours (apart not (eqb-true o.context w.context e))) (eqb-true end.teid q f))

    -- and of two kinds they are two
    pub of_kinds : (w.kind ≡ o.kind → ⊥) → is_end end to q ≡ false
    of_kinds others = by (is_end end to q) refl
      where
        by : (t : Bool) → is_end end to q ≡ t → t ≡ false
        by false e = refl
        by true e = absurd (others (ap (λ (v : Owned). v.kind) (one_owned e)))
