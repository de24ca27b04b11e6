-- What the lists of a terminal that is set up without messages have of each bearer, and the tunnels that are opened.
use Rattle.std.proofs.Common.{◌≡◌, ◌≤◌, ◌<◌, ◌==◌, ℕ, zero, suc, ◌+◌, ◌*◌, Bool, true, false, cond, List, [], ◌∷◌, Option, Some, None, inl, inr, ◌⊎◌, refl, sym, ap, ◌∙◌, arith, eq-eqb, eqb-true}
use Rattle.std.specs.Prelude.{if◌then◌else◌, unwrap_or}
use Rattle.std.specs.Ordering.{eq_by_cmp}
use Rattle.std.specs.Cmp.{Equal-is}
use Rattle.gnb_types.specs.declared.names.Gnb.{Gnb}
use Rattle.gnb_types.specs.declared.names.NodeId.{NodeId}
use Rattle.gnb_types.specs.declared.names.NodeId.TheVariants.{Du as du_id}
use Rattle.gnb_types.specs.declared.names.BearerId.{BearerId}
use Rattle.gnb_types.specs.declared.keys.TunnelEnd.{TunnelEnd}
use Rattle.gnb_types.specs.Orders.{bearer_cmp, tunnel_cmp}
use Rattle.gnb_types.proofs.OrderLemmas.{bearer_total, bearer_exact, tunnel_total, tunnel_exact}
use Rattle.tables.specs.Tables.{find, put, at}
use Rattle.tables.proofs.TableLaws.{find-put, find-put-same, find-put-other}
use Rattle.unit_defs.specs.Messages.{teid_of}
use Rattle.unit_defs.specs.CuUpRecords.{CuUpBearer}
use Rattle.unit_defs.specs.CuUpBearers.{made}
use Rattle.unit_defs.specs.CuUp.{bearers_from, bearers_made}
use Rattle.unit_defs.specs.Du.{DuBearer, bearers_made as du_bearers}
use Rattle.unit_defs.specs.Static.{with_downlinks, uplinks_from}
use Rattle.unit_defs.specs.Ue.{new_bearer, new_bearers}
use Rattle.transport_defs.specs.declared.Item.{Item}
use Rattle.run_defs.specs.Conditions.{n3_from, tunnels_from}
use Rattle.law_downlink_scripts.proofs.downlink_only_facts.Keys.{apart_by, tied}

-- ---- bearers

find_first : {X : Type 0} (k : BearerId) (x : X) (es : List (BearerId × X)) (q : BearerId) (t : Bool) → eq_by_cmp bearer_cmp q k ≡ t
    → find bearer_cmp ((k, x) ∷ es) q ≡ cond t (Some x) (find bearer_cmp es q)
unfolding find
find_first k x es q t e = ap (λ (b : Bool). cond b (Some x) (find bearer_cmp es q)) e

module _ (gnb : Gnb) (of_du : ℕ) (up_node : NodeId) where
  abbrev pub ups_from : ℕ → ℕ → ℕ → ℕ → List (BearerId × CuUpBearer)
  ups_from i up du count = with_downlinks gnb of_du du (bearers_made false up (bearers_from i count))

  abbrev pub dus_from : ℕ → ℕ → ℕ → ℕ → List (BearerId × DuBearer)
  dus_from i up du count = du_bearers up_node du (uplinks_from (up + 1) (bearers_from i count))

  abbrev pub up_bearer : ℕ → ℕ → CuUpBearer
  up_bearer up du = record (made false up) { downlink = Some (record { du = du_id gnb of_du; teid = du; next = 0 }) }

  abbrev pub du_bearer : ℕ → ℕ → DuBearer
  du_bearer up du = record { up = up_node; uplink = up + 1; downlink = du; awaited = 0; gap = false }

  -- they have it all, with TEIDs among those that are given; or none has it
  pub record AllHave (i up du count : ℕ) (q : BearerId) : Type 0 where
    pub n3 : ℕ
    pub downlink : ℕ
    pub n3_low : up ≤ n3
    pub n3_high : n3 + 1 < up + 2 * count
    pub down_low : du ≤ downlink
    pub down_high : downlink < du + count
    pub in_ups : find bearer_cmp (ups_from i up du count) q ≡ Some (up_bearer n3 downlink)
    pub in_dus : find bearer_cmp (dus_from i up du count) q ≡ Some (du_bearer n3 downlink)
    pub in_path : teid_of (n3_from i up count) q ≡ n3
    pub in_ue : find bearer_cmp (new_bearers i count) q ≡ Some new_bearer

  pub record NoneHas (i up du count : ℕ) (q : BearerId) : Type 0 where
    pub in_ups : find bearer_cmp (ups_from i up du count) q ≡ None
    pub in_dus : find bearer_cmp (dus_from i up du count) q ≡ None
    pub in_path : teid_of (n3_from i up count) q ≡ 0
    pub in_ue : find bearer_cmp (new_bearers i count) q ≡ None

  none_at_all : (i up du : ℕ) (q : BearerId) → NoneHas i up du zero q
  unfolding find
  none_at_all i up du q = record { in_ups = refl; in_dus = refl; in_path = refl; in_ue = refl }

  module _ (i up du count : ℕ) (q : BearerId) where
    abbrev this : BearerId
    this = record { 0 = i }

    further : List (BearerId × DuBearer)
    further = du_bearers up_node (du + 1) (uplinks_from (up + 1 + 2) (bearers_from (i + 1) count))

    same_further : further ≡ dus_from (i + 1) (up + 2) (du + 1) count
    unfolding further
    same_further =
        let a : up + 1 + 2 ≡ up + 2 + 1 = omega arith in ap (λ (k : ℕ). du_bearers up_node (du + 1) (uplinks_from k (bearers_from (i + 1) count))) a

    named : (t : Bool) → eq_by_cmp bearer_cmp q this ≡ t → (i == q.0) ≡ t
    named true e =
        let same : q ≡ this = bearer_exact q this ((Equal-is (bearer_cmp q this)).0 e) in eq-eqb i q.0 (sym (ap (λ (b : BearerId). b.0) same))
    named false e = by (i == q.0) refl
      where
        by : (t : Bool) → (i == q.0) ≡ t → t ≡ false
        by true h =
            let same : i ≡ q.0 = eqb-true i q.0 h in
            let ids : q ≡ this = (λ j. record { 0 = sym same j }) in
            sym (tied bearer_cmp bearer_total q this ids) ∙ e
        by false h = refl

    first_has : eq_by_cmp bearer_cmp q this ≡ true → AllHave i up du (suc count) q
    unfolding further
    first_has e = record {
      n3 = up;
      downlink = du;
      n3_low = omega arith;
      n3_high = omega arith;
      down_low = omega arith;
      down_high = omega arith;
      in_ups = find_first this (up_bearer up du) (ups_from (i + 1) (up + 2) (du + 1) count) q true e;
      in_dus = find_first this (du_bearer up du) further q true e;
      in_path = ap (λ (t : Bool). if t then up else teid_of (n3_from (i + 1) (up + 2) count) q) (named true e);
      in_ue = find_first this new_bearer (new_bearers (i + 1) count) q true e;
    }

    later_has : eq_by_cmp bearer_cmp q this ≡ false → AllHave (i + 1) (up + 2) (du + 1) count q → AllHave i up du (suc count) q
    unfolding further
    later_has e h = record {
      n3 = h.n3;
      downlink = h.downlink;
      n3_low = omega (arith, h.n3_low);
      n3_high = omega (arith, h.n3_high);
      down_low = omega (arith, h.down_low);
      down_high = omega (arith, h.down_high);
      in_ups = find_first this (up_bearer up du) (ups_from (i + 1) (up + 2) (du + 1) count) q false e ∙ h.in_ups;
      in_dus = find_first this (du_bearer up du) further q false e ∙ ap (λ es. find bearer_cmp es q) same_further ∙ h.in_dus;
      in_path = ap (λ (t : Bool). if t then up else teid_of (n3_from (i + 1) (up + 2) count) q) (named false e) ∙ h.in_path;
      in_ue = find_first this new_bearer (new_bearers (i + 1) count) q false e ∙ h.in_ue;
    }

    none_has : eq_by_cmp bearer_cmp q this ≡ false → NoneHas (i + 1) (up + 2) (du + 1) count q → NoneHas i up du (suc count) q
    unfolding further
    none_has e h = record {
      in_ups = find_first this (up_bearer up du) (ups_from (i + 1) (up + 2) (du + 1) count) q false e ∙ h.in_ups;
      in_dus = find_first this (du_bearer up du) further q false e ∙ ap (λ es. find bearer_cmp es q) same_further ∙ h.in_dus;
      in_path = ap (λ (t : Bool). if t then up else teid_of (n3_from (i + 1) (up + 2) count) q) (named false e) ∙ h.in_path;
      in_ue = find_first this new_bearer (new_bearers (i + 1) count) q false e ∙ h.in_ue;
    }

    either : (t : Bool) → eq_by_cmp bearer_cmp q this ≡ t → AllHave (i + 1) (up + 2) (du + 1) count q ⊎ NoneHas (i + 1) (up + 2) (du + 1) count q
        → AllHave i up du (suc count) q ⊎ NoneHas i up du (suc count) q
    either true e h = inl (first_has e)
    either false e (inl h) = inl (later_has e h)
    either false e (inr h) = inr (none_has e h)

  pub have_or_not : (count i up du : ℕ) (q : BearerId) → AllHave i up du count q ⊎ NoneHas i up du count q
  have_or_not zero i up du q = inr (none_at_all i up du q)
  have_or_not (suc count) i up du q =
      either i up du count q (eq_by_cmp bearer_cmp q (record { 0 = i })) refl (have_or_not count (i + 1) (up + 2) (du + 1) q)

-- ---- tunnels

module _ {L : Type 0} where
  keeps_one : (ts : List (TunnelEnd × List (Item L))) (end e : TunnelEnd) (items : List (Item L)) → find tunnel_cmp ts e ≡ Some items → find tunnel_cmp (put tunnel_cmp ts end (at tunnel_cmp [] ts end)) e ≡ Some items
  unfolding at
  keeps_one ts end e items there = find-put tunnel_total ts end (at tunnel_cmp [] ts end) e ∙ by (eq_by_cmp tunnel_cmp e end) refl
    where
      by : (t : Bool) → eq_by_cmp tunnel_cmp e end ≡ t → cond t (Some (at tunnel_cmp [] ts end)) (find tunnel_cmp ts e) ≡ Some items
      by true tie =
          let same : e ≡ end = tunnel_exact e end ((Equal-is (tunnel_cmp e end)).0 tie) in
          ap (λ (o : Option (List (Item L))). Some (unwrap_or o [])) (ap (find tunnel_cmp ts) (sym same) ∙ there)
      by false apart = there

  pub keeps_all : (node : NodeId) (count teid : ℕ) (ts : List (TunnelEnd × List (Item L))) (e : TunnelEnd) (items : List (Item L)) → find tunnel_cmp ts e ≡ Some items
      → find tunnel_cmp (tunnels_from node teid count ts) e ≡ Some items
  keeps_all node zero teid ts e items there = there
  keeps_all node (suc count) teid ts e items there =
      keeps_all node count (teid + 1) (put tunnel_cmp ts (record { node = node; teid = teid }) (at tunnel_cmp [] ts (record { node = node; teid = teid }))) e items
      (keeps_one ts (record { node = node; teid = teid }) e items there)

  pub elsewhere : (node : NodeId) (count teid : ℕ) (ts : List (TunnelEnd × List (Item L))) (e : TunnelEnd) → (e.node ≡ node → ⊥)
      → find tunnel_cmp (tunnels_from node teid count ts) e ≡ find tunnel_cmp ts e
  elsewhere node zero teid ts e differ = refl
  elsewhere node (suc count) teid ts e differ =
      let end : TunnelEnd = record { node = node; teid = teid } in
      elsewhere node count (teid + 1) (put tunnel_cmp ts end (at tunnel_cmp [] ts end)) e differ
      ∙ find-put-other tunnel_total ts end (at tunnel_cmp [] ts end) e
      (apart_by tunnel_cmp tunnel_exact e end (λ same. differ (ap (λ (t : TunnelEnd). t.node) same)))

  pub opens_each : (node : NodeId) (count teid : ℕ) (ts : List (TunnelEnd × List (Item L))) (k : ℕ) → teid ≤ k → k < teid + count
      → find tunnel_cmp ts (record { node = node; teid = k }) ≡ None
      → find tunnel_cmp (tunnels_from node teid count ts) (record { node = node; teid = k }) ≡ Some []
  unfolding at
  opens_each node zero teid ts k low high none = absurd (omega (arith, low, high))
  opens_each node (suc count) teid ts k low high none = by (k == teid) refl (opens_each node count (teid + 1) begun k)
    where
      begun : List (TunnelEnd × List (Item L))
      begun = put tunnel_cmp ts (record { node = node; teid = teid }) (at tunnel_cmp [] ts (record { node = node; teid = teid }))

      by : (t : Bool) → (k == teid) ≡ t
          → (teid + 1 ≤ k → k < teid + 1 + count → find tunnel_cmp begun (record { node = node; teid = k }) ≡ None
          → find tunnel_cmp (tunnels_from node (teid + 1) count begun) (record { node = node; teid = k }) ≡ Some [])
          → find tunnel_cmp (tunnels_from node (teid + 1) count begun) (record { node = node; teid = k }) ≡ Some []
      by true e later =
          let same : k ≡ teid = eqb-true k teid e in
          keeps_all node count (teid + 1) begun (record { node = node; teid = k }) []
          (ap (λ (j : ℕ). find tunnel_cmp begun (record { node = node; teid = j })) same
          ∙ find-put-same tunnel_total ts (record { node = node; teid = teid }) (at tunnel_cmp [] ts (record { node = node; teid = teid }))
          ∙ ap (λ (o : Option (List (Item L))). Some (unwrap_or o [])) (ap (λ (j : ℕ). find tunnel_cmp ts (record { node = node; teid = j })) (sym same) ∙ none))
      by false e later =
          let differ : teid + 1 ≤ k = above k teid low e in
          later differ (omega (arith, high))
          (find-put-other tunnel_total ts (record { node = node; teid = teid }) (at tunnel_cmp [] ts (record { node = node; teid = teid })) (record { node = node; teid = k })
          (apart_by tunnel_cmp tunnel_exact (record { node = node; teid = k }) (record { node = node; teid = teid })
          (λ same. clash k teid e (ap (λ (t : TunnelEnd). t.teid) same))) ∙ none)
        where
          clash : (a b : ℕ) → (a == b) ≡ false → a ≡ b → ⊥
          clash a b e same = let t : true ≡ false = sym (eq-eqb a b same) ∙ e in absurd cc

          above : (a b : ℕ) → b ≤ a → (a == b) ≡ false → b + 1 ≤ a
          above a b low e = grind arith
