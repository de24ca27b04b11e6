-- Of all CU-UPs only one bearer's downlink leads to the tunnel, from when it is switched there.
use Rattle.std.proofs.Common.{◌≡◌, ℕ, Bool, true, false, cond, Option, Some, None, refl, sym, ap, ◌∙◌, subst}
use Rattle.std.specs.Prelude.{if◌then◌else◌}
use Rattle.std.specs.Ordering.{eq_by_cmp, is_eq}
use Rattle.std.specs.Cmp.{tied_itself, Equal-is}
use Rattle.gnb_types.specs.declared.names.Gnb.{Gnb}
use Rattle.gnb_types.specs.declared.names.NodeId.{NodeId}
use Rattle.gnb_types.specs.declared.names.NodeId.TheVariants.{CuUp as up_id}
use Rattle.gnb_types.specs.declared.names.UeId.{UeId}
use Rattle.gnb_types.specs.declared.names.BearerId.{BearerId}
use Rattle.gnb_types.specs.declared.keys.TunnelEnd.{TunnelEnd}
use Rattle.gnb_types.specs.Orders.{node_cmp}
use Rattle.gnb_types.proofs.OrderLemmas.{node_total, node_exact}
use Rattle.tables.proofs.TableLaws.{at-put}
use Rattle.message_types.specs.declared.rrc.Token.{Token}
use Rattle.unit_defs.specs.Ways.{Message}
use Rattle.unit_defs.specs.CuUpRecords.{CuUp}
use Rattle.unit_defs.specs.CuUp.{new_cu_up}
use Rattle.run_defs.specs.Units.{Units, cu_up_of, with_cu_up}
use Rattle.proof_unit_steps.specs.tunnel_frames.OneTunnel.{OwnedTunnel, CuUpCounts}
use Rattle.proof_unit_steps.proofs.tunnel_frames.Contexts.{counts_on}

abbrev pub Records : Type 0
Records = Units (Message Token) Token

-- the CU-UP and the bearer that were switched to it, if any were
abbrev pub Phase : Type 0
Phase = Option (NodeId × (UeId × BearerId))

pub clash : true ≡ false → ⊥
clash e = absurd cc

module _ (end : TunnelEnd) where
  abbrev pub owner_at : Phase → Gnb → ℕ → Option (UeId × BearerId)
  owner_at None gnb number = None
  owner_at (Some o) gnb number = if eq_by_cmp node_cmp (up_id gnb number) o.0 then Some o.1 else None

  abbrev pub seen_at : Phase → Gnb → ℕ → OwnedTunnel
  seen_at phase gnb number = record { gnb = gnb; end = end; owner = owner_at phase gnb number }

  abbrev pub IsFirst : Phase → ℕ → Type 0
  IsFirst None k = k ≡ 0
  IsFirst (Some o) k = Unit {0}

  abbrev pub Ups : Phase → ℕ → Records → Type 0
  Ups phase k u = IsFirst phase k × ((gnb : Gnb) (number : ℕ) → CuUpCounts (seen_at phase gnb number) k (cu_up_of u gnb number))

  pub same_node : (n : NodeId) → eq_by_cmp node_cmp n n ≡ true
  same_node n = ap is_eq (tied_itself node_total n)

  -- where none leads there, it may be anyone's
  free_counts : (k j : ℕ) (gnb : Gnb) (number : ℕ) (owner : Option (UeId × BearerId)) (r : CuUp (Message Token) Token)
      → CuUpCounts (record { gnb = gnb; end = end; owner = None }) k r → CuUpCounts (record { gnb = gnb; end = end; owner = owner }) j r
  free_counts k j gnb number owner r p =
      (p.0, λ ue c b x at found l. absurd (none_some ue b (p.1 ue c b x at found l).0))
    where
      none_some : (ue : UeId) (b : BearerId) → ◌≡◌ {A = Option (UeId × BearerId)} None (Some (ue, b)) → ⊥
      none_some ue b e = absurd cc

  pub free_ups : (k : ℕ) (u : Records) (o : NodeId × (UeId × BearerId)) → Ups None k u → Ups (Some o) k u
  free_ups k u o ups = (tt, λ g n. free_counts k k g n (owner_at (Some o) g n) (cu_up_of u g n) (ups.1 g n))

  pub owns : (g : Gnb) (n : ℕ) (o : UeId × BearerId) → owner_at (Some (up_id g n, o)) g n ≡ Some o
  owns g n o = ap (λ (t : Bool). if t then Some o else None) (same_node (up_id g n))

  -- ---- one CU-UP changes

  apart_owner : (q : Phase) (g gnb : Gnb) (n number : ℕ) (o : UeId × BearerId) → eq_by_cmp node_cmp (up_id g n) (up_id gnb number) ≡ false
      → owner_at q g n ≡ Some o → owner_at q gnb number ≡ None
  apart_owner None g gnb n number o off is = refl
  apart_owner (Some p) g gnb n number o off is =
      by (eq_by_cmp node_cmp (up_id g n) p.0) (eq_by_cmp node_cmp (up_id gnb number) p.0) refl refl is
    where
      by : (a b : Bool) → eq_by_cmp node_cmp (up_id g n) p.0 ≡ a → eq_by_cmp node_cmp (up_id gnb number) p.0 ≡ b
          → (if a then Some p.1 else None) ≡ Some o → (if b then Some p.1 else None) ≡ None
      by true true first second is =
          let one : up_id g n ≡ p.0 = node_exact (up_id g n) p.0 ((Equal-is (node_cmp (up_id g n) p.0)).0 first) in
          let two : up_id gnb number ≡ p.0 = node_exact (up_id gnb number) p.0 ((Equal-is (node_cmp (up_id gnb number) p.0)).0 second) in
          let tie : eq_by_cmp node_cmp (up_id g n) (up_id gnb number) ≡ true = ap (eq_by_cmp node_cmp (up_id g n)) (two ∙ sym one) ∙ same_node (up_id g n) in
          absurd (clash (sym tie ∙ off))
      by true false first second is = refl
      by false b first second is = absurd cc

  first_after : (q : Phase) (k j : ℕ) (gnb : Gnb) (number : ℕ) → IsFirst q k → (owner_at q gnb number ≡ None → j ≡ k) → IsFirst q j
  first_after None k j gnb number first none = none refl ∙ first
  first_after (Some o) k j gnb number first none = tt

  pub with_up_counts : (q : Phase) (k j : ℕ) (u : Records) (gnb : Gnb) (number : ℕ) (r : CuUp (Message Token) Token) → Ups q k u
      → CuUpCounts (seen_at q gnb number) j r → (owner_at q gnb number ≡ None → j ≡ k) → Ups q j (with_cu_up u gnb number r)
  with_up_counts q k j u gnb number r ups counts none = (
    first_after q k j gnb number ups.0 none,
    λ g n.
        subst (λ (s : CuUp (Message Token) Token). CuUpCounts (seen_at q g n) j s) (sym (at-put node_total (new_cu_up g n) u.ups (up_id gnb number) r (up_id g n)))
        (by g n (eq_by_cmp node_cmp (up_id g n) (up_id gnb number)) refl),
  )
    where
      by : (g : Gnb) (n : ℕ) (t : Bool) → eq_by_cmp node_cmp (up_id g n) (up_id gnb number) ≡ t → CuUpCounts (seen_at q g n) j (cond t r (cu_up_of u g n))
      by g n true tie =
          let same : up_id g n ≡ up_id gnb number = node_exact (up_id g n) (up_id gnb number) ((Equal-is (node_cmp (up_id g n) (up_id gnb number))).0 tie) in
          let gnbs : gnb ≡ g = cc in
          let numbers : number ≡ n = cc in
          subst (λ (p : Gnb × ℕ). CuUpCounts (seen_at q p.0 p.1) j r) (λ i. (gnbs i, numbers i)) counts
      by g n false off =
          let old = ups.1 g n in (
            old.0,
            λ ue c b x at found. counts_on (seen_at q g n) k j ue b x.downlink (old.1 ue c b x at found)
                (λ own. none (apart_owner q g gnb n number (ue, b) off own)),
          )
