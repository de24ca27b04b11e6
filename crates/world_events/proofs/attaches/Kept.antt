-- What a run keeps of a terminal that is set up without messages, tunnel by tunnel.
use Rattle.std.proofs.Common.{◌≡◌, ◌<◌, ◌≤◌, ℕ, suc, ◌+◌, ◌-◌, ◌*◌, ◌^◌, true, not, ◌==◌, nat_le, List, [], ◌∷◌, ◌++◌, Some, sym, ◌∙◌, ap, subst, append_assoc, arith}
use Rattle.std.proofs.lemmas.List.{append-nil}
use Rattle.gnb_types.specs.declared.names.NodeId.{NodeId}
use Rattle.gnb_types.specs.declared.names.NodeId.TheVariants.{CuUp, Du}
use Rattle.gnb_types.specs.declared.keys.TunnelEnd.{TunnelEnd}
use Rattle.gnb_types.specs.declared.plans.Plan.{Plan}
use Rattle.gnb_types.specs.declared.plans.Tunnel.{Tunnel}
use Rattle.gnb_types.specs.Orders.{ue_cmp}
use Rattle.gnb_types.proofs.Choices.{both}
use Rattle.tables.specs.Tables.{put}
use Rattle.links.specs.Radios.{connected_in}
use Rattle.scenario_text.specs.declared.line.OutLine.{OutLine}
use Rattle.unit_defs.specs.Teids.{teids_are_left}
use Rattle.run_defs.specs.Conditions.{n3_from, tunnels_from, seated}
use Rattle.run_defs.specs.Steps.{opens}
use Rattle.run_links.specs.declared.network.Network.{Network}
use Rattle.run_links.specs.Networks.{OctetState, state_of}
use Rattle.run_links.specs.Told.{Makes}
use Rattle.world_events.specs.attaches.Comings.{opens_from, keeps}

-- ---- the N3 tunnels of a path

pub n3_turn : (first bearers i : ℕ) (n3 after : List Tunnel) → i < bearers
    → n3 ++ n3_from (i + 1) (first + 2 * i) (bearers - i) ≡ n3_from 1 first bearers
    → after ≡ n3 ++ record { bearer = record { 0 = i + 1 }; teid = first + 2 * i } ∷ []
    → after ++ n3_from (i + 1 + 1) (first + 2 * (i + 1)) (bearers - (i + 1)) ≡ n3_from 1 first bearers
n3_turn first bearers i n3 after some h pushed =
    let left : bearers - i ≡ suc (bearers - (i + 1)) = omega arith in
    let next : first + 2 * (i + 1) ≡ first + 2 * i + 2 = omega arith in
    let this : Tunnel = record { bearer = record { 0 = i + 1 }; teid = first + 2 * i } in
    ap (λ (ts : List Tunnel). ts ++ n3_from (i + 1 + 1) (first + 2 * (i + 1)) (bearers - (i + 1))) pushed
    ∙ append_assoc n3 (this ∷ []) (n3_from (i + 1 + 1) (first + 2 * (i + 1)) (bearers - (i + 1)))
    ∙ ap (λ (m : ℕ). n3 ++ this ∷ n3_from (i + 1 + 1) m (bearers - (i + 1))) next
    ∙ ap (λ (k : ℕ). n3 ++ n3_from (i + 1) (first + 2 * i) k) (sym left) ∙ h

pub n3_begins : (first bearers : ℕ) → n3_from (0 + 1) (first + 2 * 0) (bearers - 0) ≡ n3_from 1 first bearers
n3_begins first bearers =
    let same : first + 2 * 0 ≡ first = omega arith in
    let all : bearers - 0 ≡ bearers = omega arith in
    ap (λ (m : ℕ). n3_from 1 m (bearers - 0)) same ∙ ap (λ (k : ℕ). n3_from 1 first k) all

pub n3_ends : (first bearers : ℕ) (n3 : List Tunnel) → n3 ++ n3_from (bearers + 1) (first + 2 * bearers) (bearers - bearers) ≡ n3_from 1 first bearers
    → n3 ≡ n3_from 1 first bearers
n3_ends first bearers n3 h =
    let none : bearers - bearers ≡ 0 = omega arith in
    sym (append-nil n3) ∙ ap (λ (k : ℕ). n3 ++ n3_from (bearers + 1) (first + 2 * bearers) k) (sym none) ∙ h

-- ---- tunnels, opened one by one

abbrev pub Opens : NodeId → ℕ → ℕ → Network → Network → List OutLine → Type 0
Opens node first count old new lines = Makes (opens_from node first count) old new lines lines

pub open_begins : (node : NodeId) (first count : ℕ) (old new : Network) (lines : List OutLine) → Opens node (first + 0) (count - 0) old new lines
    → Opens node first count old new lines
open_begins node first count old new lines h =
    let same : first + 0 ≡ first = omega arith in
    let all : count - 0 ≡ count = omega arith in
    subst (λ (k : ℕ). Opens node first k old new lines) all (subst (λ (m : ℕ). Opens node m (count - 0) old new lines) same h)

pub open_turn : (node : NodeId) (first count i : ℕ) (old middle new : Network) (lines : List OutLine) → i < count
    → Makes (λ world. opens world (record { node = node; teid = first + i })) old middle lines lines
    → Opens node (first + (i + 1)) (count - (i + 1)) middle new lines → Opens node (first + i) (count - i) old new lines
unfolding opens
open_turn node first count i old middle new lines some one rest codec answer units core =
    let left : count - i ≡ suc (count - (i + 1)) = omega arith in
    let next : first + (i + 1) ≡ first + i + 1 = omega arith in
    let o = one codec answer units core in
    let r = rest codec answer units core in
    let s = state_of units core old in
    let end : TunnelEnd = record { node = node; teid = first + i } in (
      sym (append-nil lines),
      ap (λ (k : ℕ). record s { tunnels = tunnels_from node (first + i) k s.tunnels }) left
          ∙ ap (λ (x : OctetState). record x { tunnels = tunnels_from node (first + i + 1) (count - (i + 1)) x.tunnels }) o.1
          ∙ ap (λ (m : ℕ). record (state_of units core middle) { tunnels = tunnels_from node m (count - (i + 1)) middle.tunnels.tunnels }) (sym next)
          ∙ r.1,
    )

pub open_ends : (node : NodeId) (first count : ℕ) (old : Network) (lines : List OutLine) → Opens node (first + count) (count - count) old old lines
open_ends node first count old lines codec answer units core =
    let none : count - count ≡ 0 = omega arith in
    let s = state_of units core old in (
      sym (append-nil lines),
      ap (λ (k : ℕ). record s { tunnels = tunnels_from node (first + count) k s.tunnels }) none,
    )

-- ---- all that is kept

pub keeps_so : (plan : Plan) (up du : ℕ) (old first second new : Network) (lines : List OutLine)
    → Opens (CuUp plan.gnb plan.up) up (2 * plan.bearers) old first lines → Opens (Du plan.gnb plan.du) du plan.bearers first second lines
    → new ≡ record second { radios = connected_in second.radios plan.ue (Some 1); plans = put ue_cmp second.plans plan.ue plan }
    → Makes (keeps plan up du) old new lines lines
keeps_so plan up du old first second new lines ups dus same codec answer units core =
    let u = ups codec answer units core in
    let d = dus codec answer units core in (
      sym (append-nil lines),
      ap (λ (x : OctetState). record (seated plan x) {
        tunnels = tunnels_from (Du plan.gnb plan.du) du plan.bearers x.tunnels;
        connected = put ue_cmp x.connected plan.ue 1;
      }) u.1
          ∙ ap (λ (x : OctetState). record (seated plan x) { connected = put ue_cmp x.connected plan.ue 1 }) d.1
          ∙ ap (λ (g : Network). state_of units core g) (sym same),
    )

-- ---- TEIDs that are left are of 32 bits

pub teids_fit : (next count : ℕ) → teids_are_left next count ≡ true → next + count ≤ 2 ^ 32
teids_fit next count h = grind (arith, both (not (next == 0)) (nat_le (next + count - 1) (2 ^ 32 - 1)) h)
