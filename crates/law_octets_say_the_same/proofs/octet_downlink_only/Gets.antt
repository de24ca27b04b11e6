-- The oldest item of a tunnel says to its receiver what its octets say.
use Rattle.std.proofs.Common.{◌≡◌, ℕ, ◌+◌, ◌^◌, ◌<◌, ◌≤◌, true, false, List, [], ◌∷◌, Option, Some, None, refl, sym, ap, ◌∙◌, subst, arith}
use Rattle.std.specs.Prelude.{is_some}
use Rattle.std.specs.Ordering.{nat_cmp}
use Rattle.gnb_types.specs.declared.names.Gnb.{Gnb}
use Rattle.gnb_types.specs.declared.names.NodeId.{NodeId}
use Rattle.gnb_types.specs.declared.names.NodeId.TheVariants.{CuCp, CuUp as up_id, Du as du_id, Core, Ue}
use Rattle.gnb_types.specs.declared.names.SnBits.{SnBits}
use Rattle.gnb_types.specs.declared.names.SnBits.TheVariants.{Len12, Len18}
use Rattle.gnb_types.specs.declared.names.Dir.{Dir}
use Rattle.gnb_types.specs.declared.names.Dir.TheVariants.{Dl, Ul}
use Rattle.gnb_types.specs.Orders.{tunnel_cmp}
use Rattle.tables.specs.Tables.{find}
use Rattle.pdcp.specs.Near.{last_count}
use Rattle.pdcp.specs.Numbers.{space}
use Rattle.pdcp_defs.specs.Counts.{number_of, count_below}
use Rattle.pdcp_entities.proofs.NearLemmas.{found_from, same_remainder}
use Rattle.unit_defs.specs.Ways.{Pdu, packet_pdu, report_pdu, Load, fresh, numbered, frame, uplink, status, end_marker}
use Rattle.unit_defs.specs.CuUpRecords.{TunnelKind, n3, f1u_uplink, forwarding_down, forwarding_up, CuUpTunnel}
use Rattle.unit_defs.specs.CuUpBearers.{is_one_of, teid_in}
use Rattle.unit_defs.specs.Du.{DuTunnel}
use Rattle.unit_defs.specs.octet_defs.Codec.{Codec}
use Rattle.unit_defs.specs.codec_defs.Reading.{ReadsItems}
use Rattle.run_defs.specs.Units.{cu_up_of, du_of}
use Rattle.run_defs.specs.Written.{written_item}
use Rattle.run_defs.specs.States.{item_for, sn_of}
use Rattle.run_defs.specs.Runs.{Reading}
use Rattle.law_tunnels_are_owned.specs.open_tunnels.Open.{is_open_in, StandWhereOpen}
use Rattle.law_tunnels_are_owned.specs.owner_facts.Owned.{ends_of as teids_of, AreOwned}
use Rattle.law_tunnels_are_owned.specs.run_tunnels.Own.{IsOfKind, IsOwnAt, TunnelsHoldTheirOwn}
use Rattle.proof_cu_up_orders.specs.context_orders.Orders.{CuUpModel, model_of as up_model_of}
use Rattle.law_downlink_scripts.specs.downlink_only_rows.DownlinkOnly.{TheEnds}
use Rattle.law_downlink_scripts.proofs.downlink_only_facts.Views.{PlainState, OnTunnel, Stage, comes, lacks, stands, AllStand}
use Rattle.law_downlink_scripts.proofs.downlink_only_facts.Keys.{up_found, du_found}
use Rattle.law_downlink_scripts.proofs.downlink_only_facts.Ends.{UpNamed, up_named, DuNamed, du_named}
use Rattle.law_octets_say_the_same.specs.octet_runs.Faithful.{ReadsAlike}
use Rattle.law_octets_say_the_same.proofs.octet_answers.Units.{up_reads, up_reads_status, du_reads}
use Rattle.law_octets_say_the_same.specs.octet_facts.Ranges.{IsInRange, IsRanged}
use Rattle.law_octets_say_the_same.proofs.octet_facts.Facts.{IsGood, AreGood}
use Rattle.law_octets_say_the_same.specs.octet_downlink_only.Near.{AreNear}

-- ---- delivery statuses

status_kind : (kind : TunnelKind) (dir : Dir) (count : ℕ) → IsOfKind kind dir (status [] (Some count)) → kind ≡ f1u_uplink
status_kind f1u_uplink dir count h = refl
status_kind n3 Dl count h = absurd h
status_kind n3 Ul count h = absurd h
status_kind forwarding_down Dl count h = absurd h
status_kind forwarding_down Ul count h = absurd h
status_kind forwarding_up Dl count h = absurd h
status_kind forwarding_up Ul count h = absurd h

seven : 0 ≤ 7
seven = omega arith

below_last : (count next last : ℕ) → count < next → next ≤ last + 1 → count ≤ last
below_last count next last a b = omega (arith, a, b)

raised_below : (count next n : ℕ) → count < next → count + n < next + n
raised_below count next n a = omega (arith, a)

finds : (sn : SnBits) (next_one count : ℕ) → count < next_one → next_one ≤ count + space sn → count ≤ last_count
    → count_below sn next_one (number_of sn count) ≡ Some count
unfolding count_below
finds sn next_one count low high given =
    found_from sn next_one (number_of sn count) count high (raised_below count next_one (space sn) low) (same_remainder sn count) given

number_fits : (sn : SnBits) (count : ℕ) → number_of sn count < 2 ^ 24
number_fits Len12 count = omega arith
number_fits Len18 count = omega arith

module _ (Acks : Type 0) (codec : Codec) (reads : ReadsItems codec) (reading : Reading) (s : PlainState) (near : Acks → AreNear s)
    (counts : (g : Gnb) (k : ℕ) → AreGood IsGood (cu_up_of s.units g k)) (owned : AreOwned s.units) (where_open : StandWhereOpen s)
    (own : TunnelsHoldTheirOwn s) (all : AllStand s) (ranged : IsRanged Acks s) (item : OnTunnel) (rest : List OnTunnel) where
  abbrev Stood : NodeId → ℕ → Type 0
  Stood node teid = find tunnel_cmp s.tunnels (record { node = node; teid = teid }) ≡ Some (item ∷ rest)

  abbrev Reads : NodeId → ℕ → Type 0
  Reads node teid = ReadsAlike codec reading s node (item_for teid item)

  -- ---- at a CU-UP: a packet of N3

  module _ (g : Gnb) (k teid : ℕ) (t : CuUpTunnel) (found : find nat_cmp (cu_up_of s.units g k).tunnels teid ≡ Some t) (stood : Stood (up_id g k) teid) where
    -- of the tunnels of a bearer that stands packets come on N3 alone
    only_n3 : (dir : Dir) (kind : TunnelKind) (p : List ℕ) (n : ℕ) (left : List (List ℕ)) → Stage s t.ue t.bearer n left → UpNamed s.units owned g k teid t
        → t.kind ≡ kind → IsOfKind kind dir (fresh p) → t.kind ≡ n3
    only_n3 dir n3 p n left stage named is of_kind = is
    only_n3 Dl f1u_uplink p n left stage named is of_kind = absurd of_kind
    only_n3 Ul f1u_uplink p n left stage named is of_kind = absurd of_kind
    only_n3 dir forwarding_up p n left stage named is of_kind = by dir of_kind
      where
        by : (d : Dir) → IsOfKind forwarding_up d (fresh p) → t.kind ≡ n3
        by Dl h = absurd h
        by Ul h = absurd h
    only_n3 dir forwarding_down p n left (comes plan absent none first empty) named is of_kind =
        let clash : None ≡ Some named.part = sym (none.0 g k) ∙ named.is in absurd cc
    only_n3 dir forwarding_down p n left (lacks l none first) named is of_kind =
        let clash : None ≡ Some named.part = sym (none.0 g k) ∙ named.is in absurd cc
    only_n3 dir forwarding_down p n left (stands v sees fit order) named is of_kind =
        let here = sees.only_up g k named.part named.is in
        let parts : Some named.part ≡ Some v.up = sym named.is ∙ (λ i. up_model_of (cu_up_of s.units (here.0 i) (here.1 i)) t.ue t.bearer) ∙ sees.up in
        let part : named.part ≡ v.up = cc in
        let none : is_one_of (teid_in None) teid ≡ true =
        ap (λ (e : TheEnds). is_one_of (teid_in e.2) teid) (sym fit.ends)
        ∙ ap (λ (q : CuUpModel). is_one_of (teids_of forwarding_down q.bearer) teid) (sym part)
        ∙ ap (λ (z : TunnelKind). is_one_of (teids_of z named.part.bearer) teid) (sym is) ∙ named.among in
        absurd cc

    up_says : UpNamed s.units owned g k teid t → (load : Load Pdu) → item.content.says ≡ load → IsInRange Acks load → IsOwnAt s.units (up_id g k) teid item.key load
        → teid < 2 ^ 32 → item.content ≡ written_item (sn_of s item.key.ue) teid item.content.says → Reads (up_id g k) teid
    up_says named (fresh p) says sized at fits written =
        let o = at t found in
        let f = up_found (cu_up_of s.units g k) t.ue t.bearer named.part named.is in
        up_reads codec reading s g k reads teid t f.context f.found p item fits sized found
        (only_n3 item.key.dir t.kind p (all t.ue t.bearer).delivered (all t.ue t.bearer).left (all t.ue t.bearer).stage named refl o.2) f.there f.has
        (ranged.ups g k t.ue f.context f.there) (written ∙ (λ i. written_item (sn_of s (o.0 i)) teid (says i)))
    up_says named (frame false restart number (Some (packet_pdu count p))) says range at fits written = absurd (no_frame t.kind item.key.dir (at t found).2)
      where
        no_frame : (kind : TunnelKind) (dir : Dir) → IsOfKind kind dir (frame false restart number (Some (packet_pdu count p))) → ⊥
        no_frame n3 Dl h = h
        no_frame n3 Ul h = h
        no_frame f1u_uplink Dl h = h
        no_frame f1u_uplink Ul h = h
        no_frame forwarding_down Dl h = h
        no_frame forwarding_down Ul h = h
        no_frame forwarding_up Dl h = h
        no_frame forwarding_up Ul h = h
    up_says named (frame false restart number (Some (report_pdu fmc bits))) says range at fits written = absurd range
    up_says named (frame false restart number None) says range at fits written = absurd range
    up_says named (frame true restart number pdu) says range at fits written = absurd range
    up_says named (numbered bits count p) says range at fits written = absurd range
    up_says named (uplink pdu) says range at fits written = absurd range
    up_says named (status [] (Some count)) says acks at fits written =
        let o = at t found in
        let f = up_found (cu_up_of s.units g k) t.ue t.bearer named.part named.is in
        let close = near acks g k teid item rest stood count says t found f.context f.there f.found f.has in
        let long = ranged.ups g k t.ue f.context f.there in
        let given : count ≤ last_count = below_last count f.found.sender.next last_count close.0 (counts g k t.ue f.context f.there t.bearer f.found f.has).0.0 in
        up_reads_status codec reading s g k reads teid t f.context f.found (Some count) item fits found (status_kind t.kind item.key.dir count o.2) f.there f.has long
        (subst (λ (sn : SnBits). count_below f.context.sn f.found.sender.next (number_of sn count) ≡ Some count) long
        (finds f.context.sn f.found.sender.next count close.0 close.1 given))
        (seven, tt, number_fits (sn_of s t.ue) count) (written ∙ (λ i. written_item (sn_of s (o.0 i)) teid (says i)))
    up_says named (status [] None) says range at fits written = absurd range
    up_says named (status (lost ∷ more) delivered) says range at fits written = absurd range
    up_says named end_marker says range at fits written = absurd range

    pub up_gets : Reads (up_id g k) teid
    up_gets =
        let there = ranged.tunnels (record { node = up_id g k; teid = teid }) (item ∷ rest) stood in
        up_says (up_named s.units owned g k teid t found) item.content.says refl there.0.2 (own (record { node = up_id g k; teid = teid }) (item ∷ rest) stood).0
        there.0.0 there.0.1

  -- ---- at a DU: a frame

  module _ (g : Gnb) (k teid : ℕ) (t : DuTunnel) (found : find nat_cmp (du_of s.units g k).tunnels teid ≡ Some t) (stood : Stood (du_id g k) teid) where
    du_says : DuNamed s.units owned g k teid t → (load : Load Pdu) → item.content.says ≡ load → IsInRange Acks load → IsOwnAt s.units (du_id g k) teid item.key load
        → teid < 2 ^ 32 → item.content ≡ written_item (sn_of s item.key.ue) teid item.content.says → Reads (du_id g k) teid
    du_says named (frame false restart number (Some (packet_pdu count p))) says range at fits written =
        let o = at t found in
        let f = du_found (du_of s.units g k) t.ue t.bearer named.part named.is in
        du_reads codec reading s g k reads teid t f.context f.found restart number count p item fits range.0 range.1 found f.there f.has
        (ranged.dus g k t.ue f.context f.there) (written ∙ (λ i. written_item (sn_of s (o.0 i)) teid (says i)))
    du_says named (fresh p) says range at fits written = absurd (at t found).2.1
    du_says named (frame false restart number (Some (report_pdu fmc bits))) says range at fits written = absurd range
    du_says named (frame false restart number None) says range at fits written = absurd range
    du_says named (frame true restart number pdu) says range at fits written = absurd range
    du_says named (numbered bits count p) says range at fits written = absurd range
    du_says named (uplink pdu) says range at fits written = absurd range
    du_says named (status lost delivered) says range at fits written = absurd (at t found).2.1
    du_says named end_marker says range at fits written = absurd range

    pub du_gets : Reads (du_id g k) teid
    du_gets =
        let there = ranged.tunnels (record { node = du_id g k; teid = teid }) (item ∷ rest) stood in
        du_says (du_named s.units owned g k teid t found) item.content.says refl there.0.2 (own (record { node = du_id g k; teid = teid }) (item ∷ rest) stood).0
        there.0.0 there.0.1

  -- ---- at any node

  pub gets_alike : (node : NodeId) (teid : ℕ) → Stood node teid → Reads node teid
  gets_alike (up_id g k) teid stood = by (find nat_cmp (cu_up_of s.units g k).tunnels teid) refl
    where
      is_there : is_open_in (cu_up_of s.units g k).tunnels teid ≡ true
      is_there = sym (where_open.0 g k teid) ∙ ap is_some stood

      by : (o : Option CuUpTunnel) → find nat_cmp (cu_up_of s.units g k).tunnels teid ≡ o → Reads (up_id g k) teid
      by None e = let clash : false ≡ true = sym (ap is_some e) ∙ is_there in absurd cc
      by (Some t) e = up_gets g k teid t e stood
  gets_alike (du_id g k) teid stood = by (find nat_cmp (du_of s.units g k).tunnels teid) refl
    where
      is_there : is_open_in (du_of s.units g k).tunnels teid ≡ true
      is_there = sym (where_open.1 g k teid) ∙ ap is_some stood

      by : (o : Option DuTunnel) → find nat_cmp (du_of s.units g k).tunnels teid ≡ o → Reads (du_id g k) teid
      by None e = let clash : false ≡ true = sym (ap is_some e) ∙ is_there in absurd cc
      by (Some t) e = du_gets g k teid t e stood
  gets_alike (CuCp g) teid stood = absurd (own (record { node = CuCp g; teid = teid }) (item ∷ rest) stood).0
  gets_alike Core teid stood = absurd (own (record { node = Core; teid = teid }) (item ∷ rest) stood).0
  gets_alike (Ue u) teid stood = absurd (own (record { node = Ue u; teid = teid }) (item ∷ rest) stood).0
