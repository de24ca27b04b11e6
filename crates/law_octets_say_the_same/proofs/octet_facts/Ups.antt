-- A CU-UP takes a packet of N3, or a delivery status, for a bearer that serves: its counts stay in range, and so are the frames that it puts.
use Rattle.std.proofs.Common.{◌≡◌, ◌≤◌, ◌<◌, ℕ, suc, ◌+◌, Bool, true, false, ◌&&◌, List, [], ◌∷◌, length, map, Option, Some, None, sym, ap, ◌∙◌, subst, arith}
use Rattle.std.specs.Prelude.{if◌then◌else◌}
use Rattle.std.specs.List.{flat_map, list_all, AllByRecursion}
use Rattle.std.specs.Ordering.{nat_cmp}
use Rattle.gnb_types.specs.declared.names.NodeId.{NodeId}
use Rattle.gnb_types.specs.declared.reasons.HeldReason.{HeldReason}
use Rattle.gnb_types.specs.Orders.{bearer_cmp}
use Rattle.gnb_types.proofs.OrderLemmas.{ue_total, bearer_total}
use Rattle.tables.specs.Tables.{find, put}
use Rattle.tables.proofs.TableLaws.{find-put-same}
use Rattle.pdcp.specs.Near.{last_count}
use Rattle.link_defs.specs.Decoding.{IsSized}
use Rattle.unit_defs.specs.Ways.{Output, Taken, fresh_item, status_item, packet_input, Way, Answer, gives, spent, with_outputs, ◌then◌, nothing}
use Rattle.unit_defs.specs.Teids.{without_each}
use Rattle.unit_defs.specs.CuUpRecords.{DownlinkTunnel, CuUpBearer, CuUpContext, CuUpTunnel, TunnelKind, n3, f1u_uplink, CuUp, CuUpScope, cu_up_scope}
use Rattle.unit_defs.specs.CuUpBearers.{is_over, last_frame}
use Rattle.unit_defs.specs.CuUpItems.{held_reason, took}
use Rattle.unit_defs.specs.CuUp.{context_of, closed_in, ended, ended_if_over, end_where_over, with_bearer, with_context, taken_by, taken_in, taken_of, taken_on, take, cu_up_acts}
use Rattle.run_defs.specs.Written.{written_put}
use Rattle.run_defs.specs.States.{Lengths}
use Rattle.run_defs.specs.Runs.{plain_way}
use Rattle.law_downlink_scripts.specs.downlink_only_rows.DownlinkOnly.{serving, next_on, sends}
use Rattle.proof_unit_steps.specs.count_ranges.Ranges.{CountsInRange, EndsInRange}
use Rattle.proof_unit_steps.proofs.count_ranges.Ups.{fresh_in, status_in}
use Rattle.proof_run_steps.specs.facts.Facts.{PutsFit}
use Rattle.law_octets_say_the_same.proofs.octet_facts.Facts.{ranges}

module _ {M C P : Type 0} (way : Way M C P) (r : CuUp M C) (teid : ℕ) (t : CuUpTunnel) (c : CuUpContext) (b : CuUpBearer) (serves : c.flags ≡ serving)
    (counts : CountsInRange b) where
  abbrev with_one : CuUpBearer → CuUpContext
  with_one x = record c { bearers = put bearer_cmp c.bearers t.bearer x }

  abbrev kept : List (Output M P) → CuUpBearer → CuUp M C
  kept outputs x = record (with_context t.ue r (with_one x)) { tunnels = without_each r.tunnels (flat_map closed_in outputs) }

  -- its counts are in range then
  abbrev pub Counts : Answer M P (CuUp M C) → Type 0
  Counts (gives outputs after) =
      (d : CuUpContext) (x : CuUpBearer) → context_of after t.ue ≡ Some d → find bearer_cmp d.bearers t.bearer ≡ Some x → CountsInRange x
  Counts (spent counter) = Unit {0}

  found_so : (outputs : List (Output M P)) (x : CuUpBearer) → CountsInRange x → (d : CuUpContext) (y : CuUpBearer) → context_of (kept outputs x) t.ue ≡ Some d
      → find bearer_cmp d.bearers t.bearer ≡ Some y → CountsInRange y
  found_so outputs x h d y there has =
      let those : Some (with_one x) ≡ Some d = sym (find-put-same ue_total r.contexts t.ue (with_one x)) ∙ there in
      let same : with_one x ≡ d = cc in
      let these : Some x ≡ Some y = sym (find-put-same bearer_total c.bearers t.bearer x) ∙ ap (λ (z : CuUpContext). find bearer_cmp z.bearers t.bearer) same ∙ has in
      let one : x ≡ y = cc in
      subst CountsInRange one h

  done : (outputs : List (Output M P)) (x : CuUpBearer) → CountsInRange x → Counts (gives outputs (kept outputs x) then end_where_over way t.ue)
  unfolding end_where_over
  done outputs x h =
      subst (λ (o : Option CuUpContext). Counts (with_outputs outputs (ended_if_over way t.ue (kept outputs x) o)))
      (sym (find-put-same ue_total r.contexts t.ue (with_one x)))
      (by c.flags.released (list_all (λ e. is_over c.flags e.1) (with_one x).bearers) (ap (λ f. f.released) serves))
    where
      by : (u v : Bool) → u ≡ false
          → Counts (with_outputs outputs (if u && v then ended way (kept outputs x) t.ue (with_one x) else nothing (kept outputs x)))
      by true v e = absurd cc
      by false v e = found_so outputs x h

  answered : (a : Answer M P CuUpBearer) → EndsInRange a → Counts (with_bearer way r t.ue c t.bearer a then end_where_over way t.ue)
  answered (gives outputs x) h = done outputs x h
  answered (spent counter) h = tt

  takes : (item : Taken P) → find nat_cmp r.tunnels teid ≡ Some t → context_of r t.ue ≡ Some c → find bearer_cmp c.bearers t.bearer ≡ Some b
      → EndsInRange (took way (cu_up_scope t.ue c t.bearer) t.kind teid item b) → Counts (cu_up_acts way r (packet_input teid item))
  unfolding cu_up_acts take
  takes item is_open there has row =
      subst (λ (o : Option CuUpTunnel). Counts (taken_on way r teid item o)) (sym is_open)
      (subst (λ (o : Option CuUpContext). Counts (taken_of way r t teid item o)) (sym there)
      (subst (λ (o : Option CuUpBearer). Counts (taken_in way r t teid item c o)) (sym has)
      (by (held_reason (cu_up_scope t.ue c t.bearer) b t.kind item))))
    where
      itself : (d : CuUpContext) (x : CuUpBearer) → context_of r t.ue ≡ Some d → find bearer_cmp d.bearers t.bearer ≡ Some x → CountsInRange x
      itself d x e f =
          let those : Some c ≡ Some d = sym there ∙ e in
          let same : c ≡ d = cc in
          let these : Some b ≡ Some x = sym has ∙ ap (λ (z : CuUpContext). find bearer_cmp z.bearers t.bearer) same ∙ f in
          let one : b ≡ x = cc in
          subst CountsInRange one counts

      by : (o : Option HeldReason) → Counts (taken_by way r t teid item c b o)
      by None = answered (took way (cu_up_scope t.ue c t.bearer) t.kind teid item b) row
      by (Some reason) = itself

  pub fresh_counts : (p : List ℕ) → find nat_cmp r.tunnels teid ≡ Some t → t.kind ≡ n3 → context_of r t.ue ≡ Some c
      → find bearer_cmp c.bearers t.bearer ≡ Some b → Counts (cu_up_acts way r (packet_input teid (fresh_item p)))
  unfolding took
  fresh_counts p is_open kind there has =
      takes (fresh_item p) is_open there has
      (subst (λ (k : TunnelKind). EndsInRange (took way (cu_up_scope t.ue c t.bearer) k teid (fresh_item p) b)) (sym kind)
      (fresh_in way (cu_up_scope t.ue c t.bearer) p b counts))

  pub status_counts : (delivered : Option ℕ) → find nat_cmp r.tunnels teid ≡ Some t → t.kind ≡ f1u_uplink → context_of r t.ue ≡ Some c
      → find bearer_cmp c.bearers t.bearer ≡ Some b → Counts (cu_up_acts way r (packet_input teid (status_item [] delivered)))
  unfolding took
  status_counts delivered is_open kind there has =
      takes (status_item [] delivered) is_open there has
      (subst (λ (k : TunnelKind). EndsInRange (took way (cu_up_scope t.ue c t.bearer) k teid (status_item [] delivered) b)) (sym kind)
      (status_in way (cu_up_scope t.ue c t.bearer) [] delivered b counts))

-- ---- packets in frames

one_less : (n k last : ℕ) → n + suc k ≤ last + 1 → n + 1 + k ≤ last + 1
one_less n k last h = omega (arith, h)

first_fits : (n k last : ℕ) → n + suc k ≤ last + 1 → n ≤ last
first_fits n k last h = omega (arith, h)

under : (n last : ℕ) → n ≤ last → n < last + 1
under n last h = omega (arith, h)

pub sends_fit : (Acks : Type 0) (sn : Lengths) (at : CuUpScope) (node : NodeId) (taken : Option ℕ) (ps : List (List ℕ)) (d : DownlinkTunnel) (count : ℕ) → AllByRecursion IsSized ps
    → d.next + length ps ≤ last_frame + 1 → count + length ps ≤ last_count + 1
    → PutsFit (ranges Acks) node taken (map (written_put sn) (sends plain_way at d count ps))
sends_fit Acks sn at node taken [] d count sized frames counts = tt
sends_fit Acks sn at node taken (p ∷ ps) d count sized frames counts = (
  (under d.next last_frame (first_fits d.next (length ps) last_frame frames), first_fits count (length ps) last_count counts, sized.0),
  sends_fit Acks sn at node taken ps (next_on d) (count + 1) sized.1 (one_less d.next (length ps) last_frame frames) (one_less count (length ps) last_count counts),
)
