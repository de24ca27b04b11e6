-- What the orders of a row ask of the unit is so where the row does them.
use Rattle.std.proofs.Common.{◌≡◌, ℕ, Bool, true, false, not, ◌||◌, if◌then◌else◌, List, [], ◌∷◌, ◌++◌, Option, Some, None, refl, sym, ap, subst, ◌∙◌, true≢false}
use Rattle.std.specs.Prelude.{is_some}
use Rattle.gnb_types.specs.declared.names.NodeId.{NodeId}
use Rattle.gnb_types.specs.declared.names.SnBits.{SnBits}
use Rattle.gnb_types.specs.declared.plans.SnStatus.{SnStatus}
use Rattle.gnb_types.specs.declared.reasons.HeldReason.{HeldReason}
use Rattle.gnb_types.specs.declared.reasons.HeldReason.TheVariants.{NoStatus, NotArrived, Early}
use Rattle.pdcp_defs.specs.Senders.{may_restore, confirmed_to, confirmed_by}
use Rattle.unit_defs.specs.Ways.{report_content, Taken, fresh_item, numbered_item, uplink_item, status_item, end_item}
use Rattle.unit_defs.specs.CuUpRecords.{CuUpBearer, CuUpFlags, DownlinkTunnel, SourceHop, TunnelKind, n3, f1u_uplink, forwarding_down, CuUpScope}
use Rattle.unit_defs.specs.CuUpBearers.{thawed}
use Rattle.unit_defs.specs.CuUpItems.{first_held, held_as_target, held_by_room, held_reason}
use Rattle.bearer_defs.specs.chain_defs.Models.{Item, numbered, fresh, end_marker, Member, Model, no_member}
use Rattle.bearer_defs.specs.chain_defs.Orders.{ModelStep, keeps_n3, keeps_fresh, passes_n3, passes_fresh, sends, passes_numbered, drops, switches, freezes, knows, resumes, closes, reports_loss, sends_again, waits, known, on_downlink, changed, after, run}
use Rattle.bearer_defs.specs.chain_defs.Assumptions.{IsTaken, IsReady, IsAssumed, AreKept}
use Rattle.law_downlink_order.proofs.chain.Frames.{set_here, set_far}
use Rattle.proof_cu_up_orders.specs.chain_rows.Shown.{number_orders}
use Rattle.proof_cu_up_orders.proofs.chain_rows.Numbering.{numbering_kept}
use Rattle.proof_cu_up_orders.specs.context_orders.Orders.{CuUpModel, ContextStep, on_switch, on_status, on_resume}
use Rattle.proof_cu_up_orders.specs.context_orders.Orders as ups
use Rattle.proof_cu_up_orders.specs.context_tests.Tests.{IsTested}
use Rattle.proof_cu_up_orders.specs.down_orders.Down.{without_end, down_of, IsDown, serves_none, numbers_if, fresh_orders, numbered_order, confirms_if, confirmed_if, losses, item_orders, switch_orders, status_orders, control_orders, Stands, IsFit, IsAsked}
use Rattle.proof_cu_up_orders.specs.kept.Down.{StandsFirst, ItemAssumes, ControlAssumes, Ended}

unfrozen_one : (f g h : Bool) → f || g || h ≡ false → f ≡ false
unfrozen_one false g h e = refl
unfrozen_one true g h e = absurd cc

-- what isn't held as that of a target has its SN status
tests_passed : (s a e : Bool) (room : List (Bool × HeldReason))
    → first_held (((not s, NoStatus) ∷ (not a, NotArrived) ∷ (e, Early) ∷ []) ++ room) ≡ None
    → (first_held ((not s, NoStatus) ∷ (not a, NotArrived) ∷ (e, Early) ∷ []) ≡ None) × (s ≡ true)
tests_passed true true false room h = (refl, refl)
tests_passed true true true room h = absurd cc
tests_passed true false e room h = absurd cc
tests_passed false a e room h = absurd cc

some_still : (o : Option SourceHop) → is_some (without_end o) ≡ is_some o
some_still None = refl
some_still (Some h) = refl

-- what waits is numbered, where the context has its SN status
numbers_kept : (x : ℕ) (at : CuUpScope) (t : Model) (n : Member) (c : CuUpBearer) → t.members x ≡ n → n.is_there ≡ true → n.flags ≡ at.flags
    → at.flags.may_serve ≡ true → down_of n.bearer ≡ down_of c → AreKept at.sn at.quota t (numbers_if x at c)
unfolding AreKept
numbers_kept x at t n c here there flags status same = by (serves_none at c) refl
  where
    by : (k : Bool) → serves_none at c ≡ k → AreKept at.sn at.quota t (if k then [] else number_orders at.sn at.quota x c.waiting c.sender)
    by true e = tt
    by false e =
        subst (λ (u : CuUpBearer). AreKept at.sn at.quota t (number_orders at.sn at.quota x u.waiting u.sender)) same
        (numbering_kept at.sn at.quota x n.bearer.waiting t n here there (ap (λ (f : CuUpFlags). f.may_serve) flags ∙ status)
        (ap (λ (f : CuUpFlags). f.frozen) flags ∙ unfrozen_one at.flags.frozen at.flags.released _ e) refl)

module _ (s : Model) (x : ℕ) (p : CuUpModel) (is : IsDown (s.members x) p) where
  abbrev m : Member
  m = s.members x

  abbrev b : CuUpBearer
  b = p.bearer

  abbrev Kept : Model → List ModelStep → Type 0
  Kept t os = AreKept p.at.sn p.at.quota t os

  frozen_is : (f : Bool) → p.at.flags.frozen ≡ f → m.flags.frozen ≡ f
  frozen_is f e = ap (λ (g : CuUpFlags). g.frozen) is.flags ∙ e

  -- ---- items

  module _ {P : Type 0} (kind : TunnelKind) (item : Taken P) (passes : held_reason p.at b kind item ≡ None) where
    unheld : (first_held (held_as_target p.at.flags kind b) ≡ None) × (p.at.flags.may_serve ≡ true)
    unfolding held_reason
    unheld = tests_passed p.at.flags.may_serve p.at.flags.arrived _ (held_by_room p.at b kind item) passes

    taken : (items : List Item) (one : Item) (rest : List Item) → items ≡ one ∷ rest → IsTaken kind items m one rest
    taken items one rest stands = record {
      there = is.there;
      stands = stands;
      passes = (λ i. first_held (held_as_target (is.flags i) kind (is.bearer i))) ∙ unheld.0;
    }

    -- the bearer has changed, and what waits is numbered
    then_numbers : (t : Model) (n : Member) (c : CuUpBearer) → t.members x ≡ n → n.is_there ≡ true → n.flags ≡ p.at.flags → down_of n.bearer ≡ down_of c
        → Kept t (numbers_if x p.at c)
    then_numbers t n c here there flags same = numbers_kept x p.at t n c here there flags unheld.1 same

    fresh_kept : (packet : List ℕ) (on keeps : ModelStep) (n : Member) → after s keeps ≡ changed s x (record n { bearer = waits m.bearer packet })
        → n.is_there ≡ true → n.flags ≡ p.at.flags
        → (p.at.flags.frozen ≡ true → IsReady p.at.sn p.at.quota s on × IsAssumed s on)
        → (p.at.flags.frozen ≡ false → IsReady p.at.sn p.at.quota s keeps × IsAssumed s keeps)
        → Kept s (fresh_orders x p.at b packet on keeps)
    unfolding AreKept
    fresh_kept packet on keeps n is_so there flags goes waits_here = by p.at.flags.frozen refl
      where
        by : (f : Bool) → p.at.flags.frozen ≡ f → Kept s (if f then on ∷ [] else keeps ∷ numbers_if x p.at (waits b packet))
        by true f = let h = goes f in (h.0, h.1, tt)
        by false f =
            let h = waits_here f in
            let k : Member = record n { bearer = waits m.bearer packet } in (
              h.0,
              h.1,
              then_numbers (after s keeps) k (waits b packet) (ap (λ (t : Model). t.members x) is_so ∙ set_here s.members x k) there flags
                  (ap (λ (u : CuUpBearer). waits u packet) is.bearer),
            )

    numbered_kept : Stands p → (count : ℕ) (packet : List ℕ) (rest : List Item) → IsTaken forwarding_down m.forwarded m (numbered count packet) rest
        → Kept s (numbered_order x p.at b count packet rest ∷ [])
    unfolding AreKept IsReady IsAssumed
    numbered_kept stands count packet rest one = by p.at.flags.released refl (may_restore p.at.sn p.at.quota b.sender count) refl p.at.flags.frozen refl
      where
        room_is : (k : Bool) → may_restore p.at.sn p.at.quota b.sender count ≡ k → may_restore p.at.sn p.at.quota m.bearer.sender count ≡ k
        room_is k e = ap (λ (u : CuUpBearer). may_restore p.at.sn p.at.quota u.sender count) is.bearer ∙ e

        by : (r : Bool) → p.at.flags.released ≡ r → (k : Bool) → may_restore p.at.sn p.at.quota b.sender count ≡ k → (f : Bool) → p.at.flags.frozen ≡ f
            → Kept s ((if r || k then (if f then passes_numbered x count packet rest else sends x count packet rest) else drops x count packet rest) ∷ [])
        by true r k room true f = ((one, frozen_is true f), tt, tt)
        by true r k room false f = absurd (true≢false (sym r ∙ stands.passes f))
        by false r true room true f = ((one, frozen_is true f), tt, tt)
        by false r true room false f = ((one, frozen_is false f, room_is true room), tt, tt)
        by false r false room f is_f = ((one, ap (λ (g : CuUpFlags). g.released) is.flags ∙ r, room_is false room), tt, tt)

    -- ---- losses: all is sent again, unless the context is frozen

    lost_kept : (t : Model) (n : Member) (c : CuUpBearer) → t.members x ≡ n → n.is_there ≡ true → n.flags ≡ p.at.flags → down_of n.bearer ≡ down_of c
        → (lost : List (ℕ × ℕ)) → Kept t (losses x p.at.flags.frozen lost ++ numbers_if x p.at c)
    unfolding AreKept IsReady IsAssumed after
    lost_kept t n c here there flags same [] = then_numbers t n c here there flags same
    lost_kept t n c here there flags same (range ∷ ranges) = by p.at.flags.frozen refl
      where
        k : Member
        k = record (t.members x) { bearer = record (t.members x).bearer { loss_while_frozen = (t.members x).flags.frozen || (t.members x).bearer.loss_while_frozen } }

        told : CuUpBearer
        told = record c { loss_while_frozen = p.at.flags.frozen || c.loss_while_frozen }

        there_then : (t.members x).is_there ≡ true
        there_then = ap (λ (q : Member). q.is_there) here ∙ there

        flags_then : (t.members x).flags ≡ p.at.flags
        flags_then = ap (λ (q : Member). q.flags) here ∙ flags

        same_then : down_of k.bearer ≡ down_of told
        same_then =
            ap (λ (q : Member). down_of (record q.bearer { loss_while_frozen = q.flags.frozen || q.bearer.loss_while_frozen })) here
            ∙ (λ i. record (same i) { loss_while_frozen = (flags i).frozen || (same i).loss_while_frozen })

        k_here : (changed t x k).members x ≡ k
        k_here = set_here t.members x k

        by : (f : Bool) → p.at.flags.frozen ≡ f → Kept t ((reports_loss x ∷ (if f then [] else sends_again x ∷ [])) ++ numbers_if x p.at c)
        by true f = (there_then, tt, then_numbers (after t (reports_loss x)) k told k_here there_then flags_then same_then)
        by false f = (
          there_then,
          tt,
          (
            (ap (λ (q : Member). q.is_there) k_here ∙ there_then, ap (λ (q : Member). q.flags.frozen) k_here ∙ ap (λ (g : CuUpFlags). g.frozen) flags_then ∙ f),
            tt,
            then_numbers (after (after t (reports_loss x)) (sends_again x)) k told k_here there_then flags_then same_then,
          ),
        )

    status_kept : (lost : List (ℕ × ℕ)) (delivered : Option ℕ) → ItemAssumes {P = P} s x f1u_uplink (status_item lost delivered)
        → Kept s (confirms_if x delivered ++ losses x p.at.flags.frozen lost ++ numbers_if x p.at (confirmed_if delivered b))
    unfolding AreKept IsReady after
    status_kept lost None assumed = lost_kept s m b refl is.there is.flags is.bearer lost
    status_kept lost (Some count) assumed =
        let k : Member = record m { bearer = record m.bearer { sender = confirmed_to m.bearer.sender count } } in (
          is.there,
          assumed,
          lost_kept (changed s x k) k (record b { sender = confirmed_to b.sender count }) (set_here s.members x k) is.there is.flags
              (ap (λ (u : CuUpBearer). record u { sender = confirmed_to u.sender count }) is.bearer) lost,
        )

  pub item_kept : {P : Type 0} → Stands p → (kind : TunnelKind) (item : Taken P) (rest : List Item) → IsFit p kind item
      → held_reason p.at b kind item ≡ None → StandsFirst m rest kind item → ItemAssumes s x kind item → Kept s (item_orders x p rest kind item)
  unfolding AreKept IsReady IsAssumed after
  item_kept stands n3 (fresh_item packet) rest fit passes (open_, first) assumed =
      let one = taken n3 (fresh_item packet) passes m.n3 (fresh packet) rest first in
      fresh_kept n3 (fresh_item packet) passes packet (passes_n3 x packet rest) (keeps_n3 x packet rest) (record m { n3 = rest }) refl is.there is.flags
      (λ f. (((open_, one), frozen_is true f), tt)) (λ f. (((open_, one), frozen_is false f), tt))
  item_kept stands n3 end_item rest fit passes (open_, first) assumed =
      let hop = stands.hop fit.0 in (
        (
          (open_, taken n3 end_item passes m.n3 end_marker rest first),
          sym (some_still m.bearer.hop) ∙ ap (λ (u : CuUpBearer). is_some u.hop) is.bearer ∙ some_still b.hop ∙ ap (λ (o : Option SourceHop). is_some o) hop.1,
        ),
        tt,
        tt,
      )
  item_kept stands forwarding_down (fresh_item packet) rest fit passes first assumed =
      let one = taken forwarding_down (fresh_item packet) passes m.forwarded (fresh packet) rest first in
      fresh_kept forwarding_down (fresh_item packet) passes packet (passes_fresh x packet rest) (keeps_fresh x packet rest) (record m { forwarded = rest }) refl
      is.there is.flags (λ f. ((one, frozen_is true f), tt)) (λ f. ((one, frozen_is false f), tt))
  item_kept stands forwarding_down (numbered_item (Some count) packet) rest fit passes first assumed =
      numbered_kept forwarding_down (numbered_item (Some count) packet) passes stands count packet rest
      (taken forwarding_down (numbered_item (Some count) packet) passes m.forwarded (numbered count packet) rest first)
  item_kept stands forwarding_down end_item rest fit passes first assumed =
      (taken forwarding_down end_item passes m.forwarded end_marker rest first, tt, tt)
  item_kept stands f1u_uplink (uplink_item (report_content fmc bits)) rest fit passes first assumed =
      let k : Member = record m { bearer = record m.bearer { sender = confirmed_by m.bearer.sender fmc bits } } in (
        is.there,
        assumed,
        then_numbers f1u_uplink (uplink_item (report_content fmc bits)) passes (changed s x k) k (record b { sender = confirmed_by b.sender fmc bits })
            (set_here s.members x k) is.there is.flags (ap (λ (u : CuUpBearer). record u { sender = confirmed_by u.sender fmc bits }) is.bearer),
      )
  item_kept stands f1u_uplink (status_item lost delivered) rest fit passes first assumed =
      status_kept f1u_uplink (status_item lost delivered) passes lost delivered assumed
  item_kept stands kind item rest fit passes first assumed = absurd fit

  -- ---- control

  switch_kept : (epoch : ℕ) (du : NodeId) (teid : ℕ) → IsAssumed s (switches x (record { du = du; teid = teid; next = 0 }) epoch)
      → Kept s (switch_orders x epoch du teid p)
  unfolding AreKept IsReady after
  switch_kept epoch du teid assumed = (is.there, assumed, by p.at.flags.may_serve refl)
    where
      downlink : DownlinkTunnel
      downlink = record { du = du; teid = teid; next = 0 }

      n : Member
      n = record m { flags = record m.flags { frozen = false; arrived = true }; bearer = on_downlink m.bearer downlink; epoch = epoch }

      by : (t : Bool) → p.at.flags.may_serve ≡ t
          → Kept (after s (switches x downlink epoch)) (if t then numbers_if x (on_switch p).at (on_downlink b downlink) else [])
      by true e =
          numbers_kept x (on_switch p).at (after s (switches x downlink epoch)) n (on_downlink b downlink) (set_here s.members x n) is.there
          (ap (λ (f : CuUpFlags). record f { frozen = false; arrived = true }) is.flags) e
          (ap (λ (u : CuUpBearer). record u { hop = None; loss_while_frozen = false; taken_while_frozen = []; downlink = Some (record downlink { next = 0 }) }) is.bearer)
      by false e = tt

  sn_status_kept : (status : SnStatus) → p.at.flags.may_serve ≡ false → (p.at.flags.arrived ≡ true → p.at.flags.frozen ≡ false) → IsAssumed s (knows x status)
      → Kept s (status_orders x status p)
  unfolding AreKept IsReady IsAssumed after
  sn_status_kept status none asked assumed = ((is.there, ap (λ (f : CuUpFlags). f.may_serve) is.flags ∙ none), assumed, by p.at.flags.arrived refl)
    where
      n : Member
      n = record m { flags = record m.flags { may_serve = true }; bearer = known m.bearer status }

      t : Model
      t = changed s x n

      here : t.members x ≡ n
      here = set_here s.members x n

      by : (a : Bool) → p.at.flags.arrived ≡ a → Kept t (if a then sends_again x ∷ numbers_if x (on_status p).at (known b status) else [])
      by true e = (
        (ap (λ (q : Member). q.is_there) here ∙ is.there, ap (λ (q : Member). q.flags.frozen) here ∙ frozen_is false (asked e)),
        tt,
        numbers_kept x (on_status p).at (after t (sends_again x)) n (known b status) here is.there
            (ap (λ (f : CuUpFlags). record f { may_serve = true }) is.flags) refl
            (ap (λ (u : CuUpBearer). record u { dl_next = status.dl_next; sender = record u.sender { next = status.dl_next } }) is.bearer),
      )
      by false e = tt

  resume_kept : p.at.flags.frozen ≡ true → p.at.flags.may_serve ≡ true → IsAssumed s (resumes x)
      → Kept s (resumes x ∷ numbers_if x (on_resume p).at (thawed b))
  unfolding AreKept IsReady after
  resume_kept f status assumed =
      let n : Member = record m { flags = record m.flags { frozen = false }; bearer = thawed m.bearer } in (
        (is.there, frozen_is true f),
        assumed,
        numbers_kept x (on_resume p).at (after s (resumes x)) n (thawed b) (set_here s.members x n) is.there
            (ap (λ (g : CuUpFlags). record g { frozen = false }) is.flags) status (ap (λ (u : CuUpBearer). thawed u) is.bearer),
      )

  pub control_kept : {P : Type 0} → (p.at.flags.frozen ≡ true → p.at.flags.may_serve ≡ true) → (epoch : ℕ) (final : Bool) (order : ContextStep P)
      → IsTested final p order → IsAsked p order → ControlAssumes s x epoch order → Kept s (control_orders x epoch p order)
  unfolding AreKept IsReady
  control_kept known epoch final (ups.switches du teid) tested asked assumed = switch_kept epoch du teid assumed
  control_kept known epoch final (ups.knows status) tested asked assumed = sn_status_kept status tested (λ e. (asked e).0) assumed
  control_kept known epoch final ups.resumes tested asked assumed = resume_kept tested.0 (known tested.0) assumed
  control_kept known epoch final ups.releases tested asked assumed = (is.there, assumed, tt)
  control_kept known epoch final order tested asked assumed = tt

  pub freeze_kept : p.at.flags.frozen ≡ false → p.at.flags.may_serve ≡ true → (to : ℕ) (hop : SourceHop) → IsAssumed s (freezes x to hop)
      → Kept s (freezes x to hop ∷ [])
  unfolding AreKept IsReady
  freeze_kept f status to hop assumed = ((is.there, ap (λ (g : CuUpFlags). g.may_serve) is.flags ∙ status, frozen_is false f), assumed, tt)

-- ---- a context ends

pub end_is : (s : Model) (x : ℕ) → Ended s (run s (closes x ∷ [])) x
unfolding run after
end_is s x = record {
  here = set_here s.members x no_member;
  others = λ y far. set_far s.members x no_member y far;
  rest = (refl, refl, refl, refl, refl, refl, refl);
}

pub end_kept : (sn : SnBits) (quota : ℕ) (s : Model) (x : ℕ) → IsAssumed s (closes x) → AreKept sn quota s (closes x ∷ [])
unfolding AreKept IsReady
end_kept sn quota s x assumed = (tt, assumed, tt)
