-- Which bearer is switched to the tunnel is settled by where its TEID is: no new request can switch another one there.
use Rattle.std.proofs.Common.{◌≡◌, ◌==◌, ℕ, Bool, true, false, cond, ◌⊎◌, inl, inr, List, [], ◌∷◌, Some, None, refl, sym, ap, ◌∙◌, subst, eq-eqb, eqb-true}
use Rattle.std.proofs.lemmas.Bool.{and_parts}
use Rattle.std.specs.List.{AllByRecursion}
use Rattle.std.specs.Ordering.{eq_by_cmp, is_eq}
use Rattle.std.specs.Cmp.{tied_itself, Equal-is}
use Rattle.gnb_types.specs.declared.names.Gnb.{Gnb}
use Rattle.gnb_types.specs.declared.names.Gnb.TheVariants.{A, B}
use Rattle.gnb_types.specs.declared.names.NodeId.{NodeId}
use Rattle.gnb_types.specs.declared.names.NodeId.TheVariants.{CuCp, CuUp as up_id, Du as du_id, Core, Ue}
use Rattle.gnb_types.specs.declared.names.UeId.{UeId}
use Rattle.gnb_types.specs.declared.names.BearerId.{BearerId}
use Rattle.gnb_types.specs.declared.keys.Channel.{Channel}
use Rattle.gnb_types.specs.declared.keys.TunnelEnd.{TunnelEnd}
use Rattle.gnb_types.specs.declared.plans.Tunnel.{Tunnel}
use Rattle.gnb_types.specs.Orders.{node_cmp}
use Rattle.gnb_types.proofs.OrderLemmas.{node_total, node_exact}
use Rattle.tables.proofs.TableLaws.{at-put}
use Rattle.message_types.specs.declared.rrc.Token.{Token}
use Rattle.message_types.specs.declared.e1.E1Message.TheVariants as e1s
use Rattle.unit_defs.specs.Ways.{Message, e1, Pdu, control_input}
use Rattle.unit_defs.specs.Messages.{mode_switch, channel}
use Rattle.unit_defs.specs.Transactions.{request, kind_of}
use Rattle.unit_defs.specs.CuUpRecords.{CuUp}
use Rattle.unit_defs.specs.CuUp.{new_cu_up, is_own_cu_cp}
use Rattle.run_defs.specs.Units.{cu_up_of, with_cu_up}
use Rattle.run_defs.specs.Runs.{plain_way}
use Rattle.proof_unit_steps.specs.tunnel_frames.OneTunnel.{is_tunnel, IsGiven, SwitchesFirst}
use Rattle.law_requests_act_once.specs.taken_requests.Taken.{WasTaken}
use Rattle.law_requests_act_once.proofs.taken_requests.CuUps.{not_new}
use Rattle.proof_unit_steps.specs.downlink_names.Places.{DownlinkTeid, away, asked, placed, Story, Gives, SwitchIs, GoesTo}
use Rattle.proof_unit_steps.proofs.downlink_names.Begins.{all_as}
use Rattle.law_frames_are_numbered.proofs.number_facts.Units.{Records, clash, Phase, owns, seen_at, Ups, free_ups}

-- ---- what the CU-UPs took they keep

abbrev pub Keeps : Records → Records → Type 0
Keeps u v =
    (gnb : Gnb) (number : ℕ) (c : Channel) (i : ℕ) → WasTaken (cu_up_of u gnb number).transactions c i → WasTaken (cu_up_of v gnb number).transactions c i

pub keeps_then : (u v w : Records) → Keeps u v → Keeps v w → Keeps u w
keeps_then u v w p q gnb number c i was = q gnb number c i (p gnb number c i was)

pub up_here : (u : Records) (gnb : Gnb) (number : ℕ) (r : CuUp (Message Token) Token) → cu_up_of (with_cu_up u gnb number r) gnb number ≡ r
up_here u gnb number r =
    at-put node_total (new_cu_up gnb number) u.ups (up_id gnb number) r (up_id gnb number)
    ∙ ap (λ (b : Bool). cond b r (cu_up_of u gnb number)) (ap is_eq (tied_itself node_total (up_id gnb number)))

pub keeps_up : (u : Records) (gnb : Gnb) (number : ℕ) (r : CuUp (Message Token) Token)
    → ((c : Channel) (i : ℕ) → WasTaken (cu_up_of u gnb number).transactions c i → WasTaken r.transactions c i) → Keeps u (with_cu_up u gnb number r)
keeps_up u gnb number r more g n c i was =
    subst (λ (x : CuUp (Message Token) Token). WasTaken x.transactions c i) (sym (at-put node_total (new_cu_up g n) u.ups (up_id gnb number) r (up_id g n)))
    (by (eq_by_cmp node_cmp (up_id g n) (up_id gnb number)) refl)
  where
    by : (t : Bool) → eq_by_cmp node_cmp (up_id g n) (up_id gnb number) ≡ t → WasTaken (cond t r (cu_up_of u g n)).transactions c i
    by true tie =
        let same : up_id g n ≡ up_id gnb number = node_exact (up_id g n) (up_id gnb number) ((Equal-is (node_cmp (up_id g n) (up_id gnb number))).0 tie) in
        let gnbs : g ≡ gnb = cc in
        let numbers : n ≡ number = cc in
        more c i (subst (λ (p : Gnb × ℕ). WasTaken (cu_up_of u p.0 p.1).transactions c i) (λ j. (gnbs j, numbers j)) was)
    by false off = was

-- ---- the bearer that was switched there: it was placed there, or in a request that its CU-UP took

abbrev pub LinkedAt : Story → NodeId → UeId × BearerId → Records → Type 0
LinkedAt s (up_id gnb number) o u =
    (s.place ≡ placed)
    ⊎ ((i : ℕ) × (s.place ≡ asked (channel o.0.0 (up_id gnb number)) i o.1) × WasTaken (cu_up_of u gnb number).transactions (channel o.0.0 (CuCp gnb)) i)
LinkedAt s node o u = ⊥

abbrev pub Linked : Story → Phase → Records → Type 0
Linked s None u = Unit {0}
Linked s (Some o) u = LinkedAt s o.0 o.1 u

at_kept : (s : Story) (node : NodeId) (o : UeId × BearerId) (u v : Records) → Keeps u v → LinkedAt s node o u → LinkedAt s node o v
at_kept s (up_id gnb number) o u v keep (inl is) = inl is
at_kept s (up_id gnb number) o u v keep (inr h) = inr (h.0, h.1, keep gnb number (channel o.0.0 (CuCp gnb)) h.0 h.2)
at_kept s node o u v keep h = absurd h

pub linked_kept : (s : Story) (q : Phase) (u v : Records) → Keeps u v → Linked s q u → Linked s q v
linked_kept s None u v keep h = tt
linked_kept s (Some o) u v keep h = at_kept s o.0 o.1 u v keep h

at_goes : (s p : Story) (node : NodeId) (o : UeId × BearerId) (u : Records) → GoesTo s p → LinkedAt s node o u → LinkedAt p node o u
at_goes s p (up_id gnb number) o u goes (inl is) = inl (goes.placed_stays is)
at_goes s p (up_id gnb number) o u goes (inr h) = inr (h.0, goes.asked_stays (channel o.0.0 (up_id gnb number)) h.0 o.1 h.1, h.2)
at_goes s p node o u goes h = absurd h

pub linked_goes : (s p : Story) (q : Phase) (u : Records) → GoesTo s p → Linked s q u → Linked p q u
linked_goes s p None u goes h = tt
linked_goes s p (Some o) u goes h = at_goes s p o.0 o.1 u goes h

at_away : (s : Story) (node : NodeId) (o : UeId × BearerId) (u : Records) → s.place ≡ away → LinkedAt s node o u → ⊥
at_away s (up_id gnb number) o u off (inl is) = let e : away ≡ placed = sym off ∙ is in absurd cc
at_away s (up_id gnb number) o u off (inr h) =
    let e : away ≡ asked (channel o.0.0 (up_id gnb number)) h.0 o.1 = sym off ∙ h.1 in absurd cc
at_away s node o u off h = h

-- where the TEID is nowhere yet, no bearer was
pub linked_away : (s : Story) (q : Phase) (u : Records) → s.place ≡ away → Linked s q u → q ≡ None
linked_away s None u off h = refl
linked_away s (Some o) u off h = absurd (at_away s o.0 o.1 u off h)

-- a request for what was switched there was taken
was_taken : (s : Story) (node : NodeId) (o : UeId × BearerId) (u : Records) (g : Gnb) (n : ℕ) (ue : UeId) (i : ℕ) (b : BearerId) → LinkedAt s node o u
    → s.place ≡ asked (channel ue.0 (up_id g n)) i b → WasTaken (cu_up_of u g n).transactions (channel ue.0 (CuCp g)) i
was_taken s (up_id h m) o u g n ue i b (inl is) at =
    let e : placed ≡ asked (channel ue.0 (up_id g n)) i b = sym is ∙ at in absurd cc
was_taken s (up_id h m) o u g n ue i b (inr k) at =
    let e : asked (channel o.0.0 (up_id h m)) k.0 o.1 ≡ asked (channel ue.0 (up_id g n)) i b = sym k.1 ∙ at in
    let channels : channel o.0.0 (up_id h m) ≡ channel ue.0 (up_id g n) = cc in
    let instances : k.0 ≡ i = cc in
    let ues : o.0.0 ≡ ue.0 = ap (λ (c : Channel). c.ue) channels in
    let nodes : up_id h m ≡ up_id g n = ap (λ (c : Channel). c.peer) channels in
    let gnbs : h ≡ g = cc in
    let numbers : m ≡ n = cc in
    subst (λ (p : (Gnb × ℕ) × (ℕ × ℕ)). WasTaken (cu_up_of u p.0.0 p.0.1).transactions (channel p.1.0 (CuCp p.0.0)) p.1.1)
    (λ j. ((gnbs j, numbers j), (ues j, instances j))) k.2
was_taken s node o u g n ue i b h at = absurd h

-- ---- the own CU-CP, or another node

pub own_is : (g : Gnb) → is_own_cu_cp plain_way g (CuCp g) ≡ true
own_is A = refl
own_is B = refl

pub own_or_not : (g : Gnb) (from : NodeId) → (from ≡ CuCp g) ⊎ (is_own_cu_cp plain_way g from ≡ false)
own_or_not A (CuCp A) = inl refl
own_or_not B (CuCp B) = inl refl
own_or_not A (CuCp B) = inr refl
own_or_not B (CuCp A) = inr refl
own_or_not g (up_id h n) = inr refl
own_or_not g (du_id h n) = inr refl
own_or_not g (Ue ue) = inr refl
own_or_not g Core = inr refl

-- ---- the tunnel's end is a TEID of a DU; of any other node none is named

abbrev pub IsEnd : TunnelEnd → DownlinkTeid → Type 0
IsEnd end t = (gnb : Gnb) (du teid : ℕ) → is_tunnel end (du_id gnb du) teid ≡ true → (gnb ≡ t.gnb) × (du ≡ t.du) × (teid ≡ t.teid)

pub end_of : (end : TunnelEnd) → (t : DownlinkTeid) × IsEnd end t
end_of end = by end.node refl
  where
    parts : (gnb : Gnb) (du teid : ℕ) → is_tunnel end (du_id gnb du) teid ≡ true → (du_id gnb du ≡ end.node) × (teid ≡ end.teid)
    parts gnb du teid is =
        let both = and_parts (eq_by_cmp node_cmp (du_id gnb du) end.node) (teid == end.teid) is in
        (node_exact (du_id gnb du) end.node ((Equal-is (node_cmp (du_id gnb du) end.node)).0 both.0), eqb-true teid end.teid both.1)

    none : ((gnb : Gnb) (du : ℕ) → du_id gnb du ≡ end.node → ⊥) → (t : DownlinkTeid) × IsEnd end t
    none off = (record { gnb = A; du = 0; teid = 0 }, λ gnb du teid is. absurd (off gnb du (parts gnb du teid is).0))

    by : (node : NodeId) → end.node ≡ node → (t : DownlinkTeid) × IsEnd end t
    by (du_id g d) at = (
      record { gnb = g; du = d; teid = end.teid },
      λ gnb du teid is.
          let two = parts gnb du teid is in
          let same : du_id gnb du ≡ du_id g d = two.0 ∙ at in
          let gnbs : gnb ≡ g = cc in
          let dus : du ≡ d = cc in (gnbs, dus, two.1),
    )
    by (CuCp g) at = none (λ gnb du is. let e : du_id gnb du ≡ CuCp g = is ∙ at in absurd cc)
    by (up_id g n) at = none (λ gnb du is. let e : du_id gnb du ≡ up_id g n = is ∙ at in absurd cc)
    by (Ue ue) at = none (λ gnb du is. let e : du_id gnb du ≡ Ue ue = is ∙ at in absurd cc)
    by Core at = none (λ gnb du is. let e : du_id gnb du ≡ Core = is ∙ at in absurd cc)

pulled : {A X : Type 0} (Q : X → Type 0) (xs : List X) → (A → AllByRecursion Q xs) → AllByRecursion (λ (x : X). A → Q x) xs
pulled Q [] all = tt
pulled Q (x ∷ xs) all = (λ a. (all a).0, pulled Q xs (λ a. (all a).1))

module _ (end : TunnelEnd) where
  -- a message of the own CU-CP switches the first bearer there, or none
  abbrev pub Switch : Phase → ℕ → Records → Gnb → ℕ → NodeId → Message Token → Type 0
  Switch q k u g n from m = from ≡ CuCp g → SwitchesFirst {P = Pdu} (seen_at end q g n) k (cu_up_of u g n) (control_input from m)

  abbrev pub TakenAt : Records → Gnb → ℕ → NodeId → Message Token → Type 0
  TakenAt v g n from m = from ≡ CuCp g → (ue i : ℕ) → kind_of m ≡ request ue i → WasTaken (cu_up_of v g n).transactions (channel ue from) i

  abbrev pub Chosen : Story → ℕ → Records → Gnb → ℕ → NodeId → Message Token → Type 0
  Chosen s k u g n from m =
      (r : Phase) × Ups end r k u × Switch r k u g n from m × ((v : Records) → Keeps u v → TakenAt v g n from m → Linked s r v)

  one_of : (Q : BearerId → Type 0) (g : Gnb) (du : ℕ) (list : List Tunnel)
      → AllByRecursion (λ (x : Tunnel). is_tunnel end (du_id g du) x.teid ≡ true → Q x.bearer) list
      → ((b : BearerId) × Q b) ⊎ AllByRecursion (λ (x : Tunnel). is_tunnel end (du_id g du) x.teid ≡ true → ⊥) list
  one_of Q g du [] all = inr tt
  one_of Q g du (x ∷ xs) all = by (is_tunnel end (du_id g du) x.teid) refl (one_of Q g du xs all.1)
    where
      by : (t : Bool) → is_tunnel end (du_id g du) x.teid ≡ t
          → ((b : BearerId) × Q b) ⊎ AllByRecursion (λ (y : Tunnel). is_tunnel end (du_id g du) y.teid ≡ true → ⊥) xs
          → ((b : BearerId) × Q b) ⊎ AllByRecursion (λ (y : Tunnel). is_tunnel end (du_id g du) y.teid ≡ true → ⊥) (x ∷ xs)
      by true is rest = inl (x.bearer, all.0 is)
      by false off (inl b) = inl b
      by false off (inr none) = inr (λ is. clash (sym is ∙ off), none)

  module _ (t : DownlinkTeid) (same : IsEnd end t) where
    asked_each : (s : Story) (g : Gnb) (n : ℕ) (from : NodeId) (ue : UeId) (i du : ℕ) (list : List Tunnel) → from ≡ CuCp g
        → (from ≡ CuCp t.gnb → du ≡ t.du → Gives t.teid s.place (asked (channel ue.0 (up_id g n)) i) list)
        → AllByRecursion (λ (x : Tunnel). is_tunnel end (du_id g du) x.teid ≡ true → s.place ≡ asked (channel ue.0 (up_id g n)) i x.bearer) list
    asked_each s g n from ue i du list own h =
        all_as (λ (x : Tunnel). (g ≡ t.gnb) × (du ≡ t.du) → x.teid ≡ t.teid → s.place ≡ asked (channel ue.0 (up_id g n)) i x.bearer)
        (λ (x : Tunnel). is_tunnel end (du_id g du) x.teid ≡ true → s.place ≡ asked (channel ue.0 (up_id g n)) i x.bearer) list
        (λ x p is. let a = same g du x.teid is in p (a.0, a.1) a.2)
        (pulled {A = (g ≡ t.gnb) × (du ≡ t.du)} (λ (x : Tunnel). x.teid ≡ t.teid → s.place ≡ asked (channel ue.0 (up_id g n)) i x.bearer) list
        (λ e. h (own ∙ ap (λ (x : Gnb). CuCp x) e.0) e.1))

    -- where a bearer was switched there before, no request that does so is new
    later_switch : (s : Story) (o : NodeId × (UeId × BearerId)) (k : ℕ) (u : Records) (g : Gnb) (n : ℕ) (from : NodeId) (m : Message Token)
        → (cu_up_of u g n).gnb ≡ g → Linked s (Some o) u → (from ≡ CuCp t.gnb → SwitchIs t s.place (up_id g n) m) → Switch (Some o) k u g n from m
    later_switch s o k u g n from (e1 (e1s.BearerContextModificationRequest ue i (Some list) mode peer down up ss (Some du))) gnbs linked once =
        λ own switches fresh.
        subst (λ (h : Gnb). AllByRecursion (IsGiven (seen_at end (Some o) g n) k h ue du) list) (sym gnbs)
        (all_as (λ (x : Tunnel). is_tunnel end (du_id g du) x.teid ≡ true → s.place ≡ asked (channel ue.0 (up_id g n)) i x.bearer)
        (IsGiven (seen_at end (Some o) g n) k g ue du) list
        (λ x p is. absurd (not_new (cu_up_of u g n).transactions.callee (channel ue.0 from) i
        (subst (λ (node : NodeId). WasTaken (cu_up_of u g n).transactions (channel ue.0 node) i) (sym own)
        (was_taken s o.0 o.1 u g n ue i x.bearer linked (p is))) fresh))
        (asked_each s g n from ue i du list own (λ e d. once e switches d)))
    later_switch s o k u g n from m gnbs linked once = λ own. tt

    -- where none was, the request's bearer is the first one
    first_choice : (s : Story) (k : ℕ) (u : Records) (g : Gnb) (n : ℕ) (from : NodeId) (m : Message Token) → Ups end None k u
        → (from ≡ CuCp t.gnb → SwitchIs t s.place (up_id g n) m) → Chosen s k u g n from m
    unfolding kind_of
    first_choice s k u g n from (e1 (e1s.BearerContextModificationRequest ue i (Some list) mode peer down up ss (Some du))) ups once =
        by (own_or_not g from) (mode == mode_switch) refl
      where
        Choice : Type 0
        Choice = Chosen s k u g n from (e1 (e1s.BearerContextModificationRequest ue i (Some list) mode peer down up ss (Some du)))

        is_asked : BearerId → Type 0
        is_asked b = s.place ≡ asked (channel ue.0 (up_id g n)) i b

        given : (r : Phase) → AllByRecursion (IsGiven (seen_at end r g n) k g ue du) list → AllByRecursion (IsGiven (seen_at end r g n) k (cu_up_of u g n).gnb ue du) list
        given r all = subst (λ (h : Gnb). AllByRecursion (IsGiven (seen_at end r g n) k h ue du) list) (sym (ups.1 g n).0) all

        first : (b : BearerId) → is_asked b
            → AllByRecursion (λ (x : Tunnel). is_tunnel end (du_id g du) x.teid ≡ true → is_asked x.bearer) list
            → AllByRecursion (IsGiven (seen_at end (Some (up_id g n, (ue, b))) g n) k g ue du) list
        first b at all =
            all_as (λ (x : Tunnel). is_tunnel end (du_id g du) x.teid ≡ true → is_asked x.bearer)
            (IsGiven (seen_at end (Some (up_id g n, (ue, b))) g n) k g ue du) list
            (λ x p is.
            let both : asked (channel ue.0 (up_id g n)) i b ≡ asked (channel ue.0 (up_id g n)) i x.bearer = sym at ∙ p is in
            let bearers : b ≡ x.bearer = cc in
            (owns end g n (ue, b) ∙ ap (λ (c : BearerId). Some (ue, c)) bearers, ups.0)) all

        chosen : from ≡ CuCp g → AllByRecursion (λ (x : Tunnel). is_tunnel end (du_id g du) x.teid ≡ true → is_asked x.bearer) list
            → ((b : BearerId) × is_asked b) ⊎ AllByRecursion (λ (x : Tunnel). is_tunnel end (du_id g du) x.teid ≡ true → ⊥) list → Choice
        chosen own all (inl b) = (
          Some (up_id g n, (ue, b.0)),
          free_ups end k u (up_id g n, (ue, b.0)) ups,
          λ same_cp switches fresh. given (Some (up_id g n, (ue, b.0))) (first b.0 b.1 all),
          λ v keep taken. inr (i, b.1, subst (λ (node : NodeId). WasTaken (cu_up_of v g n).transactions (channel ue.0 node) i) own (taken own ue.0 i refl)),
        )
        chosen own all (inr none) = (
          None,
          ups,
          λ same_cp switches fresh.
              given None
              (all_as (λ (x : Tunnel). is_tunnel end (du_id g du) x.teid ≡ true → ⊥) (IsGiven (seen_at end None g n) k g ue du) list (λ x off is. absurd (off is)) none),
          λ v keep taken. tt,
        )

        by : (from ≡ CuCp g) ⊎ (is_own_cu_cp plain_way g from ≡ false) → (b : Bool) → mode == mode_switch ≡ b → Choice
        by (inr off) b is = (
          None,
          ups,
          λ own. absurd (clash (sym (own_is g) ∙ ap (λ (x : NodeId). is_own_cu_cp plain_way g x) (sym own) ∙ off)),
          λ v keep taken. tt,
        )
        by (inl own) false is = (None, ups, λ same_cp switches fresh. absurd (clash (sym (eq-eqb mode mode_switch switches) ∙ is)), λ v keep taken. tt)
        by (inl own) true is =
            let all = asked_each s g n from ue i du list own (λ e d. once e (eqb-true mode mode_switch is) d) in
            chosen own all (one_of is_asked g du list all)
    first_choice s k u g n from m ups once = (None, ups, λ own. tt, λ v keep taken. tt)

    pub choose : (s : Story) (q : Phase) (k : ℕ) (u : Records) (g : Gnb) (n : ℕ) (from : NodeId) (m : Message Token) → Ups end q k u → Linked s q u
        → (from ≡ CuCp t.gnb → SwitchIs t s.place (up_id g n) m) → Chosen s k u g n from m
    choose s None k u g n from m ups linked once = first_choice s k u g n from m ups once
    choose s (Some o) k u g n from m ups linked once =
        (Some o, ups, later_switch s o k u g n from m (ups.1 g n).0 linked once, λ v keep taken. linked_kept s (Some o) u v keep linked)
