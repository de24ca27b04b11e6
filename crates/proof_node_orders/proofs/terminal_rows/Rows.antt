-- The rows of the terminal, by what their orders do.
use Rattle.std.proofs.Common.{◌≡◌, ◌<◌, ℕ, ◌+◌, Bool, true, false, if◌then◌else◌, nat_lt, nat_le, length, List, [], ◌∷◌, ◌++◌, Some, None, refl, sym, ap, subst, ◌∙◌}
use Rattle.std.proofs.lemmas.List.{append-nil}
use Rattle.gnb_types.specs.declared.names.SnBits.{SnBits}
use Rattle.gnb_types.specs.declared.names.BearerId.{BearerId}
use Rattle.gnb_types.specs.declared.reasons.DropReason.TheVariants.{Duplicate}
use Rattle.gnb_types.specs.declared.reasons.HeldReason.TheVariants.{Ahead}
use Rattle.gnb_types.specs.declared.reasons.RefuseReason.TheVariants.{Size, Quota}
use Rattle.gnb_types.proofs.OrderLemmas.{bearer_total}
use Rattle.tables.proofs.TableLaws.{find-put-same, find-put-other}
use Rattle.pdcp_defs.specs.Senders.{is_reported, confirmed_to, confirmed_by}
use Rattle.pdcp_defs.specs.Receivers.{Receiver, is_duplicate, is_ahead, stored, deliver as handed_up}
use Rattle.unit_defs.specs.Ways.{packet_content, report_content, Output, dropped, held, no, Way, Answer, gives, spent, ◌then◌, nothing, puts, drops}
use Rattle.unit_defs.specs.Ue.{UeBearer, UeNode, is_connected, largest_packet, used_uplink, number_each, number_waiting, with_bearer, of_bearer, at_bearer, offered, offer, took, handed, take, confirmed, confirm}
use Rattle.proof_cu_up_orders.specs.chain_rows.Shown.{numbers_all, still_waits}
use Rattle.bearer_defs.specs.chain_defs.Models.{Model as DownModel}
use Rattle.bearer_defs.specs.chain_defs.Orders as down
use Rattle.bearer_defs.specs.chain_defs.Assumptions as asks
use Rattle.bearer_defs.specs.uplink_defs.Models.{Model}
use Rattle.bearer_defs.specs.uplink_defs.Orders.{offers, acknowledges, reports, after, run}
use Rattle.bearer_defs.specs.uplink_defs.Assumptions.{IsReady, IsAssumed, AreKept}
use Rattle.proof_node_orders.specs.terminal_rows.Shown.{IsSeen, packets_of, orders_if, numbering, with_lists, Does, bearer_of, Gives, Shows, delivered_to, with_receiver}
use Rattle.proof_node_orders.proofs.terminal_rows.Numbering.{numbering_kept, numbering_run, sends, each_gives}

-- what is numbered, where the terminal may not be connected
abbrev packets_if : Bool → UeNode → UeBearer → List (ℕ × List ℕ)
packets_if is_there u b = if is_there then packets_of u b else []

abbrev numbered_if : Bool → UeNode → UeBearer → UeBearer
numbered_if is_there u b = with_lists b (if is_there then numbers_all u.plan.sn u.plan.quota b.waiting b.sender else b.sender)
    (if is_there then still_waits u.plan.sn u.plan.quota b.waiting b.waiting b.sender else b.waiting)

run_if : (t : Bool) (u : UeNode) (s : Model) (b : UeBearer)
    → run (record s { terminal = b }) (orders_if t u b) ≡ record s { terminal = numbered_if t u b; air = s.air ++ packets_if t u b }
unfolding run
run_if true u s b = numbering_run u s b
run_if false u s b = ap (λ xs. record s { terminal = b; air = xs }) (sym (append-nil s.air))

-- ---- what the orders ask

abbrev offered_to : Model → List ℕ → UeBearer
offered_to s packet = record s.terminal { waiting = s.terminal.waiting ++ packet ∷ [] }

abbrev told_to : Model → ℕ → List Bool → UeBearer
told_to s fmc bits = record s.terminal { sender = confirmed_by s.terminal.sender fmc bits }

abbrev known_to : Model → ℕ → UeBearer
known_to s count = record s.terminal { sender = confirmed_to s.terminal.sender count }

module _ (u : UeNode) (s : Model) (is : s.connected ≡ is_connected u.state) where
  pub offers_asked : (packet : List ℕ) → AreKept s (offers packet ∷ numbering u (offered_to s packet))
  unfolding AreKept IsReady IsAssumed after
  offers_asked packet = (tt, tt, numbering_kept u (record s { offered = s.offered + 1 }) (offered_to s packet) is)

  pub reports_asked : (fmc : ℕ) (bits : List Bool) → ((i : ℕ) → is_reported fmc bits i ≡ true → i < s.reached)
      → AreKept s (reports fmc bits ∷ numbering u (told_to s fmc bits))
  unfolding AreKept IsReady IsAssumed after
  reports_asked fmc bits carried = (tt, carried, numbering_kept u s (told_to s fmc bits) is)

  pub confirms_asked : (count : ℕ) (rest : List ℕ) → s.carried ≡ count ∷ rest
      → AreKept s (acknowledges count rest ∷ numbering u (known_to s count))
  unfolding AreKept IsReady IsAssumed after
  confirms_asked count rest stands = (stands, tt, numbering_kept u (record s { carried = rest }) (known_to s count) is)

  pub unknown_asked : AreKept s (numbering u s.terminal)
  unknown_asked = numbering_kept u s s.terminal is

-- a packet of the downlink
run_as : (d : DownModel) (count : ℕ) (packet : List ℕ) (rest : List (ℕ × List ℕ)) (old : Bool) → is_duplicate d.terminal count ≡ old
    → down.run d (down.carries count packet rest ∷ [])
    ≡ down.handed (record d { air = rest }) old (handed_up (stored d.terminal count packet))
unfolding down.run down.after
run_as d count packet rest old is = ap (λ t. down.handed (record d { air = rest }) t (handed_up (stored d.terminal count packet))) is

pub carries_run : (d : DownModel) (count : ℕ) (packet : List ℕ) (rest : List (ℕ × List ℕ)) → is_duplicate d.terminal count ≡ false
    → let now = handed_up (stored d.terminal count packet) in
    down.run d (down.carries count packet rest ∷ [])
    ≡ record d { air = rest; terminal = now.after; delivered = d.delivered ++ now.packets }
carries_run d count packet rest new = run_as d count packet rest false new

pub carries_asked : (sn : SnBits) (quota : ℕ) (d : DownModel) (count : ℕ) (packet : List ℕ) (rest : List (ℕ × List ℕ))
    → d.air ≡ (count, packet) ∷ rest → asks.AreKept sn quota d (down.carries count packet rest ∷ [])
unfolding asks.AreKept asks.IsReady asks.IsAssumed
carries_asked sn quota d count packet rest stands = (stands, tt, tt)

module _ {M C P : Type 0} (way : Way M C P) where
  module _ (u : UeNode) (bearer : BearerId) where
    waits : (b : UeBearer) → Gives (sends way u bearer (packets_if (is_connected u.state) u b)) (numbered_if (is_connected u.state) u b)
        (number_waiting way u bearer b)
    unfolding number_waiting Gives
    waits b = by (is_connected u.state)
      where
        by : (t : Bool) → Gives (sends way u bearer (packets_if t u b)) (numbered_if t u b)
            (if t then number_each way u bearer b.waiting b else nothing b)
        by true = each_gives way u bearer b.waiting b
        by false = (refl, refl)

    abbrev kept : Answer M P UeBearer → Answer M P UeNode
    kept a = a then (λ c. nothing (with_bearer way u bearer c))

    -- ---- what a row gives to its bearer is kept in the terminal's table

    module _ (s : Model) (d : DownModel) (seen : IsSeen u bearer s d) where
      keeps : (base t : Model) (b : UeBearer) (packets : List (ℕ × List ℕ)) (a : Answer M P UeBearer)
          → base.connected ≡ s.connected → t ≡ record base { terminal = b; air = base.air ++ packets }
          → Gives (sends way u bearer packets) (record b { receiver = d.terminal }) a → Does way u bearer d base t (kept a)
      unfolding Gives Does
      keeps base t b packets (gives outputs c) is part g = record {
        terminal = b;
        packets = packets;
        part = part;
        node = ap (λ x. with_bearer way u bearer x) g.1;
        outputs_are = append-nil outputs ∙ g.0;
        seen = record {
          there = find-put-same bearer_total u.bearers bearer c
              ∙ ap Some (g.1 ∙ sym (ap (λ (x : Model). record x.terminal { receiver = d.terminal }) part));
          connected = ap (λ (x : Model). x.connected) part ∙ is ∙ seen.connected;
          epoch = seen.epoch;
        };
        others = λ q far. find-put-other bearer_total u.bearers bearer c q far;
      }
      keeps base t b packets (spent counter) is part g = tt

      numbers : (base : Model) (b : UeBearer) → base.connected ≡ s.connected
          → Does way u bearer d base (run (record base { terminal = b }) (numbering u b))
          (kept (number_waiting way u bearer (record b { receiver = d.terminal })))
      numbers base b is = keeps base (run (record base { terminal = b }) (numbering u b)) (numbered_if (is_connected u.state) u b)
          (packets_if (is_connected u.state) u b) (number_waiting way u bearer (record b { receiver = d.terminal })) is
          (run_if (is_connected u.state) u base b) (waits (record b { receiver = d.terminal }))

      at_is : (row : UeBearer → Answer M P UeBearer) → at_bearer way u bearer row ≡ kept (row (bearer_of s d))
      at_is row = ap (of_bearer way u bearer row) seen.there

      -- ---- an offered packet

      offer_is : (packet : List ℕ) → nat_lt largest_packet (length packet) ≡ false → nat_le u.plan.quota (used_uplink way s.terminal) ≡ false
          → offer way bearer packet u ≡ kept (number_waiting way u bearer (record (offered_to s packet) { receiver = d.terminal }))
      unfolding offer
      offer_is packet small room = ap (offered way u bearer packet) seen.there ∙ by
        where
          by : offered way u bearer packet (Some (bearer_of s d))
              ≡ kept (number_waiting way u bearer (record (offered_to s packet) { receiver = d.terminal }))
          by i = if small i then puts (no Size) u else (if room i then puts (no Quota) u else
              kept (number_waiting way u bearer (record (offered_to s packet) { receiver = d.terminal })))

      pub offers_does : (packet : List ℕ) → nat_lt largest_packet (length packet) ≡ false
          → nat_le u.plan.quota (used_uplink way s.terminal) ≡ false
          → Does way u bearer d (record s { offered = s.offered + 1 }) (run s (offers packet ∷ numbering u (offered_to s packet)))
          (offer way bearer packet u)
      unfolding run after
      offers_does packet small room =
          let b : UeBearer = offered_to s packet in
          let base : Model = record s { offered = s.offered + 1 } in
          subst (λ a. Does way u bearer d base (run (record base { terminal = b }) (numbering u b)) a)
          (sym (offer_is packet small room)) (numbers base b refl)

      -- ---- what confirms

      pub reports_does : (fmc : ℕ) (bits : List Bool)
          → Does way u bearer d s (run s (reports fmc bits ∷ numbering u (told_to s fmc bits))) (take way bearer (report_content fmc bits) u)
      unfolding run after take
      reports_does fmc bits =
          let b : UeBearer = told_to s fmc bits in
          subst (λ a. Does way u bearer d s (run (record s { terminal = b }) (numbering u b)) a)
          (sym (at_is (took way u bearer (report_content fmc bits)))) (numbers s b refl)

      pub confirms_does : (count : ℕ) (packet : List ℕ) (rest : List ℕ)
          → Does way u bearer d (record s { carried = rest }) (run s (acknowledges count rest ∷ numbering u (known_to s count)))
          (confirm way bearer (packet_content (Some count) packet) u)
      unfolding run after confirm
      confirms_does count packet rest =
          let b : UeBearer = known_to s count in
          let base : Model = record s { carried = rest } in
          subst (λ a. Does way u bearer d base (run (record base { terminal = b }) (numbering u b)) a)
          (sym (at_is (confirmed way u bearer (packet_content (Some count) packet)))) (numbers base b refl)

      pub unknown_does : (packet : List ℕ)
          → Does way u bearer d s (run s (numbering u s.terminal)) (confirm way bearer (packet_content None packet) u)
      unfolding confirm
      unknown_does packet = subst (λ a. Does way u bearer d s (run s (numbering u s.terminal)) a)
          (sym (at_is (confirmed way u bearer (packet_content None packet)))) (numbers s s.terminal refl)

      pub own_report_does : (fmc : ℕ) (bits : List Bool) → Does way u bearer d s s (confirm way bearer (report_content fmc bits) u)
      unfolding confirm Gives
      own_report_does fmc bits = subst (λ a. Does way u bearer d s s a) (sym (at_is (confirmed way u bearer (report_content fmc bits))))
          (keeps s s s.terminal [] (nothing (bearer_of s d)) refl (ap (λ xs. record s { air = xs }) (sym (append-nil s.air))) (refl, refl))

      -- ---- a packet of the downlink

      module _ (count : ℕ) (packet : List ℕ) where
        abbrev taken_as : Bool → Bool → Answer M P UeBearer
        taken_as old ahead = if old then drops Duplicate (bearer_of s d) else
            (if ahead then puts (held Ahead) (bearer_of s d) else
            handed way u bearer (bearer_of s d) (handed_up (stored d.terminal count packet)))

        take_is : (old ahead : Bool) → is_duplicate d.terminal count ≡ old → is_ahead u.plan.quota d.terminal count ≡ ahead
            → take way bearer (packet_content (Some count) packet) u ≡ kept (taken_as old ahead)
        unfolding take
        take_is old ahead is_old is_far = at_is (took way u bearer (packet_content (Some count) packet)) ∙ by
          where
            by : kept (took way u bearer (packet_content (Some count) packet) (bearer_of s d)) ≡ kept (taken_as old ahead)
            by i = kept (taken_as (is_old i) (is_far i))

        shown : (r : Receiver (List ℕ)) (e : DownModel) → e.terminal ≡ r → e.epoch ≡ d.epoch → (outputs : List (Output M P))
            → Shows outputs bearer s e (gives outputs (with_receiver way u bearer s r))
        unfolding Shows
        shown r e is same outputs = (
          refl,
          record {
            there = find-put-same bearer_total u.bearers bearer (record s.terminal { receiver = r })
                ∙ ap (λ (x : Receiver (List ℕ)). Some (record s.terminal { receiver = x })) (sym is);
            connected = seen.connected;
            epoch = seen.epoch ∙ ap (λ n. n + 1) (sym same);
          },
        )

        pub shows_new : (rest : List (ℕ × List ℕ)) → is_duplicate d.terminal count ≡ false → is_ahead u.plan.quota d.terminal count ≡ false
            → Shows (delivered_to way u bearer (handed_up (stored d.terminal count packet)).packets) bearer s
            (down.run d (down.carries count packet rest ∷ [])) (take way bearer (packet_content (Some count) packet) u)
        shows_new rest new near =
            let now = handed_up (stored d.terminal count packet) in
            let t : DownModel = down.run d (down.carries count packet rest ∷ []) in
            let is = carries_run d count packet rest new in
            subst (λ a. Shows (delivered_to way u bearer now.packets) bearer s t a)
            (sym (take_is false false new near
            ∙ ap (λ os. gives os (with_receiver way u bearer s now.after)) (append-nil (delivered_to way u bearer now.packets))))
            (shown now.after t (ap (λ (x : DownModel). x.terminal) is) (ap (λ (x : DownModel). x.epoch) is)
            (delivered_to way u bearer now.packets))

        pub shows_old : (rest : List (ℕ × List ℕ)) → is_duplicate d.terminal count ≡ true
            → Shows (dropped Duplicate ∷ []) bearer s (down.run d (down.carries count packet rest ∷ []))
            (take way bearer (packet_content (Some count) packet) u)
        shows_old rest old =
            let t : DownModel = down.run d (down.carries count packet rest ∷ []) in
            let is = run_as d count packet rest true old in
            subst (λ a. Shows (dropped Duplicate ∷ []) bearer s t a)
            (sym (take_is true (is_ahead u.plan.quota d.terminal count) old refl))
            (shown d.terminal t (ap (λ (x : DownModel). x.terminal) is) (ap (λ (x : DownModel). x.epoch) is) (dropped Duplicate ∷ []))

        pub shows_held : is_duplicate d.terminal count ≡ false → is_ahead u.plan.quota d.terminal count ≡ true
            → Shows (held Ahead ∷ []) bearer s d (take way bearer (packet_content (Some count) packet) u)
        shows_held new far = subst (λ a. Shows (held Ahead ∷ []) bearer s d a) (sym (take_is false true new far))
            (shown d.terminal d refl refl (held Ahead ∷ []))
