-- Items that a bearer takes are orders to its downlink.
use Rattle.std.proofs.Common.{◌≡◌, ℕ, Bool, true, false, not, ◌||◌, if◌then◌else◌, List, [], ◌∷◌, ◌++◌, map, Option, Some, None, refl, sym, ap, subst, ◌∙◌, true≢false}
use Rattle.std.proofs.lemmas.List.{append-nil}
use Rattle.gnb_types.specs.declared.reasons.DropReason.TheVariants.{Duplicate, Unexpected}
use Rattle.pdcp_defs.specs.Senders.{may_restore, confirmed_to, confirmed_by}
use Rattle.unit_defs.specs.Ways.{Pdu, packet_pdu, report_pdu, report_content, Taken, fresh_item, numbered_item, uplink_item, status_item, end_item, Way, Answer, gives, spent, ◌then◌, nothing, drops, numbered as numbered_load}
use Rattle.unit_defs.specs.CuUpRecords.{CuUpBearer, DownlinkTunnel, TunnelKind, n3, f1u_uplink, forwarding_down}
use Rattle.unit_defs.specs.CuUpBearers.{has_downlink, number_waiting, number_each, sent_again, forwarded_down}
use Rattle.unit_defs.specs.CuUpItems.{took, took_fresh, took_numbered, took_report, took_delivery_status, lost_frames, n3_ended}
use Rattle.unit_defs.specs.CuUpItems as rows
use Rattle.gnb_types.specs.declared.outputs.Tag.TheVariants.{Same}
use Rattle.bearer_defs.specs.chain_defs.Models.{Item, numbered, fresh, end_marker, Member, Model}
use Rattle.bearer_defs.specs.chain_defs.Orders.{keeps_n3, keeps_fresh, passes_n3, passes_fresh, sends, passes_numbered, ends_n3, ends_hop, reports, reports_loss, sends_again, waits, waits_unless, takes_unless, holds, changed, sent, after, run}
use Rattle.bearer_defs.specs.chain_defs.Orders as chain
use Rattle.law_downlink_order.proofs.chain.Frames.{set_here}
use Rattle.proof_cu_up_orders.specs.chain_rows.Shown.{plain, without_number, items_of, pdus_of, Gives, number_orders, numbered_packets}
use Rattle.proof_cu_up_orders.proofs.chain_rows.Rows.{passes_a_fresh_one, passes_a_numbered_one, passes_the_end, keeps_a_fresh_one, each_gives, then_gives, gives_as, sends_a_numbered_one, sends_all_again, reports_make_room}
use Rattle.proof_cu_up_orders.proofs.chain_rows.Numbering.{pdus_are}
use Rattle.proof_cu_up_orders.specs.context_orders.Orders.{CuUpModel, takes, kept_in, done}
use Rattle.proof_cu_up_orders.specs.down_orders.Down.{down_only, down_of, IsDown, serves_none, numbers_if, packets_if, fresh_orders, numbered_order, confirms_if, confirmed_if, losses, item_orders, packets_of, Went, Shows, Stands, IsFit}
use Rattle.proof_cu_up_orders.proofs.down_orders.Models.{numbered_by, went_same, went_kept, went_sent, went_passed, went_changed, went_more, went_numbers}

abbrev pub again : List (ℕ × List ℕ) → List Pdu
again es = map (λ e. packet_pdu e.0 e.1) es

pub packets_again : (es : List (ℕ × List ℕ)) → packets_of (again es) ≡ es
unfolding packets_of
packets_again [] = refl
packets_again (e ∷ es) = ap (λ (xs : List (ℕ × List ℕ)). e ∷ xs) (packets_again es)

pub packets_both : (ps qs : List Pdu) → packets_of (ps ++ qs) ≡ packets_of ps ++ packets_of qs
unfolding packets_of
packets_both [] qs = refl
packets_both (packet_pdu count p ∷ ps) qs = ap (λ (xs : List (ℕ × List ℕ)). (count, p) ∷ xs) (packets_both ps qs)
packets_both (report_pdu fmc bits ∷ ps) qs = packets_both ps qs

erased : (c d : CuUpBearer) → plain c ≡ plain d → down_of c ≡ down_of d
erased c d e = ap down_only e

none_of_three : (f r h : Bool) → f || r || not h ≡ false → h ≡ true
none_of_three true r h e = absurd (true≢false e)
none_of_three false true h e = absurd (true≢false e)
none_of_three false false true e = refl
none_of_three false false false e = absurd (true≢false e)

module _ {M C P : Type 0} (way : Way M C P) (s : Model) (x : ℕ) (p : CuUpModel) where
  -- ---- a member that is the bearer then

  pub shown : (t : Model) (n : Member) (items : List Item) (pdus : List Pdu) (c : CuUpBearer) (a : Answer M P CuUpBearer) → n.is_there ≡ true
      → n.flags ≡ p.at.flags → down_of n.bearer ≡ down_of c → Went s t x n items (packets_of pdus) → Gives way p.at.sn items pdus c a
      → Shows way s t x (kept_in p a)
  unfolding Gives
  shown t n items pdus c (spent k) there flags bearer went g = tt
  shown t n items pdus c (gives os d) there flags bearer went g = record {
    member = n;
    is = record { there = there; flags = flags; bearer = bearer ∙ sym (erased d c g.2) };
    pdus = pdus;
    puts = g.1;
    went = subst (λ (zs : List Item). Went s t x n zs (packets_of pdus)) (sym g.0) went;
  }

  -- ---- what waits is numbered

  abbrev pub numbered_as : Bool → CuUpBearer → CuUpBearer
  numbered_as none c = if none then c else numbered_by p.at.sn p.at.quota c

  pub numbers_gives : (c : CuUpBearer) → Gives way p.at.sn [] (again (packets_if p.at c)) (numbered_as (serves_none p.at c) c) (number_waiting way p.at c)
  unfolding number_waiting Gives items_of pdus_of
  numbers_gives c = by (serves_none p.at c) refl
    where
      by : (t : Bool) → serves_none p.at c ≡ t
          → Gives way p.at.sn [] (again (if t then [] else numbered_packets p.at.sn p.at.quota c.waiting c.sender)) (numbered_as t c)
          (if t then nothing c else number_each way p.at c.waiting c)
      by true e = (refl, refl, refl)
      by false e =
          subst (λ (ps : List Pdu). Gives way p.at.sn [] ps (numbered_by p.at.sn p.at.quota c) (number_each way p.at c.waiting c))
          (pdus_are p.at.sn p.at.quota c.waiting c.sender)
          (each_gives way p.at c.waiting c (none_of_three p.at.flags.frozen p.at.flags.released (has_downlink c.downlink) e))

  pub numbers_shown : (t : Model) (n : Member) (first : List Pdu) (c : CuUpBearer) (a : Answer M P CuUpBearer) → Went s t x n [] (packets_of first)
      → t.members x ≡ n → n.is_there ≡ true → n.flags ≡ p.at.flags → down_of n.bearer ≡ down_of c
      → Gives way p.at.sn [] (first ++ again (packets_if p.at c)) (numbered_as (serves_none p.at c) c) a
      → Shows way s (run t (numbers_if x p.at c)) x (kept_in p a)
  unfolding run
  numbers_shown t n first c a went exact there flags bearer g = by (serves_none p.at c) g
    where
      Numbered : CuUpBearer → Type 0
      Numbered u = Went s (run t (number_orders p.at.sn p.at.quota x u.waiting u.sender)) x (record n { bearer = numbered_by p.at.sn p.at.quota n.bearer }) []
          (packets_of first ++ numbered_packets p.at.sn p.at.quota u.waiting u.sender)

      went_all : Numbered c
      went_all = subst Numbered bearer (went_numbers s x t n (packets_of first) went exact p.at.sn p.at.quota)

      all : packets_of first ++ numbered_packets p.at.sn p.at.quota c.waiting c.sender
          ≡ packets_of (first ++ again (numbered_packets p.at.sn p.at.quota c.waiting c.sender))
      all = sym (packets_both first (again (numbered_packets p.at.sn p.at.quota c.waiting c.sender))
          ∙ ap (λ (zs : List (ℕ × List ℕ)). packets_of first ++ zs) (packets_again (numbered_packets p.at.sn p.at.quota c.waiting c.sender)))

      by : (none : Bool)
          → Gives way p.at.sn [] (first ++ again (if none then [] else numbered_packets p.at.sn p.at.quota c.waiting c.sender)) (numbered_as none c) a
          → Shows way s (run t (if none then [] else number_orders p.at.sn p.at.quota x c.waiting c.sender)) x (kept_in p a)
      by true h = shown t n [] (first ++ []) c a there flags bearer
          (subst (λ (ps : List Pdu). Went s t x n [] (packets_of ps)) (sym (append-nil first)) went) h
      by false h = shown (run t (number_orders p.at.sn p.at.quota x c.waiting c.sender)) (record n { bearer = numbered_by p.at.sn p.at.quota n.bearer }) []
          (first ++ again (numbered_packets p.at.sn p.at.quota c.waiting c.sender)) (numbered_by p.at.sn p.at.quota c) a there flags
          (ap (λ (u : CuUpBearer). numbered_by p.at.sn p.at.quota u) bearer)
          (subst (λ (zs : List (ℕ × List ℕ)). Went s (run t (number_orders p.at.sn p.at.quota x c.waiting c.sender)) x
          (record n { bearer = numbered_by p.at.sn p.at.quota n.bearer }) [] zs) all went_all) h

module _ {M C P : Type 0} (way : Way M C P) (s : Model) (x : ℕ) (p : CuUpModel) (is : IsDown (s.members x) p) where
  abbrev m : Member
  m = s.members x

  abbrev b : CuUpBearer
  b = p.bearer

  -- ---- packets without a COUNT

  module _ (stands : Stands p) (packet : List ℕ) where
    abbrev waiting : CuUpBearer
    waiting = waits b packet

    kept_fresh : (n : Member) (t : Model) → t ≡ changed s x (record n { bearer = waits m.bearer packet }) → n.is_there ≡ true → n.flags ≡ p.at.flags
        → p.at.flags.frozen ≡ false → Shows way s (run t (numbers_if x p.at waiting)) x (kept_in p (took_fresh way p.at packet b))
    unfolding packets_of
    kept_fresh n t same there flags unfrozen =
        let k : Member = record n { bearer = waits m.bearer packet } in
        subst (λ (a : Answer M P CuUpBearer). Shows way s (run t (numbers_if x p.at waiting)) x (kept_in p a))
        (sym (keeps_a_fresh_one way p.at packet b unfrozen (stands.passes unfrozen)))
        (subst (λ (u : Model). Shows way s (run u (numbers_if x p.at waiting)) x (kept_in p (number_waiting way p.at waiting))) (sym same)
        (numbers_shown way s x p (changed s x k) k [] waiting (number_waiting way p.at waiting) (went_kept s x k) (set_here s.members x k) there flags
        (ap (λ (u : CuUpBearer). waits u packet) is.bearer) (numbers_gives way s x p waiting)))

    passed_fresh : (n : Member) → n.is_there ≡ true → n.flags ≡ p.at.flags → p.at.flags.frozen ≡ true
        → Shows way s (chain.passed s x (record n { bearer = waits_unless m.flags.released m.bearer packet }) (fresh packet ∷ [])) x
        (kept_in p (took_fresh way p.at packet b))
    unfolding packets_of
    passed_fresh n there flags frozen =
        let hop = stands.hop frozen in
        let k : Member = record n { bearer = waits_unless m.flags.released m.bearer packet } in
        shown way s x p (chain.passed s x k (fresh packet ∷ [])) k (fresh packet ∷ []) [] (waits_unless p.at.flags.released b packet)
        (took_fresh way p.at packet b) there flags (λ i. waits_unless (is.flags i).released (is.bearer i) packet)
        (went_passed s x k (fresh packet ∷ [])) (passes_a_fresh_one way p.at packet b hop.0 hop.1 frozen)

    pub fresh_n3 : (rest : List Item)
        → Shows way s (run s (fresh_orders x p.at b packet (passes_n3 x packet rest) (keeps_n3 x packet rest))) x (kept_in p (took_fresh way p.at packet b))
    unfolding run after
    fresh_n3 rest = by p.at.flags.frozen refl
      where
        by : (f : Bool) → p.at.flags.frozen ≡ f
            → Shows way s (run s (if f then passes_n3 x packet rest ∷ [] else keeps_n3 x packet rest ∷ numbers_if x p.at waiting)) x
            (kept_in p (took_fresh way p.at packet b))
        by true e = passed_fresh (record m { n3 = rest }) is.there is.flags e
        by false e = kept_fresh (record m { n3 = rest }) (after s (keeps_n3 x packet rest)) refl is.there is.flags e

    pub fresh_forwarded : (rest : List Item)
        → Shows way s (run s (fresh_orders x p.at b packet (passes_fresh x packet rest) (keeps_fresh x packet rest))) x
        (kept_in p (took_fresh way p.at packet b))
    unfolding run after
    fresh_forwarded rest = by p.at.flags.frozen refl
      where
        by : (f : Bool) → p.at.flags.frozen ≡ f
            → Shows way s (run s (if f then passes_fresh x packet rest ∷ [] else keeps_fresh x packet rest ∷ numbers_if x p.at waiting)) x
            (kept_in p (took_fresh way p.at packet b))
        by true e = passed_fresh (record m { forwarded = rest }) is.there is.flags e
        by false e = kept_fresh (record m { forwarded = rest }) (after s (keeps_fresh x packet rest)) refl is.there is.flags e

  -- ---- packets with their COUNT

  pub numbered_one : Stands p → (count : ℕ) (packet : List ℕ) (rest : List Item) → (p.at.flags.frozen ≡ false → has_downlink b.downlink ≡ true)
      → Shows way s (run s (numbered_order x p.at b count packet rest ∷ [])) x (kept_in p (took_numbered way p.at (Some count) packet b))
  unfolding run after took_numbered packets_of Gives items_of pdus_of
  numbered_one stands count packet rest down =
      by p.at.flags.released refl (may_restore p.at.sn p.at.quota b.sender count) refl p.at.flags.frozen refl
    where
      row : Answer M P CuUpBearer
      row = took_numbered way p.at (Some count) packet b

      passes : p.at.flags.frozen ≡ true → (p.at.flags.released ≡ false → may_restore p.at.sn p.at.quota b.sender count ≡ true)
          → Shows way s (after s (passes_numbered x count packet rest)) x (kept_in p row)
      passes f room =
          let hop = stands.hop f in
          let k : Member = record m { forwarded = rest; bearer = takes_unless m.flags.released m.bearer count packet } in
          shown way s x p (chain.passed s x k (numbered count packet ∷ [])) k (numbered count packet ∷ []) [] (takes_unless p.at.flags.released b count packet) row
          is.there is.flags (λ i. takes_unless (is.flags i).released (is.bearer i) count packet) (went_passed s x k (numbered count packet ∷ []))
          (passes_a_numbered_one way p.at count packet b hop.0 hop.1 f room)

      sends_it : p.at.flags.frozen ≡ false → may_restore p.at.sn p.at.quota b.sender count ≡ true
          → Shows way s (after s (sends x count packet rest)) x (kept_in p row)
      sends_it f room =
          let k : Member = record m { forwarded = rest; bearer = holds m.bearer count packet } in
          shown way s x p (sent (changed s x k) m ((count, packet) ∷ [])) k [] (packet_pdu count packet ∷ []) (holds b count packet) row is.there is.flags
          (ap (λ (u : CuUpBearer). holds u count packet) is.bearer) (went_sent s x k m ((count, packet) ∷ []) refl)
          (sends_a_numbered_one way p.at count packet b (down f) f (stands.passes f) room)

      drops_it : p.at.flags.released ≡ false → may_restore p.at.sn p.at.quota b.sender count ≡ false
          → Shows way s (after s (chain.drops x count packet rest)) x (kept_in p row)
      drops_it r none =
          let k : Member = record m { forwarded = rest } in
          shown way s x p (changed s x k) k [] [] b row is.there is.flags is.bearer (went_kept s x k)
          (subst (λ (a : Answer M P CuUpBearer). Gives way p.at.sn [] [] b a) (sym dropped_is) (refl, refl, refl))
        where
          dropped_is : row ≡ drops Duplicate b
          dropped_is i = if r i then forwarded_down way p.at Same (numbered_load p.at.sn count packet) b else
              (if none i then rows.restored_at way p.at count packet b else drops Duplicate b)

      by : (r : Bool) → p.at.flags.released ≡ r → (k : Bool) → may_restore p.at.sn p.at.quota b.sender count ≡ k → (f : Bool) → p.at.flags.frozen ≡ f
          → Shows way s (run s ((if r || k then (if f then passes_numbered x count packet rest else sends x count packet rest)
          else chain.drops x count packet rest) ∷ [])) x (kept_in p row)
      by true r k room true f = passes f (λ e. absurd (true≢false (sym r ∙ e)))
      by true r k room false f = absurd (true≢false (sym r ∙ stands.passes f))
      by false r true room true f = passes f (λ e. room)
      by false r true room false f = sends_it f room
      by false r false none f is_f = drops_it r none

  -- ---- End Markers

  pub n3_end : Stands p → (rest : List Item) → p.at.flags.frozen ≡ true → (teid : ℕ) → b.n3 ≡ Some teid
      → Shows way s (run s (ends_n3 x rest ∷ [])) x (kept_in p (n3_ended way p.at b b.hop))
  unfolding run after packets_of
  n3_end stands rest f teid open_ =
      let hop = stands.hop f in
      let k : Member = record m { n3 = rest; bearer = record m.bearer { n3 = None } } in
      shown way s x p (chain.passed s x k (end_marker ∷ [])) k (end_marker ∷ []) [] (record b { n3 = None }) (n3_ended way p.at b b.hop) is.there is.flags
      (ap (λ (u : CuUpBearer). record u { n3 = None }) is.bearer) (went_passed s x k (end_marker ∷ []))
      (passes_the_end way p.at b hop.0 teid hop.1 open_)

  pub hop_end : (rest : List Item) → b.down_ended ≡ false → Shows way s (run s (ends_hop x rest ∷ [])) x (kept_in p (rows.down_ended way b))
  unfolding run after packets_of Gives items_of pdus_of
  hop_end rest open_ =
      let k : Member = record m { forwarded = rest; bearer = record m.bearer { down_ended = true } } in
      shown way s x p (changed s x k) k [] [] (record b { down_ended = true }) (rows.down_ended way b) is.there is.flags
      (ap (λ (u : CuUpBearer). record u { down_ended = true }) is.bearer) (went_kept s x k)
      (subst (λ (a : Answer M P CuUpBearer). Gives way p.at.sn [] [] (record b { down_ended = true }) a)
      (sym (λ i. if open_ i then drops Unexpected b else nothing (record b { down_ended = true }))) (refl, refl, refl))

  -- ---- status reports and delivery statuses

  pub report_one : (fmc : ℕ) (bits : List Bool)
      → Shows way s (run s (reports x fmc bits ∷ numbers_if x p.at (record b { sender = confirmed_by b.sender fmc bits }))) x
      (kept_in p (took_report way p.at fmc bits b))
  unfolding run after packets_of
  report_one fmc bits =
      let k : Member = record m { bearer = record m.bearer { sender = confirmed_by m.bearer.sender fmc bits } } in
      let c : CuUpBearer = record b { sender = confirmed_by b.sender fmc bits } in
      subst (λ (a : Answer M P CuUpBearer). Shows way s (run (changed s x k) (numbers_if x p.at c)) x (kept_in p a)) (sym (reports_make_room way p.at fmc bits b))
      (numbers_shown way s x p (changed s x k) k [] c (number_waiting way p.at c) (went_kept s x k) (set_here s.members x k) is.there is.flags
      (ap (λ (u : CuUpBearer). record u { sender = confirmed_by u.sender fmc bits }) is.bearer) (numbers_gives way s x p c))

  -- after a row that left the bearer so, but for the number of its next frame

  has_plain : (o : Option DownlinkTunnel) → has_downlink (without_number o) ≡ has_downlink o
  has_plain None = refl
  has_plain (Some d) = refl

  downlinks_alike : (d c : CuUpBearer) → plain d ≡ plain c → has_downlink d.downlink ≡ has_downlink c.downlink
  downlinks_alike d c e = sym (has_plain d.downlink) ∙ ap (λ (u : CuUpBearer). has_downlink u.downlink) e ∙ has_plain c.downlink

  numbers_after : (d c : CuUpBearer) → plain d ≡ plain c
      → Gives way p.at.sn [] (again (packets_if p.at c)) (numbered_as way s x p (serves_none p.at c) c) (number_waiting way p.at d)
  numbers_after d c e =
      gives_as way p.at [] (again (packets_if p.at c)) (numbered_as way s x p (serves_none p.at c) d) (numbered_as way s x p (serves_none p.at c) c) (number_waiting way p.at d)
      (by (serves_none p.at c))
      (subst (λ (h : Bool). Gives way p.at.sn [] (again (if p.at.flags.frozen || p.at.flags.released || not h then []
      else numbered_packets p.at.sn p.at.quota c.waiting c.sender)) (numbered_as way s x p (p.at.flags.frozen || p.at.flags.released || not h) d)
      (number_waiting way p.at d)) (downlinks_alike d c e)
      (subst (λ (u : CuUpBearer). Gives way p.at.sn [] (again (if serves_none p.at d then [] else numbered_packets p.at.sn p.at.quota u.waiting u.sender))
      (numbered_as way s x p (serves_none p.at d) d) (number_waiting way p.at d)) e (numbers_gives way s x p d)))
    where
      by : (t : Bool) → plain (numbered_as way s x p t d) ≡ plain (numbered_as way s x p t c)
      by true = e
      by false = ap (λ (u : CuUpBearer). numbered_by p.at.sn p.at.quota u) e

  -- from a model in which the bearer is so already, and nothing was sent
  module _ (t : Model) (n : Member) (went : Went s t x n [] []) (exact : t.members x ≡ n) (there : n.is_there ≡ true) (flags : n.flags ≡ p.at.flags)
      (c : CuUpBearer) (bearer : down_of n.bearer ≡ down_of c) (down : p.at.flags.frozen ≡ false → has_downlink c.downlink ≡ true) where
    abbrev loss : Bool → CuUpBearer
    loss f = record c { loss_while_frozen = f || c.loss_while_frozen }

    abbrev c2 : CuUpBearer
    c2 = loss p.at.flags.frozen

    abbrev n2 : Member
    n2 = record (t.members x) { bearer = record (t.members x).bearer { loss_while_frozen = (t.members x).flags.frozen || (t.members x).bearer.loss_while_frozen } }

    same_bearer : down_of n2.bearer ≡ down_of c2
    same_bearer =
        ap (λ (k : Member). down_of (record k.bearer { loss_while_frozen = k.flags.frozen || k.bearer.loss_while_frozen })) exact
        ∙ (λ i. record (bearer i) { loss_while_frozen = (flags i).frozen || (bearer i).loss_while_frozen })

    told : Went s (changed t x n2) x n2 [] []
    told = went_changed s x t n [] went exact n2 (ap (λ (k : Member). k.epoch) exact) (ap (λ (k : Member). k.next_hop) exact)

    lost_ones : (lost : List (ℕ × ℕ))
        → Shows way s (run t (losses x p.at.flags.frozen lost ++ numbers_if x p.at c)) x (kept_in p (lost_frames way p.at lost c then number_waiting way p.at))
    unfolding run after Gives items_of pdus_of packets_of
    lost_ones [] =
        numbers_shown way s x p t n [] c (lost_frames way p.at [] c then number_waiting way p.at) went exact there flags bearer
        (then_gives way p.at [] [] [] (again (packets_if p.at c)) c (numbered_as way s x p (serves_none p.at c) c) (nothing c) (number_waiting way p.at)
        (refl, refl, refl) (λ d e. numbers_after d c e))
    lost_ones (range ∷ ranges) = by p.at.flags.frozen refl
      where
        there2 : n2.is_there ≡ true
        there2 = ap (λ (k : Member). k.is_there) exact ∙ there

        flags2 : n2.flags ≡ p.at.flags
        flags2 = ap (λ (k : Member). k.flags) exact ∙ flags

        held : CuUpBearer
        held = record c { restart = true; loss_while_frozen = true }

        resent : CuUpBearer
        resent = record c { restart = true }

        -- all that nothing confirmed, as the model has it
        again_there : (changed t x n2).members x ≡ n2 → ((changed t x n2).members x).bearer.sender.unconfirmed ≡ packets_of (again c.sender.unconfirmed)
        again_there here =
            ap (λ (k : Member). k.bearer.sender.unconfirmed) here ∙ ap (λ (u : CuUpBearer). u.sender.unconfirmed) same_bearer
            ∙ sym (packets_again c.sender.unconfirmed)

        by : (f : Bool) → p.at.flags.frozen ≡ f
            → Shows way s (run t ((reports_loss x ∷ (if f then [] else sends_again x ∷ [])) ++ numbers_if x p.at c)) x
            (kept_in p ((if f then nothing held else sent_again way p.at c.sender.unconfirmed resent) then number_waiting way p.at))
        by true f =
            numbers_shown way s x p (changed t x n2) n2 [] c2 (nothing held then number_waiting way p.at) told (set_here t.members x n2) there2 flags2 same_bearer
            (then_gives way p.at [] [] [] (again (packets_if p.at c2)) c2 (numbered_as way s x p (serves_none p.at c2) c2) (nothing held) (number_waiting way p.at)
            (refl, refl, ap (λ (k : Bool). plain (loss k)) (sym f)) (λ d e. numbers_after d c2 e))
        by false f =
            let es : List (ℕ × List ℕ) = c.sender.unconfirmed in
            let here : (changed t x n2).members x ≡ n2 = set_here t.members x n2 in
            let more : List (ℕ × List ℕ) = ((changed t x n2).members x).bearer.sender.unconfirmed in
            numbers_shown way s x p (sent (changed t x n2) ((changed t x n2).members x) more) n2 (again es) c2
            (sent_again way p.at es resent then number_waiting way p.at)
            (subst (λ (zs : List (ℕ × List ℕ)). Went s (sent (changed t x n2) ((changed t x n2).members x) more) x n2 [] zs) (again_there here)
            (went_more s x (changed t x n2) n2 [] told here more)) here there2 flags2 same_bearer
            (then_gives way p.at [] [] (again es) (again (packets_if p.at c2)) c2 (numbered_as way s x p (serves_none p.at c2) c2)
            (sent_again way p.at es resent) (number_waiting way p.at)
            (gives_as way p.at [] (again es) resent c2 (sent_again way p.at es resent) (ap (λ (k : Bool). plain (loss k)) (sym f))
            (sends_all_again way p.at es resent (down f))) (λ d e. numbers_after d c2 e))

  pub status_one : (lost : List (ℕ × ℕ)) (delivered : Option ℕ) → (p.at.flags.frozen ≡ false → has_downlink b.downlink ≡ true)
      → Shows way s (run s (confirms_if x delivered ++ losses x p.at.flags.frozen lost ++ numbers_if x p.at (confirmed_if delivered b))) x
      (kept_in p (took_delivery_status way p.at lost delivered b))
  unfolding run after took_delivery_status
  status_one lost None down = lost_ones s m (went_same s x) refl is.there is.flags b is.bearer down lost
  status_one lost (Some count) down =
      let k : Member = record m { bearer = record m.bearer { sender = confirmed_to m.bearer.sender count } } in
      lost_ones (changed s x k) k (went_kept s x k) (set_here s.members x k) is.there is.flags (record b { sender = confirmed_to b.sender count })
      (ap (λ (u : CuUpBearer). record u { sender = confirmed_to u.sender count }) is.bearer) down lost

  -- ---- the table

  pub item_one : Stands p → (kind : TunnelKind) (teid : ℕ) (item : Taken P) (rest : List Item) → IsFit p kind item
      → Shows way s (run s (item_orders x p rest kind item)) x (done way (takes kind teid item) p)
  unfolding took
  item_one stands n3 teid (fresh_item packet) rest fit = fresh_n3 stands packet rest
  item_one stands n3 teid end_item rest fit = n3_end stands rest fit.0 fit.1.0 fit.1.1
  item_one stands forwarding_down teid (fresh_item packet) rest fit = fresh_forwarded stands packet rest
  item_one stands forwarding_down teid (numbered_item (Some count) packet) rest fit = numbered_one stands count packet rest fit
  item_one stands forwarding_down teid end_item rest fit = hop_end rest fit
  item_one stands f1u_uplink teid (uplink_item (report_content fmc bits)) rest fit = report_one fmc bits
  item_one stands f1u_uplink teid (status_item lost delivered) rest fit = status_one lost delivered fit
  item_one stands kind teid item rest fit = absurd fit
