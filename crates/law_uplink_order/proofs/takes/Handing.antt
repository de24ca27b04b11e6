-- What the context that the terminal is at hands up is delivered: at a switch, at a resume, and as packets come.
use Rattle.std.proofs.Common.{inl, inr, ◌≡◌, ◌⊎◌, ℕ, ◌+◌, ◌<◌, ◌≤◌, Bool, true, false, List, [], ◌∷◌, ◌++◌, refl, sym, ap, subst, ◌∙◌, true≢false, arith}
use Rattle.std.proofs.lemmas.List.{append-nil}
use Rattle.std.specs.List.{AllByRecursion}
use Rattle.std.specs.Ordering.{nat_cmp}
use Rattle.tables.specs.Tables.{put}
use Rattle.intervals.specs.Intervals.{upto}
use Rattle.intervals.proofs.Intervals.{upto-join}
use Rattle.pdcp_defs.specs.Receivers.{Receiver, Delivery, is_duplicate, stored, deliver, deliver_from}
use Rattle.unit_defs.specs.CuUpBearers.{thawed, no_uplink}
use Rattle.bearer_defs.specs.chain_defs.Models.{set}
use Rattle.law_downlink_order.proofs.chain.Facts.{pairs}
use Rattle.law_downlink_order.proofs.chain.Frames.{apart}
use Rattle.bearer_defs.specs.uplink_defs.Models.{Item, numbered, Source, uplink_tunnel, forwarding, Member, Model, items_at, forwarded_left, with_rest}
use Rattle.bearer_defs.specs.uplink_defs.Orders.{switches, resumes, stores, is_hop_up_done, handed, after}
use Rattle.bearer_defs.specs.uplink_defs.Assumptions.{IsTaken, NoEnd}
use Rattle.bearer_defs.specs.uplink_defs.Places.{has, IsOnTunnel, IsAt}
use Rattle.law_uplink_order.proofs.facts.Items.{IsRight, rest_no_end}
use Rattle.law_uplink_order.proofs.facts.Receivers.{Rises, rises_less, rises_put, right_put, has_more, has_new, is_new, hands}
use Rattle.law_uplink_order.proofs.facts.Facts.{Ghost, View, view, Tunnels, Flags, Own, StationIs, Beyond, Kept, Good}
use Rattle.law_uplink_order.proofs.facts.Frames.{kept_one, at_here}
use Rattle.law_uplink_order.proofs.takes.Takes.{tunnels_taken, taken_right, was_there, passes}

-- ---- what a receiver hands up, where delivery stands at its RX_DELIV, or it has no SN status and stores nothing

pub record Delivers (p : ℕ → List ℕ) (reached done : ℕ) (delivered : List (ℕ × List ℕ)) (is_known : Bool) (promised : ℕ)
    (es : List (ℕ × List ℕ)) (h : Delivery (List ℕ)) (e : ℕ) : Type 0 where
  pub delivered_are : delivered ++ h.packets ≡ upto (pairs p) 0 e
  pub more : done ≤ e
  pub most : e ≤ reached
  pub known : is_known ≡ true → h.after.deliv ≡ e
  pub unknown : is_known ≡ false → (promised ≡ e) × (h.after.stored ≡ [])
  pub rises : Rises (h.after.deliv + 1) h.after.stored
  pub right : AllByRecursion (IsRight p reached) h.after.stored
  pub keeps : (i : ℕ) → has es i ≡ true → (i < e) ⊎ (has h.after.stored i ≡ true)

hands_up : (p : ℕ → List ℕ) (reached done : ℕ) (delivered : List (ℕ × List ℕ)) (promised : ℕ) (r : Receiver (List ℕ)) → done ≤ reached
    → delivered ≡ upto (pairs p) 0 done → Rises r.deliv r.stored → AllByRecursion (IsRight p reached) r.stored → (known : Bool)
    → (known ≡ true → r.deliv ≡ done) → (known ≡ false → (promised ≡ done) × (r.stored ≡ []))
    → (e : ℕ) × Delivers p reached done delivered known promised r.stored (deliver r) e
unfolding deliver Rises
hands_up p reached done delivered promised r below are rises right true is none =
    let h = hands p reached r rises right in
    let from : r.deliv ≡ done = is refl in (
      (deliver r).after.deliv,
      record {
        delivered_are = ap (λ xs. xs ++ (deliver r).packets) are
            ∙ ap (λ xs. upto (pairs p) 0 done ++ xs) (h.packets_are ∙ ap (λ n. upto (pairs p) n (deliver r).after.deliv) from)
            ∙ upto-join (pairs p) 0 done (deliver r).after.deliv (omega arith) (let l = h.more in omega arith);
        more = (let l = h.more in omega arith);
        most = (let l = h.most in omega arith);
        known = λ _. refl;
        unknown = λ u. absurd (true≢false u);
        rises = h.rises;
        right = h.right;
        keeps = h.keeps;
      },
    )
hands_up p reached done delivered promised r below are rises right false is none =
    let empty : r.stored ≡ [] = (none refl).1 in
    subst (λ es. (e : ℕ) × Delivers p reached done delivered false promised es (deliver_from r.deliv es) e) (sym empty) (
      done,
      record {
        delivered_are = append-nil delivered ∙ are;
        more = omega arith;
        most = below;
        known = λ u. absurd (true≢false (sym u));
        unknown = λ _. ((none refl).0, refl);
        rises = tt;
        right = tt;
        keeps = λ i h. inr h;
      },
    )

module _ (p : ℕ → List ℕ) (s : Model) (d : ℕ) (g : ℕ → Ghost) (k : Kept p s d g) (x : ℕ) (is : x ≡ s.station) where
  abbrev m : Member
  m = s.members x

  abbrev b : View
  b = view s d

  st : StationIs d m (g x).rank
  st = (k.each x).station is

  own : Own p b x m (g x).rank
  own = (k.each x).own st.there

  -- the context as it is before it hands up, but for what it stores
  pub record Ready (c : Member) : Type 0 where
    pub there : c.is_there ≡ true
    pub keeps : c.flags.released ≡ false
    pub unfrozen : c.flags.frozen ≡ false
    pub tunnels : Tunnels p s.reached c.uplink c.forwarded (is_hop_up_done c.flags c.bearer)
    pub flags : Flags c.flags.frozen c.flags.released c.flags.may_serve c.flags.arrived c.bearer.hop (no_uplink c.bearer.uplinks)
        (is_hop_up_done c.flags c.bearer) (g x).rank
    pub rises : Rises c.bearer.receiver.deliv c.bearer.receiver.stored
    pub right : AllByRecursion (IsRight p s.reached) c.bearer.receiver.stored
    pub known : c.flags.may_serve ≡ true → c.bearer.receiver.deliv ≡ d
    pub unknown : c.flags.may_serve ≡ false → (c.promised ≡ d) × (c.bearer.receiver.stored ≡ [])
    -- what feeds it sees of it what it saw before
    pub target : m.flags.target ≡ true → c.flags.target ≡ true
    pub up_ended : m.bearer.up_ended ≡ false → c.bearer.up_ended ≡ false
    pub no_end : NoEnd m.forwarded → NoEnd c.forwarded
    -- and all that stood here stands here
    pub moved : (i : ℕ) → IsAt s.station x m i → IsOnTunnel c i ⊎ (has c.bearer.receiver.stored i ≡ true)

  pub kept_handed : (c : Member) → Ready c → Good p (handed s x c (deliver c.bearer.receiver))
  unfolding Beyond
  kept_handed c r = (
    e,
    g,
    kept_one p s t d e g x after_it k
        (record { done = h.more; reached = omega arith; others = λ q far at. absurd (far (at ∙ sym is)) })
        (record {
          own = λ _. record {
            tunnels = r.tunnels;
            holds = record {
              right = h.right;
              rises = rises_less y.after.deliv (y.after.deliv + 1) y.after.stored (omega arith) h.rises;
              handed_up = λ _. h.rises;
              given_up = λ u. apart u r.keeps;
              unknown = λ u. (h.unknown u).1;
            };
            flags = r.flags;
            placed = record { frozen = λ _ far. absurd (far is); behind = λ _ u. (let a = h.known u in omega arith) };
          };
          station = λ _. record {
            there = r.there;
            keeps = r.keeps;
            ranks = st.ranks;
            known = h.known;
            unknown = λ u. (h.unknown u).0;
          };
        })
        (λ f. apart f.1 r.unfrozen)
        (λ z _. record { link = λ f _. apart f.1 r.unfrozen; lives = λ _ _ far _ _. absurd (far is) })
        (λ z far. record {
          link = λ f _. (let l = (k.links z x).link f st.there in record {
            from = l.from;
            other = l.other;
            target = r.target l.target;
            open_ = λ u. (r.up_ended (l.open_ u).0, r.no_end (l.open_ u).1);
            onward = l.onward;
            ahead = λ at. absurd (far (at ∙ sym is));
          });
          lives = λ _ _ _ _ _. r.there;
        })
        moved
        (λ _ _ far _ _. absurd (far is))
        (λ i l o. absurd (let a = l in omega arith))
        (record {
          sends = k.terminal.sends;
          radio = k.terminal.radio;
          delivered_are = h.delivered_are;
          done_reached = h.most;
        }),
  )
    where
      y : Delivery (List ℕ)
      y = deliver c.bearer.receiver

      both : (e : ℕ) × Delivers p s.reached d s.delivered c.flags.may_serve c.promised c.bearer.receiver.stored (deliver c.bearer.receiver) e
      both = hands_up p s.reached d s.delivered c.promised c.bearer.receiver k.terminal.done_reached k.terminal.delivered_are r.rises r.right
          c.flags.may_serve r.known r.unknown

      e : ℕ
      e = both.0

      h : Delivers p s.reached d s.delivered c.flags.may_serve c.promised c.bearer.receiver.stored (deliver c.bearer.receiver) both.0
      h = both.1

      t : Model
      t = record s { delivered = s.delivered ++ (deliver c.bearer.receiver).packets }

      after_it : Member
      after_it = record c { bearer = record c.bearer { receiver = (deliver c.bearer.receiver).after } }

      moved : (n i : ℕ) → 0 < n → n ≤ (g x).rank → IsAt s.station x m i
          → Beyond (record { station = s.station; done = both.0; reached = s.reached })
          (set s.members x (record c { bearer = record c.bearer { receiver = (deliver c.bearer.receiver).after } })) g n i
      moved n i z l at = by (r.moved i at)
        where
          here : IsAt s.station x (record c { bearer = record c.bearer { receiver = (deliver c.bearer.receiver).after } }) i
              → Beyond (record { station = s.station; done = both.0; reached = s.reached })
              (set s.members x (record c { bearer = record c.bearer { receiver = (deliver c.bearer.receiver).after } })) g n i
          here u = at_here s.station d both.0 s.reached s.reached h.more (omega arith) s.members g x
              (record c { bearer = record c.bearer { receiver = (deliver c.bearer.receiver).after } }) n i l u

          stored_by : (i < both.0) ⊎ (has (deliver c.bearer.receiver).after.stored i ≡ true)
              → Beyond (record { station = s.station; done = both.0; reached = s.reached })
              (set s.members x (record c { bearer = record c.bearer { receiver = (deliver c.bearer.receiver).after } })) g n i
          stored_by (inl u) = inl u
          stored_by (inr u) = here (r.there, inr (is, u))

          by : IsOnTunnel c i ⊎ (has c.bearer.receiver.stored i ≡ true)
              → Beyond (record { station = s.station; done = both.0; reached = s.reached })
              (set s.members x (record c { bearer = record c.bearer { receiver = (deliver c.bearer.receiver).after } })) g n i
          by (inl u) = here (r.there, inl u)
          by (inr u) = stored_by (h.keeps i u)

  -- ---- the frozen state ends

  still : (i : ℕ) → IsAt s.station x m i → IsOnTunnel m i ⊎ (has m.bearer.receiver.stored i ≡ true)
  still i (there, inl h) = inl h
  still i (there, inr h) = inr h.1

  pub kept_switches : Good p (after s (switches x))
  unfolding after
  kept_switches =
      kept_handed (record m { flags = record m.flags { frozen = false; arrived = true }; bearer = thawed m.bearer }) (record {
        there = st.there;
        keeps = st.keeps;
        unfrozen = refl;
        tunnels = own.tunnels;
        flags = record {
          served = λ f. absurd (true≢false (sym f));
          leads = λ u. apart u st.keeps;
          thawed = λ _. refl;
          ended = λ f. absurd (true≢false (sym f));
          was_there = λ _. st.ranks;
        };
        rises = own.holds.rises;
        right = own.holds.right;
        known = st.known;
        unknown = λ u. (st.unknown u, own.holds.unknown u);
        target = λ u. u;
        up_ended = λ u. u;
        no_end = λ u. u;
        moved = still;
      })

  pub kept_resumes : Good p (after s (resumes x))
  unfolding after
  kept_resumes =
      kept_handed (record m { flags = record m.flags { frozen = false }; bearer = thawed m.bearer }) (record {
        there = st.there;
        keeps = st.keeps;
        unfrozen = refl;
        tunnels = own.tunnels;
        flags = record {
          served = λ f. absurd (true≢false (sym f));
          leads = λ u. apart u st.keeps;
          thawed = λ _. refl;
          ended = λ f. absurd (true≢false (sym f));
          was_there = own.flags.was_there;
        };
        rises = own.holds.rises;
        right = own.holds.right;
        known = st.known;
        unknown = λ u. (st.unknown u, own.holds.unknown u);
        target = λ u. u;
        up_ended = λ u. u;
        no_end = λ u. u;
        moved = still;
      })

  -- ---- a packet comes that is new

  pub kept_delivers : (from : Source) (count : ℕ) (packet : List ℕ) (rest : List Item) → IsTaken m from (numbered count packet) rest
      → m.flags.frozen ≡ false → is_duplicate m.bearer.receiver count ≡ false
      → Good p (handed s x (with_rest m from rest) (deliver (stored m.bearer.receiver count packet)))
  unfolding stored
  kept_delivers from count packet rest taken unfrozen fresh = kept_handed (stores (with_rest m from rest) count packet) (record {
    there = st.there;
    keeps = st.keeps;
    unfrozen = unfrozen;
    tunnels = tunnels_taken p s.reached m.uplink m.forwarded (is_hop_up_done m.flags m.bearer) count packet rest own.tunnels from
        taken.stands;
    flags = own.flags;
    rises = rises_put m.bearer.receiver.deliv count packet m.bearer.receiver.stored (is_new m.bearer.receiver count fresh).0
        own.holds.rises;
    right = right_put p s.reached count packet m.bearer.receiver.stored
        (taken_right p s.reached m.uplink m.forwarded (is_hop_up_done m.flags m.bearer) count packet rest own.tunnels from taken.stands)
        own.holds.right;
    known = st.known;
    unknown = λ u. apart (passes p b x m (g x).rank from (numbered count packet) rest own taken).0 u;
    target = λ u. u;
    up_ended = λ u. u;
    no_end = no_end from taken.stands;
    moved = moved;
  })
    where
      no_end : (f : Source) → items_at m f ≡ numbered count packet ∷ rest → NoEnd m.forwarded → NoEnd (forwarded_left m.forwarded f rest)
      no_end (uplink_tunnel teid) at h = h
      no_end forwarding at h = rest_no_end count packet m.forwarded rest at h

      moved : (i : ℕ) → IsAt s.station x m i
          → IsOnTunnel (with_rest m from rest) i ⊎ (has (put nat_cmp m.bearer.receiver.stored count packet) i ≡ true)
      moved i (there, inr h) = inr (has_more count i packet m.bearer.receiver.stored h.1)
      moved i (there, inl h) = by (was_there i count packet rest m from taken.stands h)
        where
          by : (i ≡ count) ⊎ IsOnTunnel (with_rest m from rest) i
              → IsOnTunnel (with_rest m from rest) i ⊎ (has (put nat_cmp m.bearer.receiver.stored count packet) i ≡ true)
          by (inl e) = inr (subst (λ j. has (put nat_cmp m.bearer.receiver.stored count packet) j ≡ true) (sym e)
              (has_new count packet m.bearer.receiver.stored))
          by (inr u) = inl u
