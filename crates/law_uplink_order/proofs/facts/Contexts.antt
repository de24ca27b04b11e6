-- What control does to one context keeps all: it is made, gets a further uplink tunnel, learns its SN status, is released, closes;
-- and a DU ends an uplink tunnel.
use Rattle.std.proofs.Common.{inl, inr, ◌≡◌, ◌≢◌, ◌⊎◌, ℕ, ◌+◌, ◌<◌, ◌≤◌, Bool, true, false, not, ◌||◌, ◌==◌, List, [], ◌∷◌, ◌++◌, refl, sym, ap, subst, ◌∙◌, true≢false, arith}
use Rattle.std.proofs.lemmas.List.Folds.{list_any-append}
use Rattle.std.specs.List.{AllByRecursion}
use Rattle.gnb_types.specs.declared.plans.SnStatus.{SnStatus}
use Rattle.intervals.proofs.Intervals.{all_append}
use Rattle.tables.specs.Tables.{find}
use Rattle.unit_defs.specs.CuUpBearers.{made, is_one_of, no_uplink, released}
use Rattle.bearer_defs.specs.chain_defs.Models.{set}
use Rattle.bearer_defs.specs.chain_defs.Orders.{known}
use Rattle.law_downlink_order.proofs.chain.Frames.{apart, set_here}
use Rattle.bearer_defs.specs.uplink_defs.Models.{Item, end_marker, Member, Model, new_member, no_member}
use Rattle.bearer_defs.specs.uplink_defs.Orders.{marks, makes, adds, knows, releases, closes, discards, is_hop_up_done, after}
use Rattle.bearer_defs.specs.uplink_defs.Assumptions.{Feeds, IsUnfed}
use Rattle.bearer_defs.specs.uplink_defs.Places.{Stands, IsAt}
use Rattle.law_uplink_order.proofs.facts.Items.{IsRightItem, NoData, EndsLast, ends_last-end, no_data-stands, stands-left}
use Rattle.law_uplink_order.proofs.facts.Receivers.{Rises}
use Rattle.law_uplink_order.proofs.facts.Facts.{Ghost, View, view, is_ended, Own, Beyond, Passed, Kept, Good}
use Rattle.law_uplink_order.proofs.facts.Frames.{either, put_one, kept_one, later_same, kept_ghost, at_here}

pub rises_none : (n : ℕ) (es : List (ℕ × List ℕ)) → es ≡ [] → Rises n es
unfolding Rises
rises_none n es none = rw none tt

pub none_open : (uplinks : List ℕ) (teid : ℕ) → no_uplink uplinks ≡ true → is_one_of uplinks teid ≡ true → ⊥
none_open [] teid none one = absurd (true≢false (sym one))
none_open (t ∷ ts) teid none one = absurd (true≢false (sym none))

still_open : (uplinks : List ℕ) (t teid : ℕ) → is_one_of uplinks teid ≡ true → is_one_of (uplinks ++ t ∷ []) teid ≡ true
still_open uplinks t teid one =
    list_any-append (λ c. c == teid) uplinks (t ∷ []) ∙ ap (λ b. b || is_one_of (t ∷ []) teid) one

pub not_done : (target up_ended : Bool) → target ≡ true → up_ended ≡ false → (not target || up_ended) ≡ true → ⊥
not_done target up_ended t e h = true≢false (sym (rw (t, e) at h))

module _ (p : ℕ → List ℕ) (s : Model) (d : ℕ) (g : ℕ → Ghost) (k : Kept p s d g) (x : ℕ) where
  abbrev m : Member
  m = s.members x

  abbrev b : View
  b = view s d

  pub feeds_not : Feeds m x → ⊥
  feeds_not f = ((k.links x x).link f f.0).other refl

  -- where the context is as it was, or holds more
  pub stays : (c : Member) → ((i : ℕ) → IsAt s.station x m i → IsAt s.station x c i) → (n i : ℕ) → 0 < n → n ≤ (g x).rank
      → IsAt s.station x m i → Beyond b (set s.members x c) g n i
  stays c more n i z l h =
      at_here s.station d d s.reached s.reached (omega arith) (omega arith) s.members g x c n i l (more i h)

  pub kept_marks : (teid : ℕ) → Good p (after s (marks x teid))
  unfolding after EndsLast NoData Passed
  kept_marks teid =
      let items : List Item = m.uplink teid ++ end_marker ∷ [] in
      let c : Member = record m { uplink = set m.uplink teid items } in (
        d,
        g,
        kept_one p s s d d g x c k (later_same s d x)
            (record {
              own = λ there. (let o = (k.each x).own there in record {
                tunnels = record {
                  uplink_right = put_one (λ _ xs. AllByRecursion (IsRightItem p s.reached) xs) m.uplink teid items
                      (all_append (IsRightItem p s.reached) (m.uplink teid) (end_marker ∷ []) (o.tunnels.uplink_right teid) (tt, tt))
                      (λ t _. o.tunnels.uplink_right t);
                  uplink_last = put_one (λ _ xs. EndsLast xs) m.uplink teid items
                      (ends_last-end (m.uplink teid) (o.tunnels.uplink_last teid)) (λ t _. o.tunnels.uplink_last t);
                  right = o.tunnels.right;
                  last = o.tunnels.last;
                  over = o.tunnels.over;
                };
                holds = o.holds;
                flags = o.flags;
                placed = o.placed;
              });
              station = (k.each x).station;
            })
            feeds_not
            (λ y _. record { link = (k.links x y).link; lives = (k.links x y).lives })
            (λ z _. record { link = (k.links z x).link; lives = (k.links z x).lives })
            (stays c more)
            (k.passed x)
            (λ i l o. absurd (let a = l in omega arith))
            k.terminal,
      )
    where
      tunnel : (i : ℕ) (t : ℕ) → Stands i (m.uplink t) → Stands i (set m.uplink teid (m.uplink teid ++ end_marker ∷ []) t)
      tunnel i t = put_one (λ t xs. Stands i (m.uplink t) → Stands i xs) m.uplink teid (m.uplink teid ++ end_marker ∷ [])
          (stands-left i (m.uplink teid) (end_marker ∷ [])) (λ _ _ h. h) t

      more : (i : ℕ) → IsAt s.station x m i
          → IsAt s.station x (record m { uplink = set m.uplink teid (m.uplink teid ++ end_marker ∷ []) }) i
      more i (there, inl (inl h)) = (there, inl (inl h))
      more i (there, inl (inr (t, is, h))) = (there, inl (inr (t, is, tunnel i t h)))
      more i (there, inr h) = (there, inr h)

  pub kept_adds : (teid : ℕ) → m.flags.frozen ≡ false → Good p (after s (adds x teid))
  unfolding after Passed
  kept_adds teid unfrozen =
      let c : Member = record m { bearer = record m.bearer { uplinks = m.bearer.uplinks ++ teid ∷ [] } } in (
        d,
        g,
        kept_one p s s d d g x c k (later_same s d x)
            (record {
              own = λ there. (let o = (k.each x).own there in record {
                tunnels = o.tunnels;
                holds = o.holds;
                flags = record {
                  served = o.flags.served;
                  leads = o.flags.leads;
                  thawed = o.flags.thawed;
                  ended = λ e. absurd (true≢false (sym (subst (λ h. is_ended h ≡ true) (o.flags.thawed unfrozen) e)));
                  was_there = o.flags.was_there;
                };
                placed = o.placed;
              });
              station = (k.each x).station;
            })
            feeds_not
            (λ y _. record { link = (k.links x y).link; lives = (k.links x y).lives })
            (λ z _. record { link = (k.links z x).link; lives = (k.links z x).lives })
            (stays c more)
            (k.passed x)
            (λ i l o. absurd (let a = l in omega arith))
            k.terminal,
      )
    where
      more : (i : ℕ) → IsAt s.station x m i
          → IsAt s.station x (record m { bearer = record m.bearer { uplinks = m.bearer.uplinks ++ teid ∷ [] } }) i
      more i (there, inl (inl h)) = (there, inl (inl h))
      more i (there, inl (inr (t, is, h))) = (there, inl (inr (t, still_open m.bearer.uplinks teid t is, h)))
      more i (there, inr h) = (there, inr h)

  pub kept_knows : (status : SnStatus) → m.flags.may_serve ≡ false → status.ul_first ≡ m.promised → Good p (after s (knows x status))
  unfolding after Passed
  kept_knows status unknown is =
      let c : Member = record m { flags = record m.flags { may_serve = true }; bearer = known m.bearer status } in (
        d,
        g,
        kept_one p s s d d g x c k (later_same s d x)
            (record {
              own = λ there. (let o = (k.each x).own there in
                  let none = o.holds.unknown unknown in record {
                    tunnels = o.tunnels;
                    holds = record {
                      right = o.holds.right;
                      rises = rises_none status.ul_first m.bearer.receiver.stored none;
                      handed_up = λ _. rises_none (status.ul_first + 1) m.bearer.receiver.stored none;
                      given_up = o.holds.given_up;
                      unknown = λ _. none;
                    };
                    flags = record {
                      served = λ f. (refl, (o.flags.served f).1);
                      leads = o.flags.leads;
                      thawed = o.flags.thawed;
                      ended = o.flags.ended;
                      was_there = o.flags.was_there;
                    };
                    placed = record {
                      frozen = o.placed.frozen;
                      behind = λ pos _. behind o pos;
                    };
                  });
              station = λ e. (let st = (k.each x).station e in record {
                there = st.there;
                keeps = st.keeps;
                ranks = st.ranks;
                known = λ _. is ∙ st.unknown unknown;
                unknown = λ u. absurd (true≢false u);
              });
            })
            feeds_not
            (λ y _. record { link = (k.links x y).link; lives = (k.links x y).lives })
            (λ z _. record {
              link = λ f u. (let l = (k.links z x).link f u in record {
                from = l.from;
                other = l.other;
                target = l.target;
                open_ = l.open_;
                onward = l.onward;
                ahead = λ e. (let a = l.ahead e in record {
                  ranks = a.ranks;
                  arrived = a.arrived;
                  keeps = a.keeps;
                  known = λ _. is ∙ a.unknown unknown;
                  unknown = λ u. absurd (true≢false u);
                  forwarded = a.forwarded;
                });
              });
              lives = (k.links z x).lives;
            })
            (stays c (λ i h. h))
            (k.passed x)
            (λ i l o. absurd (let a = l in omega arith))
            k.terminal,
      )
    where
      behind : Own p b x m (g x).rank → 0 < (g x).rank → status.ul_first ≤ d
      behind o pos = by (either x s.station)
        where
          by : (x ≡ s.station) ⊎ (x ≢ s.station) → status.ul_first ≤ d
          by (inl e) = let a = ((k.each x).station e).unknown unknown in let c = is in omega arith
          by (inr far) = apart (o.flags.served (o.placed.frozen pos far)).0 unknown

  pub kept_releases : m.flags.frozen ≡ true → x ≢ s.station → Good p (after s (releases x))
  unfolding after Rises Passed find
  kept_releases frozen far =
      let c : Member = record m { flags = record m.flags { released = true }; bearer = released m.bearer } in (
        d,
        g,
        kept_one p s s d d g x c k (later_same s d x)
            (record {
              own = λ there. (let o = (k.each x).own there in record {
                tunnels = o.tunnels;
                holds = record { right = tt; rises = tt; handed_up = λ _. tt; given_up = λ _. refl; unknown = λ _. refl };
                flags = record {
                  served = o.flags.served;
                  leads = λ _. frozen;
                  thawed = o.flags.thawed;
                  ended = o.flags.ended;
                  was_there = o.flags.was_there;
                };
                placed = o.placed;
              });
              station = λ e. absurd (far e);
            })
            feeds_not
            (λ y _. record {
              link = λ f u. (let l = (k.links x y).link f u in record {
                from = l.from;
                other = l.other;
                target = l.target;
                open_ = l.open_;
                onward = l.onward;
                ahead = λ e. absurd (far e);
              });
              lives = (k.links x y).lives;
            })
            (λ z _. record {
              link = λ f u. (let l = (k.links z x).link f u in record {
                from = l.from;
                other = l.other;
                target = l.target;
                open_ = l.open_;
                onward = l.onward;
                ahead = λ e. apart (((k.each x).own u).flags.served frozen).1 (l.ahead e).arrived;
              });
              lives = (k.links z x).lives;
            })
            (stays c more)
            (λ _ _ _ i h. absurd (true≢false (sym h)))
            (λ i l o. absurd (let a = l in omega arith))
            k.terminal,
      )
    where
      more : (i : ℕ) → IsAt s.station x m i
          → IsAt s.station x (record m { flags = record m.flags { released = true }; bearer = released m.bearer }) i
      more i (there, inl h) = (there, inl h)
      more i (there, inr h) = absurd (far h.0)

  -- ---- a context is gone: nothing of it was on its way, and nobody is still to send on to it

  gone : x ≢ s.station
      → ((i : ℕ) → 0 < (g x).rank → IsAt s.station x m i → ⊥)
      → ((z : ℕ) → z ≢ s.station → Feeds (s.members z) x → is_ended (s.members z).bearer.hop ≡ false → 0 < (g z).rank
      → m.is_there ≡ true → ⊥)
      → Good p (record s { members = set s.members x no_member })
  gone far none unfed = (
    d,
    g,
    kept_one p s s d d g x no_member k (later_same s d x)
        (record { own = λ there. absurd (true≢false (sym there)); station = λ e. absurd (far e) })
        (λ f. absurd (true≢false (sym f.0)))
        (λ y _. record { link = λ f _. absurd (true≢false (sym f.0)); lives = λ there _ _ _ _. absurd (true≢false (sym there)) })
        (λ z _. record {
          link = λ _ u. absurd (true≢false (sym u));
          lives = λ there pos away open_ leads.
              absurd (unfed z away
              (there, ((k.each z).own there).placed.frozen pos away, leads) open_ pos ((k.links z x).lives there pos away open_ leads));
        })
        (λ n i z l h. absurd (none i (omega arith) h))
        (λ there _ _ _ _. absurd (true≢false (sym there)))
        (λ i l o. absurd (let a = l in omega arith))
        k.terminal,
  )

  pub kept_closes : m.flags.released ≡ true → no_uplink m.bearer.uplinks ≡ true → is_hop_up_done m.flags m.bearer ≡ true
      → Good p (after s (closes x))
  unfolding after
  kept_closes released none done = gone far nothing unfed
    where
      far : x ≢ s.station
      far e = apart released ((k.each x).station e).keeps

      nothing : (i : ℕ) → 0 < (g x).rank → IsAt s.station x m i → ⊥
      nothing i pos (there, inl (inl h)) = no_data-stands i m.forwarded (((k.each x).own there).tunnels.over done) h
      nothing i pos (there, inl (inr (t, is, h))) = none_open m.bearer.uplinks t none is
      nothing i pos (there, inr h) = far h.0

      unfed : (z : ℕ) → z ≢ s.station → Feeds (s.members z) x → is_ended (s.members z).bearer.hop ≡ false → 0 < (g z).rank
          → m.is_there ≡ true → ⊥
      unfed z away f open_ pos u =
          let l = (k.links z x).link f u in not_done m.flags.target m.bearer.up_ended l.target (l.open_ open_).0 done

  pub kept_discards : m.flags.arrived ≡ false → x ≢ s.station → Good p (after s (discards x))
  unfolding after
  kept_discards absent far = gone far (λ i pos h. never pos h.0) unfed
    where
      never : 0 < (g x).rank → m.is_there ≡ true → ⊥
      never pos there = let o = (k.each x).own there in apart (o.flags.served (o.placed.frozen pos far)).1 absent

      unfed : (z : ℕ) → z ≢ s.station → Feeds (s.members z) x → is_ended (s.members z).bearer.hop ≡ false → 0 < (g z).rank
          → m.is_there ≡ true → ⊥
      unfed z away f open_ pos u = never (let l = ((k.links z x).link f u).onward away in omega arith) u

  -- ---- a new context

  pub kept_makes : (teid : ℕ) → m.is_there ≡ false → IsUnfed s x → Good p (after s (makes x teid))
  unfolding after made EndsLast NoData Rises
  kept_makes teid absent unfed = (
    d,
    h,
    kept_one p s s d d h x c j (later_same s d x)
        (record {
          own = λ _. subst (λ n. Own p b x c n) (sym rank_is) (record {
            tunnels = record { uplink_right = λ _. tt; uplink_last = λ _. tt; right = tt; last = tt; over = λ _. tt };
            holds = record { right = tt; rises = tt; handed_up = λ _. tt; given_up = λ _. refl; unknown = λ _. refl };
            flags = record {
              served = λ e. absurd (true≢false (sym e));
              leads = λ e. absurd (true≢false (sym e));
              thawed = λ _. refl;
              ended = λ e. absurd (true≢false (sym e));
              was_there = λ e. absurd (true≢false (sym e));
            };
            placed = record {
              frozen = λ l _. absurd (let a : 0 < 0 = l in omega arith);
              behind = λ l _. absurd (let a : 0 < 0 = l in omega arith);
            };
          });
          station = λ e. apart ((k.each x).station e).there absent;
        })
        (λ f. absurd (true≢false (sym f.1)))
        (λ y _. record { link = λ f _. absurd (true≢false (sym f.1)); lives = λ _ pos _ _ _. absurd (no_rank pos) })
        (λ z _. record { link = λ f _. absurd (unfed z f); lives = λ _ _ _ _ _. refl })
        (λ n i z l o. apart o.0 absent)
        (λ _ pos _ _ _. absurd (no_rank pos))
        (λ i l o. absurd (let a = l in omega arith))
        k.terminal,
  )
    where
      h : ℕ → Ghost
      h = set g x (record { rank = 0; from = 0 })

      c : Member
      c = new_member true teid

      j : Kept p s d h
      j = kept_ghost p s d g x (record { rank = 0; from = 0 }) (λ there. apart there absent) k unfed

      rank_is : (h x).rank ≡ 0
      rank_is = ap (λ (f : Ghost). f.rank) (set_here g x (record { rank = 0; from = 0 }))

      no_rank : 0 < (h x).rank → ⊥
      no_rank pos = let e = rank_is in let a : 0 < 0 = omega arith in omega arith
