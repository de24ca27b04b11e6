-- What the terminal does keeps all: it numbers, sends again, learns what was received, and leaves its radio.
use Rattle.std.proofs.Common.{◌≡◌, ℕ, ◌+◌, ◌<◌, ◌≤◌, max, Bool, true, false, not, nat_lt, List, [], ◌∷◌, ◌++◌, filter, refl, sym, ap, subst, ◌∙◌, arith}
use Rattle.std.proofs.lemmas.List.{append_assoc}
use Rattle.std.proofs.lemmas.List.Elements.{filter-append}
use Rattle.std.specs.List.{AllByRecursion}
use Rattle.intervals.specs.Intervals.{upto, HasNoGap, reach}
use Rattle.intervals.proofs.Intervals.{all_append, all_filter, all_upto, upto-snoc, upto-join, upto-head, upto-kept, upto-no_gap, upto-reach, reach-append, HasNoGap-append}
use Rattle.pdcp_defs.specs.Senders.{numbered as with_next, confirmed_to, confirmed_by, is_reported}
use Rattle.law_downlink_order.proofs.chain.Facts.{pairs}
use Rattle.law_downlink_order.proofs.chain.Frames.{apart}
use Rattle.bearer_defs.specs.uplink_defs.Models.{Model}
use Rattle.bearer_defs.specs.uplink_defs.Orders.{offers, numbers, connects, leaves, acknowledges, reports, after}
use Rattle.law_uplink_order.proofs.facts.Items.{IsRight, right_later}
use Rattle.law_uplink_order.proofs.facts.Facts.{Ghost, Sends, Radio, Terminal, Kept, Good}
use Rattle.law_uplink_order.proofs.facts.Frames.{kept_rest}

-- ---- the sender, while more is carried up and confirmed

pub sends_on : (p : ℕ → List ℕ) (reached n next offered : ℕ) (unconfirmed : List (ℕ × List ℕ)) (waiting : List (List ℕ)) → reached ≤ n
    → n ≤ next → Sends p reached next offered unconfirmed waiting → Sends p n next offered unconfirmed waiting
sends_on p reached n next offered unconfirmed waiting l m s = record {
  early = s.early ++ upto (pairs p) reached n;
  early_right = all_append (IsRight p n) s.early (upto (pairs p) reached n) (right_later p reached n l s.early s.early_right)
      (all_upto (IsRight p n) (pairs p) reached n (λ i o. (omega arith, refl)));
  unconfirmed_are = s.unconfirmed_are ∙ ap (λ xs. s.early ++ xs) (sym (upto-join (pairs p) reached n next l m))
      ∙ sym (append_assoc s.early (upto (pairs p) reached n) (upto (pairs p) n next));
  reached_next = m;
  waiting_are = s.waiting_are;
  next_offered = s.next_offered;
}

sends_confirmed : (p : ℕ → List ℕ) (reached next offered : ℕ) (unconfirmed : List (ℕ × List ℕ)) (waiting : List (List ℕ)) (q : ℕ → Bool)
    → ((i : ℕ) → reached ≤ i → q i ≡ true) → Sends p reached next offered unconfirmed waiting
    → Sends p reached next offered (filter (λ e. q e.0) unconfirmed) waiting
sends_confirmed p reached next offered unconfirmed waiting q above s = record {
  early = filter (λ e. q e.0) s.early;
  early_right = all_filter (IsRight p reached) (λ e. q e.0) s.early s.early_right;
  unconfirmed_are = ap (filter (λ e. q e.0)) s.unconfirmed_are ∙ filter-append (λ e. q e.0) s.early (upto (pairs p) reached next)
      ∙ ap (λ xs. filter (λ e. q e.0) s.early ++ xs) (upto-kept (pairs p) (λ e. q e.0) reached next above);
  reached_next = s.reached_next;
  waiting_are = s.waiting_are;
  next_offered = s.next_offered;
}

-- what was carried up before leaves no gap
early_no_gap : (p : ℕ → List ℕ) (n : ℕ) (es : List (ℕ × List ℕ)) → AllByRecursion (IsRight p n) es → HasNoGap n es × (reach n es ≡ n)
unfolding HasNoGap reach
early_no_gap p n [] h = (tt, refl)
early_no_gap p n (e ∷ es) h =
    let k = early_no_gap p n es h.1 in
    let same : max n (e.0 + 1) ≡ n = (let l = h.0.0 in omega arith) in
    (((let l = h.0.0 in omega arith), subst (λ m. HasNoGap m es) (sym same) k.0), ap (λ m. reach m es) same ∙ k.1)

packets_of_right : (p : ℕ → List ℕ) (n : ℕ) (es : List (ℕ × List ℕ)) → AllByRecursion (IsRight p n) es
    → AllByRecursion (λ (e : ℕ × List ℕ). e.1 ≡ p e.0) es
packets_of_right p n [] h = tt
packets_of_right p n (e ∷ es) h = (h.0.1, packets_of_right p n es h.1)

pub no_air : (p : ℕ → List ℕ) (reached next : ℕ) (is_connected : Bool) → reached ≤ next → is_connected ≡ false
    → Radio p reached next is_connected [] []
unfolding HasNoGap reach
no_air p reached next is_connected l off = record {
  no_gap = tt;
  most = l;
  all_on_air = λ on. apart on off;
  packets = tt;
  carried_are = tt;
}

module _ (p : ℕ → List ℕ) (s : Model) (d : ℕ) (g : ℕ → Ghost) (k : Kept p s d g) where
  kept_terminal : (t : Model) → t.reached ≡ s.reached → Terminal p t d
      → Good p (record t { members = s.members; station = s.station; reached = s.reached })
  kept_terminal t same terminal = (d, g, kept_rest p s t d g k same terminal)

  pub kept_offers : (packet : List ℕ) → packet ≡ p s.offered → Good p (after s (offers packet))
  unfolding after
  kept_offers packet is =
      let o = k.terminal.sends in
      kept_terminal (record s { terminal = record s.terminal { waiting = s.terminal.waiting ++ packet ∷ [] }; offered = s.offered + 1 }) refl
      (record {
        sends = record {
          early = o.early;
          early_right = o.early_right;
          unconfirmed_are = o.unconfirmed_are;
          reached_next = o.reached_next;
          waiting_are = rw (o.waiting_are, is) (sym (upto-snoc p s.terminal.sender.next s.offered o.next_offered));
          next_offered = (let l = o.next_offered in omega arith);
        };
        radio = k.terminal.radio;
        delivered_are = k.terminal.delivered_are;
        done_reached = k.terminal.done_reached;
      })

  pub kept_numbers : (packet : List ℕ) (rest : List (List ℕ)) → s.connected ≡ true → s.terminal.waiting ≡ packet ∷ rest
      → Good p (after s (numbers packet rest))
  unfolding after with_next HasNoGap reach
  kept_numbers packet rest on stands =
      let o = k.terminal.sends in
      let r = k.terminal.radio in
      let n : ℕ = s.terminal.sender.next in
      let j = upto-head p n s.offered packet rest (sym o.waiting_are ∙ stands) in
      let all : reach s.reached s.air ≡ n = (let a = r.most in let b = r.all_on_air on in omega arith) in
      let one : HasNoGap n ((n, packet) ∷ []) = (omega arith, tt) in
      let last : max n (n + 1) ≡ n + 1 = omega arith in
      let now : reach s.reached (s.air ++ (n, packet) ∷ []) ≡ n + 1 =
      reach-append s.reached s.air ((n, packet) ∷ []) ∙ ap (λ m. reach m ((n, packet) ∷ [])) all ∙ last in
      kept_terminal (record s {
        terminal = record s.terminal { sender = with_next s.terminal.sender packet; waiting = rest };
        air = s.air ++ (n, packet) ∷ [];
      }) refl
      (record {
        sends = record {
          early = o.early;
          early_right = o.early_right;
          unconfirmed_are = rw (o.unconfirmed_are, j.1)
              (append_assoc o.early (upto (pairs p) s.reached n) ((n, p n) ∷ [])
              ∙ ap (λ xs. o.early ++ xs) (sym (upto-snoc (pairs p) s.reached n o.reached_next)));
          reached_next = (let l = o.reached_next in omega arith);
          waiting_are = j.2;
          next_offered = (let l = j.0 in omega arith);
        };
        radio = record {
          no_gap = HasNoGap-append s.reached s.air ((n, packet) ∷ []) r.no_gap (subst (λ m. HasNoGap m ((n, packet) ∷ [])) (sym all) one);
          most = omega (arith, now);
          all_on_air = λ _. omega (arith, now);
          packets = all_append (λ (e : ℕ × List ℕ). e.1 ≡ p e.0) s.air ((n, packet) ∷ []) r.packets (j.1, tt);
          carried_are = r.carried_are;
        };
        delivered_are = k.terminal.delivered_are;
        done_reached = k.terminal.done_reached;
      })

  pub kept_connects : Good p (after s connects)
  unfolding after
  kept_connects =
      let o = k.terminal.sends in
      let n : ℕ = s.terminal.sender.next in
      let own : List (ℕ × List ℕ) = upto (pairs p) s.reached n in
      let e = early_no_gap p s.reached o.early o.early_right in
      let low : s.reached ≤ s.reached = omega arith in
      let now : reach s.reached s.terminal.sender.unconfirmed ≡ n =
      ap (reach s.reached) o.unconfirmed_are ∙ reach-append s.reached o.early own ∙ ap (λ m. reach m own) e.1
      ∙ upto-reach p s.reached s.reached n low ∙ (let l = o.reached_next in omega arith) in
      kept_terminal (record s { connected = true; air = s.terminal.sender.unconfirmed; carried = [] }) refl
      (record {
        sends = o;
        radio = record {
          no_gap = subst (λ xs. HasNoGap s.reached xs) (sym o.unconfirmed_are)
              (HasNoGap-append s.reached o.early own e.0
              (subst (λ m. HasNoGap m own) (sym e.1) (upto-no_gap p s.reached s.reached n low)));
          most = omega (arith, now);
          all_on_air = λ _. omega (arith, now);
          packets = subst (λ xs. AllByRecursion (λ (e : ℕ × List ℕ). e.1 ≡ p e.0) xs) (sym o.unconfirmed_are)
              (all_append (λ (e : ℕ × List ℕ). e.1 ≡ p e.0) o.early own (packets_of_right p s.reached o.early o.early_right)
              (all_upto (λ (e : ℕ × List ℕ). e.1 ≡ p e.0) (pairs p) s.reached n (λ _ _. refl)));
          carried_are = tt;
        };
        delivered_are = k.terminal.delivered_are;
        done_reached = k.terminal.done_reached;
      })

  pub kept_leaves : Good p (after s leaves)
  unfolding after
  kept_leaves = kept_terminal (record s { connected = false; air = []; carried = [] }) refl (record {
    sends = k.terminal.sends;
    radio = no_air p s.reached s.terminal.sender.next false k.terminal.sends.reached_next refl;
    delivered_are = k.terminal.delivered_are;
    done_reached = k.terminal.done_reached;
  })

  pub kept_acknowledges : (count : ℕ) (rest : List ℕ) → s.carried ≡ count ∷ rest → Good p (after s (acknowledges count rest))
  unfolding after confirmed_to
  kept_acknowledges count rest stands =
      let r = k.terminal.radio in
      let c : AllByRecursion (λ (c : ℕ). c < s.reached) (count ∷ rest) = rw stands at r.carried_are in
      kept_terminal
      (record s { terminal = record s.terminal { sender = confirmed_to s.terminal.sender count }; carried = rest }) refl
      (record {
        sends = sends_confirmed p s.reached s.terminal.sender.next s.offered s.terminal.sender.unconfirmed s.terminal.waiting
            (λ i. nat_lt count i) (λ i l. (let a = c.0 in let o : count < i = omega arith in grind arith)) k.terminal.sends;
        radio = record { no_gap = r.no_gap; most = r.most; all_on_air = r.all_on_air; packets = r.packets; carried_are = c.1 };
        delivered_are = k.terminal.delivered_are;
        done_reached = k.terminal.done_reached;
      })

  pub kept_reports : (fmc : ℕ) (bits : List Bool) → ((i : ℕ) → is_reported fmc bits i ≡ true → i < s.reached)
      → Good p (after s (reports fmc bits))
  unfolding after confirmed_by
  kept_reports fmc bits told =
      kept_terminal (record s { terminal = record s.terminal { sender = confirmed_by s.terminal.sender fmc bits } }) refl (record {
        sends = sends_confirmed p s.reached s.terminal.sender.next s.offered s.terminal.sender.unconfirmed s.terminal.waiting
            (λ i. not (is_reported fmc bits i)) (λ i l. by i l (is_reported fmc bits i) (told i)) k.terminal.sends;
        radio = k.terminal.radio;
        delivered_are = k.terminal.delivered_are;
        done_reached = k.terminal.done_reached;
      })
    where
      by : (i : ℕ) → s.reached ≤ i → (t : Bool) → (t ≡ true → i < s.reached) → not t ≡ true
      by i l true h = absurd (let o = h refl in omega arith)
      by i l false h = refl
