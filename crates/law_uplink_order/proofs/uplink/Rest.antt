-- The worked run comes to rest: nothing is under way any more.
use Rattle.std.proofs.Common.{◌≡◌, ℕ, ◌==◌, ◌||◌, ◌++◌, if◌then◌else◌, nat_lt, Bool, true, false, List, [], ◌∷◌, Option, Some, None, refl, sym, ap, subst, ◌∙◌, true≢false, eqb-true}
use Rattle.std.specs.Prelude.{⊤}
use Rattle.tables.specs.Tables.{find, put}
use Rattle.pdcp_defs.specs.Senders.{numbered as with_next, confirmed_to, confirmed_by}
use Rattle.pdcp_defs.specs.Receivers.{is_duplicate, stored, deliver}
use Rattle.unit_defs.specs.CuUpRecords.{SourceHop}
use Rattle.unit_defs.specs.CuUpBearers.{made, released, thawed, is_one_of}
use Rattle.bearer_defs.specs.chain_defs.Models.{set}
use Rattle.bearer_defs.specs.chain_defs.Orders.{frozen, known}
use Rattle.law_downlink_order.proofs.chain.Frames.{apart}
use Rattle.bearer_defs.specs.uplink_defs.Models.{Item, numbered, end_marker, Member, Model, initial, new_member, no_member, uplink_tunnel, forwarding, with_rest}
use Rattle.bearer_defs.specs.uplink_defs.Orders.{ModelStep, carries, marks, makes, adds, freezes, knows, switches, resumes, releases, closes, discards, takes, ends_uplink, ends_hop, late, stores, without_uplink, passed, stored_at, new_at, late_at, taken_at, is_up_over, with_ended, ended_if, ended_at, after, run}
use Rattle.bearer_defs.specs.uplink_defs.Assumptions.{IsOpen}
use Rattle.law_uplink_order.specs.uplink.Relay.{relay}
use Rattle.law_uplink_order.specs.uplink.Words.{IsQuiet}

-- ---- a context that no order makes is never there

unfoldable NotMade : ℕ → List ModelStep → Type 0
NotMade q [] = ⊤
NotMade q (makes x teid ∷ os) = ((q == x) ≡ false) × NotMade q os
NotMade q (o ∷ os) = NotMade q os

-- what changes at one context, where that stays there or not
same_there : (f : ℕ → Member) (k : ℕ) (m : Member) (x : ℕ) → m.is_there ≡ (f k).is_there → (f x).is_there ≡ (set f k m x).is_there
same_there f k m x e = by (x == k) refl
  where
    by : (t : Bool) → (x == k) ≡ t → (f x).is_there ≡ (if t then m else f x).is_there
    by true at = ap (λ y. (f y).is_there) (eqb-true x k at) ∙ sym e
    by false at = refl

module _ (q : ℕ) where
  abbrev Gone : Model → Type 0
  Gone s = (s.members q).is_there ≡ false

  keeps : (f : ℕ → Member) (k : ℕ) (m : Member) → m.is_there ≡ (f k).is_there → (f q).is_there ≡ false → (set f k m q).is_there ≡ false
  keeps f k m e h = sym (same_there f k m q e) ∙ h

  set_away : (f : ℕ → Member) (k : ℕ) (m : Member) (t : Bool) → (t ≡ true → m.is_there ≡ false) → (f q).is_there ≡ false
      → (if t then m else f q).is_there ≡ false
  set_away f k m true e h = e refl
  set_away f k m false e h = h

  passes : (s : Model) (x : ℕ) (m : Member) (items : List Item) → m.is_there ≡ (s.members x).is_there → Gone s → Gone (passed s x m items)
  passes s x m items e h =
      let f = set s.members x m in
      let t = f m.next_hop in
      keeps f m.next_hop (record t { forwarded = t.forwarded ++ items }) refl (keeps s.members x m e h)

  module _ (s : Model) (x : ℕ) (h : Gone s) where
    module _ (m : Member) (e : m.is_there ≡ (s.members x).is_there) where
      ended_if_by : (hop : SourceHop) (t : Bool) → Gone (ended_if s x m hop t)
      ended_if_by hop true = passes s x (with_ended m hop) (end_marker ∷ []) e h
      ended_if_by hop false = keeps s.members x m e h

      ended_by : (hop : Option SourceHop) → Gone (ended_at s x m hop)
      ended_by None = keeps s.members x m e h
      ended_by (Some hop) = ended_if_by hop (is_up_over m hop)

      module _ (count : ℕ) (packet : List ℕ) where
        stored_by : (t : Bool) → Gone (stored_at s x m count packet t)
        stored_by true = passes s x (stores m count packet) (numbered count packet ∷ []) e h
        stored_by false =
            let d = deliver (stored m.bearer.receiver count packet) in
            keeps s.members x (record m { bearer = record m.bearer { receiver = d.after } }) e h

        new_by : (t : Bool) → Gone (new_at s x m count packet t)
        new_by true = keeps s.members x m e h
        new_by false = stored_by m.flags.frozen

        late_by : (t : Bool) → Gone (late_at s x m count packet t)
        late_by true = keeps s.members x m e h
        late_by false = passes s x m (numbered count packet ∷ []) e h

        taken_by : (t : Bool) → Gone (taken_at s x m count packet t)
        taken_by true = late_by (nat_lt count m.bearer.receiver.deliv)
        taken_by false = new_by (is_duplicate m.bearer.receiver count)

  stays_gone : (s : Model) (o : ModelStep) (os : List ModelStep) → Gone s → NotMade q (o ∷ os) → Gone (after s o) × NotMade q os
  unfolding after NotMade
  stays_gone s (carries teid count packet rest) os h n =
      let m = s.members s.station in
      (keeps s.members s.station (record m { uplink = set m.uplink teid (m.uplink teid ++ numbered count packet ∷ []) }) refl h, n)
  stays_gone s (marks x teid) os h n =
      let m = s.members x in
      (keeps s.members x (record m { uplink = set m.uplink teid (m.uplink teid ++ end_marker ∷ []) }) refl h, n)
  stays_gone s (makes x teid) os h n =
      (set_away s.members x (new_member true teid) (q == x) (λ at. absurd (true≢false (sym at ∙ n.0))) h, n.1)
  stays_gone s (adds x teid) os h n =
      let m = s.members x in
      (keeps s.members x (record m { bearer = record m.bearer { uplinks = m.bearer.uplinks ++ teid ∷ [] } }) refl h, n)
  stays_gone s (freezes x to hop) os h n =
      let m = s.members x in
      let t = s.members to in
      let f = set s.members to (record t { forwarded = t.forwarded ++ late m.bearer; promised = m.bearer.receiver.deliv }) in (
        keeps f x (record m {
          flags = record m.flags { frozen = true };
          bearer = frozen m.bearer (record hop { up_ended = false });
          next_hop = to;
        })
            (same_there s.members to (record t { forwarded = t.forwarded ++ late m.bearer; promised = m.bearer.receiver.deliv }) x refl)
            (keeps s.members to (record t { forwarded = t.forwarded ++ late m.bearer; promised = m.bearer.receiver.deliv }) refl h),
        n,
      )
  stays_gone s (knows x status) os h n =
      let m = s.members x in
      (keeps s.members x (record m { flags = record m.flags { may_serve = true }; bearer = known m.bearer status }) refl h, n)
  stays_gone s (switches x) os h n =
      let m = s.members x in (
        keeps s.members x (record m {
          flags = record m.flags { frozen = false; arrived = true };
          bearer = record (thawed m.bearer) { receiver = (deliver m.bearer.receiver).after };
        }) refl h,
        n,
      )
  stays_gone s (resumes x) os h n =
      let m = s.members x in (
        keeps s.members x (record m {
          flags = record m.flags { frozen = false };
          bearer = record (thawed m.bearer) { receiver = (deliver m.bearer.receiver).after };
        }) refl h,
        n,
      )
  stays_gone s (releases x) os h n =
      let m = s.members x in
      (keeps s.members x (record m { flags = record m.flags { released = true }; bearer = released m.bearer }) refl h, n)
  stays_gone s (closes x) os h n = (set_away s.members x no_member (q == x) (λ at. refl) h, n)
  stays_gone s (discards x) os h n = (set_away s.members x no_member (q == x) (λ at. refl) h, n)
  stays_gone s (takes x from count packet rest) os h n =
      (taken_by s x h (with_rest (s.members x) from rest) refl count packet (s.members x).flags.released, n)
  stays_gone s (ends_uplink x teid rest) os h n =
      let m = without_uplink (with_rest (s.members x) (uplink_tunnel teid) rest) teid in
      (ended_by s x h m refl m.bearer.hop, n)
  stays_gone s (ends_hop x rest) os h n =
      let m = with_rest (s.members x) forwarding rest in
      (ended_by s x h (record m { bearer = record m.bearer { up_ended = true } }) refl m.bearer.hop, n)
  stays_gone s _ os h n = (h, n)

  never_there : (s : Model) (os : List ModelStep) → Gone s → NotMade q os → Gone (run s os)
  unfolding run
  never_there s [] h n = h
  never_there s (o ∷ os) h n = let e = stays_gone s o os h n in never_there (after s o) os e.0 e.1

-- ---- the worked run

abbrev at_rest : Model
at_rest = run (initial 1 10) relay

-- nothing stands at a context
record Empty (m : Member) : Type 0 where
  uplink : (teid : ℕ) → m.is_there ≡ true → IsOpen m (uplink_tunnel teid) → m.uplink teid ≡ []
  forwarded : m.is_there ≡ true → m.forwarded ≡ []

empty_gone : (m : Member) → m.is_there ≡ false → Empty m
empty_gone m gone = record { uplink = λ teid there open_. apart there gone; forwarded = λ there. apart there gone }

-- with one uplink tunnel
only_one : (k teid : ℕ) (b : Bool) → (k == teid) ≡ b → (b || false) ≡ true → k ≡ teid
only_one k teid true e h = eqb-true k teid e
only_one k teid false e h = absurd (true≢false (sym h))

empty_one : (m : Member) (k : ℕ) → m.bearer.uplinks ≡ k ∷ [] → m.uplink k ≡ [] → m.forwarded ≡ [] → Empty m
empty_one m k uplinks none none_forwarded = record {
  uplink = λ teid there open_. ap m.uplink (sym (only_one k teid (k == teid) refl (subst (λ ts. is_one_of ts teid ≡ true) uplinks open_))) ∙ none;
  forwarded = λ there. none_forwarded;
}

start_gone : (q : ℕ) → (q == 1) ≡ false → ((initial 1 10).members q).is_there ≡ false
unfolding initial
start_gone q one = set_away q (λ x. no_member) 1 (new_member false 10) (q == 1) (λ at. absurd (true≢false (sym at ∙ one))) refl

others : (q : ℕ) → (q == 1) ≡ false → (q == 2) ≡ false → (q == 3) ≡ false → (at_rest.members q).is_there ≡ false
unfolding relay NotMade
others q one two three = never_there q (initial 1 10) relay (start_gone q one) (two, (three, tt))

first : (at_rest.members 1).is_there ≡ false
unfolding relay initial run after made with_next confirmed_to confirmed_by is_duplicate stored deliver find put
first = refl

second : (at_rest.members 2).is_there ≡ false
unfolding relay initial run after made with_next confirmed_to confirmed_by is_duplicate stored deliver find put
second = refl

third : Empty (at_rest.members 3)
unfolding relay initial run after made with_next confirmed_to confirmed_by is_duplicate stored deliver find put
third = empty_one (at_rest.members 3) 31 refl refl refl

each : (q : ℕ) → Empty (at_rest.members q)
each q = by (q == 1) (q == 2) (q == 3) refl refl refl
  where
    at : (k : ℕ) → (q == k) ≡ true → Empty (at_rest.members k) → Empty (at_rest.members q)
    at k e h = subst (λ x. Empty (at_rest.members x)) (sym (eqb-true q k e)) h

    by : (a b c : Bool) → (q == 1) ≡ a → (q == 2) ≡ b → (q == 3) ≡ c → Empty (at_rest.members q)
    by true b c e f g = at 1 e (empty_gone (at_rest.members 1) first)
    by false true c e f g = at 2 f (empty_gone (at_rest.members 2) second)
    by false false true e f g = at 3 g third
    by false false false e f g = empty_gone (at_rest.members q) (others q e f g)

unconfirmed : at_rest.terminal.sender.unconfirmed ≡ []
unfolding relay initial run after made with_next confirmed_to confirmed_by is_duplicate stored deliver find put
unconfirmed = refl

waiting : at_rest.terminal.waiting ≡ []
unfolding relay initial run after made with_next confirmed_to confirmed_by is_duplicate stored deliver find put
waiting = refl

serves : (at_rest.members at_rest.station).flags.frozen ≡ false
unfolding relay initial run after made with_next confirmed_to confirmed_by is_duplicate stored deliver find put
serves = refl

pub relay_rests : IsQuiet (run (initial 1 10) relay)
relay_rests = record {
  uplink = λ q teid there open_. (each q).uplink teid there open_;
  forwarded = λ q there. (each q).forwarded there;
  unconfirmed = unconfirmed;
  waiting = waiting;
  serves = serves;
}
