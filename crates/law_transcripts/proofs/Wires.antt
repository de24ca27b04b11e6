-- A sound transcript keeps the wires: what stands on the run's links after its lines is what looking back gives.
use Rattle.std.proofs.Common.{◌≡◌, ℕ, ◌+◌, ◌-◌, ◌==◌, ◌&&◌, suc, zero, Bool, true, false, cond, List, [], ◌∷◌, ◌++◌, map, drop, Some, length, refl, ap, ◌∙◌, sym, subst, arith, eqb-true, eq-eqb}
use Rattle.std.specs.Prelude.{slice_get}
use Rattle.std.proofs.lemmas.List.{append-nil, map-append, length-map}
use Rattle.std.specs.declared.cmp.Ordering.{Ordering}
use Rattle.std.specs.declared.cmp.Ordering.TheVariants.{Equal}
use Rattle.std.specs.Ordering.{eq_by_cmp, is_eq}
use Rattle.std.specs.Cmp.{IsTotalOrder, Equal-is, tied_itself, both_ways}
use Rattle.gnb_types.specs.declared.keys.EntityKey.{EntityKey}
use Rattle.gnb_types.specs.Orders.{node_cmp, entity_cmp}
use Rattle.gnb_types.proofs.OrderLemmas.{node_total, node_exact, entity_total, entity_exact}
use Rattle.scenario_text.specs.declared.line.Link.{Link}
use Rattle.scenario_text.specs.declared.line.Link.TheVariants.{Tunnel, Radio}
use Rattle.scenario_text.specs.declared.line.Item.{Item}
use Rattle.scenario_text.specs.declared.line.Message.{Message}
use Rattle.scenario_text.specs.declared.line.OutLine.TheVariants as lines
use Rattle.transcript_defs.specs.declared.line.TextLine.{TextLine}
use Rattle.transcript_defs.specs.declared.line.TextLine.TheVariants.{Printed}
use Rattle.transcript_defs.specs.declared.rule.Rule.TheVariants as rules
use Rattle.transcript_defs.specs.Past.{same_link, after_loss, standing, messages}
use Rattle.transcript_defs.specs.Rules.{Spelling, IsOnWire}
use Rattle.transcript_defs.specs.Sound.{AreSound}
use Rattle.run_defs.specs.Lines.{RunLine}
use Rattle.run_defs.specs.Said as run
use Rattle.law_transcripts.specs.OfRuns.{control_message_of, run_line, lines_of_run}

abbrev Line : Type 0
Line = RunLine (List ℕ)

abbrev On : Type 0
On = run.OnLinks (List ℕ)

-- ---- lists of lines

abbrev after_lines : On → List Line → On
after_lines on [] = on
after_lines on (line ∷ lines) = after_lines (run.after_line on line) lines

after_more : (on : On) (xs ys : List Line) → after_lines on (xs ++ ys) ≡ after_lines (after_lines on xs) ys
after_more on [] ys = refl
after_more on (x ∷ xs) ys = after_more (run.after_line on x) xs ys

wires_more : (on : On) (xs ys : List Line) → run.WiresFrom on xs → run.WiresFrom (after_lines on xs) ys → run.WiresFrom on (xs ++ ys)
wires_more on [] ys w more = more
wires_more on (x ∷ xs) ys w more = (w.0, wires_more (run.after_line on x) xs ys w.1 more)

-- ---- links that are the same

first_of_two : (a b : Bool) → a && b ≡ true → a ≡ true
first_of_two true b p = refl
first_of_two false b p = p

second_of_two : (a b : Bool) → a && b ≡ true → b ≡ true
second_of_two true b p = p
second_of_two false b p = absurd cc

turned : {K : Type 0} (R : K → K → Ordering) → IsTotalOrder R → ((a b : K) → R a b ≡ Equal → a ≡ b) → (a b : K)
    → eq_by_cmp R a b ≡ true → eq_by_cmp R b a ≡ true
turned R total exact a b e =
    let same : a ≡ b = exact a b ((Equal-is (R a b)).0 e) in
    ap (λ c. eq_by_cmp R b c) same ∙ ap is_eq (tied_itself total b)

either_way : {K : Type 0} (R : K → K → Ordering) → IsTotalOrder R → ((a b : K) → R a b ≡ Equal → a ≡ b) → (a b : K)
    → eq_by_cmp R a b ≡ eq_by_cmp R b a
either_way R total exact a b = both_ways (eq_by_cmp R a b) (eq_by_cmp R b a) (turned R total exact a b) (turned R total exact b a)

numbers : (m n : ℕ) → (m == n) ≡ (n == m)
numbers m n = both_ways (m == n) (n == m) (λ e. eq-eqb n m (sym (eqb-true m n e))) (λ e. eq-eqb m n (sym (eqb-true n m e)))

both_parts : {a b c d : Bool} → a ≡ b → c ≡ d → (a && c) ≡ (b && d)
both_parts p q = λ i. p i && q i

-- a run asks whether the line's link is the one that is looked at, a transcript the other way round
same_links : (link other : Link) → run.same_link link other ≡ same_link other link
same_links (Tunnel a m) (Tunnel b n) = both_parts (either_way node_cmp node_total node_exact a b) (numbers m n)
same_links (Radio u b d m) (Radio v c f n) =
    both_parts (either_way entity_cmp entity_total entity_exact (record { ue = u; bearer = b; dir = d }) (record { ue = v; bearer = c; dir = f })) (numbers m n)
same_links (Tunnel a m) (Radio v c f n) = refl
same_links (Radio u b d m) (Tunnel a n) = refl

one_link : (a b : Link) → run.same_link a b ≡ true → a ≡ b
one_link (Tunnel a m) (Tunnel b n) e =
    let nodes : a ≡ b = node_exact a b ((Equal-is (node_cmp a b)).0 (first_of_two _ _ e)) in
    let teids : m ≡ n = eqb-true m n (second_of_two (eq_by_cmp node_cmp a b) _ e) in
    λ i. Tunnel (nodes i) (teids i)
one_link (Radio u b d m) (Radio v c f n) e =
    let x : EntityKey = record { ue = u; bearer = b; dir = d } in
    let y : EntityKey = record { ue = v; bearer = c; dir = f } in
    let keys : x ≡ y = entity_exact x y ((Equal-is (entity_cmp x y)).0 (first_of_two _ _ e)) in
    let epochs : m ≡ n = eqb-true m n (second_of_two (eq_by_cmp entity_cmp x y) _ e) in
    λ i. Radio (keys i).ue (keys i).bearer (keys i).dir (epochs i)
one_link (Tunnel a m) (Radio v c f n) e = absurd cc
one_link (Radio u b d m) (Tunnel a n) e = absurd cc

-- ---- what stands on the links

-- what stands on the run's links is what looking back gives
record Stands (past : List TextLine) (on : On) : Type 0 where
  items_are : (link : Link) → on.items link ≡ standing link past
  messages_are : on.control_messages ≡ map control_message_of (messages past)

-- no control message has the number 0
abbrev IsNumbered : List Message → Type 0
IsNumbered list = (message : Message) → slice_get list 0 ≡ Some message → 0 ≡ message.number → ⊥

one_more : (list : List Message) (message : Message) → message.number ≡ length list + 1 → IsNumbered list → IsNumbered (list ++ message ∷ [])
one_more [] message is before other at none =
    absurd (let same : message ≡ other = cc in let number : message.number ≡ other.number = ap (λ (m : Message). m.number) same in omega (arith, is, none, number))
one_more (first ∷ list) message is before other at none = before other at none

at_place : (list : List Message) (place : ℕ) (message : Message) → slice_get list place ≡ Some message
    → slice_get (map control_message_of list) place ≡ Some (control_message_of message)
at_place [] place message e = absurd cc
at_place (first ∷ list) zero message e = let same : first ≡ message = cc in ap (λ (m : Message). Some (control_message_of m)) same
at_place (first ∷ list) (suc place) message e = at_place list place message e

loses : (link : Link) (count : ℕ) (items : List Item) → run.after_loss link count items ≡ after_loss link count items
loses (Tunnel end teid) count items = refl
loses (Radio ue bearer dir epoch) count items = refl

module _ (past : List TextLine) (on : On) (stands : Stands past on) where
  -- one link changes
  changes : (f : Link → List Item → List Item) (link : Link) (now : List Item) → now ≡ f link (standing link past) → (other : Link)
      → (run.with_items on link now).items other ≡ cond (same_link other link) (f other (standing other past)) (standing other past)
  changes f link now is other =
      by_test (run.same_link link other) refl ∙ ap (λ (b : Bool). cond b (f other (standing other past)) (standing other past)) (same_links link other)
    where
      by_test : (b : Bool) → run.same_link link other ≡ b
          → cond b now (on.items other) ≡ cond b (f other (standing other past)) (standing other past)
      by_test false e = stands.items_are other
      by_test true e = is ∙ ap (λ (l : Link). f l (standing l past)) (one_link link other e)

  -- what a line says of links
  abbrev Keeps : TextLine → Type 0
  Keeps line = run.WiresFrom on (run_line line) × Stands (line ∷ past) (after_lines on (run_line line))

  no_message : on.control_messages ≡ map control_message_of (messages past ++ [])
  no_message = stands.messages_are ∙ ap (map control_message_of) (sym (append-nil (messages past)))

  put : (link : Link) (item : Item) → Keeps (Printed (lines.Put link item))
  unfolding standing messages
  put link item = (
    (tt, tt),
    record {
      items_are = changes (λ l items. items ++ item ∷ []) link (on.items link ++ item ∷ []) (ap (λ (items : List Item). items ++ item ∷ []) (stands.items_are link));
      messages_are = no_message;
    },
  )

  got : (link : Link) (item : Item) → slice_get (standing link past) 0 ≡ Some item → Keeps (Printed (lines.Got link item))
  unfolding standing messages
  got link item first = (
    (ap (λ (items : List Item). slice_get items 0) (stands.items_are link) ∙ first, tt),
    record {
      items_are = changes (λ l items. drop 1 items) link (drop 1 (on.items link)) (ap (λ (items : List Item). drop 1 items) (stands.items_are link));
      messages_are = no_message;
    },
  )

  lost : (link : Link) (count : ℕ) → Keeps (Printed (lines.Lost link count))
  unfolding standing messages
  lost link count = (
    (tt, tt),
    record {
      items_are = changes (λ l items. after_loss l count items) link (run.after_loss link count (on.items link))
          (loses link count (on.items link) ∙ ap (λ (items : List Item). after_loss link count items) (stands.items_are link));
      messages_are = no_message;
    },
  )

  put_control : (message : Message) → message.number ≡ length (messages past) + 1 → Keeps (Printed (lines.PutMessage message))
  unfolding standing messages
  put_control message is =
      let many : length on.control_messages ≡ length (messages past) = ap length stands.messages_are ∙ length-map (messages past) control_message_of in (
        (is ∙ ap (λ (n : ℕ). n + 1) (sym many), tt),
        record {
          items_are = stands.items_are;
          messages_are = ap (λ ms. ms ++ control_message_of message ∷ []) stands.messages_are ∙ sym (map-append control_message_of (messages past) (message ∷ []));
        },
      )

  got_control : (message : Message) → IsNumbered (messages past) → slice_get (messages past) (message.number - 1) ≡ Some message
      → Keeps (Printed (lines.GotMessage message))
  unfolding standing messages
  got_control message numbered is =
      let is_some_number : 0 ≡ message.number → ⊥ =
      λ none. numbered message (subst (λ (n : ℕ). slice_get (messages past) (n - 1) ≡ Some message) (sym none) is) none in
      let repeats = ap (λ ms. slice_get ms (message.number - 1)) stands.messages_are ∙ at_place (messages past) (message.number - 1) message is in
      (((is_some_number, repeats), tt), record { items_are = stands.items_are; messages_are = no_message })

  by_line : (line : TextLine) → IsNumbered (messages past) → IsOnWire past line → Keeps line
  unfolding standing messages
  by_line (Printed (lines.Put link item)) numbered wire = put link item
  by_line (Printed (lines.Got link item)) numbered wire = got link item wire
  by_line (Printed (lines.PutMessage message)) numbered wire = put_control message wire
  by_line (Printed (lines.GotMessage message)) numbered wire = got_control message numbered wire
  by_line (Printed (lines.Lost link count)) numbered wire = lost link count
  by_line (Printed (lines.Deliver ue bearer dir count packet)) numbered wire = ((tt, tt), record { items_are = stands.items_are; messages_are = no_message })
  by_line (Printed (lines.LostMessage number)) numbered wire = ((tt, tt), record { items_are = stands.items_are; messages_are = no_message })
  by_line (Printed (lines.Drop node reason)) numbered wire = ((tt, tt), record { items_are = stands.items_are; messages_are = no_message })
  by_line (Printed (lines.Held link reason)) numbered wire = ((tt, tt), record { items_are = stands.items_are; messages_are = no_message })
  by_line (Printed (lines.Failed node ue cause)) numbered wire = ((tt, tt), record { items_are = stands.items_are; messages_are = no_message })
  by_line (Printed (lines.Quiet ue bearer downlink uplink)) numbered wire = ((tt, tt), record { items_are = stands.items_are; messages_are = no_message })
  by_line (Printed (lines.Busy ue bearer)) numbered wire = ((tt, tt), record { items_are = stands.items_are; messages_are = no_message })
  by_line (Printed (lines.Settled rounds)) numbered wire = ((tt, tt), record { items_are = stands.items_are; messages_are = no_message })
  by_line (Printed (lines.Unsettled rounds)) numbered wire = ((tt, tt), record { items_are = stands.items_are; messages_are = no_message })
  by_line (Printed (lines.Refused reason)) numbered wire = ((tt, tt), record { items_are = stands.items_are; messages_are = no_message })
  by_line line numbered wire = (tt, record { items_are = stands.items_are; messages_are = no_message })

-- ---- all lines

numbered_at : (line : TextLine) (past : List TextLine) → IsOnWire past line → IsNumbered (messages past) → IsNumbered (messages (line ∷ past))
unfolding messages
numbered_at (Printed (lines.PutMessage message)) past wire before = one_more (messages past) message wire before
numbered_at line past wire before = subst IsNumbered (sym (append-nil (messages past))) before

numbered_all : (encode : Spelling) (past : List TextLine) → AreSound encode past → IsNumbered (messages past)
unfolding messages
numbered_all encode [] sound = λ message at none. absurd cc
numbered_all encode (line ∷ past) sound = numbered_at line past (sound.1 rules.Wire) (numbered_all encode past sound.0)

keeps_all : (encode : Spelling) (past : List TextLine) → AreSound encode past
    → run.Wires (lines_of_run past) × Stands past (after_lines run.no_items (lines_of_run past))
unfolding standing messages
keeps_all encode [] sound = (tt, record { items_are = λ link. refl; messages_are = refl })
keeps_all encode (line ∷ past) sound =
    let before = keeps_all encode past sound.0 in
    let on : On = after_lines run.no_items (lines_of_run past) in
    let now = by_line past on before.1 line (numbered_all encode past sound.0) (sound.1 rules.Wire) in (
      wires_more run.no_items (lines_of_run past) (run_line line) before.0 now.0,
      subst (Stands (line ∷ past)) (sym (after_more run.no_items (lines_of_run past) (run_line line))) now.1,
    )

pub keeps_wires : (encode : Spelling) (past : List TextLine) → AreSound encode past → run.Wires (lines_of_run past)
keeps_wires encode past sound = (keeps_all encode past sound).0
