-- An index after one more line.
use Rattle.std.proofs.Common.{◌≡◌, ◌+◌, ◌-◌, ℕ, Bool, true, false, List, [], ◌∷◌, ◌++◌, reverse, Option, Some, refl, ap, sym, ◌∙◌, subst, true≢false}
use Rattle.std.specs.Prelude.{◌↔◌, IsTrue, is_some, if◌then◌else◌}
use Rattle.std.proofs.lemmas.List.{reverse-append}
use Rattle.gnb_types.specs.declared.keys.EntityKey.{EntityKey}
use Rattle.gnb_types.specs.Orders.{entity_cmp}
use Rattle.scenario_text.specs.declared.event.Event.{Event}
use Rattle.scenario_text.specs.declared.line.Link.{Link}
use Rattle.scenario_text.specs.declared.line.Item.{Item}
use Rattle.scenario_text.specs.declared.line.Message.{Message}
use Rattle.scenario_text.specs.declared.line.OutLine.{OutLine}
use Rattle.scenario_text.specs.declared.line.OutLine.TheVariants as lines
use Rattle.tables.specs.Tables.{find, put, at}
use Rattle.gnb_types.specs.declared.names.UeId.{UeId}
use Rattle.gnb_types.specs.declared.names.BearerId.{BearerId}
use Rattle.gnb_types.specs.declared.names.Dir.{Dir}
use Rattle.transcript_check.specs.declared.index.queues.LinkKey.{LinkKey}
use Rattle.transcript_check.specs.declared.index.receipts.Receipt.{Receipt}
use Rattle.transcript_check.specs.declared.index.receipts.Receipts.{Receipts}
use Rattle.tables.specs.Queues.{first_item}
use Rattle.transcript_defs.specs.declared.line.TextLine.{TextLine}
use Rattle.transcript_defs.specs.declared.line.TextLine.TheVariants.{Printed}
use Rattle.transcript_defs.specs.Past.{accepted, is_refusal, messages, message_at, delivered, offered}
use Rattle.transcript_defs.specs.Rules.{ShowsCount, IsInOrder}
use Rattle.transcript_check.specs.declared.index.Index.{Index}
use Rattle.transcript_check.specs.inside.Queues.{AreQueues, FollowsLine}
use Rattle.transcript_check.specs.declared.index.accepted.Accepted.{Accepted}
use Rattle.transcript_check.specs.inside.Accepted.{AreAccepted, AcceptsEvent}
use Rattle.transcript_check.specs.inside.Receipts.{receipt_cmp, receipt, AreReceived, AreOffered, AreCounted}
use Rattle.transcript_check.specs.inside.Index.{IsIndex, settled, newly_accepted}
use Rattle.transcript_check.proofs.AcceptedLemmas.{accepts_event}
use Rattle.transcript_check.proofs.QueueLemmas.{follows_queues}
use Rattle.transcript_check.proofs.ReceiptLemmas.{TakesNothing, DeliversNothing, received_same, delivered_same, delivered_more, offered_more, offered_later}

-- ---- one line more

pub reverse_more : {A : Type 0} (xs : List A) (x : A) → reverse (xs ++ x ∷ []) ≡ x ∷ reverse xs
reverse_more xs x = reverse-append xs (x ∷ [])

-- ---- the next line comes

pub accepted_so_far : (past : List TextLine) (next : TextLine) → accepted next past ≡ settled past ++ newly_accepted (first_item past) next
unfolding accepted settled
accepted_so_far [] next = refl
accepted_so_far (line ∷ past) next = refl

pub index_settled : (past : List TextLine) (next : TextLine) (old new : Index) → IsIndex past (settled past) old
    → AreAccepted (settled past ++ newly_accepted (first_item past) next) new.accepted → new ≡ record old { accepted = new.accepted }
    → IsIndex past (accepted next past) new
index_settled past next old new is accepts same = record {
  queues = subst (λ (i : Index). AreQueues past i.queues.queues) (sym same) is.queues;
  control_messages = ap (λ (i : Index). i.messages) same ∙ is.control_messages;
  accepts = subst (λ (happened : List Event). AreAccepted happened new.accepted) (sym (accepted_so_far past next)) accepts;
  counted = subst (λ (i : Index). AreCounted past i.receipts) (sym same) is.counted;
  received = subst (λ (i : Index). AreReceived past i.receipts.received) (sym same) is.received;
  offered = subst (λ (happened : List Event). AreOffered past happened) (sym (accepted_so_far past next)) (offered_later past (settled past) (newly_accepted (first_item past) next) is.offered);
}

-- ---- the line is taken

-- a line that puts no control message
abbrev pub PutsNoMessage : TextLine → Type 0
PutsNoMessage (Printed (lines.PutMessage message)) = ⊥
PutsNoMessage line = Unit {0}

append_none : {A : Type 0} (xs : List A) → xs ++ [] ≡ xs
append_none [] = refl
append_none (x ∷ xs) = ap (λ ys. x ∷ ys) (append_none xs)

no_message : (line : TextLine) → PutsNoMessage line → message_at line ≡ []
no_message (Printed (lines.PutMessage message)) none = absurd none
no_message line none = refl

pub letters_same : (line : TextLine) (old : List Message) → PutsNoMessage line → old ≡ old ++ message_at line
letters_same line old none = sym (append_none old) ∙ ap (λ (xs : List Message). old ++ xs) (sym (no_message line none))

pub index_followed : (past : List TextLine) (line : TextLine) (old new : Index) → FollowsLine line old.queues.queues new.queues.queues
    → new.messages ≡ old.messages ++ message_at line → new.accepted ≡ old.accepted → AreCounted (line ∷ past) new.receipts
    → AreReceived (line ∷ past) new.receipts.received → ShowsCount past line → IsIndex past (accepted line past) old
    → IsIndex (line ∷ past) (accepted line past) new
unfolding messages
index_followed past line old new queues control_messages accepts counted received shows is = record {
  queues = follows_queues past line old.queues.queues new.queues.queues queues is.queues;
  control_messages = control_messages ∙ ap (λ (xs : List Message). xs ++ message_at line) is.control_messages;
  accepts = subst (AreAccepted (accepted line past)) (sym accepts) is.accepts;
  counted = counted;
  received = received;
  offered = offered_more past line shows is.offered;
}

pub none_index : (index : Index) → AreQueues [] index.queues.queues → index.messages ≡ [] → AreAccepted [] index.accepted → index.receipts.received ≡ []
    → index.receipts.delivered ≡ [] → IsIndex [] [] index
unfolding messages delivered find at
none_index index queues control_messages accepts received counted = record {
  queues = queues;
  control_messages = control_messages;
  accepts = accepts;
  counted = λ key. ap (λ (m : List (EntityKey × ℕ)). at entity_cmp 0 m key) counted;
  received = λ key count. subst (λ (m : List (Receipt × Unit {0})). IsTrue (is_some (find receipt_cmp m (receipt key count))) ↔ ((packet : List ℕ) × ⊥)) (sym received)
      ((λ t. absurd (true≢false (sym t))), (λ p. absurd p.1));
  offered = λ key count packet was. absurd was;
}

-- the index after a line, of whose queues q is known to follow
abbrev pub Grows : Index → List (LinkKey × List Item) → Index → TextLine → Type 0
Grows old q new line =
    (past : List TextLine) → FollowsLine line old.queues.queues q → ShowsCount past line → IsInOrder past line → IsIndex past (accepted line past) old
    → IsIndex (line ∷ past) (accepted line past) new

module _ (old new : Index) (q : List (LinkKey × List Item)) (queues : new.queues.queues ≡ q) (accepts : new.accepted ≡ old.accepted) where
  follows_by : (line : TextLine) → FollowsLine line old.queues.queues q → FollowsLine line old.queues.queues new.queues.queues
  follows_by line follows = subst (FollowsLine line old.queues.queues) (sym queues) follows

  pub grows_quiet : new.messages ≡ old.messages → new.receipts ≡ old.receipts → (line : TextLine) → PutsNoMessage line → TakesNothing line → DeliversNothing line
      → Grows old q new line
  grows_quiet control_messages receipts line no_put no_got no_deliver past follows shows order is =
      index_followed past line old new (follows_by line follows) (control_messages ∙ letters_same line old.messages no_put) accepts
      (subst (AreCounted (line ∷ past)) (sym receipts) (delivered_same past line old.receipts.delivered no_deliver is.counted))
      (subst (λ (r : Receipts). AreReceived (line ∷ past) r.received) (sym receipts) (received_same past line old.receipts.received no_got is.received))
      shows is

  pub grows_put : (message copy : Message) → copy ≡ message → new.messages ≡ old.messages ++ copy ∷ [] → new.receipts ≡ old.receipts
      → Grows old q new (Printed (lines.PutMessage message))
  grows_put message copy same control_messages receipts past follows shows order is =
      index_followed past (Printed (lines.PutMessage message)) old new (follows_by (Printed (lines.PutMessage message)) follows)
      (control_messages ∙ ap (λ (m : Message). old.messages ++ m ∷ []) same) accepts
      (subst (AreCounted (Printed (lines.PutMessage message) ∷ past)) (sym receipts)
      (delivered_same past (Printed (lines.PutMessage message)) old.receipts.delivered tt is.counted))
      (subst (λ (r : Receipts). AreReceived (Printed (lines.PutMessage message) ∷ past) r.received) (sym receipts)
      (received_same past (Printed (lines.PutMessage message)) old.receipts.received tt is.received))
      shows is

  pub grows_got : (link : Link) (item : Item) → new.messages ≡ old.messages → new.receipts.delivered ≡ old.receipts.delivered
      → ((past : List TextLine) → AreAccepted (accepted (Printed (lines.Got link item)) past) old.accepted → AreReceived past old.receipts.received
      → AreReceived (Printed (lines.Got link item) ∷ past) new.receipts.received)
      → Grows old q new (Printed (lines.Got link item))
  grows_got link item control_messages delivers receives past follows shows order is =
      index_followed past (Printed (lines.Got link item)) old new (follows_by (Printed (lines.Got link item)) follows)
      (control_messages ∙ letters_same (Printed (lines.Got link item)) old.messages tt) accepts
      (λ key. ap (λ (m : List (EntityKey × ℕ)). at entity_cmp 0 m key) delivers
      ∙ delivered_same past (Printed (lines.Got link item)) old.receipts.delivered tt is.counted key)
      (receives past is.accepts is.received) shows is

  pub grows_deliver : (key : EntityKey) (count : ℕ) (packet : List ℕ) → new.messages ≡ old.messages
      → new.receipts.delivered ≡ put entity_cmp old.receipts.delivered key (count + 1) → new.receipts.received ≡ old.receipts.received
      → Grows old q new (Printed (lines.Deliver key.ue key.bearer key.dir count packet))
  grows_deliver key count packet control_messages delivers receives past follows shows order is =
      index_followed past (Printed (lines.Deliver key.ue key.bearer key.dir count packet)) old new
      (follows_by (Printed (lines.Deliver key.ue key.bearer key.dir count packet)) follows)
      (control_messages ∙ letters_same (Printed (lines.Deliver key.ue key.bearer key.dir count packet)) old.messages tt) accepts
      (delivered_more past key count packet old.receipts.delivered new.receipts.delivered is.counted order delivers)
      (subst (AreReceived (Printed (lines.Deliver key.ue key.bearer key.dir count packet) ∷ past)) (sym receives)
      (received_same past (Printed (lines.Deliver key.ue key.bearer key.dir count packet)) old.receipts.received tt is.received))
      shows is

-- ---- lines of which the rest of the index takes nothing

pub not_printed : (line : TextLine) → ((l : OutLine) → line ≡ Printed l → ⊥) → PutsNoMessage line × TakesNothing line × DeliversNothing line
not_printed (Printed l) not = absurd (not l refl)
not_printed line not = (tt, tt, tt)

pub not_those : (l : OutLine) → ((link : Link) (item : Item) → l ≡ lines.Got link item → ⊥) → ((message : Message) → l ≡ lines.PutMessage message → ⊥)
    → ((ue : UeId) (bearer : BearerId) (dir : Dir) (count : ℕ) (packet : List ℕ) → l ≡ lines.Deliver ue bearer dir count packet → ⊥)
    → PutsNoMessage (Printed l) × TakesNothing (Printed l) × DeliversNothing (Printed l)
not_those (lines.Got link item) not_got not_put not_deliver = absurd (not_got link item refl)
not_those (lines.PutMessage message) not_got not_put not_deliver = absurd (not_put message refl)
not_those (lines.Deliver ue bearer dir count packet) not_got not_put not_deliver = absurd (not_deliver ue bearer dir count packet refl)
not_those l not_got not_put not_deliver = (tt, tt, tt)

-- ---- an event is accepted

pub settles_event : (newest : Option TextLine) (line next : TextLine) (event : Event) (old new : Accepted) (refused : Bool) → newest ≡ Some line
    → line ≡ Printed (lines.Happens event) → refused ≡ is_refusal next → refused ≡ false → AcceptsEvent event old new
    → (happened : List Event) → AreAccepted happened old → AreAccepted (happened ++ newly_accepted newest next) new
settles_event newest line next event old new refused is shows test not accepts happened are =
    let whole : newly_accepted newest next ≡ event ∷ [] =
    ap (λ (n : Option TextLine). newly_accepted n next) (is ∙ ap (λ (l : TextLine). Some l) shows)
    ∙ ap (λ (b : Bool). if b then [] else event ∷ []) (sym test ∙ not) in
    subst (λ (more : List Event). AreAccepted (happened ++ more) new) (sym whole) (accepts_event happened event old new accepts are)

pub new_index : (taken : List TextLine) (index : Index) → taken ≡ [] → IsIndex [] [] index → IsIndex (reverse taken) (settled (reverse taken)) index
unfolding settled
new_index taken index none is = subst (λ (l : List TextLine). IsIndex (reverse l) (settled (reverse l)) index) (sym none) is
