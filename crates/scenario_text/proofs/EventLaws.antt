-- What is read is a text of the event, and a text of an event in its ranges is read.
use Rattle.std.proofs.Common.{◌≡◌, ℕ, ◌-◌, ◌<◌, ◌≤◌, ◌^◌, ◌⊎◌, ◌&&◌, ◌||◌, Bool, true, false, cond, not, List, Option, Some, None, Result, Ok, Err, [], ◌∷◌, ◌++◌, length, take, refl, ap, ◌∙◌, sym, subst, inl, inr, arith, nat_eq, codes, append_assoc}
use Rattle.std.specs.Prelude.{IfOk}
use Rattle.std.specs.Option.{ok_or}
use Rattle.std.specs.List.{find, join_with_byte, list_any, list_all}
use Rattle.std.proofs.lemmas.List.Splits.{join_with_byte-slice_split}
use Rattle.std.proofs.lemmas.List.Folds.{list_all-append}
use Rattle.gnb_types.specs.Names.{node_text}
use Rattle.gnb_types.specs.declared.names.Gnb.TheVariants.{A, B}
use Rattle.gnb_types.specs.declared.names.NodeId.{NodeId}
use Rattle.gnb_types.specs.declared.names.NodeId.TheVariants.{CuCp, CuUp, Du, Core, Ue}
use Rattle.std.specs.Fmt.{decimal}
use Rattle.scenario_text.specs.declared.script_words.reason.TextReason.{TextReason}
use Rattle.scenario_text.specs.declared.script_words.reason.TextReason.TheVariants.{Word}
use Rattle.scenario_text.specs.declared.script_words.reason.TextError.{TextError}
use Rattle.scenario_text.specs.script_words.Answers.{GivesOrMemory}
use Rattle.scenario_text.specs.script_words.Forms.{words, ◌is◌, ◌begins◌, fixed}
use Rattle.scenario_text.specs.script_words.Ranges.{IsNode}
use Rattle.scenario_text.specs.script_words.Places.{Place, Values, InPlaces, AreWordsOf, value_words, next_word, result_then, place, line_end, read_places}
use Rattle.scenario_text.proofs.script_words.FormLaws.{chosen, and_true, ok_or_ok, is_text}
use Rattle.scenario_text.proofs.script_words.PlaceLaws.{Lacks, Lacks-node, AllLack, AreEventPlaces, places_sound, places_again, value_words-AreWordsOf, words-joined, words_lack_blanks}
use Rattle.scenario_text.specs.declared.event.Event.{Event}
use Rattle.scenario_text.specs.declared.event.Event.TheVariants as events
use Rattle.scenario_text.specs.declared.event.Keyword.{Keyword}
use Rattle.scenario_text.specs.declared.event.Keyword.TheVariants as keywords
use Rattle.scenario_text.specs.Grammar.{EventForm, keyword_text, all_keywords, keyword_of, plan_places, plan_of, bare_form, static_form, attach_form, offer_form, get_form, air_form, ack_form, give_form, lose_message_form, lose_item_form, poll_form, ue_form, handover_form, ask_form, inject_message_form, inject_item_form, names_message, names_tunnel, read_form, keyword_event, words_event, event_of}
use Rattle.scenario_text.specs.Texts.{plan_values, by_form, form_text, event_text, InRange, IsWritten, IsTextOf}

-- ---- keywords

find_some : {X : Type 0} (p : X → Bool) (xs : List X) (x : X) → find p xs ≡ Some x → p x ≡ true
find_some p [] x h = absurd (cc)
find_some p (y ∷ ys) x h = elim (chosen (p y) (Some y) (find p ys) (Some x) h) [
  | inl w ↦ let same : y ≡ x = cc in ap p (sym same) ∙ w.0
  | inr w ↦ find_some p ys x w.1
]

pub keyword_sound : (word : List ℕ) (k : Keyword) → keyword_of word ≡ Some k → word ≡ keyword_text k
unfolding keyword_of
keyword_sound word k h = is_text word (keyword_text k) (find_some (λ k. word is keyword_text k) all_keywords k h)

pub keyword_again : (k : Keyword) → keyword_of (keyword_text k) ≡ Some k
unfolding keyword_of
keyword_again keywords.Static = refl
keyword_again keywords.Start = refl
keyword_again keywords.Attach = refl
keyword_again keywords.Offer = refl
keyword_again keywords.Get = refl
keyword_again keywords.Air = refl
keyword_again keywords.Ack = refl
keyword_again keywords.Give = refl
keyword_again keywords.Lose = refl
keyword_again keywords.Poll = refl
keyword_again keywords.Pump = refl
keyword_again keywords.Tick = refl
keyword_again keywords.Fail = refl
keyword_again keywords.Arrive = refl
keyword_again keywords.Return = refl
keyword_again keywords.Handover = refl
keyword_again keywords.Cancel = refl
keyword_again keywords.Release = refl
keyword_again keywords.Ask = refl
keyword_again keywords.Settle = refl
keyword_again keywords.Inject = refl

pub keyword_lacks_blank : (k : Keyword) → Lacks 32 (keyword_text k)
keyword_lacks_blank keywords.Static = refl
keyword_lacks_blank keywords.Start = refl
keyword_lacks_blank keywords.Attach = refl
keyword_lacks_blank keywords.Offer = refl
keyword_lacks_blank keywords.Get = refl
keyword_lacks_blank keywords.Air = refl
keyword_lacks_blank keywords.Ack = refl
keyword_lacks_blank keywords.Give = refl
keyword_lacks_blank keywords.Lose = refl
keyword_lacks_blank keywords.Poll = refl
keyword_lacks_blank keywords.Pump = refl
keyword_lacks_blank keywords.Tick = refl
keyword_lacks_blank keywords.Fail = refl
keyword_lacks_blank keywords.Arrive = refl
keyword_lacks_blank keywords.Return = refl
keyword_lacks_blank keywords.Handover = refl
keyword_lacks_blank keywords.Cancel = refl
keyword_lacks_blank keywords.Release = refl
keyword_lacks_blank keywords.Ask = refl
keyword_lacks_blank keywords.Settle = refl
keyword_lacks_blank keywords.Inject = refl

-- ---- what is read

-- a form whose places are those of events, and whose event is seen as this form
pub record IsForm (form : EventForm) : Type 0 where
  pub places : AreEventPlaces form.places
  pub shown : (line : List ℕ) (values : Values form.places) → IsWritten line form values → IsTextOf line (form.event values)

read_sound : (form : EventForm) → IsForm form → (left : List (List ℕ)) (e : Event) → read_form form left ≡ Ok e
    → IsTextOf (join_with_byte 32 (keyword_text form.keyword ∷ left)) e
read_sound form k left e h =
    by_values (read_places form.places left) refl h
  where
    by_values : (r : Result (Values form.places) TextReason) → read_places form.places left ≡ r
        → result_then r (λ values. Ok (form.event values)) ≡ Ok e
        → IsTextOf (join_with_byte 32 (keyword_text form.keyword ∷ left)) e
    by_values (Ok values) are g =
        let found = places_sound form.places k.places (λ vs. vs) left values are in
        let P : Event → Type 0 = λ x. IsTextOf (join_with_byte 32 (keyword_text form.keyword ∷ left)) x in
        let same : form.event values ≡ e = cc in
        let stand : AreWordsOf form.places left values = subst (AreWordsOf form.places left) found.makes found.stand in
        let range : InPlaces form.places values = subst (InPlaces form.places) found.makes found.range in
        subst P same (k.shown _ values (record { words = left; text = refl; stand = stand; range = range }))
    by_values (Err reason) are g = absurd (cc)

pub is_static : IsForm static_form
is_static = record { places = (tt, (tt, ((omega arith, omega arith), ((omega arith, omega arith), (tt, ((omega arith, omega arith), ((omega arith, omega arith), tt))))))); shown = λ line values h. h }

pub is_start : IsForm (bare_form keywords.Start events.Start)
is_start = record { places = tt; shown = λ line values h. h }

pub is_attach : IsForm attach_form
is_attach = record { places = (tt, (tt, ((omega arith, omega arith), ((omega arith, omega arith), (tt, ((omega arith, omega arith), ((omega arith, omega arith), tt))))))); shown = λ line values h. h }

pub is_offer : IsForm offer_form
is_offer = record { places = (tt, (tt, (tt, (tt, tt)))); shown = λ line values h. h }

pub is_get : IsForm get_form
is_get = record { places = (tt, tt); shown = λ line values h. h }

pub is_air : IsForm air_form
is_air = record { places = (tt, (tt, (tt, tt))); shown = λ line values h. h }

pub is_ack : IsForm ack_form
is_ack = record { places = (tt, (tt, (tt, tt))); shown = λ line values h. h }

pub is_give : IsForm give_form
is_give = record { places = (tt, tt); shown = λ line values h. h }

pub is_lose_message : IsForm lose_message_form
is_lose_message = record { places = (tt, tt); shown = λ line values h. h }

pub is_lose_item : IsForm lose_item_form
is_lose_item = record { places = (tt, tt); shown = λ line values h. h }

pub is_poll : IsForm poll_form
is_poll = record { places = (tt, (tt, tt)); shown = λ line values h. h }

pub is_pump : IsForm (bare_form keywords.Pump events.Pump)
is_pump = record { places = tt; shown = λ line values h. h }

pub is_tick : IsForm (bare_form keywords.Tick events.Tick)
is_tick = record { places = tt; shown = λ line values h. h }

pub is_fail : IsForm (ue_form keywords.Fail events.Fail)
is_fail = record { places = (tt, tt); shown = λ line values h. h }

pub is_arrive : IsForm (ue_form keywords.Arrive events.Arrive)
is_arrive = record { places = (tt, tt); shown = λ line values h. h }

pub is_return : IsForm (ue_form keywords.Return events.Return)
is_return = record { places = (tt, tt); shown = λ line values h. h }

pub is_handover : IsForm handover_form
is_handover = record { places = (tt, (tt, ((omega arith, omega arith), ((omega arith, omega arith), tt)))); shown = λ line values h. h }

pub is_cancel : IsForm (ue_form keywords.Cancel events.Cancel)
is_cancel = record { places = (tt, tt); shown = λ line values h. h }

pub is_release : IsForm (ue_form keywords.Release events.Release)
is_release = record { places = (tt, tt); shown = λ line values h. h }

pub is_ask : IsForm ask_form
is_ask = record { places = (tt, (tt, tt)); shown = λ line values h. h }

pub is_settle : IsForm (bare_form keywords.Settle events.Settle)
is_settle = record { places = tt; shown = λ line values h. h }

pub is_inject_message : IsForm inject_message_form
is_inject_message = record { places = (tt, (tt, (tt, tt))); shown = λ line values h. h }

pub is_inject_item : IsForm inject_item_form
is_inject_item = record { places = (tt, (tt, tt)); shown = λ line values h. h }

keyword_event_sound : (k : Keyword) (left : List (List ℕ)) (e : Event) → keyword_event k left ≡ Ok e
    → IsTextOf (join_with_byte 32 (keyword_text k ∷ left)) e
unfolding keyword_event
keyword_event_sound keywords.Static left e h = read_sound static_form is_static left e h
keyword_event_sound keywords.Start left e h = read_sound (bare_form keywords.Start events.Start) is_start left e h
keyword_event_sound keywords.Attach left e h = read_sound attach_form is_attach left e h
keyword_event_sound keywords.Offer left e h = read_sound offer_form is_offer left e h
keyword_event_sound keywords.Get left e h = read_sound get_form is_get left e h
keyword_event_sound keywords.Air left e h = read_sound air_form is_air left e h
keyword_event_sound keywords.Ack left e h = read_sound ack_form is_ack left e h
keyword_event_sound keywords.Give left e h = read_sound give_form is_give left e h
keyword_event_sound keywords.Lose left e h = elim (chosen (names_message left) (read_form lose_message_form left) (read_form lose_item_form left) (Ok e) h) [
  | inl w ↦ read_sound lose_message_form is_lose_message left e w.1
  | inr w ↦ read_sound lose_item_form is_lose_item left e w.1
]
keyword_event_sound keywords.Poll left e h = read_sound poll_form is_poll left e h
keyword_event_sound keywords.Pump left e h = read_sound (bare_form keywords.Pump events.Pump) is_pump left e h
keyword_event_sound keywords.Tick left e h = read_sound (bare_form keywords.Tick events.Tick) is_tick left e h
keyword_event_sound keywords.Fail left e h = read_sound (ue_form keywords.Fail events.Fail) is_fail left e h
keyword_event_sound keywords.Arrive left e h = read_sound (ue_form keywords.Arrive events.Arrive) is_arrive left e h
keyword_event_sound keywords.Return left e h = read_sound (ue_form keywords.Return events.Return) is_return left e h
keyword_event_sound keywords.Handover left e h = read_sound handover_form is_handover left e h
keyword_event_sound keywords.Cancel left e h = read_sound (ue_form keywords.Cancel events.Cancel) is_cancel left e h
keyword_event_sound keywords.Release left e h = read_sound (ue_form keywords.Release events.Release) is_release left e h
keyword_event_sound keywords.Ask left e h = read_sound ask_form is_ask left e h
keyword_event_sound keywords.Settle left e h = read_sound (bare_form keywords.Settle events.Settle) is_settle left e h
keyword_event_sound keywords.Inject left e h = elim (chosen (names_tunnel left) (read_form inject_item_form left) (read_form inject_message_form left) (Ok e) h) [
  | inl w ↦ read_sound inject_item_form is_inject_item left e w.1
  | inr w ↦ read_sound inject_message_form is_inject_message left e w.1
]

same_value : {Z E : Type 0} (r : Result Z E) (u v : Z) → r ≡ Ok u → r ≡ Ok v → u ≡ v
same_value r u v h k = cc

next_ok : (left : List (List ℕ)) (next : List ℕ × List (List ℕ)) → next_word left ≡ Ok next → left ≡ next.0 ∷ next.1
next_ok [] next h = absurd (cc)
next_ok (word ∷ rest) next h =
    let same = same_value {Z = List ℕ × List (List ℕ)} (next_word (word ∷ rest)) (word, rest) next refl h in
    ap (λ (n : List ℕ × List (List ℕ)). n.0 ∷ n.1) same

words_event_sound : (word : List ℕ) (left : List (List ℕ)) (e : Event) → words_event (word, left) ≡ Ok e
    → IsTextOf (join_with_byte 32 (word ∷ left)) e
words_event_sound word left e h = by_keyword (keyword_of word) refl h
  where
    by_keyword : (o : Option Keyword) → keyword_of word ≡ o → result_then (ok_or o Word) (λ keyword. keyword_event keyword left) ≡ Ok e
        → IsTextOf (join_with_byte 32 (word ∷ left)) e
    by_keyword (Some k) found g =
        let P : List ℕ → Type 0 = λ w. IsTextOf (join_with_byte 32 (w ∷ left)) e in
        subst P (sym (keyword_sound word k found)) (keyword_event_sound k left e g)
    by_keyword None found g = absurd (cc)

-- What is read as an event is a text of it.
pub event_sound : (line : List ℕ) (e : Event) → event_of line ≡ Ok e → IsTextOf line e
unfolding event_of
event_sound line e h = by_words (next_word (words line)) refl h
  where
    by_words : (r : Result (List ℕ × List (List ℕ)) TextReason) → next_word (words line) ≡ r → result_then r words_event ≡ Ok e
        → IsTextOf line e
    by_words (Ok next) is_next k =
        let P : List ℕ → Type 0 = λ l. IsTextOf l e in
        subst P (ap (join_with_byte 32) (sym (next_ok (words line) next is_next)) ∙ join_with_byte-slice_split 32 line) (words_event_sound next.0 next.1 e k)
    by_words (Err reason) is_next k = absurd (cc)

-- ---- what stands in a line is read

-- the words of values are read in their form
form_again : (form : EventForm) → IsForm form → (left : List (List ℕ)) (values : Values form.places) → AreWordsOf form.places left values
    → InPlaces form.places values
    → read_form form left ≡ Ok (form.event values)
form_again form k left values stand range =
    ap (λ (r : Result (Values form.places) TextReason). result_then r (λ vs. Ok (form.event vs))) (places_again form.places k.places (λ vs. vs) left values stand range)

lacking : (c : ℕ) (word : List ℕ) → Lacks c word → list_any (λ x. nat_eq x c) word ≡ false
lacking c [] h = refl
lacking c (x ∷ xs) h = by_head (nat_eq x c) (list_all (λ y. not (nat_eq y c)) xs) (lacking c xs) h
  where
    by_head : (b rest : Bool) → (rest ≡ true → list_any (λ y. nat_eq y c) xs ≡ false) → (not b && rest) ≡ true
        → (b || list_any (λ y. nat_eq y c) xs) ≡ false
    by_head true rest more h = absurd (cc)
    by_head false rest more h = more h

any_slash : (front rest : List ℕ) → list_any (λ x. nat_eq x 47) (front ++ 47 ∷ rest) ≡ true
any_slash [] rest = refl
any_slash (x ∷ xs) rest = by_head (nat_eq x 47) (any_slash xs rest)
  where
    by_head : (b : Bool) → list_any (λ y. nat_eq y 47) (xs ++ 47 ∷ rest) ≡ true
        → (b || list_any (λ y. nat_eq y 47) (xs ++ 47 ∷ rest)) ≡ true
    by_head true more = refl
    by_head false more = more

-- a node's name begins with no `#`
node_not_message : (n : NodeId) (rest : List ℕ) → (node_text n ++ rest) begins codes "#" ≡ false
node_not_message (CuCp A) rest = refl
node_not_message (CuCp B) rest = refl
node_not_message (CuUp A k) rest = refl
node_not_message (CuUp B k) rest = refl
node_not_message (Du A k) rest = refl
node_not_message (Du B k) rest = refl
node_not_message Core rest = refl
node_not_message (Ue k) rest = refl

-- a form that is read where its words stand
abbrev Again : Keyword → EventForm → Type 0
Again k form = (left : List (List ℕ)) (values : Values form.places) → AreWordsOf form.places left values → InPlaces form.places values
    → keyword_event k left ≡ Ok (form.event values)

lose_message_again : Again keywords.Lose lose_message_form
unfolding keyword_event
lose_message_again [] values stand range = absurd stand
lose_message_again (word ∷ left) values stand range =
    let test : word begins codes "#" ≡ true = ap (λ w. w begins codes "#") stand.0 in
    ap (λ b. cond b (read_form lose_message_form (word ∷ left)) (read_form lose_item_form (word ∷ left))) test ∙ form_again lose_message_form is_lose_message (word ∷ left) values stand range

lose_item_again : Again keywords.Lose lose_item_form
unfolding keyword_event
lose_item_again [] values stand range = absurd stand
lose_item_again (word ∷ left) values stand range =
    let test : word begins codes "#" ≡ false = ap (λ w. w begins codes "#") (stand.0 ∙ append_assoc (node_text values.0.0) (codes "/") (decimal values.0.1)) ∙ node_not_message values.0.0 (codes "/" ++ decimal values.0.1) in
    ap (λ b. cond b (read_form lose_message_form (word ∷ left)) (read_form lose_item_form (word ∷ left))) test ∙ form_again lose_item_form is_lose_item (word ∷ left) values stand range

inject_item_again : Again keywords.Inject inject_item_form
unfolding keyword_event
inject_item_again [] values stand range = absurd stand
inject_item_again (word ∷ left) values stand range =
    let test : list_any (λ c. nat_eq c 47) word ≡ true = ap (list_any (λ c. nat_eq c 47)) (stand.0 ∙ append_assoc (node_text values.0.0) (codes "/") (decimal values.0.1)) ∙ any_slash (node_text values.0.0) (decimal values.0.1) in
    ap (λ b. cond b (read_form inject_item_form (word ∷ left)) (read_form inject_message_form (word ∷ left))) test ∙ form_again inject_item_form is_inject_item (word ∷ left) values stand range

inject_message_again : Again keywords.Inject inject_message_form
unfolding keyword_event
inject_message_again [] values stand range = absurd stand
inject_message_again (word ∷ left) values stand range =
    let test : list_any (λ c. nat_eq c 47) word ≡ false = ap (list_any (λ c. nat_eq c 47)) stand.0 ∙ lacking 47 (node_text values.0) (Lacks-node 47 values.0 (inr refl) range.0) in
    ap (λ b. cond b (read_form inject_item_form (word ∷ left)) (read_form inject_message_form (word ∷ left))) test ∙ form_again inject_message_form is_inject_message (word ∷ left) values stand range

static_again : Again keywords.Static static_form
unfolding keyword_event
static_again left values stand range = form_again static_form is_static left values stand range

start_again : Again keywords.Start (bare_form keywords.Start events.Start)
unfolding keyword_event
start_again left values stand range = form_again (bare_form keywords.Start events.Start) is_start left values stand range

attach_again : Again keywords.Attach attach_form
unfolding keyword_event
attach_again left values stand range = form_again attach_form is_attach left values stand range

offer_again : Again keywords.Offer offer_form
unfolding keyword_event
offer_again left values stand range = form_again offer_form is_offer left values stand range

get_again : Again keywords.Get get_form
unfolding keyword_event
get_again left values stand range = form_again get_form is_get left values stand range

air_again : Again keywords.Air air_form
unfolding keyword_event
air_again left values stand range = form_again air_form is_air left values stand range

ack_again : Again keywords.Ack ack_form
unfolding keyword_event
ack_again left values stand range = form_again ack_form is_ack left values stand range

give_again : Again keywords.Give give_form
unfolding keyword_event
give_again left values stand range = form_again give_form is_give left values stand range

poll_again : Again keywords.Poll poll_form
unfolding keyword_event
poll_again left values stand range = form_again poll_form is_poll left values stand range

pump_again : Again keywords.Pump (bare_form keywords.Pump events.Pump)
unfolding keyword_event
pump_again left values stand range = form_again (bare_form keywords.Pump events.Pump) is_pump left values stand range

tick_again : Again keywords.Tick (bare_form keywords.Tick events.Tick)
unfolding keyword_event
tick_again left values stand range = form_again (bare_form keywords.Tick events.Tick) is_tick left values stand range

fail_again : Again keywords.Fail (ue_form keywords.Fail events.Fail)
unfolding keyword_event
fail_again left values stand range = form_again (ue_form keywords.Fail events.Fail) is_fail left values stand range

arrive_again : Again keywords.Arrive (ue_form keywords.Arrive events.Arrive)
unfolding keyword_event
arrive_again left values stand range = form_again (ue_form keywords.Arrive events.Arrive) is_arrive left values stand range

return_again : Again keywords.Return (ue_form keywords.Return events.Return)
unfolding keyword_event
return_again left values stand range = form_again (ue_form keywords.Return events.Return) is_return left values stand range

handover_again : Again keywords.Handover handover_form
unfolding keyword_event
handover_again left values stand range = form_again handover_form is_handover left values stand range

cancel_again : Again keywords.Cancel (ue_form keywords.Cancel events.Cancel)
unfolding keyword_event
cancel_again left values stand range = form_again (ue_form keywords.Cancel events.Cancel) is_cancel left values stand range

release_again : Again keywords.Release (ue_form keywords.Release events.Release)
unfolding keyword_event
release_again left values stand range = form_again (ue_form keywords.Release events.Release) is_release left values stand range

ask_again : Again keywords.Ask ask_form
unfolding keyword_event
ask_again left values stand range = form_again ask_form is_ask left values stand range

settle_again : Again keywords.Settle (bare_form keywords.Settle events.Settle)
unfolding keyword_event
settle_again left values stand range = form_again (bare_form keywords.Settle events.Settle) is_settle left values stand range

-- a line of these words is the event that its keyword reads
written_again : (line : List ℕ) (form : EventForm) → IsForm form → Again form.keyword form → (values : Values form.places)
    → IsWritten line form values
    → event_of line ≡ Ok (form.event values)
unfolding event_of
written_again line form k again values h =
    let are : words line ≡ keyword_text form.keyword ∷ h.words =
    ap words h.text ∙ words-joined (keyword_text form.keyword) h.words (keyword_lacks_blank form.keyword) (words_lack_blanks form.places k.places h.words values h.stand h.range) in
    ap (λ ws. result_then (next_word ws) words_event) are
    ∙ ap (λ o. result_then (ok_or o Word) (λ keyword. keyword_event keyword h.words)) (keyword_again form.keyword)
    ∙ again h.words values h.stand h.range

-- A text of an event is read as it.
pub text_is_read : (line : List ℕ) (e : Event) → IsTextOf line e → event_of line ≡ Ok e
text_is_read line (events.Static plan) h = written_again line static_form is_static static_again (plan_values plan) h
text_is_read line events.Start h = written_again line (bare_form keywords.Start events.Start) is_start start_again tt h
text_is_read line (events.Attach plan) h = written_again line attach_form is_attach attach_again (plan_values plan) h
text_is_read line (events.Offer ue bearer dir packet) h = written_again line offer_form is_offer offer_again (ue, (bearer, (dir, (packet, tt)))) h
text_is_read line (events.Get end teid) h = written_again line get_form is_get get_again ((end, teid), tt) h
text_is_read line (events.Air ue bearer dir) h = written_again line air_form is_air air_again (ue, (bearer, (dir, tt))) h
text_is_read line (events.Ack ue bearer dir) h = written_again line ack_form is_ack ack_again (ue, (bearer, (dir, tt))) h
text_is_read line (events.Give message) h = written_again line give_form is_give give_again (message, tt) h
text_is_read line (events.LoseMessage message) h = written_again line lose_message_form is_lose_message lose_message_again (message, tt) h
text_is_read line (events.LoseItem end teid) h = written_again line lose_item_form is_lose_item lose_item_again ((end, teid), tt) h
text_is_read line (events.Poll ue bearer) h = written_again line poll_form is_poll poll_again (ue, (bearer, tt)) h
text_is_read line events.Pump h = written_again line (bare_form keywords.Pump events.Pump) is_pump pump_again tt h
text_is_read line events.Tick h = written_again line (bare_form keywords.Tick events.Tick) is_tick tick_again tt h
text_is_read line (events.Fail ue) h = written_again line (ue_form keywords.Fail events.Fail) is_fail fail_again (ue, tt) h
text_is_read line (events.Arrive ue) h = written_again line (ue_form keywords.Arrive events.Arrive) is_arrive arrive_again (ue, tt) h
text_is_read line (events.Return ue) h = written_again line (ue_form keywords.Return events.Return) is_return return_again (ue, tt) h
text_is_read line (events.Handover ue gnb up du) h = written_again line handover_form is_handover handover_again (ue, (gnb, (up, (du, tt)))) h
text_is_read line (events.Cancel ue) h = written_again line (ue_form keywords.Cancel events.Cancel) is_cancel cancel_again (ue, tt) h
text_is_read line (events.Release ue) h = written_again line (ue_form keywords.Release events.Release) is_release release_again (ue, tt) h
text_is_read line (events.Ask ue bearer) h = written_again line ask_form is_ask ask_again (ue, (bearer, tt)) h
text_is_read line events.Settle h = written_again line (bare_form keywords.Settle events.Settle) is_settle settle_again tt h
text_is_read line (events.InjectMessage from to bytes) h = written_again line inject_message_form is_inject_message inject_message_again (from, (to, (bytes, tt))) h
text_is_read line (events.InjectItem end teid bytes) h = written_again line inject_item_form is_inject_item inject_item_again ((end, teid), (bytes, tt)) h

form_text-IsWritten : (form : EventForm) (values : Values form.places) → InPlaces form.places values
    → IsWritten (form_text form values) form values
form_text-IsWritten form values range =
    record { words = value_words form.places values; text = refl; stand = value_words-AreWordsOf form.places values range; range = range }

-- The text of an event in its ranges is one of its texts.
pub event_text-IsTextOf : (e : Event) → InRange e → IsTextOf (event_text e) e
unfolding event_text
event_text-IsTextOf (events.Static plan) h = form_text-IsWritten static_form (plan_values plan) h
event_text-IsTextOf events.Start h = form_text-IsWritten (bare_form keywords.Start events.Start) tt h
event_text-IsTextOf (events.Attach plan) h = form_text-IsWritten attach_form (plan_values plan) h
event_text-IsTextOf (events.Offer ue bearer dir packet) h = form_text-IsWritten offer_form (ue, (bearer, (dir, (packet, tt)))) h
event_text-IsTextOf (events.Get end teid) h = form_text-IsWritten get_form ((end, teid), tt) h
event_text-IsTextOf (events.Air ue bearer dir) h = form_text-IsWritten air_form (ue, (bearer, (dir, tt))) h
event_text-IsTextOf (events.Ack ue bearer dir) h = form_text-IsWritten ack_form (ue, (bearer, (dir, tt))) h
event_text-IsTextOf (events.Give message) h = form_text-IsWritten give_form (message, tt) h
event_text-IsTextOf (events.LoseMessage message) h = form_text-IsWritten lose_message_form (message, tt) h
event_text-IsTextOf (events.LoseItem end teid) h = form_text-IsWritten lose_item_form ((end, teid), tt) h
event_text-IsTextOf (events.Poll ue bearer) h = form_text-IsWritten poll_form (ue, (bearer, tt)) h
event_text-IsTextOf events.Pump h = form_text-IsWritten (bare_form keywords.Pump events.Pump) tt h
event_text-IsTextOf events.Tick h = form_text-IsWritten (bare_form keywords.Tick events.Tick) tt h
event_text-IsTextOf (events.Fail ue) h = form_text-IsWritten (ue_form keywords.Fail events.Fail) (ue, tt) h
event_text-IsTextOf (events.Arrive ue) h = form_text-IsWritten (ue_form keywords.Arrive events.Arrive) (ue, tt) h
event_text-IsTextOf (events.Return ue) h = form_text-IsWritten (ue_form keywords.Return events.Return) (ue, tt) h
event_text-IsTextOf (events.Handover ue gnb up du) h = form_text-IsWritten handover_form (ue, (gnb, (up, (du, tt)))) h
event_text-IsTextOf (events.Cancel ue) h = form_text-IsWritten (ue_form keywords.Cancel events.Cancel) (ue, tt) h
event_text-IsTextOf (events.Release ue) h = form_text-IsWritten (ue_form keywords.Release events.Release) (ue, tt) h
event_text-IsTextOf (events.Ask ue bearer) h = form_text-IsWritten ask_form (ue, (bearer, tt)) h
event_text-IsTextOf events.Settle h = form_text-IsWritten (bare_form keywords.Settle events.Settle) tt h
event_text-IsTextOf (events.InjectMessage from to bytes) h = form_text-IsWritten inject_message_form (from, (to, (bytes, tt))) h
event_text-IsTextOf (events.InjectItem end teid bytes) h = form_text-IsWritten inject_item_form ((end, teid), (bytes, tt)) h

-- An event in its ranges is read again from its text.
pub event_of-event_text : (e : Event) → InRange e → event_of (event_text e) ≡ Ok e
event_of-event_text e h = text_is_read (event_text e) e (event_text-IsTextOf e h)

-- What holds of the text of each form holds of each event's text.
pub text_by_form : (P : List ℕ → Type 0)
    → ((form : EventForm) → IsForm form → (values : Values form.places) → InPlaces form.places values → P (form_text form values))
    → (e : Event) → InRange e → P (event_text e)
unfolding event_text
text_by_form P each (events.Static plan) h = each static_form is_static (plan_values plan) h
text_by_form P each events.Start h = each (bare_form keywords.Start events.Start) is_start tt h
text_by_form P each (events.Attach plan) h = each attach_form is_attach (plan_values plan) h
text_by_form P each (events.Offer ue bearer dir packet) h = each offer_form is_offer (ue, (bearer, (dir, (packet, tt)))) h
text_by_form P each (events.Get end teid) h = each get_form is_get ((end, teid), tt) h
text_by_form P each (events.Air ue bearer dir) h = each air_form is_air (ue, (bearer, (dir, tt))) h
text_by_form P each (events.Ack ue bearer dir) h = each ack_form is_ack (ue, (bearer, (dir, tt))) h
text_by_form P each (events.Give message) h = each give_form is_give (message, tt) h
text_by_form P each (events.LoseMessage message) h = each lose_message_form is_lose_message (message, tt) h
text_by_form P each (events.LoseItem end teid) h = each lose_item_form is_lose_item ((end, teid), tt) h
text_by_form P each (events.Poll ue bearer) h = each poll_form is_poll (ue, (bearer, tt)) h
text_by_form P each events.Pump h = each (bare_form keywords.Pump events.Pump) is_pump tt h
text_by_form P each events.Tick h = each (bare_form keywords.Tick events.Tick) is_tick tt h
text_by_form P each (events.Fail ue) h = each (ue_form keywords.Fail events.Fail) is_fail (ue, tt) h
text_by_form P each (events.Arrive ue) h = each (ue_form keywords.Arrive events.Arrive) is_arrive (ue, tt) h
text_by_form P each (events.Return ue) h = each (ue_form keywords.Return events.Return) is_return (ue, tt) h
text_by_form P each (events.Handover ue gnb up du) h = each handover_form is_handover (ue, (gnb, (up, (du, tt)))) h
text_by_form P each (events.Cancel ue) h = each (ue_form keywords.Cancel events.Cancel) is_cancel (ue, tt) h
text_by_form P each (events.Release ue) h = each (ue_form keywords.Release events.Release) is_release (ue, tt) h
text_by_form P each (events.Ask ue bearer) h = each ask_form is_ask (ue, (bearer, tt)) h
text_by_form P each events.Settle h = each (bare_form keywords.Settle events.Settle) is_settle tt h
text_by_form P each (events.InjectMessage from to bytes) h = each inject_message_form is_inject_message (from, (to, (bytes, tt))) h
text_by_form P each (events.InjectItem end teid bytes) h = each inject_item_form is_inject_item ((end, teid), (bytes, tt)) h

text_in_range : (line : List ℕ) (e : Event) → IsTextOf line e → InRange e
text_in_range line (events.Static plan) h = h.range
text_in_range line events.Start h = h.range
text_in_range line (events.Attach plan) h = h.range
text_in_range line (events.Offer ue bearer dir packet) h = h.range
text_in_range line (events.Get end teid) h = h.range
text_in_range line (events.Air ue bearer dir) h = h.range
text_in_range line (events.Ack ue bearer dir) h = h.range
text_in_range line (events.Give message) h = h.range
text_in_range line (events.LoseMessage message) h = h.range
text_in_range line (events.LoseItem end teid) h = h.range
text_in_range line (events.Poll ue bearer) h = h.range
text_in_range line events.Pump h = h.range
text_in_range line events.Tick h = h.range
text_in_range line (events.Fail ue) h = h.range
text_in_range line (events.Arrive ue) h = h.range
text_in_range line (events.Return ue) h = h.range
text_in_range line (events.Handover ue gnb up du) h = h.range
text_in_range line (events.Cancel ue) h = h.range
text_in_range line (events.Release ue) h = h.range
text_in_range line (events.Ask ue bearer) h = h.range
text_in_range line events.Settle h = h.range
text_in_range line (events.InjectMessage from to bytes) h = h.range
text_in_range line (events.InjectItem end teid bytes) h = h.range

-- What is read lies in its ranges.
pub event_in_range : (line : List ℕ) (e : Event) → event_of line ≡ Ok e → InRange e
event_in_range line e h = text_in_range line e (event_sound line e h)

-- What a reader gives as the grammar says lies in its ranges.
pub given_in_range : (line : List ℕ) (r : Result Event TextError) → GivesOrMemory (λ x. x) r (event_of line) → IfOk r InRange
given_in_range line (Ok e) h = event_in_range line e h
given_in_range line (Err error) h = tt

-- The header is one line.
