-- What a reader refuses is a first wrong word, and a first wrong word is refused.
use Rattle.std.proofs.Common.{◌≡◌, ℕ, ◌⊎◌, Bool, true, false, cond, List, Option, Some, None, Result, Ok, Err, [], ◌∷◌, length, refl, ap, ◌∙◌, sym, subst, inl, inr, nat_eq, nat_lt}
use Rattle.std.specs.Option.{ok_or}
use Rattle.std.specs.List.{before_first, after_first}
use Rattle.gnb_types.specs.Hex.{read_hex}
use Rattle.scenario_text.specs.declared.script_words.reason.TextReason.{TextReason}
use Rattle.scenario_text.specs.declared.script_words.reason.TextReason.TheVariants.{Word, Number, Hex, Extra, Name}
use Rattle.scenario_text.specs.script_words.Forms.{words, node, number, both, greatest_number, ue_of, bearer_of, gnb_of, node_of, dir_of, number_of, sn_bits_of, message_of}
use Rattle.scenario_text.specs.script_words.Places.{Place, AtUe, AtBearer, AtGnb, AtNode, AtDir, AtNumber, AtSnBits, AtMessage, AtTunnel, AtHex, Meaning, Values, read_word, read_into, read_places, result_then, next_word, line_end}
use Rattle.scenario_text.proofs.script_words.FormLaws.{chosen}
use Rattle.scenario_text.proofs.script_words.WordLemmas.{line_end-words}
use Rattle.scenario_text.proofs.script_words.PlaceLaws.{IsEventPlace, AreEventPlaces, word_sound, word_again}
use Rattle.scenario_text.specs.declared.event.Event.TheVariants as events
use Rattle.scenario_text.specs.declared.event.Keyword.{Keyword}
use Rattle.scenario_text.specs.declared.event.Keyword.TheVariants as keywords
use Rattle.scenario_text.specs.Grammar.{EventForm, keyword_of, bare_form, static_form, attach_form, offer_form, get_form, air_form, ack_form, give_form, lose_message_form, lose_item_form, poll_form, ue_form, handover_form, ask_form, inject_message_form, inject_item_form, names_message, names_tunnel, read_form, keyword_event, words_event, event_of}
use Rattle.scenario_text.proofs.EventLaws.{keyword_sound, keyword_again, IsForm, is_static, is_start, is_attach, is_offer, is_get, is_air, is_ack, is_give, is_lose_message, is_lose_item, is_poll, is_pump, is_tick, is_fail, is_arrive, is_return, is_handover, is_cancel, is_release, is_ask, is_settle, is_inject_message, is_inject_item}
use Rattle.law_scenario.specs.FirstWrong.{HasNone, TunnelFault, IsFaultAt, IsWrongAt, IsWrongIn, places_after, IsWrongEvent, IsFirstWrong}

-- ---- one word

pub ok_or_err : {X E : Type 0} (o : Option X) (e f : E) → ok_or o e ≡ Err f → f ≡ e
ok_or_err None e f h = cc
ok_or_err (Some x) e f h = absurd (cc)

pub same_reason : {X : Type 0} (r : Result X TextReason) (a b : TextReason) → r ≡ Err a → r ≡ Err b → a ≡ b
same_reason r a b p q = cc

pub not_both : {X E : Type 0} (r : Result X E) (x : X) (e : E) → r ≡ Ok x → r ≡ Err e → ⊥
not_both r x e p q = absurd (cc)

hex_err : (word : List ℕ) (reason : TextReason) → read_word AtHex word ≡ Err reason → reason ≡ Hex
hex_err word reason h = elim (chosen (nat_lt 0 (length word)) (ok_or (read_hex word) Hex) (Err Hex) (Err reason) h) [
  | inl w ↦ ok_or_err (read_hex word) Hex reason w.1
  | inr w ↦ sym (same_reason _ Hex reason refl w.1)
]

both_err : {X Y : Type 0} (r : Result X TextReason) (s : Result Y TextReason) (reason : TextReason) → both r s ≡ Err reason
    → (r ≡ Err reason) ⊎ ((x : X) × (r ≡ Ok x) × (s ≡ Err reason))
both_err (Ok x) (Ok y) reason h = absurd (cc)
both_err (Ok x) (Err e) reason h = inr (x, refl, cc)
both_err (Err e) s reason h = inl (cc)

none_at : (p : Place) → IsEventPlace p → (word : List ℕ) (reason : TextReason) → read_word p word ≡ Err reason → HasNone p word
none_at p k word reason h = λ value stands range. not_both (read_word p word) value reason (word_again p k word value stands range) h

tunnel_fault : (word : List ℕ) (reason : TextReason) → read_word AtTunnel word ≡ Err reason → TunnelFault word reason
tunnel_fault word reason h =
    let front = before_first (λ c. nat_eq c 47) word in
    elim (both_err (node front) (number 1 greatest_number (after_first (λ c. nat_eq c 47) word)) reason h) [
      | inl w ↦ subst (TunnelFault word) (sym (ok_or_err (node_of front) Name reason w)) (none_at AtNode tt front reason w)
      | inr w ↦ subst (TunnelFault word) (sym (ok_or_err _ Number reason w.2)) (let s = word_sound AtNode tt front w.0 w.1 in (w.0, s.0, s.1))
    ]

fault_at : (p : Place) (word : List ℕ) (reason : TextReason) → read_word p word ≡ Err reason → IsFaultAt p word reason
fault_at AtUe word reason h = ok_or_err (ue_of word) Name reason h
fault_at AtBearer word reason h = ok_or_err (bearer_of word) Name reason h
fault_at AtGnb word reason h = ok_or_err (gnb_of word) Name reason h
fault_at AtNode word reason h = ok_or_err (node_of word) Name reason h
fault_at AtDir word reason h = ok_or_err (dir_of word) Word reason h
fault_at (AtNumber low high) word reason h = ok_or_err (number_of low high word) Number reason h
fault_at AtSnBits word reason h = ok_or_err (sn_bits_of word) Number reason h
fault_at AtMessage word reason h = ok_or_err (message_of word) Number reason h
fault_at AtTunnel word reason h = tunnel_fault word reason h
fault_at AtHex word reason h = hex_err word reason h

-- one word has one fault
same_tunnel_fault : (word : List ℕ) (a b : TextReason) → TunnelFault word a → TunnelFault word b → a ≡ b
same_tunnel_fault word Name Name f g = refl
same_tunnel_fault word Number Number f g = refl
same_tunnel_fault word Name Number f g = absurd (f g.0 g.1 g.2)
same_tunnel_fault word Number Name f g = absurd (g f.0 f.1 f.2)
same_tunnel_fault word Name Word f g = absurd g
same_tunnel_fault word Name Hex f g = absurd g
same_tunnel_fault word Name Extra f g = absurd g
same_tunnel_fault word Number Word f g = absurd g
same_tunnel_fault word Number Hex f g = absurd g
same_tunnel_fault word Number Extra f g = absurd g
same_tunnel_fault word Word b f g = absurd f
same_tunnel_fault word Hex b f g = absurd f
same_tunnel_fault word Extra b f g = absurd f

same_fault : (p : Place) (word : List ℕ) (a b : TextReason) → IsFaultAt p word a → IsFaultAt p word b → a ≡ b
same_fault AtUe word a b f g = f ∙ sym g
same_fault AtBearer word a b f g = f ∙ sym g
same_fault AtGnb word a b f g = f ∙ sym g
same_fault AtNode word a b f g = f ∙ sym g
same_fault AtDir word a b f g = f ∙ sym g
same_fault (AtNumber low high) word a b f g = f ∙ sym g
same_fault AtSnBits word a b f g = f ∙ sym g
same_fault AtMessage word a b f g = f ∙ sym g
same_fault AtTunnel word a b f g = same_tunnel_fault word a b f g
same_fault AtHex word a b f g = f ∙ sym g

word_refused : (p : Place) → IsEventPlace p → (word : List ℕ) (reason : TextReason) → IsWrongAt p word reason
    → read_word p word ≡ Err reason
word_refused p k word reason wrong = by_read (read_word p word) refl
  where
    by_read : (r : Result (Meaning p) TextReason) → read_word p word ≡ r → read_word p word ≡ Err reason
    by_read (Ok x) e = let s = word_sound p k word x e in absurd (wrong.0 x s.0 s.1)
    by_read (Err other) e = e ∙ ap Err (same_fault p word other reason (fault_at p word other e) wrong.1)

-- ---- words at places

pub places_wrong : {Y : Type 0} (places : List Place) → AreEventPlaces places
    → (make : Values places → Y) (left : List (List ℕ)) (reason : TextReason)
    → read_into places make left ≡ Err reason → IsWrongIn places left reason
places_wrong [] k make [] reason h = absurd (cc)
places_wrong [] k make (word ∷ rest) reason h = sym (same_reason _ Extra reason refl h)
places_wrong (p ∷ places) k make [] reason h = sym (same_reason _ Word reason refl h)
places_wrong {Y} (p ∷ places) k make (word ∷ rest) reason h = by_read (read_word p word) refl h (λ x g. places_wrong places k.1 (λ vs. make (x, vs)) rest reason g)
  where
    by_read : (r : Result (Meaning p) TextReason) → read_word p word ≡ r
        → result_then {X = Meaning p × List (List ℕ)} {Y = Y} (result_then r (λ x. Ok (x, rest))) (λ read. read_into places (λ vs. make (read.0, vs)) read.1) ≡ Err reason
        → ((x : Meaning p) → read_into places (λ vs. make (x, vs)) rest ≡ Err reason → IsWrongIn places rest reason)
        → IsWrongIn (p ∷ places) (word ∷ rest) reason
    by_read (Ok x) e g more = let s = word_sound p k.0 word x e in inr (x, s.0, s.1, more x g)
    by_read (Err other) e g more =
        let same : other ≡ reason = same_reason _ other reason refl g in
        inl (subst (IsWrongAt p word) same (none_at p k.0 word other e, fault_at p word other e))

pub places_refused : {Y : Type 0} (places : List Place) → AreEventPlaces places
    → (make : Values places → Y) (left : List (List ℕ)) (reason : TextReason)
    → IsWrongIn places left reason → read_into places make left ≡ Err reason
places_refused [] k make [] reason h = absurd h
places_refused [] k make (word ∷ rest) reason h = ap Err (sym h)
places_refused (p ∷ places) k make [] reason h = ap Err (sym h)
places_refused {Y} (p ∷ places) k make (word ∷ rest) reason (inl h) =
    ap (λ (r : Result (Meaning p) TextReason). result_then {X = Meaning p × List (List ℕ)} {Y = Y} (result_then r (λ x. Ok (x, rest))) (λ read. read_into places (λ vs. make (read.0, vs)) read.1)) (word_refused p k.0 word reason h)
places_refused {Y} (p ∷ places) k make (word ∷ rest) reason (inr h) =
    ap (λ (r : Result (Meaning p) TextReason). result_then {X = Meaning p × List (List ℕ)} {Y = Y} (result_then r (λ x. Ok (x, rest))) (λ read. read_into places (λ vs. make (read.0, vs)) read.1)) (word_again p k.0 word h.0 h.1 h.2)
    ∙ places_refused places k.1 (λ vs. make (h.0, vs)) rest reason h.3

form_wrong : (form : EventForm) → IsForm form → (left : List (List ℕ)) (reason : TextReason) → read_form form left ≡ Err reason
    → IsWrongIn form.places left reason
form_wrong form k left reason h = by_read (read_places form.places left) refl h
  where
    by_read : (r : Result (Values form.places) TextReason) → read_places form.places left ≡ r
        → result_then r (λ values. Ok (form.event values)) ≡ Err reason → IsWrongIn form.places left reason
    by_read (Ok values) e g = absurd (cc)
    by_read (Err other) e g =
        let same : other ≡ reason = same_reason _ other reason refl g in
        places_wrong form.places k.places (λ vs. vs) left reason (e ∙ ap Err same)

form_refused : (form : EventForm) → IsForm form → (left : List (List ℕ)) (reason : TextReason) → IsWrongIn form.places left reason
    → read_form form left ≡ Err reason
form_refused form k left reason h =
    ap (λ (r : Result (Values form.places) TextReason). result_then r (λ values. Ok (form.event values))) (places_refused form.places k.places (λ vs. vs) left reason h)

-- ---- events

-- which way a choice of places goes
places_if : (b : Bool) (f g : EventForm) (left : List (List ℕ)) (reason : TextReason)
    → (IsWrongIn f.places left reason → read_form f left ≡ Err reason) → (IsWrongIn g.places left reason → read_form g left ≡ Err reason)
    → IsWrongIn (cond b f.places g.places) left reason → cond b (read_form f left) (read_form g left) ≡ Err reason
places_if true f g left reason p q h = p h
places_if false f g left reason p q h = q h

if_places : (b : Bool) (f g : EventForm) (left : List (List ℕ)) (reason : TextReason)
    → (read_form f left ≡ Err reason → IsWrongIn f.places left reason) → (read_form g left ≡ Err reason → IsWrongIn g.places left reason)
    → cond b (read_form f left) (read_form g left) ≡ Err reason → IsWrongIn (cond b f.places g.places) left reason
if_places true f g left reason p q h = p h
if_places false f g left reason p q h = q h

keyword_wrong : (k : Keyword) (left : List (List ℕ)) (reason : TextReason) → keyword_event k left ≡ Err reason
    → IsWrongIn (places_after k left) left reason
unfolding keyword_event
keyword_wrong keywords.Static left reason h = form_wrong static_form is_static left reason h
keyword_wrong keywords.Start left reason h = form_wrong (bare_form keywords.Start events.Start) is_start left reason h
keyword_wrong keywords.Attach left reason h = form_wrong attach_form is_attach left reason h
keyword_wrong keywords.Offer left reason h = form_wrong offer_form is_offer left reason h
keyword_wrong keywords.Get left reason h = form_wrong get_form is_get left reason h
keyword_wrong keywords.Air left reason h = form_wrong air_form is_air left reason h
keyword_wrong keywords.Ack left reason h = form_wrong ack_form is_ack left reason h
keyword_wrong keywords.Give left reason h = form_wrong give_form is_give left reason h
keyword_wrong keywords.Lose left reason h = if_places (names_message left) lose_message_form lose_item_form left reason (form_wrong lose_message_form is_lose_message left reason) (form_wrong lose_item_form is_lose_item left reason) h
keyword_wrong keywords.Poll left reason h = form_wrong poll_form is_poll left reason h
keyword_wrong keywords.Pump left reason h = form_wrong (bare_form keywords.Pump events.Pump) is_pump left reason h
keyword_wrong keywords.Tick left reason h = form_wrong (bare_form keywords.Tick events.Tick) is_tick left reason h
keyword_wrong keywords.Fail left reason h = form_wrong (ue_form keywords.Fail events.Fail) is_fail left reason h
keyword_wrong keywords.Arrive left reason h = form_wrong (ue_form keywords.Arrive events.Arrive) is_arrive left reason h
keyword_wrong keywords.Return left reason h = form_wrong (ue_form keywords.Return events.Return) is_return left reason h
keyword_wrong keywords.Handover left reason h = form_wrong handover_form is_handover left reason h
keyword_wrong keywords.Cancel left reason h = form_wrong (ue_form keywords.Cancel events.Cancel) is_cancel left reason h
keyword_wrong keywords.Release left reason h = form_wrong (ue_form keywords.Release events.Release) is_release left reason h
keyword_wrong keywords.Ask left reason h = form_wrong ask_form is_ask left reason h
keyword_wrong keywords.Settle left reason h = form_wrong (bare_form keywords.Settle events.Settle) is_settle left reason h
keyword_wrong keywords.Inject left reason h = if_places (names_tunnel left) inject_item_form inject_message_form left reason (form_wrong inject_item_form is_inject_item left reason) (form_wrong inject_message_form is_inject_message left reason) h

keyword_refused : (k : Keyword) (left : List (List ℕ)) (reason : TextReason) → IsWrongIn (places_after k left) left reason
    → keyword_event k left ≡ Err reason
unfolding keyword_event
keyword_refused keywords.Static left reason h = form_refused static_form is_static left reason h
keyword_refused keywords.Start left reason h = form_refused (bare_form keywords.Start events.Start) is_start left reason h
keyword_refused keywords.Attach left reason h = form_refused attach_form is_attach left reason h
keyword_refused keywords.Offer left reason h = form_refused offer_form is_offer left reason h
keyword_refused keywords.Get left reason h = form_refused get_form is_get left reason h
keyword_refused keywords.Air left reason h = form_refused air_form is_air left reason h
keyword_refused keywords.Ack left reason h = form_refused ack_form is_ack left reason h
keyword_refused keywords.Give left reason h = form_refused give_form is_give left reason h
keyword_refused keywords.Lose left reason h = places_if (names_message left) lose_message_form lose_item_form left reason (form_refused lose_message_form is_lose_message left reason) (form_refused lose_item_form is_lose_item left reason) h
keyword_refused keywords.Poll left reason h = form_refused poll_form is_poll left reason h
keyword_refused keywords.Pump left reason h = form_refused (bare_form keywords.Pump events.Pump) is_pump left reason h
keyword_refused keywords.Tick left reason h = form_refused (bare_form keywords.Tick events.Tick) is_tick left reason h
keyword_refused keywords.Fail left reason h = form_refused (ue_form keywords.Fail events.Fail) is_fail left reason h
keyword_refused keywords.Arrive left reason h = form_refused (ue_form keywords.Arrive events.Arrive) is_arrive left reason h
keyword_refused keywords.Return left reason h = form_refused (ue_form keywords.Return events.Return) is_return left reason h
keyword_refused keywords.Handover left reason h = form_refused handover_form is_handover left reason h
keyword_refused keywords.Cancel left reason h = form_refused (ue_form keywords.Cancel events.Cancel) is_cancel left reason h
keyword_refused keywords.Release left reason h = form_refused (ue_form keywords.Release events.Release) is_release left reason h
keyword_refused keywords.Ask left reason h = form_refused ask_form is_ask left reason h
keyword_refused keywords.Settle left reason h = form_refused (bare_form keywords.Settle events.Settle) is_settle left reason h
keyword_refused keywords.Inject left reason h = places_if (names_tunnel left) inject_item_form inject_message_form left reason (form_refused inject_item_form is_inject_item left reason) (form_refused inject_message_form is_inject_message left reason) h

none_is_some : {X : Type 0} (o : Option X) (x : X) → o ≡ None → o ≡ Some x → ⊥
none_is_some o x p q = absurd (cc)

words_wrong : (word : List ℕ) (left : List (List ℕ)) (reason : TextReason) → words_event (word, left) ≡ Err reason
    → IsWrongEvent (word ∷ left) reason
words_wrong word left reason h = by_keyword (keyword_of word) refl h
  where
    by_keyword : (o : Option Keyword) → keyword_of word ≡ o
        → result_then (ok_or o Word) (λ keyword. keyword_event keyword left) ≡ Err reason → IsWrongEvent (word ∷ left) reason
    by_keyword (Some k) found g = inr (k, keyword_sound word k found, keyword_wrong k left reason g)
    by_keyword None found g =
        inl ((λ k same. none_is_some (keyword_of word) k found (ap keyword_of same ∙ keyword_again k)), sym (same_reason _ Word reason refl g))

words_refused : (word : List ℕ) (left : List (List ℕ)) (reason : TextReason) → IsWrongEvent (word ∷ left) reason
    → words_event (word, left) ≡ Err reason
words_refused word left reason (inr h) =
    ap (λ (o : Option Keyword). result_then (ok_or o Word) (λ keyword. keyword_event keyword left)) (ap keyword_of h.1 ∙ keyword_again h.0) ∙ keyword_refused h.0 left reason h.2
words_refused word left reason (inl h) = by_keyword (keyword_of word) refl
  where
    by_keyword : (o : Option Keyword) → keyword_of word ≡ o → words_event (word, left) ≡ Err reason
    by_keyword (Some k) found = absurd (h.0 k (keyword_sound word k found))
    by_keyword None found = ap (λ (o : Option Keyword). result_then (ok_or o Word) (λ keyword. keyword_event keyword left)) found ∙ ap Err (sym h.1)

pub no_words : (line : List ℕ) → words line ≡ [] → ⊥
no_words line e = not_both (line_end (words line)) tt Extra (ap line_end e) (line_end-words line)

-- What is refused has a first wrong word.
pub refused_wrong : (line : List ℕ) (reason : TextReason) → event_of line ≡ Err reason → IsFirstWrong line reason
unfolding event_of
refused_wrong line reason h = by_words (words line) refl h
  where
    by_words : (ws : List (List ℕ)) → words line ≡ ws → result_then (next_word ws) words_event ≡ Err reason → IsWrongEvent ws reason
    by_words [] e g = absurd (no_words line e)
    by_words (word ∷ rest) e g = words_wrong word rest reason g

-- A first wrong word is refused.
pub wrong_refused : (line : List ℕ) (reason : TextReason) → IsFirstWrong line reason → event_of line ≡ Err reason
unfolding event_of
wrong_refused line reason h = by_words (words line) h
  where
    by_words : (ws : List (List ℕ)) → IsWrongEvent ws reason → result_then (next_word ws) words_event ≡ Err reason
    by_words [] g = absurd g
    by_words (word ∷ rest) g = words_refused word rest reason g
