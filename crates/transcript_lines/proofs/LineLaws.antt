-- What is read is a proper line, and the text of a proper line is read as the line.
use Rattle.std.proofs.Common.{◌≡◌, ℕ, ◌≤◌, ◌<◌, ◌^◌, ◌&&◌, Bool, true, false, cond, Some, List, Result, Ok, Err, [], ◌∷◌, ◌++◌, drop, refl, ap, ◌∙◌, sym, subst, inl, inr, arith, nat_eq, nat_lt, codes, eqb-true, eq-eqb}
use Rattle.std.specs.Fmt.{decimal}
use Rattle.std.specs.Option.{ok_or}
use Rattle.std.specs.List.{join_with_byte}
use Rattle.std.proofs.lemmas.Bool.Decides.{nat_tests}
use Rattle.std.proofs.lemmas.Fmt.{decimal_digit}
use Rattle.std.specs.Str.{bytes_eq}
use Rattle.std.proofs.lemmas.Slice.Eq.{bytes_eq-Decides}
use Rattle.gnb_types.specs.declared.names.Gnb.TheVariants.{A, B}
use Rattle.gnb_types.specs.declared.names.Dir.{Dir}
use Rattle.gnb_types.specs.declared.names.Dir.TheVariants.{Dl, Ul}
use Rattle.gnb_types.specs.declared.names.UeId.{UeId}
use Rattle.gnb_types.specs.declared.names.BearerId.{BearerId}
use Rattle.gnb_types.specs.declared.names.NodeId.TheVariants.{CuCp, CuUp, Du, Core, Ue}
use Rattle.gnb_types.specs.declared.reasons.HeldReason.{HeldReason}
use Rattle.gnb_types.specs.declared.reasons.HeldReason.TheVariants as helds
use Rattle.scenario_text.specs.declared.script_words.reason.TextReason.{TextReason}
use Rattle.scenario_text.specs.declared.script_words.reason.TextReason.TheVariants.{Word, Name}
use Rattle.scenario_text.specs.script_words.Forms.{words, ◌begins◌, greatest_number}
use Rattle.scenario_text.specs.script_words.Ranges.{IsWithin, IsUe, IsBearer}
use Rattle.scenario_text.specs.script_words.Places.{next_word, result_then}
use Rattle.scenario_text.proofs.script_words.FormLaws.{chosen, and_true}
use Rattle.scenario_text.proofs.script_words.PlaceLaws.{Lacks, words-joined}
use Rattle.scenario_text.specs.declared.event.Event.{Event}
use Rattle.scenario_text.specs.Grammar.{names_message, event_of}
use Rattle.scenario_text.specs.Texts.{InRange, event_text}
use Rattle.scenario_text.proofs.EventLaws.{event_in_range, event_of-event_text}
use Rattle.scenario_text.specs.declared.line.Link.{Link}
use Rattle.scenario_text.specs.declared.line.Link.TheVariants.{Tunnel, Radio}
use Rattle.scenario_text.specs.declared.line.Item.{Item}
use Rattle.scenario_text.specs.declared.line.Message.{Message}
use Rattle.scenario_text.specs.declared.line.OutLine.{OutLine}
use Rattle.scenario_text.specs.declared.line.OutLine.TheVariants as lines
use Rattle.scenario_text.specs.Print.{◌then◌, link_text, item_text, message_text, line_text}
use Rattle.transcript_defs.specs.declared.line.TextLine.{TextLine}
use Rattle.transcript_defs.specs.declared.line.TextLine.TheVariants.{Printed, LostMore, OutstandingWide}
use Rattle.transcript_defs.specs.Lines.{IsLink, IsItem, IsMessage, IsLine, IsOfLink, HasOctets, IsHeldOn, IsWhole, text_of, IsProper, IsLineOf}
use Rattle.transcript_lines.specs.declared.lines.forms.Keyword.{Keyword}
use Rattle.transcript_lines.specs.declared.lines.forms.Keyword.TheVariants as keywords
use Rattle.transcript_lines.specs.inside.Fields.{ValuesOf, InFields, field_words}
use Rattle.transcript_lines.specs.inside.ReadLine.{keyword_text, keyword_of, LineForm, read_form, printed, same_dir, is_of_link, item_form, message_form, deliver_form, lost_items_form, lost_message, lost_message_form, drop_form, is_held_on, held_form, failed_form, quiet_form, busy_form, number_form, refused_form, outstanding_line, outstanding_form, stop_form, moved, lost, keyword_line, words_line, event_line, line_of}
use Rattle.transcript_lines.proofs.FieldLaws.{then_ok, went, AreFields, fields_sound, fields_back, fields_lack}

abbrev ok : {X : Type 0} → X → Result X TextReason
ok x = Ok x

same_ok : {X : Type 0} {a b : X} → ok a ≡ ok b → a ≡ b
same_ok e = cc

-- ---- the fields of each form

item_are : AreFields item_form.fields
item_are = (tt, (tt, (tt, (tt, (tt, (tt, tt))))))

message_are : AreFields message_form.fields
message_are = (tt, (tt, (tt, (tt, (tt, tt)))))

deliver_are : AreFields deliver_form.fields
deliver_are = (tt, (tt, (tt, (omega arith, (tt, tt)))))

lost_items_are : AreFields lost_items_form.fields
lost_items_are = (tt, (omega arith, tt))

lost_message_are : AreFields lost_message_form.fields
lost_message_are = (tt, (omega arith, tt))

drop_are : AreFields drop_form.fields
drop_are = (tt, (tt, tt))

held_are : AreFields held_form.fields
held_are = (tt, (tt, tt))

failed_are : AreFields failed_form.fields
failed_are = (tt, (tt, (tt, tt)))

quiet_are : AreFields quiet_form.fields
quiet_are = (tt, (tt, (omega arith, (omega arith, tt))))

busy_are : AreFields busy_form.fields
busy_are = (tt, (tt, tt))

number_are : (line : ℕ → OutLine) → AreFields (number_form line).fields
number_are line = (omega arith, tt)

refused_are : AreFields refused_form.fields
refused_are = (tt, tt)

outstanding_are : AreFields outstanding_form.fields
outstanding_are = (tt, (tt, (tt, (omega arith, (omega arith, tt)))))

stop_are : AreFields stop_form.fields
stop_are = (omega arith, (omega arith, (omega arith, tt)))

-- ---- what a line says beyond its ranges

dir_is : (a b : Dir) → same_dir a b ≡ true → a ≡ b
dir_is Dl Dl h = refl
dir_is Dl Ul h = absurd (cc)
dir_is Ul Dl h = absurd (cc)
dir_is Ul Ul h = refl

dir_self : (a : Dir) → same_dir a a ≡ true
dir_self Dl = refl
dir_self Ul = refl

ue_is : (a b : UeId) → a.0 ≡ b.0 → a ≡ b
ue_is a b e = ap (λ (n : ℕ). let x : UeId = record { 0 = n } in x) e

bearer_is : (a b : BearerId) → a.0 ≡ b.0 → a ≡ b
bearer_is a b e = ap (λ (n : ℕ). let x : BearerId = record { 0 = n } in x) e

of_link_true : (l : Link) (item : Item) → is_of_link l item ≡ true → IsOfLink l item
of_link_true (Tunnel end teid) item h = tt
of_link_true (Radio ue bearer dir epoch) item h =
    let all = and_true (nat_eq item.ue.0 ue.0 && nat_eq item.bearer.0 bearer.0) (same_dir item.dir dir) h in
    let two = and_true (nat_eq item.ue.0 ue.0) (nat_eq item.bearer.0 bearer.0) all.0 in
    (ue_is item.ue ue (eqb-true item.ue.0 ue.0 two.0), bearer_is item.bearer bearer (eqb-true item.bearer.0 bearer.0 two.1), dir_is item.dir dir all.1)

of_link_holds : (l : Link) (item : Item) → IsOfLink l item → is_of_link l item ≡ true
of_link_holds (Tunnel end teid) item h = refl
of_link_holds (Radio ue bearer dir epoch) item h =
    rw (eq-eqb item.ue.0 ue.0 (ap (λ (x : UeId). x.0) h.0), eq-eqb item.bearer.0 bearer.0 (ap (λ (x : BearerId). x.0) h.1)) (ap (λ d. same_dir d dir) h.2 ∙ dir_self dir)

held_on_true : (l : Link) (reason : HeldReason) → is_held_on l reason ≡ true → IsHeldOn l reason
held_on_true (Tunnel end teid) reason h = tt
held_on_true (Radio ue bearer dir epoch) helds.Ahead h = refl
held_on_true (Radio ue bearer dir epoch) helds.Quota h = absurd (cc)
held_on_true (Radio ue bearer dir epoch) helds.NoStatus h = absurd (cc)
held_on_true (Radio ue bearer dir epoch) helds.NotArrived h = absurd (cc)
held_on_true (Radio ue bearer dir epoch) helds.Early h = absurd (cc)

held_on_holds : (l : Link) (reason : HeldReason) → IsHeldOn l reason → is_held_on l reason ≡ true
held_on_holds (Tunnel end teid) reason h = refl
held_on_holds (Radio ue bearer dir epoch) reason h = ap (is_held_on (Radio ue bearer dir epoch)) h

-- ---- what is read is proper

-- what the values of a form make, where they lie in their ranges
abbrev Makes : {Y : Type 0} → LineForm Y → (Y → Type 0) → Type 0
Makes {Y} form P = (values : ValuesOf form.fields) → InFields form.fields values → (y : Y) → form.make values ≡ Ok y → P y

form_sound : {Y : Type 0} (form : LineForm Y) (P : Y → Type 0) → AreFields form.fields → Makes form P → (left : List (List ℕ)) (y : Y)
    → read_form form left ≡ Ok y → P y
form_sound form P are makes left y h =
    let found = fields_sound form.fields are form.make left y h in makes found.values found.range y found.makes

abbrev IsItemOn : Link × Item → Type 0
IsItemOn read = IsLink read.0 × IsItem read.1 × IsOfLink read.0 read.1 × HasOctets read.1.bytes

item_makes : Makes item_form IsItemOn
item_makes (l, (ue, (bearer, (dir, (count, (bytes, end)))))) (hl, (hu, (hb, (hd, (hc, (hx, he)))))) y h =
    let item : Item = record { ue = ue; bearer = bearer; dir = dir; count = count; bytes = bytes } in
    elim (chosen (is_of_link l item) (Ok (l, item)) (Err Name) (Ok y) h) [
      | inl w ↦ subst IsItemOn (same_ok w.1) (hl, record { ue = hu; bearer = hb; count = hc; bytes = hx.bytes }, of_link_true l item w.0, hx.some)
      | inr w ↦ absurd (let no : Err Name ≡ Ok y = w.1 in cc)
    ]

abbrev IsMessageWhole : Message → Type 0
IsMessageWhole message = IsMessage message × HasOctets message.bytes

message_makes : Makes message_form IsMessageWhole
message_makes (number, (from, (to, (ue, (bytes, end))))) (hn, (hf, (ht, (hu, (hx, he))))) y h =
    subst IsMessageWhole (same_ok h) (record { number = hn; sender = hf; receiver = ht; ue = hu; bytes = hx.bytes }, hx.some)

deliver_makes : Makes deliver_form IsProper
deliver_makes (ue, (bearer, (dir, (count, (packet, end))))) (hu, (hb, (hd, (hc, (hx, he))))) y h =
    subst IsProper (same_ok h) ((hu, hb, omega (arith, hc.to), hx.bytes), hx.some)

lost_items_makes : Makes lost_items_form IsProper
lost_items_makes (l, (items, end)) (hl, (hi, he)) y h = subst IsProper (same_ok h) ((hl, omega (arith, hi.to)), omega (arith, hi.from))

lost_message_makes : Makes lost_message_form IsProper
lost_message_makes (message, (items, end)) (hm, (hi, he)) y h = subst IsProper (same_ok h) (by_items (nat_eq items 1) refl)
  where
    by_items : (b : Bool) → nat_eq items 1 ≡ b → IsProper (cond b (Printed (lines.LostMessage message)) (LostMore message items))
    by_items true e = (hm, tt)
    by_items false e = (hm, grind (arith, nat_tests, hi.from), omega (arith, hi.to))

drop_makes : Makes drop_form IsProper
drop_makes (node, (reason, end)) (hn, (hr, he)) y h = subst IsProper (same_ok h) (hn, tt)

held_makes : Makes held_form IsProper
held_makes (l, (reason, end)) (hl, (hr, he)) y h =
    elim (chosen (is_held_on l reason) (printed (lines.Held l reason)) (Err Word) (Ok y) h) [
      | inl w ↦ subst IsProper (same_ok w.1) (hl, held_on_true l reason w.0)
      | inr w ↦ absurd (let no : Err Word ≡ Ok y = w.1 in cc)
    ]

failed_makes : Makes failed_form IsProper
failed_makes (node, (ue, (cause, end))) (hn, (hu, (hc, he))) y h = subst IsProper (same_ok h) ((hn, hu), tt)

quiet_makes : Makes quiet_form IsProper
quiet_makes (ue, (bearer, (downlink, (uplink, end)))) (hu, (hb, (hd, (hl, he)))) y h =
    subst IsProper (same_ok h) ((hu, hb, omega (arith, hd.to), omega (arith, hl.to)), tt)

busy_makes : Makes busy_form IsProper
busy_makes (ue, (bearer, end)) (hu, (hb, he)) y h = subst IsProper (same_ok h) ((hu, hb), tt)

settled_makes : Makes (number_form lines.Settled) IsProper
settled_makes (number, end) (hn, he) y h = subst IsProper (same_ok h) (omega (arith, hn.to), tt)

unsettled_makes : Makes (number_form lines.Unsettled) IsProper
unsettled_makes (number, end) (hn, he) y h = subst IsProper (same_ok h) (omega (arith, hn.to), tt)

end_makes : Makes (number_form lines.End) IsProper
end_makes (number, end) (hn, he) y h = subst IsProper (same_ok h) (omega (arith, hn.to), tt)

refused_makes : Makes refused_form IsProper
refused_makes (reason, end) (hr, he) y h = subst IsProper (same_ok h) (tt, tt)

outstanding_makes : Makes outstanding_form IsProper
outstanding_makes (ue, (bearer, (dir, (span, (window, end))))) (hu, (hb, (hd, (hs, (hw, he))))) y h =
    subst IsProper (same_ok h) (by_window (nat_lt window (2 ^ 32)) refl)
  where
    by_window : (b : Bool) → nat_lt window (2 ^ 32) ≡ b
        → IsProper (cond b (Printed (lines.Outstanding ue bearer dir span window)) (OutstandingWide ue bearer dir span window))
    by_window true e = ((hu, hb, omega (arith, hs.to), grind (arith, nat_tests)), tt)
    by_window false e = (hu, hb, omega (arith, hs.to), grind (arith, nat_tests), omega (arith, hw.to))

stop_makes : Makes stop_form IsProper
stop_makes (code, (place, (reason, end))) (hc, (hp, (hr, he))) y h =
    subst IsProper (same_ok h) ((omega (arith, hc.to), omega (arith, hp.to), omega (arith, hr.to)), tt)

moved_sound : (of_item : Link → Item → OutLine) (of_message : Message → OutLine)
    → ((l : Link) (item : Item) → IsItemOn (l, item) → IsProper (Printed (of_item l item)))
    → ((message : Message) → IsMessageWhole message → IsProper (Printed (of_message message)))
    → (left : List (List ℕ)) (line : TextLine) → moved of_item of_message left ≡ Ok line → IsProper line
moved_sound of_item of_message item_proper message_proper left line h =
    elim (chosen (names_message left) (result_then (read_form message_form left) (λ message. printed (of_message message))) (result_then (read_form item_form left) (λ read. printed (of_item read.0 read.1))) (Ok line) h) [
      | inl w ↦
          let m = went (read_form message_form left) (λ message. printed (of_message message)) line w.1 in
          subst IsProper (same_ok m.goes) (message_proper m.value (form_sound message_form IsMessageWhole message_are message_makes left m.value m.value_is))
      | inr w ↦
          let i = went (read_form item_form left) (λ read. printed (of_item read.0 read.1)) line w.1 in
          subst IsProper (same_ok i.goes) (item_proper i.value.0 i.value.1 (form_sound item_form IsItemOn item_are item_makes left i.value i.value_is))
    ]

lost_sound : (left : List (List ℕ)) (line : TextLine) → lost left ≡ Ok line → IsProper line
lost_sound left line h = elim (chosen (names_message left) (read_form lost_message_form left) (read_form lost_items_form left) (Ok line) h) [
  | inl w ↦ form_sound lost_message_form IsProper lost_message_are lost_message_makes left line w.1
  | inr w ↦ form_sound lost_items_form IsProper lost_items_are lost_items_makes left line w.1
]

keyword_sound : (k : Keyword) (left : List (List ℕ)) (line : TextLine) → keyword_line k left ≡ Ok line → IsProper line
unfolding keyword_line
keyword_sound keywords.Put left line h = moved_sound lines.Put lines.PutMessage (λ l item p. ((p.0, p.1), (p.2, p.3))) (λ message p. p) left line h
keyword_sound keywords.Got left line h = moved_sound lines.Got lines.GotMessage (λ l item p. ((p.0, p.1), (p.2, p.3))) (λ message p. p) left line h
keyword_sound keywords.Deliver left line h = form_sound deliver_form IsProper deliver_are deliver_makes left line h
keyword_sound keywords.Lost left line h = lost_sound left line h
keyword_sound keywords.Drop left line h = form_sound drop_form IsProper drop_are drop_makes left line h
keyword_sound keywords.Held left line h = form_sound held_form IsProper held_are held_makes left line h
keyword_sound keywords.Failed left line h = form_sound failed_form IsProper failed_are failed_makes left line h
keyword_sound keywords.Quiet left line h = form_sound quiet_form IsProper quiet_are quiet_makes left line h
keyword_sound keywords.Busy left line h = form_sound busy_form IsProper busy_are busy_makes left line h
keyword_sound keywords.Settled left line h = form_sound (number_form lines.Settled) IsProper (number_are lines.Settled) settled_makes left line h
keyword_sound keywords.Unsettled left line h = form_sound (number_form lines.Unsettled) IsProper (number_are lines.Unsettled) unsettled_makes left line h
keyword_sound keywords.Refused left line h = form_sound refused_form IsProper refused_are refused_makes left line h
keyword_sound keywords.Outstanding left line h = form_sound outstanding_form IsProper outstanding_are outstanding_makes left line h
keyword_sound keywords.End left line h = form_sound (number_form lines.End) IsProper (number_are lines.End) end_makes left line h
keyword_sound keywords.Stop left line h = form_sound stop_form IsProper stop_are stop_makes left line h

event_sound : (text : List ℕ) (line : TextLine) → event_line text ≡ Ok line → IsProper line
event_sound text line h =
    let e = went (event_of text) (λ event. printed (lines.Happens event)) line h in
    subst IsProper (same_ok e.goes) (event_in_range text e.value e.value_is, tt)

words_sound : (next : List ℕ × List (List ℕ)) (line : TextLine) → words_line next ≡ Ok line → IsProper line
words_sound next line h =
    let k = went (ok_or (keyword_of next.0) Word) (λ keyword. keyword_line keyword next.1) line h in
    keyword_sound k.value next.1 line k.goes

-- What a text is read as is a proper line.
pub line_sound : (text : List ℕ) (line : TextLine) → line_of text ≡ Ok line → IsProper line
unfolding line_of
line_sound text line h = elim (chosen (text begins codes "> ") (event_line (drop 2 text)) (result_then (next_word (words text)) words_line) (Ok line) h) [
  | inl w ↦ event_sound (drop 2 text) line w.1
  | inr w ↦ let next = went (next_word (words text)) words_line line w.1 in words_sound next.value line next.goes
]

-- ---- a proper line is read back

keyword_back : (k : Keyword) → keyword_of (keyword_text k) ≡ Some k
unfolding keyword_of
keyword_back keywords.Put = refl
keyword_back keywords.Got = refl
keyword_back keywords.Deliver = refl
keyword_back keywords.Lost = refl
keyword_back keywords.Drop = refl
keyword_back keywords.Held = refl
keyword_back keywords.Failed = refl
keyword_back keywords.Quiet = refl
keyword_back keywords.Busy = refl
keyword_back keywords.Settled = refl
keyword_back keywords.Unsettled = refl
keyword_back keywords.Refused = refl
keyword_back keywords.Outstanding = refl
keyword_back keywords.End = refl
keyword_back keywords.Stop = refl

keyword_lacks : (k : Keyword) → Lacks 32 (keyword_text k)
keyword_lacks keywords.Put = refl
keyword_lacks keywords.Got = refl
keyword_lacks keywords.Deliver = refl
keyword_lacks keywords.Lost = refl
keyword_lacks keywords.Drop = refl
keyword_lacks keywords.Held = refl
keyword_lacks keywords.Failed = refl
keyword_lacks keywords.Quiet = refl
keyword_lacks keywords.Busy = refl
keyword_lacks keywords.Settled = refl
keyword_lacks keywords.Unsettled = refl
keyword_lacks keywords.Refused = refl
keyword_lacks keywords.Outstanding = refl
keyword_lacks keywords.End = refl
keyword_lacks keywords.Stop = refl

-- a text of a keyword and the words of values
back : {Y : Type 0} (k : Keyword) (form : LineForm Y) → AreFields form.fields → (values : ValuesOf form.fields) → InFields form.fields values
    → (text : List ℕ) (line : TextLine)
    → text ≡ join_with_byte 32 (keyword_text k ∷ field_words form.fields values)
    → (text begins codes "> ") ≡ false
    → keyword_line k (field_words form.fields values) ≡ Ok line
    → line_of text ≡ Ok line
unfolding line_of
back k form are values range text line is no_event tell =
    let rest : List (List ℕ) = field_words form.fields values in
    ap (λ b. cond b (event_line (drop 2 text)) (result_then (next_word (words text)) words_line)) no_event
    ∙ ap (λ ws. result_then (next_word ws) words_line) (ap words is ∙ words-joined (keyword_text k) rest (keyword_lacks k) (fields_lack form.fields are values range))
    ∙ then_ok (ok_or (keyword_of (keyword_text k)) Word) k (ap (λ o. ok_or o Word) (keyword_back k)) (λ keyword. keyword_line keyword rest)
    ∙ tell

form_back : {Y : Type 0} (form : LineForm Y) → AreFields form.fields → (values : ValuesOf form.fields) → InFields form.fields values
    → read_form form (field_words form.fields values) ≡ form.make values
form_back form are values range = fields_back form.fields are form.make values range

-- a link's name is no message's
link_no_hash : (l : Link) → (link_text l begins codes "#") ≡ false
link_no_hash (Tunnel (CuCp A) teid) = refl
link_no_hash (Tunnel (CuCp B) teid) = refl
link_no_hash (Tunnel (CuUp A n) teid) = refl
link_no_hash (Tunnel (CuUp B n) teid) = refl
link_no_hash (Tunnel (Du A n) teid) = refl
link_no_hash (Tunnel (Du B n) teid) = refl
link_no_hash (Tunnel Core teid) = refl
link_no_hash (Tunnel (Ue n) teid) = refl
link_no_hash (Radio ue bearer dir epoch) = refl

abbrev item_values : Link → Item → ValuesOf item_form.fields
item_values l item = (l, (item.ue, (item.bearer, (item.dir, (item.count, (item.bytes, tt))))))

abbrev message_values : Message → ValuesOf message_form.fields
message_values m = (m.number, (m.from, (m.to, (m.ue, (m.bytes, tt)))))

item_in : (l : Link) (item : Item) → IsLink l → IsItem item → HasOctets item.bytes → InFields item_form.fields (item_values l item)
item_in l item h k some = (h, (k.ue, (k.bearer, (tt, (k.count, (record { some = some; bytes = k.bytes }, tt))))))

message_in : (m : Message) → IsMessage m → HasOctets m.bytes → InFields message_form.fields (message_values m)
message_in m h some = (h.number, (h.sender, (h.receiver, (h.ue, (record { some = some; bytes = h.bytes }, tt)))))

moved_item : (of_item : Link → Item → OutLine) (of_message : Message → OutLine) (l : Link) (item : Item)
    → IsLink l → IsItem item → IsOfLink l item → HasOctets item.bytes
    → moved of_item of_message (field_words item_form.fields (item_values l item)) ≡ Ok (Printed (of_item l item))
moved_item of_item of_message l item h k of some =
    let left : List (List ℕ) = field_words item_form.fields (item_values l item) in
    ap (λ b. cond b (result_then (read_form message_form left) (λ message. printed (of_message message))) (result_then (read_form item_form left) (λ read. printed (of_item read.0 read.1)))) (link_no_hash l)
    ∙ then_ok (read_form item_form left) (l, item) (form_back item_form item_are (item_values l item) (item_in l item h k some) ∙ ap (λ b. cond b (Ok (l, item)) (Err Name)) (of_link_holds l item of)) (λ read. printed (of_item read.0 read.1))

moved_message : (of_item : Link → Item → OutLine) (of_message : Message → OutLine) (m : Message) → IsMessage m → HasOctets m.bytes
    → moved of_item of_message (field_words message_form.fields (message_values m)) ≡ Ok (Printed (of_message m))
moved_message of_item of_message m h some =
    then_ok (read_form message_form (field_words message_form.fields (message_values m))) m (form_back message_form message_are (message_values m) (message_in m h some)) (λ message. printed (of_message message))

lost_back : (message items : ℕ) → IsWithin 1 greatest_number message → 0 < items → items < 2 ^ 64 → (line : TextLine) → lost_message message items ≡ line
    → line_of (text_of (LostMore message items)) ≡ Ok line
unfolding text_of keyword_line
lost_back message items hm some fits line is =
    let values : ValuesOf lost_message_form.fields = (message, (items, tt)) in
    let range : InFields lost_message_form.fields values = (hm, (record { from = omega arith; to = omega arith }, tt)) in
    back keywords.Lost lost_message_form lost_message_are values range _ line refl refl (form_back lost_message_form lost_message_are values range ∙ ap Ok is)

one_lost : (message : ℕ) → line_text (lines.LostMessage message) ≡ text_of (LostMore message 1)
unfolding line_text text_of
one_lost message = ap (λ w. codes "lost" then (codes "#" ++ decimal message) then w) (sym (decimal_digit 1 (omega arith)))

outstanding_back : (ue : UeId) (bearer : BearerId) (dir : Dir) (span window : ℕ) → IsUe ue → IsBearer bearer → span < 2 ^ 64 → window < 2 ^ 64
    → (line : TextLine) → outstanding_line ue bearer dir span window ≡ line → line_of (text_of (OutstandingWide ue bearer dir span window)) ≡ Ok line
unfolding text_of keyword_line
outstanding_back ue bearer dir span window hu hb hs hw line is =
    let values : ValuesOf outstanding_form.fields = (ue, (bearer, (dir, (span, (window, tt))))) in
    let range : InFields outstanding_form.fields values = (hu, (hb, (tt, (record { from = omega arith; to = omega arith }, (record { from = omega arith; to = omega arith }, tt))))) in
    back keywords.Outstanding outstanding_form outstanding_are values range _ line refl refl (form_back outstanding_form outstanding_are values range ∙ ap Ok is)

wide : (window : ℕ) → 2 ^ 32 ≤ window → nat_lt window (2 ^ 32) ≡ false
wide window h = grind (arith, nat_tests)

narrow : (window : ℕ) → window < 2 ^ 32 → nat_lt window (2 ^ 32) ≡ true
narrow window h = grind (arith, nat_tests)

not_one : (items : ℕ) → 2 ≤ items → nat_eq items 1 ≡ false
not_one items h = grind (arith, nat_tests)

number_back : (k : Keyword) (make : ℕ → OutLine) (n : ℕ) → n < 2 ^ 64 → (text : List ℕ)
    → text ≡ join_with_byte 32 (keyword_text k ∷ decimal n ∷ [])
    → (text begins codes "> ") ≡ false
    → ((left : List (List ℕ)) → keyword_line k left ≡ read_form (number_form make) left)
    → line_of text ≡ Ok (Printed (make n))
number_back k make n h text is no_event tell =
    let range : InFields (number_form make).fields (n, tt) = (record { from = omega arith; to = omega arith }, tt) in
    back k (number_form make) (number_are make) (n, tt) range text (Printed (make n)) is no_event (tell (decimal n ∷ []) ∙ form_back (number_form make) (number_are make) (n, tt) range)

happens_back : (event : Event) → InRange event → line_of (line_text (lines.Happens event)) ≡ Ok (Printed (lines.Happens event))
unfolding line_text line_of
happens_back event h = then_ok (event_of (event_text event)) event (event_of-event_text event h) (λ e. printed (lines.Happens e))

printed_back : (line : OutLine) → IsLine line → IsWhole line → line_of (line_text line) ≡ Ok (Printed line)
unfolding line_text item_text message_text text_of keyword_line
printed_back (lines.Happens event) h w = happens_back event h
printed_back (lines.Put l item) h w =
    back keywords.Put item_form item_are (item_values l item) (item_in l item h.0 h.1 w.1) _ _ refl refl (moved_item lines.Put lines.PutMessage l item h.0 h.1 w.0 w.1)
printed_back (lines.Got l item) h w =
    back keywords.Got item_form item_are (item_values l item) (item_in l item h.0 h.1 w.1) _ _ refl refl (moved_item lines.Got lines.GotMessage l item h.0 h.1 w.0 w.1)
printed_back (lines.PutMessage m) h w =
    back keywords.Put message_form message_are (message_values m) (message_in m h w) _ _ refl refl (moved_message lines.Put lines.PutMessage m h w)
printed_back (lines.GotMessage m) h w =
    back keywords.Got message_form message_are (message_values m) (message_in m h w) _ _ refl refl (moved_message lines.Got lines.GotMessage m h w)
printed_back (lines.Deliver ue bearer dir count packet) h w =
    let values : ValuesOf deliver_form.fields = (ue, (bearer, (dir, (count, (packet, tt))))) in
    let range : InFields deliver_form.fields values = (h.0, (h.1, (tt, (record { from = omega arith; to = omega (arith, h.2) }, (record { some = w; bytes = h.3 }, tt))))) in
    back keywords.Deliver deliver_form deliver_are values range _ _ refl refl (form_back deliver_form deliver_are values range)
printed_back (lines.Lost l items) h w =
    let values : ValuesOf lost_items_form.fields = (l, (items, tt)) in
    let range : InFields lost_items_form.fields values = (h.0, (record { from = omega (arith, w); to = omega (arith, h.1) }, tt)) in
    let left : List (List ℕ) = field_words lost_items_form.fields values in
    back keywords.Lost lost_items_form lost_items_are values range _ _ refl refl (ap (λ b. cond b (read_form lost_message_form left) (read_form lost_items_form left)) (link_no_hash l) ∙ form_back lost_items_form lost_items_are values range)
printed_back (lines.LostMessage message) h w = ap line_of (one_lost message) ∙ lost_back message 1 h (omega arith) (omega arith) (Printed (lines.LostMessage message)) refl
printed_back (lines.Drop node reason) h w =
    back keywords.Drop drop_form drop_are (node, (reason, tt)) (h, (tt, tt)) _ _ refl refl (form_back drop_form drop_are (node, (reason, tt)) (h, (tt, tt)))
printed_back (lines.Held l reason) h w =
    back keywords.Held held_form held_are (l, (reason, tt)) (h, (tt, tt)) _ _ refl refl (form_back held_form held_are (l, (reason, tt)) (h, (tt, tt)) ∙ ap (λ b. cond b (printed (lines.Held l reason)) (Err Word)) (held_on_holds l reason w))
printed_back (lines.Failed node ue cause) h w =
    back keywords.Failed failed_form failed_are (node, (ue, (cause, tt))) (h.0, (h.1, (tt, tt))) _ _ refl refl (form_back failed_form failed_are (node, (ue, (cause, tt))) (h.0, (h.1, (tt, tt))))
printed_back (lines.Quiet ue bearer downlink uplink) h w =
    let values : ValuesOf quiet_form.fields = (ue, (bearer, (downlink, (uplink, tt)))) in
    let range : InFields quiet_form.fields values = (h.0, (h.1, (record { from = omega arith; to = omega (arith, h.2) }, (record { from = omega arith; to = omega (arith, h.3) }, tt)))) in
    back keywords.Quiet quiet_form quiet_are values range _ _ refl refl (form_back quiet_form quiet_are values range)
printed_back (lines.Busy ue bearer) h w =
    back keywords.Busy busy_form busy_are (ue, (bearer, tt)) (h.0, (h.1, tt)) _ _ refl refl (form_back busy_form busy_are (ue, (bearer, tt)) (h.0, (h.1, tt)))
printed_back (lines.Settled rounds) h w = number_back keywords.Settled lines.Settled rounds h _ refl refl (λ left. refl)
printed_back (lines.Unsettled rounds) h w = number_back keywords.Unsettled lines.Unsettled rounds h _ refl refl (λ left. refl)
printed_back (lines.End events) h w = number_back keywords.End lines.End events h _ refl refl (λ left. refl)
printed_back (lines.Refused reason) h w =
    back keywords.Refused refused_form refused_are (reason, tt) (tt, tt) _ _ refl refl (form_back refused_form refused_are (reason, tt) (tt, tt))
printed_back (lines.Outstanding ue bearer dir span window) h w =
    outstanding_back ue bearer dir span window h.0 h.1 h.2 (omega (arith, h.3)) (Printed (lines.Outstanding ue bearer dir span window)) (ap (λ b. cond b (Printed (lines.Outstanding ue bearer dir span window)) (OutstandingWide ue bearer dir span window)) (narrow window h.3))
printed_back (lines.Stop code place reason) h w =
    let values : ValuesOf stop_form.fields = (code, (place, (reason, tt))) in
    let range : InFields stop_form.fields values = (record { from = omega arith; to = omega (arith, h.0) }, (record { from = omega arith; to = omega (arith, h.1) }, (record { from = omega arith; to = omega (arith, h.2) }, tt))) in
    back keywords.Stop stop_form stop_are values range _ _ refl refl (form_back stop_form stop_are values range)

-- The text of a proper line is read as the line.
pub line_back : (line : TextLine) → IsProper line → line_of (text_of line) ≡ Ok line
unfolding text_of
line_back (Printed line) h = printed_back line h.0 h.1
line_back (LostMore message items) h =
    lost_back message items h.0 (omega (arith, h.1)) h.2 (LostMore message items) (ap (λ b. cond b (Printed (lines.LostMessage message)) (LostMore message items)) (not_one items h.1))
line_back (OutstandingWide ue bearer dir span window) h =
    outstanding_back ue bearer dir span window h.0 h.1 h.2 h.4 (OutstandingWide ue bearer dir span window) (ap (λ b. cond b (Printed (lines.Outstanding ue bearer dir span window)) (OutstandingWide ue bearer dir span window)) (wide window h.3))

-- ---- the text of what was read

-- a line that was read from a text, and is written as the text
pub is_line : (text : List ℕ) (line : TextLine) (exact : Bool) → line_of text ≡ Ok line → exact ≡ bytes_eq (text_of line) text → exact ≡ true
    → IsLineOf text line
is_line text line exact read is holds =
    record { text_is = sym ((bytes_eq-Decides (text_of line) text).0 (sym is ∙ holds)); proper = line_sound text line read }

read_is : (text : List ℕ) (line : TextLine) → IsLineOf text line → line_of text ≡ Ok line
read_is text line h = ap line_of h.text_is ∙ line_back line h.proper

-- a text from which nothing is read is none
pub not_refused : (text : List ℕ) (line : TextLine) (reason : TextReason) → IsLineOf text line → line_of text ≡ Err reason → ⊥
not_refused text line reason h refused = let read = read_is text line h in absurd (cc)

-- a line of the text is the one that was read
pub same_line : (text : List ℕ) (line other : TextLine) → line_of text ≡ Ok line → IsLineOf text other → line ≡ other
same_line text line other read h = same_ok (sym read ∙ read_is text other h)

-- and it is written as the text
pub not_inexact : (text : List ℕ) (line other : TextLine) (exact : Bool) → line_of text ≡ Ok line → exact ≡ bytes_eq (text_of line) text → exact ≡ false
    → IsLineOf text other → ⊥
not_inexact text line other exact read is fails h =
    let same : text_of line ≡ text = ap text_of (same_line text line other read h) ∙ sym h.text_is in
    let holds : bytes_eq (text_of line) text ≡ true = (bytes_eq-Decides (text_of line) text).1 same in
    absurd (cc)
