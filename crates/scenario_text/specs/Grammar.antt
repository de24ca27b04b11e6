-- The events of a script: an event is its keyword and then one word for each of its places. The first wrong word from
-- the left decides the reason.
use Rattle.std.specs.Prelude.{◌≡◌, ℕ, ◌==◌, ◌||◌, Bool, true, false, List, [], ◌∷◌, length, slice_index, Option, Some, None, Result, Ok, Err, codes, if◌then◌else◌}
use Rattle.std.specs.List.{find, list_any}
use Rattle.std.specs.Option.{ok_or}
use Rattle.gnb_types.specs.declared.plans.Plan.{Plan}
use Rattle.gnb_types.specs.declared.names.UeId.{UeId}
use Rattle.scenario_text.specs.declared.event.Event.{Event}
use Rattle.scenario_text.specs.declared.event.Event.TheVariants as events
use Rattle.scenario_text.specs.declared.event.Keyword.{Keyword}
use Rattle.scenario_text.specs.declared.event.Keyword.TheVariants as keywords
use Rattle.scenario_text.specs.declared.script_words.reason.TextReason.{TextReason}
use Rattle.scenario_text.specs.declared.script_words.reason.TextReason.TheVariants.{Word}
use Rattle.scenario_text.specs.script_words.Forms.{words, ◌is◌, ◌begins◌, fixed}
use Rattle.scenario_text.specs.script_words.Places.{Place, AtUe, AtBearer, AtGnb, AtNode, AtDir, AtNumber, AtSnBits, AtMessage, AtTunnel, AtHex, Values, next_word, result_then, place, line_end, read_places}

-- ---- keywords

abbrev pub keyword_text : Keyword → List ℕ
keyword_text keywords.Static = codes "static"
keyword_text keywords.Start = codes "start"
keyword_text keywords.Attach = codes "attach"
keyword_text keywords.Offer = codes "offer"
keyword_text keywords.Get = codes "get"
keyword_text keywords.Air = codes "air"
keyword_text keywords.Ack = codes "ack"
keyword_text keywords.Give = codes "give"
keyword_text keywords.Lose = codes "lose"
keyword_text keywords.Poll = codes "poll"
keyword_text keywords.Pump = codes "pump"
keyword_text keywords.Tick = codes "tick"
keyword_text keywords.Fail = codes "fail"
keyword_text keywords.Arrive = codes "arrive"
keyword_text keywords.Return = codes "return"
keyword_text keywords.Handover = codes "handover"
keyword_text keywords.Cancel = codes "cancel"
keyword_text keywords.Release = codes "release"
keyword_text keywords.Ask = codes "ask"
keyword_text keywords.Settle = codes "settle"
keyword_text keywords.Inject = codes "inject"

abbrev pub all_keywords : List Keyword
all_keywords =
    keywords.Static ∷ keywords.Start ∷ keywords.Attach ∷ keywords.Offer ∷ keywords.Get ∷ keywords.Air ∷ keywords.Ack
    ∷ keywords.Give ∷ keywords.Lose ∷ keywords.Poll ∷ keywords.Pump ∷ keywords.Tick ∷ keywords.Fail ∷ keywords.Arrive
    ∷ keywords.Return ∷ keywords.Handover ∷ keywords.Cancel ∷ keywords.Release ∷ keywords.Ask ∷ keywords.Settle
    ∷ keywords.Inject ∷ []

-- the keyword that is this word
unfoldable pub keyword_of : List ℕ → Option Keyword
keyword_of word = find (λ keyword. word is keyword_text keyword) all_keywords

-- ---- the places of events

-- `uU G P D N C Q`
abbrev pub plan_places : List Place
plan_places = AtUe ∷ AtGnb ∷ AtNumber 1 2 ∷ AtNumber 1 2 ∷ AtSnBits ∷ AtNumber 1 8 ∷ AtNumber 4 4096 ∷ []

-- `uU bB DIR HEX`
abbrev pub offer_places : List Place
offer_places = AtUe ∷ AtBearer ∷ AtDir ∷ AtHex ∷ []

-- `uU bB DIR`
abbrev pub radio_places : List Place
radio_places = AtUe ∷ AtBearer ∷ AtDir ∷ []

-- `uU bB`
abbrev pub bearer_places : List Place
bearer_places = AtUe ∷ AtBearer ∷ []

-- `uU`
abbrev pub ue_places : List Place
ue_places = AtUe ∷ []

-- `uU G P D`
abbrev pub handover_places : List Place
handover_places = AtUe ∷ AtGnb ∷ AtNumber 1 2 ∷ AtNumber 1 2 ∷ []

-- `#M`
abbrev pub message_places : List Place
message_places = AtMessage ∷ []

-- `NODE/TEID`
abbrev pub tunnel_places : List Place
tunnel_places = AtTunnel ∷ []

-- `FROM TO HEX`
abbrev pub inject_message_places : List Place
inject_message_places = AtNode ∷ AtNode ∷ AtHex ∷ []

-- `NODE/TEID HEX`
abbrev pub inject_item_places : List Place
inject_item_places = AtTunnel ∷ AtHex ∷ []

-- ---- events

-- an event's words: its keyword, a place for each word after it, and the event that the values there make
pub record EventForm : Type 0 where
  pub keyword : Keyword
  pub places : List Place
  pub event : Values places → Event

abbrev pub plan_of : Values plan_places → Plan
plan_of (ue, (gnb, (up, (du, (sn, (bearers, (quota, end))))))) =
    record { ue = ue; gnb = gnb; up = up; du = du; sn = sn; bearers = bearers; quota = quota }

-- an event that is its keyword alone
abbrev pub bare_form : Keyword → Event → EventForm
bare_form keyword event = record { keyword = keyword; places = []; event = λ end. event }

abbrev pub static_form : EventForm
static_form = record { keyword = keywords.Static; places = plan_places; event = λ values. events.Static (plan_of values) }

abbrev pub attach_form : EventForm
attach_form = record { keyword = keywords.Attach; places = plan_places; event = λ values. events.Attach (plan_of values) }

abbrev pub offer_form : EventForm
offer_form =
    record { keyword = keywords.Offer; places = offer_places; event = λ (ue, (bearer, (dir, (packet, end)))). events.Offer ue bearer dir packet }

abbrev pub get_form : EventForm
get_form = record { keyword = keywords.Get; places = tunnel_places; event = λ (tunnel, end). events.Get tunnel.0 tunnel.1 }

abbrev pub air_form : EventForm
air_form = record { keyword = keywords.Air; places = radio_places; event = λ (ue, (bearer, (dir, end))). events.Air ue bearer dir }

abbrev pub ack_form : EventForm
ack_form = record { keyword = keywords.Ack; places = radio_places; event = λ (ue, (bearer, (dir, end))). events.Ack ue bearer dir }

abbrev pub give_form : EventForm
give_form = record { keyword = keywords.Give; places = message_places; event = λ (message, end). events.Give message }

abbrev pub lose_message_form : EventForm
lose_message_form = record { keyword = keywords.Lose; places = message_places; event = λ (message, end). events.LoseMessage message }

abbrev pub lose_item_form : EventForm
lose_item_form = record { keyword = keywords.Lose; places = tunnel_places; event = λ (tunnel, end). events.LoseItem tunnel.0 tunnel.1 }

abbrev pub poll_form : EventForm
poll_form = record { keyword = keywords.Poll; places = bearer_places; event = λ (ue, (bearer, end)). events.Poll ue bearer }

-- an event of a terminal alone
abbrev pub ue_form : Keyword → (UeId → Event) → EventForm
ue_form keyword event = record { keyword = keyword; places = ue_places; event = λ (ue, end). event ue }

abbrev pub handover_form : EventForm
handover_form =
    record { keyword = keywords.Handover; places = handover_places; event = λ (ue, (gnb, (up, (du, end)))). events.Handover ue gnb up du }

abbrev pub ask_form : EventForm
ask_form = record { keyword = keywords.Ask; places = bearer_places; event = λ (ue, (bearer, end)). events.Ask ue bearer }

abbrev pub inject_message_form : EventForm
inject_message_form =
    record { keyword = keywords.Inject; places = inject_message_places; event = λ (from, (to, (bytes, end))). events.InjectMessage from to bytes }

abbrev pub inject_item_form : EventForm
inject_item_form =
    record { keyword = keywords.Inject; places = inject_item_places; event = λ (tunnel, (bytes, end)). events.InjectItem tunnel.0 tunnel.1 bytes }

-- ---- reading

-- the next word begins with `#`
abbrev pub names_message : List (List ℕ) → Bool
names_message [] = false
names_message (word ∷ rest) = word begins codes "#"

-- the next word has a slash
abbrev pub names_tunnel : List (List ℕ) → Bool
names_tunnel [] = false
names_tunnel (word ∷ rest) = list_any (λ c. c == 47) word

-- what words mean in a form
abbrev pub read_form : EventForm → List (List ℕ) → Result Event TextReason
read_form form left = result_then (read_places form.places left) (λ values. Ok (form.event values))

-- the event of a keyword and the words after it; what is lost is a message or a tunnel's item, what is injected a
-- tunnel's item or a message
unfoldable pub keyword_event : Keyword → List (List ℕ) → Result Event TextReason
keyword_event keywords.Static left = read_form static_form left
keyword_event keywords.Start left = read_form (bare_form keywords.Start events.Start) left
keyword_event keywords.Attach left = read_form attach_form left
keyword_event keywords.Offer left = read_form offer_form left
keyword_event keywords.Get left = read_form get_form left
keyword_event keywords.Air left = read_form air_form left
keyword_event keywords.Ack left = read_form ack_form left
keyword_event keywords.Give left = read_form give_form left
keyword_event keywords.Lose left = if names_message left then read_form lose_message_form left else read_form lose_item_form left
keyword_event keywords.Poll left = read_form poll_form left
keyword_event keywords.Pump left = read_form (bare_form keywords.Pump events.Pump) left
keyword_event keywords.Tick left = read_form (bare_form keywords.Tick events.Tick) left
keyword_event keywords.Fail left = read_form (ue_form keywords.Fail events.Fail) left
keyword_event keywords.Arrive left = read_form (ue_form keywords.Arrive events.Arrive) left
keyword_event keywords.Return left = read_form (ue_form keywords.Return events.Return) left
keyword_event keywords.Handover left = read_form handover_form left
keyword_event keywords.Cancel left = read_form (ue_form keywords.Cancel events.Cancel) left
keyword_event keywords.Release left = read_form (ue_form keywords.Release events.Release) left
keyword_event keywords.Ask left = read_form ask_form left
keyword_event keywords.Settle left = read_form (bare_form keywords.Settle events.Settle) left
keyword_event keywords.Inject left = if names_tunnel left then read_form inject_item_form left else read_form inject_message_form left

-- the event of a first word and those after it
abbrev pub words_event : List ℕ × List (List ℕ) → Result Event TextReason
words_event next = result_then (ok_or (keyword_of next.0) Word) (λ keyword. keyword_event keyword next.1)

-- what a line of a script means
unfoldable pub event_of : List ℕ → Result Event TextReason
event_of line = result_then (next_word (words line)) words_event

-- a line that is not an event: an empty one, or a comment
abbrev pub is_skipped : List ℕ → Bool
is_skipped line = length line == 0 || slice_index line 0 == 59
