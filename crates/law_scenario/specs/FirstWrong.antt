-- The first wrong word of a line, apart from any reader: the words before it are the front of an event's text, and no
-- value has this word, or a word is missing, or one too many stands there.
use Rattle.std.specs.Prelude.{◌≡◌, ◌==◌, ◌⊎◌, ℕ, List, [], ◌∷◌, if◌then◌else◌}
use Rattle.std.specs.List.{before_first}
use Rattle.gnb_types.specs.declared.names.NodeId.{NodeId}
use Rattle.scenario_text.specs.declared.script_words.reason.TextReason.{TextReason}
use Rattle.scenario_text.specs.declared.script_words.reason.TextReason.TheVariants.{Word, Number, Hex, Extra, Name}
use Rattle.scenario_text.specs.script_words.Forms.{words}
use Rattle.scenario_text.specs.script_words.Ranges.{IsNode}
use Rattle.scenario_text.specs.script_words.Places.{Place, AtUe, AtBearer, AtGnb, AtNode, AtDir, AtNumber, AtSnBits, AtMessage, AtTunnel, AtHex, Meaning, InPlace, IsWordOf}
use Rattle.scenario_text.specs.declared.event.Keyword.{Keyword}
use Rattle.scenario_text.specs.declared.event.Keyword.TheVariants as keywords
use Rattle.scenario_text.specs.Grammar.{keyword_text, plan_places, offer_places, radio_places, bearer_places, ue_places, handover_places, message_places, tunnel_places, inject_message_places, inject_item_places, names_message, names_tunnel}

-- the word is a text of no value of this place
abbrev pub HasNone : Place → List ℕ → Type 0
HasNone p word = (value : Meaning p) → IsWordOf p word value → InPlace p value → ⊥

-- a tunnel's word names no node before its slash, or names one, and then the number is wrong
abbrev pub TunnelFault : List ℕ → TextReason → Type 0
TunnelFault word Name = HasNone AtNode (before_first (λ c. c == 47) word)
TunnelFault word Number = (node : NodeId) × IsWordOf AtNode (before_first (λ c. c == 47) word) node × IsNode node
TunnelFault word reason = ⊥

-- the reason that a word has which is wrong at this place
abbrev pub IsFaultAt : Place → List ℕ → TextReason → Type 0
IsFaultAt AtUe word reason = reason ≡ Name
IsFaultAt AtBearer word reason = reason ≡ Name
IsFaultAt AtGnb word reason = reason ≡ Name
IsFaultAt AtNode word reason = reason ≡ Name
IsFaultAt AtDir word reason = reason ≡ Word
IsFaultAt (AtNumber low high) word reason = reason ≡ Number
IsFaultAt AtSnBits word reason = reason ≡ Number
IsFaultAt AtMessage word reason = reason ≡ Number
IsFaultAt AtTunnel word reason = TunnelFault word reason
IsFaultAt AtHex word reason = reason ≡ Hex

-- the word is wrong at its place, and this is why
abbrev pub IsWrongAt : Place → List ℕ → TextReason → Type 0
IsWrongAt p word reason = HasNone p word × IsFaultAt p word reason

-- the first of these words that is wrong at its place, the earlier ones being texts of values
abbrev pub IsWrongIn : List Place → List (List ℕ) → TextReason → Type 0
IsWrongIn [] [] reason = ⊥
IsWrongIn [] (word ∷ rest) reason = reason ≡ Extra
IsWrongIn (p ∷ places) [] reason = reason ≡ Word
IsWrongIn (p ∷ places) (word ∷ rest) reason =
    IsWrongAt p word reason ⊎ ((value : Meaning p) × IsWordOf p word value × InPlace p value × IsWrongIn places rest reason)

-- the places after a keyword; what is lost or injected is told by the next word
abbrev pub places_after : Keyword → List (List ℕ) → List Place
places_after keywords.Static rest = plan_places
places_after keywords.Start rest = []
places_after keywords.Attach rest = plan_places
places_after keywords.Offer rest = offer_places
places_after keywords.Get rest = tunnel_places
places_after keywords.Air rest = radio_places
places_after keywords.Ack rest = radio_places
places_after keywords.Give rest = message_places
places_after keywords.Lose rest = if names_message rest then message_places else tunnel_places
places_after keywords.Poll rest = bearer_places
places_after keywords.Pump rest = []
places_after keywords.Tick rest = []
places_after keywords.Fail rest = ue_places
places_after keywords.Arrive rest = ue_places
places_after keywords.Return rest = ue_places
places_after keywords.Handover rest = handover_places
places_after keywords.Cancel rest = ue_places
places_after keywords.Release rest = ue_places
places_after keywords.Ask rest = bearer_places
places_after keywords.Settle rest = []
places_after keywords.Inject rest = if names_tunnel rest then inject_item_places else inject_message_places

-- the first word is no keyword, or the words after the keyword go wrong
abbrev pub IsWrongEvent : List (List ℕ) → TextReason → Type 0
IsWrongEvent [] reason = ⊥
IsWrongEvent (word ∷ rest) reason =
    (((k : Keyword) → word ≡ keyword_text k → ⊥) × (reason ≡ Word))
    ⊎ ((k : Keyword) × (word ≡ keyword_text k) × IsWrongIn (places_after k rest) rest reason)

abbrev pub IsFirstWrong : List ℕ → TextReason → Type 0
IsFirstWrong line reason = IsWrongEvent (words line) reason
