-- The text of the lines of a transcript.
use Rattle.std.specs.Prelude.{ℕ, List, [], ◌∷◌, ◌++◌, codes, Option, Some, None}
use Rattle.std.specs.List.{flat_map}
use Rattle.std.specs.Fmt.{decimal}
use Rattle.gnb_types.specs.Hex.{hex_of}
use Rattle.gnb_types.specs.Names.{node_text, ue_text, bearer_text, dir_text}
use Rattle.gnb_types.specs.Reasons.{drop_text, held_text, cause_text, refuse_text}
use Rattle.scenario_text.specs.declared.line.Link.{Link}
use Rattle.scenario_text.specs.declared.line.Link.TheVariants.{Tunnel, Radio}
use Rattle.scenario_text.specs.declared.line.Item.{Item}
use Rattle.scenario_text.specs.declared.line.Message.{Message}
use Rattle.scenario_text.specs.declared.line.OutLine.{OutLine}
use Rattle.scenario_text.specs.declared.line.OutLine.TheVariants as lines
use Rattle.scenario_text.specs.Texts.{event_text}

-- one blank between words
infixr 5 ◌then◌
abbrev pub ◌then◌ : List ℕ → List ℕ → List ℕ
first then second = first ++ 32 ∷ second

-- as `A.up1/1`, and `r/u1/b1/dl/1` for a radio
abbrev pub link_text : Link → List ℕ
link_text (Tunnel end teid) = node_text end ++ codes "/" ++ decimal teid
link_text (Radio ue bearer dir epoch) =
    codes "r/" ++ ue_text ue ++ codes "/" ++ bearer_text bearer ++ codes "/" ++ dir_text dir ++ codes "/" ++ decimal epoch

abbrev pub count_text : Option ℕ → List ℕ
count_text None = codes "-"
count_text (Some count) = decimal count

unfoldable pub item_text : Item → List ℕ
item_text item =
    ue_text item.ue then bearer_text item.bearer then dir_text item.dir then count_text item.count then hex_of item.bytes

-- `#M FROM TO uU HEX`, `u0` where it belongs to no terminal
unfoldable pub message_text : Message → List ℕ
message_text message =
    (codes "#" ++ decimal message.number) then node_text message.from then node_text message.to
    then (codes "u" ++ decimal message.ue) then hex_of message.bytes

unfoldable pub line_text : OutLine → List ℕ
line_text (lines.Happens event) = codes "> " ++ event_text event
line_text (lines.Put link item) = codes "put" then link_text link then item_text item
line_text (lines.Got link item) = codes "got" then link_text link then item_text item
line_text (lines.PutMessage message) = codes "put" then message_text message
line_text (lines.GotMessage message) = codes "got" then message_text message
line_text (lines.Deliver ue bearer dir count packet) =
    codes "deliver" then ue_text ue then bearer_text bearer then dir_text dir then decimal count then hex_of packet
line_text (lines.Lost link items) = codes "lost" then link_text link then decimal items
line_text (lines.LostMessage message) = codes "lost" then (codes "#" ++ decimal message) then codes "1"
line_text (lines.Drop node reason) = codes "drop" then node_text node then drop_text reason
line_text (lines.Held link reason) = codes "held" then link_text link then held_text reason
line_text (lines.Failed node ue cause) = codes "failed" then node_text node then ue_text ue then cause_text cause
line_text (lines.Quiet ue bearer downlink uplink) =
    codes "quiet" then ue_text ue then bearer_text bearer then decimal downlink then decimal uplink
line_text (lines.Busy ue bearer) = codes "busy" then ue_text ue then bearer_text bearer
line_text (lines.Settled rounds) = codes "settled" then decimal rounds
line_text (lines.Unsettled rounds) = codes "unsettled" then decimal rounds
line_text (lines.Refused reason) = codes "refused" then refuse_text reason
line_text (lines.Outstanding ue bearer dir span window) =
    codes "outstanding" then ue_text ue then bearer_text bearer then dir_text dir then decimal span then decimal window
line_text (lines.End events) = codes "end" then decimal events
line_text (lines.Stop code place reason) = codes "stop" then decimal code then decimal place then decimal reason

-- the text of lines in order, each with its LF
abbrev pub print : List OutLine → List ℕ
print lines = flat_map (λ line. line_text line ++ 10 ∷ []) lines
