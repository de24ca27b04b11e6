-- Worked transcripts, line by line.
use Rattle.std.proofs.Common.{◌≡◌, ℕ, ◌<◌, true, false, List, [], ◌∷◌, Option, Some, None, refl, inl, inr, arith, nat_lt}
use Rattle.std.specs.List.{list_all}
use Rattle.std.specs.Fmt.{digits}
use Rattle.std.proofs.lemmas.List.Sums.{AllPass-from_list_all}
use Rattle.std.proofs.lemmas.Bool.Decides.{nat_tests}
use Rattle.gnb_types.specs.declared.names.Gnb.TheVariants.{A}
use Rattle.gnb_types.specs.declared.names.Dir.TheVariants.{Dl}
use Rattle.gnb_types.specs.declared.names.SnBits.TheVariants.{Len12}
use Rattle.gnb_types.specs.declared.names.UeId.{UeId}
use Rattle.gnb_types.specs.declared.names.BearerId.{BearerId}
use Rattle.gnb_types.specs.declared.names.NodeId.TheVariants.{CuCp, CuUp, Du, Core}
use Rattle.gnb_types.specs.declared.plans.Plan.{Plan}
use Rattle.gtpu.specs.declared.Kind.TheVariants.{GPdu}
use Rattle.gtpu.specs.Headers.{AreHeaders}
use Rattle.gtpu.specs.Packets.{Gtpu}
use Rattle.pdcp.specs.Pdus.{data_pdu}
use Rattle.link_defs.specs.Decoding.{fresh, pdu, framed, DecodesOn, f1u_downlink, forwarding_down}
use Rattle.scenario_text.specs.declared.event.Event.TheVariants as events
use Rattle.scenario_text.specs.declared.line.Link.{Link}
use Rattle.scenario_text.specs.declared.line.Link.TheVariants.{Tunnel, Radio}
use Rattle.scenario_text.specs.declared.line.Item.{Item}
use Rattle.scenario_text.specs.declared.line.Message.{Message}
use Rattle.scenario_text.specs.declared.line.OutLine.TheVariants as lines
use Rattle.scenario_text.specs.Print.{line_text, item_text, message_text}
use Rattle.scenario_text.specs.Texts.{event_text}
use Rattle.transcript_defs.specs.declared.line.TextLine.{TextLine}
use Rattle.transcript_defs.specs.declared.line.TextLine.TheVariants.{Printed}
use Rattle.transcript_defs.specs.declared.rule.Rule.{Rule}
use Rattle.transcript_defs.specs.declared.rule.Rule.TheVariants as rules
use Rattle.transcript_defs.specs.Lines.{text_of, AreBytes, IsProper}
use Rattle.transcript_defs.specs.Past.{events_of, accepted, offered, plans, standing, messages, delivered}
use Rattle.transcript_defs.specs.Packets.{Reading}
use Rattle.transcript_defs.specs.Rules.{Spelling, a_line, the_end, Keeps, KeepsForm, IsOnWire, IsReadable, ShowsCount, IsInOrder, WasSeen, IsSpelled, rule_number}
use Rattle.transcript_defs.specs.Sound.{Sound, IsUnsound}
use Rattle.law_transcripts.specs.Worked.{first_packet, counts_no_event, takes_nothing, puts_for_nobody, delivers_no_offer, is_quiet_without_offers, delivers_unseen, spells_nothing, ends_early}
use Rattle.proof_sound_transcripts.proofs.RuleNumbers.{small}

-- ---- helpers

bytes : (octets : List ℕ) → list_all (λ b. nat_lt b 256) octets ≡ true → AreBytes octets
bytes octets pass k d less = below _ (AllPass-from_list_all (λ b. nat_lt b 256) octets pass k d less)
  where
    below : (y : ℕ) → nat_lt y 256 ≡ true → y < 256
    below y e = grind (arith, nat_tests)

-- the rules of a line that is not the end
record KeptAll (encode : Spelling) (past : List TextLine) (line : TextLine) : Type 0 where
  form : KeepsForm past (a_line line)
  wire : IsOnWire past line
  packet : IsReadable past line
  count : ShowsCount past line
  order : IsInOrder past line
  seen : WasSeen past line
  spelling : IsSpelled encode line

kept : (encode : Spelling) (past : List TextLine) (line : TextLine) → KeptAll encode past line → (rule : Rule) → Keeps encode rule past (a_line line)
kept encode past line k rules.Form = k.form
kept encode past line k rules.Wire = k.wire
kept encode past line k rules.Packet = k.packet
kept encode past line k rules.Count = k.count
kept encode past line k rules.Order = k.order
kept encode past line k rules.Seen = k.seen
kept encode past line k rules.Spelling = k.spelling
kept encode past line k rules.End = tt

-- ---- the first packet

abbrev u1 : UeId
u1 = record { 0 = 1 }

abbrev b1 : BearerId
b1 = record { 0 = 1 }

abbrev plan : Plan
plan = record { ue = u1; gnb = A; up = 1; du = 1; sn = Len12; bearers = 1; quota = 64 }

abbrev item : Option ℕ → List ℕ → Item
item count octets = record { ue = u1; bearer = b1; dir = Dl; count = count; bytes = octets }

abbrev n3_octets : List ℕ
n3_octets = 48 ∷ 255 ∷ 0 ∷ 1 ∷ 0 ∷ 0 ∷ 0 ∷ 1 ∷ 69 ∷ []

abbrev pdu_octets : List ℕ
pdu_octets = 128 ∷ 0 ∷ 69 ∷ []

abbrev f1_octets : List ℕ
f1_octets =
    52 ∷ 255 ∷ 0 ∷ 15 ∷ 0 ∷ 0 ∷ 0 ∷ 1 ∷ 0 ∷ 0 ∷ 0 ∷ 132 ∷ 2 ∷ 0 ∷ 0 ∷ 0 ∷ 0 ∷ 0 ∷ 0 ∷ 0 ∷ 128 ∷ 0 ∷ 69 ∷ []

abbrev at_up : Link
at_up = Tunnel (CuUp A 1) 1

abbrev at_du : Link
at_du = Tunnel (Du A 1) 1

abbrev radio : Link
radio = Radio u1 b1 Dl 1

abbrev l1 : TextLine
l1 = Printed (lines.Happens (events.Static plan))

abbrev l2 : TextLine
l2 = Printed (lines.Happens (events.Offer u1 b1 Dl (69 ∷ [])))

abbrev l3 : TextLine
l3 = Printed (lines.Put at_up (item None n3_octets))

abbrev l4 : TextLine
l4 = Printed (lines.Happens (events.Get (CuUp A 1) 1))

abbrev l5 : TextLine
l5 = Printed (lines.Got at_up (item None n3_octets))

abbrev l6 : TextLine
l6 = Printed (lines.Put at_du (item (Some 0) f1_octets))

abbrev l7 : TextLine
l7 = Printed (lines.Happens (events.Get (Du A 1) 1))

abbrev l8 : TextLine
l8 = Printed (lines.Got at_du (item (Some 0) f1_octets))

abbrev l9 : TextLine
l9 = Printed (lines.Put radio (item (Some 0) pdu_octets))

abbrev l10 : TextLine
l10 = Printed (lines.Happens (events.Air u1 b1 Dl))

abbrev l11 : TextLine
l11 = Printed (lines.Got radio (item (Some 0) pdu_octets))

abbrev l12 : TextLine
l12 = Printed (lines.Deliver u1 b1 Dl 0 (69 ∷ []))

abbrev l13 : TextLine
l13 = Printed (lines.End 5)

-- ---- what the octets say

n3_says : DecodesOn forwarding_down Len12 (fresh (69 ∷ [])) n3_octets
unfolding Gtpu
n3_says = (
  record { kind = GPdu; teid = 1; seq = None; npdu = None; first = 0; chain = []; payload = 69 ∷ [] },
  record {
    version = refl;
    kind = refl;
    length_is = refl;
    teid_is = refl;
    body_is = record { seq = refl; npdu = refl; first = refl; chain = refl; payload = refl };
  },
  (record { kind_is = refl; seq = refl; npdu = refl; first = refl }, refl, (omega arith, omega arith)),
)

abbrev f1_chain : List ℕ
f1_chain = 2 ∷ 0 ∷ 0 ∷ 0 ∷ 0 ∷ 0 ∷ 0 ∷ 0 ∷ []

f1_headers : AreHeaders (record { code = 132; content = 0 ∷ 0 ∷ 0 ∷ 0 ∷ 0 ∷ 0 ∷ [] } ∷ []) 132 f1_chain
f1_headers = record {
  each = (record { some = omega arith; passed = refl; whole = refl; size = refl }, tt);
  first_is = refl;
  octets_are = refl;
}

f1_says : DecodesOn f1u_downlink Len12 (framed false 0 (data_pdu 0 (69 ∷ [])) pdu_octets) f1_octets
unfolding Gtpu
f1_says = (
  record { kind = GPdu; teid = 1; seq = None; npdu = None; first = 132; chain = f1_chain; payload = pdu_octets },
  record {
    version = refl;
    kind = refl;
    length_is = refl;
    teid_is = refl;
    body_is = record { seq = refl; npdu = refl; first = refl; chain = (_, f1_headers); parts = refl };
  },
  (
    0 ∷ 0 ∷ 0 ∷ 0 ∷ 0 ∷ 0 ∷ [],
    record { kind_is = refl; seq = refl; npdu = refl; headers = f1_headers },
    (refl, refl, refl, (omega arith, refl)),
    refl,
    ((omega arith, refl, refl), (omega arith, omega arith)),
  ),
)

-- ---- the lines keep the rules

abbrev p2 : List TextLine
p2 = l1 ∷ []

abbrev p3 : List TextLine
p3 = l2 ∷ p2

abbrev p4 : List TextLine
p4 = l3 ∷ p3

abbrev p5 : List TextLine
p5 = l4 ∷ p4

abbrev p6 : List TextLine
p6 = l5 ∷ p5

abbrev p7 : List TextLine
p7 = l6 ∷ p6

abbrev p8 : List TextLine
p8 = l7 ∷ p7

abbrev p9 : List TextLine
p9 = l8 ∷ p8

abbrev p10 : List TextLine
p10 = l9 ∷ p9

abbrev p11 : List TextLine
p11 = l10 ∷ p10

abbrev p12 : List TextLine
p12 = l11 ∷ p11

abbrev p13 : List TextLine
p13 = l12 ∷ p12

abbrev p14 : List TextLine
p14 = l13 ∷ p13

r3 : Reading (accepted l3 p3) at_up (item None n3_octets)
unfolding accepted offered plans standing messages delivered events_of
r3 = record { plan = plan; is_set = refl; has_bearer = omega arith; says = fresh (69 ∷ []); laid_out = (refl, inl n3_says) }

r5 : Reading (accepted l5 p5) at_up (item None n3_octets)
unfolding accepted offered plans standing messages delivered events_of
r5 = record { plan = plan; is_set = refl; has_bearer = omega arith; says = fresh (69 ∷ []); laid_out = (refl, inl n3_says) }

r6 : Reading (accepted l6 p6) at_du (item (Some 0) f1_octets)
unfolding accepted offered plans standing messages delivered events_of
r6 = record { plan = plan; is_set = refl; has_bearer = omega arith; says = framed false 0 (data_pdu 0 (69 ∷ [])) pdu_octets; laid_out = f1_says }

r8 : Reading (accepted l8 p8) at_du (item (Some 0) f1_octets)
unfolding accepted offered plans standing messages delivered events_of
r8 = record { plan = plan; is_set = refl; has_bearer = omega arith; says = framed false 0 (data_pdu 0 (69 ∷ [])) pdu_octets; laid_out = f1_says }

r9 : Reading (accepted l9 p9) radio (item (Some 0) pdu_octets)
unfolding accepted offered plans standing messages delivered events_of
r9 = record { plan = plan; is_set = refl; has_bearer = omega arith; says = pdu (data_pdu 0 (69 ∷ [])) pdu_octets; laid_out = (refl, ((omega arith, refl, refl), (omega arith, omega arith))) }

r11 : Reading (accepted l11 p11) radio (item (Some 0) pdu_octets)
unfolding accepted offered plans standing messages delivered events_of
r11 = record { plan = plan; is_set = refl; has_bearer = omega arith; says = pdu (data_pdu 0 (69 ∷ [])) pdu_octets; laid_out = (refl, ((omega arith, refl, refl), (omega arith, omega arith))) }

k1 : (encode : Spelling) → KeptAll encode [] l1
unfolding accepted offered plans standing messages delivered events_of
k1 encode = record { form = (tt, tt); wire = tt; packet = tt; count = tt; order = tt; seen = tt; spelling = tt }

k2 : (encode : Spelling) → KeptAll encode p2 l2
unfolding accepted offered plans standing messages delivered events_of
k2 encode = record { form = (tt, tt); wire = tt; packet = tt; count = tt; order = tt; seen = tt; spelling = tt }

k3 : (encode : Spelling) → KeptAll encode p3 l3
unfolding accepted offered plans standing messages delivered events_of
k3 encode = record { form = (tt, tt); wire = tt; packet = record { plan = plan; is_set = refl; has_bearer = omega arith; says = fresh (69 ∷ []); laid_out = (refl, inl n3_says) }; count = (record { plan = plan; is_set = refl; has_bearer = omega arith; says = fresh (69 ∷ []); laid_out = (refl, inl n3_says) }, tt); order = tt; seen = (record { plan = plan; is_set = refl; has_bearer = omega arith; says = fresh (69 ∷ []); laid_out = (refl, inl n3_says) }, (0, refl)); spelling = tt }

k4 : (encode : Spelling) → KeptAll encode p4 l4
unfolding accepted offered plans standing messages delivered events_of
k4 encode = record { form = (tt, tt); wire = tt; packet = tt; count = tt; order = tt; seen = tt; spelling = tt }

k5 : (encode : Spelling) → KeptAll encode p5 l5
unfolding accepted offered plans standing messages delivered events_of
k5 encode = record { form = (tt, tt); wire = refl; packet = tt; count = (record { plan = plan; is_set = refl; has_bearer = omega arith; says = fresh (69 ∷ []); laid_out = (refl, inl n3_says) }, tt); order = tt; seen = tt; spelling = tt }

k6 : (encode : Spelling) → KeptAll encode p6 l6
unfolding accepted offered plans standing messages delivered events_of
k6 encode = record { form = (tt, tt); wire = tt; packet = record { plan = plan; is_set = refl; has_bearer = omega arith; says = framed false 0 (data_pdu 0 (69 ∷ [])) pdu_octets; laid_out = f1_says }; count = (record { plan = plan; is_set = refl; has_bearer = omega arith; says = framed false 0 (data_pdu 0 (69 ∷ [])) pdu_octets; laid_out = f1_says }, (refl, refl)); order = tt; seen = (record { plan = plan; is_set = refl; has_bearer = omega arith; says = framed false 0 (data_pdu 0 (69 ∷ [])) pdu_octets; laid_out = f1_says }, (0, refl)); spelling = tt }

k7 : (encode : Spelling) → KeptAll encode p7 l7
unfolding accepted offered plans standing messages delivered events_of
k7 encode = record { form = (tt, tt); wire = tt; packet = tt; count = tt; order = tt; seen = tt; spelling = tt }

k8 : (encode : Spelling) → KeptAll encode p8 l8
unfolding accepted offered plans standing messages delivered events_of
k8 encode = record { form = (tt, tt); wire = refl; packet = tt; count = (record { plan = plan; is_set = refl; has_bearer = omega arith; says = framed false 0 (data_pdu 0 (69 ∷ [])) pdu_octets; laid_out = f1_says }, (refl, refl)); order = tt; seen = tt; spelling = tt }

k9 : (encode : Spelling) → KeptAll encode p9 l9
unfolding accepted offered plans standing messages delivered events_of
k9 encode = record { form = (tt, tt); wire = tt; packet = record { plan = plan; is_set = refl; has_bearer = omega arith; says = pdu (data_pdu 0 (69 ∷ [])) pdu_octets; laid_out = (refl, ((omega arith, refl, refl), (omega arith, omega arith))) }; count = (record { plan = plan; is_set = refl; has_bearer = omega arith; says = pdu (data_pdu 0 (69 ∷ [])) pdu_octets; laid_out = (refl, ((omega arith, refl, refl), (omega arith, omega arith))) }, (refl, refl)); order = tt; seen = (record { plan = plan; is_set = refl; has_bearer = omega arith; says = pdu (data_pdu 0 (69 ∷ [])) pdu_octets; laid_out = (refl, ((omega arith, refl, refl), (omega arith, omega arith))) }, (0, refl)); spelling = tt }

k10 : (encode : Spelling) → KeptAll encode p10 l10
unfolding accepted offered plans standing messages delivered events_of
k10 encode = record { form = (tt, tt); wire = tt; packet = tt; count = tt; order = tt; seen = tt; spelling = tt }

k11 : (encode : Spelling) → KeptAll encode p11 l11
unfolding accepted offered plans standing messages delivered events_of
k11 encode = record { form = (tt, tt); wire = refl; packet = tt; count = (record { plan = plan; is_set = refl; has_bearer = omega arith; says = pdu (data_pdu 0 (69 ∷ [])) pdu_octets; laid_out = (refl, ((omega arith, refl, refl), (omega arith, omega arith))) }, (refl, refl)); order = tt; seen = tt; spelling = tt }

k12 : (encode : Spelling) → KeptAll encode p12 l12
unfolding accepted offered plans standing messages delivered events_of
k12 encode = record { form = (tt, tt); wire = tt; packet = tt; count = refl; order = refl; seen = inl (refl, record { receiver = tt; count_is = refl; reading = record { plan = plan; is_set = refl; has_bearer = omega arith; says = pdu (data_pdu 0 (69 ∷ [])) pdu_octets; laid_out = (refl, ((omega arith, refl, refl), (omega arith, omega arith))) }; packet_is = refl }); spelling = tt }

k13 : (encode : Spelling) → KeptAll encode p13 l13
unfolding accepted offered plans standing messages delivered events_of
k13 encode = record { form = (tt, refl); wire = tt; packet = tt; count = tt; order = tt; seen = tt; spelling = tt }

-- ---- the lines are proper

proper1 : IsProper l1
proper1 = ((record { from = omega arith; to = omega arith }, (tt, (record { from = omega arith; to = omega arith }, (record { from = omega arith; to = omega arith }, (tt, (record { from = omega arith; to = omega arith }, (record { from = omega arith; to = omega arith }, tt))))))), tt)

proper2 : IsProper l2
proper2 = ((record { from = omega arith; to = omega arith }, (record { from = omega arith; to = omega arith }, (tt, (record { some = omega arith; bytes = bytes (69 ∷ []) refl }, tt)))), tt)

proper3 : IsProper l3
proper3 = ((((record { from = omega arith; to = omega arith }), record { from = omega arith; to = omega arith }), record { ue = record { from = omega arith; to = omega arith }; bearer = record { from = omega arith; to = omega arith }; count = tt; bytes = bytes n3_octets refl }), (tt, omega arith))

proper4 : IsProper l4
proper4 = (((record { from = omega arith; to = omega arith }, record { from = omega arith; to = omega arith }), tt), tt)

proper5 : IsProper l5
proper5 = ((((record { from = omega arith; to = omega arith }), record { from = omega arith; to = omega arith }), record { ue = record { from = omega arith; to = omega arith }; bearer = record { from = omega arith; to = omega arith }; count = tt; bytes = bytes n3_octets refl }), (tt, omega arith))

proper6 : IsProper l6
proper6 = (((record { from = omega arith; to = omega arith }, record { from = omega arith; to = omega arith }), record { ue = record { from = omega arith; to = omega arith }; bearer = record { from = omega arith; to = omega arith }; count = omega arith; bytes = bytes f1_octets refl }), (tt, omega arith))

proper7 : IsProper l7
proper7 = (((record { from = omega arith; to = omega arith }, record { from = omega arith; to = omega arith }), tt), tt)

proper8 : IsProper l8
proper8 = (((record { from = omega arith; to = omega arith }, record { from = omega arith; to = omega arith }), record { ue = record { from = omega arith; to = omega arith }; bearer = record { from = omega arith; to = omega arith }; count = omega arith; bytes = bytes f1_octets refl }), (tt, omega arith))

proper9 : IsProper l9
proper9 = (((record { from = omega arith; to = omega arith }, record { from = omega arith; to = omega arith }, omega arith), record { ue = record { from = omega arith; to = omega arith }; bearer = record { from = omega arith; to = omega arith }; count = omega arith; bytes = bytes pdu_octets refl }), ((refl, refl, refl), omega arith))

proper10 : IsProper l10
proper10 = ((record { from = omega arith; to = omega arith }, (record { from = omega arith; to = omega arith }, (tt, tt))), tt)

proper11 : IsProper l11
proper11 = (((record { from = omega arith; to = omega arith }, record { from = omega arith; to = omega arith }, omega arith), record { ue = record { from = omega arith; to = omega arith }; bearer = record { from = omega arith; to = omega arith }; count = omega arith; bytes = bytes pdu_octets refl }), ((refl, refl, refl), omega arith))

proper12 : IsProper l12
proper12 = ((record { from = omega arith; to = omega arith }, record { from = omega arith; to = omega arith }, omega arith, bytes (69 ∷ []) refl), omega arith)

proper13 : IsProper l13
proper13 = (omega arith, tt)

-- The transcript is sound, however control messages are spelled.
pub first_packet_is_sound : (encode : Spelling) → Sound encode first_packet
unfolding text_of line_text item_text event_text digits first_packet
first_packet_is_sound encode = record {
  past = p14;
  texts_are = refl;
  proper = (proper13, (proper12, (proper11, (proper10, (proper9, (proper8, (proper7, (proper6, (proper5, (proper4, (proper3, (proper2, (proper1, tt)))))))))))));
  sound = (((((((((((((tt, kept encode [] l1 (k1 encode)), kept encode p2 l2 (k2 encode)), kept encode p3 l3 (k3 encode)), kept encode p4 l4 (k4 encode)), kept encode p5 l5 (k5 encode)), kept encode p6 l6 (k6 encode)), kept encode p7 l7 (k7 encode)), kept encode p8 l8 (k8 encode)), kept encode p9 l9 (k9 encode)), kept encode p10 l10 (k10 encode)), kept encode p11 l11 (k11 encode)), kept encode p12 l12 (k12 encode)), kept encode p13 l13 (k13 encode));
  finished = tt;
}

-- ---- a text for each rule

abbrev tick : TextLine
tick = Printed (lines.Happens events.Tick)

abbrev one_octet : Item
one_octet = record { ue = u1; bearer = b1; dir = Dl; count = None; bytes = 0 ∷ [] }

abbrev got_nothing : TextLine
got_nothing = Printed (lines.Got at_du one_octet)

abbrev put_for_nobody : TextLine
put_for_nobody = Printed (lines.Put at_du one_octet)

abbrev message : Message
message = record { number = 1; from = CuCp A; to = Core; ue = 0; bytes = 0 ∷ [] }

abbrev put_no_spelling : TextLine
put_no_spelling = Printed (lines.PutMessage message)

abbrev quiet : TextLine
quiet = Printed (lines.Quiet u1 b1 1 0)

abbrev end_one : TextLine
end_one = Printed (lines.End 1)

proper_octet : IsProper put_for_nobody
proper_octet = (((record { from = omega arith; to = omega arith }, record { from = omega arith; to = omega arith }), record { ue = record { from = omega arith; to = omega arith }; bearer = record { from = omega arith; to = omega arith }; count = tt; bytes = bytes (0 ∷ []) refl }), (tt, omega arith))

tick_kept : (encode : Spelling) → KeptAll encode [] tick
unfolding accepted offered plans standing messages delivered events_of
tick_kept encode = record { form = (tt, tt); wire = tt; packet = tt; count = tt; order = tt; seen = tt; spelling = tt }

-- what is told of a line after `> tick`
after_tick : (encode : Spelling) (line : TextLine) (texts : List (List ℕ)) (rule : Rule) → texts ≡ text_of tick ∷ text_of line ∷ [] → IsProper line
    → (Keeps encode rule (tick ∷ []) (a_line line) → ⊥)
    → ((other : Rule) → rule_number other < rule_number rule → Keeps encode other (tick ∷ []) (a_line line)) → IsUnsound encode texts 2 rule
after_tick encode line texts rule are proper broken least = record {
  past = tick ∷ [];
  rest = text_of line ∷ [];
  texts_are = are;
  proper = ((tt, tt), tt);
  sound = (tt, kept encode [] tick (tick_kept encode));
  place_is = refl;
  at = a_line line;
  stands = record { text_is = refl; proper = proper };
  broken = broken;
  least = least;
}

pub breaks_form : (encode : Spelling) → IsUnsound encode counts_no_event 1 rules.Form
unfolding text_of line_text item_text message_text event_text digits counts_no_event events_of
breaks_form encode = record {
  past = [];
  rest = counts_no_event;
  texts_are = refl;
  proper = tt;
  sound = tt;
  place_is = refl;
  at = a_line end_one;
  stands = record { text_is = refl; proper = (omega arith, tt) };
  broken = λ k. let none : 1 ≡ 0 = k.1 in omega arith;
  least = λ other less. absurd (let low = (small other).0 in omega arith);
}

wire_least : (encode : Spelling) (other : Rule) → rule_number other < 2 → Keeps encode other (tick ∷ []) (a_line got_nothing)
wire_least encode rules.Form less = (tt, tt)
wire_least encode other less = absurd (omega arith)

pub breaks_wire : (encode : Spelling) → IsUnsound encode takes_nothing 2 rules.Wire
unfolding text_of line_text item_text message_text event_text digits takes_nothing standing
breaks_wire encode = after_tick encode got_nothing takes_nothing rules.Wire refl proper_octet (λ k. absurd (cc)) (wire_least encode)

packet_least : (encode : Spelling) (other : Rule) → rule_number other < 3 → Keeps encode other (tick ∷ []) (a_line put_for_nobody)
packet_least encode rules.Form less = (tt, tt)
packet_least encode rules.Wire less = tt
packet_least encode other less = absurd (omega arith)

never_set : Reading (events.Tick ∷ []) at_du one_octet → ⊥
unfolding plans
never_set r = let none : None ≡ Some r.plan = r.is_set in absurd (cc)

pub breaks_packet : (encode : Spelling) → IsUnsound encode puts_for_nobody 2 rules.Packet
unfolding text_of line_text item_text message_text event_text digits puts_for_nobody accepted
breaks_packet encode = after_tick encode put_for_nobody puts_for_nobody rules.Packet refl proper_octet never_set (packet_least encode)

count_least : (encode : Spelling) (other : Rule) → rule_number other < 4 → Keeps encode other (tick ∷ []) (a_line l12)
count_least encode rules.Form less = (tt, tt)
count_least encode rules.Wire less = tt
count_least encode rules.Packet less = tt
count_least encode other less = absurd (omega arith)

pub breaks_count : (encode : Spelling) → IsUnsound encode delivers_no_offer 2 rules.Count
unfolding text_of line_text item_text message_text event_text digits delivers_no_offer accepted offered
breaks_count encode = after_tick encode l12 delivers_no_offer rules.Count refl proper12 (λ k. let none : None ≡ Some (69 ∷ []) = k in absurd (cc)) (count_least encode)

order_least : (encode : Spelling) (other : Rule) → rule_number other < 5 → Keeps encode other (tick ∷ []) (a_line quiet)
order_least encode rules.Form less = (tt, tt)
order_least encode rules.Wire less = tt
order_least encode rules.Packet less = tt
order_least encode rules.Count less = tt
order_least encode other less = absurd (omega arith)

pub breaks_order : (encode : Spelling) → IsUnsound encode is_quiet_without_offers 2 rules.Order
unfolding text_of line_text item_text message_text event_text digits is_quiet_without_offers accepted offered
breaks_order encode =
    after_tick encode quiet is_quiet_without_offers rules.Order refl ((record { from = omega arith; to = omega arith }, record { from = omega arith; to = omega arith }, omega arith, omega arith), tt)
    (λ k. let none : 1 ≡ 0 = k.0.0 in omega arith) (order_least encode)

seen_least : (encode : Spelling) (other : Rule) → rule_number other < 6 → Keeps encode other p3 (a_line l12)
unfolding accepted offered plans standing messages delivered events_of
seen_least encode rules.Form less = (tt, tt)
seen_least encode rules.Wire less = tt
seen_least encode rules.Packet less = tt
seen_least encode rules.Count less = refl
seen_least encode rules.Order less = refl
seen_least encode other less = absurd (omega arith)

pub breaks_seen : (encode : Spelling) → IsUnsound encode delivers_unseen 3 rules.Seen
unfolding text_of line_text item_text message_text event_text digits delivers_unseen
breaks_seen encode = record {
  past = p3;
  rest = text_of l12 ∷ [];
  texts_are = refl;
  proper = (proper2, (proper1, tt));
  sound = ((tt, kept encode [] l1 (k1 encode)), kept encode p2 l2 (k2 encode));
  place_is = refl;
  at = a_line l12;
  stands = record { text_is = refl; proper = proper12 };
  broken = λ k. elim k [ inl here ↦ here | inr before ↦ elim before [ inl here ↦ here | inr none ↦ none ] ];
  least = seen_least encode;
}

abbrev says_nothing : Spelling
says_nothing control = []

spelling_least : (other : Rule) → rule_number other < 7 → Keeps says_nothing other (tick ∷ []) (a_line put_no_spelling)
unfolding messages
spelling_least rules.Form less = (tt, tt)
spelling_least rules.Wire less = refl
spelling_least rules.Packet less = tt
spelling_least rules.Count less = tt
spelling_least rules.Order less = tt
spelling_least rules.Seen less = tt
spelling_least other less = absurd (omega arith)

pub breaks_spelling : IsUnsound says_nothing spells_nothing 2 rules.Spelling
unfolding text_of line_text item_text message_text event_text digits spells_nothing
breaks_spelling =
    after_tick says_nothing put_no_spelling spells_nothing rules.Spelling refl
    (record { number = record { from = omega arith; to = omega arith }; sender = tt; receiver = tt; ue = omega arith; bytes = bytes (0 ∷ []) refl }, omega arith)
    (λ k. let none : [] ≡ 0 ∷ [] = k.1 in absurd (cc)) spelling_least

end_least : (encode : Spelling) (other : Rule) → rule_number other < 8 → Keeps encode other (tick ∷ []) the_end
end_least encode rules.End less = absurd (omega arith)
end_least encode other less = tt

pub breaks_end : (encode : Spelling) → IsUnsound encode ends_early 2 rules.End
unfolding text_of line_text item_text message_text event_text digits ends_early
breaks_end encode = record {
  past = tick ∷ [];
  rest = [];
  texts_are = refl;
  proper = ((tt, tt), tt);
  sound = (tt, kept encode [] tick (tick_kept encode));
  place_is = refl;
  at = the_end;
  stands = tt;
  broken = λ k. k;
  least = end_least encode;
}
