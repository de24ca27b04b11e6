-- A line's text is read back as the line.
use Rattle.std.proofs.Common.{◌≡◌, ℕ, zero, suc, ◌-◌, ◌<◌, ◌^◌, Bool, true, false, cond, List, Option, Some, None, Result, [], ◌∷◌, ◌++◌, drop, refl, ap, ◌∙◌, subst, inr, arith, nat_eq, codes, append_assoc}
use Rattle.std.specs.Fmt.{decimal}
use Rattle.std.specs.Option.{option_map}
use Rattle.std.specs.Result.{result_ok}
use Rattle.std.specs.List.{find, slice_split, join_with_byte}
use Rattle.std.proofs.lemmas.Fmt.{decimal_digit}
use Rattle.gnb_types.specs.Hex.{hex_of, read_hex}
use Rattle.gnb_types.proofs.HexLemmas.{hex_is_read, hex_of_is_hex}
use Rattle.gnb_types.specs.Names.{node_text, ue_text, bearer_text, dir_text}
use Rattle.gnb_types.specs.Reasons.{drop_text, held_text, cause_text, refuse_text}
use Rattle.gnb_types.specs.declared.names.Gnb.TheVariants.{A, B}
use Rattle.gnb_types.specs.declared.names.Dir.{Dir}
use Rattle.gnb_types.specs.declared.names.Dir.TheVariants.{Dl, Ul}
use Rattle.gnb_types.specs.declared.names.UeId.{UeId}
use Rattle.gnb_types.specs.declared.names.BearerId.{BearerId}
use Rattle.gnb_types.specs.declared.names.NodeId.{NodeId}
use Rattle.gnb_types.specs.declared.names.NodeId.TheVariants.{CuCp, CuUp, Du, Core, Ue}
use Rattle.gnb_types.specs.declared.reasons.DropReason.{DropReason}
use Rattle.gnb_types.specs.declared.reasons.DropReason.TheVariants as drops
use Rattle.gnb_types.specs.declared.reasons.HeldReason.{HeldReason}
use Rattle.gnb_types.specs.declared.reasons.HeldReason.TheVariants as helds
use Rattle.gnb_types.specs.declared.reasons.CauseName.{CauseName}
use Rattle.gnb_types.specs.declared.reasons.CauseName.TheVariants as causes
use Rattle.gnb_types.specs.declared.reasons.RefuseReason.{RefuseReason}
use Rattle.gnb_types.specs.declared.reasons.RefuseReason.TheVariants as refuses
use Rattle.scenario_text.specs.declared.script_words.reason.TextReason.{TextReason}
use Rattle.scenario_text.specs.script_words.Forms.{◌is◌, ◌begins◌, number_of, ue_of, bearer_of, node_of, dir_of, message_of, greatest_number}
use Rattle.scenario_text.specs.script_words.Ranges.{IsWithin, IsNode}
use Rattle.scenario_text.proofs.script_words.FormLaws.{is_text, ue_again, bearer_again, node_again, number_again, positive_again}
use Rattle.scenario_text.proofs.script_words.PlaceLaws.{Lacks, Lacks-decimal, Lacks-node}
use Rattle.scenario_text.specs.declared.event.Event.{Event}
use Rattle.scenario_text.specs.Grammar.{event_of}
use Rattle.scenario_text.specs.declared.line.Link.{Link}
use Rattle.scenario_text.specs.declared.line.Link.TheVariants.{Tunnel, Radio}
use Rattle.scenario_text.specs.declared.line.Item.{Item}
use Rattle.scenario_text.specs.declared.line.Message.{Message}
use Rattle.scenario_text.specs.declared.line.OutLine.{OutLine}
use Rattle.scenario_text.specs.declared.line.OutLine.TheVariants as lines
use Rattle.scenario_text.specs.Print.{link_text, count_text, item_text, message_text, line_text}
use Rattle.scenario_text.proofs.EventLaws.{event_of-event_text}
use Rattle.transcript_defs.specs.Lines.{AreBytes, IsLink, IsCount, IsItem, IsMessage, IsLine}
use Rattle.proof_transcript_lines.proofs.Solid.{Solid, solid-append, solid-decimal, solid-hex, solid-node, solid-dir, AllSolid, parts_then, parts_one, solid_words}

abbrev pub opt_then : {X Y : Type 0} → Option X → (X → Option Y) → Option Y
opt_then None f = None
opt_then (Some x) f = f x

pub then_some : {X Y : Type 0} {o : Option X} {x : X} → o ≡ Some x → (f : X → Option Y) → opt_then o f ≡ f x
then_some {o} {x} e f = ap (λ p. opt_then p f) e

-- ---- words

-- a number of a type
pub count_of : List ℕ → Option ℕ
count_of word = number_of 0 (2 ^ 64 - 1) word

pub count_of-decimal : (n : ℕ) → n < 2 ^ 64 → count_of (decimal n) ≡ Some n
unfolding count_of
count_of-decimal zero h = ap (number_of 0 (2 ^ 64 - 1)) (decimal_digit 0 (omega arith))
count_of-decimal (suc n) h = positive_again 0 (2 ^ 64 - 1) (suc n) (omega arith) (omega arith) (record { from = omega arith; to = omega arith })

pub hex_back : (bytes : List ℕ) → AreBytes bytes → read_hex (hex_of bytes) ≡ Some bytes
hex_back bytes h = hex_is_read (hex_of bytes) bytes (hex_of_is_hex bytes h)

all_drops : List DropReason
all_drops = drops.Undecodable ∷ drops.Criticality ∷ drops.NoContext ∷ drops.NoTunnel ∷ drops.Stale ∷ drops.Busy ∷ drops.Duplicate ∷ drops.Gap ∷ drops.Unexpected ∷ []

pub drop_of : List ℕ → Option DropReason
drop_of word = find (λ r. word is drop_text r) all_drops

drop_back : (r : DropReason) → drop_of (drop_text r) ≡ Some r
unfolding drop_of all_drops
drop_back drops.Undecodable = refl
drop_back drops.Criticality = refl
drop_back drops.NoContext = refl
drop_back drops.NoTunnel = refl
drop_back drops.Stale = refl
drop_back drops.Busy = refl
drop_back drops.Duplicate = refl
drop_back drops.Gap = refl
drop_back drops.Unexpected = refl

drop_solid : (r : DropReason) → Solid (drop_text r)
drop_solid drops.Undecodable = refl
drop_solid drops.Criticality = refl
drop_solid drops.NoContext = refl
drop_solid drops.NoTunnel = refl
drop_solid drops.Stale = refl
drop_solid drops.Busy = refl
drop_solid drops.Duplicate = refl
drop_solid drops.Gap = refl
drop_solid drops.Unexpected = refl

all_helds : List HeldReason
all_helds = helds.Quota ∷ helds.Ahead ∷ helds.NoStatus ∷ helds.NotArrived ∷ helds.Early ∷ []

pub held_of : List ℕ → Option HeldReason
held_of word = find (λ r. word is held_text r) all_helds

held_back : (r : HeldReason) → held_of (held_text r) ≡ Some r
unfolding held_of all_helds
held_back helds.Quota = refl
held_back helds.Ahead = refl
held_back helds.NoStatus = refl
held_back helds.NotArrived = refl
held_back helds.Early = refl

held_solid : (r : HeldReason) → Solid (held_text r)
held_solid helds.Quota = refl
held_solid helds.Ahead = refl
held_solid helds.NoStatus = refl
held_solid helds.NotArrived = refl
held_solid helds.Early = refl

all_causes : List CauseName
all_causes = causes.Quota ∷ causes.Busy ∷ causes.Unit ∷ causes.Timeout ∷ []

pub cause_of : List ℕ → Option CauseName
cause_of word = find (λ r. word is cause_text r) all_causes

cause_back : (r : CauseName) → cause_of (cause_text r) ≡ Some r
unfolding cause_of all_causes
cause_back causes.Quota = refl
cause_back causes.Busy = refl
cause_back causes.Unit = refl
cause_back causes.Timeout = refl

cause_solid : (r : CauseName) → Solid (cause_text r)
cause_solid causes.Quota = refl
cause_solid causes.Busy = refl
cause_solid causes.Unit = refl
cause_solid causes.Timeout = refl

all_refuses : List RefuseReason
all_refuses = refuses.Attached ∷ refuses.NotStarted ∷ refuses.NoBearer ∷ refuses.NoPath ∷ refuses.Size ∷ refuses.Quota ∷ refuses.NoSuch ∷ refuses.Empty ∷ refuses.NoRadio ∷ refuses.NotAllowed ∷ refuses.NoUe ∷ refuses.NotAccessing ∷ refuses.NoHome ∷ refuses.Busy ∷ refuses.Same ∷ refuses.TooLate ∷ refuses.NoLink ∷ refuses.Decodable ∷ []

pub refuse_of : List ℕ → Option RefuseReason
refuse_of word = find (λ r. word is refuse_text r) all_refuses

pub refuse_back : (r : RefuseReason) → refuse_of (refuse_text r) ≡ Some r
unfolding refuse_of all_refuses
refuse_back refuses.Attached = refl
refuse_back refuses.NotStarted = refl
refuse_back refuses.NoBearer = refl
refuse_back refuses.NoPath = refl
refuse_back refuses.Size = refl
refuse_back refuses.Quota = refl
refuse_back refuses.NoSuch = refl
refuse_back refuses.Empty = refl
refuse_back refuses.NoRadio = refl
refuse_back refuses.NotAllowed = refl
refuse_back refuses.NoUe = refl
refuse_back refuses.NotAccessing = refl
refuse_back refuses.NoHome = refl
refuse_back refuses.Busy = refl
refuse_back refuses.Same = refl
refuse_back refuses.TooLate = refl
refuse_back refuses.NoLink = refl
refuse_back refuses.Decodable = refl

pub refuse_solid : (r : RefuseReason) → Solid (refuse_text r)
refuse_solid refuses.Attached = refl
refuse_solid refuses.NotStarted = refl
refuse_solid refuses.NoBearer = refl
refuse_solid refuses.NoPath = refl
refuse_solid refuses.Size = refl
refuse_solid refuses.Quota = refl
refuse_solid refuses.NoSuch = refl
refuse_solid refuses.Empty = refl
refuse_solid refuses.NoRadio = refl
refuse_solid refuses.NotAllowed = refl
refuse_solid refuses.NoUe = refl
refuse_solid refuses.NotAccessing = refl
refuse_solid refuses.NoHome = refl
refuse_solid refuses.Busy = refl
refuse_solid refuses.Same = refl
refuse_solid refuses.TooLate = refl
refuse_solid refuses.NoLink = refl
refuse_solid refuses.Decodable = refl

pub dir_back : (d : Dir) → dir_of (dir_text d) ≡ Some d
dir_back Dl = refl
dir_back Ul = refl

pub message_back : (n : ℕ) → IsWithin 1 greatest_number n → message_of (codes "#" ++ decimal n) ≡ Some n
message_back n h = number_again 1 greatest_number n (omega arith) (omega arith) h

-- ---- counts, links

pub option_count_of : List ℕ → Option (Option ℕ)
option_count_of word = cond (word is codes "-") (Some None) (option_map (λ n. Some n) (count_of word))

no_dash : (word : List ℕ) → Lacks 45 word → (word is codes "-") ≡ false
no_dash word lacks = by_test (word is codes "-") refl
  where
    by_test : (b : Bool) → (word is codes "-") ≡ b → (word is codes "-") ≡ false
    by_test false e = e
    by_test true e = let no : false ≡ true = subst (Lacks 45) (is_text word (codes "-") e) lacks in absurd (cc)

option_count_back : (o : Option ℕ) → IsCount o → option_count_of (count_text o) ≡ Some o
unfolding option_count_of
option_count_back None h = refl
option_count_back (Some n) h =
    let choice : Bool → Option (Option ℕ) = λ b. cond b (Some None) (option_map (λ m. Some m) (count_of (decimal n))) in
    ap choice (no_dash (decimal n) (Lacks-decimal 45 n (omega arith) (omega (arith, h))))
    ∙ ap (option_map (λ m. Some m)) (count_of-decimal n (omega (arith, h)))

count_solid : (o : Option ℕ) → IsCount o → Solid (count_text o)
count_solid None h = refl
count_solid (Some n) h = solid-decimal n (omega (arith, h))

-- the parts of a link's name: two of a tunnel, five of a radio
parts_link : List (List ℕ) → Option Link
parts_link (end ∷ teid ∷ []) = opt_then (node_of end) (λ n. opt_then (count_of teid) (λ t. Some (Tunnel n t)))
parts_link (r ∷ ue ∷ bearer ∷ dir ∷ epoch ∷ []) =
    opt_then (ue_of ue) (λ u. opt_then (bearer_of bearer) (λ b. opt_then (dir_of dir) (λ d. opt_then (count_of epoch) (λ e. Some (Radio u b d e)))))
parts_link parts = None

pub link_of : List ℕ → Option Link
link_of word = parts_link (slice_split (λ x. nat_eq x 47) word)

dir_lacks : (d : Dir) → Lacks 47 (dir_text d)
dir_lacks Dl = refl
dir_lacks Ul = refl

tunnel_parts : (end : NodeId) (teid : ℕ) → IsNode end → teid < 2 ^ 64
    → slice_split (λ x. nat_eq x 47) (node_text end ++ codes "/" ++ decimal teid) ≡ node_text end ∷ decimal teid ∷ []
tunnel_parts end teid h k =
    ap (slice_split (λ x. nat_eq x 47)) (append_assoc (node_text end) (codes "/") (decimal teid))
    ∙ parts_then 47 (node_text end) (decimal teid) (Lacks-node 47 end (inr refl) h)
    ∙ ap (λ ws. node_text end ∷ ws) (parts_one 47 (decimal teid) (Lacks-decimal 47 teid (omega arith) k))

link_back : (l : Link) → IsLink l → link_of (link_text l) ≡ Some l
unfolding link_of parts_link
link_back (Tunnel end teid) h =
    ap parts_link (tunnel_parts end teid h.0 (omega (arith, h.1.to)))
    ∙ then_some (node_again end h.0) (λ n. opt_then (count_of (decimal teid)) (λ t. Some (Tunnel n t)))
    ∙ then_some (count_of-decimal teid (omega (arith, h.1.to))) (λ t. Some (Tunnel end t))
link_back (Radio ue bearer dir epoch) h =
    ap parts_link (radio_parts (ue_text ue) (bearer_text bearer) (dir_text dir) (decimal epoch) (Lacks-decimal 47 ue.0 (omega arith) (omega (arith, h.0.to))) (Lacks-decimal 47 bearer.0 (omega arith) (omega (arith, h.1.to))) (dir_lacks dir) (Lacks-decimal 47 epoch (omega arith) (omega (arith, h.2))))
    ∙ then_some (ue_again ue h.0) (λ u. opt_then (bearer_of (bearer_text bearer)) (λ b. opt_then (dir_of (dir_text dir)) (λ d. opt_then (count_of (decimal epoch)) (λ e. Some (Radio u b d e)))))
    ∙ then_some (bearer_again bearer h.1) (λ b. opt_then (dir_of (dir_text dir)) (λ d. opt_then (count_of (decimal epoch)) (λ e. Some (Radio ue b d e))))
    ∙ then_some (dir_back dir) (λ d. opt_then (count_of (decimal epoch)) (λ e. Some (Radio ue bearer d e)))
    ∙ then_some (count_of-decimal epoch (omega (arith, h.2))) (λ e. Some (Radio ue bearer dir e))
  where
    radio_parts : (u b d e : List ℕ) → Lacks 47 u → Lacks 47 b → Lacks 47 d → Lacks 47 e
        → slice_split (λ x. nat_eq x 47) (codes "r/" ++ u ++ codes "/" ++ b ++ codes "/" ++ d ++ codes "/" ++ e) ≡ codes "r" ∷ u ∷ b ∷ d ∷ e ∷ []
    radio_parts u b d e lu lb ld le =
        let flat : codes "r/" ++ u ++ codes "/" ++ b ++ codes "/" ++ d ++ codes "/" ++ e ≡ codes "r" ++ 47 ∷ (u ++ 47 ∷ (b ++ 47 ∷ (d ++ 47 ∷ e))) = simp append_assoc in
        ap (slice_split (λ x. nat_eq x 47)) flat
        ∙ parts_then 47 (codes "r") (u ++ 47 ∷ (b ++ 47 ∷ (d ++ 47 ∷ e))) refl
        ∙ ap (λ ws. codes "r" ∷ ws) (parts_then 47 u (b ++ 47 ∷ (d ++ 47 ∷ e)) lu
        ∙ ap (λ ws. u ∷ ws) (parts_then 47 b (d ++ 47 ∷ e) lb
        ∙ ap (λ ws. b ∷ ws) (parts_then 47 d e ld
        ∙ ap (λ ws. d ∷ ws) (parts_one 47 e le))))

link_solid : (l : Link) → IsLink l → Solid (link_text l)
link_solid (Tunnel end teid) h = solid-append (node_text end ++ codes "/") (decimal teid) (solid-append (node_text end) (codes "/") (solid-node end h.0) refl) (solid-decimal teid (omega (arith, h.1.to)))
link_solid (Radio ue bearer dir epoch) h =
    solid-append (codes "r/" ++ ue_text ue ++ codes "/" ++ bearer_text bearer ++ codes "/" ++ dir_text dir ++ codes "/") (decimal epoch)
    (solid-append (codes "r/" ++ ue_text ue ++ codes "/" ++ bearer_text bearer ++ codes "/" ++ dir_text dir) (codes "/")
    (solid-append (codes "r/" ++ ue_text ue ++ codes "/" ++ bearer_text bearer ++ codes "/") (dir_text dir)
    (solid-append (codes "r/" ++ ue_text ue ++ codes "/" ++ bearer_text bearer) (codes "/")
    (solid-append (codes "r/" ++ ue_text ue ++ codes "/") (bearer_text bearer)
    (solid-append (codes "r/" ++ ue_text ue) (codes "/") (solid-decimal ue.0 (omega (arith, h.0.to))) refl)
    (solid-decimal bearer.0 (omega (arith, h.1.to)))) refl) (solid-dir dir)) refl) (solid-decimal epoch (omega (arith, h.2)))

-- no link's name begins with `#`
link_no_hash : (l : Link) → (link_text l begins codes "#") ≡ false
link_no_hash (Tunnel (CuCp A) teid) = refl
link_no_hash (Tunnel (CuCp B) teid) = refl
link_no_hash (Tunnel (CuUp A n) teid) = refl
link_no_hash (Tunnel (CuUp B n) teid) = refl
link_no_hash (Tunnel (Du A n) teid) = refl
link_no_hash (Tunnel (Du B n) teid) = refl
link_no_hash (Tunnel Core teid) = refl
link_no_hash (Tunnel (Ue n) teid) = refl
link_no_hash (Radio ue bearer dir epoch) = refl

-- ---- items, messages

abbrev item_words : Item → List (List ℕ)
item_words item = ue_text item.ue ∷ bearer_text item.bearer ∷ dir_text item.dir ∷ count_text item.count ∷ hex_of item.bytes ∷ []

abbrev item_of : List (List ℕ) → Option Item
item_of (u ∷ b ∷ d ∷ c ∷ h ∷ []) =
    opt_then (ue_of u) (λ ue. opt_then (bearer_of b) (λ bearer. opt_then (dir_of d) (λ dir. opt_then (option_count_of c) (λ count. opt_then (read_hex h) (λ bytes.
    Some (record { ue = ue; bearer = bearer; dir = dir; count = count; bytes = bytes }))))))
item_of words = None

abbrev item_at : UeId → BearerId → Dir → Option ℕ → List ℕ → Item
item_at ue bearer dir count bytes = record { ue = ue; bearer = bearer; dir = dir; count = count; bytes = bytes }

item_back : (item : Item) → IsItem item → item_of (item_words item) ≡ Some item
item_back item h =
    then_some (ue_again item.ue h.ue) (λ ue. opt_then (bearer_of (bearer_text item.bearer)) (λ bearer. opt_then (dir_of (dir_text item.dir)) (λ dir. opt_then (option_count_of (count_text item.count)) (λ count. opt_then (read_hex (hex_of item.bytes)) (λ bytes. Some (item_at ue bearer dir count bytes))))))
    ∙ then_some (bearer_again item.bearer h.bearer) (λ bearer. opt_then (dir_of (dir_text item.dir)) (λ dir. opt_then (option_count_of (count_text item.count)) (λ count. opt_then (read_hex (hex_of item.bytes)) (λ bytes. Some (item_at item.ue bearer dir count bytes)))))
    ∙ then_some (dir_back item.dir) (λ dir. opt_then (option_count_of (count_text item.count)) (λ count. opt_then (read_hex (hex_of item.bytes)) (λ bytes. Some (item_at item.ue item.bearer dir count bytes))))
    ∙ then_some (option_count_back item.count h.count) (λ count. opt_then (read_hex (hex_of item.bytes)) (λ bytes. Some (item_at item.ue item.bearer item.dir count bytes)))
    ∙ then_some (hex_back item.bytes h.bytes) (λ bytes. Some (item_at item.ue item.bearer item.dir item.count bytes))

item_solid : (item : Item) → IsItem item → AllSolid (item_words item)
item_solid item h =
    (solid-decimal item.ue.0 (omega (arith, h.ue.to)), (solid-decimal item.bearer.0 (omega (arith, h.bearer.to)), (solid-dir item.dir, (count_solid item.count h.count, (solid-hex (hex_of item.bytes) item.bytes (hex_of_is_hex item.bytes h.bytes), tt)))))

-- `u0` to `u16`
pub owner_of : List ℕ → Option ℕ
owner_of word = cond (word begins codes "u") (count_of (drop 1 word)) None

owner_back : (n : ℕ) → n < 2 ^ 64 → owner_of (codes "u" ++ decimal n) ≡ Some n
unfolding owner_of
owner_back n h = count_of-decimal n h

abbrev message_words : Message → List (List ℕ)
message_words message = (codes "#" ++ decimal message.number) ∷ node_text message.from ∷ node_text message.to ∷ (codes "u" ++ decimal message.ue) ∷ hex_of message.bytes ∷ []

abbrev message_from : List (List ℕ) → Option Message
message_from (n ∷ f ∷ t ∷ u ∷ h ∷ []) =
    opt_then (message_of n) (λ number. opt_then (node_of f) (λ from. opt_then (node_of t) (λ to. opt_then (owner_of u) (λ ue. opt_then (read_hex h) (λ bytes.
    Some (record { number = number; from = from; to = to; ue = ue; bytes = bytes }))))))
message_from words = None

abbrev message_at : ℕ → NodeId → NodeId → ℕ → List ℕ → Message
message_at number from to ue bytes = record { number = number; from = from; to = to; ue = ue; bytes = bytes }

message_from_back : (message : Message) → IsMessage message → message_from (message_words message) ≡ Some message
message_from_back m h =
    then_some (message_back m.number h.number) (λ number. opt_then (node_of (node_text m.from)) (λ from. opt_then (node_of (node_text m.to)) (λ to. opt_then (owner_of (codes "u" ++ decimal m.ue)) (λ ue. opt_then (read_hex (hex_of m.bytes)) (λ bytes. Some (message_at number from to ue bytes))))))
    ∙ then_some (node_again m.from h.sender) (λ from. opt_then (node_of (node_text m.to)) (λ to. opt_then (owner_of (codes "u" ++ decimal m.ue)) (λ ue. opt_then (read_hex (hex_of m.bytes)) (λ bytes. Some (message_at m.number from to ue bytes)))))
    ∙ then_some (node_again m.to h.receiver) (λ to. opt_then (owner_of (codes "u" ++ decimal m.ue)) (λ ue. opt_then (read_hex (hex_of m.bytes)) (λ bytes. Some (message_at m.number m.from to ue bytes))))
    ∙ then_some (owner_back m.ue (omega (arith, h.ue))) (λ ue. opt_then (read_hex (hex_of m.bytes)) (λ bytes. Some (message_at m.number m.from m.to ue bytes)))
    ∙ then_some (hex_back m.bytes h.bytes) (λ bytes. Some (message_at m.number m.from m.to m.ue bytes))

message_solid : (message : Message) → IsMessage message → AllSolid (message_words message)
message_solid m h =
    (solid-decimal m.number (omega (arith, h.number.to)), (solid-node m.from h.sender, (solid-node m.to h.receiver, (solid-decimal m.ue (omega (arith, h.ue)), (solid-hex (hex_of m.bytes) m.bytes (hex_of_is_hex m.bytes h.bytes), tt)))))

-- ---- lines by their words

abbrev moved : (Link → Item → OutLine) → (Message → OutLine) → List (List ℕ) → Option OutLine
moved of_item of_message [] = None
moved of_item of_message (word ∷ rest) =
    cond (word begins codes "#") (opt_then (message_from (word ∷ rest)) (λ m. Some (of_message m))) (opt_then (link_of word) (λ l. opt_then (item_of rest) (λ i. Some (of_item l i))))

abbrev lost : List (List ℕ) → Option OutLine
lost (word ∷ n ∷ []) = cond (word begins codes "#") (opt_then (message_of word) (λ m. Some (lines.LostMessage m))) (opt_then (link_of word) (λ l. opt_then (count_of n) (λ k. Some (lines.Lost l k))))
lost words = None

abbrev delivered : List (List ℕ) → Option OutLine
delivered (u ∷ b ∷ d ∷ c ∷ h ∷ []) =
    opt_then (ue_of u) (λ ue. opt_then (bearer_of b) (λ bearer. opt_then (dir_of d) (λ dir. opt_then (count_of c) (λ count. opt_then (read_hex h) (λ bytes. Some (lines.Deliver ue bearer dir count bytes))))))
delivered words = None

abbrev dropped : List (List ℕ) → Option OutLine
dropped (n ∷ r ∷ []) = opt_then (node_of n) (λ node. opt_then (drop_of r) (λ reason. Some (lines.Drop node reason)))
dropped words = None

abbrev held : List (List ℕ) → Option OutLine
held (l ∷ r ∷ []) = opt_then (link_of l) (λ link. opt_then (held_of r) (λ reason. Some (lines.Held link reason)))
held words = None

abbrev failed : List (List ℕ) → Option OutLine
failed (n ∷ u ∷ c ∷ []) = opt_then (node_of n) (λ node. opt_then (ue_of u) (λ ue. opt_then (cause_of c) (λ cause. Some (lines.Failed node ue cause))))
failed words = None

abbrev quiet : List (List ℕ) → Option OutLine
quiet (u ∷ b ∷ d ∷ c ∷ []) = opt_then (ue_of u) (λ ue. opt_then (bearer_of b) (λ bearer. opt_then (count_of d) (λ down. opt_then (count_of c) (λ up. Some (lines.Quiet ue bearer down up)))))
quiet words = None

abbrev busy : List (List ℕ) → Option OutLine
busy (u ∷ b ∷ []) = opt_then (ue_of u) (λ ue. opt_then (bearer_of b) (λ bearer. Some (lines.Busy ue bearer)))
busy words = None

abbrev counted : (ℕ → OutLine) → List (List ℕ) → Option OutLine
counted line (n ∷ []) = opt_then (count_of n) (λ k. Some (line k))
counted line words = None

abbrev refused : List (List ℕ) → Option OutLine
refused (r ∷ []) = opt_then (refuse_of r) (λ reason. Some (lines.Refused reason))
refused words = None

abbrev outstanding : List (List ℕ) → Option OutLine
outstanding (u ∷ b ∷ d ∷ s ∷ w ∷ []) =
    opt_then (ue_of u) (λ ue. opt_then (bearer_of b) (λ bearer. opt_then (dir_of d) (λ dir. opt_then (count_of s) (λ span. opt_then (count_of w) (λ window. Some (lines.Outstanding ue bearer dir span window))))))
outstanding words = None

abbrev stopped : List (List ℕ) → Option OutLine
stopped (c ∷ p ∷ r ∷ []) = opt_then (count_of c) (λ code. opt_then (count_of p) (λ place. opt_then (count_of r) (λ reason. Some (lines.Stop code place reason))))
stopped words = None

unfoldable pub words_line : List (List ℕ) → Option OutLine
words_line [] = None
words_line (word ∷ rest) =
    cond (word is codes "put") (moved lines.Put lines.PutMessage rest)
    (cond (word is codes "got") (moved lines.Got lines.GotMessage rest)
    (cond (word is codes "deliver") (delivered rest)
    (cond (word is codes "lost") (lost rest)
    (cond (word is codes "drop") (dropped rest)
    (cond (word is codes "held") (held rest)
    (cond (word is codes "failed") (failed rest)
    (cond (word is codes "quiet") (quiet rest)
    (cond (word is codes "busy") (busy rest)
    (cond (word is codes "settled") (counted lines.Settled rest)
    (cond (word is codes "unsettled") (counted lines.Unsettled rest)
    (cond (word is codes "refused") (refused rest)
    (cond (word is codes "outstanding") (outstanding rest)
    (cond (word is codes "end") (counted lines.End rest)
    (cond (word is codes "stop") (stopped rest) None))))))))))))))

pub line_of : List ℕ → Option OutLine
line_of text =
    cond (text begins codes "> ") (opt_then (result_ok (event_of (drop 2 text))) (λ event. Some (lines.Happens event))) (words_line (slice_split (λ x. nat_eq x 32) text))

-- a text of words from which the line is read back
pub record ReadsBack (line : OutLine) (text : List ℕ) : Type 0 where
  pub word : List ℕ
  pub rest : List (List ℕ)
  pub words_are : text ≡ join_with_byte 32 (word ∷ rest)
  pub no_event : (text begins codes "> ") ≡ false
  pub solid_word : Solid word
  pub solid_rest : AllSolid rest
  pub tell : words_line (word ∷ rest) ≡ Some line

pub reads_back : (line : OutLine) (text : List ℕ) → ReadsBack line text → line_of text ≡ Some line
unfolding line_of
reads_back line text h =
    ap (λ b. cond b (opt_then (result_ok (event_of (drop 2 text))) (λ event. Some (lines.Happens event))) (words_line (slice_split (λ x. nat_eq x 32) text))) h.no_event
    ∙ ap words_line (ap (slice_split (λ x. nat_eq x 32)) h.words_are ∙ solid_words h.word h.rest h.solid_word h.solid_rest) ∙ h.tell

moved_item : (of_item : Link → Item → OutLine) (of_message : Message → OutLine) (link : Link) (item : Item) → IsLink link → IsItem item
    → moved of_item of_message (link_text link ∷ item_words item) ≡ Some (of_item link item)
moved_item of_item of_message link item h k =
    ap (λ b. cond b (opt_then (message_from (link_text link ∷ item_words item)) (λ m. Some (of_message m))) (opt_then (link_of (link_text link)) (λ l. opt_then (item_of (item_words item)) (λ i. Some (of_item l i))))) (link_no_hash link)
    ∙ then_some (link_back link h) (λ l. opt_then (item_of (item_words item)) (λ i. Some (of_item l i)))
    ∙ then_some (item_back item k) (λ i. Some (of_item link i))

lost_items : (link : Link) (items : ℕ) → IsLink link → items < 2 ^ 64
    → lost (link_text link ∷ decimal items ∷ []) ≡ Some (lines.Lost link items)
lost_items link items h k =
    ap (λ b. cond b (opt_then (message_of (link_text link)) (λ m. Some (lines.LostMessage m))) (opt_then (link_of (link_text link)) (λ l. opt_then (count_of (decimal items)) (λ n. Some (lines.Lost l n))))) (link_no_hash link)
    ∙ then_some (link_back link h) (λ l. opt_then (count_of (decimal items)) (λ n. Some (lines.Lost l n)))
    ∙ then_some (count_of-decimal items k) (λ n. Some (lines.Lost link n))

-- not an event's line
abbrev pub IsOther : OutLine → Type 0
IsOther (lines.Happens event) = ⊥
IsOther line = Unit {0}

pub line_reads_all : (line : OutLine) → IsOther line → IsLine line → ReadsBack line (line_text line)
unfolding line_text item_text message_text words_line
line_reads_all (lines.Put link item) other h = record {
  word = codes "put";
  rest = link_text link ∷ item_words item;
  words_are = refl;
  no_event = refl;
  solid_word = refl;
  solid_rest = (link_solid link h.0, item_solid item h.1);
  tell = moved_item lines.Put lines.PutMessage link item h.0 h.1;
}
line_reads_all (lines.PutMessage message) other h = record {
  word = codes "put";
  rest = message_words message;
  words_are = refl;
  no_event = refl;
  solid_word = refl;
  solid_rest = message_solid message h;
  tell = ap (λ o. opt_then o (λ m. Some (lines.PutMessage m))) (message_from_back message h);
}
line_reads_all (lines.Got link item) other h = record {
  word = codes "got";
  rest = link_text link ∷ item_words item;
  words_are = refl;
  no_event = refl;
  solid_word = refl;
  solid_rest = (link_solid link h.0, item_solid item h.1);
  tell = moved_item lines.Got lines.GotMessage link item h.0 h.1;
}
line_reads_all (lines.GotMessage message) other h = record {
  word = codes "got";
  rest = message_words message;
  words_are = refl;
  no_event = refl;
  solid_word = refl;
  solid_rest = message_solid message h;
  tell = ap (λ o. opt_then o (λ m. Some (lines.GotMessage m))) (message_from_back message h);
}
line_reads_all (lines.Deliver ue bearer dir count packet) other h = record {
  word = codes "deliver";
  rest = ue_text ue ∷ bearer_text bearer ∷ dir_text dir ∷ decimal count ∷ hex_of packet ∷ [];
  words_are = refl;
  no_event = refl;
  solid_word = refl;
  solid_rest = (solid-decimal ue.0 (omega (arith, h.0.to)), (solid-decimal bearer.0 (omega (arith, h.1.to)), (solid-dir dir, (solid-decimal count (omega (arith, h.2)), (solid-hex (hex_of packet) packet (hex_of_is_hex packet h.3), tt)))));
  tell = then_some (ue_again ue h.0) (λ u. opt_then (bearer_of (bearer_text bearer)) (λ b. opt_then (dir_of (dir_text dir)) (λ d. opt_then (count_of (decimal count)) (λ c. opt_then (read_hex (hex_of packet)) (λ x. Some (lines.Deliver u b d c x))))))
      ∙ then_some (bearer_again bearer h.1) (λ b. opt_then (dir_of (dir_text dir)) (λ d. opt_then (count_of (decimal count)) (λ c. opt_then (read_hex (hex_of packet)) (λ x. Some (lines.Deliver ue b d c x)))))
      ∙ then_some (dir_back dir) (λ d. opt_then (count_of (decimal count)) (λ c. opt_then (read_hex (hex_of packet)) (λ x. Some (lines.Deliver ue bearer d c x))))
      ∙ then_some (count_of-decimal count (omega (arith, h.2))) (λ c. opt_then (read_hex (hex_of packet)) (λ x. Some (lines.Deliver ue bearer dir c x)))
      ∙ then_some (hex_back packet h.3) (λ x. Some (lines.Deliver ue bearer dir count x));
}
line_reads_all (lines.Lost link items) other h = record {
  word = codes "lost";
  rest = link_text link ∷ decimal items ∷ [];
  words_are = refl;
  no_event = refl;
  solid_word = refl;
  solid_rest = (link_solid link h.0, (solid-decimal items (omega (arith, h.1)), tt));
  tell = lost_items link items h.0 h.1;
}
line_reads_all (lines.LostMessage message) other h = record {
  word = codes "lost";
  rest = (codes "#" ++ decimal message) ∷ codes "1" ∷ [];
  words_are = refl;
  no_event = refl;
  solid_word = refl;
  solid_rest = (solid-decimal message (omega (arith, h.to)), (refl, tt));
  tell = ap (λ o. opt_then o (λ m. Some (lines.LostMessage m))) (message_back message h);
}
line_reads_all (lines.Drop node reason) other h = record {
  word = codes "drop";
  rest = node_text node ∷ drop_text reason ∷ [];
  words_are = refl;
  no_event = refl;
  solid_word = refl;
  solid_rest = (solid-node node h, (drop_solid reason, tt));
  tell = then_some (node_again node h) (λ n. opt_then (drop_of (drop_text reason)) (λ r. Some (lines.Drop n r)))
      ∙ then_some (drop_back reason) (λ r. Some (lines.Drop node r));
}
line_reads_all (lines.Held link reason) other h = record {
  word = codes "held";
  rest = link_text link ∷ held_text reason ∷ [];
  words_are = refl;
  no_event = refl;
  solid_word = refl;
  solid_rest = (link_solid link h, (held_solid reason, tt));
  tell = then_some (link_back link h) (λ l. opt_then (held_of (held_text reason)) (λ r. Some (lines.Held l r)))
      ∙ then_some (held_back reason) (λ r. Some (lines.Held link r));
}
line_reads_all (lines.Failed node ue cause) other h = record {
  word = codes "failed";
  rest = node_text node ∷ ue_text ue ∷ cause_text cause ∷ [];
  words_are = refl;
  no_event = refl;
  solid_word = refl;
  solid_rest = (solid-node node h.0, (solid-decimal ue.0 (omega (arith, h.1.to)), (cause_solid cause, tt)));
  tell = then_some (node_again node h.0) (λ n. opt_then (ue_of (ue_text ue)) (λ u. opt_then (cause_of (cause_text cause)) (λ c. Some (lines.Failed n u c))))
      ∙ then_some (ue_again ue h.1) (λ u. opt_then (cause_of (cause_text cause)) (λ c. Some (lines.Failed node u c)))
      ∙ then_some (cause_back cause) (λ c. Some (lines.Failed node ue c));
}
line_reads_all (lines.Quiet ue bearer downlink uplink) other h = record {
  word = codes "quiet";
  rest = ue_text ue ∷ bearer_text bearer ∷ decimal downlink ∷ decimal uplink ∷ [];
  words_are = refl;
  no_event = refl;
  solid_word = refl;
  solid_rest = (solid-decimal ue.0 (omega (arith, h.0.to)), (solid-decimal bearer.0 (omega (arith, h.1.to)), (solid-decimal downlink (omega (arith, h.2)), (solid-decimal uplink (omega (arith, h.3)), tt))));
  tell = then_some (ue_again ue h.0) (λ u. opt_then (bearer_of (bearer_text bearer)) (λ b. opt_then (count_of (decimal downlink)) (λ c. opt_then (count_of (decimal uplink)) (λ k. Some (lines.Quiet u b c k)))))
      ∙ then_some (bearer_again bearer h.1) (λ b. opt_then (count_of (decimal downlink)) (λ c. opt_then (count_of (decimal uplink)) (λ k. Some (lines.Quiet ue b c k))))
      ∙ then_some (count_of-decimal downlink (omega (arith, h.2))) (λ c. opt_then (count_of (decimal uplink)) (λ k. Some (lines.Quiet ue bearer c k)))
      ∙ then_some (count_of-decimal uplink (omega (arith, h.3))) (λ k. Some (lines.Quiet ue bearer downlink k));
}
line_reads_all (lines.Busy ue bearer) other h = record {
  word = codes "busy";
  rest = ue_text ue ∷ bearer_text bearer ∷ [];
  words_are = refl;
  no_event = refl;
  solid_word = refl;
  solid_rest = (solid-decimal ue.0 (omega (arith, h.0.to)), (solid-decimal bearer.0 (omega (arith, h.1.to)), tt));
  tell = then_some (ue_again ue h.0) (λ u. opt_then (bearer_of (bearer_text bearer)) (λ b. Some (lines.Busy u b)))
      ∙ then_some (bearer_again bearer h.1) (λ b. Some (lines.Busy ue b));
}
line_reads_all (lines.Settled rounds) other h = record {
  word = codes "settled";
  rest = decimal rounds ∷ [];
  words_are = refl;
  no_event = refl;
  solid_word = refl;
  solid_rest = (solid-decimal rounds (omega (arith, h)), tt);
  tell = then_some (count_of-decimal rounds (omega (arith, h))) (λ c. Some (lines.Settled c));
}
line_reads_all (lines.Unsettled rounds) other h = record {
  word = codes "unsettled";
  rest = decimal rounds ∷ [];
  words_are = refl;
  no_event = refl;
  solid_word = refl;
  solid_rest = (solid-decimal rounds (omega (arith, h)), tt);
  tell = then_some (count_of-decimal rounds (omega (arith, h))) (λ c. Some (lines.Unsettled c));
}
line_reads_all (lines.End events) other h = record {
  word = codes "end";
  rest = decimal events ∷ [];
  words_are = refl;
  no_event = refl;
  solid_word = refl;
  solid_rest = (solid-decimal events (omega (arith, h)), tt);
  tell = then_some (count_of-decimal events (omega (arith, h))) (λ c. Some (lines.End c));
}
line_reads_all (lines.Refused reason) other h = record {
  word = codes "refused";
  rest = refuse_text reason ∷ [];
  words_are = refl;
  no_event = refl;
  solid_word = refl;
  solid_rest = (refuse_solid reason, tt);
  tell = then_some (refuse_back reason) (λ r. Some (lines.Refused r));
}
line_reads_all (lines.Outstanding ue bearer dir span window) other h = record {
  word = codes "outstanding";
  rest = ue_text ue ∷ bearer_text bearer ∷ dir_text dir ∷ decimal span ∷ decimal window ∷ [];
  words_are = refl;
  no_event = refl;
  solid_word = refl;
  solid_rest = (solid-decimal ue.0 (omega (arith, h.0.to)), (solid-decimal bearer.0 (omega (arith, h.1.to)), (solid-dir dir, (solid-decimal span (omega (arith, h.2)), (solid-decimal window (omega (arith, h.3)), tt)))));
  tell = then_some (ue_again ue h.0) (λ u. opt_then (bearer_of (bearer_text bearer)) (λ b. opt_then (dir_of (dir_text dir)) (λ d. opt_then (count_of (decimal span)) (λ s. opt_then (count_of (decimal window)) (λ w. Some (lines.Outstanding u b d s w))))))
      ∙ then_some (bearer_again bearer h.1) (λ b. opt_then (dir_of (dir_text dir)) (λ d. opt_then (count_of (decimal span)) (λ s. opt_then (count_of (decimal window)) (λ w. Some (lines.Outstanding ue b d s w)))))
      ∙ then_some (dir_back dir) (λ d. opt_then (count_of (decimal span)) (λ s. opt_then (count_of (decimal window)) (λ w. Some (lines.Outstanding ue bearer d s w))))
      ∙ then_some (count_of-decimal span (omega (arith, h.2))) (λ s. opt_then (count_of (decimal window)) (λ w. Some (lines.Outstanding ue bearer dir s w)))
      ∙ then_some (count_of-decimal window (omega (arith, h.3))) (λ w. Some (lines.Outstanding ue bearer dir span w));
}
line_reads_all (lines.Stop code place reason) other h = record {
  word = codes "stop";
  rest = decimal code ∷ decimal place ∷ decimal reason ∷ [];
  words_are = refl;
  no_event = refl;
  solid_word = refl;
  solid_rest = (solid-decimal code (omega (arith, h.0)), (solid-decimal place (omega (arith, h.1)), (solid-decimal reason (omega (arith, h.2)), tt)));
  tell = then_some (count_of-decimal code (omega (arith, h.0))) (λ c. opt_then (count_of (decimal place)) (λ p. opt_then (count_of (decimal reason)) (λ r. Some (lines.Stop c p r))))
      ∙ then_some (count_of-decimal place (omega (arith, h.1))) (λ p. opt_then (count_of (decimal reason)) (λ r. Some (lines.Stop code p r)))
      ∙ then_some (count_of-decimal reason (omega (arith, h.2))) (λ r. Some (lines.Stop code place r));
}
line_reads_all (lines.Happens event) other h = absurd other

-- A line is read back from its text.
pub line_back : (line : OutLine) → IsLine line → line_of (line_text line) ≡ Some line
unfolding line_text line_of
line_back (lines.Happens event) h = ap (λ (r : Result Event TextReason). opt_then (result_ok r) (λ e. Some (lines.Happens e))) (event_of-event_text event h)
line_back line h = reads_back line (line_text line) (line_reads_all line tt h)

pub same_some : {X : Type 0} (o : Option X) (a b : X) → o ≡ Some a → o ≡ Some b → a ≡ b
same_some o a b p q = cc

-- No two lines have one text.
pub one_line : (a b : OutLine) → IsLine a → IsLine b → line_text a ≡ line_text b → a ≡ b
one_line a b h k e = same_some (line_of (line_text a)) a b (line_back a h) (ap line_of e ∙ line_back b k)
