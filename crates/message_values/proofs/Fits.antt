-- Values of the profile's types fit the fields that code has for them.
use Rattle.std.proofs.Common.{◌≡◌, ℕ, zero, suc, ◌+◌, ◌<◌, ◌≤◌, ◌^◌, ◌==◌, ◌∷◌, [], List, Bool, true, false, cond, refl, sym, subst, ap, ◌∙◌, arith}
use Rattle.std.specs.Prelude.{codes, pos, negsuc, nat_lt, nat_le, ◌&&◌, ◌||◌}
use Rattle.std.specs.List.{All}
use Rattle.std.proofs.lemmas.List.Elements.{All-nil, All-cons}
use Rattle.aper_defs.specs.Trees.{Tree, Slot, integer, slots, slots_left}
use Rattle.aper_defs.specs.Values.{Value, Values, Ies, truth, number, enumeral, bits, octets, text, components, chosen, list, elements, message, raw, no_values, value, no_options, absent, present, no_ies, ie}
use Rattle.aper_defs.specs.Fields.{Path}
use Rattle.aper_defs.specs.Fields as fields
use Rattle.aper_defs.specs.Membership.{Has, HasComponents, HasRow, HasBody, HasOutcome, EachFrom, AreElements, Either, FitsOpen, IsRaw, is_number_of}
use Rattle.aper_defs.specs.Layouts.{layout}
use Rattle.proof_aper.proofs.answers.NumberFacts.{at_most, second_of_both, same, by_cases}
use Rattle.message_defs.specs.profile_defs.Forms.{ProcedureRows, some_form, procedure, tree, parts, rows, procedures, outcome_tree}
use Rattle.message_defs.specs.profile_defs.BaseTypes as types
use Rattle.message_defs.specs.profile_defs.Compounds as compounds
use Rattle.message_defs.specs.profile_defs.Tables.{Use, Message, message_form, element_rows, procedure_rows, outcome_at, is_at, initiating, successful, unsuccessful, pdu_form}
use Rattle.message_defs.specs.Fields.{to_number, to_peer, to_tunnel, to_tunnels, to_status, to_statuses, to_each}
use Rattle.message_defs.specs.Places.{elements_in}
use Rattle.proof_messages.proofs.message_elements.Matched.{are_its}
use Rattle.message_values.specs.Fitting.{IsFitting, AreFitting, IsTunnel, IsStatus, limit_of}

differ : (let b : Bool = false in b) ≡ true → ⊥
differ h = cc

or_false : (b : Bool) → (b || false) ≡ true → b ≡ true
or_false true h = refl
or_false false h = cc

some : (a b : Bool) → 0 < cond a (2 ^ 8) (cond b (2 ^ 16) (2 ^ 32))
some true b = omega arith
some false true = omega arith
some false false = omega arith

pub limit_some : (id : ℕ) → 0 < limit_of id
limit_some id = some (id == 1 || (id == 4 || id == 19)) (id == 10)

-- ---- numbers
small : (high n low : ℕ) → is_number_of (pos low) (pos high) false (pos n) ≡ true → n ≤ high
small high n low h = at_most n high (second_of_both (nat_le low n) (nat_le n high) (or_false (nat_le low n && nat_le n high) h))

module _ (p : Path) where
  number_small : (low high : ℕ) (v : Value) → Has p (integer (pos low) (pos high) false) v → to_number v ≤ high
  unfolding Has
  number_small low high (number (pos n)) h = small high n low h
  number_small low high (number (negsuc n)) h = absurd (differ h)
  number_small low high v h = absurd h

number_fits : (id n : ℕ) → n < limit_of id → IsFitting id (number (pos n))
number_fits id n h = record { number = h; peer = omega arith; tunnels = All-nil IsTunnel; statuses = All-nil IsStatus }

pub integer_fits : (id low high : ℕ) → high < limit_of id → (p : Path) (v : Value) → Has p (integer (pos low) (pos high) false) v → IsFitting id v
unfolding Has
integer_fits id low high k p (number (pos n)) h = number_fits id n (let g : n ≤ high = small high n low h in omega arith)
integer_fits id low high k p (number (negsuc n)) h = absurd (differ h)
integer_fits id low high k p v h = absurd h

-- ---- what is no number
pub raw_fits : (id : ℕ) (os : List ℕ) → IsFitting id (raw os)
raw_fits id os = record { number = limit_some id; peer = omega arith; tunnels = All-nil IsTunnel; statuses = All-nil IsStatus }

pub flag_fits : (id : ℕ) (p : Path) (v : Value) → Has p (tree types.flag) v → IsFitting id v
unfolding tree Has
flag_fits id p (truth b) h = record { number = limit_some id; peer = omega arith; tunnels = All-nil IsTunnel; statuses = All-nil IsStatus }
flag_fits id p v h = absurd h

index_fits : (id i : ℕ) → IsFitting id (enumeral i)
index_fits id i = record { number = limit_some id; peer = omega arith; tunnels = All-nil IsTunnel; statuses = All-nil IsStatus }

pub sn_fits : (id : ℕ) (p : Path) (v : Value) → Has p (tree types.sn_bits) v → IsFitting id v
unfolding tree Has
sn_fits id p (enumeral i) h = index_fits id i
sn_fits id p v h = absurd h

pub cause_fits : (id : ℕ) (p : Path) (v : Value) → Has p (tree types.cause) v → IsFitting id v
unfolding tree Has
cause_fits id p (enumeral i) h = index_fits id i
cause_fits id p v h = absurd h

pub mode_fits : (id : ℕ) (p : Path) (v : Value) → Has p (tree types.mode) v → IsFitting id v
unfolding tree Has
mode_fits id p (enumeral i) h = index_fits id i
mode_fits id p v h = absurd h

pub container_fits : (id : ℕ) (p : Path) (v : Value) → Has p (tree types.container) v → IsFitting id v
unfolding tree Has
container_fits id p (octets os) h = record { number = limit_some id; peer = omega arith; tunnels = All-nil IsTunnel; statuses = All-nil IsStatus }
container_fits id p v h = absurd h

pub name_fits : (id : ℕ) (p : Path) (v : Value) → Has p (tree types.name) v → IsFitting id v
unfolding tree Has
name_fits id p (text cs) h = record { number = limit_some id; peer = omega arith; tunnels = All-nil IsTunnel; statuses = All-nil IsStatus }
name_fits id p v h = absurd h

-- ---- a CU-UP
pub peer_fits : (id : ℕ) (p : Path) (v : Value) → Has p (tree compounds.peer) v → IsFitting id v
unfolding tree parts Has HasComponents
peer_fits id p (components (present g (present u vs)) more) h =
    let up : to_number u ≤ 2 = number_small (fields.component (codes "up") ∷ p) 1 2 u h.0.1.0 in
    record { number = limit_some id; peer = omega arith; tunnels = All-nil IsTunnel; statuses = All-nil IsStatus }
peer_fits id p (components no_options more) h = absurd h.0
peer_fits id p (components (absent vs) more) h = absurd (differ h.0.0)
peer_fits id p (components (present g no_options) more) h = absurd h.0.1
peer_fits id p (components (present g (absent vs)) more) h = absurd (differ h.0.1.0)
peer_fits id p v h = absurd h

-- ---- tunnels and statuses
tunnel_fits : (p : Path) (v : Value) → Has p (tree compounds.tunnel) v → IsTunnel (to_tunnel v) × IsStatus (to_status v)
unfolding tree parts Has HasComponents
tunnel_fits p (components (present b (present t no_options)) more) h =
    let bearer : to_number b ≤ 8 = number_small (fields.component (codes "bearer") ∷ p) 1 8 b h.0.0 in
    let teid : to_number t ≤ 4294967295 = number_small (fields.component (codes "teid") ∷ p) 0 4294967295 t h.0.1.0 in
    (record { bearer = omega arith; teid = omega arith }, record { bearer = omega arith; dl_next = omega arith; ul_first = omega arith })
tunnel_fits p (components no_options more) h = absurd h.0
tunnel_fits p (components (absent vs) more) h = absurd (differ h.0.0)
tunnel_fits p (components (present b no_options) more) h = absurd h.0.1
tunnel_fits p (components (present b (absent vs)) more) h = absurd (differ h.0.1.0)
tunnel_fits p (components (present b (present t (absent vs))) more) h = absurd h.0.1.1
tunnel_fits p (components (present b (present t (present v vs))) more) h = absurd h.0.1.1
tunnel_fits p v h = absurd h

status_fits : (p : Path) (v : Value) → Has p (tree compounds.status) v → IsTunnel (to_tunnel v) × IsStatus (to_status v)
unfolding tree parts Has HasComponents
status_fits p (components (present b (present d (present u vs))) more) h =
    let bearer : to_number b ≤ 8 = number_small (fields.component (codes "bearer") ∷ p) 1 8 b h.0.0 in
    let next : to_number d ≤ 4294967295 = number_small (fields.component (codes "dlNext") ∷ p) 0 4294967295 d h.0.1.0 in
    let first : to_number u ≤ 4294967295 = number_small (fields.component (codes "ulFirst") ∷ p) 0 4294967295 u h.0.1.1.0 in
    (record { bearer = omega arith; teid = omega arith }, record { bearer = omega arith; dl_next = omega arith; ul_first = omega arith })
status_fits p (components no_options more) h = absurd h.0
status_fits p (components (absent vs) more) h = absurd (differ h.0.0)
status_fits p (components (present b no_options) more) h = absurd h.0.1
status_fits p (components (present b (absent vs)) more) h = absurd (differ h.0.1.0)
status_fits p (components (present b (present d no_options)) more) h = absurd h.0.1.1
status_fits p (components (present b (present d (absent vs))) more) h = absurd (differ h.0.1.1.0)
status_fits p v h = absurd h

each_tunnel : (p : Path) (t : Tree) → ((q : Path) (v : Value) → Has q t v → IsTunnel (to_tunnel v) × IsStatus (to_status v))
    → (i : ℕ) (vs : Values) → EachFrom (λ i v. Has (fields.member i ∷ p) t v) i vs → All IsTunnel (to_each to_tunnel vs)
each_tunnel p t one i no_values h = All-nil IsTunnel
each_tunnel p t one i (value v vs) h =
    All-cons IsTunnel (to_tunnel v) (to_each to_tunnel vs) (one (fields.member i ∷ p) v h.0).0 (each_tunnel p t one (suc i) vs h.1)

each_status : (p : Path) (t : Tree) → ((q : Path) (v : Value) → Has q t v → IsTunnel (to_tunnel v) × IsStatus (to_status v))
    → (i : ℕ) (vs : Values) → EachFrom (λ i v. Has (fields.member i ∷ p) t v) i vs → All IsStatus (to_each to_status vs)
each_status p t one i no_values h = All-nil IsStatus
each_status p t one i (value v vs) h =
    All-cons IsStatus (to_status v) (to_each to_status vs) (one (fields.member i ∷ p) v h.0).1 (each_status p t one (suc i) vs h.1)

pub tunnels_fit : (id : ℕ) (p : Path) (v : Value) → Has p (tree compounds.tunnels) v → IsFitting id v
unfolding tree Has
tunnels_fit id p (list vs) h = record {
  number = limit_some id;
  peer = omega arith;
  tunnels = each_tunnel p (tree compounds.tunnel) tunnel_fits 0 vs h.1;
  statuses = each_status p (tree compounds.tunnel) tunnel_fits 0 vs h.1;
}
tunnels_fit id p v h = absurd h

pub statuses_fit : (id : ℕ) (p : Path) (v : Value) → Has p (tree compounds.statuses) v → IsFitting id v
unfolding tree Has
statuses_fit id p (list vs) h = record {
  number = limit_some id;
  peer = omega arith;
  tunnels = each_tunnel p (tree compounds.status) status_fits 0 vs h.1;
  statuses = each_status p (tree compounds.status) status_fits 0 vs h.1;
}
statuses_fit id p v h = absurd h

-- ---- the elements of a message, each of which fits
pub data Fit : List Use → Type 0 where
  none : Fit []
  one : {u : Use} {us : List Use} → ((p : Path) (v : Value) → Has p (tree u.element.form) v → IsFitting u.element.id v) → Fit us → Fit (u ∷ us)

unknown_fits : (id : ℕ) (v : Value) → IsRaw v → IsFitting id v
unknown_fits id (raw os) h = raw_fits id os
unknown_fits id v h = absurd h

row_fits : (p : Path) (us : List Use) → Fit us → (id : ℕ) (v : Value) → HasRow p (rows (element_rows us)) id v → IsFitting id v
unfolding rows HasRow
row_fits p [] none id v h = unknown_fits id v h
row_fits p (u ∷ us) (one fits others) id v h =
    by _ (u.element.id == id) refl h (λ g. row_fits p us others id v g)
  where
    by : (A : Type 0) (b : Bool) → (u.element.id == id) ≡ b → Either b (Has (fields.element id ∷ p) (tree u.element.form) v × A) (HasRow p (rows (element_rows us)) id v)
        → (HasRow p (rows (element_rows us)) id v → IsFitting id v) → IsFitting id v
    by A true is h later = subst (λ n. IsFitting n v) (same u.element.id id is) (fits (fields.element id ∷ p) v h.0)
    by A false is h later = later h

all_fit : (known : List Slot) (P : ℕ → Value → Type 0) → ((id : ℕ) (v : Value) → P id v → IsFitting id v) → (left : List Slot) (ies : Ies)
    → AreElements known P left ies → AreFitting ies
all_fit known P each left no_ies h = tt
all_fit known P each left (ie id criticality v others) h =
    (each id v h.2, all_fit known P each (slots_left known id left) others h.4)

pub data AllFit : List Message → Type 0 where
  no_more : AllFit []
  also : {m : Message} {ms : List Message} → Fit m.elements → AllFit ms → AllFit (m ∷ ms)

nothing_in : (v : Value) → IsRaw v → AreFitting (elements_in v)
nothing_in (raw os) h = tt
nothing_in v h = absurd h

message_fits : (q : Path) (m : Message) → Fit m.elements → (v : Value) → Has q (tree (message_form m)) v → AreFitting (elements_in v)
unfolding tree parts
message_fits q m fit v h =
    all_fit (slots (rows (element_rows m.elements))) (λ id w. HasRow (fields.component (codes "protocolIEs") ∷ q) (rows (element_rows m.elements)) id w)
    (row_fits (fields.component (codes "protocolIEs") ∷ q) m.elements fit) (slots (rows (element_rows m.elements))) (elements_in v)
    (are_its q m.elements (parts m.additions) v h)

outcome_fits : (p : Path) (n code index : ℕ) (ms : List Message) → AllFit ms → (v : Value)
    → HasOutcome p n (outcome_tree (outcome_at code index ms)) v → AreFitting (elements_in v)
unfolding outcome_tree HasOutcome
outcome_fits p n code index [] no_more v h = nothing_in v h
outcome_fits p n code index (m ∷ ms) (also fit others) v h =
    by_cases (is_at code index m)
    (λ b. HasOutcome p n (outcome_tree (cond b (some_form (message_form m)) (outcome_at code index ms))) v → AreFitting (elements_in v))
    (λ _ g. message_fits (fields.outcome n ∷ p) m fit v g.0)
    (λ _ g. outcome_fits p n code index ms others v g) h

row_of : List Message → Message → ProcedureRows → ProcedureRows
row_of all m others =
    procedure m.code (message_form m) (outcome_at m.code successful all) (outcome_at m.code unsuccessful all) others

body_fits : (p : Path) (all : List Message) → AllFit all → (ms : List Message) → AllFit ms → (index code : ℕ) (v : Value)
    → HasBody p (procedures (procedure_rows all ms)) index code v → AreFitting (elements_in v)
unfolding procedures outcome_tree HasBody HasOutcome row_of
body_fits p all fits [] no_more index code v h = nothing_in v h
body_fits p all fits (m ∷ ms) (also fit others) index code v h =
    let rest : ProcedureRows = procedure_rows all ms in
    let later : HasBody p (procedures rest) index code v → AreFitting (elements_in v) = body_fits p all fits ms others index code v in
    by_cases (m.outcome == initiating)
    (λ b. HasBody p (procedures (cond b (row_of all m rest) rest)) index code v → AreFitting (elements_in v))
    (λ _ g. by_cases (m.code == code)
    (λ b. Either b (Either (index == 0) (Has (fields.outcome index ∷ p) (tree (message_form m)) v × FitsOpen (fields.outcome index ∷ p) (layout (fields.outcome index ∷ p) (tree (message_form m)) v))
    (Either (index == 1) (HasOutcome p index (outcome_tree (outcome_at m.code successful all)) v)
    (HasOutcome p index (outcome_tree (outcome_at m.code unsuccessful all)) v))) (HasBody p (procedures rest) index code v) → AreFitting (elements_in v))
    (λ _ k. by_cases (index == 0)
    (λ b. Either b (Has (fields.outcome index ∷ p) (tree (message_form m)) v × FitsOpen (fields.outcome index ∷ p) (layout (fields.outcome index ∷ p) (tree (message_form m)) v))
    (Either (index == 1) (HasOutcome p index (outcome_tree (outcome_at m.code successful all)) v)
    (HasOutcome p index (outcome_tree (outcome_at m.code unsuccessful all)) v)) → AreFitting (elements_in v))
    (λ _ x. message_fits (fields.outcome index ∷ p) m fit v x.0)
    (λ _ x. by_cases (index == 1)
    (λ b. Either b (HasOutcome p index (outcome_tree (outcome_at m.code successful all)) v)
    (HasOutcome p index (outcome_tree (outcome_at m.code unsuccessful all)) v) → AreFitting (elements_in v))
    (λ _ y. outcome_fits p index m.code successful all fits v y)
    (λ _ y. outcome_fits p index m.code unsuccessful all fits v y) x) k)
    (λ _ k. later k) g)
    (λ _ g. later g) h

pub pdu_fits : (name : List ℕ) (ms : List Message) → AllFit ms → (index code criticality : ℕ) (body : Value)
    → Has [] (tree (pdu_form name ms)) (message index code criticality body) → AreFitting (elements_in body)
unfolding tree Has
pdu_fits name ms fits index code criticality body h =
    by_cases (nat_lt index 3)
    (λ b. Either b ((code < 256) × (criticality ≤ 2) × HasBody [] (procedures (procedure_rows ms ms)) index code body)
    ((index < 67) × (code ≡ 0) × (criticality ≡ 0) × IsRaw body) → AreFitting (elements_in body))
    (λ _ g. body_fits [] ms fits ms fits index code body g.2)
    (λ _ g. nothing_in body g.3) h

-- ---- the elements of the profile
pub ue_one : (p : Path) (v : Value) → Has p (tree types.ue) v → IsFitting 1 v
unfolding tree
ue_one = integer_fits 1 1 16 (omega arith)

pub instance_one : (p : Path) (v : Value) → Has p (tree types.word) v → IsFitting 2 v
unfolding tree
instance_one = integer_fits 2 0 4294967295 (omega arith)

pub epoch_one : (p : Path) (v : Value) → Has p (tree types.word) v → IsFitting 3 v
unfolding tree
epoch_one = integer_fits 3 0 4294967295 (omega arith)

pub bearers_one : (p : Path) (v : Value) → Has p (tree types.bearer) v → IsFitting 4 v
unfolding tree
bearers_one = integer_fits 4 1 8 (omega arith)

pub quota_one : (p : Path) (v : Value) → Has p (tree types.quota) v → IsFitting 10 v
unfolding tree
quota_one = integer_fits 10 4 4096 (omega arith)

pub du_one : (p : Path) (v : Value) → Has p (tree types.unit) v → IsFitting 19 v
unfolding tree
du_one = integer_fits 19 1 2 (omega arith)
