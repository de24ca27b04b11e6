-- Contents with the other members of their object, and messages.
use Rattle.std.proofs.Common.{◌≡◌, ℕ, ◌+◌, List, [], ◌∷◌, ◌++◌, append_assoc, true, Option, Some, None, is_some, Result, Ok, Err, refl, sym, ap, subst, ◌∙◌}
use Rattle.serde_json.specs.Data.{Data, object, Members}
use Rattle.serde_json.specs.Find.{get_member, as_object}
use Rattle.serde_json.specs.View.{members_view}
use Rattle.asn1_syntax.specs.declared.assignments.assignment.Syntax.{Syntax}
use Rattle.asn1_defs.specs.Modules.{IsModule}
use Rattle.asn1_syntax.specs.declared.assignments.assignment.ProcedureRow.{ProcedureRow}
use Rattle.aper_defs.specs.Fields.{Path}
use Rattle.aper_defs.specs.Fields as ways
use Rattle.aper_defs.specs.Values as seen
use Rattle.aper_fields.specs.members.Rows.{message_type}
use Rattle.aper_values.specs.types.Types.{tree}
use Rattle.aper_values.specs.declared.value.Value.{Value}
use Rattle.aper_values.specs.Views.{view}
use Rattle.json_defs.specs.declared.fault.JsonFault.{JsonFault}
use Rattle.json_defs.specs.declared.fault.JsonFault.TheVariants.{Shape}
use Rattle.json_defs.specs.Named.{Named, pdu}
use Rattle.json_defs.specs.Members.{Text, has_member, member_of, or_null, are_keys_among, members_in, dots, value_key, criticality_key, criticality_in, outcomes}
use Rattle.json_defs.specs.Shown.{body_keys}
use Rattle.json_defs.specs.Readings.{or_else, first_of, past_in, past_raw_in, code_of, outcome_in, message_in, value_of, body_in}
use Rattle.json_defs.specs.Demands.{Demand, first_fault, shape, range, fits_open, past_demands, only_member, known_member, message_demands, demands, body_demands}
use Rattle.json_defs.specs.type_defs.Types.{named, procedures_with}
use Rattle.proof_json.proofs.modules.Members.{read_has}
use Rattle.json_fields.specs.declared.simple.refusal.Refusal.{Refusal}
use Rattle.json_fields.specs.simple.Answers.{Tells}
use Rattle.json_read.specs.declared.wholes.heads.BodyHead.{BodyHead}
use Rattle.json_read.specs.wholes.Heads.{body_head_demands, IsBodyHead}
use Rattle.json_read.specs.wholes.Reads.{ReadsAs, HasAsked}
use Rattle.json_read.proofs.wholes.Demanded.{NoneFails, both_faults, one_none, told_first, told_later, reads_later, reads_same}
use Rattle.json_read.specs.reading.Inside.{contents_demands, contents_read}
use Rattle.json_read.proofs.reading.Additions.{told_by, tells_told, some_told}
use Rattle.json_read.proofs.reading.Bodies.{body_asked, body_read}

-- ---- a value that was read is one of the type, also where more was demanded
front_none : (o p : Option (JsonFault × Path)) → first_of o p ≡ None → o ≡ None
front_none None p h = refl
front_none (Some x) p h = cc

pub has_passed : (m : Syntax) (id : ℕ) (d : Data) (more : Path → List Demand) (answer : Result Value Refusal) → IsModule m
    → ReadsAs (λ p. demands p (named m id) d ++ more p) (value_of (named m id) d) answer → HasAsked (tree m id) answer
has_passed m id d more (Ok v) is h =
    read_has m id d is (front_none (first_fault (demands [] (named m id) d)) (first_fault (more []))
    (sym (both_faults (demands [] (named m id) d) (more [])) ∙ h.0 [])) (view v) h.1
has_passed m id d more (Err refusal) is h = tt

pub has_put : (m : Syntax) (id : ℕ) (d : Data) (way : Path → Path) (more : Path → List Demand) (asked answer : Result Value Refusal) → IsModule m
    → ReadsAs (λ p. demands p (named m id) d) (value_of (named m id) d) asked
    → ((of : Path → List Demand) (v : seen.Value) → ReadsAs of v asked → ReadsAs (λ p. of (way p) ++ more p) v answer) → HasAsked (tree m id) answer
has_put m id d way more asked (Err refusal) is read put = tt
has_put m id d way more (Ok x) (Ok v) is read put =
    read_has m id d is (read.0 []) (view v) (put (λ p. demands p (named m id) d) (value_of (named m id) d) read).1
has_put m id d way more (Err refusal) (Ok v) is read put =
    absurd (some_told refusal (way []) (front_none (first_fault (told_by refusal (way []))) (first_fault (more []))
    (sym (both_faults (told_by refusal (way [])) (more [])) ∙ (put (told_by refusal) (value_of (named m id) d) (tells_told refusal)).0 [])))

-- ---- contents of a type
module _ (t : Named) (keys : List Text) (ms : Members) where
  abbrev pub contents_rest : Path → List Demand
  contents_rest p = demands p t (member_of value_key ms)
      ++ shape p (are_keys_among (value_key ∷ keys) ms) ∷ range p (fits_open p t (member_of value_key ms)) ∷ []

  pub contents_whole : (d : Data) (answer : Result Value Refusal) → Some d ≡ get_member value_key ms
      → ReadsAs (λ p. (demands p t d ++ shape p (are_keys_among (value_key ∷ keys) ms) ∷ []) ++ range p (fits_open p t d) ∷ []) (value_of t d) answer
      → ReadsAs (λ p. known_member p keys ms t (demands p t (member_of value_key ms))) (value_of t (member_of value_key ms)) answer
  contents_whole d answer there h =
      let same : member_of value_key ms ≡ d = ap or_null (sym there) in
      reads_later (λ v. view v ≡ value_of t (member_of value_key ms)) (λ p. shape p (has_member value_key ms) ∷ []) contents_rest answer
      (λ p. one_none p Shape (has_member value_key ms) (ap is_some (sym there)))
      (reads_same (value_of t (member_of value_key ms)) contents_rest
      (λ p. (demands p t d ++ shape p (are_keys_among (value_key ∷ keys) ms) ∷ []) ++ range p (fits_open p t d) ∷ []) (value_of t d) answer
      (λ p. ap (λ (e : Data). demands p t e ++ shape p (are_keys_among (value_key ∷ keys) ms) ∷ range p (fits_open p t e) ∷ []) same
      ∙ sym (append_assoc (demands p t d) (shape p (are_keys_among (value_key ∷ keys) ms) ∷ []) (range p (fits_open p t d) ∷ [])))
      (ap (value_of t) same) h)

-- ---- messages
module _ (of : ℕ → Named) (rows : List ProcedureRow) (ms : Members) where
  abbrev type : Named
  type = pdu (procedures_with of rows)

  abbrev asked : Path → Option (ℕ × Data) → List Demand
  asked p o = message_demands p (λ inside index code body. body_demands inside (procedures_with of rows) index code body) ms o

  abbrev read : Option (ℕ × Data) → seen.Value
  read o = message_in (λ index code body. body_in (procedures_with of rows) index code body) ms o

  whole : (o : Option (ℕ × Data)) (answer : Result Value Refusal) → o ≡ outcome_in outcomes 0 ms
      → ReadsAs (λ p. asked p o ++ only_member p ms) (read o) answer
      → ReadsAs (λ p. demands p type (object ms)) (value_of type (object ms)) answer
  unfolding demands value_of
  whole o answer is h =
      reads_later (λ v. view v ≡ read (outcome_in outcomes 0 ms)) (λ p. shape p true ∷ [])
      (λ p. asked p (outcome_in outcomes 0 ms) ++ only_member p ms) answer (λ p. refl)
      (subst (λ (x : Option (ℕ × Data)). ReadsAs (λ p. asked p x ++ only_member p ms) (read x) answer) is h)

  pub message_past : (answer : Result Value Refusal) → None ≡ outcome_in outcomes 0 ms
      → ReadsAs (λ p. shape p (has_member dots ms) ∷ (past_demands p 64 (member_of dots ms) ++ only_member p ms))
      (seen.message (3 + past_in (member_of dots ms)) 0 0 (past_raw_in (member_of dots ms))) answer
      → ReadsAs (λ p. demands p type (object ms)) (value_of type (object ms)) answer
  message_past answer is h = whole None answer is h

  module _ (index : ℕ) (d : Data) (is : Some (index, d) ≡ outcome_in outcomes 0 ms) where
    abbrev rest : Path → List Demand
    rest p = body_demands (ways.outcome index ∷ p) (procedures_with of rows) index (code_of (members_in (as_object d))) (members_in (as_object d))
        ++ only_member p ms

    pub head_told : (refusal : Refusal) → Tells (λ p. body_head_demands (ways.outcome index ∷ p) d) refusal
        → ReadsAs (λ p. demands p type (object ms)) (value_of type (object ms)) (Err refusal)
    head_told refusal told =
        whole (Some (index, d)) (Err refusal) is (told_first (λ p. body_head_demands (ways.outcome index ∷ p) d) rest refusal told)

    pub message_known : (head : BodyHead) (answer : Result Value Refusal) → IsBodyHead d head
        → NoneFails (λ p. body_head_demands (ways.outcome index ∷ p) d)
        → ReadsAs (λ p. contents_demands of (message_type index head.code rows) (ways.outcome index ∷ p) body_keys
        (members_view head.members.now.entries) ++ only_member p ms)
        (seen.message index head.code head.criticality (contents_read of (message_type index head.code rows) (members_view head.members.now.entries)))
        answer
        → ReadsAs (λ p. demands p type (object ms)) (value_of type (object ms)) answer
    message_known head answer head_is none h =
        let body : Members = members_view head.members.now.entries in
        let own : members_in (as_object d) ≡ body = ap (λ (e : Data). members_in (as_object e)) head_is.is in
        whole (Some (index, d)) answer is
        (reads_later (λ v. view v ≡ read (Some (index, d))) (λ p. body_head_demands (ways.outcome index ∷ p) d) rest answer none
        (reads_same (read (Some (index, d))) rest
        (λ p. contents_demands of (message_type index head.code rows) (ways.outcome index ∷ p) body_keys body ++ only_member p ms)
        (seen.message index head.code head.criticality (contents_read of (message_type index head.code rows) body)) answer
        (λ p. ap (λ (bs : Members). body_demands (ways.outcome index ∷ p) (procedures_with of rows) index (code_of bs) bs ++ only_member p ms) own
        ∙ ap (λ (n : ℕ). body_demands (ways.outcome index ∷ p) (procedures_with of rows) index n body ++ only_member p ms) (sym head_is.code)
        ∙ ap (λ (ds : List Demand). ds ++ only_member p ms) (body_asked of body rows index head.code (ways.outcome index ∷ p)))
        (ap (λ (bs : Members). seen.message index (code_of bs) (or_else 0 (criticality_in (member_of criticality_key bs)))
        (body_in (procedures_with of rows) index (code_of bs) bs)) own
        ∙ ap (λ (n : ℕ). seen.message index n (or_else 0 (criticality_in (member_of criticality_key body))) (body_in (procedures_with of rows) index n body))
        (sym head_is.code)
        ∙ ap (λ (n : ℕ). seen.message index head.code n (body_in (procedures_with of rows) index head.code body)) (ap (or_else 0) (sym head_is.criticality))
        ∙ ap (seen.message index head.code head.criticality) (body_read of body rows index head.code)) h))
