-- A message: its procedure, and what it holds.
use Rattle.std.proofs.Common.{◌≡◌, ℕ, suc, cond, ◌==◌, List, [], ◌∷◌, Option, Some, None, refl, ap, ◌∙◌}
use Rattle.serde_json.specs.Data.{Data, Members}
use Rattle.serde_json.specs.Find.{get_member}
use Rattle.aper_defs.specs.Fields.{Path}
use Rattle.aper_defs.specs.Fields as ways
use Rattle.aper_defs.specs.Values.{Value}
use Rattle.aper_defs.specs.Membership.{Either, HasBody, HasOutcome}
use Rattle.json_defs.specs.Named.{NamedProcedures, NamedOutcome, no_procedures, procedure, no_outcome, outcome, procedures_of, outcome_of}
use Rattle.json_defs.specs.Members.{Text, same_text, place_in, dots, outcomes}
use Rattle.json_defs.specs.Shown.{body_keys, ShowsBody, ShowsOutcome}
use Rattle.json_defs.specs.Readings.{first_of, numbered, outcome_in, body_in, told_in}
use Rattle.json_defs.specs.Demands.{body_demands, outcome_demands}
use Rattle.proof_json.proofs.values.Holding.{Holds, IsOutcomeLawful, AreProceduresLawful, by_cases}
use Rattle.proof_json.proofs.values.Words.{found, missed}
use Rattle.proof_json.proofs.choices.Places.{one}
use Rattle.proof_json.proofs.choices.Bodies.{raw_member_one, raw_member_forth, raw_member_back, known_one, known_forth, known_back}
use Rattle.proof_json.proofs.lawful.Lists.{one_by, forth_by, back_by}

-- ---- what a message holds
pub outcome_one : (o : NamedOutcome) → IsOutcomeLawful o → (ms : Members) (v : Value) → ShowsOutcome o ms v → v ≡ told_in o ms
unfolding ShowsOutcome told_in
outcome_one no_outcome l ms v h = raw_member_one body_keys ms v h
outcome_one (outcome t) l ms v h = known_one body_keys ms t l v h

pub outcome_forth : (p : Path) (index : ℕ) (o : NamedOutcome) → IsOutcomeLawful o → (ms : Members)
    → Holds (outcome_demands (ways.outcome index ∷ p) o ms)
    → ShowsOutcome o ms (told_in o ms) × HasOutcome p index (outcome_of o) (told_in o ms)
unfolding ShowsOutcome told_in outcome_demands HasOutcome outcome_of
outcome_forth p index no_outcome l ms h = raw_member_forth (ways.outcome index ∷ p) body_keys ms h
outcome_forth p index (outcome t) l ms h = known_forth (ways.outcome index ∷ p) body_keys ms t l h

pub outcome_back : (p : Path) (index : ℕ) (o : NamedOutcome) → IsOutcomeLawful o → (ms : Members) (v : Value) → ShowsOutcome o ms v
    → HasOutcome p index (outcome_of o) v → Holds (outcome_demands (ways.outcome index ∷ p) o ms)
unfolding ShowsOutcome outcome_demands HasOutcome outcome_of
outcome_back p index no_outcome l ms v h g = raw_member_back (ways.outcome index ∷ p) body_keys ms v h g
outcome_back p index (outcome t) l ms v h g = known_back (ways.outcome index ∷ p) body_keys ms t l v h g

pub body_one : (rows : NamedProcedures) → AreProceduresLawful rows → (ms : Members) (index code : ℕ) (v : Value)
    → ShowsBody rows ms index code v → v ≡ body_in rows index code ms
unfolding ShowsBody body_in
body_one no_procedures l ms index code v h = raw_member_one body_keys ms v h
body_one (procedure other initiating successful unsuccessful others) l ms index code v h =
    let Last = Either (index == 1) (ShowsOutcome successful ms v) (ShowsOutcome unsuccessful ms v) in
    let last = cond (index == 1) (told_in successful ms) (told_in unsuccessful ms) in
    one_by (other == code) (Either (index == 0) (ShowsOutcome initiating ms v) Last) (ShowsBody others ms index code v)
    v (cond (index == 0) (told_in initiating ms) last) (body_in others index code ms)
    (λ g. one_by (index == 0) (ShowsOutcome initiating ms v) Last v (told_in initiating ms) last (outcome_one initiating l.0 ms v)
    (λ k. one_by (index == 1) (ShowsOutcome successful ms v) (ShowsOutcome unsuccessful ms v)
    v (told_in successful ms) (told_in unsuccessful ms) (outcome_one successful l.1 ms v) (outcome_one unsuccessful l.2 ms v) k) g)
    (body_one others l.3 ms index code v) h

pub body_forth : (p : Path) (rows : NamedProcedures) → AreProceduresLawful rows → (ms : Members) (index code : ℕ)
    → Holds (body_demands (ways.outcome index ∷ p) rows index code ms)
    → ShowsBody rows ms index code (body_in rows index code ms) × HasBody p (procedures_of rows) index code (body_in rows index code ms)
unfolding ShowsBody body_in body_demands HasBody procedures_of
body_forth p no_procedures l ms index code h = raw_member_forth (ways.outcome index ∷ p) body_keys ms h
body_forth p (procedure other initiating successful unsuccessful others) l ms index code h =
    let q = ways.outcome index ∷ p in
    forth_by (other == code)
    (cond (index == 0) (outcome_demands q initiating ms)
    (cond (index == 1) (outcome_demands q successful ms) (outcome_demands q unsuccessful ms)))
    (body_demands q others index code ms)
    (cond (index == 0) (told_in initiating ms) (cond (index == 1) (told_in successful ms) (told_in unsuccessful ms)))
    (body_in others index code ms)
    (λ v. Either (index == 0) (ShowsOutcome initiating ms v)
    (Either (index == 1) (ShowsOutcome successful ms v) (ShowsOutcome unsuccessful ms v)))
    (λ v. ShowsBody others ms index code v)
    (λ v. Either (index == 0) (HasOutcome p index (outcome_of initiating) v)
    (Either (index == 1) (HasOutcome p index (outcome_of successful) v) (HasOutcome p index (outcome_of unsuccessful) v)))
    (λ v. HasBody p (procedures_of others) index code v)
    (λ g. forth_by (index == 0) (outcome_demands q initiating ms)
    (cond (index == 1) (outcome_demands q successful ms) (outcome_demands q unsuccessful ms))
    (told_in initiating ms) (cond (index == 1) (told_in successful ms) (told_in unsuccessful ms))
    (λ v. ShowsOutcome initiating ms v) (λ v. Either (index == 1) (ShowsOutcome successful ms v) (ShowsOutcome unsuccessful ms v))
    (λ v. HasOutcome p index (outcome_of initiating) v)
    (λ v. Either (index == 1) (HasOutcome p index (outcome_of successful) v) (HasOutcome p index (outcome_of unsuccessful) v))
    (outcome_forth p index initiating l.0 ms)
    (λ k. forth_by (index == 1) (outcome_demands q successful ms) (outcome_demands q unsuccessful ms)
    (told_in successful ms) (told_in unsuccessful ms)
    (λ v. ShowsOutcome successful ms v) (λ v. ShowsOutcome unsuccessful ms v)
    (λ v. HasOutcome p index (outcome_of successful) v) (λ v. HasOutcome p index (outcome_of unsuccessful) v)
    (outcome_forth p index successful l.1 ms) (outcome_forth p index unsuccessful l.2 ms) k) g)
    (body_forth p others l.3 ms index code) h

pub body_back : (p : Path) (rows : NamedProcedures) → AreProceduresLawful rows → (ms : Members) (index code : ℕ) (v : Value)
    → ShowsBody rows ms index code v → HasBody p (procedures_of rows) index code v
    → Holds (body_demands (ways.outcome index ∷ p) rows index code ms)
unfolding ShowsBody body_demands HasBody procedures_of
body_back p no_procedures l ms index code v h g = raw_member_back (ways.outcome index ∷ p) body_keys ms v h g
body_back p (procedure other initiating successful unsuccessful others) l ms index code v h g =
    let q = ways.outcome index ∷ p in
    let last = cond (index == 1) (outcome_demands q successful ms) (outcome_demands q unsuccessful ms) in
    let Last = Either (index == 1) (ShowsOutcome successful ms v) (ShowsOutcome unsuccessful ms v) in
    let HasLast = Either (index == 1) (HasOutcome p index (outcome_of successful) v) (HasOutcome p index (outcome_of unsuccessful) v) in
    back_by (other == code) (cond (index == 0) (outcome_demands q initiating ms) last) (body_demands q others index code ms)
    (Either (index == 0) (ShowsOutcome initiating ms v) Last) (ShowsBody others ms index code v)
    (Either (index == 0) (HasOutcome p index (outcome_of initiating) v) HasLast) (HasBody p (procedures_of others) index code v)
    (λ h2 g2. back_by (index == 0) (outcome_demands q initiating ms) last
    (ShowsOutcome initiating ms v) Last (HasOutcome p index (outcome_of initiating) v) HasLast
    (outcome_back p index initiating l.0 ms v)
    (λ h3 g3. back_by (index == 1) (outcome_demands q successful ms) (outcome_demands q unsuccessful ms)
    (ShowsOutcome successful ms v) (ShowsOutcome unsuccessful ms v)
    (HasOutcome p index (outcome_of successful) v) (HasOutcome p index (outcome_of unsuccessful) v)
    (outcome_back p index successful l.1 ms v) (outcome_back p index unsuccessful l.2 ms v) h3 g3) h2 g2)
    (body_back p others l.3 ms index code v) h g

-- ---- which outcome the one member is
pub outcome_found : (names : List Text) (key : Text) (e : Data) (first i : ℕ) → place_in names key first ≡ Some i
    → outcome_in names first (one key e) ≡ Some (i, e)
outcome_found [] key e first i h = cc
outcome_found (name ∷ names) key e first i h =
    by_cases (same_text name key) (λ b. cond b (Some first) (place_in names key (suc first)) ≡ Some i
    → first_of (numbered first (get_member name (one key e))) (outcome_in names (suc first) (one key e)) ≡ Some (i, e))
    (λ yes_it g. let at : first ≡ i = cc in
    ap (λ (o : Option Data). first_of (numbered first o) (outcome_in names (suc first) (one key e))) (found name key e yes_it)
    ∙ ap (λ (n : ℕ). Some (n, e)) at)
    (λ no_it g.
    ap (λ (o : Option Data). first_of (numbered first o) (outcome_in names (suc first) (one key e))) (missed name key e no_it)
    ∙ outcome_found names key e (suc first) i g) h

pub outcome_missed : (names : List Text) (key : Text) (e : Data) (first : ℕ) → place_in names key first ≡ None
    → outcome_in names first (one key e) ≡ None
outcome_missed [] key e first h = refl
outcome_missed (name ∷ names) key e first h =
    by_cases (same_text name key) (λ b. cond b (Some first) (place_in names key (suc first)) ≡ None
    → first_of (numbered first (get_member name (one key e))) (outcome_in names (suc first) (one key e)) ≡ None)
    (λ _ g. cc)
    (λ no_it g.
    ap (λ (o : Option Data). first_of (numbered first o) (outcome_in names (suc first) (one key e))) (missed name key e no_it)
    ∙ outcome_missed names key e (suc first) g) h

pub dots_no_outcome : (key : Text) → key ≡ dots → place_in outcomes key 0 ≡ None
dots_no_outcome key h = ap (λ (k : Text). place_in outcomes k 0) h
