-- The COUNTs of a sound transcript: each delivery shows how many there were before it.
use Rattle.std.proofs.Common.{◌≡◌, ℕ, ◌+◌, zero, suc, Bool, true, false, cond, List, [], ◌∷◌, ◌++◌, length, refl, ap, ◌∙◌, sym, arith}
use Rattle.std.specs.List.{flat_map, range_with_len}
use Rattle.std.specs.Cmp.{Equal-is}
use Rattle.std.proofs.lemmas.List.{append-nil, length-append}
use Rattle.std.proofs.lemmas.Grind.{flat_map-append}
use Rattle.gnb_types.specs.declared.keys.EntityKey.{EntityKey}
use Rattle.gnb_types.specs.Orders.{entity_cmp}
use Rattle.gnb_types.proofs.OrderLemmas.{entity_exact}
use Rattle.scenario_text.specs.declared.line.OutLine.TheVariants as lines
use Rattle.transcript_defs.specs.declared.line.TextLine.{TextLine}
use Rattle.transcript_defs.specs.declared.line.TextLine.TheVariants.{Printed}
use Rattle.transcript_defs.specs.declared.rule.Rule.TheVariants as rules
use Rattle.transcript_defs.specs.Past.{same_entity, delivered, delivery_at}
use Rattle.transcript_defs.specs.Rules.{Spelling, IsInOrder}
use Rattle.transcript_defs.specs.Sound.{AreSound}
use Rattle.run_defs.specs.Said.{counts_of}
use Rattle.law_transcripts.specs.OfRuns.{run_line, lines_of_run}

range_and : (u k : ℕ) → range_with_len u k ++ (u + k) ∷ [] ≡ range_with_len u (k + 1)
range_and u zero = let e : u + 0 ≡ u = omega arith in ap (λ (n : ℕ). n ∷ []) e
range_and u (suc k) =
    let e : u + suc k ≡ u + 1 + k = omega arith in
    let f : suc k + 1 ≡ suc (k + 1) = omega arith in
    ap (λ (ns : List ℕ). u ∷ ns) (ap (λ (n : ℕ). range_with_len (u + 1) k ++ n ∷ []) e ∙ range_and (u + 1) k) ∙ ap (range_with_len u) (sym f)

one_place : (k : ℕ) → range_with_len 0 k ++ k ∷ [] ≡ range_with_len 0 (k + 1)
one_place k = let e : k ≡ 0 + k = omega arith in ap (λ (n : ℕ). range_with_len 0 k ++ n ∷ []) e ∙ range_and 0 k

-- the COUNTs up to a list's length
abbrev places : List (List ℕ) → List ℕ
places packets = range_with_len 0 (length packets)

no_more : (key : EntityKey) (past : List TextLine) → places (delivered key past) ++ [] ≡ places (delivered key past ++ [])
no_more key past = append-nil (places (delivered key past)) ∙ ap places (sym (append-nil (delivered key past)))

one_more : (key other : EntityKey) (past : List TextLine) (count : ℕ) (packet : List ℕ) → count ≡ length (delivered other past)
    → places (delivered key past) ++ cond (same_entity key other) (count ∷ []) [] ≡ places (delivered key past ++ cond (same_entity key other) (packet ∷ []) [])
one_more key other past count packet order = by_test (same_entity key other) refl
  where
    by_test : (b : Bool) → same_entity key other ≡ b
        → places (delivered key past) ++ cond b (count ∷ []) [] ≡ places (delivered key past ++ cond b (packet ∷ []) [])
    by_test false e = no_more key past
    by_test true e =
        let same : key ≡ other = entity_exact key other ((Equal-is (entity_cmp key other)).0 e) in
        let next : count ≡ length (delivered key past) = order ∙ ap (λ (k : EntityKey). length (delivered k past)) (sym same) in
        ap (λ (n : ℕ). places (delivered key past) ++ n ∷ []) next ∙ one_place (length (delivered key past))
        ∙ ap (range_with_len 0) (sym (length-append (delivered key past) (packet ∷ [])))

by_line : (key : EntityKey) (line : TextLine) (past : List TextLine) → IsInOrder past line
    → places (delivered key past) ++ flat_map (counts_of key) (run_line line) ≡ places (delivered key past ++ delivery_at key line)
by_line key (Printed (lines.Deliver ue bearer dir count packet)) past order =
    ap (λ (ns : List ℕ). places (delivered key past) ++ ns) (append-nil (cond (same_entity key (record { ue = ue; bearer = bearer; dir = dir })) (count ∷ []) []))
    ∙ one_more key (record { ue = ue; bearer = bearer; dir = dir }) past count packet order
by_line key line past order = no_more key past

pub counts_in_order : (encode : Spelling) (key : EntityKey) (past : List TextLine) → AreSound encode past
    → flat_map (counts_of key) (lines_of_run past) ≡ range_with_len 0 (length (delivered key past))
unfolding delivered
counts_in_order encode key [] sound = refl
counts_in_order encode key (line ∷ past) sound =
    flat_map-append (counts_of key) (lines_of_run past) (run_line line)
    ∙ ap (λ (ns : List ℕ). ns ++ flat_map (counts_of key) (run_line line)) (counts_in_order encode key past sound.0)
    ∙ by_line key line past (sound.1 rules.Order)
