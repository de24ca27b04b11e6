-- What soundness gives: deliveries are a prefix of what was offered, and a quiet bearer has delivered all.
use Rattle.std.proofs.Common.{◌≡◌, ℕ, ◌+◌, Bool, true, false, cond, List, [], ◌∷◌, ◌++◌, Some, length, refl, ap, ◌∙◌, sym, subst, arith, append_assoc}
use Rattle.std.specs.Prelude.{slice_get}
use Rattle.std.proofs.lemmas.List.{append-nil, length-append}
use Rattle.std.proofs.lemmas.Grind.{flat_map-append}
use Rattle.std.specs.Cmp.{Equal-is}
use Rattle.gnb_types.specs.declared.keys.EntityKey.{EntityKey}
use Rattle.gnb_types.specs.declared.names.Dir.{Dir}
use Rattle.gnb_types.specs.declared.names.Dir.TheVariants.{Dl, Ul}
use Rattle.gnb_types.specs.declared.names.UeId.{UeId}
use Rattle.gnb_types.specs.declared.names.BearerId.{BearerId}
use Rattle.gnb_types.specs.Orders.{entity_cmp}
use Rattle.gnb_types.proofs.OrderLemmas.{entity_exact}
use Rattle.scenario_text.specs.declared.event.Event.{Event}
use Rattle.scenario_text.specs.declared.line.OutLine.TheVariants as lines
use Rattle.transcript_defs.specs.declared.line.TextLine.{TextLine}
use Rattle.transcript_defs.specs.declared.line.TextLine.TheVariants.{Printed}
use Rattle.transcript_defs.specs.declared.rule.Rule.TheVariants as rules
use Rattle.transcript_defs.specs.Past.{same_entity, accepted, accepted_at, offer_at, offered, delivered, delivery_at}
use Rattle.transcript_defs.specs.Rules.{Spelling, IsInOrder, ShowsCount}
use Rattle.transcript_defs.specs.Sound.{AreSound}

one_entity : (a b : EntityKey) → same_entity a b ≡ true → a ≡ b
one_entity a b same = entity_exact a b ((Equal-is (entity_cmp a b)).0 same)

-- what stands where the first list ends begins the second
begins_with : (front more : List (List ℕ)) (packet : List ℕ) → slice_get (front ++ more) (length front) ≡ Some packet
    → (rest : List (List ℕ)) × (more ≡ packet ∷ rest)
begins_with [] [] packet e = absurd (cc)
begins_with [] (x ∷ more) packet e = let same : x ≡ packet = cc in (more, ap (λ p. p ∷ more) same)
begins_with (y ∷ front) more packet e = begins_with front more packet e

-- front is a prefix of the list
abbrev pub HasPrefix : List (List ℕ) → List (List ℕ) → Type 0
HasPrefix list front = (more : List (List ℕ)) × (list ≡ front ++ more)

longer : (list front extra : List (List ℕ)) → HasPrefix list front → HasPrefix (list ++ extra) front
longer list front extra h = (h.0 ++ extra, ap (λ l. l ++ extra) h.1 ∙ append_assoc front h.0 extra)

-- one more packet is delivered, the next of the list
one_delivered : (list front : List (List ℕ)) (packet : List ℕ) → HasPrefix list front → slice_get list (length front) ≡ Some packet
    → HasPrefix list (front ++ packet ∷ [])
one_delivered list front packet h at =
    let next = begins_with front h.0 packet (subst (λ l. slice_get l (length front) ≡ Some packet) h.1 at) in
    (next.0, h.1 ∙ ap (λ m. front ++ m) next.1 ∙ sym (append_assoc front (packet ∷ []) next.0))

delivers_next : (key other : EntityKey) (events : List Event) (past : List TextLine) (count : ℕ) (packet : List ℕ)
    → HasPrefix (offered key events) (delivered key past) → slice_get (offered other events) count ≡ Some packet → count ≡ length (delivered other past)
    → HasPrefix (offered key events) (delivered key past ++ cond (same_entity key other) (packet ∷ []) [])
delivers_next key other events past count packet h at order = by_test (same_entity key other) refl
  where
    by_test : (b : Bool) → same_entity key other ≡ b → HasPrefix (offered key events) (delivered key past ++ cond b (packet ∷ []) [])
    by_test false e = subst (HasPrefix (offered key events)) (sym (append-nil (delivered key past))) h
    by_test true e =
        let same : other ≡ key = sym (one_entity key other e) in
        one_delivered (offered key events) (delivered key past) packet h
        (subst (λ k. slice_get (offered k events) (length (delivered k past)) ≡ Some packet) same (subst (λ n. slice_get (offered other events) n ≡ Some packet) order at))

more_offered : (key : EntityKey) (events more : List Event) → offered key (events ++ more) ≡ offered key events ++ offered key more
unfolding offered
more_offered key events more = flat_map-append (offer_at key) events more

-- a line that delivers nothing on the bearer
others : (key : EntityKey) (line next : TextLine) (past : List TextLine) → HasPrefix (offered key (accepted line past)) (delivered key past)
    → HasPrefix (offered key (accepted line past ++ accepted_at line next)) (delivered key past ++ [])
others key line next past h =
    subst (HasPrefix (offered key (accepted line past ++ accepted_at line next))) (sym (append-nil (delivered key past)))
    (subst (λ l. HasPrefix l (delivered key past)) (sym (more_offered key (accepted line past) (accepted_at line next)))
    (longer (offered key (accepted line past)) (delivered key past) (offered key (accepted_at line next)) h))

by_line : (encode : Spelling) (key : EntityKey) (next line : TextLine) (past : List TextLine) → ShowsCount past line → IsInOrder past line
    → HasPrefix (offered key (accepted line past)) (delivered key past)
    → HasPrefix (offered key (accepted line past ++ accepted_at line next)) (delivered key past ++ delivery_at key line)
by_line encode key next (Printed (lines.Deliver ue bearer dir count packet)) past counted order h =
    let line : TextLine = Printed (lines.Deliver ue bearer dir count packet) in
    subst (λ es. HasPrefix (offered key es) (delivered key past ++ delivery_at key line)) (sym (append-nil (accepted line past)))
    (delivers_next key (record { ue = ue; bearer = bearer; dir = dir }) (accepted line past) past count packet h counted order)
by_line encode key next line past counted order h = others key line next past h

-- What was delivered is a prefix of what was offered.
pub prefix : (encode : Spelling) (key : EntityKey) (next : TextLine) (past : List TextLine) → AreSound encode past
    → HasPrefix (offered key (accepted next past)) (delivered key past)
unfolding accepted delivered
prefix encode key next [] sound = (offered key [], refl)
prefix encode key next (line ∷ past) sound =
    by_line encode key next line past (sound.1 rules.Count) (sound.1 rules.Order) (prefix encode key line past sound.0)

all_of : (list front : List (List ℕ)) (number : ℕ) → HasPrefix list front → number ≡ length list → number ≡ length front → front ≡ list
all_of list front number (more, is) a b = ended more is (length-append front more)
  where
    ended : (rest : List (List ℕ)) → list ≡ front ++ rest → length (front ++ rest) ≡ length front + length rest → front ≡ list
    ended [] e l = sym (append-nil front) ∙ sym e
    ended (x ∷ rest) e l = absurd (let whole : length list ≡ length (front ++ x ∷ rest) = ap length e in omega (arith, a, b, l, whole))

-- A quiet bearer has delivered all.
pub quiet_has_all : (encode : Spelling) (past : List TextLine) (ue : UeId) (bearer : BearerId) (downlink uplink : ℕ)
    → AreSound encode (Printed (lines.Quiet ue bearer downlink uplink) ∷ past)
    → (dir : Dir) → delivered (record { ue = ue; bearer = bearer; dir = dir }) past
    ≡ offered (record { ue = ue; bearer = bearer; dir = dir }) (accepted (Printed (lines.Quiet ue bearer downlink uplink)) past)
quiet_has_all encode past ue bearer downlink uplink sound Dl =
    let key : EntityKey = record { ue = ue; bearer = bearer; dir = Dl } in
    let order = sound.1 rules.Order in
    all_of (offered key (accepted (Printed (lines.Quiet ue bearer downlink uplink)) past)) (delivered key past) downlink
    (prefix encode key (Printed (lines.Quiet ue bearer downlink uplink)) past sound.0) order.0.0 order.0.1
quiet_has_all encode past ue bearer downlink uplink sound Ul =
    let key : EntityKey = record { ue = ue; bearer = bearer; dir = Ul } in
    let order = sound.1 rules.Order in
    all_of (offered key (accepted (Printed (lines.Quiet ue bearer downlink uplink)) past)) (delivered key past) uplink
    (prefix encode key (Printed (lines.Quiet ue bearer downlink uplink)) past sound.0) order.1.0 order.1.1
