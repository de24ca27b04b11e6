-- What is numbered, one packet after another.
use Rattle.std.proofs.Common.{◌≡◌, ℕ, ◌<◌, Bool, true, false, cond, not, nat_lt, List, [], ◌∷◌, ◌++◌, length, Option, Some, None, Ok, Err, refl, sym, ap, ◌∙◌, subst, arith}
use Rattle.gnb_types.specs.declared.names.SnBits.{SnBits}
use Rattle.pdcp.specs.Near.{last_count}
use Rattle.pdcp_defs.specs.Senders.{Sender, has_room, numbered}
use Rattle.dup_defs.specs.declared.types.leg.Mode.{Mode}
use Rattle.dup_defs.specs.Senders.{DupSender, DupPut, DupNumbers, gives, spends, puts_first, puts_of, number_each, number_waiting, offered, puts_on, is_up, with_leg, leg_is, brings_up, confirmed, confirmed_at, mode_is, enters, with_mode}
use Rattle.std.specs.List.{AllByRecursion}
use Rattle.pdcp_defs.specs.Counts.{count_below}
use Rattle.pdcp_entities.specs.Entities.{confirmed_number, confirmed_if}
use Rattle.dup_defs.specs.declared.types.leg.Leg.{Leg}
use Rattle.dup_defs.specs.declared.types.leg.Leg.TheVariants as legs
use Rattle.unit_messages.specs.declared.steps.StepError.{StepError}
use Rattle.unit_messages.specs.declared.steps.StepError.TheVariants as steps
use Rattle.pdcp_bearers.specs.declared.ue_bearers.sender.Counted.{Counted}
use Rattle.pdcp_bearers.specs.ue_bearers.Senders.{SenderState, Numbering, numbers, stays, ends, numbering, numbering_of, IsCounting}
use Rattle.std.specs.Prelude.{Result}
use Rattle.dup_defs.specs.declared.types.put.Put.{Put}
use Rattle.dup_bearer.specs.declared.dup_pdcp.ending.DupEnding.{DupEnding}
use Rattle.dup_bearer.specs.dup_pdcp.Entity.{DupTxState, IsPut, puts_of_code}
use Rattle.dup_bearer.specs.dup_pdcp.inside.Views.{Marks, sender_state, tx_state, with_entity, IsGiven, IsNumbered, PutsMore, counted_of}
use Rattle.dup_bearer.proofs.dup_pdcp.PutLemmas.{from_none}

abbrev pub uplink : SnBits → ℕ → Sender (List ℕ) → List (List ℕ) → SenderState
uplink sn quota sender waiting = record { sn = sn; quota = quota; sender = sender; waiting = waiting }

-- ---- one packet

module _ (m : Marks) where
  abbrev state : SenderState → DupSender
  state u = sender_state u m

  abbrev rest : SnBits → ℕ → SenderState → DupNumbers
  rest sn quota u = number_waiting sn quota (state u)

  -- what numbering comes to, by what the uplink gives
  abbrev Given : DupNumbers → SnBits → ℕ → SenderState → Numbering → Type 0
  Given d sn quota u (numbers count packet after) = d ≡ puts_first (puts_of (state after) ((count, packet) ∷ [])) (rest sn quota after)
  Given d sn quota u stays = d ≡ gives [] (state u)
  Given d sn quota u ends = d ≡ spends

  abbrev pub Turn : SnBits → ℕ → SenderState → Numbering → Type 0
  Turn sn quota u n = Given (rest sn quota u) sn quota u n

  turn : (sn : SnBits) (quota : ℕ) (sender : Sender (List ℕ)) (waiting : List (List ℕ))
      → Turn sn quota (uplink sn quota sender waiting) (numbering_of (uplink sn quota sender waiting) waiting)
  unfolding number_waiting
  turn sn quota sender [] = refl
  turn sn quota sender (packet ∷ packets) = by (has_room sn quota sender) (nat_lt last_count sender.next)
    where
      by : (r l : Bool)
          → Given
          (cond (not r) (gives [] (state (uplink sn quota sender (packet ∷ packets))))
          (cond l spends
          (puts_first (puts_of (state (uplink sn quota sender (packet ∷ packets))) ((sender.next, packet) ∷ []))
          (number_each sn quota packets (state (uplink sn quota (numbered sender packet) packets))))))
          sn quota (uplink sn quota sender (packet ∷ packets))
          (cond (not r) stays (cond l ends (numbers sender.next packet (uplink sn quota (numbered sender packet) packets))))
      by true true = refl
      by true false = refl
      by false l = refl

  pub turn_of : (u : SenderState) (n : Numbering) → numbering u ≡ n → Turn u.sn u.quota u n
  turn_of u n is = subst (λ (m : Numbering). Turn u.sn u.quota u m) is (turn u.sn u.quota u.sender u.waiting)

-- ---- what is left of the uplink

numbers_in : (d : SenderState) (w : List (List ℕ)) (after : SenderState) (count : ℕ) (packet : List ℕ) → numbering_of d w ≡ numbers count packet after
    → (after.sn ≡ d.sn) × (after.quota ≡ d.quota) × (length after.waiting < length w)
numbers_in d [] after count packet is = cc
numbers_in d (x ∷ xs) after count packet is = by (has_room d.sn d.quota d.sender) (nat_lt last_count d.sender.next) is
  where
    by : (r l : Bool)
        → cond (not r) stays (cond l ends (numbers d.sender.next x (uplink d.sn d.quota (numbered d.sender x) xs))) ≡ numbers count packet after
        → (after.sn ≡ d.sn) × (after.quota ≡ d.quota) × (length after.waiting < length (x ∷ xs))
    by true true is = cc
    by true false is =
        let same : uplink d.sn d.quota (numbered d.sender x) xs ≡ after = cc in
        let fewer : length xs ≡ length after.waiting = ap (λ (a : SenderState). length a.waiting) same in
        (sym (ap (λ (a : SenderState). a.sn) same), sym (ap (λ (a : SenderState). a.quota) same), omega (arith, fewer))
    by false l is = cc

pub numbers_keeps : (d after : SenderState) (count : ℕ) (packet : List ℕ) → numbering d ≡ numbers count packet after
    → (after.sn ≡ d.sn) × (after.quota ≡ d.quota) × (length after.waiting < length d.waiting)
numbers_keeps d after count packet is = numbers_in d d.waiting after count packet is

-- ---- a packet that is numbered

module _ (n : SnBits) (most : ℕ) (m : Marks) (ended : Option DupEnding) where
  abbrev tx : SenderState → DupTxState
  tx u = tx_state n most u m ended

  -- what numbering comes to for the entity's own numbers and quota
  turn_is : (u : SenderState) (k : Numbering) → u.sn ≡ n → u.quota ≡ most → numbering u ≡ k → Turn m n most u k
  turn_is u k sn_is quota_is is =
      subst (λ (q : ℕ). Turn m n q u k) quota_is (subst (λ (b : SnBits). Turn m b u.quota u k) sn_is (turn_of m u k is))

  pub numbered_as : (u v : SenderState) (r : Result (Option Counted) StepError) → u.sn ≡ n → u.quota ≡ most → IsCounting (numbering u) u v r
      → IsNumbered (tx u) (tx v) (counted_of r)
  numbered_as u v (Ok (Some d)) sn_is quota_is is =
      (turn_is u (numbers d.count d.packet v) sn_is quota_is is.0, refl, is.1, (numbers_keeps u v d.count d.packet is.0).2)
  numbered_as u v (Ok None) sn_is quota_is is = (turn_is u stays sn_is quota_is is.0, ap tx is.1)
  numbered_as u v (Err (steps.Spent counter)) sn_is quota_is is = turn_is u ends sn_is quota_is is.0
  numbered_as u v (Err steps.Memory) sn_is quota_is is = absurd is

-- ---- what inner calls give

pub given_none : (d : DupNumbers) (old new : DupTxState) (after : DupSender) (puts : List Put) → d ≡ gives [] after → puts ≡ [] → new ≡ with_entity old after
    → IsGiven d old new (Ok puts)
given_none d old new after puts is none new_is =
    let entity_is = ap (λ (v : DupTxState). v.entity) new_is in (
      is ∙ (ap (λ (ps : List Put). gives (puts_of_code old.sn ps) after) (sym none) ∙ ap (λ (e : DupSender). gives (puts_of_code old.sn puts) e) (sym entity_is)),
      subst (λ (ps : List Put). AllByRecursion (IsPut old.sn) ps) (sym none) tt,
      new_is ∙ ap (λ (e : DupSender). with_entity old e) (sym entity_is),
    )

pub given_some : (d : DupNumbers) (old new : DupTxState) (after : DupSender) (a b : List Put) (more : List DupPut) → d ≡ gives more after → a ≡ []
    → PutsMore old.sn a b more → new ≡ with_entity old after → IsGiven d old new (Ok b)
given_some d old new after a b more is none puts new_is =
    let entity_is = ap (λ (v : DupTxState). v.entity) new_is in
    let put = from_none old.sn a b more none puts in (
      is ∙ (ap (λ (ps : List DupPut). gives ps after) (sym put.0) ∙ ap (λ (e : DupSender). gives (puts_of_code old.sn b) e) (sym entity_is)),
      put.1,
      new_is ∙ ap (λ (e : DupSender). with_entity old e) (sym entity_is),
    )

pub offered_is : (sn : SnBits) (quota : ℕ) (packet p : List ℕ) (s t : DupSender) → t ≡ record s { waiting = s.waiting ++ p ∷ [] } → p ≡ packet
    → number_waiting sn quota t ≡ offered sn quota packet s
unfolding offered
offered_is sn quota packet p s t is same =
    ap (λ (x : DupSender). number_waiting sn quota x) is ∙ ap (λ (x : List ℕ). number_waiting sn quota (record s { waiting = s.waiting ++ x ∷ [] })) same

pub confirmed_none : (sn : SnBits) (quota number : ℕ) (s : DupSender) → count_below sn s.sender.next number ≡ None → confirmed sn quota number s ≡ gives [] s
unfolding confirmed
confirmed_none sn quota number s is = ap (λ (o : Option ℕ). confirmed_at sn quota s o) is

pub confirmed_some : (sn : SnBits) (quota number count : ℕ) (s t : DupSender) → count_below sn s.sender.next number ≡ Some count
    → t ≡ record s { sender = confirmed_number sn s.sender number } → number_waiting sn quota t ≡ confirmed sn quota number s
unfolding confirmed confirmed_number
confirmed_some sn quota number count s t is same =
    ap (λ (x : DupSender). number_waiting sn quota x) same
    ∙ (ap (λ (o : Option ℕ). number_waiting sn quota (record s { sender = confirmed_if s.sender o })) is
    ∙ sym (ap (λ (o : Option ℕ). confirmed_at sn quota s o) is))

pub mode_comes : (mode : Mode) (s : DupSender)
    → mode_is mode s ≡ gives (enters s.mode (with_mode mode s) legs.First ++ enters s.mode (with_mode mode s) legs.Second) (with_mode mode s)
unfolding mode_is
mode_comes mode s = refl

-- ---- a leg

pub leg_down : (leg : Leg) (up : Bool) (s : DupSender) → up ≡ false → leg_is leg up s ≡ gives [] (with_leg leg up s)
unfolding leg_is
leg_down leg true s is = absurd (cc)
leg_down leg false s is = refl

leg_kept : (leg : Leg) (s : DupSender) → is_up s leg ≡ true → s ≡ with_leg leg true s
leg_kept legs.First s is = ap (λ (b : Bool). record s { first_up = b }) is
leg_kept legs.Second s is = ap (λ (b : Bool). record s { second_up = b }) is

pub leg_stays : (leg : Leg) (up : Bool) (s : DupSender) → up ≡ true → is_up s leg ≡ true → leg_is leg up s ≡ gives [] (with_leg leg up s)
unfolding leg_is
leg_stays leg true s is was = ap (λ b. cond b (gives [] s) (brings_up leg s)) was ∙ ap (λ (t : DupSender). gives [] t) (leg_kept leg s was)
leg_stays leg false s is was = absurd (cc)

pub leg_comes : (leg : Leg) (up : Bool) (s : DupSender) → up ≡ true → is_up s leg ≡ false
    → leg_is leg up s ≡ gives (puts_on (with_leg leg up s) leg (with_leg leg up s).sender.unconfirmed) (with_leg leg up s)
unfolding leg_is
leg_comes legs.First true s is was = ap (λ b. cond b (gives [] s) (brings_up legs.First s)) was
leg_comes legs.Second true s is was = ap (λ b. cond b (gives [] s) (brings_up legs.Second s)) was
leg_comes leg false s is was = absurd (cc)
