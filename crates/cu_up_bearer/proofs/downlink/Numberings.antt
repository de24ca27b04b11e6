-- What waits gets COUNTs, one turn after another.
use Rattle.std.proofs.Common.{◌≡◌, ℕ, ◌<◌, Bool, true, false, cond, not, nat_lt, ◌||◌, List, [], ◌∷◌, length, Option, Some, None, Ok, Err, refl, sym, ap, ◌∙◌, subst, arith}
use Rattle.std.specs.Prelude.{Result}
use Rattle.std.specs.Result.{IsErrAnd}
use Rattle.std.proofs.lemmas.Result.{err_from_is_err_and}
use Rattle.gnb_types.specs.declared.names.SnBits.{SnBits}
use Rattle.gnb_types.specs.declared.outputs.Output.{Output}
use Rattle.gnb_types.specs.declared.outputs.Tag.TheVariants.{Own}
use Rattle.pdcp.specs.Near.{last_count}
use Rattle.pdcp_defs.specs.Senders.{Sender, has_room, numbered}
use Rattle.unit_defs.specs.Ways.{spent, ◌then◌, nothing, counts_spent}
use Rattle.unit_defs.specs.CuUpRecords.{CuUpBearer}
use Rattle.unit_defs.specs.CuUpBearers.{number_each, number_waiting, has_downlink, sent}
use Rattle.unit_defs.specs.octet_defs.Codec.{Codec, octet_way}
use Rattle.unit_defs.specs.octet_defs.Units.{OctetAnswer}
use Rattle.unit_messages.specs.declared.steps.StepError.{StepError}
use Rattle.unit_messages.specs.declared.steps.StepError.TheVariants as errors
use Rattle.unit_messages.specs.steps.Steps.{Step, IsStep, stopped}
use Rattle.pdcp_bearers.specs.declared.ue_bearers.sender.Counted.{Counted}
use Rattle.pdcp_bearers.specs.ue_bearers.Senders.{SenderState, Numbering, numbers, stays, ends, numbering, numbering_of, IsCounting, IsPacket}
use Rattle.cu_up_bearer.specs.declared.tunnels.at.Scope.{Scope}
use Rattle.cu_up_bearer.specs.declared.tunnels.frames.DownlinkTunnel.{DownlinkTunnel}
use Rattle.cu_up_bearer.specs.declared.tunnels.frames.Frames.{Frames}
use Rattle.cu_up_bearer.specs.tunnels.Tunnels.{at_as, downlink_as}
use Rattle.cu_up_bearer.specs.declared.downlink.down.DownSide.{DownSide}
use Rattle.cu_up_bearer.specs.downlink.Downlinks.{with_down}

abbrev pub uplink : SnBits → ℕ → Sender (List ℕ) → List (List ℕ) → SenderState
uplink sn quota sender waiting = record { sn = sn; quota = quota; sender = sender; waiting = waiting }

abbrev pub side : SenderState → Frames → DownSide
side u f = record { sending = u; frames = f }

-- what a number leaves of the entity
numbers_one_of : (d : SenderState) (w : List (List ℕ)) (after : SenderState) (count : ℕ) (packet : List ℕ) → numbering_of d w ≡ numbers count packet after
    → (after.sn ≡ d.sn) × (after.quota ≡ d.quota) × (length after.waiting < length w)
numbers_one_of d [] after count packet is = cc
numbers_one_of d (x ∷ xs) after count packet is = by (has_room d.sn d.quota d.sender) (nat_lt last_count d.sender.next) is
  where
    by : (r l : Bool)
        → cond (not r) stays (cond l ends (numbers d.sender.next x (uplink d.sn d.quota (numbered d.sender x) xs))) ≡ numbers count packet after
        → (after.sn ≡ d.sn) × (after.quota ≡ d.quota) × (length after.waiting < length (x ∷ xs))
    by true true is = cc
    by true false is =
        let same : uplink d.sn d.quota (numbered d.sender x) xs ≡ after = cc in
        let fewer : length xs ≡ length after.waiting = ap (λ (a : SenderState). length a.waiting) same in
        (sym (ap (λ (a : SenderState). a.sn) same), sym (ap (λ (a : SenderState). a.quota) same), omega (arith, fewer))
    by false l is = cc

pub numbers_keeps : (d after : SenderState) (count : ℕ) (packet : List ℕ) → numbering d ≡ numbers count packet after
    → (after.sn ≡ d.sn) × (after.quota ≡ d.quota) × (length after.waiting < length d.waiting)
numbers_keeps d after count packet is = numbers_one_of d d.waiting after count packet is

module _ (codec : Codec) (a : Scope) (b : CuUpBearer) where
  -- what is numbered from here on
  abbrev pub rest : DownSide → OctetAnswer CuUpBearer
  rest d = number_each (octet_way codec) (at_as a) d.sending.waiting (with_down b d)

  module _ (f : Frames) where
    abbrev pub Turn : OctetAnswer CuUpBearer → SenderState → Numbering → Type 0
    Turn x u (numbers count packet after) =
        x ≡ (sent (octet_way codec) (at_as a) count packet (Own count) (with_down b (side after f)) then number_each (octet_way codec) (at_as a) after.waiting)
    Turn x u stays = x ≡ nothing (with_down b (side u f))
    Turn x u ends = x ≡ spent counts_spent

    turn : (sn : SnBits) (quota : ℕ) (sender : Sender (List ℕ)) (waiting : List (List ℕ)) → sn ≡ a.sn → quota ≡ a.quota
        → Turn (rest (side (uplink sn quota sender waiting) f)) (uplink sn quota sender waiting) (numbering_of (uplink sn quota sender waiting) waiting)
    unfolding number_each
    turn sn quota sender [] sn_is quota_is = refl
    turn sn quota sender (packet ∷ packets) sn_is quota_is =
        by (has_room sn quota sender) (has_room a.sn a.quota sender) (nat_lt last_count sender.next)
        (sym (ap (λ (k : SnBits). has_room k quota sender) sn_is ∙ ap (λ (n : ℕ). has_room a.sn n sender) quota_is))
      where
        by : (r s l : Bool) → s ≡ r
            → Turn
            (cond (not s) (nothing (with_down b (side (uplink sn quota sender (packet ∷ packets)) f)))
            (cond l (spent counts_spent)
            (sent (octet_way codec) (at_as a) sender.next packet (Own sender.next) (with_down b (side (uplink sn quota (numbered sender packet) packets) f)))
            then number_each (octet_way codec) (at_as a) packets))
            (uplink sn quota sender (packet ∷ packets))
            (cond (not r) stays (cond l ends (numbers sender.next packet (uplink sn quota (numbered sender packet) packets))))
        by true true true same = refl
        by true true false same = refl
        by false false l same = refl
        by true false l same = cc
        by false true l same = cc

    -- by what the entity gives
    pub turn_of : (u : SenderState) → u.sn ≡ a.sn → u.quota ≡ a.quota → (n : Numbering) → numbering u ≡ n → Turn (rest (side u f)) u n
    turn_of u sn_is quota_is n is =
        subst (λ (m : Numbering). Turn (rest (side u f)) u m) is (turn u.sn u.quota u.sender u.waiting sn_is quota_is)

  -- ---- only a bearer that has a tunnel, and is neither frozen nor released, numbers

  module _ (d : DownSide) where
    abbrev pub serving : Bool → Bool → Bool → OctetAnswer CuUpBearer
    serving frozen released closed = cond (frozen || released || closed) (nothing (with_down b d)) (rest d)

    abbrev pub waiting_row : OctetAnswer CuUpBearer
    waiting_row = number_waiting (octet_way codec) (at_as a) (with_down b d)

    row_is : waiting_row ≡ serving a.flags.frozen a.flags.released (not (has_downlink (downlink_as d.frames.downlink)))
    unfolding number_waiting
    row_is = refl

    any_frozen : (r t : Bool) → serving true r t ≡ nothing (with_down b d)
    any_frozen true t = refl
    any_frozen false t = refl

    any_released : (f t : Bool) → serving f true t ≡ nothing (with_down b d)
    any_released true t = refl
    any_released false t = refl

    any_closed : (f r : Bool) → serving f r true ≡ nothing (with_down b d)
    any_closed true r = refl
    any_closed false true = refl
    any_closed false false = refl

    pub waits_frozen : a.flags.frozen ≡ true → waiting_row ≡ nothing (with_down b d)
    waits_frozen is =
        let t = not (has_downlink (downlink_as d.frames.downlink)) in
        row_is ∙ ap (λ (f : Bool). serving f a.flags.released t) is ∙ any_frozen a.flags.released t

    pub waits_released : a.flags.released ≡ true → waiting_row ≡ nothing (with_down b d)
    waits_released is =
        let t = not (has_downlink (downlink_as d.frames.downlink)) in
        row_is ∙ ap (λ (r : Bool). serving a.flags.frozen r t) is ∙ any_released a.flags.frozen t

    pub waits_closed : d.frames.downlink ≡ None → waiting_row ≡ nothing (with_down b d)
    waits_closed is =
        row_is ∙ ap (λ (o : Option DownlinkTunnel). serving a.flags.frozen a.flags.released (not (has_downlink (downlink_as o)))) is
        ∙ any_closed a.flags.frozen a.flags.released

    pub serves : (x : DownlinkTunnel) → a.flags.frozen ≡ false → a.flags.released ≡ false → d.frames.downlink ≡ Some x → waiting_row ≡ rest d
    serves x thawed kept is =
        let t = λ (o : Option DownlinkTunnel). not (has_downlink (downlink_as o)) in
        row_is ∙ ap (λ (f : Bool). serving f a.flags.released (t d.frames.downlink)) thawed
        ∙ ap (λ (r : Bool). serving false r (t d.frames.downlink)) kept
        ∙ ap (λ (o : Option DownlinkTunnel). serving false false (t o)) is

-- ---- what the entity says of an answer that came

pub counted_facts : (n : Numbering) (old new : SenderState) (o : Option Counted) (d : Counted) → IsCounting n old new (Ok o) → o ≡ Some d
    → (n ≡ numbers d.count d.packet new) × IsPacket d.packet
counted_facts n old new o d says is = subst (λ (x : Option Counted). IsCounting n old new (Ok x)) is says

pub not_counted : (n : Numbering) (old new : SenderState) (o : Option Counted) → IsCounting n old new (Ok o) → o ≡ None
    → (n ≡ stays) × (new ≡ old)
not_counted n old new o says is = subst (λ (x : Option Counted). IsCounting n old new (Ok x)) is says

fails_as : {R : Type 0} (X : Type 0) (n : Numbering) (old new : SenderState) (e : StepError) → IsCounting n old new (Err e)
    → (s : Step R) → (n ≡ ends → s ≡ stopped counts_spent) → (out : List Output) (b : R) → IsStep {X = X} s out b (Err e)
fails_as X n old new (errors.Spent counter) says s spent_is out b = spent_is says.0 ∙ ap (λ (k : ℕ). stopped k) (sym says.1)
fails_as X n old new errors.Memory says s spent_is out b = tt

pub counts_fail : {X R : Type 0} (n : Numbering) (old new : SenderState) (e : StepError) → IsCounting n old new (Err e)
    → (s : Step R) → (n ≡ ends → s ≡ stopped counts_spent) → (out : List Output) (b : R) (result : Result X StepError)
    → IsErrAnd result (λ y. y ≡ e) → IsStep s out b result
counts_fail {X} {R} n old new e says s spent_is out b result err =
    let p = err_from_is_err_and result err in
    subst (λ (r : Result X StepError). IsStep s out b r) (sym p.1)
    (subst (λ (y : StepError). IsStep {X = X} s out b (Err y)) (sym p.2) (fails_as X n old new e says s spent_is out b))
