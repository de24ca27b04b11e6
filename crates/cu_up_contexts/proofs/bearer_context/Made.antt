-- The bearers of a new context, one after another.
use Rattle.std.proofs.Common.{◌≡◌, ℕ, zero, suc, ◌+◌, ◌-◌, ◌*◌, ◌^◌, ◌<◌, ◌≤◌, Bool, true, false, List, [], ◌∷◌, ◌++◌, length, sym, ap, ◌∙◌, arith}
use Rattle.gnb_types.specs.declared.names.BearerId.{BearerId}
use Rattle.gnb_types.specs.declared.names.SnBits.{SnBits}
use Rattle.unit_defs.specs.CuUpRecords.{CuUpBearer}
use Rattle.unit_defs.specs.CuUpBearers.{made, teids_of_bearer}
use Rattle.unit_defs.specs.CuUp.{bearers_from, bearers_made}
use Rattle.cu_up_bearer.specs.declared.tunnels.at.Flags.{Flags}
use Rattle.cu_up_bearer.specs.bearers.Bearers.{kept, IsOf}
use Rattle.cu_up_bearer.specs.declared.bearers.bearer.Bearer.{Bearer}
use Rattle.cu_up_contexts.specs.bearer_context.Bearers.{numbered, shared, IsServed}
use Rattle.cu_up_contexts.proofs.bearer_context.Numbered.{numbered_push}

abbrev Made : Type 0
Made = List (BearerId × CuUpBearer)

made_push : (target : Bool) (next i n : ℕ)
    → bearers_made target next (bearers_from i (suc n))
    ≡ bearers_made target next (bearers_from i n) ++ (record { 0 = i + n }, made target (next + n * teids_of_bearer target)) ∷ []
made_push target next i zero =
    let a : i ≡ i + 0 = omega arith in
    let b : next ≡ next + 0 * teids_of_bearer target = omega arith in
    λ k. (record { 0 = a k }, made target (b k)) ∷ []
made_push true next i (suc n) =
    let a : i + 1 + n ≡ i + suc n = omega arith in
    let b : next + 4 + n * 4 ≡ next + suc n * 4 = omega arith in
    ap (λ (es : Made). (record { 0 = i }, made true next) ∷ es)
    (made_push true (next + 4) (i + 1) n
    ∙ (λ k. bearers_made true (next + 4) (bearers_from (i + 1) n) ++ (record { 0 = a k }, made true (b k)) ∷ []))
made_push false next i (suc n) =
    let a : i + 1 + n ≡ i + suc n = omega arith in
    let b : next + 2 + n * 2 ≡ next + suc n * 2 = omega arith in
    ap (λ (es : Made). (record { 0 = i }, made false next) ∷ es)
    (made_push false (next + 2) (i + 1) n
    ∙ (λ k. bearers_made false (next + 2) (bearers_from (i + 1) n) ++ (record { 0 = a k }, made false (b k)) ∷ []))

-- a turn of the loop
pub made_turn : (target : Bool) (first index teid : ℕ) (bs : List Bearer) (b : Bearer) → length bs ≡ index → teid ≡ first + index * teids_of_bearer target
    → numbered 1 bs ≡ bearers_made target first (bearers_from 1 index) → kept b ≡ made target teid
    → numbered 1 (bs ++ b ∷ []) ≡ bearers_made target first (bearers_from 1 (index + 1))
made_turn target first index teid bs b count teid_is before new =
    let n : index + 1 ≡ 1 + index = omega arith in
    let next : suc index ≡ index + 1 = omega arith in
    numbered_push bs b 1 index count
    ∙ (λ k. before k ++ (record { 0 = n k }, new k) ∷ [])
    ∙ ap (λ (t : ℕ). bearers_made target first (bearers_from 1 index) ++ (record { 0 = 1 + index }, made target t) ∷ []) teid_is
    ∙ sym (made_push target first 1 index)
    ∙ ap (λ (m : ℕ). bearers_made target first (bearers_from 1 m)) next

-- the TEIDs of the next bearer are left
pub fits_turn : (target : Bool) (first index count teid : ℕ) → teid ≡ first + index * teids_of_bearer target → index < count
    → first + count * teids_of_bearer target ≤ 2 ^ 32 → teid + teids_of_bearer target ≤ 4294967296
fits_turn true first index count teid is below all = omega (arith, is, below, all)
fits_turn false first index count teid is below all = omega (arith, is, below, all)

-- the count and the next TEID after a turn
pub count_turn : (bs : List Bearer) (b : Bearer) (index : ℕ) → length bs ≡ index → length (bs ++ b ∷ []) ≡ index + 1
count_turn [] b index count = omega (arith, count)
count_turn (x ∷ bs) b index count =
    let before : length bs ≡ index - 1 = omega (arith, count) in
    let after : length (bs ++ b ∷ []) ≡ index - 1 + 1 = count_turn bs b (index - 1) before in
    omega (arith, count, after)

pub teid_turn : (target : Bool) (first index teid step : ℕ) → teid ≡ first + index * teids_of_bearer target → step ≡ teids_of_bearer target
    → teid + step ≡ first + (index + 1) * teids_of_bearer target
teid_turn true first index teid step is step_is = omega (arith, is, step_is)
teid_turn false first index teid step is step_is = omega (arith, is, step_is)

-- a new bearer has sent nothing and stores nothing
pub made_served : (sn : SnBits) (quota : ℕ) (flags : Flags) (b : Bearer) (target : Bool) (teid : ℕ) → kept b ≡ made target teid
    → IsOf (shared sn quota flags) b → IsServed (shared sn quota flags) b
unfolding made
made_served sn quota flags b target teid is of =
    (of, λ no. (ap (λ (x : CuUpBearer). x.sender.unconfirmed) is, ap (λ (x : CuUpBearer). x.receiver.stored) is))
