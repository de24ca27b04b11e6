-- What a list of calls of a responder means, said of the list alone: which of the requests are applied, and which reply is kept.
-- And the same calls made at a responder.
use Rattle.std.specs.Prelude.{ℕ, Bool, true, false, not, nat_lt, ◌&&◌, ◌||◌, if◌then◌else◌, List, [], ◌∷◌, Option, Some, None}
use Rattle.std.specs.Ordering.{eq_by_cmp}
use Rattle.gnb_types.specs.declared.keys.Channel.{Channel}
use Rattle.gnb_types.specs.Orders.{channel_cmp}
use Rattle.transaction_defs.specs.Callees.{Callee, Verdict, new, again, stale, verdict, accepted, keep, keep_for, is_newest}

-- a request: its initiator and terminal, and its instance
abbrev pub Request : Type 0
Request = Channel × ℕ

abbrev pub is_same : Channel → Channel → Bool
is_same a b = eq_by_cmp channel_cmp a b

-- ---- the requests that are applied: those above all earlier ones of the same initiator and terminal

-- the request r is above those of its channel among the earlier ones
unfoldable pub is_above : List Request → Request → Bool
is_above [] r = true
is_above (e ∷ earlier) r = (not (is_same r.0 e.0) || nat_lt e.1 r.1) && is_above earlier r

-- of the requests rs, which come after the earlier ones
unfoldable pub applied_after : List Request → List Request → List Request
applied_after earlier [] = []
applied_after earlier (r ∷ rs) =
    if is_above earlier r then r ∷ applied_after (r ∷ earlier) rs else applied_after (r ∷ earlier) rs

unfoldable pub applied : List Request → List Request
applied rs = applied_after [] rs

-- ---- the calls of a responder: a request comes; a reply is kept; a reply is kept for an instance that need not be the newest

pub data Call (M : Type 0) : Type 0 where
  accepts : (channel : Channel) (instance : ℕ) → Call M
  keeps : (channel : Channel) (reply : M) → Call M
  keeps_for : (channel : Channel) (instance : ℕ) (reply : M) → Call M

unfoldable pub requests : {M : Type 0} → List (Call M) → List Request
requests [] = []
requests (accepts c instance ∷ calls) = (c, instance) ∷ requests calls
requests (keeps c reply ∷ calls) = requests calls
requests (keeps_for c instance reply ∷ calls) = requests calls

-- ---- the reply that is kept: the last one for the newest instance

abbrev pub greater : Option ℕ → ℕ → Option ℕ
greater None instance = Some instance
greater (Some newest) instance = Some (if nat_lt newest instance then instance else newest)

-- a reply that is kept is for the newest instance; there is none where none came
abbrev pub kept_as : {M : Type 0} → Option ℕ → M → List (ℕ × M) → List (ℕ × M)
kept_as None reply rest = rest
kept_as (Some newest) reply rest = (newest, reply) ∷ rest

module _ (c : Channel) where
  -- the greatest instance of the channel c, where `before` was the greatest one of earlier requests
  unfoldable pub greatest_from : Option ℕ → List Request → Option ℕ
  greatest_from before [] = before
  greatest_from before (r ∷ rs) = greatest_from (if is_same c r.0 then greater before r.1 else before) rs

  unfoldable pub greatest : List Request → Option ℕ
  greatest rs = greatest_from None rs

  -- the replies that are kept on the channel c, each with the instance that is the greatest one then
  unfoldable pub kept_from : {M : Type 0} → Option ℕ → List (Call M) → List (ℕ × M)
  kept_from before [] = []
  kept_from before (accepts d instance ∷ calls) = kept_from (if is_same c d then greater before instance else before) calls
  kept_from before (keeps d reply ∷ calls) = if is_same c d then kept_as before reply (kept_from before calls) else kept_from before calls
  kept_from before (keeps_for d instance reply ∷ calls) =
      if is_same c d && is_newest before instance then (instance, reply) ∷ kept_from before calls else kept_from before calls

abbrev pub or_else : {X : Type 0} → Option X → Option X → Option X
or_else None b = b
or_else (Some x) b = Some x

-- the last of the replies that are for this instance
unfoldable pub last_for : {M : Type 0} → Option ℕ → List (ℕ × M) → Option M
last_for newest [] = None
last_for newest (r ∷ rs) = or_else (last_for newest rs) (if is_newest newest r.0 then Some r.1 else None)

unfoldable pub last_kept : {M : Type 0} → List (Call M) → Channel → Option M
last_kept calls c = last_for (greatest c (requests calls)) (kept_from c None calls)

-- ---- the calls made at a responder

unfoldable pub after_call : {M : Type 0} → Callee M → Call M → Callee M
after_call r (accepts c instance) = accepted r c instance
after_call r (keeps c reply) = keep r c reply
after_call r (keeps_for c instance reply) = keep_for r c instance reply

unfoldable pub after_calls : {M : Type 0} → Callee M → List (Call M) → Callee M
after_calls r [] = r
after_calls r (call ∷ calls) = after_calls (after_call r call) calls

abbrev pub is_new : Verdict → Bool
is_new new = true
is_new again = false
is_new stale = false

-- the requests whose verdict is `new`
unfoldable pub new_requests : {M : Type 0} → Callee M → List (Call M) → List Request
new_requests r [] = []
new_requests r (accepts c instance ∷ calls) =
    if is_new (verdict r c instance) then (c, instance) ∷ new_requests (accepted r c instance) calls
    else new_requests (accepted r c instance) calls
new_requests r (keeps c reply ∷ calls) = new_requests (keep r c reply) calls
new_requests r (keeps_for c instance reply ∷ calls) = new_requests (keep_for r c instance reply) calls
