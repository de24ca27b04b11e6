-- What a responder keeps of the requests that it took: for each initiator and terminal the newest instance, and the reply to
-- it. A request is acted on where its instance is above all earlier ones; the newest one is answered again with its reply.
use Rattle.std.specs.Prelude.{◌==◌, ℕ, Bool, false, nat_lt, if◌then◌else◌, List, Option, Some, None}
use Rattle.gnb_types.specs.declared.keys.Channel.{Channel}
use Rattle.gnb_types.specs.Orders.{channel_cmp}
use Rattle.tables.specs.Tables.{find, put}

pub record Kept (M : Type 0) : Type 0 where
  pub instance : ℕ
  pub reply : Option M

abbrev pub Callee : Type 0 → Type 0
Callee M = List (Channel × Kept M)

unfoldable pub kept_at : {M : Type 0} → Callee M → Channel → Option (Kept M)
kept_at r c = find channel_cmp r c

-- ---- a request comes

pub data Verdict : Type 0 where
  new : Verdict
  again : Verdict
  stale : Verdict

abbrev pub verdict_after : Option ℕ → ℕ → Verdict
verdict_after None instance = new
verdict_after (Some newest) instance = if nat_lt newest instance then new else (if newest == instance then again else stale)

abbrev pub newest_in : {M : Type 0} → Option (Kept M) → Option ℕ
newest_in None = None
newest_in (Some kept) = Some kept.instance

unfoldable pub newest : {M : Type 0} → Callee M → Channel → Option ℕ
newest r c = newest_in (kept_at r c)

unfoldable pub verdict : {M : Type 0} → Callee M → Channel → ℕ → Verdict
verdict r c instance = verdict_after (newest r c) instance

-- a new instance is taken, and no reply is kept yet
unfoldable pub taken : {M : Type 0} → Callee M → Channel → ℕ → Callee M
taken r c instance = put channel_cmp r c (record { instance = instance; reply = None })

-- what is kept after a request came
abbrev pub accepted_as : {M : Type 0} → Verdict → Callee M → Channel → ℕ → Callee M
accepted_as new r c instance = taken r c instance
accepted_as again r c instance = r
accepted_as stale r c instance = r

unfoldable pub accepted : {M : Type 0} → Callee M → Channel → ℕ → Callee M
accepted r c instance = accepted_as (verdict r c instance) r c instance

-- ---- the reply of the newest instance

abbrev pub reply_in : {M : Type 0} → Option (Kept M) → Option M
reply_in None = None
reply_in (Some kept) = kept.reply

unfoldable pub kept_reply : {M : Type 0} → Callee M → Channel → Option M
kept_reply r c = reply_in (kept_at r c)

abbrev pub with_reply : {M : Type 0} → Callee M → Channel → M → Option (Kept M) → Callee M
with_reply r c reply None = r
with_reply r c reply (Some kept) = put channel_cmp r c (record kept { reply = Some reply })

unfoldable pub keep : {M : Type 0} → Callee M → Channel → M → Callee M
keep r c reply = with_reply r c reply (kept_at r c)

-- a reply that comes late is kept only while its instance is the newest one
abbrev pub is_newest : Option ℕ → ℕ → Bool
is_newest None instance = false
is_newest (Some newest) instance = newest == instance

unfoldable pub keep_for : {M : Type 0} → Callee M → Channel → ℕ → M → Callee M
keep_for r c instance reply = if is_newest (newest r c) instance then keep r c reply else r
