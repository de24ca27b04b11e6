-- What an entity does, from what it keeps.
use Rattle.std.proofs.Common.{◌≡◌, ◌==◌, ℕ, ◌+◌, ◌-◌, ◌<◌, ◌≤◌, Bool, true, false, cond, nat_lt, nat_le, List, [], ◌++◌, Option, Some, None, is_some, Ok, Err, refl, sym, ap, ◌∙◌, arith}
use Rattle.std.specs.Ordering.{nat_cmp}
use Rattle.std.proofs.lemmas.Bool.Decides.{nat_tests}
use Rattle.gnb_types.specs.declared.names.SnBits.{SnBits}
use Rattle.tables.specs.Tables.{find}
use Rattle.pdcp_defs.specs.Counts.{near_count}
use Rattle.pdcp_defs.specs.Receivers.{Receiver, deliver, deliver_from}
use Rattle.um_defs.specs.declared.types.error.UmError.{UmError}
use Rattle.um_defs.specs.declared.types.error.UmError.TheVariants as errors
use Rattle.um_defs.specs.Receivers.{UmReceiver, refuses, takes, received_unless, received, timed, arrived, handed_up, none_up, kept, stopped, started, restarted, expired, up_to_reord, ticked, ticked_at, room}
use Rattle.um.specs.um_pdcp.inside.Stored.{below, from}
use Rattle.um.proofs.um_pdcp.StoredLemmas.{below_and_up, after_reord}

less : (a b : ℕ) → a < b → nat_lt a b ≡ true
less a b h = grind (arith, nat_tests)

not_less : (a b : ℕ) → b ≤ a → nat_lt a b ≡ false
not_less a b h = grind (arith, nat_tests)

most : (a b : ℕ) → a ≤ b → nat_le a b ≡ true
most a b h = grind (arith, nat_tests)

not_most : (a b : ℕ) → b < a → nat_le a b ≡ false
not_most a b h = grind (arith, nat_tests)

same : (a b : ℕ) → a ≡ b → (a == b) ≡ true
same a b h = grind (arith, nat_tests)

other : (a b : ℕ) → (a ≡ b → ⊥) → (a == b) ≡ false
other a b h = grind (arith, nat_tests)

-- ---- why a packet isn't taken

pub refuses_none : {X : Type 0} (r : UmReceiver X) → refuses r None ≡ Some errors.NoCount
unfolding refuses
refuses_none r = refl

module _ {X : Type 0} (r : UmReceiver X) (count : ℕ) where
  abbrev late_or : Bool → Option UmError → Option UmError
  late_or b more = cond b (Some (errors.Late count)) more

  abbrev stored_or : Bool → Option UmError → Option UmError
  stored_or b more = cond b (Some (errors.Duplicate count)) more

  abbrev ahead_or : Bool → Option UmError
  ahead_or b = cond b (Some (errors.Ahead count)) None

  pub refuses_late : count < r.receiver.deliv → refuses r (Some count) ≡ Some (errors.Late count)
  unfolding refuses
  refuses_late h =
      ap (λ b. late_or b (stored_or (is_some (find nat_cmp r.receiver.stored count)) (ahead_or (nat_le (r.receiver.deliv + room) count))))
      (less count r.receiver.deliv h)

  pub refuses_stored : r.receiver.deliv ≤ count → is_some (find nat_cmp r.receiver.stored count) ≡ true
      → refuses r (Some count) ≡ Some (errors.Duplicate count)
  unfolding refuses
  refuses_stored h s =
      ap (λ b. late_or b (stored_or (is_some (find nat_cmp r.receiver.stored count)) (ahead_or (nat_le (r.receiver.deliv + room) count))))
      (not_less count r.receiver.deliv h)
      ∙ ap (λ b. stored_or b (ahead_or (nat_le (r.receiver.deliv + room) count))) s

  refuses_new : r.receiver.deliv ≤ count → is_some (find nat_cmp r.receiver.stored count) ≡ false
      → refuses r (Some count) ≡ ahead_or (nat_le (r.receiver.deliv + room) count)
  unfolding refuses
  refuses_new h s =
      ap (λ b. late_or b (stored_or (is_some (find nat_cmp r.receiver.stored count)) (ahead_or (nat_le (r.receiver.deliv + room) count))))
      (not_less count r.receiver.deliv h)
      ∙ ap (λ b. stored_or b (ahead_or (nat_le (r.receiver.deliv + room) count))) s

  pub refuses_ahead : r.receiver.deliv ≤ count → is_some (find nat_cmp r.receiver.stored count) ≡ false
      → room ≤ count - r.receiver.deliv → refuses r (Some count) ≡ Some (errors.Ahead count)
  refuses_ahead h s a = refuses_new h s ∙ ap ahead_or (most (r.receiver.deliv + room) count (omega (arith, h, a)))

  pub refuses_nothing : r.receiver.deliv ≤ count → is_some (find nat_cmp r.receiver.stored count) ≡ false
      → count - r.receiver.deliv < room → refuses r (Some count) ≡ None
  refuses_nothing h s a = refuses_new h s ∙ ap ahead_or (not_most (r.receiver.deliv + room) count (omega (arith, h, a)))

-- ---- a packet is taken

pub taken_is : {X : Type 0} (sn : SnBits) (ticks : ℕ) (r : UmReceiver X) (number : ℕ) (x : X) (count : ℕ)
    → near_count sn r.receiver.deliv number ≡ Some count → refuses r (Some count) ≡ None
    → takes sn ticks r number x ≡ Ok (received ticks r count x)
unfolding takes
taken_is sn ticks r number x count found none =
    ap (λ o. received_unless ticks r o x (refuses r o)) found ∙ ap (λ e. received_unless ticks r (Some count) x e) none

pub refused_is : {X : Type 0} (sn : SnBits) (ticks : ℕ) (r : UmReceiver X) (number : ℕ) (x : X) (e : UmError)
    → refuses r (near_count sn r.receiver.deliv number) ≡ Some e → takes sn ticks r number x ≡ Err e
unfolding takes
refused_is sn ticks r number x e is = ap (received_unless ticks r (near_count sn r.receiver.deliv number) x) is

pub received_is : {X : Type 0} (ticks : ℕ) (r a b d f : UmReceiver X) (count : ℕ) (x : X) (ps : List (ℕ × X)) → kept r count x ≡ a
    → arrived count a ≡ record { packets = ps; after = b } → d ≡ stopped b → f ≡ started ticks d
    → received ticks r count x ≡ record { packets = ps; after = f }
unfolding received
received_is ticks r a b d f count x ps p q s t =
    ap (λ k. timed ticks (arrived count k)) p ∙ (ap (timed ticks) q
    ∙ (ap (λ g. record { packets = ps; after = started ticks g }) (sym s) ∙ ap (λ g. record { packets = ps; after = g }) (sym t)))

pub arrived_here : {X : Type 0} (count deliv next reord : ℕ) (left : Option ℕ) (es fs : List (ℕ × X)) (d : ℕ) (ps : List (ℕ × X)) → count ≡ deliv
    → ps ≡ (deliver_from deliv es).packets → (deliver_from deliv es).after ≡ record { deliv = d; stored = fs }
    → arrived count (record { receiver = record { deliv = deliv; stored = es }; next = next; reord = reord; left = left })
    ≡ record { packets = ps; after = record { receiver = record { deliv = d; stored = fs }; next = next; reord = reord; left = left } }
unfolding deliver
arrived_here count deliv next reord left es fs d ps h up after =
    let r : UmReceiver _ = record { receiver = record { deliv = deliv; stored = es }; next = next; reord = reord; left = left } in
    ap (λ b. cond b (handed_up r (deliver_from deliv es)) (none_up r)) (same count deliv h)
    ∙ (ap (λ qs. record { packets = qs; after = record r { receiver = (deliver_from deliv es).after } }) (sym up)
    ∙ ap (λ (s : Receiver _). record { packets = ps; after = record r { receiver = s } }) after)

pub arrived_there : {X : Type 0} (count : ℕ) (r : UmReceiver X) → (count ≡ r.receiver.deliv → ⊥)
    → arrived count r ≡ record { packets = []; after = r }
unfolding deliver
arrived_there count r h = ap (λ b. cond b (handed_up r (deliver r.receiver)) (none_up r)) (other count r.receiver.deliv h)

-- ---- a tick

pub expired_is : {X : Type 0} (ticks deliv next reord : ℕ) (left : Option ℕ) (es fs : List (ℕ × X)) (d : ℕ) (ps : List (ℕ × X)) (f : UmReceiver X)
    → ps ≡ below reord es ++ (deliver_from reord (from reord es)).packets
    → (deliver_from reord (from reord es)).after ≡ record { deliv = d; stored = fs }
    → f ≡ started ticks (record { receiver = record { deliv = d; stored = fs }; next = next; reord = reord; left = None })
    → expired ticks (record { receiver = record { deliv = deliv; stored = es }; next = next; reord = reord; left = left })
    ≡ record { packets = ps; after = f }
unfolding expired
expired_is ticks deliv next reord left es fs d ps f up after start =
    let r : UmReceiver _ = record { receiver = record { deliv = deliv; stored = es }; next = next; reord = reord; left = None } in
    ap (λ qs. restarted ticks (record { packets = qs; after = record r { receiver = (up_to_reord reord es).after } })) (below_and_up reord es ∙ sym up)
    ∙ (ap (λ (s : Receiver _). restarted ticks (record { packets = ps; after = record r { receiver = s } })) (after_reord reord es ∙ after)
    ∙ ap (λ g. record { packets = ps; after = g }) (sym start))

pub ticked_none : {X : Type 0} (ticks : ℕ) (r : UmReceiver X) → r.left ≡ None → ticked ticks r ≡ record { packets = []; after = r }
unfolding ticked
ticked_none ticks r is = ap (ticked_at ticks r) is

pub ticked_on : {X : Type 0} (ticks : ℕ) (r : UmReceiver X) (left : ℕ) → r.left ≡ Some left → 1 < left
    → ticked ticks r ≡ record { packets = []; after = record r { left = Some (left - 1) } }
unfolding ticked
ticked_on ticks r left is h =
    ap (ticked_at ticks r) is ∙ ap (λ b. cond b (expired ticks r) (none_up (record r { left = Some (left - 1) }))) (not_most left 1 h)

pub ticked_last : {X : Type 0} (ticks : ℕ) (r : UmReceiver X) (left : ℕ) → r.left ≡ Some left → left ≤ 1 → ticked ticks r ≡ expired ticks r
unfolding ticked
ticked_last ticks r left is h =
    ap (ticked_at ticks r) is ∙ ap (λ b. cond b (expired ticks r) (none_up (record r { left = Some (left - 1) }))) (most left 1 h)
