-- What is left of a source, and its count of faults, over calls one after another.
use Rattle.std.proofs.Common.{◌≡◌, ℕ, List, [], Option, Some, None, refl, sym, ap, ◌∙◌}
use Rattle.std.specs.Io.KnownBytes.{Consumes, IsAtEnd}
use Rattle.gnb_base.specs.Outside.{SourceAt, one_more}
use Rattle.command_defs.specs.input_defs.Split.{left_of, rest_of}
use Rattle.command_defs.specs.input_defs.Faults.{NoReadFailed, LastReadFailed}

pub at_end_of : (a b : Option (List ℕ)) → IsAtEnd b → IsAtEnd (left_of a b)
at_end_of None b h = tt
at_end_of (Some xs) b h = h

pub end_stays : (a b c : Option (List ℕ)) (x : List ℕ) → Consumes a b x → Consumes b c [] → IsAtEnd (left_of a b) → IsAtEnd (left_of a c)
end_stays None b c x h k e = tt
end_stays (Some xs) None c x h k e = absurd h
end_stays (Some xs) (Some ys) None x h k e = absurd k
end_stays (Some xs) (Some ys) (Some zs) x h k e = sym k ∙ e

-- of a source that reported its bytes
pub rest_known : (before after : SourceAt) (input : List ℕ) → before.left ≡ Some input → rest_of before after ≡ after.left
rest_known before after input e = ap (λ (left : Option (List ℕ)). left_of left after.left) e

-- ---- faults

pub none_failed : (a : SourceAt) → NoReadFailed a a
none_failed a = record { faults = refl; failed = λ h. h }

pub none_then_none : {a b c : SourceAt} → NoReadFailed a b → NoReadFailed b c → NoReadFailed a c
none_then_none h k = record { faults = k.faults ∙ h.faults; failed = λ e. h.failed (k.failed e) }

pub none_then_last : {a b c : SourceAt} → NoReadFailed a b → LastReadFailed b c → LastReadFailed a c
none_then_last h k = record { faults = k.faults ∙ ap one_more h.faults; failed = k.failed }
