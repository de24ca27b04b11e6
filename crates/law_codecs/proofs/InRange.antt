-- What a codec reads is in the ranges of messages, or it isn't; and a codec that reads no more than that.
use Rattle.std.proofs.Common.{◌≡◌, ℕ, ◌≤◌, List, [], ◌∷◌, length, Option, Some, None, refl, ap, ◌∙◌, subst, inl, inr}
use Rattle.std.specs.Prelude.{Result, Ok, Err}
use Rattle.std.specs.List.{AllByRecursion}
use Rattle.gnb_types.specs.declared.plans.SnStatus.{SnStatus}
use Rattle.gnb_types.specs.declared.reasons.DropReason.{DropReason}
use Rattle.gnb_types.specs.declared.reasons.DropReason.TheVariants.{Undecodable}
use Rattle.message_types.specs.declared.e1.E1Message.{E1Message}
use Rattle.message_types.specs.declared.e1.E1Message.TheVariants as e1s
use Rattle.unit_defs.specs.Ways.{Message, f1, e1, xn, core, rrc}
use Rattle.unit_defs.specs.CuUpBearers.{bits_in}
use Rattle.unit_defs.specs.codec_range_defs.Ranges.{IsSetupInRange, IsShortStatus, AreShortStatuses, IsE1InRange, IsInRange}
use Rattle.law_codecs.proofs.Decided.{Decided, two, at_most}

setup_in_range : (count quota : ℕ) → Decided (IsSetupInRange count quota)
setup_in_range count quota = by (two (two (at_most 1 count) (at_most count 8)) (two (at_most 4 quota) (at_most quota 4096)))
  where
    by : Decided (((1 ≤ count) × (count ≤ 8)) × ((4 ≤ quota) × (quota ≤ 4096))) → Decided (IsSetupInRange count quota)
    by (inl h) = inl (record { some = h.0.0; few = h.0.1; least = h.1.0; most = h.1.1 })
    by (inr never) = inr (λ (s : IsSetupInRange count quota). never ((s.some, s.few), (s.least, s.most)))

short_each : (ss : List SnStatus) → Decided (AllByRecursion IsShortStatus ss)
short_each [] = inl tt
short_each (s ∷ ss) = two (at_most (length (bits_in s.ul_received)) 4096) (short_each ss)

short : (o : Option (List SnStatus)) → Decided (AreShortStatuses o)
short None = inl tt
short (Some ss) = short_each ss

e1_in_range : (m : E1Message) → Decided (IsE1InRange m)
e1_in_range (e1s.E1SetupRequest instance name) = inl tt
e1_in_range (e1s.E1SetupResponse instance) = inl tt
e1_in_range (e1s.BearerContextSetupRequest ue instance count sn quota forward) = setup_in_range count quota
e1_in_range (e1s.BearerContextSetupResponse ue instance uplinks n3 down up) = inl tt
e1_in_range (e1s.BearerContextSetupFailure ue instance cause) = inl tt
e1_in_range (e1s.BearerContextModificationRequest ue instance downlinks mode peer down up statuses du) = short statuses
e1_in_range (e1s.BearerContextModificationResponse ue instance uplinks statuses) = inl tt
e1_in_range (e1s.BearerContextModificationFailure ue instance cause) = inl tt
e1_in_range (e1s.BearerContextReleaseCommand ue instance is_final) = inl tt
e1_in_range (e1s.BearerContextReleaseComplete ue instance) = inl tt

pub in_range_or_not : (m : Message (List ℕ)) → Decided (IsInRange m)
in_range_or_not (f1 message) = inl tt
in_range_or_not (e1 message) = e1_in_range message
in_range_or_not (xn message) = inl tt
in_range_or_not (core message) = inl tt
in_range_or_not (rrc token) = inl tt

abbrev Read : Type 0
Read = Result (Message (List ℕ)) DropReason

-- a message that is in range, else octets that say nothing
abbrev kept_where : (m : Message (List ℕ)) → Decided (IsInRange m) → Read
kept_where m (inl within) = Ok m
kept_where m (inr never) = Err Undecodable

abbrev pub read_within : Read → Read
read_within (Ok m) = kept_where m (in_range_or_not m)
read_within (Err reason) = Err reason

where_within : (m n : Message (List ℕ)) (d : Decided (IsInRange m)) → kept_where m d ≡ Ok n → IsInRange n
where_within m n (inl within) e = let same : m ≡ n = cc in subst IsInRange same within
where_within m n (inr never) e = cc

pub within_only : (x : Read) (n : Message (List ℕ)) → read_within x ≡ Ok n → IsInRange n
within_only (Ok m) n e = where_within m n (in_range_or_not m) e
within_only (Err reason) n e = cc

stays_where : (m : Message (List ℕ)) (d : Decided (IsInRange m)) → IsInRange m → kept_where m d ≡ Ok m
stays_where m (inl within) h = refl
stays_where m (inr never) h = absurd (never h)

pub within_stays : (x : Read) (n : Message (List ℕ)) → x ≡ Ok n → IsInRange n → read_within x ≡ Ok n
within_stays x n e h = ap read_within e ∙ stays_where n (in_range_or_not n) h
