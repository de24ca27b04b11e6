-- The test of ranges tells them.
use Rattle.std.proofs.Common.{◌≡◌, ℕ, Bool, true, false, List, [], ◌∷◌, length, cond, Option, Some, None, refl, ap, subst, ◌∙◌}
use Rattle.std.specs.Prelude.{Result, Ok, Err, ◌&&◌, nat_le}
use Rattle.std.specs.List.{list_all, AllByRecursion}
use Rattle.proof_aper.proofs.answers.NumberFacts.{at_most, is_at_most, first_of_both, second_of_both}
use Rattle.gnb_types.specs.declared.plans.SnStatus.{SnStatus}
use Rattle.gnb_types.specs.declared.reasons.DropReason.{DropReason}
use Rattle.gnb_types.specs.declared.reasons.DropReason.TheVariants.{Undecodable}
use Rattle.message_types.specs.declared.e1.E1Message.{E1Message}
use Rattle.message_types.specs.declared.e1.E1Message.TheVariants as e1s
use Rattle.unit_defs.specs.Ways.{Message, f1, e1, xn, core, rrc}
use Rattle.unit_defs.specs.CuUpBearers.{bits_in}
use Rattle.unit_defs.specs.codec_range_defs.Ranges.{IsSetupInRange, IsShortStatus, AreShortStatuses, IsE1InRange, IsInRange}
use Rattle.message_codec_defs.specs.Ranges.{is_short, are_short, is_in_range, within_ranges}

both : (a b : Bool) → a ≡ true → b ≡ true → (a && b) ≡ true
both a b h k = ap (λ (x : Bool). x && b) h ∙ k

-- ---- what passes is in range
setup_is : (count quota : ℕ) → (nat_le 1 count && nat_le count 8 && nat_le 4 quota && nat_le quota 4096) ≡ true → IsSetupInRange count quota
setup_is count quota h =
    let two : Bool = nat_le 1 count && nat_le count 8 in
    let three : Bool = two && nat_le 4 quota in
    let g : three ≡ true = first_of_both three (nat_le quota 4096) h in
    let f : two ≡ true = first_of_both two (nat_le 4 quota) g in
    record {
      some = at_most 1 count (first_of_both (nat_le 1 count) (nat_le count 8) f);
      few = at_most count 8 (second_of_both (nat_le 1 count) (nat_le count 8) f);
      least = at_most 4 quota (second_of_both two (nat_le 4 quota) g);
      most = at_most quota 4096 (second_of_both three (nat_le quota 4096) h);
    }

each_is : (ss : List SnStatus) → list_all is_short ss ≡ true → AllByRecursion IsShortStatus ss
each_is [] h = tt
each_is (s ∷ ss) h = (
  at_most (length (bits_in s.ul_received)) 4096 (first_of_both (is_short s) (list_all is_short ss) h),
  each_is ss (second_of_both (is_short s) (list_all is_short ss) h),
)

statuses_are : (o : Option (List SnStatus)) → are_short o ≡ true → AreShortStatuses o
statuses_are None h = tt
statuses_are (Some ss) h = each_is ss h

in_range : (msg : E1Message) → is_in_range msg ≡ true → IsE1InRange msg
in_range (e1s.BearerContextSetupRequest ue instance count sn quota forward) h = setup_is count quota h
in_range (e1s.BearerContextModificationRequest ue instance downlinks mode peer down up statuses du) h = statuses_are statuses h
in_range msg h = tt

-- ---- what is in range passes
each_passes : (ss : List SnStatus) → AllByRecursion IsShortStatus ss → list_all is_short ss ≡ true
each_passes [] h = refl
each_passes (s ∷ ss) h =
    both (is_short s) (list_all is_short ss) (is_at_most (length (bits_in s.ul_received)) 4096 h.0) (each_passes ss h.1)

statuses_pass : (o : Option (List SnStatus)) → AreShortStatuses o → are_short o ≡ true
statuses_pass None h = refl
statuses_pass (Some ss) h = each_passes ss h

pub passes : (msg : E1Message) → IsE1InRange msg → is_in_range msg ≡ true
passes (e1s.BearerContextSetupRequest ue instance count sn quota forward) h =
    let two : Bool = nat_le 1 count && nat_le count 8 in
    both (two && nat_le 4 quota) (nat_le quota 4096)
    (both two (nat_le 4 quota) (both (nat_le 1 count) (nat_le count 8) (is_at_most 1 count h.some) (is_at_most count 8 h.few))
    (is_at_most 4 quota h.least)) (is_at_most quota 4096 h.most)
passes (e1s.BearerContextModificationRequest ue instance downlinks mode peer down up statuses du) h = statuses_pass statuses h
passes msg h = refl

-- ---- what is read within them
abbrev Read : Type 0
Read = Result (Message (List ℕ)) DropReason

same : (a b : Message (List ℕ)) → (let r : Read = Ok a in r) ≡ Ok b → a ≡ b
same a b e = cc

kept : (msg : E1Message) (n : Message (List ℕ)) (b : Bool) → is_in_range msg ≡ b
    → cond b (let r : Read = Ok (e1 msg) in r) (Err Undecodable) ≡ Ok n → IsInRange n
kept msg n true is e = subst IsInRange (same (e1 msg) n e) (in_range msg is)
kept msg n false is e = cc

pub within_only : (r : Read) (n : Message (List ℕ)) → within_ranges r ≡ Ok n → IsInRange n
within_only (Ok (e1 msg)) n e = kept msg n (is_in_range msg) refl e
within_only (Ok (f1 msg)) n e = subst IsInRange (same (f1 msg) n e) tt
within_only (Ok (xn msg)) n e = subst IsInRange (same (xn msg) n e) tt
within_only (Ok (core msg)) n e = subst IsInRange (same (core msg) n e) tt
within_only (Ok (rrc token)) n e = subst IsInRange (same (rrc token) n e) tt
within_only (Err reason) n e = cc
