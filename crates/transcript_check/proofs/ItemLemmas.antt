-- How what an item says decides the rules.
use Rattle.std.proofs.Common.{◌≡◌, ◌↔◌, ℕ, Bool, true, false, List, Option, Some, None, ap, sym, ◌∙◌, subst, true≢false, ◌==◌, eqb-true, eq-eqb}
use Rattle.std.specs.Prelude.{IsTrue, MatchOption, option_copied, is_some}
use Rattle.std.specs.Borrow.{Bor}
use Rattle.gnb_types.specs.declared.names.SnBits.{SnBits}
use Rattle.link_defs.specs.Decoding.{Item as Says}
use Rattle.scenario_text.specs.declared.event.Event.{Event}
use Rattle.scenario_text.specs.declared.line.Link.{Link}
use Rattle.scenario_text.specs.declared.line.Item.{Item}
use Rattle.transcript_defs.specs.Past.{offered}
use Rattle.transcript_defs.specs.Packets.{Reading, FitsCount, IsAmong, IsAtReceiver, packet_in, key_of}
use Rattle.transcript_defs.specs.Rules.{ReadsWithCount, CarriesOffered, Brings}
use Rattle.transcript_check.specs.inside.Accepted.{AreAccepted, ReadsAs, offered_on}
use Rattle.transcript_check.specs.declared.index.accepted.Accepted.{Accepted}

pub not_true : {P : Type 0} → (P → ⊥) → IsTrue false ↔ P
not_true none = ((λ t. absurd (true≢false (sym t))), (λ p. absurd (none p)))

pub copied_packet : (r : Option (Bor (List ℕ))) (x : Option (List ℕ)) → MatchOption r (x ≡ None) (λ p. x ≡ Some p.now) → option_copied r ≡ x
copied_packet None x is = sym is
copied_packet (Some p) x is = sym is

module _ (happened : List Event) (accepted : Accepted) (link : Link) (item : Item) (sn : SnBits) (says : Says) (are : AreAccepted happened accepted)
    (reads : ReadsAs happened link item sn says) (only : (r : Reading happened link item) → (r.plan.sn ≡ sn) × (r.says ≡ says)) where
  pub reads_with : (b : Bool) → (IsTrue b ↔ FitsCount (offered_on accepted (key_of item)) sn item.count says) → IsTrue b ↔ ReadsWithCount happened link item
  reads_with b test =
      let same : offered_on accepted (key_of item) ≡ offered (key_of item) happened = are.offers (key_of item) in (
        (λ t. (
          reads.reading,
          subst (λ (n : SnBits). FitsCount (offered (key_of item) happened) n item.count reads.reading.says) (sym reads.sn_is)
              (subst (λ (s : Says). FitsCount (offered (key_of item) happened) sn item.count s) (sym reads.says_is)
              (subst (λ (xs : List (List ℕ)). FitsCount xs sn item.count says) same (test.0 t))),
        )),
        (λ r. test.1 (subst (λ (xs : List (List ℕ)). FitsCount xs sn item.count says) (sym same)
            (subst (λ (s : Says). FitsCount (offered (key_of item) happened) sn item.count s) (only r.0).1
            (subst (λ (n : SnBits). FitsCount (offered (key_of item) happened) n item.count r.0.says) (only r.0).0 r.1)))),
      )

  pub carries_with : (b : Bool) → (IsTrue b ↔ IsAmong (offered_on accepted (key_of item)) (packet_in says)) → IsTrue b ↔ CarriesOffered happened link item
  carries_with b test =
      let same : offered_on accepted (key_of item) ≡ offered (key_of item) happened = are.offers (key_of item) in (
        (λ t. (
          reads.reading,
          subst (λ (s : Says). IsAmong (offered (key_of item) happened) (packet_in s)) (sym reads.says_is)
              (subst (λ (xs : List (List ℕ)). IsAmong xs (packet_in says)) same (test.0 t)),
        )),
        (λ r. test.1 (subst (λ (xs : List (List ℕ)). IsAmong xs (packet_in says)) (sym same)
            (subst (λ (s : Says). IsAmong (offered (key_of item) happened) (packet_in s)) (only r.0).1 r.1))),
      )

-- ---- what is brought

module _ (happened : List Event) (link : Link) (item : Item) where
  pub brings_so : (count : ℕ) (packet : List ℕ) (sn : SnBits) (says : Says) → IsAtReceiver link item.dir → item.count ≡ Some count → ReadsAs happened link item sn says
      → packet_in says ≡ Some packet → Brings happened link item count packet
  brings_so count packet sn says receiver counts reads carries = record {
    receiver = receiver;
    count_is = counts;
    reading = reads.reading;
    packet_is = ap packet_in reads.says_is ∙ carries;
  }

  pub brings_none : (sn : SnBits) (says : Says) → ((r : Reading happened link item) → (r.plan.sn ≡ sn) × (r.says ≡ says)) → packet_in says ≡ None
      → (count : ℕ) (packet : List ℕ) → Brings happened link item count packet → ⊥
  brings_none sn says only none count packet brings =
      true≢false (sym (ap is_some (sym none ∙ ap packet_in (sym (only brings.reading).1) ∙ brings.packet_is)))

pub number_test : (a n m : ℕ) → n ≡ m → IsTrue (a == n) ↔ (a ≡ m)
number_test a n m is = ((λ t. eqb-true a n t ∙ is), (λ e. eq-eqb a n (e ∙ sym is)))
