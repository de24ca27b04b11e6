-- What one more line makes of what was received and delivered.
use Rattle.std.proofs.Common.{◌≡◌, ◌+◌, ◌↔◌, ◌⊎◌, inl, inr, ℕ, Bool, true, false, cond, List, [], ◌∷◌, ◌++◌, length, Option, Some, refl, ap, sym, ◌∙◌, subst, true≢false, length-append, arith}
use Rattle.std.specs.Prelude.{slice_get, is_some, IsTrue}
use Rattle.std.specs.declared.cmp.Ordering.TheVariants.{Equal}
use Rattle.std.specs.Ordering.{eq_by_cmp, is_eq, nat_cmp}
use Rattle.std.specs.Cmp.{IsTotalOrder, Equal-is, tied_itself}
use Rattle.std.proofs.lemmas.Grind.{flat_map-append}
use Rattle.std.proofs.lemmas.Map.Lookups.{exact_unsigned, exact_pairs}
use Rattle.gnb_types.specs.declared.names.SnBits.{SnBits}
use Rattle.gnb_types.specs.declared.names.Dir.{Dir}
use Rattle.gnb_types.specs.declared.names.NodeId.TheVariants.{CuUp, Du}
use Rattle.gnb_types.specs.declared.keys.EntityKey.{EntityKey}
use Rattle.gnb_types.specs.declared.plans.Plan.{Plan}
use Rattle.gnb_types.specs.Orders.{entity_cmp}
use Rattle.gnb_types.proofs.OrderLemmas.{entity_total, entity_exact}
use Rattle.link_defs.specs.Decoding.{Item as Says, pdu, f1u_downlink, f1u_uplink, forwarding_down, DecodesOn}
use Rattle.link_defs.proofs.OneItem.{one_item}
use Rattle.scenario_text.specs.declared.event.Event.{Event}
use Rattle.scenario_text.specs.declared.line.Link.{Link}
use Rattle.scenario_text.specs.declared.line.Link.TheVariants.{Tunnel, Radio}
use Rattle.scenario_text.specs.declared.line.Item.{Item}
use Rattle.scenario_text.specs.declared.line.OutLine.TheVariants as lines
use Rattle.tables.specs.Tables.{find, put, at}
use Rattle.tables.proofs.TableLaws.{find-put, at-put}
use Rattle.transcript_defs.specs.declared.line.TextLine.{TextLine}
use Rattle.transcript_defs.specs.declared.line.TextLine.TheVariants.{Printed}
use Rattle.transcript_defs.specs.Past.{accepted, offered, offer_at, delivered, delivery_at, same_entity}
use Rattle.transcript_defs.specs.Packets.{Reading, LaidOut, packet_in, FitsCount, IsOfCount, key_of}
use Rattle.transcript_defs.specs.Rules.{WasReceived, Receives, Brings, ShowsCount}
use Rattle.transcript_check.specs.declared.index.receipts.Receipt.{Receipt}
use Rattle.transcript_check.specs.contracts.index.receipts.ReceiptOrd.TheImpl.Laws as receipt_laws
use Rattle.transcript_check.specs.inside.Receipts.{receipt_cmp, receipt, AreReceived, AreOffered}
use Rattle.transcript_check.proofs.AtCuUp.{only_on_radio, only_forwarded, only_uplink}
use Rattle.transcript_check.proofs.OfferLemmas.{get_before}

-- ---- keys

pub receipt_total : IsTotalOrder receipt_cmp
receipt_total = receipt_laws.total-law

receipt_exact : (a b : Receipt) → receipt_cmp a b ≡ Equal → a ≡ b
receipt_exact a b e =
    ap (λ (p : EntityKey × ℕ). receipt p.0 p.1)
    (exact_pairs entity_cmp nat_cmp entity_exact exact_unsigned (a.key, a.count) (b.key, b.count) e)

-- ---- octets say one thing on a link

pub laid_one : (link : Link) (dir : Dir) (sn : SnBits) (a b : Says) (octets : List ℕ) → LaidOut link dir sn a octets → LaidOut link dir sn b octets → a ≡ b
laid_one (Radio u c w e) dir sn (pdu x whole) b octets p q =
    ap (pdu x) p.0 ∙ only_on_radio sn x octets p.1 b q
laid_one (Radio u c w e) dir sn a b octets p q = absurd assumption
laid_one (Tunnel (Du g n) t) dir sn a b octets p q = one_item f1u_downlink sn a b octets p q
laid_one (Tunnel (CuUp g n) t) dir sn a b octets p q = by p.1
  where
    by : DecodesOn forwarding_down sn a octets ⊎ DecodesOn f1u_uplink sn a octets → a ≡ b
    by (inl f) = only_forwarded sn dir a octets p.0 f b q.0 q.1
    by (inr u) = only_uplink sn dir a octets p.0 u b q.0 q.1
laid_one (Tunnel end t) dir sn a b octets p q = absurd p

module _ {happened : List Event} {link : Link} {item : Item} (r s : Reading happened link item) where
  pub one_plan : r.plan ≡ s.plan
  one_plan = let e : Some r.plan ≡ Some s.plan = sym r.is_set ∙ s.is_set in cc

  -- an item has one reading
  pub one_reading : r.says ≡ s.says
  one_reading =
      laid_one link item.dir s.plan.sn r.says s.says item.bytes
      (subst (λ (p : Plan). LaidOut link item.dir p.sn r.says item.bytes) one_plan r.laid_out) s.laid_out

-- ---- marks

module _ (past : List TextLine) (link : Link) (item : Item) (received : List (Receipt × Unit {0})) (are : AreReceived past received) where
  pub received_none : ((count : ℕ) (packet : List ℕ) → Brings (accepted (Printed (lines.Got link item)) past) link item count packet → ⊥)
      → AreReceived (Printed (lines.Got link item) ∷ past) received
  received_none none key count = (
    (λ has. let was = (are key count).0 has in (was.0, inr was.1)),
    (λ was. by was.0 was.1),
  )
    where
      by : (packet : List ℕ) → WasReceived key count packet (Printed (lines.Got link item) ∷ past) → IsTrue (is_some (find receipt_cmp received (receipt key count)))
      by packet (inl r) = absurd (none count packet r.1)
      by packet (inr old) = (are key count).1 (packet, old)

  more_one : (one : ℕ) (packet : List ℕ) → Brings (accepted (Printed (lines.Got link item)) past) link item one packet
      → (key : EntityKey) (count : ℕ) (b : Bool) → eq_by_cmp receipt_cmp (receipt key count) (receipt (key_of item) one) ≡ b
      → IsTrue (is_some (cond b (Some tt) (find receipt_cmp received (receipt key count)))) ↔ ((p : List ℕ) × WasReceived key count p (Printed (lines.Got link item) ∷ past))
  more_one one packet brings key count true tie =
      let same : receipt (key_of item) one ≡ receipt key count =
      sym (receipt_exact (receipt key count) (receipt (key_of item) one) ((Equal-is (receipt_cmp (receipt key count) (receipt (key_of item) one))).0 tie)) in (
        (λ _. (
          packet,
          inl (
            ap (λ (r : Receipt). r.key) same,
            subst (λ (n : ℕ). Brings (accepted (Printed (lines.Got link item)) past) link item n packet) (ap (λ (r : Receipt). r.count) same) brings,
          ),
        )),
        (λ _. refl),
      )
  more_one one packet brings key count false tie = (
    (λ has. let was = (are key count).0 has in (was.0, inr was.1)),
    (λ was. by was.0 was.1),
  )
    where
      by : (p : List ℕ) → WasReceived key count p (Printed (lines.Got link item) ∷ past) → IsTrue (is_some (find receipt_cmp received (receipt key count)))
      by p (inr old) = (are key count).1 (p, old)
      by p (inl r) =
          let counts : Some count ≡ Some one = sym r.1.count_is ∙ brings.count_is in
          let same_count : count ≡ one = cc in
          let same : receipt key count ≡ receipt (key_of item) one =
          ap (λ (k : EntityKey). receipt k count) (sym r.0) ∙ ap (receipt (key_of item)) same_count in
          absurd (true≢false (sym (ap is_eq (tied_itself receipt_total (receipt (key_of item) one)))
          ∙ ap (λ (q : Receipt). eq_by_cmp receipt_cmp q (receipt (key_of item) one)) (sym same) ∙ tie))

  pub received_more : (after : List (Receipt × Unit {0})) (one : ℕ) → after ≡ put receipt_cmp received (receipt (key_of item) one) tt
      → ((packet : List ℕ) × Brings (accepted (Printed (lines.Got link item)) past) link item one packet)
      → AreReceived (Printed (lines.Got link item) ∷ past) after
  received_more after one becomes brings key count =
      subst (λ (x : Option (Unit {0})). IsTrue (is_some x) ↔ ((p : List ℕ) × WasReceived key count p (Printed (lines.Got link item) ∷ past)))
      (sym (ap (λ (m : List (Receipt × Unit {0})). find receipt_cmp m (receipt key count)) becomes
      ∙ find-put receipt_total received (receipt (key_of item) one) tt (receipt key count)))
      (more_one one brings.0 brings.1 key count (eq_by_cmp receipt_cmp (receipt key count) (receipt (key_of item) one)) refl)

-- a line that takes nothing
abbrev pub TakesNothing : TextLine → Type 0
TakesNothing (Printed (lines.Got link item)) = ⊥
TakesNothing line = Unit {0}

receives_nothing : (key : EntityKey) (count : ℕ) (packet : List ℕ) (past : List TextLine) (line : TextLine) → TakesNothing line → Receives key count packet past line → ⊥
receives_nothing key count packet past (Printed (lines.Got link item)) none r = none
receives_nothing key count packet past line none r = assumption

pub received_same : (past : List TextLine) (line : TextLine) (received : List (Receipt × Unit {0})) → TakesNothing line → AreReceived past received
    → AreReceived (line ∷ past) received
received_same past line received none are key count = (
  (λ has. let was = (are key count).0 has in (was.0, inr was.1)),
  (λ was. by was.0 was.1),
)
  where
    by : (packet : List ℕ) → WasReceived key count packet (line ∷ past) → IsTrue (is_some (find receipt_cmp received (receipt key count)))
    by packet (inl r) = absurd (receives_nothing key count packet past line none r)
    by packet (inr old) = (are key count).1 (packet, old)

-- ---- what was received is what was offered

of_count : (packets : List (List ℕ)) (sn : SnBits) (shown : Option ℕ) (count : ℕ) (says : Says) (packet : List ℕ) → FitsCount packets sn shown says → shown ≡ Some count
    → packet_in says ≡ Some packet → slice_get packets count ≡ Some packet
of_count packets sn shown count says packet fits is carries =
    subst (λ (p : Option (List ℕ)). IsOfCount packets count p) carries
    (subst (λ (c : Option ℕ). FitsCount packets sn c says) is fits).0

offered_got : (past : List TextLine) (line : TextLine) (key : EntityKey) (count : ℕ) (packet : List ℕ) → ShowsCount past line → Receives key count packet past line
    → slice_get (offered key (accepted line past)) count ≡ Some packet
offered_got past (Printed (lines.Got link item)) key count packet shows receives =
    let happened = accepted (Printed (lines.Got link item)) past in
    let brings = receives.1 in
    let says_is : packet_in shows.0.says ≡ Some packet = ap packet_in (one_reading shows.0 brings.reading) ∙ brings.packet_is in
    subst (λ (k : EntityKey). slice_get (offered k happened) count ≡ Some packet) receives.0
    (of_count (offered (key_of item) happened) shows.0.plan.sn item.count count shows.0.says packet shows.1 brings.count_is says_is)
offered_got past line key count packet shows receives = absurd assumption

pub offered_more : (past : List TextLine) (line : TextLine) → ShowsCount past line → AreOffered past (accepted line past) → AreOffered (line ∷ past) (accepted line past)
offered_more past line shows are key count packet (inl r) = offered_got past line key count packet shows r
offered_more past line shows are key count packet (inr old) = are key count packet old

-- later offers change no earlier one
pub offered_later : (past : List TextLine) (happened more : List Event) → AreOffered past happened → AreOffered past (happened ++ more)
unfolding offered
offered_later past happened more are key count packet was =
    subst (λ (xs : List (List ℕ)). slice_get xs count ≡ Some packet) (sym (flat_map-append (offer_at key) happened more))
    (get_before (offered key happened) (offered key more) count packet (are key count packet was))

-- ---- deliveries

delivered_one : (key other : EntityKey) (b : Bool) (packet : List ℕ) (count : ℕ) (old : List (List ℕ)) (n : ℕ) → n ≡ length old → (b ≡ true → count ≡ n)
    → cond b (count + 1) n ≡ length (old ++ cond b (packet ∷ []) [])
delivered_one key other true packet count old n is same =
    let counts : count ≡ n = same refl in omega (arith, length-append old (packet ∷ []))
delivered_one key other false packet count old n is same = omega (arith, length-append {A = List ℕ} old [])

pub delivered_more : (past : List TextLine) (key : EntityKey) (count : ℕ) (packet : List ℕ) (old new : List (EntityKey × ℕ))
    → ((other : EntityKey) → at entity_cmp 0 old other ≡ length (delivered other past)) → count ≡ length (delivered key past) → new ≡ put entity_cmp old key (count + 1)
    → (other : EntityKey) → at entity_cmp 0 new other ≡ length (delivered other (Printed (lines.Deliver key.ue key.bearer key.dir count packet) ∷ past))
unfolding delivered
delivered_more past key count packet old new are order becomes other =
    ap (λ (m : List (EntityKey × ℕ)). at entity_cmp 0 m other) becomes
    ∙ at-put entity_total 0 old key (count + 1) other
    ∙ delivered_one key other (same_entity other key) packet count (delivered other past) (at entity_cmp 0 old other) (are other) same
  where
    same : same_entity other key ≡ true → count ≡ at entity_cmp 0 old other
    same tie =
        let is : other ≡ key = entity_exact other key ((Equal-is (entity_cmp other key)).0 tie) in
        order ∙ sym (are key) ∙ ap (at entity_cmp 0 old) (sym is)

-- a line that delivers nothing
abbrev pub DeliversNothing : TextLine → Type 0
DeliversNothing (Printed (lines.Deliver ue bearer dir count packet)) = ⊥
DeliversNothing line = Unit {0}

no_delivery : (key : EntityKey) (line : TextLine) → DeliversNothing line → delivery_at key line ≡ []
no_delivery key (Printed (lines.Deliver ue bearer dir count packet)) none = absurd none
no_delivery key line none = refl

pub delivered_same : (past : List TextLine) (line : TextLine) (old : List (EntityKey × ℕ)) → DeliversNothing line
    → ((other : EntityKey) → at entity_cmp 0 old other ≡ length (delivered other past)) → (other : EntityKey) → at entity_cmp 0 old other ≡ length (delivered other (line ∷ past))
unfolding delivered
delivered_same past line old none are other =
    let count : at entity_cmp 0 old other ≡ length (delivered other past) = are other in
    let nothing : delivery_at other line ≡ [] = no_delivery other line none in
    let total : length (delivered other past ++ delivery_at other line) ≡ length (delivered other past) =
    ap (λ (xs : List (List ℕ)). length (delivered other past ++ xs)) nothing ∙ length-append (delivered other past) [] ∙ omega arith in
    count ∙ sym total
