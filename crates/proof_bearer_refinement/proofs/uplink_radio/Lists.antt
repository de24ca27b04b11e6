-- A radio beside two lists of a model: what is carried, confirmed and put there.
use Rattle.std.proofs.Common.{◌≡◌, ℕ, ◌+◌, ◌-◌, ◌==◌, true, false, List, [], ◌∷◌, ◌++◌, length, map, Some, refl, sym, ap, ◌∙◌, append_assoc, length-append, arith}
use Rattle.std.specs.Prelude.{if◌then◌else◌}
use Rattle.std.proofs.lemmas.List.{append-nil}
use Rattle.unit_defs.specs.Ways.{Pdu, packet_pdu, report_pdu}
use Rattle.transport_defs.specs.Links.{Radio, silent, nth}
use Rattle.run_defs.specs.Written.{Written}
use Rattle.proof_node_orders.specs.terminal_inputs.Inputs.{packet_in, rest_of}
use Rattle.proof_bearer_refinement.specs.uplink_radio.Radio.{OnRadio, packets_on, IsRadio}

abbrev pub counts : List (ℕ × List ℕ) → List ℕ
counts packets = map (λ e. e.0) packets

pub packets_both : (xs ys : List OnRadio) → packets_on (xs ++ ys) ≡ packets_on xs ++ packets_on ys
unfolding packets_on
packets_both [] ys = refl
packets_both (x ∷ xs) ys =
    ap (λ (zs : List (ℕ × List ℕ)). packet_in x.content.says ++ zs) (packets_both xs ys)
    ∙ sym (append_assoc (packet_in x.content.says) (packets_on xs) (packets_on ys))

counts_both : (xs ys : List (ℕ × List ℕ)) → counts (xs ++ ys) ≡ counts xs ++ counts ys
counts_both [] ys = refl
counts_both (x ∷ xs) ys = ap (λ (zs : List ℕ). x.0 ∷ zs) (counts_both xs ys)

packets_one : (item : OnRadio) → packets_on (item ∷ []) ≡ packet_in item.content.says
unfolding packets_on
packets_one item = append-nil (packet_in item.content.says)

packets_cons : (item : OnRadio) (items : List OnRadio) → packets_on (item ∷ items) ≡ packet_in item.content.says ++ packets_on items
unfolding packets_on
packets_cons item items = refl

-- ---- the oldest one that wasn't carried

nth_left : (taken left : List OnRadio) (item : OnRadio) → nth (taken ++ left) (length taken) ≡ Some item → (rest : List OnRadio) × (left ≡ item ∷ rest)
nth_left [] [] item is = absurd cc
nth_left [] (x ∷ xs) item is = (xs, ap (λ (y : OnRadio). y ∷ xs) (let same : x ≡ item = cc in same))
nth_left (t ∷ ts) left item is =
    let some : (length (t ∷ ts) == 0) ≡ false = grind arith in
    let less : length (t ∷ ts) - 1 ≡ length ts = omega arith in
    nth_left ts left item (sym (λ i. if some i then Some t else nth (ts ++ left) (less i)) ∙ is)

abbrev pub after_carry : Pdu → List (ℕ × List ℕ) → List (ℕ × List ℕ)
after_carry (packet_pdu count packet) waits = rest_of waits
after_carry (report_pdu fmc bits) waits = waits

waits_after : (pdu : Pdu) (more waits : List (ℕ × List ℕ)) → packet_in pdu ++ more ≡ waits → (more ≡ after_carry pdu waits) × (waits ≡ packet_in pdu ++ after_carry pdu waits)
waits_after (packet_pdu count packet) more waits is = (
  ap (λ (zs : List (ℕ × List ℕ)). rest_of zs) is,
  sym is ∙ ap (λ (zs : List (ℕ × List ℕ)). (count, packet) ∷ zs) (ap (λ (zs : List (ℕ × List ℕ)). rest_of zs) is),
)
waits_after (report_pdu fmc bits) more waits is = (is, refl)

pub carried_one : (r : Radio (Written Pdu)) (known : List ℕ) (waits : List (ℕ × List ℕ)) → IsRadio r known waits → (item : OnRadio)
    → nth r.items r.carried ≡ Some item
    → IsRadio (record r { carried = r.carried + 1 }) (known ++ counts (packet_in item.content.says)) (after_carry item.content.says waits)
    × (waits ≡ packet_in item.content.says ++ after_carry item.content.says waits)
carried_one r known waits h item is = (
  record {
    carried = h.carried ++ item ∷ [];
    left = found.0;
    items = h.items ∙ ap (λ (zs : List OnRadio). h.carried ++ zs) found.1 ∙ sym (append_assoc h.carried (item ∷ []) found.0);
    so_many = ap (λ (k : ℕ). k + 1) h.so_many ∙ sym (length-append h.carried (item ∷ []));
    known = ap counts (packets_both h.carried (item ∷ [])) ∙ counts_both (packets_on h.carried) (packets_on (item ∷ []))
        ∙ (λ i. h.known i ++ counts (packets_one item i));
    waits = after.0;
  },
  after.1,
)
  where
    found : (rest : List OnRadio) × (h.left ≡ item ∷ rest)
    found = nth_left h.carried h.left item (sym (λ i. nth (h.items i) (h.so_many i)) ∙ is)

    after : (packets_on found.0 ≡ after_carry item.content.says waits) × (waits ≡ packet_in item.content.says ++ after_carry item.content.says waits)
    after =
        waits_after item.content.says (packets_on found.0) waits
        (sym (packets_cons item found.0) ∙ ap packets_on (sym found.1) ∙ h.waits)

-- ---- the oldest one that was carried

abbrev pub after_ack : Pdu → List ℕ → List ℕ
after_ack (packet_pdu count packet) known = rest_of known
after_ack (report_pdu fmc bits) known = known

abbrev pub IsHead : Pdu → List ℕ → Type 0
IsHead (packet_pdu count packet) known = known ≡ count ∷ rest_of known
IsHead (report_pdu fmc bits) known = Unit {0}

known_after : (pdu : Pdu) (more : List (ℕ × List ℕ)) (known : List ℕ) → counts (packet_in pdu ++ more) ≡ known
    → (counts more ≡ after_ack pdu known) × IsHead pdu known
known_after (packet_pdu count packet) more known is = (
  ap (λ (zs : List ℕ). rest_of zs) is,
  sym is ∙ ap (λ (zs : List ℕ). count ∷ zs) (ap (λ (zs : List ℕ). rest_of zs) is),
)
known_after (report_pdu fmc bits) more known is = (is, tt)

pub acked_one : (r : Radio (Written Pdu)) (known : List ℕ) (waits : List (ℕ × List ℕ)) → IsRadio r known waits → (item : OnRadio) (rest : List OnRadio)
    → r.items ≡ item ∷ rest → (r.carried == 0) ≡ false
    → IsRadio (record { items = rest; carried = r.carried - 1 }) (after_ack item.content.says known) waits × IsHead item.content.says known
acked_one r known waits h item rest is some = by h.carried h.items h.so_many h.known
  where
    by : (cs : List OnRadio) → r.items ≡ cs ++ h.left → r.carried ≡ length cs → counts (packets_on cs) ≡ known
        → IsRadio (record { items = rest; carried = r.carried - 1 }) (after_ack item.content.says known) waits × IsHead item.content.says known
    by [] items so_many knows = absurd (let zero_so : (r.carried == 0) ≡ true = ap (λ (k : ℕ). k == 0) so_many in let never : true ≡ false = sym zero_so ∙ some in cc)
    by (c ∷ cs) items so_many knows =
        let both : item ∷ rest ≡ c ∷ (cs ++ h.left) = sym is ∙ items in
        let same : c ≡ item = cc in
        let others : rest ≡ cs ++ h.left = cc in
        let after = known_after item.content.says (packets_on cs) known
        (ap counts (sym (packets_cons item cs)) ∙ ap (λ (x : OnRadio). counts (packets_on (x ∷ cs))) (sym same) ∙ knows) in
        let less : length (c ∷ cs) - 1 ≡ length cs = omega arith in (
          record {
            carried = cs;
            left = h.left;
            items = others;
            so_many = ap (λ (k : ℕ). k - 1) so_many ∙ less;
            known = after.0;
            waits = h.waits;
          },
          after.1,
        )

-- ---- more is put

pub more_put : (r : Radio (Written Pdu)) (known : List ℕ) (waits : List (ℕ × List ℕ)) → IsRadio r known waits → (more : List OnRadio)
    → IsRadio (record r { items = r.items ++ more }) known (waits ++ packets_on more)
more_put r known waits h more = record {
  carried = h.carried;
  left = h.left ++ more;
  items = ap (λ (zs : List OnRadio). zs ++ more) h.items ∙ append_assoc h.carried h.left more;
  so_many = h.so_many;
  known = h.known;
  waits = packets_both h.left more ∙ ap (λ (zs : List (ℕ × List ℕ)). zs ++ packets_on more) h.waits;
}

pub nothing_there : IsRadio silent [] []
unfolding packets_on
nothing_there = record { carried = []; left = []; items = refl; so_many = refl; known = refl; waits = refl }
