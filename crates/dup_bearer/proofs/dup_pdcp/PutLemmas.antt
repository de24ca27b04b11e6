-- PDUs that are put, one after another.
use Rattle.std.proofs.Common.{◌≡◌, ℕ, ◌≤◌, Bool, true, cond, nat_le, List, [], ◌∷◌, ◌++◌, length, refl, sym, ap, ◌∙◌, subst, arith, append_assoc}
use Rattle.std.specs.List.{AllByRecursion}
use Rattle.std.proofs.lemmas.List.{map-append}
use Rattle.std.proofs.lemmas.Bool.Decides.{nat_tests}
use Rattle.gnb_types.specs.declared.names.SnBits.{SnBits}
use Rattle.gnb_types.specs.declared.names.SnBits.TheVariants.{Len12, Len18}
use Rattle.pdcp.specs.Pdus.{radio_data}
use Rattle.pdcp.specs.declared.pdu.TheConstants.{PACKET_LIMIT}
use Rattle.dup_defs.specs.declared.types.leg.Leg.{Leg}
use Rattle.dup_defs.specs.declared.types.put.Put.{Put}
use Rattle.dup_defs.specs.Senders.{DupPut}
use Rattle.pdcp_bearers.specs.ue_bearers.Senders.{from_on}
use Rattle.dup_bearer.specs.dup_pdcp.Entity.{packet_in, IsPut, put_of, puts_of_code}
use Rattle.dup_bearer.specs.dup_pdcp.inside.Views.{IsPacket, PutsMore}

-- a PDU stands for its packet
pub read_back : (sn : SnBits) (count : ℕ) (packet : List ℕ) → packet_in sn (radio_data sn count packet) ≡ packet
unfolding radio_data
read_back Len12 count packet = refl
read_back Len18 count packet = refl

abbrev pub put : Leg → ℕ → List ℕ → Put
put leg count bytes = record { leg = leg; count = count; bytes = bytes }

abbrev pub shown : Leg → ℕ → List ℕ → DupPut
shown leg count packet = record { leg = leg; count = count; packet = packet }

module _ (sn : SnBits) where
  is_put : (leg : Leg) (count : ℕ) (bytes packet : List ℕ) → IsPacket packet → bytes ≡ radio_data sn count packet → IsPut sn (put leg count bytes)
  is_put leg count bytes packet sized is =
      let back : packet_in sn bytes ≡ packet = ap (packet_in sn) is ∙ read_back sn count packet in
      (is ∙ ap (radio_data sn count) (sym back), subst (λ (p : List ℕ). 1 ≤ length p) (sym back) sized.0, subst (λ (p : List ℕ). length p ≤ PACKET_LIMIT) (sym back) sized.1)

  all_more : (xs : List Put) (x : Put) → AllByRecursion (IsPut sn) xs → IsPut sn x → AllByRecursion (IsPut sn) (xs ++ x ∷ [])
  all_more [] x all one = (one, tt)
  all_more (y ∷ ys) x all one = (all.0, all_more ys x all.1 one)

  pub one_more : (old new : List Put) (leg : Leg) (count : ℕ) (bytes packet : List ℕ) → IsPacket packet → bytes ≡ radio_data sn count packet
      → new ≡ old ++ put leg count bytes ∷ [] → PutsMore sn old new (shown leg count packet ∷ [])
  one_more old new leg count bytes packet sized is pushed =
      let back : packet_in sn bytes ≡ packet = ap (packet_in sn) is ∙ read_back sn count packet in
      record {
        puts = ap (puts_of_code sn) pushed ∙ (map-append (put_of sn) old (put leg count bytes ∷ []) ∙ ap (λ (p : List ℕ). puts_of_code sn old ++ shown leg count p ∷ []) back);
        are = λ all. subst (λ (ps : List Put). AllByRecursion (IsPut sn) ps) (sym pushed) (all_more old (put leg count bytes) all (is_put leg count bytes packet sized is));
      }

  pub then_more : (a b c : List Put) (xs ys : List DupPut) → PutsMore sn a b xs → PutsMore sn b c ys → PutsMore sn a c (xs ++ ys)
  then_more a b c xs ys first second = record {
    puts = second.puts ∙ (ap (λ (ps : List DupPut). ps ++ ys) first.puts ∙ append_assoc (puts_of_code sn a) xs ys);
    are = λ all. second.are (first.are all);
  }

  -- what was put where nothing had been
  pub from_none : (old new : List Put) (more : List DupPut) → old ≡ [] → PutsMore sn old new more
      → (puts_of_code sn new ≡ more) × AllByRecursion (IsPut sn) new
  from_none old new more is puts =
      (puts.puts ∙ ap (λ (ps : List Put). puts_of_code sn ps ++ more) is, puts.are (subst (λ (ps : List Put). AllByRecursion (IsPut sn) ps) (sym is) tt))

-- from 0 on, all
pub all_from : (es : List (ℕ × List ℕ)) → from_on 0 es ≡ es
all_from [] = refl
all_from (e ∷ es) =
    let all = all_from es in
    let here : nat_le 0 e.0 ≡ true = grind (arith, nat_tests) in
    ap (λ (b : Bool). cond b (e ∷ from_on 0 es) (from_on 0 es)) here ∙ ap (λ (xs : List (ℕ × List ℕ)). e ∷ xs) all
