-- Alternatives of a CHOICE.
use Rattle.std.proofs.Common.{◌≡◌, ℕ, zero, suc, ◌+◌, ◌-◌, ◌<◌, ◌≤◌, List, [], ◌∷◌, ◌++◌, length, get_or, Bool, true, cond, ◌&&◌, Option, Some, None, Result, refl, sym, ap, subst, ◌∙◌, arith}
use Rattle.std.proofs.lemmas.Option.{same_Some}
use Rattle.serde_json.specs.Data.{Data, object, Members}
use Rattle.serde_json.specs.Find.{get_member}
use Rattle.asn1_syntax.specs.declared.types.definition.Component.{Component}
use Rattle.aper_defs.specs.Fields.{Path}
use Rattle.aper_defs.specs.Fields as ways
use Rattle.aper_defs.specs.Values as seen
use Rattle.aper_values.specs.declared.value.Value.{Value}
use Rattle.json_defs.specs.Named.{Named, choice}
use Rattle.json_defs.specs.Members.{dots, has_member, member_of}
use Rattle.json_defs.specs.Shown.{count_of}
use Rattle.json_defs.specs.Readings.{or_else, first_of, numbered, read_if, chosen_in, past_in, past_raw_in, value_of, alternative_in}
use Rattle.json_defs.specs.Demands.{Demand, shape, range, fits_open, past_demands, only_member, on_members, demands, alternative_demands, addition_demands}
use Rattle.json_defs.specs.type_defs.Types.{parts_with}
use Rattle.json_fields.specs.declared.simple.refusal.Refusal.{Refusal}
use Rattle.json_fields.specs.parts.Parts.{part_in}
use Rattle.json_read.specs.wholes.Reads.{ReadsAs}
use Rattle.json_read.proofs.wholes.Demanded.{reads_later, reads_same}

pub same_item : {A : Type 0} (xs : List A) (i : ℕ) (x y : A) → i < length xs → get_or xs i x ≡ get_or xs i y
same_item [] i x y lt = absurd (omega arith)
same_item (z ∷ xs) zero x y lt = refl
same_item (z ∷ xs) (suc i) x y lt = same_item xs i x y (omega arith)

module _ (of : ℕ → Named) (ms : Members) where
  pub parts_count : (cs : List Component) → count_of (parts_with of cs) ≡ length cs
  parts_count [] = refl
  parts_count (c ∷ cs) = ap suc (parts_count cs)

  -- ---- none of the parts is there
  pub record AreMissing (cs : List Component) : Type 0 where
    pub asked : (p : Path) → alternative_demands p (parts_with of cs) ms ≡ None
    pub added : (p : Path) → addition_demands p (parts_with of cs) ms ≡ None
    pub read : (first : ℕ) → alternative_in (parts_with of cs) first ms ≡ None

  pub missing : (cs : List Component) (i : ℕ) → part_in cs i ms ≡ None → AreMissing cs
  unfolding alternative_demands addition_demands alternative_in
  missing [] i h = record { asked = λ p. refl; added = λ p. refl; read = λ first. refl }
  missing (c ∷ cs) i h = by_member (missing cs (suc i)) (get_member c.name ms) refl h
    where
      by_member : (part_in cs (suc i) ms ≡ None → AreMissing cs) → (o : Option Data) → get_member c.name ms ≡ o
          → first_of (numbered i o) (part_in cs (suc i) ms) ≡ None → AreMissing (c ∷ cs)
      by_member again (Some d) e g = cc
      by_member again None e g =
          let m = again g in record {
            asked =
                λ p. ap (λ (o : Option Data). first_of (on_members (λ d. demands (ways.component c.name ∷ p) (of c.definition.number) d ++ only_member p ms) o)
                (alternative_demands p (parts_with of cs) ms)) e ∙ m.asked p;
            added =
                λ p. ap (λ (o : Option Data). first_of (on_members (λ d. demands (ways.component c.name ∷ p) (of c.definition.number) d
                ++ (only_member p ms ++ range (ways.component c.name ∷ p) (fits_open (ways.component c.name ∷ p) (of c.definition.number) d) ∷ [])) o)
                (addition_demands p (parts_with of cs) ms)) e ∙ m.added p;
            read =
                λ first. ap (λ (o : Option Data). first_of (numbered first (read_if (λ d. value_of (of c.definition.number) d) o))
                (alternative_in (parts_with of cs) (suc first) ms)) e ∙ m.read (suc first);
          }

  -- ---- one is
  not_before : (cs : List Component) (i j : ℕ) (d : Data) → part_in cs i ms ≡ Some (j, d) → i ≤ j
  not_before [] i j d h = cc
  not_before (c ∷ cs) i j d h = by_member (not_before cs (suc i) j d) (get_member c.name ms) h
    where
      by_member : (part_in cs (suc i) ms ≡ Some (j, d) → suc i ≤ j) → (o : Option Data)
          → first_of (numbered i o) (part_in cs (suc i) ms) ≡ Some (j, d) → i ≤ j
      by_member again None g = omega (arith, again g)
      by_member again (Some e) g = let same : i ≡ j = ap (λ (q : ℕ × Data). q.0) (same_Some _ _ g) in omega (arith, same)

  pub record IsFound (cs : List Component) (k : ℕ) (c : Component) (d : Data) : Type 0 where
    pub asked : (p : Path) → alternative_demands p (parts_with of cs) ms
        ≡ Some (demands (ways.component c.name ∷ p) (of c.definition.number) d ++ only_member p ms)
    pub added : (p : Path) → addition_demands p (parts_with of cs) ms
        ≡ Some (demands (ways.component c.name ∷ p) (of c.definition.number) d
        ++ (only_member p ms ++ range (ways.component c.name ∷ p) (fits_open (ways.component c.name ∷ p) (of c.definition.number) d) ∷ []))
    pub read : (first : ℕ) → alternative_in (parts_with of cs) first ms ≡ Some (first + k, value_of (of c.definition.number) d)
    pub there : Some d ≡ get_member c.name ms

  module _ (x : Component) (cs : List Component) where
    abbrev asked_so : Path → Option Data → Option (List Demand)
    asked_so p o = first_of (on_members (λ d. demands (ways.component x.name ∷ p) (of x.definition.number) d ++ only_member p ms) o)
        (alternative_demands p (parts_with of cs) ms)

    abbrev added_so : Path → Option Data → Option (List Demand)
    added_so p o = first_of (on_members (λ d. demands (ways.component x.name ∷ p) (of x.definition.number) d
        ++ (only_member p ms ++ range (ways.component x.name ∷ p) (fits_open (ways.component x.name ∷ p) (of x.definition.number) d) ∷ [])) o)
        (addition_demands p (parts_with of cs) ms)

    abbrev read_so : ℕ → Option Data → Option (ℕ × seen.Value)
    read_so first o = first_of (numbered first (read_if (λ d. value_of (of x.definition.number) d) o))
        (alternative_in (parts_with of cs) (suc first) ms)

    here : (d : Data) → get_member x.name ms ≡ Some d → IsFound (x ∷ cs) 0 x d
    unfolding alternative_demands addition_demands alternative_in
    here d e = record {
      asked = λ p. ap (asked_so p) e;
      added = λ p. ap (added_so p) e;
      read =
          λ first. ap (read_so first) e
          ∙ ap (λ (n : ℕ). Some (n, value_of (of x.definition.number) d)) (let same : first ≡ first + 0 = omega arith in same);
      there = sym e;
    }

    further : (k : ℕ) (c : Component) (d : Data) → get_member x.name ms ≡ None → IsFound cs k c d → IsFound (x ∷ cs) (suc k) c d
    unfolding alternative_demands addition_demands alternative_in
    further k c d e f = record {
      asked = λ p. ap (asked_so p) e ∙ f.asked p;
      added = λ p. ap (added_so p) e ∙ f.added p;
      read =
          λ first. ap (read_so first) e ∙ f.read (suc first)
          ∙ ap (λ (n : ℕ). Some (n, value_of (of c.definition.number) d)) (let same : suc first + k ≡ first + suc k = omega arith in same);
      there = f.there;
    }

  pub found : (cs : List Component) (i k : ℕ) (c : Component) (d : Data) → part_in cs i ms ≡ Some (i + k, d) → c ≡ get_or cs k c
      → k < length cs → IsFound cs k c d
  found [] i k c d h is lt = absurd (omega arith)
  found (x ∷ cs) i k c d h is lt =
      by_member (λ n g at small. found cs (suc i) n c d g at small) (not_before cs (suc i)) (get_member x.name ms) refl k h is lt
    where
      by_member : ((n : ℕ) → part_in cs (suc i) ms ≡ Some (suc i + n, d) → c ≡ get_or cs n c → n < length cs → IsFound cs n c d)
          → ((j : ℕ) (e : Data) → part_in cs (suc i) ms ≡ Some (j, e) → suc i ≤ j)
          → (o : Option Data) → get_member x.name ms ≡ o → (n : ℕ) → first_of (numbered i o) (part_in cs (suc i) ms) ≡ Some (i + n, d)
          → c ≡ get_or (x ∷ cs) n c → n < length (x ∷ cs) → IsFound (x ∷ cs) n c d
      by_member again after None e zero g at small = absurd (omega (arith, after (i + 0) d g))
      by_member again after None e (suc n) g at small =
          further x cs n c d e (again n (g ∙ ap (λ (j : ℕ). Some (j, d)) (let f : i + suc n ≡ suc i + n = omega arith in f)) at (omega (arith, small)))
      by_member again after (Some f) e zero g at small =
          let same : f ≡ d = ap (λ (q : ℕ × Data). q.1) (same_Some _ _ g) in
          subst (λ (y : Component). IsFound (x ∷ cs) 0 y d) (sym at) (here x cs d (e ∙ ap Some same))
      by_member again after (Some f) e (suc n) g at small = let same : i ≡ i + suc n = ap (λ (q : ℕ × Data). q.0) (same_Some _ _ g) in absurd (omega (arith, same))

  -- ---- the whole
  module _ (extensible : Bool) (root additions : List Component) where
    abbrev type : Named
    type = choice extensible (parts_with of root) (parts_with of additions)

    abbrev past_asked : Path → List Demand
    past_asked p = shape p (extensible && has_member dots ms)
        ∷ (past_demands p (64 - count_of (parts_with of additions)) (member_of dots ms) ++ only_member p ms)

    whole : (which : Path → Option (List Demand)) (value : Option (ℕ × seen.Value)) (answer : Result Value Refusal)
        → ((p : Path) → first_of (alternative_demands p (parts_with of root) ms) (addition_demands p (parts_with of additions) ms) ≡ which p)
        → first_of (alternative_in (parts_with of root) 0 ms) (alternative_in (parts_with of additions) (count_of (parts_with of root)) ms) ≡ value
        → ReadsAs (λ p. or_else (past_asked p) (which p))
        (chosen_in (count_of (parts_with of root) + count_of (parts_with of additions)) ms value) answer
        → ReadsAs (λ p. demands p type (object ms)) (value_of type (object ms)) answer
    unfolding demands value_of
    whole which value answer asked read h =
        reads_later _ (λ p. shape p true ∷ [])
        (λ p. or_else (past_asked p) (first_of (alternative_demands p (parts_with of root) ms) (addition_demands p (parts_with of additions) ms)))
        answer (λ p. refl)
        (reads_same _ _ (λ p. or_else (past_asked p) (which p)) _ answer (λ p. ap (or_else (past_asked p)) (asked p))
        (ap (chosen_in (count_of (parts_with of root) + count_of (parts_with of additions)) ms) read) h)

    pub root_whole : (k : ℕ) (c : Component) (d : Data) (answer : Result Value Refusal) → IsFound root k c d
        → ReadsAs (λ p. demands (ways.component c.name ∷ p) (of c.definition.number) d ++ only_member p ms)
        (seen.chosen k (value_of (of c.definition.number) d)) answer
        → ReadsAs (λ p. demands p type (object ms)) (value_of type (object ms)) answer
    root_whole k c d answer f h =
        whole (λ p. Some (demands (ways.component c.name ∷ p) (of c.definition.number) d ++ only_member p ms))
        (Some (k, value_of (of c.definition.number) d)) answer
        (λ p. ap (λ (o : Option (List Demand)). first_of o (addition_demands p (parts_with of additions) ms)) (f.asked p))
        (ap (λ (o : Option (ℕ × seen.Value)). first_of o (alternative_in (parts_with of additions) (count_of (parts_with of root)) ms)) (f.read 0)
        ∙ ap (λ (n : ℕ). Some (n, value_of (of c.definition.number) d)) (let same : 0 + k ≡ k = omega arith in same))
        h

    pub addition_whole : (k i : ℕ) (c : Component) (d : Data) (answer : Result Value Refusal) → AreMissing root → IsFound additions k c d
        → i ≡ length root + k
        → ReadsAs (λ p. demands (ways.component c.name ∷ p) (of c.definition.number) d
        ++ (only_member p ms ++ range (ways.component c.name ∷ p) (fits_open (ways.component c.name ∷ p) (of c.definition.number) d) ∷ []))
        (seen.chosen i (value_of (of c.definition.number) d)) answer
        → ReadsAs (λ p. demands p type (object ms)) (value_of type (object ms)) answer
    addition_whole k i c d answer none f at h =
        whole (λ p. Some (demands (ways.component c.name ∷ p) (of c.definition.number) d
        ++ (only_member p ms ++ range (ways.component c.name ∷ p) (fits_open (ways.component c.name ∷ p) (of c.definition.number) d) ∷ [])))
        (Some (i, value_of (of c.definition.number) d)) answer
        (λ p. ap (λ (o : Option (List Demand)). first_of o (addition_demands p (parts_with of additions) ms)) (none.asked p) ∙ f.added p)
        (ap (λ (o : Option (ℕ × seen.Value)). first_of o (alternative_in (parts_with of additions) (count_of (parts_with of root)) ms)) (none.read 0)
        ∙ f.read (count_of (parts_with of root))
        ∙ ap (λ (n : ℕ). Some (n, value_of (of c.definition.number) d)) (ap (λ (n : ℕ). n + k) (parts_count root) ∙ sym at))
        h

    pub past_whole : (known room : ℕ) (answer : Result Value Refusal) → AreMissing root → AreMissing additions
        → known ≡ length root + length additions → room ≡ 64 - length additions
        → ReadsAs (λ p. shape p (extensible && has_member dots ms) ∷ (past_demands p room (member_of dots ms) ++ only_member p ms))
        (seen.chosen (known + past_in (member_of dots ms)) (past_raw_in (member_of dots ms))) answer
        → ReadsAs (λ p. demands p type (object ms)) (value_of type (object ms)) answer
    past_whole known room answer none more k r h =
        let a = parts_count root in
        let b = parts_count additions in
        let count : count_of (parts_with of root) + count_of (parts_with of additions) ≡ known = omega (arith, a, b, k) in
        let left : 64 - count_of (parts_with of additions) ≡ room = omega (arith, b, r) in
        whole (λ p. None) None answer
        (λ p. ap (λ (o : Option (List Demand)). first_of o (addition_demands p (parts_with of additions) ms)) (none.asked p) ∙ more.added p)
        (ap (λ (o : Option (ℕ × seen.Value)). first_of o (alternative_in (parts_with of additions) (count_of (parts_with of root)) ms)) (none.read 0)
        ∙ more.read (count_of (parts_with of root)))
        (reads_same _ (λ p. past_asked p)
        (λ p. shape p (extensible && has_member dots ms) ∷ (past_demands p room (member_of dots ms) ++ only_member p ms)) _ answer
        (λ p. ap (λ (n : ℕ). shape p (extensible && has_member dots ms) ∷ (past_demands p n (member_of dots ms) ++ only_member p ms)) left)
        (ap (λ (n : ℕ). seen.chosen (n + past_in (member_of dots ms)) (past_raw_in (member_of dots ms))) count) h)

  pub found_in : (cs : List Component) (i : ℕ) (c : Component) (d : Data) → Some (i, d) ≡ part_in cs 0 ms → i < length cs → c ≡ get_or cs i c
      → IsFound cs i c d
  found_in cs i c d h lt is = found cs 0 i c d (sym h ∙ ap (λ (n : ℕ). Some (n, d)) (let e : i ≡ 0 + i = omega arith in e)) is lt
