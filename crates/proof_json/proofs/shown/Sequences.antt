-- SEQUENCE: the members of its object, and the list of its additions.
use Rattle.std.proofs.Common.{◌≡◌, Bool, true, false, List, ◌∷◌, Option, Some, None, Ordering, Less, Equal, Greater, refl, sym, subst, ◌∙◌}
use Rattle.std.specs.Ordering.{nat_cmp, match_ordering}
use Rattle.std.specs.Cmp.Lexicographic.{slice_cmp}
use Rattle.std.specs.List.{IsDistinct}
use Rattle.serde_json.specs.Data.{Data, null, array, Items, Members, no_members, member, put}
use Rattle.serde_json.specs.Find.{get_member}
use Rattle.serde_json.proofs.Views.{get_member-put, get_member-put_other}
use Rattle.aper_defs.specs.Fields.{Path}
use Rattle.aper_defs.specs.Fields as ways
use Rattle.aper_defs.specs.Values.{Value, number, enumeral, bits, octets, components, raw, Options, no_options, absent, present}
use Rattle.aper_defs.specs.Membership.{AreRaw, Has, HasComponents, HasAdditions}
use Rattle.json_defs.specs.Named.{Named, NamedParts, sequence, no_parts, part, tree_of, parts_of, boolean, integer, enumerated, bit_string, octet_string, printable_string, choice, sequence_of, container, pdu}
use Rattle.json_defs.specs.Members.{Text, same_text, is_among, are_keys_among, is_null, dots}
use Rattle.json_defs.specs.Shown.{IsMember, RawShown, AreShown, Shows, ShowsComponents, ShowsAdditions, names_of}
use Rattle.proof_json.proofs.values.Holding.{both_true, first_true, second_true}
use Rattle.json_defs.specs.shown_defs.Names.{AreKeys}
use Rattle.json_defs.specs.shown_defs.Printed.{raws_shown, with_additions, shown_as, components_shown, added_shown}
use Rattle.proof_json.proofs.shown.Words.{IsSound, IsOther, AreAmong, unlike, turned, other_here, others_differ, all_among_more, among_first, each_among, raw_read}

abbrev pub AreSound : NamedParts → Type 0
AreSound no_parts = Unit {0}
AreSound (part name optional t others) = IsSound t × AreSound others

-- ---- members of an object
pub other_key : (parts : NamedParts) (vs : Options) (key : Text) → IsOther key (names_of parts)
    → get_member key (components_shown parts vs) ≡ None
unfolding components_shown
other_key no_parts vs key h = refl
other_key (part name optional t others) no_options key h = refl
other_key (part name optional t others) (absent vs) key h = other_key others vs key h.1
other_key (part name optional t others) (present v vs) key h =
    get_member-put_other key name (shown_as t v) (components_shown others vs) (unlike key name h.0) ∙ other_key others vs key h.1

-- two objects with the same members of these names
abbrev pub Agree : NamedParts → Members → Members → Type 0
Agree no_parts ms ns = Unit {0}
Agree (part name optional t others) ms ns = (get_member name ms ≡ get_member name ns) × Agree others ms ns

pub agree_itself : (parts : NamedParts) (ms : Members) → Agree parts ms ms
agree_itself no_parts ms = tt
agree_itself (part name optional t others) ms = (refl, agree_itself others ms)

pub agree_without : (parts : NamedParts) (key : Text) (d : Data) (ms ns : Members) → IsOther key (names_of parts)
    → Agree parts ms (put key d ns)
    → Agree parts ms ns
agree_without no_parts key d ms ns h a = tt
agree_without (part name optional t others) key d ms ns h a = (
  a.0 ∙ get_member-put_other name key d ns (unlike name key (turned key name h.0)),
  agree_without others key d ms ns h.1 a.1,
)

pub agree_put : (parts : NamedParts) (key : Text) (d : Data) (ms : Members) → IsOther key (names_of parts) → Agree parts (put key d ms) ms
agree_put no_parts key d ms h = tt
agree_put (part name optional t others) key d ms h =
    (get_member-put_other name key d ms (unlike name key (turned key name h.0)), agree_put others key d ms h.1)

components_read : (p : Path) (parts : NamedParts) → AreSound parts → IsDistinct same_text (names_of parts) → (ms : Members) (vs : Options)
    → HasComponents p (parts_of parts) vs → Agree parts ms (components_shown parts vs) → ShowsComponents parts ms vs
unfolding ShowsComponents HasComponents parts_of components_shown
components_read p no_parts s d ms no_options h a = tt
components_read p (part name optional t others) s d ms (absent vs) h a = (
  a.0 ∙ other_key others vs name (other_here name (names_of others) d),
  components_read p others s.1 (others_differ name (names_of others) d) ms vs h.1 a.1,
)
components_read p (part name optional t others) s d ms (present v vs) h a =
    let rest : Members = components_shown others vs in
    let there : get_member name ms ≡ Some (shown_as t v) = a.0 ∙ get_member-put name (shown_as t v) rest in (
      subst (λ (o : Option Data). IsMember o (λ e. Shows t e v)) (sym there) (s.0 (ways.component name ∷ p) v h.0),
      components_read p others s.1 (others_differ name (names_of others) d) ms vs h.1
          (agree_without others name (shown_as t v) ms rest (other_here name (names_of others) d) a.1),
    )
components_read p parts s d ms vs h a = absurd h

-- ---- no other members
module _ (keys : List Text) where
  among_put_by : (o : Ordering) (k l : Text) (d e : Data) (ms : Members) → is_among keys k ≡ true
      → are_keys_among keys (member l e ms) ≡ true → are_keys_among keys (put k d ms) ≡ true
      → are_keys_among keys (match_ordering o (member k d (member l e ms)) (member l d ms) (member l e (put k d ms))) ≡ true
  among_put_by Less k l d e ms new old rest = both_true (is_among keys k) (are_keys_among keys (member l e ms)) new old
  among_put_by Equal k l d e ms new old rest = old
  among_put_by Greater k l d e ms new old rest =
      both_true (is_among keys l) (are_keys_among keys (put k d ms))
      (first_true (is_among keys l) (are_keys_among keys ms) old) rest

  pub among_put : (k : Text) (d : Data) (ms : Members) → is_among keys k ≡ true → are_keys_among keys ms ≡ true
      → are_keys_among keys (put k d ms) ≡ true
  among_put k d no_members new old = both_true (is_among keys k) true new refl
  among_put k d (member l e ms) new old =
      among_put_by (slice_cmp nat_cmp k l) k l d e ms new old
      (among_put k d ms new (second_true (is_among keys l) (are_keys_among keys ms) old))

  pub components_among : (parts : NamedParts) (vs : Options) → AreAmong keys (names_of parts)
      → are_keys_among keys (components_shown parts vs) ≡ true
  unfolding components_shown
  components_among no_parts vs h = refl
  components_among (part name optional t others) no_options h = refl
  components_among (part name optional t others) (absent vs) h = components_among others vs h.1
  components_among (part name optional t others) (present v vs) h =
      among_put name (shown_as t v) (components_shown others vs) h.0 (components_among others vs h.1)

-- ---- additions
raws_read : (more : Options) → AreRaw more → RawShown (raws_shown more) more
raws_read no_options h = tt
raws_read (absent more) h = raws_read more h
raws_read (present (raw os) more) h = (raw_read (raw os) h.0, raws_read more h.1)
raws_read (present v more) h = absurd h.0

no_null : (t : Named) (v : Value) → Shows t null v → ⊥
unfolding Shows
no_null boolean v h = absurd h
no_null (integer low high extensible) (number z) h = cc
no_null (integer low high extensible) v h = absurd h
no_null (enumerated root additions extensible) (enumeral i) h = absurd h
no_null (enumerated root additions extensible) v h = absurd h
no_null (bit_string size) (bits bs) h = cc
no_null (bit_string size) v h = absurd h
no_null (octet_string size) (octets os) h = cc
no_null (octet_string size) v h = absurd h
no_null (printable_string size) v h = absurd h
no_null (sequence extensible root additions) v h = absurd h
no_null (choice extensible root additions) v h = absurd h
no_null (sequence_of size t) v h = absurd h
no_null (container rows) v h = absurd h
no_null (pdu rows) v h = absurd h

not_null : (t : Named) (d : Data) (v : Value) → Shows t d v → is_null d ≡ false
not_null t null v h = absurd (no_null t v h)
not_null t d v h = refl

added_read : (p : Path) (parts : NamedParts) → AreSound parts → (more : Options) → HasAdditions p (parts_of parts) more
    → ShowsAdditions parts (added_shown parts more) more
unfolding ShowsAdditions HasAdditions parts_of added_shown
added_read p no_parts s more h = raws_read more h
added_read p (part name optional t others) s no_options h = tt
added_read p (part name optional t others) s (absent more) h = (refl, added_read p others s.1 more h)
added_read p (part name optional t others) s (present v more) h =
    let one = s.0 (ways.component name ∷ p) v h.0 in
    (not_null t (shown_as t v) v one, one, added_read p others s.1 more h.2)

-- ---- the whole
module _ (root additions : NamedParts) (r : AreSound root) (a : AreSound additions) (k : AreKeys (names_of root)) where
  differ : IsDistinct same_text (names_of root)
  differ = others_differ dots (names_of root) k

  abbrev pub object_of : Options → Options → Members
  object_of vs more = with_additions more (added_shown additions more) (components_shown root vs)

  pub more_there : (vs : Options) (ds : Items)
      → get_member dots (put dots (array ds) (components_shown root vs)) ≡ Some (array ds)
  more_there vs ds = get_member-put dots (array ds) (components_shown root vs)

  pub agree_whole : (vs more : Options) → Agree root (object_of vs more) (components_shown root vs)
  agree_whole vs no_options = agree_itself root (components_shown root vs)
  agree_whole vs (absent more) =
      agree_put root dots (array (added_shown additions (absent more))) (components_shown root vs) (other_here dots (names_of root) k)
  agree_whole vs (present v more) =
      agree_put root dots (array (added_shown additions (present v more))) (components_shown root vs) (other_here dots (names_of root) k)

  additions_read : (p : Path) (vs more : Options) → HasAdditions p (parts_of additions) more
      → AreShown (get_member dots (object_of vs more)) (λ ds xs. ShowsAdditions additions ds xs) more
  additions_read p vs no_options h =
      subst (λ (o : Option Data). AreShown o (λ ds xs. ShowsAdditions additions ds xs) no_options)
      (sym (other_key root vs dots (other_here dots (names_of root) k))) refl
  additions_read p vs (absent more) h =
      subst (λ (o : Option Data). AreShown o (λ ds xs. ShowsAdditions additions ds xs) (absent more))
      (sym (more_there vs (added_shown additions (absent more)))) (refl, added_read p additions a (absent more) h)
  additions_read p vs (present v more) h =
      subst (λ (o : Option Data). AreShown o (λ ds xs. ShowsAdditions additions ds xs) (present v more))
      (sym (more_there vs (added_shown additions (present v more)))) (refl, added_read p additions a (present v more) h)

  own_keys : (vs : Options) → are_keys_among (dots ∷ names_of root) (components_shown root vs) ≡ true
  own_keys vs =
      components_among (dots ∷ names_of root) root vs (all_among_more dots (names_of root) (names_of root) (each_among (names_of root)))

  pub keys_in : (vs more : Options) → are_keys_among (dots ∷ names_of root) (object_of vs more) ≡ true
  keys_in vs no_options = own_keys vs
  keys_in vs (absent more) =
      among_put (dots ∷ names_of root) dots (array (added_shown additions (absent more))) (components_shown root vs)
      (among_first dots (names_of root)) (own_keys vs)
  keys_in vs (present v more) =
      among_put (dots ∷ names_of root) dots (array (added_shown additions (present v more))) (components_shown root vs)
      (among_first dots (names_of root)) (own_keys vs)

  pub sequence_read : (extensible : Bool) → IsSound (sequence extensible root additions)
  unfolding Has Shows shown_as tree_of
  sequence_read true p (components vs more) h = (
    components_read p root r differ (object_of vs more) vs h.0 (agree_whole vs more),
    additions_read p vs more h.2,
    keys_in vs more,
  )
  sequence_read false p (components vs no_options) h = (
    components_read p root r differ (components_shown root vs) vs h.0 (agree_itself root (components_shown root vs)),
    refl,
    components_among (names_of root) root vs (each_among (names_of root)),
  )
  sequence_read false p (components vs (absent more)) h = let e : false ≡ true = h.1.0 in cc
  sequence_read false p (components vs (present v more)) h = let e : false ≡ true = h.1.0 in cc
  sequence_read extensible p v h = absurd h
