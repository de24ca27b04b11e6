-- Objects in order of SEQUENCE.
use Rattle.std.proofs.Common.{◌≡◌, Bool, true, false, ◌∷◌, Option, Some, None, refl, sym, subst, ◌∙◌}
use Rattle.std.specs.List.{IsDistinct}
use Rattle.serde_json.specs.Data.{Data, null, array, object, Items, no_items, item, Members}
use Rattle.serde_json.specs.Find.{get_member}
use Rattle.serde_json.proofs.Views.{get_member-put}
use Rattle.aper_defs.specs.Values.{components, Options, no_options, absent, present, has_options}
use Rattle.json_defs.specs.Named.{NamedParts, sequence, no_parts, part}
use Rattle.json_defs.specs.Members.{same_text, are_keys_among, dots}
use Rattle.json_defs.specs.Shown.{RawShown, AreShown, Shows, ShowsComponents, ShowsAdditions, names_of}
use Rattle.json_defs.specs.shown_defs.Names.{AreKeys}
use Rattle.json_defs.specs.shown_defs.Order.{AreOrdered, AreMembersOrdered}
use Rattle.json_defs.specs.shown_defs.Alike.{Alike, AreItemsAlike}
use Rattle.json_defs.specs.shown_defs.Printed.{raws_shown, with_additions, shown_as, components_shown, added_shown}
use Rattle.proof_json.proofs.shown.Words.{other_here, others_differ, all_among_more, among_first, each_among}
use Rattle.proof_json.proofs.shown.Sequences.{Agree, agree_itself, agree_without, agree_put, other_key, among_put, components_among}
use Rattle.proof_json.proofs.order.Ordered.{components_ordered, added_ordered, additions_ordered}
use Rattle.law_json.proofs.one.Members.{AreBoth, AtEach, both_are, alike_by_keys, member_ordered}
use Rattle.law_json.proofs.one.Trees.{IsOne, raw_alike}
use Rattle.law_json.proofs.one.Inside.{AreOne, at_one, alike_there}

components_one : (parts : NamedParts) → AreOne parts → IsDistinct same_text (names_of parts) → (ms ns : Members) (vs : Options)
    → AreMembersOrdered ms → ShowsComponents parts ms vs → Agree parts ns (components_shown parts vs) → AtEach (names_of parts) ms ns
unfolding ShowsComponents components_shown
components_one no_parts l d ms ns vs o h a = tt
components_one (part name optional t others) l d ms ns (absent vs) o h a = (
  both_are None None (get_member name ms) (get_member name ns) (sym h.0)
      (sym (a.0 ∙ other_key others vs name (other_here name (names_of others) d))) tt,
  components_one others l.1 (others_differ name (names_of others) d) ms ns vs o h.1 a.1,
)
components_one (part name optional t others) l d ms ns (present v vs) o h a =
    let rest : Members = components_shown others vs in (
      at_one (get_member name ms) (get_member name ns) (shown_as t v)
          (alike_there ms o name (shown_as t v) (λ e. Shows t e v) (λ e g p. l.0 e v g p) h.0)
          (a.0 ∙ get_member-put name (shown_as t v) rest),
      components_one others l.1 (others_differ name (names_of others) d) ms ns vs o h.1
          (agree_without others name (shown_as t v) ns rest (other_here name (names_of others) d) a.1),
    )
components_one parts l d ms ns vs o h a = absurd h

raws_one : (ds : Items) (more : Options) → RawShown ds more → AreItemsAlike ds (raws_shown more)
raws_one no_items no_options h = tt
raws_one (item null ds) (absent more) h = (tt, raws_one ds more h)
raws_one (item d ds) (present v more) h = (raw_alike d v h.0, raws_one ds more h.1)
raws_one ds more h = absurd h

null_alike : (d : Data) → d ≡ null → Alike d null
null_alike d e = subst (λ (x : Data). Alike x null) (sym e) tt

added_one : (parts : NamedParts) → AreOne parts → (ds : Items) (more : Options) → ShowsAdditions parts ds more → AreOrdered ds
    → AreItemsAlike ds (added_shown parts more)
unfolding ShowsAdditions added_shown
added_one no_parts l ds more h o = raws_one ds more h
added_one (part name optional t others) l no_items no_options h o = tt
added_one (part name optional t others) l (item d ds) (absent more) h o = (null_alike d h.0, added_one others l.1 ds more h.1 o.1)
added_one (part name optional t others) l (item d ds) (present v more) h o =
    (l.0 d v h.1 o.0, added_one others l.1 ds more h.2 o.1)
added_one parts l ds more h o = absurd h

module _ (root additions : NamedParts) (r : AreOne root) (a : AreOne additions) (k : AreKeys (names_of root)) where
  differ : IsDistinct same_text (names_of root)
  differ = others_differ dots (names_of root) k

  abbrev whole : Options → Options → Members
  whole vs more = with_additions more (added_shown additions more) (components_shown root vs)

  agrees : (vs more : Options) (ds : Items) → Agree root (with_additions more ds (components_shown root vs)) (components_shown root vs)
  agrees vs no_options ds = agree_itself root (components_shown root vs)
  agrees vs (absent more) ds = agree_put root dots (array ds) (components_shown root vs) (other_here dots (names_of root) k)
  agrees vs (present v more) ds = agree_put root dots (array ds) (components_shown root vs) (other_here dots (names_of root) k)

  own_keys : (vs : Options) → are_keys_among (dots ∷ names_of root) (components_shown root vs) ≡ true
  own_keys vs =
      components_among (dots ∷ names_of root) root vs (all_among_more dots (names_of root) (names_of root) (each_among (names_of root)))

  whole_keys : (vs more : Options) (ds : Items)
      → are_keys_among (dots ∷ names_of root) (with_additions more ds (components_shown root vs)) ≡ true
  whole_keys vs no_options ds = own_keys vs
  whole_keys vs (absent more) ds =
      among_put (dots ∷ names_of root) dots (array ds) (components_shown root vs) (among_first dots (names_of root)) (own_keys vs)
  whole_keys vs (present v more) ds =
      among_put (dots ∷ names_of root) dots (array ds) (components_shown root vs) (among_first dots (names_of root)) (own_keys vs)

  put_there : (vs more : Options) (ds : Items) → has_options more ≡ true
      → get_member dots (with_additions more ds (components_shown root vs)) ≡ Some (array ds)
  put_there vs no_options ds h = cc
  put_there vs (absent more) ds h = get_member-put dots (array ds) (components_shown root vs)
  put_there vs (present v more) ds h = get_member-put dots (array ds) (components_shown root vs)

  none_there : (vs more : Options) (ds : Items) → has_options more ≡ false
      → get_member dots (with_additions more ds (components_shown root vs)) ≡ None
  none_there vs no_options ds h = other_key root vs dots (other_here dots (names_of root) k)
  none_there vs (absent more) ds h = cc
  none_there vs (present v more) ds h = cc

  more_one : (vs more : Options) (ms : Members) → AreMembersOrdered ms → (c : Option Data) → get_member dots ms ≡ c
      → AreShown c (λ ds xs. ShowsAdditions additions ds xs) more → AreBoth (get_member dots ms) (get_member dots (whole vs more))
  more_one vs more ms o None e h =
      both_are None None (get_member dots ms) (get_member dots (whole vs more)) (sym e)
      (sym (none_there vs more (added_shown additions more) h)) tt
  more_one vs more ms o (Some (array ds)) e h =
      both_are (Some (array ds)) (Some (array (added_shown additions more))) (get_member dots ms) (get_member dots (whole vs more)) (sym e)
      (sym (put_there vs more (added_shown additions more) h.0))
      (added_one additions a ds more h.1 (member_ordered dots ms (array ds) o e))
  more_one vs more ms o (Some d) e h = absurd h

  ordered : (vs more : Options) → AreMembersOrdered (whole vs more)
  ordered vs more =
      additions_ordered more (added_shown additions more) (components_shown root vs) (added_ordered additions more)
      (components_ordered root vs)

  pub sequence_one : (extensible : Bool) → IsOne (sequence extensible root additions)
  unfolding Shows shown_as
  sequence_one true (object ms) (components vs more) h o =
      alike_by_keys (dots ∷ names_of root) ms (whole vs more) o (ordered vs more) h.2
      (whole_keys vs more (added_shown additions more)) (
        more_one vs more ms o (get_member dots ms) refl h.1,
        components_one root r differ ms (whole vs more) vs o h.0 (agrees vs more (added_shown additions more)),
      )
  sequence_one false (object ms) (components vs no_options) h o =
      alike_by_keys (names_of root) ms (components_shown root vs) o (components_ordered root vs) h.2
      (components_among (names_of root) root vs (each_among (names_of root)))
      (components_one root r differ ms (components_shown root vs) vs o h.0 (agree_itself root (components_shown root vs)))
  sequence_one false (object ms) (components vs (absent more)) h o = let e : true ≡ false = h.1 in cc
  sequence_one false (object ms) (components vs (present v more)) h o = let e : true ≡ false = h.1 in cc
  sequence_one extensible d v h o = absurd h
