-- Before the first octet.
use Rattle.std.proofs.Common.{◌≡◌, ℕ, ◌*◌, ◌<◌, List, [], length, map, sym, ap, subst, ◌∙◌, arith}
use Rattle.std.specs.Prelude.{reverse}
use Rattle.asn1_syntax.specs.declared.assignments.assignment.Syntax.{Syntax}
use Rattle.asn1_syntax.specs.declared.types.definition.TypeId.{TypeId}
use Rattle.aper_defs.specs.Trees.{Tree}
use Rattle.aper_defs.specs.Questions.{Prog}
use Rattle.aper_defs.specs.Reading.{Cursor, at_first}
use Rattle.aper_cursor.specs.declared.cursor.Span.{Span}
use Rattle.aper_cursor.specs.Spans.{span_view}
use Rattle.aper_values.specs.types.Types.{tree}
use Rattle.aper_frames.specs.declared.frame.Frame.{Frame}
use Rattle.aper_decode.specs.Heavy.{heavy}
use Rattle.aper_decode.proofs.HeavyLemmas.{weighed_inside}
use Rattle.aper_stream.specs.declared.resuming.pending.Pending.TheVariants as pendings
use Rattle.aper_stream.specs.resuming.Turns.{left}
use Rattle.aper_stream.specs.aper_resuming.Reading.{IsReading}
use Rattle.aper_stream.proofs.aper_resuming.Turned.{at_beginning}
use Rattle.aper_stream.specs.declared.steps.step.Next.{Next}
use Rattle.aper_stream.specs.steps.Steps.{next_left, IsPendingLight, IsNextLight, IsNextBounded}
use Rattle.aper_stream.specs.declared.decoder.decoder.Reader.{Reader}
use Rattle.aper_stream.specs.decoder.inside.Reading.{cursor_at, Stands, IsReadingAt}
use Rattle.aper_stream.specs.decoder.inside.States.{type_of, front, IsNew, IsFed}

first_light : (m : Syntax) (id : TypeId) → id.number < length m.nodes → IsPendingLight m (pendings.Read id) []
first_light m id h = (2 * heavy (tree m id.number), λ other. omega (arith, weighed_inside m other id.number h))

module _ (m : Syntax) (id : TypeId) (r : Reader) (is : IsNew m id r) (next : Next)
    (inside : id.number < length m.nodes)
    (same : (fs : List Frame) → next_left (tree m) next fs ≡ left (tree m) (pendings.Read id) fs)
    (light : (fs : List Frame) → IsPendingLight m (pendings.Read id) fs → IsNextLight m next fs)
    (bounded : (place : ℕ) → IsNextBounded place next) where
  pub new_type : type_of r ≡ tree m id.number
  new_type = ap (λ x. tree x r.id.number) is.module_is ∙ ap (λ (i : TypeId). tree m i.number) is.id_is

  pub new_inside : r.id.number < length r.module.now.nodes
  new_inside =
      subst (λ (x : Syntax). r.id.number < length x.nodes) (sym is.module_is)
      (subst (λ (i : TypeId). i.number < length m.nodes) (sym is.id_is) inside)

  nothing : front r.kept.items ≡ []
  nothing = ap front is.kept

  first_cursor : at_first [] ≡ cursor_at r.spot []
  first_cursor =
      ap (λ (n : ℕ). (let c : Cursor = record { octets = []; place = n; opens = [] } in c)) (sym is.place)
      ∙ ap (λ (spans : List Span). (let c : Cursor = record { octets = []; place = r.spot.place; opens = map span_view (reverse spans) } in c)) (sym is.spans)

  first_reading : IsReadingAt m (tree m id.number) [] r.spot next []
  first_reading =
      subst (λ (c : Cursor). IsReading (tree m id.number) [] c (next_left (tree m) next [])) first_cursor
      (subst (λ (P : Prog). IsReading (tree m id.number) [] (at_first []) P) (sym (same []))
      (at_beginning (tree m id.number) []))

  first_stands : Stands m 0 r.spot next []
  first_stands = record {
    inside = (omega (arith, is.place), omega (arith, is.place));
    light = light [] (first_light m id inside);
    bounded = bounded r.spot.place;
  }

  pub new_fed : IsFed r next
  new_fed =
      let reading : IsReadingAt r.module.now (type_of r) (front r.kept.items) r.spot next r.frames =
      subst (λ (fs : List Frame). IsReadingAt r.module.now (type_of r) (front r.kept.items) r.spot next fs) (sym is.frames)
      (subst (λ (x : Syntax). IsReadingAt x (type_of r) (front r.kept.items) r.spot next []) (sym is.module_is)
      (subst (λ (t : Tree). IsReadingAt m t (front r.kept.items) r.spot next []) (sym new_type)
      (subst (λ (os : List ℕ). IsReadingAt m (tree m id.number) os r.spot next []) (sym nothing) first_reading))) in
      let stands : Stands r.module.now (length (front r.kept.items)) r.spot next r.frames =
      subst (λ (fs : List Frame). Stands r.module.now (length (front r.kept.items)) r.spot next fs) (sym is.frames)
      (subst (λ (x : Syntax). Stands x (length (front r.kept.items)) r.spot next []) (sym is.module_is)
      (subst (λ (os : List ℕ). Stands m (length os) r.spot next []) (sym nothing) first_stands)) in
      record { reading = reading; stands = stands }
